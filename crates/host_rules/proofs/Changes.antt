-- The changes of a state: each keeps regular states, and what an observer sees.
use Rattle.std.proofs.Common.{◌≡◌, ℕ, ◌+◌, ◌≤◌, ◌⊎◌, Bool, true, false, ◌&&◌, ◌||◌, List, [], ◌∷◌, ◌++◌, Contains, Option, Some, None, drop, inl, inr, ⊎_elim, refl, sym, ◌∙◌, ap, subst, arith}
use Rattle.std.proofs.lemmas.Bool.Decides.{Decides-eqb}
use Rattle.std.proofs.lemmas.List.Elements.{Contains-append_left, Contains-append_right, Contains-push_cases}
use Rattle.facet_list.specs.Store.{Write}
use Rattle.host_rules.specs.Rules.{Rules, IsOrdered, clearance}
use Rattle.host_rules.specs.States.{Request, Serving, Activation, State, Serves, keep, push, leave, count_turn, count_request, same_request, answer}
use Rattle.host_rules.specs.Regular.{IsTaken, IsRegular}
use Rattle.host_rules.specs.Views.{Same}
use Rattle.host_rules.proofs.SetAt.{at_set, hidden_set, same_set}
use Rattle.host_rules.proofs.Stores as stores

-- a visible label is not a hidden one
pub apart : {A : Type 0} (P : Rules) (o k l : ℕ) → P.flows k o ≡ true → P.flows l o ≡ false → k ≡ l → A
apart P o k l seen hidden e = let h : true ≡ false = sym seen ∙ ap (λ k. P.flows k o) e ∙ hidden in absurd (differ h)
  where
    differ : true ≡ false → ⊥
    differ h = cc

pub none_some : {A : Type 0} {x : Serving} → None ≡ Some x → A
none_some {A} {x} e = absurd (subst (λ o. is_none o) e tt)
  where
    is_none : Option Serving → Type 0
    is_none None = Unit {0}
    is_none (Some x) = ⊥

pub some_same : (x y : Serving) (o : Option Serving) → o ≡ Some x → o ≡ Some y → x ≡ y
some_same x y o e f = inject (sym e ∙ f)
  where
    got : Option Serving → Serving
    got None = x
    got (Some z) = z

    inject : Some x ≡ Some y → x ≡ y
    inject h = ap got h

module _ {T : Type 0} where
  -- members after a change of the lists
  in_list : (s : State T) (l : ℕ) (a : Activation T) (m : ℕ) (b : Activation T) → Contains ((push s l a).lists m) b → Contains (s.lists m) b ⊎ ((m ≡ l) × (b ≡ a))
  in_list s l a m b h = at_set (λ (v : List (Activation T)). Contains v b → Contains (s.lists m) b ⊎ ((m ≡ l) × (b ≡ a))) s.lists l (s.lists l ++ a ∷ []) m
      (λ e k. ⊎_elim (λ old. inl (subst (λ l. Contains (s.lists l) b) (sym e) old)) (λ new. inr (e, sym new)) (Contains-push_cases (s.lists l) a b k))
      (λ k. inl k) h

  in_push : (s : State T) (l : ℕ) (a : Activation T) (m : ℕ) (x : Serving) → Serves (push s l a) m x → Serves s m x ⊎ ((m ≡ l) × (a.serves ≡ Some x))
  in_push s l a m x h = ⊎_elim (λ old. inl (record { activation = h.activation; listed = old; serves = h.serves }))
      (λ new. inr (new.0, ap (λ (z : Activation T). z.serves) (sym new.1) ∙ h.serves)) (in_list s l a m h.activation h.listed)

  pub kept_push : (s : State T) (l : ℕ) (a : Activation T) (m : ℕ) (b : Activation T) → Contains (s.lists m) b → Contains ((push s l a).lists m) b
  kept_push s l a m b h = at_set (λ (v : List (Activation T)). Contains v b) s.lists l (s.lists l ++ a ∷ []) m
      (λ e. Contains-append_left (s.lists l) (a ∷ []) b (subst (λ m. Contains (s.lists m) b) e h)) h

  in_rest : (xs : List (Activation T)) (b : Activation T) → Contains (drop 1 xs) b → Contains xs b
  in_rest [] b h = h
  in_rest (y ∷ xs) b h = Contains-append_right (y ∷ []) xs b h

  in_leave : (s : State T) (l m : ℕ) (x : Serving) → Serves (leave s l) m x → Serves s m x
  in_leave s l m x h = record {
    activation = h.activation;
    listed = at_set (λ (v : List (Activation T)). Contains v h.activation → Contains (s.lists m) h.activation) s.lists l (drop 1 (s.lists l)) m
        (λ e k. subst (λ l. Contains (s.lists l) h.activation) (sym e) (in_rest (s.lists l) h.activation k)) (λ k. k) h.listed;
    serves = h.serves;
  }

  module _ (P : Rules) where
    -- what one more activation at a label may serve
    pub record IsSound (s : State T) (l : ℕ) (serves : Option Serving) : Type 0 where
      pub taken : (x : Serving) → serves ≡ Some x → IsTaken s.requests x.request
      pub one_client : (x : Serving) → serves ≡ Some x → (m : ℕ) (y : Serving) → Serves s m y → x.request ≡ y.request → x ≡ y
      pub upwards : (x : Serving) → serves ≡ Some x → P.flows x.request.label l ≡ true

    pub sound_here : (s : State T) → IsRegular P s → (l : ℕ) (a : Activation T) → Contains (s.lists l) a → IsSound s l a.serves
    sound_here s regular l a h = record {
      taken = λ x f. regular.taken l x (record { activation = a; listed = h; serves = f });
      one_client = λ x f m y k e. regular.one_client l m x y (record { activation = a; listed = h; serves = f }) k e;
      upwards = λ x f. regular.upwards l x (record { activation = a; listed = h; serves = f });
    }

    pub sound_none : (s : State T) (l : ℕ) → IsSound s l None
    sound_none s l = record { taken = λ x e. none_some e; one_client = λ x e m y k f. none_some e; upwards = λ x e. none_some e }

    pub sound_leave : (s : State T) (l m : ℕ) (a : Option Serving) → IsSound s l a → IsSound (leave s m) l a
    sound_leave s l m a h = record { taken = h.taken; one_client = λ x f k y i e. h.one_client x f k y (in_leave s m k y i) e; upwards = h.upwards }

    pub sound_above : IsOrdered P → (s : State T) (l m : ℕ) (a : Option Serving) → P.flows l m ≡ true → IsSound s l a → IsSound s m a
    sound_above order s l m a flows h = record { taken = h.taken; one_client = h.one_client; upwards = λ x e. order.transitive x.request.label l m (h.upwards x e) flows }

    -- an arrival
    pub regular_push : (s : State T) (l : ℕ) (a : Activation T) → IsRegular P s → IsSound s l a.serves → IsRegular P (push s l a)
    regular_push s l a r so = record {
      taken = λ m x h. ⊎_elim (λ old. r.taken m x old) (λ new. so.taken x new.1) (in_push s l a m x h);
      answered = r.answered;
      one_client = λ m n x y h k e. ⊎_elim
          (λ old. ⊎_elim (λ old'. r.one_client m n x y old old' e) (λ new'. sym (so.one_client y new'.1 m x old (sym e))) (in_push s l a n y k))
          (λ new. ⊎_elim (λ old'. so.one_client x new.1 n y old' e) (λ new'. some_same x y a.serves new.1 new'.1) (in_push s l a n y k))
          (in_push s l a m x h);
      upwards = λ m x h. ⊎_elim (λ old. r.upwards m x old) (λ new. subst (λ m. P.flows x.request.label m ≡ true) (sym new.0) (so.upwards x new.1)) (in_push s l a m x h);
    }

    -- the front activation leaves
    pub regular_leave : (s : State T) (l : ℕ) → IsRegular P s → IsRegular P (leave s l)
    regular_leave s l r = record {
      taken = λ m x h. r.taken m x (in_leave s l m x h);
      answered = r.answered;
      one_client = λ m n x y h k. r.one_client m n x y (in_leave s l m x h) (in_leave s l n y k);
      upwards = λ m x h. r.upwards m x (in_leave s l m x h);
    }

    -- a write, and a turn that is counted
    pub regular_keep : (s : State T) (x : Write) → IsRegular P s → IsRegular P (keep s x)
    regular_keep s x h = record { taken = λ l x k. h.taken l x (past l x k); answered = h.answered; one_client = λ l m x y k i. h.one_client l m x y (past l x k) (past m y i); upwards = λ l x k. h.upwards l x (past l x k) }
      where
        past : (l : ℕ) (y : Serving) → Serves (keep s x) l y → Serves s l y
        past l y k = record { activation = k.activation; listed = k.listed; serves = k.serves }

    pub regular_turn : (s : State T) (c : ℕ) → IsRegular P s → IsRegular P (count_turn s c)
    regular_turn s c h = record { taken = λ l x k. h.taken l x (past l x k); answered = h.answered; one_client = λ l m x y k i. h.one_client l m x y (past l x k) (past m y i); upwards = λ l x k. h.upwards l x (past l x k) }
      where
        past : (l : ℕ) (y : Serving) → Serves (count_turn s c) l y → Serves s l y
        past l y k = record { activation = k.activation; listed = k.listed; serves = k.serves }

    -- a request is counted
    taken_more : (s : State T) (c : ℕ) (r : Request) → IsTaken s.requests r → IsTaken (count_request s c).requests r
    taken_more s c r h = record {
      from_one = h.from_one;
      to_last = at_set (λ n. r.number ≤ n) s.requests c (s.requests c + 1) r.label (λ e. (let b : r.number ≤ s.requests c = subst (λ k. r.number ≤ s.requests k) e h.to_last in omega arith)) h.to_last;
    }

    past_request : (s : State T) (c l : ℕ) (y : Serving) → Serves (count_request s c) l y → Serves s l y
    past_request s c l y k = record { activation = k.activation; listed = k.listed; serves = k.serves }

    pub regular_request : (s : State T) (c : ℕ) → IsRegular P s → IsRegular P (count_request s c)
    regular_request s c h = record {
      taken = λ l x k. taken_more s c x.request (h.taken l x (past_request s c l x k));
      answered = λ r g. taken_more s c r (h.answered r g);
      one_client = λ l m x y k i. h.one_client l m x y (past_request s c l x k) (past_request s c m y i);
      upwards = λ l x k. h.upwards l x (past_request s c l x k);
    }

    -- what a change of one label's part shows
    module _ (o : ℕ) where
      pub hidden_push : (s : State T) (l : ℕ) (a : Activation T) → P.flows l o ≡ false → Same P o (push s l a) s
      hidden_push s l a hidden = record {
        store = refl;
        lists = λ k seen. hidden_set s.lists l (s.lists l ++ a ∷ []) k (apart P o k l seen hidden);
        turns = λ k seen. refl;
        requests = λ k seen. refl;
        answered = λ k x seen h g. refl;
      }

      pub seen_push : (s t : State T) (l : ℕ) (a : Activation T) → Same P o s t
          → ((x : Serving) → a.serves ≡ Some x → P.flows (clearance P x.client) o ≡ true → s.answered x.request ≡ t.answered x.request) → Same P o (push s l a) (push t l a)
      seen_push s t l a same alike = record {
        store = same.store;
        lists = λ k seen. same_set s.lists t.lists l (s.lists l ++ a ∷ []) (t.lists l ++ a ∷ []) k
            (λ e. ap (λ xs. xs ++ a ∷ []) (same.lists l (ap (λ k. P.flows k o) (sym e) ∙ seen))) (same.lists k seen);
        turns = same.turns;
        requests = same.requests;
        answered = λ k x seen h g. ⊎_elim (λ old. same.answered k x seen old g) (λ new. alike x new.1 g) (in_push s l a k x h);
      }

      pub hidden_leave : (s : State T) (l : ℕ) → P.flows l o ≡ false → Same P o (leave s l) s
      hidden_leave s l hidden = record {
        store = refl;
        lists = λ k seen. hidden_set s.lists l (drop 1 (s.lists l)) k (apart P o k l seen hidden);
        turns = λ k seen. refl;
        requests = λ k seen. refl;
        answered = λ k x seen h g. refl;
      }

      pub seen_leave : (s t : State T) (l : ℕ) → Same P o s t → Same P o (leave s l) (leave t l)
      seen_leave s t l same = record {
        store = same.store;
        lists = λ k seen. same_set s.lists t.lists l (drop 1 (s.lists l)) (drop 1 (t.lists l)) k
            (λ e. ap (drop 1) (same.lists l (ap (λ k. P.flows k o) (sym e) ∙ seen))) (same.lists k seen);
        turns = same.turns;
        requests = same.requests;
        answered = λ k x seen h. same.answered k x seen (in_leave s l k x h);
      }

      pub hidden_keep : (s : State T) (x : Write) → P.flows x.label o ≡ false → Same P o (keep s x) s
      hidden_keep s x hidden = record {
        store = stores.hidden_push P o s.store x hidden;
        lists = λ k seen. refl;
        turns = λ k seen. refl;
        requests = λ k seen. refl;
        answered = λ k x seen h g. refl;
      }

      pub seen_keep : (s t : State T) (x : Write) → P.flows x.label o ≡ true → Same P o s t → Same P o (keep s x) (keep t x)
      seen_keep s t x seen same = record {
        store = stores.seen_push P o s.store t.store x seen same.store;
        lists = same.lists;
        turns = same.turns;
        requests = same.requests;
        answered = λ k y seen h. same.answered k y seen (record { activation = h.activation; listed = h.listed; serves = h.serves });
      }

      pub hidden_turn : (s : State T) (c : ℕ) → P.flows c o ≡ false → Same P o (count_turn s c) s
      hidden_turn s c hidden = record {
        store = refl;
        lists = λ k seen. refl;
        turns = λ k seen. hidden_set s.turns c (s.turns c + 1) k (apart P o k c seen hidden);
        requests = λ k seen. refl;
        answered = λ k x seen h g. refl;
      }

      pub seen_turn : (s t : State T) (c : ℕ) → Same P o s t → Same P o (count_turn s c) (count_turn t c)
      seen_turn s t c same = record {
        store = same.store;
        lists = same.lists;
        turns = λ k seen. same_set s.turns t.turns c (s.turns c + 1) (t.turns c + 1) k
            (λ e. ap (λ n. n + 1) (same.turns c (ap (λ k. P.flows k o) (sym e) ∙ seen))) (same.turns k seen);
        requests = same.requests;
        answered = λ k y seen h. same.answered k y seen (record { activation = h.activation; listed = h.listed; serves = h.serves });
      }

      pub hidden_request : (s : State T) (c : ℕ) → P.flows c o ≡ false → Same P o (count_request s c) s
      hidden_request s c hidden = record {
        store = refl;
        lists = λ k seen. refl;
        turns = λ k seen. refl;
        requests = λ k seen. hidden_set s.requests c (s.requests c + 1) k (apart P o k c seen hidden);
        answered = λ k x seen h g. refl;
      }

      pub seen_request : (s t : State T) (c : ℕ) → Same P o s t → Same P o (count_request s c) (count_request t c)
      seen_request s t c same = record {
        store = same.store;
        lists = same.lists;
        turns = same.turns;
        requests = λ k seen. same_set s.requests t.requests c (s.requests c + 1) (t.requests c + 1) k
            (λ e. ap (λ n. n + 1) (same.requests c (ap (λ k. P.flows k o) (sym e) ∙ seen))) (same.requests k seen);
        answered = λ k y seen h. same.answered k y seen (past_request s c k y h);
      }

-- the request with this label and number
abbrev request_at : ℕ → ℕ → Request
request_at l n = record { label = l; number = n }

second : (a b : Bool) → (a && b) ≡ true → b ≡ true
second true b h = h
second false b h = cc

first : (a b : Bool) → (a && b) ≡ true → a ≡ true
first true b h = refl
first false b h = h

request_same : (r q : Request) → same_request r q ≡ true → r ≡ q
request_same r q h = pair ((Decides-eqb r.label q.label).0 (first _ _ h)) ((Decides-eqb r.number q.number).0 (second _ _ h))
  where
    pair : r.label ≡ q.label → r.number ≡ q.number → r ≡ q
    pair e f = ap (λ l. request_at l r.number) e ∙ ap (λ n. request_at q.label n) f

or_either : (a b : Bool) → (a || b) ≡ true → (a ≡ true) ⊎ (b ≡ true)
or_either true b h = inl refl
or_either false b h = inr h

module _ {T : Type 0} (P : Rules) where
  past_answer : (s : State T) (q : Request) (l : ℕ) (y : Serving) → Serves (answer s q) l y → Serves s l y
  past_answer s q l y k = record { activation = k.activation; listed = k.listed; serves = k.serves }

  -- a request is answered
  pub regular_answer : (s : State T) (q : Request) → IsRegular P s → IsTaken s.requests q → IsRegular P (answer s q)
  regular_answer s q h so = record {
    taken = λ l x k. h.taken l x (past_answer s q l x k);
    answered = λ r g. ⊎_elim (λ e. subst (IsTaken s.requests) (sym (request_same r q e)) so) (λ e. h.answered r e) (or_either (same_request r q) (s.answered r) g);
    one_client = λ l m x y k i. h.one_client l m x y (past_answer s q l x k) (past_answer s q m y i);
    upwards = λ l x k. h.upwards l x (past_answer s q l x k);
  }

  -- where the client is hidden, no activation of the request has a client who is visible
  pub hidden_answer : (o : ℕ) (s : State T) (x : Serving) → ((m : ℕ) (y : Serving) → Serves s m y → x.request ≡ y.request → x ≡ y)
      → P.flows (clearance P x.client) o ≡ false → Same P o (answer s x.request) s
  hidden_answer o s x kin hidden = record {
    store = refl;
    lists = λ k seen. refl;
    turns = λ k seen. refl;
    requests = λ k seen. refl;
    answered = λ k y seen h g.
        elim (same_request y.request x.request) as (λ t. same_request y.request x.request ≡ t → (t || s.answered y.request) ≡ s.answered y.request) [
          | true ↦ λ f. apart P o (clearance P y.client) (clearance P x.client) g hidden (ap (λ (z : Serving). clearance P z.client) (sym (kin k y (past_answer s x.request k y h) (sym (request_same y.request x.request f)))))
          | false ↦ λ f. refl
        ] refl;
  }

  pub seen_answer : (o : ℕ) (s t : State T) (q : Request) → Same P o s t → Same P o (answer s q) (answer t q)
  seen_answer o s t q same = record {
    store = same.store;
    lists = same.lists;
    turns = same.turns;
    requests = same.requests;
    answered = λ k x seen h g. ap (λ t. same_request x.request q || t) (same.answered k x seen (past_answer s q k x h) g);
  }
