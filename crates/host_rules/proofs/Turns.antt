-- Turns, and each other step.
use Rattle.std.proofs.Common.{◌≡◌, ℕ, ◌+◌, ◌≤◌, true, false, cond, List, [], ◌∷◌, Option, Some, None, Contains, refl, sym, ◌∙◌, ap, subst, arith}
use Rattle.std.specs.Prelude.{◌==◌, nat_le}
use Rattle.std.proofs.lemmas.Bool.Decides.{Decides-eqb}
use Rattle.std.proofs.lemmas.List.Elements.{Contains-append_left, Contains-push}
use Rattle.trapeze_lines.specs.declared.line.Kind.TheVariants as kind
use Rattle.trapeze_lines.specs.declared.outcome.Cause.TheVariants.{Pages, Fuel}
use Rattle.trapeze_lines.specs.declared.outcome.Outcome.{Outcome}
use Rattle.trapeze_lines.specs.declared.outcome.Outcome.TheVariants as outcome
use Rattle.trapeze_lines.specs.Lines.{line_at}
use Rattle.event_file.specs.declared.entry.Event.TheVariants.{Put, Ask, Turn}
use Rattle.facet_list.specs.Store.{written}
use Rattle.host_rules.specs.Guests.{Guest}
use Rattle.host_rules.specs.Rules.{Rules, IsOrdered, limits_at, function_name}
use Rattle.host_rules.specs.States.{Request, Serving, Activation, fresh, State, push, leave, count_turn, count_request, Item, Happens, Out, still, id_of}
use Rattle.host_rules.specs.Effects.{arrive}
use Rattle.host_rules.specs.Turns.{End, Ended, Trapped, Raised, Spent, stint, given, ends, closing, run, run_from, turn_of, turn}
use Rattle.host_rules.specs.Play.{ask, step}
use Rattle.host_rules.specs.Regular.{IsTaken, IsRegular}
use Rattle.host_rules.specs.Views.{item_label, Same}
use Rattle.host_rules.proofs.Changes.{some_same, IsSound, sound_here, sound_leave, sound_above, regular_push, hidden_push, seen_push, regular_leave, hidden_leave, seen_leave, regular_turn, hidden_turn, seen_turn, regular_request, hidden_request, seen_request}
use Rattle.host_rules.proofs.SameToObserver.{hidden_above, hidden_line, Agree, same_refl, same_trans, agree_branch, agree_move, Follows, follows_quiet, follows_next, follows_branch}
use Rattle.host_rules.proofs.Effects.{alike_here, any_arrive, seen_write, any_let_in, arrive_follows, write_follows, let_in_follows}
use Rattle.host_rules.proofs.Stints.{IsAbove, good_stint, hidden_stint, Between, seen_stint}

module _ {T : Type 0} (P : Rules) (order : IsOrdered P) (M : Guest T) (o : ℕ) where
  -- an activation leaves
  hidden_ends : (c number : ℕ) (a : Activation T) (how : Outcome) (s : State T) → P.flows c o ≡ false → IsRegular P s → Agree P o (ends P c number a how s) (still s)
  hidden_ends c number a how s hidden regular = record {
    same = hidden_leave P o s c hidden;
    left = regular_leave P s c regular;
    right = regular;
    lines = hidden_line P o (line_at c (kind.Turn number (function_name P a.function) (id_of a) how)) hidden;
  }

  seen_ends : (c number : ℕ) (a : Activation T) (how : Outcome) (s t : State T) → Same P o s t → IsRegular P s → IsRegular P t → Agree P o (ends P c number a how s) (ends P c number a how t)
  seen_ends c number a how s t same left right = record { same = seen_leave P o s t c same; left = regular_leave P s c left; right = regular_leave P t c right; lines = refl }

  -- it leaves, and may arrive at a label above, or at the same
  sound_moved : (s : State T) (c l : ℕ) (a : Activation T) → P.flows c l ≡ true → IsRegular P s → Contains (s.lists c) a → IsSound P (leave s c) l a.serves
  sound_moved s c l a up regular here = sound_above P order (leave s c) c l a.serves up (sound_leave P s c c a.serves (sound_here P s regular c a here))

  hidden_closing : (c number : ℕ) (a : Activation T) (n : ℕ) (end : End T) (s : State T) → P.flows c o ≡ false → IsRegular P s → Contains (s.lists c) a → IsAbove P order M c a end
      → Follows P o M (closing P c number a n end s) s
  hidden_closing c number a n Ended s hidden regular here above = follows_quiet P o M _ s refl (hidden_ends c number a outcome.Ended s hidden regular)
  hidden_closing c number a n (Trapped cause) s hidden regular here above = follows_quiet P o M _ s refl (hidden_ends c number a (outcome.Trapped cause) s hidden regular)
  hidden_closing c number a n (Raised l t) s hidden regular here above =
      let next : Activation T = record a { thread = Some t } in
      follows_next P o M (ends P c number a outcome.Raised s) (arrive P l c next (leave s c)) s
      (follows_quiet P o M _ s refl (hidden_ends c number a outcome.Raised s hidden regular))
      (arrive_follows P o M l c next (leave s c) (hidden_above P order o c l above hidden) (regular_leave P s c regular) (sound_moved s c l a above regular here))
  hidden_closing c number a n (Spent t) s hidden regular here above =
      let next : Activation T = record a { thread = Some t; used = a.used + n } in
      follows_branch P o M (a.used + n == (limits_at P c).fuel) _ _ s
      (follows_quiet P o M _ s refl (hidden_ends c number a (outcome.Trapped Fuel) s hidden regular))
      (follows_quiet P o M _ s refl (record {
        same = same_trans P o (push (leave s c) c next) (leave s c) s (hidden_push P o (leave s c) c next hidden) (hidden_leave P o s c hidden);
        left = regular_push P (leave s c) c next (regular_leave P s c regular) (sound_moved s c c a (order.reflexive c) regular here);
        right = regular;
        lines = hidden_line P o (line_at c (kind.Turn number (function_name P a.function) (id_of a) outcome.Waits)) hidden;
      }))

  seen_closing : (c number : ℕ) (a : Activation T) (n : ℕ) (end : End T) (s t : State T) → P.flows c o ≡ true → Between P order M c a o s t → IsAbove P order M c a end
      → Agree P o (closing P c number a n end s) (closing P c number a n end t)
  seen_closing c number a n Ended s t seen b above = seen_ends c number a outcome.Ended s t b.same b.left b.right
  seen_closing c number a n (Trapped cause) s t seen b above = seen_ends c number a (outcome.Trapped cause) s t b.same b.left b.right
  seen_closing c number a n (Raised l k) s t seen b above =
      let next : Activation T = record a { thread = Some k } in
      agree_move P o (ends P c number a outcome.Raised s) (ends P c number a outcome.Raised t) (arrive P l c next (leave s c)) (arrive P l c next (leave t c)) refl
      (any_arrive P o l c next (leave s c) (leave t c) (seen_leave P o s t c b.same) (regular_leave P s c b.left) (regular_leave P t c b.right)
      (sound_moved s c l a above b.left b.here) (sound_moved t c l a above b.right b.there) (alike_here P o c a s t seen b.same b.here))
  seen_closing c number a n (Spent k) s t seen b above =
      let next : Activation T = record a { thread = Some k; used = a.used + n } in
      agree_branch P o (a.used + n == (limits_at P c).fuel) (a.used + n == (limits_at P c).fuel) _ _ _ _ refl
      (seen_ends c number a (outcome.Trapped Fuel) s t b.same b.left b.right)
      (record {
        same = seen_push P o (leave s c) (leave t c) c next (seen_leave P o s t c b.same) (alike_here P o c a s t seen b.same b.here);
        left = regular_push P (leave s c) c next (regular_leave P s c b.left) (sound_moved s c c a (order.reflexive c) b.left b.here);
        right = regular_push P (leave t c) c next (regular_leave P t c b.right) (sound_moved t c c a (order.reflexive c) b.right b.there);
        lines = refl;
      })

  hidden_run : (c number : ℕ) (a : Activation T) (t : T) (s : State T) → P.flows c o ≡ false → IsRegular P s → Contains (s.lists c) a → Follows P o M (run P M c number a t s) s
  hidden_run c number a t s hidden regular here =
      let r = stint P M c a (given P c a) t s in
      let first = hidden_stint P order M c a o hidden (given P c a) t s regular here in
      let good = good_stint P order M c a (given P c a) t s here in
      follows_next P o M r.moved (closing P c number a (given P c a) r.end r.moved.state) s first
      (hidden_closing c number a (given P c a) r.end r.moved.state hidden first.regular good.kept good.above)

  seen_run : (c number : ℕ) (a : Activation T) (k : T) (s t : State T) → P.flows c o ≡ true → Between P order M c a o s t → Agree P o (run P M c number a k s) (run P M c number a k t)
  seen_run c number a k s t seen b =
      let n = given P c a in
      let x = stint P M c a n k s in
      let y = stint P M c a n k t in
      let first = seen_stint P order M c a o seen n k s t b in
      let good = good_stint P order M c a n k s b.here in
      let good' = good_stint P order M c a n k t b.there in
      agree_move P o x.moved y.moved (closing P c number a n x.end x.moved.state) (closing P c number a n y.end y.moved.state) first.moved.lines
      (subst (λ end. Agree P o (closing P c number a n x.end x.moved.state) (closing P c number a n end y.moved.state)) first.end
      (seen_closing c number a n x.end x.moved.state y.moved.state seen
      (record { same = first.moved.same; left = first.moved.left; right = first.moved.right; here = good.kept; there = good'.kept }) good.above))

  hidden_from : (c number : ℕ) (a : Activation T) (thread : Option T) (s : State T) → P.flows c o ≡ false → IsRegular P s → Contains (s.lists c) a → Follows P o M (run_from P M c number a thread s) s
  hidden_from c number a (Some t) s hidden regular here = hidden_run c number a t s hidden regular here
  hidden_from c number a None s hidden regular here = follows_branch P o M (nat_le (M.minimum a.function) (limits_at P c).pages) _ _ s
      (hidden_run c number a (M.begin a.function) s hidden regular here)
      (hidden_closing c number a 0 (Trapped Pages) s hidden regular here tt)

  seen_from : (c number : ℕ) (a : Activation T) (thread : Option T) (s t : State T) → P.flows c o ≡ true → Between P order M c a o s t → Agree P o (run_from P M c number a thread s) (run_from P M c number a thread t)
  seen_from c number a (Some k) s t seen b = seen_run c number a k s t seen b
  seen_from c number a None s t seen b = agree_branch P o (nat_le (M.minimum a.function) (limits_at P c).pages) (nat_le (M.minimum a.function) (limits_at P c).pages) _ _ _ _ refl
      (seen_run c number a (M.begin a.function) s t seen b)
      (seen_closing c number a 0 (Trapped Pages) s t seen b tt)

  -- the front is a member of its list
  head_in : (xs : List (Activation T)) (a : Activation T) (others : List (Activation T)) → xs ≡ a ∷ others → Contains xs a
  head_in xs a others e = subst (λ xs. Contains xs a) (sym e) (Contains-append_left (a ∷ []) others a (Contains-push [] a))

  hidden_front : (c number : ℕ) (s : State T) (xs : List (Activation T)) → s.lists c ≡ xs → P.flows c o ≡ false → IsRegular P s → Follows P o M (turn_of P M c number xs s) s
  hidden_front c number s [] e hidden regular = follows_quiet P o M _ s refl (record { same = same_refl P o s; left = regular; right = regular; lines = hidden_line P o (line_at c (kind.Idle number)) hidden })
  hidden_front c number s (a ∷ others) e hidden regular = hidden_from c number a a.thread s hidden regular (head_in (s.lists c) a others e)

  seen_front : (c number : ℕ) (s t : State T) (xs : List (Activation T)) → s.lists c ≡ xs → t.lists c ≡ xs → P.flows c o ≡ true → Same P o s t → IsRegular P s → IsRegular P t
      → Agree P o (turn_of P M c number xs s) (turn_of P M c number xs t)
  seen_front c number s t [] e f seen same left right = record { same = same; left = left; right = right; lines = refl }
  seen_front c number s t (a ∷ others) e f seen same left right = seen_from c number a a.thread s t seen
      (record { same = same; left = left; right = right; here = head_in (s.lists c) a others e; there = head_in (t.lists c) a others f })

  hidden_turns : (c : ℕ) (s : State T) → P.flows c o ≡ false → IsRegular P s → Follows P o M (turn P M c s) s
  hidden_turns c s hidden regular =
      follows_next P o M (still (count_turn s c)) (turn P M c s) s
      (follows_quiet P o M _ s refl (record { same = hidden_turn P o s c hidden; left = regular_turn P s c regular; right = regular; lines = refl }))
      (hidden_front c (s.turns c + 1) (count_turn s c) (s.lists c) refl hidden (regular_turn P s c regular))

  seen_turns : (c : ℕ) (s t : State T) → P.flows c o ≡ true → Same P o s t → IsRegular P s → IsRegular P t → Agree P o (turn P M c s) (turn P M c t)
  seen_turns c s t seen same left right =
      subst (λ n. Agree P o (turn P M c s) (turn_of P M c (n + 1) (t.lists c) (count_turn t c))) (same.turns c seen)
      (subst (λ xs. Agree P o (turn P M c s) (turn_of P M c (s.turns c + 1) xs (count_turn t c))) (same.lists c seen)
      (seen_front c (s.turns c + 1) (count_turn s c) (count_turn t c) (s.lists c) refl (sym (same.lists c seen)) seen (seen_turn P o s t c same) (regular_turn P s c left) (regular_turn P t c right)))

  -- a request that is new
  abbrev new_request : State T → ℕ → ℕ → List ℕ → Serving
  new_request s c client id = record { request = record { label = c; number = s.requests c + 1 }; client = client; id = id }

  new_taken : (s : State T) (c client : ℕ) (id : List ℕ) → IsTaken (count_request s c).requests (new_request s c client id).request
  new_taken s c client id = record {
    from_one = omega arith;
    to_last = subst (λ b. s.requests c + 1 ≤ cond b (s.requests c + 1) (s.requests c)) (sym ((Decides-eqb c c).1 refl)) (omega arith);
  }

  not_taken : {A : Type 0} (s : State T) (c client : ℕ) (id : List ℕ) (r : Request) → r ≡ (new_request s c client id).request → IsTaken s.requests r → A
  not_taken s c client id r e h =
      let low : s.requests c + 1 ≤ s.requests c = subst (λ (r : Request). r.number ≤ s.requests r.label) e h.to_last in
      absurd (never (s.requests c) low)
    where
      never : (n : ℕ) → n + 1 ≤ n → ⊥
      never n h = omega arith

  not_answered : (s : State T) (c client : ℕ) (id : List ℕ) → IsRegular P s → s.answered (new_request s c client id).request ≡ false
  not_answered s c client id regular = elim (s.answered (new_request s c client id).request) as (λ b. s.answered (new_request s c client id).request ≡ b → b ≡ false) [
    | true ↦ λ e. not_taken s c client id (new_request s c client id).request refl (regular.answered (new_request s c client id).request e)
    | false ↦ λ e. refl
  ] refl

  new_sound : (s : State T) (c client : ℕ) (id : List ℕ) → IsRegular P s → IsSound P (count_request s c) c (Some (new_request s c client id))
  new_sound s c client id regular = record {
    taken = λ x e. subst (λ (x : Serving). IsTaken (count_request s c).requests x.request) (is x e) (new_taken s c client id);
    one_client = λ x e m y h r. not_taken s c client id y.request (sym r ∙ sym (ap (λ (z : Serving). z.request) (is x e)))
        (regular.taken m y (record { activation = h.activation; listed = h.listed; serves = h.serves }));
    upwards = λ x e. ap (λ (z : Serving). P.flows z.request.label c) (sym (is x e)) ∙ order.reflexive c;
  }
    where
      is : (x : Serving) → Some (new_request s c client id) ≡ Some x → new_request s c client id ≡ x
      is x e = some_same (new_request s c client id) x (Some (new_request s c client id)) refl e

  hidden_ask : (c client function : ℕ) (id body : List ℕ) (s : State T) → P.flows c o ≡ false → IsRegular P s → Follows P o M (ask P c client function id body s) s
  hidden_ask c client function id body s hidden regular =
      let a : Activation T = fresh function body (Some (new_request s c client id)) in
      follows_next P o M (still (count_request s c)) (arrive P c c a (count_request s c)) s
      (follows_quiet P o M _ s refl (record { same = hidden_request P o s c hidden; left = regular_request P s c regular; right = regular; lines = refl }))
      (arrive_follows P o M c c a (count_request s c) hidden (regular_request P s c regular) (new_sound s c client id regular))

  seen_ask : (c client function : ℕ) (id body : List ℕ) (s t : State T) → P.flows c o ≡ true → Same P o s t → IsRegular P s → IsRegular P t
      → Agree P o (ask P c client function id body s) (ask P c client function id body t)
  seen_ask c client function id body s t seen same left right =
      let new = new_request s c client id in
      let e : s.requests c ≡ t.requests c = same.requests c seen in
      subst (λ x. Agree P o (ask P c client function id body s) (arrive P c c (fresh function body (Some x)) (count_request t c))) (renumbered e)
      (any_arrive P o c c (fresh function body (Some new)) (count_request s c) (count_request t c) (seen_request P o s t c same) (regular_request P s c left) (regular_request P t c right)
      (new_sound s c client id left)
      (subst (λ x. IsSound P (count_request t c) c (Some x)) (sym (renumbered e)) (new_sound t c client id right))
      (λ x f h. subst (λ (x : Serving). s.answered x.request ≡ t.answered x.request) (some_same new x (Some new) refl f)
      (not_answered s c client id left ∙ sym (ap (λ (z : Serving). t.answered z.request) (renumbered e) ∙ not_answered t c client id right))))
    where
      numbered : ℕ → Serving
      numbered n = record { request = record { label = c; number = n + 1 }; client = client; id = id }

      renumbered : s.requests c ≡ t.requests c → new_request s c client id ≡ new_request t c client id
      renumbered e = ap numbered e

  -- an item that is hidden shows what its visible releases show
  pub hidden_step : (i : Item) (s : State T) → P.flows (item_label i) o ≡ false → IsRegular P s → Follows P o M (step P M s i) s
  hidden_step (Happens (Put label key value)) s hidden regular = write_follows P o M (written label.number key value) s hidden regular
  hidden_step (Happens (Ask label client function id body)) s hidden regular = hidden_ask label.number client function id body s hidden regular
  hidden_step (Happens (Turn label)) s hidden regular = hidden_turns label.number s hidden regular
  hidden_step (Out gate bytes) s hidden regular = let_in_follows P o M gate bytes s hidden regular

  -- an item that is visible does the same
  pub seen_step : (i : Item) (s t : State T) → P.flows (item_label i) o ≡ true → Same P o s t → IsRegular P s → IsRegular P t → Agree P o (step P M s i) (step P M t i)
  seen_step (Happens (Put label key value)) s t seen same left right = seen_write P o (written label.number key value) s t seen same left right
  seen_step (Happens (Ask label client function id body)) s t seen same left right = seen_ask label.number client function id body s t seen same left right
  seen_step (Happens (Turn label)) s t seen same left right = seen_turns label.number s t seen same left right
  seen_step (Out gate bytes) s t seen same left right = any_let_in P o gate bytes s t same left right
