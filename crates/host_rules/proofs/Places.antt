-- What stands in the place of the running activation changes nothing: a stint from two states that differ there alone gives the same lines, and its end the same state.
use Rattle.std.proofs.Common.{◌≡◌, ℕ, zero, suc, ◌+◌, ◌<◌, ⊎_elim, Bool, true, false, cond, List, [], ◌∷◌, ◌++◌, length, drop, Option, Some, None, refl, sym, ◌∙◌, ap, subst, arith, length-append}
use Rattle.std.specs.Prelude.{◌==◌, ◌||◌, ◌&&◌, not, ◌≢◌, nat_lt}
use Rattle.std.proofs.lemmas.Bool.{cases_eq}
use Rattle.std.proofs.lemmas.Bool.Decides.{Decides-eqb, not_from_Decides}
use Rattle.facet_list.specs.Store.{Write, written}
use Rattle.trapeze_lines.specs.declared.line.Line.{Line}
use Rattle.trapeze_lines.specs.declared.line.Kind.TheVariants as kind
use Rattle.trapeze_lines.specs.declared.outcome.Cause.TheVariants.{Fuel}
use Rattle.trapeze_lines.specs.declared.outcome.Outcome.TheVariants as outcome
use Rattle.trapeze_lines.specs.Lines.{line_at}
use Rattle.host_rules.specs.Guests.{OneUnit, Goes, Calls, Done, Traps, Guest}
use Rattle.host_rules.specs.Rules.{Rules, label_of, limits_at, function_name, client_name, clearance}
use Rattle.host_rules.specs.States.{Request, Serving, Activation, fresh, State, set_at, keep, push, leave, same_request, Item, Out, Moved, still, told, then_lines, then_move, id_of}
use Rattle.host_rules.specs.States as states
use Rattle.host_rules.specs.Stores.{fits}
use Rattle.host_rules.specs.Calls.{Effect, Nothing, AWrite, AMessage, AReply, ARelease, Called, Resumed, RaisedTo, Refused, shim}
use Rattle.host_rules.specs.Effects.{write, arrive, reply, apply}
use Rattle.host_rules.specs.Turns.{End, Ended, Trapped, Raised, Spent, Stint, after_call, after_unit, stint, given, turn_line, closing, run}
use Rattle.host_rules.specs.Bridges.{with_front, IsIndifferent}

module _ {T : Type 0} where
  long : (xs : List (Activation T)) → 0 < length xs → length xs ≡ suc (length (drop 1 xs))
  long [] h = absurd (omega arith)
  long (x ∷ xs) h = refl

  drop_push : (xs : List (Activation T)) (a : Activation T) → 0 < length xs → drop 1 (xs ++ a ∷ []) ≡ drop 1 xs ++ a ∷ []
  drop_push [] a h = absurd (omega arith)
  drop_push (x ∷ xs) a h = refl

  module _ (c : ℕ) where
    -- the states differ in the front of the list of c alone
    pub record IsBeside (s t : State T) : Type 0 where
      pub store : s.store ≡ t.store
      pub turns : s.turns ≡ t.turns
      pub requests : s.requests ≡ t.requests
      pub answered : s.answered ≡ t.answered
      pub others : (l : ℕ) → l ≢ c → s.lists l ≡ t.lists l
      pub rest : drop 1 (s.lists c) ≡ drop 1 (t.lists c)
      pub left : 0 < length (s.lists c)
      pub right : 0 < length (t.lists c)

    -- the same lines, the same releases, and states that differ there alone
    pub record AreTwins (m n : Moved T) : Type 0 where
      pub state : IsBeside m.state n.state
      pub lines : m.lines ≡ n.lines
      pub outs : m.outs ≡ n.outs

    same_length : (s t : State T) → IsBeside s t → (l : ℕ) → length (s.lists l) ≡ length (t.lists l)
    same_length s t h l = ⊎_elim
        (λ e. ap (λ l. length (s.lists l)) e ∙ long (s.lists c) h.left ∙ ap (λ (xs : List (Activation T)). suc (length xs)) h.rest ∙ sym (long (t.lists c) h.right) ∙ sym (ap (λ l. length (t.lists l)) e))
        (λ n. ap length (h.others l n)) (cases_eq l c)

    -- a place of the lists after one more activation
    at_push : (Q : List (Activation T) → Type 0) (s : State T) (l k : ℕ) (a : Activation T) → (k ≡ l → Q (s.lists k ++ a ∷ [])) → (k ≢ l → Q (s.lists k)) → Q ((push s l a).lists k)
    at_push Q s l k a h g = elim (k == l) as (λ b. (k == l) ≡ b → Q (cond b (s.lists l ++ a ∷ []) (s.lists k))) [
      | true ↦ λ e. subst (λ (xs : List (Activation T)). Q (xs ++ a ∷ [])) (ap s.lists ((Decides-eqb k l).0 e)) (h ((Decides-eqb k l).0 e))
      | false ↦ λ e. g (not_from_Decides (k == l) (Decides-eqb k l) e)
    ] refl

    same_push : (s t : State T) (l k : ℕ) (a : Activation T) (f : List (Activation T) → List (Activation T)) → f (s.lists k ++ a ∷ []) ≡ f (t.lists k ++ a ∷ []) → f (s.lists k) ≡ f (t.lists k)
        → f ((push s l a).lists k) ≡ f ((push t l a).lists k)
    same_push s t l k a f h g = elim (k == l) as (λ b. (k == l) ≡ b → f (cond b (s.lists l ++ a ∷ []) (s.lists k)) ≡ f (cond b (t.lists l ++ a ∷ []) (t.lists k))) [
      | true ↦ λ e. (let q = (Decides-eqb k l).0 e in sym (ap (λ k. f (s.lists k ++ a ∷ [])) q) ∙ h ∙ ap (λ k. f (t.lists k ++ a ∷ [])) q)
      | false ↦ λ e. g
    ] refl

    beside_push : (l : ℕ) (a : Activation T) (s t : State T) → IsBeside s t → IsBeside (push s l a) (push t l a)
    beside_push l a s t h = record {
      store = h.store;
      turns = h.turns;
      requests = h.requests;
      answered = h.answered;
      others = λ k n. same_push s t l k a (λ xs. xs) (ap (λ (xs : List (Activation T)). xs ++ a ∷ []) (h.others k n)) (h.others k n);
      rest = same_push s t l c a (drop 1) (drop_push (s.lists c) a h.left ∙ ap (λ (xs : List (Activation T)). xs ++ a ∷ []) h.rest ∙ sym (drop_push (t.lists c) a h.right)) h.rest;
      left = at_push (λ xs. 0 < length xs) s l c a (λ e. omega (arith, length-append (s.lists c) (a ∷ []))) (λ n. h.left);
      right = at_push (λ xs. 0 < length xs) t l c a (λ e. omega (arith, length-append (t.lists c) (a ∷ []))) (λ n. h.right);
    }

    twins_still : (s t : State T) → IsBeside s t → AreTwins (still s) (still t)
    twins_still s t h = record { state = h; lines = refl; outs = refl }

    twins_told : (x : Line) (s t : State T) → IsBeside s t → AreTwins (told x s) (told x t)
    twins_told x s t h = record { state = h; lines = refl; outs = refl }

    twins_branch : (b d : Bool) (m n p q : Moved T) → b ≡ d → AreTwins m p → AreTwins n q → AreTwins (cond b m n) (cond d p q)
    twins_branch b d m n p q e h k = subst (λ d. AreTwins (cond b m n) (cond d p q)) e (one b)
      where
        one : (b : Bool) → AreTwins (cond b m n) (cond b p q)
        one true = h
        one false = k

    twins_lines : (ls : List Line) (m n : Moved T) → AreTwins m n → AreTwins (then_lines ls m) (then_lines ls n)
    twins_lines ls m n h = record { state = h.state; lines = ap (λ xs. ls ++ xs) h.lines; outs = h.outs }

    twins_then : (m n p q : Moved T) → AreTwins m p → AreTwins n q → AreTwins (then_move m n) (then_move p q)
    twins_then m n p q h k = record {
      state = k.state;
      lines = ap (λ (ls : List Line). ls ++ n.lines) h.lines ∙ ap (λ (ls : List Line). p.lines ++ ls) k.lines;
      outs = ap (λ (os : List Item). os ++ n.outs) h.outs ∙ ap (λ (os : List Item). p.outs ++ os) k.outs;
    }

    module _ (P : Rules) where
      twins_arrive : (l m : ℕ) (a : Activation T) (s t : State T) → IsBeside s t → AreTwins (arrive P l m a s) (arrive P l m a t)
      twins_arrive l m a s t h = twins_branch _ _ _ _ _ _ (ap (λ n. nat_lt n (limits_at P l).queue) (same_length s t h l))
          (twins_told (line_at l (kind.Start (label_of m) (function_name P a.function) (id_of a))) (push s l (record a { used = 0 })) (push t l (record a { used = 0 })) (beside_push l (record a { used = 0 }) s t h))
          (twins_told (line_at l (kind.Dropped (function_name P a.function) (id_of a))) s t h)

      twins_write : (x : Write) (s t : State T) → IsBeside s t → AreTwins (write P x s) (write P x t)
      twins_write x s t h = twins_branch _ _ _ _ _ _ (ap (λ w. fits P w x) h.store)
          (twins_told (line_at x.label (kind.Write x.key x.value)) (keep s x) (keep t x)
          (record { store = ap (λ w. w ++ x ∷ []) h.store; turns = h.turns; requests = h.requests; answered = h.answered; others = h.others; rest = h.rest; left = h.left; right = h.right }))
          (twins_told (line_at x.label (kind.Full x.key)) s t h)

      twins_reply : (d : ℕ) (serves : Option Serving) (bytes : List ℕ) (s t : State T) → IsBeside s t → AreTwins (reply P d serves bytes s) (reply P d serves bytes t)
      twins_reply d None bytes s t h = twins_still s t h
      twins_reply d (Some x) bytes s t h = twins_branch _ _ _ _ _ _ (ap (λ (f : Request → Bool). P.flows d (clearance P x.client) && not (f x.request)) h.answered)
          (twins_told (line_at (clearance P x.client) (kind.Reply (client_name P x.client) x.id bytes)) (states.answer s x.request) (states.answer t x.request)
          (record { store = h.store; turns = h.turns; requests = h.requests; answered = ap (λ (f : Request → Bool). λ r. same_request r x.request || f r) h.answered; others = h.others; rest = h.rest; left = h.left; right = h.right }))
          (twins_still s t h)

      twins_apply : (d : ℕ) (a : Activation T) (e : Effect) (s t : State T) → IsBeside s t → AreTwins (apply P d a e s) (apply P d a e t)
      twins_apply d a Nothing s t h = twins_still s t h
      twins_apply d a (AWrite key value) s t h = twins_write (written d key value) s t h
      twins_apply d a (AMessage channel bytes) s t h = twins_branch (P.flows d channel.at.number) (P.flows d channel.at.number) _ _ _ _ refl
          (twins_arrive channel.at.number d (fresh channel.function bytes a.serves) s t h) (twins_still s t h)
      twins_apply d a (AReply bytes) s t h = twins_reply d a.serves bytes s t h
      twins_apply d a (ARelease gate bytes) s t h = twins_branch (P.flows d gate.source.number) (P.flows d gate.source.number) _ _ _ _ refl
          (let m = twins_arrive gate.target.number gate.source.number (fresh gate.function bytes None) s t h in record { state = m.state; lines = m.lines; outs = refl })
          (twins_still s t h)

      pub record AreTwinStints (r q : Stint T) : Type 0 where
        pub moved : AreTwins r.moved q.moved
        pub end : r.end ≡ q.end

      module _ (M : Guest T) (a : Activation T) where
        twins_call : (s t : State T) → IsBeside s t → (rest : T → State T → Stint T) → ((k : T) (s t : State T) → IsBeside s t → AreTwinStints (rest k s) (rest k t))
            → (r : Called T) → AreTwinStints (after_call P c a s rest r) (after_call P c a t rest r)
        twins_call s t h rest hyp (Resumed k lines effect) =
            let m = twins_lines lines (apply P c a effect s) (apply P c a effect t) (twins_apply c a effect s t h) in
            let r = hyp k (apply P c a effect s).state (apply P c a effect t).state m.state in
            record { moved = twins_then _ _ _ _ m r.moved; end = r.end }
        twins_call s t h rest hyp (RaisedTo l k) = record { moved = twins_still s t h; end = refl }
        twins_call s t h rest hyp (Refused cause) = record { moved = twins_still s t h; end = refl }

        twins_unit : (s t : State T) → IsBeside s t → (rest : T → State T → Stint T) → ((k : T) (s t : State T) → IsBeside s t → AreTwinStints (rest k s) (rest k t))
            → (u : OneUnit T) → AreTwinStints (after_unit P M c a s rest u) (after_unit P M c a t rest u)
        twins_unit s t h rest hyp (Goes k) = hyp k s t h
        twins_unit s t h rest hyp (Calls asked k) =
            subst (λ r. AreTwinStints (after_call P c a s rest (shim P M c a s.store asked k)) (after_call P c a t rest r)) (ap (λ (w : List Write). shim P M c a w asked k) h.store)
            (twins_call s t h rest hyp (shim P M c a s.store asked k))
        twins_unit s t h rest hyp Done = record { moved = twins_still s t h; end = refl }
        twins_unit s t h rest hyp (Traps cause) = record { moved = twins_still s t h; end = refl }

        twins_stint : (n : ℕ) (k : T) (s t : State T) → IsBeside s t → AreTwinStints (stint P M c a n k s) (stint P M c a n k t)
        twins_stint zero k s t h = record { moved = twins_still s t h; end = refl }
        twins_stint (suc n) k s t h = twins_unit s t h (λ k s. stint P M c a n k s) (λ k s t h. twins_stint n k s t h) (M.unit a.function (limits_at P c).pages k)

        -- the states are the same once the front is gone
        same_leave : (s t : State T) → IsBeside s t → leave s c ≡ leave t c
        same_leave s t h = λ i. record { store = h.store i; lists = λ k. at k i; turns = h.turns i; requests = h.requests i; answered = h.answered i }
          where
            at : (k : ℕ) → (leave s c).lists k ≡ (leave t c).lists k
            at k = elim (k == c) as (λ b. (k == c) ≡ b → cond b (drop 1 (s.lists c)) (s.lists k) ≡ cond b (drop 1 (t.lists c)) (t.lists k)) [
              | true ↦ λ e. h.rest
              | false ↦ λ e. h.others k (not_from_Decides (k == c) (Decides-eqb k c) e)
            ] refl

        same_closing : (number n : ℕ) (e : End T) (s t : State T) → IsBeside s t → closing P c number a n e s ≡ closing P c number a n e t
        same_closing number n Ended s t h = ap (told (turn_line P c number a outcome.Ended)) (same_leave s t h)
        same_closing number n (Trapped cause) s t h = ap (told (turn_line P c number a (outcome.Trapped cause))) (same_leave s t h)
        same_closing number n (Raised l k) s t h =
            ap (λ (p : State T). then_move (told (turn_line P c number a outcome.Raised) p) (arrive P l c (record a { thread = Some k }) p)) (same_leave s t h)
        same_closing number n (Spent k) s t h =
            ap (λ (p : State T). cond {A = Moved T} (a.used + n == (limits_at P c).fuel) (told (turn_line P c number a (outcome.Trapped Fuel)) p)
            (told (turn_line P c number a outcome.Waits) (push p c (record a { thread = Some k; used = a.used + n })))) (same_leave s t h)

        same_run : (number : ℕ) (k : T) (s t : State T) → IsBeside s t → run P M c number a k s ≡ run P M c number a k t
        same_run number k s t h =
            let n = given P c a in
            let r = stint P M c a n k s in
            let q = stint P M c a n k t in
            let like = twins_stint n k s t h in
            ap (λ (m : Moved T). then_move r.moved m) (ap (λ (e : End T). closing P c number a n e r.moved.state) like.end ∙ same_closing number n q.end r.moved.state q.moved.state like.moved.state)
            ∙ ap (λ (ls : List Line). (let m = closing P c number a n q.end q.moved.state in with_both m.state (ls ++ m.lines) (r.moved.outs ++ m.outs))) like.moved.lines
            ∙ ap (λ (os : List Item). (let m = closing P c number a n q.end q.moved.state in with_both m.state (q.moved.lines ++ m.lines) (os ++ m.outs))) like.moved.outs
          where
            with_both : State T → List Line → List Item → Moved T
            with_both s lines outs = record { state = s; lines = lines; outs = outs }

  beside_front : (c : ℕ) (s : State T) (x : Activation T) → 0 < length (s.lists c) → IsBeside c s (with_front s c x)
  beside_front c s x h = record {
    store = refl;
    turns = refl;
    requests = refl;
    answered = refl;
    others = λ k n. elim (k == c) as (λ b. (k == c) ≡ b → s.lists k ≡ cond b (x ∷ drop 1 (s.lists c)) (s.lists k)) [ true ↦ λ f. absurd (n ((Decides-eqb k c).0 f)) | false ↦ λ f. refl ] refl;
    rest = sym (ap (drop 1) here);
    left = h;
    right = subst (λ (xs : List (Activation T)). 0 < length xs) (sym here) (omega arith);
  }
    where
      here : (with_front s c x).lists c ≡ x ∷ drop 1 (s.lists c)
      here = elim (c == c) as (λ b. (c == c) ≡ b → cond b (x ∷ drop 1 (s.lists c)) (s.lists c) ≡ x ∷ drop 1 (s.lists c)) [ true ↦ λ f. refl | false ↦ λ f. absurd (not_from_Decides (c == c) (Decides-eqb c c) f refl) ] refl

  pub indifferent : (P : Rules) (M : Guest T) → IsIndifferent P M
  indifferent P M c number a x t s h = same_run c P M a number t s (with_front s c x) (beside_front c s x h)
