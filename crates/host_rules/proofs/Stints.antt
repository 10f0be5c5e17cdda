-- Stints, by induction on the units left.
use Rattle.std.proofs.Common.{◌≡◌, ℕ, zero, suc, true, false, Contains, refl, subst}
use Rattle.host_rules.specs.Guests.{OneUnit, Goes, Calls, Done, Traps, Guest}
use Rattle.host_rules.specs.Rules.{Rules, IsOrdered, limits_at}
use Rattle.host_rules.specs.States.{Activation, State, then_lines}
use Rattle.host_rules.specs.Calls.{Called, Resumed, RaisedTo, Refused, shim}
use Rattle.host_rules.specs.Effects.{apply}
use Rattle.host_rules.specs.Turns.{End, Ended, Trapped, Raised, Spent, Stint, stops, after_call, after_unit, stint}
use Rattle.host_rules.specs.Regular.{IsRegular}
use Rattle.host_rules.specs.Views.{Same}
use Rattle.host_rules.proofs.SameToObserver.{Agree, agree_still, agree_lines, agree_move, Follows, follows_still, follows_next, follows_lines}
use Rattle.host_rules.proofs.Effects.{kept_apply, hidden_apply, seen_apply}
use Rattle.host_rules.proofs.Calls.{IsCalled, shim_at, shim_alike}

module _ {T : Type 0} (P : Rules) (order : IsOrdered P) (M : Guest T) (c : ℕ) (a : Activation T) where
  abbrev pub IsAbove : End T → Type 0
  IsAbove Ended = Unit {0}
  IsAbove (Trapped cause) = Unit {0}
  IsAbove (Raised l t) = P.flows c l ≡ true
  IsAbove (Spent t) = Unit {0}

  -- the running activation stays in its list, and is raised upwards
  pub record IsGood (r : Stint T) : Type 0 where
    pub kept : Contains (r.moved.state.lists c) a
    pub above : IsAbove r.end

  good_call : (s : State T) (rest : T → State T → Stint T) → ((t : T) (s : State T) → Contains (s.lists c) a → IsGood (rest t s))
      → (r : Called T) → IsCalled P M c r → Contains (s.lists c) a → IsGood (after_call P c a s rest r)
  good_call s rest hyp (Resumed t lines effect) is here =
      let next = hyp t (apply P c a effect s).state (kept_apply P c a c a effect s here) in
      record { kept = next.kept; above = next.above }
  good_call s rest hyp (RaisedTo l t) is here = record { kept = here; above = is }
  good_call s rest hyp (Refused cause) is here = record { kept = here; above = tt }

  good_unit : (s : State T) (rest : T → State T → Stint T) → ((t : T) (s : State T) → Contains (s.lists c) a → IsGood (rest t s))
      → (u : OneUnit T) → Contains (s.lists c) a → IsGood (after_unit P M c a s rest u)
  good_unit s rest hyp (Goes t) here = hyp t s here
  good_unit s rest hyp (Calls asked t) here = good_call s rest hyp (shim P M c a s.store asked t) (shim_at P M c order a s.store asked t) here
  good_unit s rest hyp Done here = record { kept = here; above = tt }
  good_unit s rest hyp (Traps cause) here = record { kept = here; above = tt }

  pub good_stint : (n : ℕ) (t : T) (s : State T) → Contains (s.lists c) a → IsGood (stint P M c a n t s)
  good_stint zero t s here = record { kept = here; above = tt }
  good_stint (suc n) t s here = good_unit s (λ t s. stint P M c a n t s) (λ t s h. good_stint n t s h) (M.unit a.function (limits_at P c).pages t) here

  module _ (o : ℕ) where
    -- at a hidden label nothing is visible but what is released
    hidden_call : P.flows c o ≡ false → (s : State T) (rest : T → State T → Stint T) → ((t : T) (s : State T) → IsRegular P s → Contains (s.lists c) a → Follows P o M (rest t s).moved s)
        → (r : Called T) → IsCalled P M c r → IsRegular P s → Contains (s.lists c) a → Follows P o M (after_call P c a s rest r).moved s
    hidden_call hidden s rest hyp (Resumed t lines effect) is regular here =
        let moved = apply P c a effect s in
        let first = hidden_apply P o M order c a effect s hidden regular here in
        let next = hyp t moved.state first.regular (kept_apply P c a c a effect s here) in
        follows_next P o M (then_lines lines moved) (rest t moved.state).moved s (follows_lines P o M lines moved s (is o hidden) first) next
    hidden_call hidden s rest hyp (RaisedTo l t) is regular here = follows_still P o M s regular
    hidden_call hidden s rest hyp (Refused cause) is regular here = follows_still P o M s regular

    hidden_unit : P.flows c o ≡ false → (s : State T) (rest : T → State T → Stint T) → ((t : T) (s : State T) → IsRegular P s → Contains (s.lists c) a → Follows P o M (rest t s).moved s)
        → (u : OneUnit T) → IsRegular P s → Contains (s.lists c) a → Follows P o M (after_unit P M c a s rest u).moved s
    hidden_unit hidden s rest hyp (Goes t) regular here = hyp t s regular here
    hidden_unit hidden s rest hyp (Calls asked t) regular here = hidden_call hidden s rest hyp (shim P M c a s.store asked t) (shim_at P M c order a s.store asked t) regular here
    hidden_unit hidden s rest hyp Done regular here = follows_still P o M s regular
    hidden_unit hidden s rest hyp (Traps cause) regular here = follows_still P o M s regular

    pub hidden_stint : P.flows c o ≡ false → (n : ℕ) (t : T) (s : State T) → IsRegular P s → Contains (s.lists c) a → Follows P o M (stint P M c a n t s).moved s
    hidden_stint hidden zero t s regular here = follows_still P o M s regular
    hidden_stint hidden (suc n) t s regular here = hidden_unit hidden s (λ t s. stint P M c a n t s) (λ t s r h. hidden_stint hidden n t s r h) (M.unit a.function (limits_at P c).pages t) regular here

    -- at a visible label, the same is done from both
    pub record AreAlikeStints (x y : Stint T) : Type 0 where
      pub moved : Agree P o x.moved y.moved
      pub end : x.end ≡ y.end

    -- what is known of two states between the units
    pub record Between (s t : State T) : Type 0 where
      pub same : Same P o s t
      pub left : IsRegular P s
      pub right : IsRegular P t
      pub here : Contains (s.lists c) a
      pub there : Contains (t.lists c) a

    alike_stops : (s t : State T) (end : End T) → Between s t → AreAlikeStints (stops s end) (stops t end)
    alike_stops s t end b = record { moved = agree_still P o s t b.same b.left b.right; end = refl }

    seen_call : P.flows c o ≡ true → (s t : State T) (rest : T → State T → Stint T) → ((k : T) (s t : State T) → Between s t → AreAlikeStints (rest k s) (rest k t))
        → (r : Called T) → Between s t → AreAlikeStints (after_call P c a s rest r) (after_call P c a t rest r)
    seen_call seen s t rest hyp (Resumed k lines effect) b =
        let x = apply P c a effect s in
        let y = apply P c a effect t in
        let first = agree_lines P o lines lines x y refl (seen_apply P o order c a effect s t seen b.same b.left b.right b.here b.there) in
        let next = hyp k x.state y.state (record { same = first.same; left = first.left; right = first.right; here = kept_apply P c a c a effect s b.here; there = kept_apply P c a c a effect t b.there }) in
        record {
          moved = agree_move P o (then_lines lines x) (then_lines lines y) (rest k x.state).moved (rest k y.state).moved first.lines next.moved;
          end = next.end;
        }
    seen_call seen s t rest hyp (RaisedTo l k) b = alike_stops s t (Raised l k) b
    seen_call seen s t rest hyp (Refused cause) b = alike_stops s t (Trapped cause) b

    seen_unit : P.flows c o ≡ true → (s t : State T) (rest : T → State T → Stint T) → ((k : T) (s t : State T) → Between s t → AreAlikeStints (rest k s) (rest k t))
        → (u : OneUnit T) → Between s t → AreAlikeStints (after_unit P M c a s rest u) (after_unit P M c a t rest u)
    seen_unit seen s t rest hyp (Goes k) b = hyp k s t b
    seen_unit seen s t rest hyp (Calls asked k) b =
        subst (λ r. AreAlikeStints (after_call P c a s rest (shim P M c a s.store asked k)) (after_call P c a t rest r)) (shim_alike P M c order o seen a s.store t.store b.same.store asked k)
        (seen_call seen s t rest hyp (shim P M c a s.store asked k) b)
    seen_unit seen s t rest hyp Done b = alike_stops s t Ended b
    seen_unit seen s t rest hyp (Traps cause) b = alike_stops s t (Trapped cause) b

    pub seen_stint : P.flows c o ≡ true → (n : ℕ) (k : T) (s t : State T) → Between s t → AreAlikeStints (stint P M c a n k s) (stint P M c a n k t)
    seen_stint seen zero k s t b = alike_stops s t (Spent k) b
    seen_stint seen (suc n) k s t b = seen_unit seen s t (λ k s. stint P M c a n k s) (λ k s t b. seen_stint seen n k s t b) (M.unit a.function (limits_at P c).pages k) b
