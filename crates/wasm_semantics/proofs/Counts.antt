-- How many units are used.
use Rattle.std.proofs.Common.{◌≡◌, ◌≤◌, ◌<◌, ◌+◌, ℕ, refl, ap, ◌∙◌, arith}
use Rattle.std.specs.Prelude.{zero, suc}
use Rattle.wasm_ast.specs.declared.modules.Module.{Module}
use Rattle.wasm_semantics.specs.Threads.{Thread, Outcome, Goes, Calls, Done, Trapped, Stuck}
use Rattle.wasm_semantics.specs.Units.{unit, Course, after_unit, units_from, units}
use Rattle.wasm_semantics.specs.Laws.{GoesOn, later, joined, then_units}

-- units used before count as well
abbrev after_all : ℕ → Outcome → ℕ → (Thread → Course) → (Thread → Course) → Type 0
after_all a o b go go' = after_unit o (a + b) go' ≡ later a (after_unit o b go)

unit_later : (a b : ℕ) (o : Outcome) (go go' : Thread → Course) → ((t : Thread) → go' t ≡ later a (go t)) → after_all a o b go go'
unit_later a b (Goes t) go go' h = h t
unit_later a b (Calls c args t) go go' h = refl
unit_later a b Done go go' h = refl
unit_later a b (Trapped t) go go' h = refl
unit_later a b Stuck go go' h = refl

from_later : (m : Module) (pages a b n : ℕ) (t : Thread) → units_from m pages (a + b) n t ≡ later a (units_from m pages b n t)
from_later m pages a b zero t = refl
from_later m pages a b (suc n) t =
    let same : a + b + 1 ≡ a + (b + 1) = omega arith in
    ap (λ k. after_unit (unit m pages t) k (units_from m pages k n)) same
    ∙ unit_later a (b + 1) (unit m pages t) (units_from m pages (b + 1) n) (units_from m pages (a + (b + 1)) n) (λ u. from_later m pages a (b + 1) n u)

-- at most n are used, all of them where the thread goes on
record Counted (n used : ℕ) (c : Course) : Type 0 where
  pub most : c.used ≤ used + n
  pub least : used ≤ c.used
  pub all : GoesOn c.stop → c.used ≡ used + n

unit_counts : (n used : ℕ) (o : Outcome) (go : Thread → Course) → ((t : Thread) → Counted n (used + 1) (go t)) → Counted (suc n) used (after_unit o (used + 1) go)
unit_counts n used (Goes t) go h =
    let c = h t in
    record { most = let k = c.most in omega arith; least = let k = c.least in omega arith; all = λ g. let k = c.all g in omega arith }
unit_counts n used (Calls x args t) go h = record { most = omega arith; least = omega arith; all = λ g. let clash = g.1 in cc }
unit_counts n used Done go h = record { most = omega arith; least = omega arith; all = λ g. let clash = g.1 in cc }
unit_counts n used (Trapped t) go h = record { most = omega arith; least = omega arith; all = λ g. let clash = g.1 in cc }
unit_counts n used Stuck go h = record { most = omega arith; least = omega arith; all = λ g. let clash = g.1 in cc }

from_counts : (m : Module) (pages used n : ℕ) (t : Thread) → Counted n used (units_from m pages used n t)
from_counts m pages used zero t = record { most = omega arith; least = omega arith; all = λ g. omega arith }
from_counts m pages used (suc n) t = unit_counts n used (unit m pages t) (units_from m pages (used + 1) n) (λ u. from_counts m pages (used + 1) n u)

pub at_most : (m : Module) (pages n : ℕ) (t : Thread) → (units m pages t n).used ≤ n
unfolding units
at_most m pages n t = let c = (from_counts m pages 0 n t).most in omega arith

pub all_used : (m : Module) (pages n : ℕ) (t : Thread) → GoesOn (units m pages t n).stop → (units m pages t n).used ≡ n
unfolding units
all_used m pages n t g = let c = (from_counts m pages 0 n t).all g in omega arith

pub none_used : (m : Module) (pages : ℕ) (t : Thread) → units m pages t 0 ≡ record { used = 0; stop = Goes t }
unfolding units
none_used m pages t = refl

unit_uses : (o : Outcome) (go : Thread → Course) → ((t : Thread) → 0 < (go t).used) → 0 < (after_unit o 1 go).used
unit_uses (Goes t) go h = h t
unit_uses (Calls x args t) go h = omega arith
unit_uses Done go h = omega arith
unit_uses (Trapped t) go h = omega arith
unit_uses Stuck go h = omega arith

from_uses : (m : Module) (pages n : ℕ) (t : Thread) → 0 < n → 0 < (units_from m pages 0 n t).used
from_uses m pages zero t h = absurd (omega arith)
from_uses m pages (suc n) t h = unit_uses (unit m pages t) (units_from m pages 1 n) (λ u. let c = (from_counts m pages 1 n u).least in omega arith)

pub some_used : (m : Module) (pages n : ℕ) (t : Thread) → 0 < n → 0 < (units m pages t n).used
unfolding units
some_used m pages n t h = from_uses m pages n t h

-- so many units and then so many more
unit_joins : (o : Outcome) (k : ℕ) (go : Thread → Course) (more : Thread → Course) (go' : Thread → Course)
    → ((t : Thread) → go' t ≡ joined (go t).used (go t).stop more) → after_unit o k go' ≡ joined (after_unit o k go).used (after_unit o k go).stop more
unit_joins (Goes t) k go more go' h = h t
unit_joins (Calls c args t) k go more go' h = refl
unit_joins Done k go more go' h = refl
unit_joins (Trapped t) k go more go' h = refl
unit_joins Stuck k go more go' h = refl

from_joins : (m : Module) (pages used n k : ℕ) (t : Thread)
    → units_from m pages used (n + k) t ≡ joined (units_from m pages used n t).used (units_from m pages used n t).stop (λ u. units_from m pages 0 k u)
from_joins m pages used zero k t =
    let same : 0 + k ≡ k = omega arith in
    let none : used ≡ used + 0 = omega arith in
    ap (λ j. units_from m pages used j t) same ∙ (ap (λ j. units_from m pages j k t) none ∙ from_later m pages used 0 k t)
from_joins m pages used (suc n) k t =
    let same : suc n + k ≡ suc (n + k) = omega arith in
    ap (λ j. units_from m pages used j t) same
    ∙ unit_joins (unit m pages t) (used + 1) (units_from m pages (used + 1) n) (λ u. units_from m pages 0 k u) (units_from m pages (used + 1) (n + k)) (λ u. from_joins m pages (used + 1) n k u)

pub units_join : (m : Module) (pages n k : ℕ) (t : Thread) → units m pages t (n + k) ≡ then_units m pages (units m pages t n) k
unfolding units
units_join m pages n k t = from_joins m pages 0 n k t
