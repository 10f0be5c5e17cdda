-- A unit that goes on leaves no more than the limits.
use Rattle.std.proofs.Common.{◌≡◌, ℕ, Bool, true, false, length, refl, arith}
use Rattle.std.specs.Prelude.{IsTrue, ◌||◌, nat_lt, zero, suc, ◌+◌}
use Rattle.std.proofs.lemmas.Bool.Decides.{nat_tests}
use Rattle.wasm_ast.specs.declared.modules.Module.{Module}
use Rattle.wasm_semantics.specs.declared.traps.Trap.TheVariants as trap
use Rattle.wasm_semantics.specs.Data.{with_some}
use Rattle.wasm_semantics.specs.Threads.{Thread, Outcome, Goes, Calls, Done, Trapped, Stuck, values_of, blocks_of, too_much}
use Rattle.wasm_semantics.specs.Control.{spot_of}
use Rattle.wasm_semantics.specs.Units.{unit_at, limited, unit, Course, after_unit, units_from, units}
use Rattle.wasm_semantics.specs.Laws.{IsWithinLimits, KeepsLimits}
use Rattle.wasm_semantics.proofs.Combinators.{if_rule}

within_by : (t : Thread) (a b c : Bool) → nat_lt 65536 (values_of t.frames) ≡ a → nat_lt 1024 (length t.frames) ≡ b → nat_lt 16384 (blocks_of t.frames) ≡ c → (IsTrue (a || (b || c)) → ⊥) → IsWithinLimits t
within_by t true b c e f g h = absurd (h refl)
within_by t false true c e f g h = absurd (h refl)
within_by t false false true e f g h = absurd (h refl)
within_by t false false false e f g h = record { values = grind (arith, nat_tests); frames = grind (arith, nat_tests); blocks = grind (arith, nat_tests) }

within : (t : Thread) → (IsTrue (too_much t) → ⊥) → IsWithinLimits t
within t h = within_by t (nat_lt 65536 (values_of t.frames)) (nat_lt 1024 (length t.frames)) (nat_lt 16384 (blocks_of t.frames)) refl refl refl h

limits_kept : (o : Outcome) → KeepsLimits (limited o)
limits_kept (Goes t) = if_rule KeepsLimits (too_much t) (Trapped trap.Stack) (Goes t) (λ e. tt) (λ e. within t e)
limits_kept (Calls h args t) = if_rule KeepsLimits (too_much t) (Trapped trap.Stack) (Calls h args t) (λ e. tt) (λ e. within t e)
limits_kept Done = tt
limits_kept (Trapped t) = tt
limits_kept Stuck = tt

pub unit_within : (m : Module) (pages : ℕ) (t : Thread) → KeepsLimits (unit m pages t)
unfolding unit
unit_within m pages t = limits_kept (with_some Stuck (spot_of t) (unit_at m pages))

course_within : (o : Outcome) (used : ℕ) (go : Thread → Course) → KeepsLimits o → ((t : Thread) → IsWithinLimits t → KeepsLimits (go t).stop) → KeepsLimits (after_unit o used go).stop
course_within (Goes t) used go h k = k t h
course_within (Calls c args t) used go h k = h
course_within Done used go h k = tt
course_within (Trapped t) used go h k = tt
course_within Stuck used go h k = tt

from_within : (m : Module) (pages used n : ℕ) (t : Thread) → IsWithinLimits t → KeepsLimits (units_from m pages used n t).stop
from_within m pages used zero t h = h
from_within m pages used (suc n) t h = course_within (unit m pages t) (used + 1) (units_from m pages (used + 1) n) (unit_within m pages t) (λ u g. from_within m pages (used + 1) n u g)

pub units_within : (m : Module) (pages n : ℕ) (t : Thread) → IsWithinLimits t → KeepsLimits (units m pages t n).stop
unfolding units
units_within m pages n t h = from_within m pages 0 n t h
