-- Units of a course, one by one.
use Rattle.std.proofs.Common.{◌≡◌, ℕ, ◌+◌, ◌-◌, ◌<◌, ◌≤◌, List, refl, sym, ap, subst, ◌∙◌, arith, Bor}
use Rattle.std.specs.Prelude.{suc}
use Rattle.wasm_ast.specs.declared.hosts.HostName.{HostName}
use Rattle.wasm_ast.specs.declared.trees.Instr.{Instr}
use Rattle.wasm_ast.specs.declared.modules.Module.{Module}
use Rattle.wasm_ast.specs.Validity.{Valid}
use Rattle.wasm_semantics.specs.Threads.{Store, Outcome, Goes}
use Rattle.wasm_semantics.specs.Control.{Spot, thread_at}
use Rattle.wasm_semantics.specs.Units.{unit, unit_at, limited, Course, after_unit, units_from}
use Rattle.wasm_semantics.specs.OfModule.{IsOf, Sound}
use Rattle.wasm_semantics.proofs.Units.{unit_sound}
use Rattle.wasm_frames.specs.declared.active.Active.{Active}
use Rattle.wasm_frames.specs.Standing.{Surroundings, spot_at, thread_in}
use Rattle.wasm_frames.specs.Turns.{Went, AsksHost, IsBounded}
use Rattle.wasm_exec.specs.Rounds.{ended, IsLeft, HasStopped}

unit_there : (m : Module) (pages : ℕ) (p : Spot) → unit m pages (thread_at p) ≡ limited (unit_at m pages p)
unfolding unit
unit_there m pages p = refl

-- what a unit came to is of the module
came_of : (m : Module) (pages : ℕ) (p : Spot) (o : Outcome) → Valid m → IsOf m (thread_at p) → limited (unit_at m pages p) ≡ o → Sound m o
came_of m pages p o valid of e = subst (Sound m) (unit_there m pages p ∙ e) (unit_sound m pages (thread_at p) valid of)

-- one unit more
course_unit : (m : Module) (pages count at : ℕ) (p : Spot) (o : Outcome) → at < count → limited (unit_at m pages p) ≡ o
    → units_from m pages at (count - at) (thread_at p) ≡ after_unit o (at + 1) (units_from m pages (at + 1) (count - (at + 1)))
course_unit m pages count at p o lt h =
    let e : count - at ≡ suc (count - (at + 1)) = omega (arith, lt) in
    ap (λ k. units_from m pages at k (thread_at p)) e ∙ ap (λ o. after_unit o (at + 1) (units_from m pages (at + 1) (count - (at + 1)))) (unit_there m pages p ∙ h)

-- where a unit is the last one
pub stops : (m : Module) (pages count first at : ℕ) (course : Course) (codes : List (Bor (List Instr))) (st : Store) (h : Surroundings) (a : Active) (o : Outcome) (end : Course)
    → at < count → IsLeft m pages count course first codes st h a at → limited (unit_at m pages (spot_at m st a h)) ≡ o
    → after_unit o (at + 1) (units_from m pages (at + 1) (count - (at + 1))) ≡ end → course ≡ end
stops m pages count first at course codes st h a o end lt l e done = l.is ∙ (course_unit m pages count at (spot_at m st a h) o lt e ∙ done)

-- where it goes on
pub goes_next : (m : Module) (pages count first at : ℕ) (course : Course) (codes : List (Bor (List Instr))) (st st' : Store) (h h' : Surroundings) (a a' : Active) → Valid m → first ≤ at → at < count
    → IsLeft m pages count course first codes st h a at → Went m (limited (unit_at m pages (spot_at m st a h))) st' h' a' → IsBounded h' → IsLeft m pages count course first codes st' h' a' (at + 1)
goes_next m pages count first at course codes st st' h h' a a' valid from lt l w b =
    let p = spot_at m st a h in
    let t = thread_in m st' a' h' in
    record {
      is = l.is ∙ course_unit m pages count at p (Goes t) lt w.is;
      going = record { of = came_of m pages p (Goes t) valid l.going.of w.is; stands = w.stands; placed = w.placed; bounded = b };
      still = λ e. absurd (omega (arith, e, from));
    }

-- where it asks the host
pub asks : (m : Module) (pages count first at : ℕ) (course : Course) (codes : List (Bor (List Instr))) (st st' : Store) (h h' : Surroundings) (a a' : Active) (name : HostName) → Valid m → at < count
    → IsLeft m pages count course first codes st h a at → AsksHost m (limited (unit_at m pages (spot_at m st a h))) st' h' name a' → IsBounded h' → HasStopped m course (at + 1) st' h' name a'
asks m pages count first at course codes st st' h h' a a' name valid lt l w b =
    let p = spot_at m st a h in
    let o = limited (unit_at m pages p) in
    record {
      outcome = o;
      is = stops m pages count first at course codes st h a o (ended (at + 1) o) lt l refl (ap (λ x. after_unit x (at + 1) (units_from m pages (at + 1) (count - (at + 1)))) w.is ∙ ap (ended (at + 1)) (sym w.is));
      asked = w;
      sound = came_of m pages p o valid l.going.of refl;
      bounded = b;
    }
