-- Pages count only as far as they let the module's memory grow.
use Rattle.std.proofs.Common.{◌≡◌, ◌+◌, ℕ, List, [], ◌∷◌, refl, ap, ◌∙◌}
use Rattle.std.specs.Prelude.{Option, Some, None, zero, suc}
use Rattle.wasm_ast.specs.declared.trees.Instr.{Instr}
use Rattle.wasm_ast.specs.declared.trees.Instr.TheOpen.{Instr-F}
use Rattle.wasm_ast.specs.declared.modules.Module.{Module}
use Rattle.wasm_ast.specs.Trees.{Layer, layer}
use Rattle.wasm_ast.specs.Memory.{memory_grow}
use Rattle.wasm_semantics.specs.Data.{Data, Wrong, with_top, with_some, sized, effect_of}
use Rattle.wasm_semantics.specs.Threads.{Thread, Outcome, Goes, Calls, Done, Trapped, Stuck}
use Rattle.wasm_semantics.specs.Control.{Spot, spot_of, spot_with}
use Rattle.wasm_semantics.specs.Units.{data_of, applied, act, unit_front, unit_at, limited, unit, Course, after_unit, units_from, units}
use Rattle.wasm_semantics.specs.Laws.{AllowTheSame}

effect_same : (m : Module) (p q : ℕ) (y : Layer) (d : Data) → AllowTheSame m p q → effect_of m p y d ≡ effect_of m q y d
effect_same m p q Instr-F.MemoryGrow d h = ap (λ n. with_top Wrong d.values (λ v vs. sized d (memory_grow n d.memory v) vs)) h
effect_same m p q _ d h = refl

act_same : (m : Module) (p q : ℕ) (i : Instr) (y : Layer) (s : Spot) → AllowTheSame m p q → act m p i y s ≡ act m q i y s
act_same m p q i Instr-F.MemoryGrow s h = ap (applied s) (effect_same m p q Instr-F.MemoryGrow (data_of s) h)
act_same m p q i _ s h = refl

front_same : (m : Module) (p q : ℕ) (code : List Instr) (s : Spot) → AllowTheSame m p q → unit_front m p code s ≡ unit_front m q code s
front_same m p q [] s h = refl
front_same m p q (i ∷ rest) s h = act_same m p q i (layer i) (spot_with s s.level.values rest) h

at_same : (m : Module) (p q : ℕ) (o : Option Spot) → AllowTheSame m p q → with_some Stuck o (unit_at m p) ≡ with_some Stuck o (unit_at m q)
at_same m p q None h = refl
at_same m p q (Some s) h = front_same m p q s.level.code s h

pub unit_same : (m : Module) (p q : ℕ) (t : Thread) → AllowTheSame m p q → unit m p t ≡ unit m q t
unfolding unit
unit_same m p q t h = ap limited (at_same m p q (spot_of t) h)

course_same : (o : Outcome) (used : ℕ) (go go' : Thread → Course) → ((t : Thread) → go t ≡ go' t) → after_unit o used go ≡ after_unit o used go'
course_same (Goes t) used go go' h = h t
course_same (Calls c args t) used go go' h = refl
course_same Done used go go' h = refl
course_same (Trapped t) used go go' h = refl
course_same Stuck used go go' h = refl

from_same : (m : Module) (p q used n : ℕ) (t : Thread) → AllowTheSame m p q → units_from m p used n t ≡ units_from m q used n t
from_same m p q used zero t h = refl
from_same m p q used (suc n) t h =
    ap (λ o. after_unit o (used + 1) (units_from m p (used + 1) n)) (unit_same m p q t h)
    ∙ course_same (unit m q t) (used + 1) (units_from m p (used + 1) n) (units_from m q (used + 1) n) (λ u. from_same m p q (used + 1) n u h)

pub units_same : (m : Module) (p q n : ℕ) (t : Thread) → AllowTheSame m p q → units m p t n ≡ units m q t n
unfolding units
units_same m p q n t h = from_same m p q 0 n t h
