-- What a unit comes to, by the instruction in front.
use Rattle.std.proofs.Common.{◌≡◌, ℕ, List, [], ◌∷◌, ◌++◌, length, refl, sym, subst, ◌∙◌, arith, Bor, append_assoc}
use Rattle.wasm_ast.specs.declared.trees.Instr.{Instr}
use Rattle.wasm_ast.specs.declared.modules.Module.{Module}
use Rattle.wasm_ast.specs.Validity.{Valid}
use Rattle.wasm_semantics.specs.Threads.{Store, Outcome}
use Rattle.wasm_semantics.specs.Control.{finish}
use Rattle.wasm_semantics.specs.Units.{unit_at}
use Rattle.wasm_semantics.specs.OfModule.{IsOf}
use Rattle.wasm_data.specs.Cuts.{above}
use Rattle.wasm_blocks.specs.Rest.{code_in, IsEnd}
use Rattle.wasm_frames.specs.Resting.{body_of}
use Rattle.wasm_frames.specs.declared.active.Active.{Active}
use Rattle.wasm_frames.specs.Standing.{Surroundings, spot_at, thread_in, IsPlaced}
use Rattle.wasm_frames.specs.Turns.{CanReturn, Went}
use Rattle.wasm_units.proofs.Takes.{passed, typed, ends}
use Rattle.wasm_units.proofs.Needs.{finish_there, leave_ends}

pub no_code : {A : Type 0} (xs : List A) → length xs ≡ 0 → xs ≡ []
no_code [] e = refl
no_code (x ∷ xs) e = absurd (omega (arith, e))

pub went_by : (m : Module) (o o' : Outcome) (st : Store) (h : Surroundings) (a : Active) → o ≡ o' → Went m o' st h a → Went m o st h a
went_by m o o' st h a e w = record { is = e ∙ w.is; stands = w.stands; placed = w.placed }

end_rest : (i : Instr) (xs whole : List Instr) → IsEnd (i ∷ xs) whole → IsEnd xs whole
end_rest i xs whole e = (e.0 ++ i ∷ [], e.1 ∙ sym (append_assoc e.0 (i ∷ []) xs))

pub passed_placed : (m : Module) (a : Active) (h : Surroundings) (i : Instr) (rest : Bor (List Instr)) → a.hot.code.now ≡ i ∷ rest.now → IsPlaced m a h → IsPlaced m (passed a rest) h
passed_placed m a h i rest e pl =
    let whole = code_in (body_of m a.function) (above a.hot.low h.opens) in
    record {
      here = record { nexts_are = pl.here.nexts_are; code_ends = end_rest i rest.now whole (subst (λ c. IsEnd c whole) e pl.here.code_ends) };
      below = pl.below;
    }

pub unit_ends : (m : Module) (pages : ℕ) (st : Store) (a : Active) (h : Surroundings) → a.hot.code.now ≡ [] → length h.opens ≡ a.hot.low
    → (let p = spot_at m st a h in unit_at m pages p ≡ finish p p.level.values)
unit_ends m pages st a h e n = ends m pages st a h e ∙ leave_ends m st a h n

pub ends_can_return : (m : Module) (pages : ℕ) (st : Store) (a : Active) (h : Surroundings) → Valid m → IsOf m (thread_in m st a h) → a.hot.code.now ≡ [] → length h.opens ≡ a.hot.low → CanReturn a h.values h.opens
ends_can_return m pages st a h valid of e n =
    let p = spot_at m st a h in
    finish_there p p.level.values (λ stuck. typed m pages st a h valid of (unit_ends m pages st a h e n ∙ stuck))
