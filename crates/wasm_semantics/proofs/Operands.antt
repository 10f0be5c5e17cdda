-- The operands of the instruction in front fit the types that it declares.
use Rattle.std.proofs.Common.{◌≡◌, List, [], ◌∷◌, ◌++◌, refl, sym, ap, subst, ◌∙◌}
use Rattle.wasm_ast.specs.declared.val_types.ValType.{ValType}
use Rattle.wasm_ast.specs.declared.val_types.ValType.TheVariants.{I32}
use Rattle.wasm_ast.specs.declared.trees.Instr.{Instr}
use Rattle.wasm_ast.specs.declared.trees.Instr.TheOpen.{Instr-F}
use Rattle.wasm_ast.specs.declared.modules.Module.{Module}
use Rattle.wasm_ast.specs.Trees.{Layer, layer}
use Rattle.wasm_ast.specs.Typing.{Context, context_of, Plain, Step}
use Rattle.wasm_ast.proofs.Typings.{IsPlain, plain_of, if_of, uncons}
use Rattle.wasm_semantics.specs.Threads.{Level}
use Rattle.wasm_semantics.specs.Control.{Spot, thread_at, level_with}
use Rattle.wasm_semantics.specs.OfModule.{Holds, Shape, labels_of, IsLevel, IsOf}
use Rattle.wasm_semantics.specs.Operands.{taken_by, set_by, stored_by, operated_by, operand_types, LieOnTop}
use Rattle.wasm_semantics.specs.Laws.{before}
use Rattle.wasm_semantics.proofs.Values.{holds_take}

-- the types that an instruction declares lie on top of those that it finds
abbrev Declares : Module → Layer → List ValType → Type 0
Declares m y before = (below : List ValType) × (before ≡ operand_types m y ++ below)

plain_declares : (c : Context) (labels : List (List ValType)) (y : Layer) (before after : List ValType) → Plain c labels y before after → Declares c.program y before
plain_declares c labels (Instr-F.BrIf n) before after p = (p.0 ++ p.2.0, p.2.1)
plain_declares c labels (Instr-F.BrTable ns n) before after p = (p.0 ++ p.3.0, p.3.1)
plain_declares c labels (Instr-F.Call x) before after p = (p.2.0, p.2.1 ∙ ap (λ o. taken_by o ++ p.2.0) (sym p.1))
plain_declares c labels (Instr-F.CallIndirect k) before after p = (p.3.0, p.3.1 ∙ ap (λ o. I32 ∷ (taken_by o ++ p.3.0)) (sym p.1))
plain_declares c labels Instr-F.Select before after p = (p.0 ∷ (p.0 ∷ p.1.0), p.1.1)
plain_declares c labels (Instr-F.GlobalSet x) before after p = (after, p.3 ∙ ap (λ o. set_by o ++ after) (sym p.1))
plain_declares c labels (Instr-F.Load op align offset) before after p = (p.4.0, p.4.1)
plain_declares c labels (Instr-F.Store op align offset) before after p = (after, p.4 ∙ ap (λ o. stored_by o ++ after) (sym p.1))
plain_declares c labels Instr-F.MemoryGrow before after p = (p.2.0, p.2.1)
plain_declares c labels Instr-F.MemoryCopy before after p = (after, p.2)
plain_declares c labels Instr-F.MemoryFill before after p = (after, p.2)
plain_declares c labels (Instr-F.Num op) before after p = (p.2.0, p.2.1 ∙ ap (λ o. operated_by o ++ p.2.0) (sym p.1))
plain_declares c labels (Instr-F.Block bt body) before after p = absurd p
plain_declares c labels (Instr-F.Loop bt body) before after p = absurd p
plain_declares c labels (Instr-F.If bt first second) before after p = absurd p
plain_declares c labels y before after p = (before, refl)

by_plain : (c : Context) (labels : List (List ValType)) (i : Instr) (y : Layer) (before after : List ValType) → Step c labels i before after → layer i ≡ y → IsPlain y → Declares c.program y before
by_plain c labels i y before after d e h = plain_declares c labels y before after (plain_of c labels i before after y d e h)

step_declares : (c : Context) (labels : List (List ValType)) (i : Instr) (y : Layer) (before after : List ValType) → Step c labels i before after → layer i ≡ y → Declares c.program y before
step_declares c labels i (Instr-F.Block bt body) before after d e = (before, refl)
step_declares c labels i (Instr-F.Loop bt body) before after d e = (before, refl)
step_declares c labels i (Instr-F.If bt first second) before after d e = let b = if_of c labels i before after bt first second d e in (b.2.0, b.2.1)
step_declares c labels i y before after d e = by_plain c labels i y before after d e tt

level_fits : (c : Context) (l : Level) (s : Shape) (ss : List Shape) (i : Instr) (rest : List Instr) → IsLevel c (level_with l l.values (i ∷ rest)) s ss [] → LieOnTop (operand_types c.program (layer i)) l.values
level_fits c l s ss i rest h =
    let u = uncons c (labels_of (s ∷ ss)) (i ∷ rest) i rest s.stands s.leaves h.code refl in
    let d = step_declares c (labels_of (s ∷ ss)) i (layer i) s.stands u.0 u.1 refl in
    holds_take (operand_types c.program (layer i)) d.0 l.values (subst (λ ts. Holds ts l.values) d.1 h.values)

pub operands_fit : (m : Module) (p : Spot) (i : Instr) → IsOf m (thread_at (before i p)) → LieOnTop (operand_types m (layer i)) p.level.values
operands_fit m p i h =
    let r = h.running.0 in
    level_fits (context_of m r.function) p.level r.first r.others i p.level.code r.levels.0
