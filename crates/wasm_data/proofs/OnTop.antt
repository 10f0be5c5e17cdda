-- Operators, and operands of their types on top.
use Rattle.std.proofs.Common.{◌≡◌, ◌≤◌, ◌-◌, ℕ, List, [], ◌∷◌, length, take, refl, sym, subst, arith, length-take, Bool, true, false, ap, ◌∙◌}
use Rattle.std.specs.Prelude.{Option, Some, if◌then◌else◌, nat_eq}
use Rattle.wasm_ast.specs.declared.val_types.ValType.{ValType}
use Rattle.wasm_ast.specs.declared.trees.Instr.TheOpen.{Instr-F}
use Rattle.wasm_num.specs.declared.operators.ConvertOp.{ConvertOp}
use Rattle.wasm_num.specs.declared.operators.ConvertOp.TheVariants.{Wrap, ExtendS, ExtendU}
use Rattle.wasm_semantics.specs.Data.{Wrong, with_some}
use Rattle.wasm_semantics.specs.declared.operators.Operator.{Operator}
use Rattle.wasm_ast.specs.Operators.{OperatorType, operator_type, between}
use Rattle.wasm_semantics.specs.Operators.{operator_of, type_of_operator, converted_type}
use Rattle.wasm_semantics.proofs.Numbers.{operator_typed}
use Rattle.wasm_semantics.specs.OfModule.{Holds}
use Rattle.wasm_data.specs.declared.marks.Marks.{Marks}
use Rattle.wasm_data.specs.declared.moved.Moved.{Moved}
use Rattle.wasm_data.specs.Marked.{operands_in}
use Rattle.wasm_data.specs.Effects.{cells, seen, Does, DoesToValues, CarriesOut}
use Rattle.wasm_semantics.specs.Operands.{LieOnTop, operated_by}
use Rattle.wasm_data.specs.Operands.{HasOperands, operated}
use Rattle.wasm_data.proofs.Arrays.{length_operands}

holds_long : (types : List ValType) (vs : List ℕ) → Holds types vs → length types ≤ length vs
holds_long [] vs h = omega arith
holds_long (t ∷ ts) [] h = absurd h
holds_long (t ∷ ts) (v ∷ vs) h = omega (arith, holds_long ts vs h.1)

pub on_top_long : (types : List ValType) (floor sp : ℕ) (values : List ℕ) → sp ≤ length values → LieOnTop types (operands_in floor sp values) → length types ≤ sp - floor
on_top_long types floor sp values le h =
    let vs = operands_in floor sp values in
    omega (arith, holds_long types (take (length types) vs) h, length-take (length types) vs, length_operands floor sp values le)

pub converted_one : (op : ConvertOp) → length (converted_type op).takes ≡ 1
converted_one Wrap = refl
converted_one ExtendS = refl
converted_one ExtendU = refl

-- what an operator does is what the instruction with its opcode does
pub operator_carries : (code : ℕ) (o : Operator) (old new : List ℕ) (marks : Marks) (answer : Moved) → operator_of code ≡ Some o
    → DoesToValues (operated o) old new marks answer → CarriesOut (Instr-F.Num code) old new marks answer
operator_carries code o old new marks answer named does m pages memory globals =
    let before = cells memory globals old in
    let d = seen before marks in
    let P : Option Operator → Type 0 = λ o. Does (with_some Wrong o (λ o. operated o d)) before (cells memory globals new) marks answer in
    subst P (sym named) (does memory globals)

-- an opcode that has an operator has a type
abbrev Known : Option OperatorType → Option Operator → Type 0
Known x y = (o : Operator) → y ≡ Some o → (t : OperatorType) × (x ≡ Some t)

both_known : (b : Bool) (t : OperatorType) (x : Option OperatorType) (y y' : Option Operator) → Known x y' → Known (if b then Some t else x) (if b then y else y')
both_known true t x y y' k o e = (t, refl)
both_known false t x y y' k o e = k o e

known : (n : ℕ) → Known (operator_type n) (operator_of n)
unfolding operator_type operator_of
known n =
    (both_known (nat_eq n 69) _ _ _ _
    (both_known (between 70 79 n) _ _ _ _
    (both_known (nat_eq n 80) _ _ _ _
    (both_known (between 81 90 n) _ _ _ _
    (both_known (between 103 105 n) _ _ _ _
    (both_known (between 106 120 n) _ _ _ _
    (both_known (between 121 123 n) _ _ _ _
    (both_known (between 124 138 n) _ _ _ _
    (both_known (nat_eq n 167) _ _ _ _
    (both_known (between 172 173 n) _ _ _ _
    (both_known (between 192 193 n) _ _ _ _
    (both_known (between 194 196 n) _ _ _ _
    (λ o e. cc)))))))))))))

some_same : (o p : Operator) → Some o ≡ Some p → o ≡ p
some_same o p e = cc

-- operands of the types of an opcode are operands of its operator
pub has_operands : (code : ℕ) (operands : List ℕ) → LieOnTop (operated_by (operator_type code)) operands → HasOperands code operands
has_operands code operands h o named =
    let t = known code o named in
    let found = operator_typed code t.0 t.1 in
    let same : type_of_operator o ≡ t.0 = ap type_of_operator (some_same o found.0 (sym named ∙ found.1)) ∙ found.2 in
    let P : Option OperatorType → Type 0 = λ x. LieOnTop (operated_by x) operands in
    let Q : OperatorType → Type 0 = λ x. LieOnTop x.takes operands in
    subst Q (sym same) (subst P t.1 h)
