use Rattle.std.proofs.Common.{◌∙◌, ap, subst, arith}
use Rattle.std.specs.Prelude.{Some, IsTrue}
use Rattle.wasm_semantics.specs.declared.operators.Operator.{Operator}
use Rattle.wasm_semantics.specs.declared.operators.Operator.TheVariants as V
use Rattle.wasm_semantics.specs.Operators.{type_of_operator}
use Rattle.wasm_data.specs.Operands.{keeps_low}
use Rattle.wasm_data.proofs.OnTop.{on_top_long, converted_one, operator_carries}
use Rattle.wasm_data.proofs.operators.operate.Goals as goal

pub test_top-requires-clause-some : goal.test_top-requires-clause-some
test_top-requires-clause-some c =
    let m = c.args.marks in
    omega (arith, on_top_long (type_of_operator (V.Test c.in-Test.val_type)).takes m.floor m.sp c.args.values.now c.requires.within.room (c.requires.fits (V.Test c.in-Test.val_type) (c.requires.named ∙ ap Some c.in-Test.is)))

pub test_top-requires-clause-fits : goal.test_top-requires-clause-fits
test_top-requires-clause-fits c = c.requires.fits (V.Test c.in-Test.val_type) (c.requires.named ∙ ap Some c.in-Test.is)

pub returns-in-Test : goal.returns-in-Test
returns-in-Test c = operator_carries c.args.code (V.Test c.in-Test.val_type) c.args.values.now c.test_top.new.values c.args.marks c.test_top.result (c.requires.named ∙ ap Some c.in-Test.is) c.test_top.ensures

pub compare_top-requires-clause-two : goal.compare_top-requires-clause-two
compare_top-requires-clause-two c =
    let m = c.args.marks in
    omega (arith, on_top_long (type_of_operator (V.Compare c.in-Compare.val_type c.in-Compare.op)).takes m.floor m.sp c.args.values.now c.requires.within.room (c.requires.fits (V.Compare c.in-Compare.val_type c.in-Compare.op) (c.requires.named ∙ ap Some c.in-Compare.is)))

pub compare_top-requires-clause-fits : goal.compare_top-requires-clause-fits
compare_top-requires-clause-fits c = c.requires.fits (V.Compare c.in-Compare.val_type c.in-Compare.op) (c.requires.named ∙ ap Some c.in-Compare.is)

pub returns-in-Compare : goal.returns-in-Compare
returns-in-Compare c = operator_carries c.args.code (V.Compare c.in-Compare.val_type c.in-Compare.op) c.args.values.now c.compare_top.new.values c.args.marks c.compare_top.result (c.requires.named ∙ ap Some c.in-Compare.is) c.compare_top.ensures

pub unary_top-requires-clause-some : goal.unary_top-requires-clause-some
unary_top-requires-clause-some c =
    let m = c.args.marks in
    omega (arith, on_top_long (type_of_operator (V.Unary c.in-Unary.val_type c.in-Unary.op)).takes m.floor m.sp c.args.values.now c.requires.within.room (c.requires.fits (V.Unary c.in-Unary.val_type c.in-Unary.op) (c.requires.named ∙ ap Some c.in-Unary.is)))

pub unary_top-requires-clause-fits : goal.unary_top-requires-clause-fits
unary_top-requires-clause-fits c = c.requires.fits (V.Unary c.in-Unary.val_type c.in-Unary.op) (c.requires.named ∙ ap Some c.in-Unary.is)

pub returns-in-Unary : goal.returns-in-Unary
returns-in-Unary c = operator_carries c.args.code (V.Unary c.in-Unary.val_type c.in-Unary.op) c.args.values.now c.unary_top.new.values c.args.marks c.unary_top.result (c.requires.named ∙ ap Some c.in-Unary.is) c.unary_top.ensures

pub binary_top-requires-clause-two : goal.binary_top-requires-clause-two
binary_top-requires-clause-two c =
    let m = c.args.marks in
    omega (arith, on_top_long (type_of_operator (V.Binary c.in-Binary.val_type c.in-Binary.op)).takes m.floor m.sp c.args.values.now c.requires.within.room (c.requires.fits (V.Binary c.in-Binary.val_type c.in-Binary.op) (c.requires.named ∙ ap Some c.in-Binary.is)))

pub binary_top-requires-clause-fits : goal.binary_top-requires-clause-fits
binary_top-requires-clause-fits c = c.requires.fits (V.Binary c.in-Binary.val_type c.in-Binary.op) (c.requires.named ∙ ap Some c.in-Binary.is)

pub returns-in-Binary : goal.returns-in-Binary
returns-in-Binary c = operator_carries c.args.code (V.Binary c.in-Binary.val_type c.in-Binary.op) c.args.values.now c.binary_top.new.values c.args.marks c.binary_top.result (c.requires.named ∙ ap Some c.in-Binary.is) c.binary_top.ensures

pub convert_top-requires-clause-some : goal.convert_top-requires-clause-some
convert_top-requires-clause-some c =
    let m = c.args.marks in
    omega (arith, on_top_long (type_of_operator (V.Convert c.in-Convert.op)).takes m.floor m.sp c.args.values.now c.requires.within.room (c.requires.fits (V.Convert c.in-Convert.op) (c.requires.named ∙ ap Some c.in-Convert.is)), converted_one c.in-Convert.op)

pub convert_top-requires-clause-fits : goal.convert_top-requires-clause-fits
convert_top-requires-clause-fits c = c.requires.fits (V.Convert c.in-Convert.op) (c.requires.named ∙ ap Some c.in-Convert.is)

pub returns-in-Convert : goal.returns-in-Convert
returns-in-Convert c = operator_carries c.args.code (V.Convert c.in-Convert.op) c.args.values.now c.convert_top.new.values c.args.marks c.convert_top.result (c.requires.named ∙ ap Some c.in-Convert.is) c.convert_top.ensures

pub extend_top-requires-clause-some : goal.extend_top-requires-clause-some
extend_top-requires-clause-some c =
    let m = c.args.marks in
    omega (arith, on_top_long (type_of_operator (V.Extend c.in-Extend.val_type c.in-Extend.low)).takes m.floor m.sp c.args.values.now c.requires.within.room (c.requires.fits (V.Extend c.in-Extend.val_type c.in-Extend.low) (c.requires.named ∙ ap Some c.in-Extend.is)))

pub extend_top-requires-clause-low : goal.extend_top-requires-clause-low
extend_top-requires-clause-low c = let P : Operator → Type 0 = λ o. IsTrue (keeps_low o) in subst P c.in-Extend.is c.requires.low

pub returns-in-Extend : goal.returns-in-Extend
returns-in-Extend c = operator_carries c.args.code (V.Extend c.in-Extend.val_type c.in-Extend.low) c.args.values.now c.extend_top.new.values c.args.marks c.extend_top.result (c.requires.named ∙ ap Some c.in-Extend.is) c.extend_top.ensures
