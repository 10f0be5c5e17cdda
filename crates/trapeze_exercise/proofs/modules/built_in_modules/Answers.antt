use Rattle.std.proofs.Common.{List, [], ◌∷◌, ◌++◌, ap, ◌∙◌}
use Rattle.wasm_ast.specs.declared.modules.Module.{Module}
use Rattle.wasm_ast.specs.TestModules.{echo, lift, look, spin, store, twin}
use Rattle.wasm_ast.proofs.Worked.{echo_valid}
use Rattle.wasm_semantics.proofs.Spin.{spin_valid}
use Rattle.trapeze_exercise.proofs.ValidModules.{lift_valid, look_valid, store_valid, twin_valid}
use Rattle.trapeze_exercise.proofs.ReadModules.{echo_spelled, lift_spelled, look_spelled, spin_spelled, store_spelled, twin_spelled}
use Rattle.trapeze_exercise.proofs.modules.built_in_modules.Goals as goal

pub add-requires-clause-spelled : goal.add-requires-clause-spelled
add-requires-clause-spelled c = (echo, echo_spelled, echo_valid)

pub add-requires-2-clause-spelled : goal.add-requires-2-clause-spelled
add-requires-2-clause-spelled c = (lift, lift_spelled, lift_valid)

pub add-requires-3-clause-spelled : goal.add-requires-3-clause-spelled
add-requires-3-clause-spelled c = (look, look_spelled, look_valid)

pub add-requires-4-clause-spelled : goal.add-requires-4-clause-spelled
add-requires-4-clause-spelled c = (spin, spin_spelled, spin_valid)

pub add-requires-5-clause-spelled : goal.add-requires-5-clause-spelled
add-requires-5-clause-spelled c = (store, store_spelled, store_valid)

pub add-requires-6-clause-spelled : goal.add-requires-6-clause-spelled
add-requires-6-clause-spelled c = (twin, twin_spelled, twin_valid)

with_one : Module → List Module → List Module
with_one m modules = modules ++ m ∷ []

pub returns : goal.returns
unfolding with_one
returns c =
    c.in_ok-add-6.ensures twin twin_spelled ∙ ap (with_one twin) (c.in_ok-add-5.ensures store store_spelled
    ∙ ap (with_one store) (c.in_ok-add-4.ensures spin spin_spelled ∙ ap (with_one spin) (c.in_ok-add-3.ensures look look_spelled
    ∙ ap (with_one look) (c.in_ok-add-2.ensures lift lift_spelled ∙ ap (with_one lift) (c.in_ok-add.ensures echo echo_spelled
    ∙ ap (with_one echo) c.new.ensures.items)))))
