use Rattle.std.proofs.Common.{◌∙◌}
use Rattle.wasm_ast.proofs.SameTypes.{all_same}
use Rattle.wasm_ast.proofs.val_types.same_types.Goals as goal

pub returns : goal.returns
returns c = c.eq.ensures ∙ all_same c.args.types.now c.args.others.now
