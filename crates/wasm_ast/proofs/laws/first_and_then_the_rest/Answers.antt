use Rattle.std.proofs.Common.{◌∷◌, refl}
use Rattle.wasm_ast.proofs.Typings.{uncons}
use Rattle.wasm_ast.proofs.Derivations.{first_then}
use Rattle.wasm_ast.proofs.laws.first_and_then_the_rest.Goals as goal

pub returns-clause-joined : goal.returns-clause-joined
returns-clause-joined c = first_then

pub returns-clause-split : goal.returns-clause-split
returns-clause-split c = λ k labels i rest before after t. uncons k labels (i ∷ rest) i rest before after t refl
