use Rattle.std.proofs.Common.{refl}
use Rattle.std.specs.Prelude.{is_some}
use Rattle.wasm_ast.specs.Operators.{operator_type, load_of, store_of}
use Rattle.wasm_code.specs.Opcodes.{is_num, is_load, is_store}
use Rattle.wasm_code.proofs.Tables.{on_bytes}
use Rattle.wasm_code.proofs.laws.opcodes_agree.Goals as goal

pub returns-clause-operators : goal.returns-clause-operators
unfolding operator_type
returns-clause-operators c = on_bytes is_num (λ op. is_some (operator_type op)) refl

pub returns-clause-loads : goal.returns-clause-loads
unfolding load_of
returns-clause-loads c = on_bytes is_load (λ op. is_some (load_of op)) refl

pub returns-clause-stores : goal.returns-clause-stores
unfolding store_of
returns-clause-stores c = on_bytes is_store (λ op. is_some (store_of op)) refl
