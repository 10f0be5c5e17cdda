use Rattle.std.proofs.Common.{subst, ◌≡◌, IfOk}
use Rattle.wasm_ast.specs.Validity.{Valid}
use Rattle.wasm_decode.proofs.ModulesBothWays.{module_one}
use Rattle.trapeze_exercise.proofs.modules.read.Goals as goal

pub accept-requires-clause-valid : goal.accept-requires-clause-valid
accept-requires-clause-valid c =
    let s = c.requires.spelled in
    subst Valid (module_one c.args.bytes.now s.0 c.in-Ok.program s.1 c.in-Ok.ensures.found) s.2

pub returns-in-Ok : goal.returns-in-Ok
returns-in-Ok c m d =
    subst (λ x. IfOk c.accept.result (λ valid. valid ≡ x)) (module_one c.args.bytes.now c.in-Ok.program m c.in-Ok.ensures.found d) c.accept.ensures
