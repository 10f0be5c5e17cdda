use Rattle.std.proofs.Common.{◌∷◌, [], ◌∙◌, ap, arith, length, length-append, Ok}
use Rattle.trapeze_cli.specs.Command.{IsModule}
use Rattle.trapeze_cli.proofs.Modules.{module_ends, module_reached, memory_ends, opened_more, read_more, told_before, err_was}
use Rattle.trapeze_cli.proofs.inputs.read_modules.Goals as goal

pub returns-in_err-module-clause-steps : goal.returns-in_err-module-clause-steps
returns-in_err-module-clause-steps g c =
    let inv = c.files.invariant in
    rw (err_was _ _ c.from_residual.ensures.1)
    (module_ends c.args.policy.now.files c.files.f _ c.files.modules.items c.in_err-module.field-0.0 _ _ _ c.function_file.ensures inv.opened inv.read c.in_err-module.ensures.steps)

pub returns-in_err-module-clause-reached : goal.returns-in_err-module-clause-reached
returns-in_err-module-clause-reached g c =
    let inv = c.files.invariant in
    rw (err_was _ _ c.from_residual.ensures.1)
    (module_reached c.args.policy.now.files c.files.f _ c.files.modules.items _ c.in_err-module.field-0.0 _ _ c.function_file.ensures inv.read c.in_err-module.ensures.steps.opens)

pub returns-in-Err-clause-steps : goal.returns-in-Err-clause-steps
returns-in-Err-clause-steps g c =
    memory_ends c.args.policy.now.files c.files.f _ _ _ c.function_file.ensures
    (opened_more c.args.policy.now.files c.files.f _ _ _ _ c.function_file.ensures c.files.invariant.opened c.in_ok-module.ensures.steps)

pub files-preserved : goal.files-preserved
files-preserved g c =
    let inv = c.files.invariant in
    record {
      opened = opened_more c.args.policy.now.files c.files.f _ _ _ _ c.function_file.ensures inv.opened c.in_ok-module.ensures.steps;
      read = read_more _ c.args.policy.now.files c.files.f _ c.files.modules.items c.in_ok-module.module _ c.function_file.ensures inv.read
          (told_before (λ h. IsModule h c.files.f c.function_file.result.now (Ok c.in_ok-module.module)) _ _ _ inv.opened c.in_ok-module.ensures.ok) c.in-Ok.ensures.items;
      many = ap length c.in-Ok.ensures.items ∙ length-append c.files.modules.items (c.in_ok-module.module ∷ []) ∙ omega (arith, inv.many);
    }
