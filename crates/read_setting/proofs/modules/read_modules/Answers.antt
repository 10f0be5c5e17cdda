use Rattle.std.proofs.Common.{◌∷◌, [], ◌∙◌, ap, arith, length, length-append}
use Rattle.read_setting.proofs.Judged.{err_was}
use Rattle.read_setting.proofs.ModuleFiles.{module_ends, memory_ends_modules, opened_more, read_more}
use Rattle.read_setting.proofs.modules.read_modules.Goals as goal

pub returns-in_err-module-clause-steps : goal.returns-in_err-module-clause-steps
returns-in_err-module-clause-steps g c =
    let inv = c.files.invariant in
    rw (err_was _ _ c.from_residual.ensures.1)
    (module_ends c.args.policy.now.files c.args.place c.files.f _ c.function_file.ensures _ _ _ c.files.modules.items c.in_err-module.field-0.0 inv.opened inv.read c.in_err-module.ensures.steps)

pub returns-in-Err-clause-steps : goal.returns-in-Err-clause-steps
returns-in-Err-clause-steps g c =
    let inv = c.files.invariant in
    memory_ends_modules c.args.policy.now.files c.args.place c.files.f _ c.function_file.ensures _ _
    (opened_more c.args.policy.now.files c.args.place c.files.f _ c.function_file.ensures _ _ _ inv.opened c.in_ok-module.ensures.steps.0)

pub files-preserved : goal.files-preserved
files-preserved g c =
    let inv = c.files.invariant in
    let read = c.in_ok-module.ensures.steps in
    record {
      opened = opened_more c.args.policy.now.files c.args.place c.files.f _ c.function_file.ensures _ _ _ inv.opened read.0;
      read = read_more c.args.policy.now.files c.args.place c.files.f _ c.function_file.ensures _ _ c.files.modules.items c.in_ok-module.module _ inv.opened inv.read read.1 c.in-Ok.ensures.items;
      many = ap length c.in-Ok.ensures.items ∙ length-append c.files.modules.items (c.in_ok-module.module ∷ []) ∙ omega (arith, inv.many);
    }
