use Rattle.std.proofs.Common.{◌≡◌, ap, refl, Err}
use Rattle.trapeze_cli.specs.declared.status.Status.TheVariants.{TooLong}
use Rattle.trapeze_cli.specs.Command.{file_of}
use Rattle.trapeze_cli.specs.Steps.{HasReason}
use Rattle.trapeze_io.proofs.Opens.{OpensAll-one}
use Rattle.trapeze_cli.proofs.Refusals.{too_long, refused_long, IfSome-map}
use Rattle.trapeze_cli.proofs.StepsInTurn.{opens_one, read_failed}
use Rattle.trapeze_cli.proofs.inputs.read_input.Goals as goal

pub returns-in-Ok-clause-steps : goal.returns-in-Ok-clause-steps
returns-in-Ok-clause-steps g c = OpensAll-one _ _ _ c.in-Ok.ensures.one

pub returns-in-Err-Fault-clause-steps : goal.returns-in-Err-Fault-clause-steps
returns-in-Err-Fault-clause-steps g c =
    let told = c.in-Err-Fault.ensures in record {
      opens = opens_one _ _ _ _ (OpensAll-one _ _ _ told.one) refl;
      refused = read_failed _ _ _ told.one (told.fault (ap Err c.in-Err-Fault.field-0-is));
    }

pub returns-in-Err-TooLong-clause-steps : goal.returns-in-Err-TooLong-clause-steps
returns-in-Err-TooLong-clause-steps g c =
    let told = c.in-Err-TooLong.ensures in
    let new = g.F.Files.seen c.read_whole.new.files in record {
      opens = opens_one _ _ _ _ (OpensAll-one _ _ _ told.one) refl;
      refused =
          refused_long (HasReason (λ held r. file_of held c.args.name.now c.args.limit c.args.input ≡ r) (g.F.Files.seen c.args.files.now) new (TooLong c.args.input)) c.args.input c.requires
          (too_long (g.F.Files.seen c.args.files.now).held c.args.name.now c.args.limit c.args.input new.current
          (λ t. g.met.F.Files.tells c.read_whole.new.files (rw told.one.held t))
          (IfSome-map new.current (λ r k. k.0 (ap Err c.in-Err-TooLong.field-0-is)) told.too_long) told.prefix);
    }

pub returns-in-Err-NoMemory-clause-steps : goal.returns-in-Err-NoMemory-clause-steps
returns-in-Err-NoMemory-clause-steps g c =
    let told = c.in-Err-NoMemory.ensures in record { opens = opens_one _ _ _ _ (OpensAll-one _ _ _ told.one) tt; refused = tt }
