use Rattle.std.proofs.Common.{◌≡◌, refl, ap, Err}
use Rattle.file_calls.specs.Sources.{Source}
use Rattle.file_calls.proofs.OneFile.{opens_one, faults_rose, too_long, IfSome-map, IfSome-all}
use Rattle.file_calls.proofs.read.read_file.Goals as goal

pub returns-in-Err-Fault-clause-steps : goal.returns-in-Err-Fault-clause-steps
returns-in-Err-Fault-clause-steps g c =
    let told = c.in-Err-Fault.ensures in record {
      opened = opens_one _ _ _ _ told.one (record { prefix = told.prefix; most = told.taken });
      caused = (faults_rose _ _ _ told.one (told.fault (ap Err c.in-Err-Fault.field-0-is)), IfSome-all _ (λ held. refl));
    }

pub returns-in-Err-TooLong-clause-steps : goal.returns-in-Err-TooLong-clause-steps
returns-in-Err-TooLong-clause-steps g c =
    let told = c.in-Err-TooLong.ensures in
    let new = g.F.Files.seen c.read_whole.new.files in
    let source : Source = record { name = c.args.name.now; limit = c.args.limit } in record {
      opened = opens_one _ source _ _ told.one (record { prefix = told.prefix; most = told.taken });
      caused = too_long _ c.args.place source (g.F.Files.seen c.args.files.now).held new.current
          (λ t. g.met.F.Files.tells c.read_whole.new.files (rw told.one.held t))
          (IfSome-map new.current (λ r k. k.0 (ap Err c.in-Err-TooLong.field-0-is)) told.too_long) told.prefix;
    }

pub returns-in-Err-NoMemory-clause-steps : goal.returns-in-Err-NoMemory-clause-steps
returns-in-Err-NoMemory-clause-steps g c =
    let told = c.in-Err-NoMemory.ensures in record { opened = (c.args.place, opens_one _ _ _ _ told.one (record { prefix = told.prefix; most = told.taken })); caused = tt }
