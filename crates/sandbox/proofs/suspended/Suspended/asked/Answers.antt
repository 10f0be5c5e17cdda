use Rattle.std.proofs.Common.{refl}
use Rattle.sandbox.specs.Threads.{asked_of}
use Rattle.sandbox.proofs.suspended.Suspended.asked.Goals as goal

pub returns : goal.returns
unfolding asked_of
returns c = refl
