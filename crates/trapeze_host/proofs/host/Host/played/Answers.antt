use Rattle.std.proofs.Common.{sym}
use Rattle.trapeze_host.proofs.Hosts.{played_inside}
use Rattle.trapeze_host.proofs.host.Host.played.Goals as goal

pub returns : goal.returns
returns g c = sym (played_inside _ c.args.self.now c.self.view_is)
