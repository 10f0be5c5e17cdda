use Rattle.std.proofs.Common.{sym}
use Rattle.trapeze_host.proofs.Hosts.{spent_inside}
use Rattle.trapeze_host.proofs.host.Host.spent.Goals as goal

pub returns : goal.returns
returns g c = sym (spent_inside _ c.args.self.now c.self.view_is)
