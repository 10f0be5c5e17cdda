use Rattle.std.proofs.Common.{sym, ap, subst, arith}
use Rattle.label_lattice.specs.Order.{count}
use Rattle.facet_list.specs.Rows.{AreBelow}
use Rattle.facet_list.proofs.Sizes.{store_empty}
use Rattle.flow_check.proofs.checker.Checker.new.Goals as goal

pub returns-clause-labels : goal.returns-clause-labels
returns-clause-labels c =
    let n = count c.args.policy.now.lattice in
    record {
      counted = let k = c.in_ok-resize.ensures.len in let m = c.resize.new.self.ok in let r = c.in_ok-resize.was in let e = ap count c.lattice.ensures.lattice in omega (arith, k, m, e);
      below = subst (AreBelow n) (sym c.new.ensures) (store_empty n).below;
      last = tt;
    }
