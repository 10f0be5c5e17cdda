use Rattle.std.proofs.Common.{◌≡◌, ℕ, arith, subst}
use Rattle.label_lattice.proofs.Bits.{Ones, Ones-none, Ones-more, Ones-closure}
use Rattle.label_lattice.proofs.table.Table.new.Goals as goal

pub labels-init : goal.labels-init
labels-init c = Ones-none

pub labels-preserved : goal.labels-preserved
labels-preserved c = Ones-more _ c.labels.invariant (omega arith)

pub returns : goal.returns
returns c = let e : c.labels.a ≡ c.args.count = omega arith in Ones-closure c.labels.rows c.args.count (subst (λ (n : ℕ). Ones c.labels.rows n) e c.labels.invariant)
