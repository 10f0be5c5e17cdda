use Rattle.label_lattice.proofs.Bits.{joined_row}
use Rattle.label_lattice.proofs.table.joined.Goals as goal

pub returns-then-row-from-eq1 : goal.returns-then-row-from-eq1
returns-then-row-from-eq1 c = λ b. joined_row _ _ _ b c.if-row-from-eq1.true
