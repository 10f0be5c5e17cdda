use Rattle.std.proofs.Common.{◌≡◌, ℕ, ◌<◌, List, arith, subst}
use Rattle.label_lattice.specs.Rows.{bit}
use Rattle.label_lattice.proofs.Bits.{bit_past}
use Rattle.label_lattice.proofs.table.Table.turned.Goals as goal

pub returns-clause-turned : goal.returns-clause-turned
returns-clause-turned c = subst (λ (now : List ℕ). (a b : ℕ) → a < 64 → bit c.labels.rows a b ≡ bit now b a) c.self.view_is (λ a b lt. c.labels.invariant.done a (omega arith) b)

pub returns-clause-empty : goal.returns-clause-empty
returns-clause-empty c = λ a b ge. bit_past c.labels.rows a b (omega (arith, c.labels.invariant.long))
