use Rattle.std.proofs.Common.{ℕ, ◌+◌, arith, sym, subst}
use Rattle.label_lattice.proofs.Bits.{Column, Column-none, Column-set, Column-kept, Column-all}
use Rattle.label_lattice.proofs.table.column.Goals as goal
use Rattle.label_lattice.proofs.table.column.Goals.{then-rows-a-eq1, else-rows-a-eq1}

pub rows-init : goal.rows-init
rows-init c = Column-none _ _

pub rows-preserved : goal.rows-preserved
rows-preserved c =
    let rows = c.args.rows.now in let b = c.args.b in let a = c.rows.a in
    elim c.if-rows-a-eq1.branch [
      | then-rows-a-eq1 w ↦ subst (λ (x : ℕ). Column rows b x (a + 1)) (sym w.labels-is) (Column-set rows b c.rows.labels a c.rows.invariant (omega arith) w.if-rows-a-eq1.true)
      | else-rows-a-eq1 w ↦ subst (λ (x : ℕ). Column rows b x (a + 1)) (sym w.labels-is) (Column-kept rows b c.rows.labels a c.rows.invariant w.if-rows-a-eq1.false)
    ]

pub returns : goal.returns
returns c = Column-all c.args.rows.now c.args.b c.rows.labels c.rows.a c.rows.invariant (omega arith)
