use Rattle.std.proofs.Common.{◌≡◌, ℕ, List, arith, refl, subst}
use Rattle.std.specs.Prelude.{min, max}
use Rattle.label_lattice.specs.Rows.{bit}
use Rattle.label_lattice.proofs.Bits.{SoFar-more, SoFar-all}
use Rattle.label_lattice.proofs.table.Table.add.Goals as goal

pub rows-init : goal.rows-init
rows-init c = record { long = refl; done = λ a b h. absurd (omega arith); rest = λ a h. refl }

pub rows-preserved : goal.rows-preserved
rows-preserved c = SoFar-more _ c.rows.invariant (omega arith) c.joined.ensures

pub returns : goal.returns
returns c = subst (λ (now : List ℕ). (a b : ℕ) → bit c.rows.row-items a b ≡ max (bit now a b) (min (bit now a c.args.from) (bit now c.args.to b))) c.self.view_is
    (SoFar-all c.self.inside.rows c.rows.row-items c.args.from _ c.rows.row-index c.rows.invariant (omega arith))
