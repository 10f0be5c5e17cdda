use Rattle.std.proofs.Common.{sym, subst, Option, Some, Vec, Global, ℕ}
use Rattle.std.specs.Prelude.{option_map}
use Rattle.std.specs.Borrow.{Bor}
use Rattle.label_lattice.specs.declared.label.Label.{Label}
use Rattle.facet_list.specs.Walk.{slot_after, facet_lent}
use Rattle.facet_list.specs.Kept.{IsLeast}
use Rattle.facet_rows.specs.Rows.{entry_rows, row_lent}
use Rattle.facet_rows.proofs.NextFacets.{first_least, rest_least, next_least}
use Rattle.facet_rows.proofs.walk.least_after.Goals as goal

pub returns-in_default : goal.returns-in_default
returns-in_default c = subst (λ (a : Option (Bor (Vec ℕ Global) × Label)). IsLeast (entry_rows c.args.rows.now.entries) (slot_after a) (option_map facet_lent c.first_of.result)) (sym c.in_default.is)
    (first_least (entry_rows c.args.rows.now.entries) (option_map row_lent c.first_row.result) (option_map facet_lent c.first_of.result) c.first_row.ensures c.first_of.ensures)

pub returns-in-Some-rest_of : goal.returns-in-Some-rest_of
returns-in-Some-rest_of c = subst (λ (a : Option (Bor (Vec ℕ Global) × Label)). IsLeast (entry_rows c.args.rows.now.entries) (slot_after a) (Some (facet_lent c.in-Some-rest_of.found))) (sym c.in-Some.is)
    (rest_least (entry_rows c.args.rows.now.entries) c.in-Some.key.now.items c.in-Some.label.number (facet_lent c.in-Some-rest_of.found) c.in-Some-rest_of.ensures)

pub returns-in-None : goal.returns-in-None
returns-in-None c = subst (λ (a : Option (Bor (Vec ℕ Global) × Label)). IsLeast (entry_rows c.args.rows.now.entries) (slot_after a) (option_map facet_lent c.first_of-in-None.result)) (sym c.in-Some.is)
    (next_least (entry_rows c.args.rows.now.entries) c.in-Some.key.now.items c.in-Some.label.number (option_map row_lent c.next_row.result) (option_map facet_lent c.first_of-in-None.result)
    c.in-None.ensures c.next_row.ensures c.first_of-in-None.ensures)
