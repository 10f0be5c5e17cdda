use Rattle.std.proofs.Common.{◌≡◌, refl, subst}
use Rattle.std.specs.Bool.{Decides}
use Rattle.label_lattice.specs.Order.{Order}
use Rattle.label_lattice.specs.Reach.{flows}
use Rattle.facet_list.specs.Rows.{row_of, read_row}
use Rattle.facet_rows.specs.Rows.{rows_in}
use Rattle.host_rules.specs.Policies.{rules_of}
use Rattle.flow_check.specs.declared.verdict.Rule.TheVariants.{Read, Facet}
use Rattle.flow_check.proofs.Deciding.{fault_from, decides_read, decides_last}
use Rattle.flow_check.proofs.rules.fault.Goals as goal

pub returns-in-Read : goal.returns-in-Read
returns-in-Read c = λ before kept.
    let l = c.args.line.now.label.number in
    let key = c.in-Read.key in
    let value = c.in-Read.value in
    fault_from (rules_of c.args.policy.now) before c.args.line.now Read _ c.reads-passes.result c.unless.result c.in-Read.is refl
    (decides_read c.reads-passes.result (rules_of c.args.policy.now) l key value (rows_in c.args.rows.now) before kept.tells.rows_are
    (subst (λ (o : Order). Decides c.reads-passes.result (value ≡ read_row (flows o) l (row_of (rows_in c.args.rows.now) key))) c.lattice.ensures.lattice c.reads-passes.ensures)) c.unless.ensures

pub returns-in-Facet : goal.returns-in-Facet
returns-in-Facet c = λ before kept.
    fault_from (rules_of c.args.policy.now) before c.args.line.now Facet _ c.is_last-passes.result c.unless-in-Facet.result c.in-Facet.is refl
    (decides_last c.is_last-passes.result c.args.line.now.label.number c.in-Facet.key c.in-Facet.value (rows_in c.args.rows.now) before kept.tells.rows_are c.is_last-passes.ensures)
    c.unless-in-Facet.ensures
