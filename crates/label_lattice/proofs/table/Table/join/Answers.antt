use Rattle.std.proofs.Common.{◌∙◌, ℕ, List, ap, sym, arith, subst, find}
use Rattle.label_lattice.specs.Rows.{IsClosed, row_flows}
use Rattle.label_lattice.specs.Joins.{labels, is_join}
use Rattle.label_lattice.proofs.Ranges.{labels_from_zero, find_here, find_next, find_end}
use Rattle.label_lattice.proofs.JoinsByBits.{is_join_here, is_join_elsewhere}
use Rattle.label_lattice.proofs.table.Table.join.Goals as goal

pub labels-init : goal.labels-init
labels-init c = ap (find (is_join c.args.count (row_flows c.self.inside.rows) c.args.a c.args.b)) (labels_from_zero c.args.count)

pub labels-preserved : goal.labels-preserved
labels-preserved c =
    let closed : IsClosed c.args.count c.self.inside.rows = subst (λ (r : List ℕ). IsClosed c.args.count r) (sym c.self.view_is) c.requires.closed in
    c.labels.invariant ∙ find_next _ c.labels.j c.args.count (omega arith) (is_join_elsewhere c.args.count c.self.inside.rows closed c.args.a c.args.b c.labels.j c.requires.left c.requires.right (omega arith) c.if-self-j.false)

pub returns-then-self-j : goal.returns-then-self-j
returns-then-self-j c =
    let closed : IsClosed c.args.count c.self.inside.rows = subst (λ (r : List ℕ). IsClosed c.args.count r) (sym c.self.view_is) c.requires.closed in
    sym (c.labels.invariant ∙ find_here _ c.labels.j c.args.count (omega arith) (is_join_here c.args.count c.self.inside.rows closed c.args.a c.args.b c.labels.j c.requires.left c.requires.right (omega arith) c.if-self-j.true))
    ∙ ap (λ r. find (is_join c.args.count (row_flows r) c.args.a c.args.b) (labels c.args.count)) c.self.view_is

pub returns : goal.returns
returns c = sym (c.labels.invariant ∙ find_end _ c.labels.j c.args.count (omega arith)) ∙ ap (λ r. find (is_join c.args.count (row_flows r) c.args.a c.args.b) (labels c.args.count)) c.self.view_is
