use Rattle.std.proofs.Common.{◌≡◌, ◌∙◌, true, false, ap, sym, arith, find}
use Rattle.std.specs.Prelude.{not}
use Rattle.std.specs.Option.{is_some}
use Rattle.label_lattice.specs.Rows.{row_flows}
use Rattle.label_lattice.specs.Joins.{labels, is_join, has_join}
use Rattle.label_lattice.proofs.Ranges.{pairs_more, find_pair_here, find_pair_next, is_some_find}
use Rattle.label_lattice.proofs.search.no_join_of.Goals as goal

pub seconds-init : goal.seconds-init
seconds-init c = c.firsts.invariant ∙ ap (find (λ p. not (has_join c.args.count (row_flows c.args.table.now) p.0 p.1))) (pairs_more c.firsts.a c.args.count (omega arith))

pub seconds-preserved : goal.seconds-preserved
seconds-preserved c =
    let f = row_flows c.args.table.now in let n = c.args.count in let a = c.firsts.a in let b = c.seconds.b in
    let has : has_join n f a b ≡ true = sym (is_some_find (is_join n f a b) (labels n)) ∙ ap is_some (sym c.join.ensures) ∙ c.is_none.ensures ∙ ap not c.if-is_none.false in
    c.seconds.invariant ∙ find_pair_next (λ p. not (has_join n f p.0 p.1)) a b n (omega arith) (ap not has)

pub returns-then-is_none : goal.returns-then-is_none
returns-then-is_none c =
    let f = row_flows c.args.table.now in let n = c.args.count in let a = c.firsts.a in let b = c.seconds.b in
    let lacks : has_join n f a b ≡ false = sym (is_some_find (is_join n f a b) (labels n)) ∙ ap is_some (sym c.join.ensures) ∙ c.is_none.ensures ∙ ap not c.if-is_none.true in
    let found = c.seconds.invariant ∙ find_pair_here (λ p. not (has_join n f p.0 p.1)) a b n (omega arith) (ap not lacks) in
    sym found
