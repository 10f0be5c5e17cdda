use Rattle.std.proofs.Common.{◌≡◌, ◌∙◌, Bool, true, false, ap, sym, arith, find}
use Rattle.std.specs.Prelude.{◌&&◌}
use Rattle.label_lattice.specs.Rows.{row_flows}
use Rattle.label_lattice.proofs.Ranges.{pairs_more, find_pair_here, find_pair_next}
use Rattle.label_lattice.proofs.search.cycle_of.Goals as goal
use Rattle.label_lattice.proofs.search.cycle_of.Goals.{else-flows-via-then-flows+else-flows-2, else-flows-via-else-flows}

both : (x y : Bool) → x ≡ true → y ≡ true → (x && y) ≡ true
both true y h k = k
both false y h k = h

not_second : (x y : Bool) → y ≡ false → (x && y) ≡ false
not_second true y h = h
not_second false y h = λ i. false

not_first : (x y : Bool) → x ≡ false → (x && y) ≡ false
not_first true y h = cc
not_first false y h = λ i. false

pub seconds-init : goal.seconds-init
seconds-init c = c.firsts.invariant ∙ ap (find (λ p. row_flows c.args.table.now p.0 p.1 && row_flows c.args.table.now p.1 p.0)) (pairs_more c.firsts.a c.args.count (omega arith))

pub seconds-preserved : goal.seconds-preserved
seconds-preserved c =
    let f = row_flows c.args.table.now in let a = c.firsts.a in let b = c.seconds.b in
    let none : (f a b && f b a) ≡ false = elim c.else-flows.branch [
      | else-flows-via-then-flows+else-flows-2 w ↦ not_second (f a b) (f b a) (sym w.flows-then-flows.ensures ∙ w.if-flows-2.false)
      | else-flows-via-else-flows w ↦ not_first (f a b) (f b a) (sym c.flows.ensures ∙ w.if-flows.false)
    ] in
    c.seconds.invariant ∙ find_pair_next (λ p. f p.0 p.1 && f p.1 p.0) a b c.args.count (omega arith) none

pub returns-then-flows-2 : goal.returns-then-flows-2
returns-then-flows-2 c =
    let f = row_flows c.args.table.now in let a = c.firsts.a in let b = c.seconds.b in
    let found = c.seconds.invariant ∙ find_pair_here (λ p. f p.0 p.1 && f p.1 p.0) a b c.args.count (omega arith)
    (both (f a b) (f b a) (sym c.flows.ensures ∙ c.if-flows.true) (sym c.flows-then-flows.ensures ∙ c.if-flows-2.true)) in
    sym found
