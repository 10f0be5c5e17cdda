use Rattle.std.proofs.Common.{◌∙◌, ◌<◌, sym, ap, subst, List, ℕ, length}
use Rattle.std.specs.Prelude.{All}
use Rattle.std.specs.Option.{option_copied}
use Rattle.std.proofs.lemmas.List.{take_all}
use Rattle.std.proofs.lemmas.List.Elements.{All-get_or}
use Rattle.label_lattice.specs.Order.{count}
use Rattle.label_lattice.specs.Reach.{flows}
use Rattle.facet_list.specs.Store.{Write, read}
use Rattle.trapeze_io.specs.Sizes.{IsValue}
use Rattle.facet_list.specs.Rows.{rows_of, AreBelow}
use Rattle.facet_list.proofs.RowLaws.{read_rows_of, read_more}
use Rattle.facet_list.proofs.Sizes.{below_of, read_sized}
use Rattle.facet_list.proofs.list.FacetListFacets.read.Goals as goal
use Rattle.facet_list.proofs.list.FacetListFacets.read.Goals.{then-is_seen, else-is_seen}

pub is_seen-requires-clause-label : goal.is_seen-requires-clause-label
is_seen-requires-clause-label c =
    let below = subst (λ (w : List Write). All (λ x. x.label < count c.args.lattice.now) w) (sym c.deref-write-items.ensures.value) (below_of (count c.args.lattice.now) c.args.self.now.writes.items (subst (λ (n : ℕ). AreBelow n (rows_of c.args.self.now.writes.items)) (sym c.requires.labels) c.args.self.now.sound.below)) in
    subst (λ (x : Write). x.label < count c.args.lattice.now) (sym c.write-item.is)
    (All-get_or (λ (x : Write). x.label < count c.args.lattice.now) c.deref-write-items.result.now c.writes.write-index c.write-item.result c.writes-test.true below)

pub writes-preserved : goal.writes-preserved
writes-preserved c =
    let more = read_more (flows c.args.lattice.now) c.args.at.number c.args.key.now c.deref-write-items.result.now c.writes.write-index c.write-item.result c.is_seen.result c.writes-test.true c.write-item.is c.is_seen.ensures in
    elim c.if-is_seen.branch [
      | then-is_seen w ↦ (let full = rw w.if-is_seen.true at more in ap option_copied w.found-is ∙ w.value-found.ensures ∙ sym full)
      | else-is_seen w ↦ (let same = rw w.if-is_seen.false at more in ap option_copied w.found-is ∙ c.writes.invariant ∙ sym same)
    ]

pub returns-clause-value : goal.returns-clause-value
returns-clause-value c = c.writes.invariant
    ∙ ap (read (flows c.args.lattice.now) c.args.at.number c.args.key.now) (take_all c.writes.write-index c.deref-write-items.result.now c.writes-test.false ∙ c.deref-write-items.ensures.value)
    ∙ sym (read_rows_of (flows c.args.lattice.now) c.args.at.number c.args.key.now c.args.self.now.writes.items)

pub returns-clause-sized : goal.returns-clause-sized
returns-clause-sized c = subst IsValue (sym (returns-clause-value c)) (read_sized (flows c.args.lattice.now) c.args.at.number (length c.args.self.now.limits.items) (rows_of c.args.self.now.writes.items) c.args.key.now c.args.self.now.sound)
