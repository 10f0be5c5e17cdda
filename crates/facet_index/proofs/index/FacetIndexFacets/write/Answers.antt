use Rattle.std.proofs.Common.{◌∙◌, ap, sym, cond, length}
use Rattle.std.specs.Option.{option_copied}
use Rattle.facet_list.specs.declared.facets.Wrote.TheVariants as Wrote
use Rattle.facet_list.specs.Store.{Write, written}
use Rattle.facet_rows.specs.Rows.{rows_in}
use Rattle.facet_index.proofs.Metering.{fits_sized, counted_sized, metered_charged, stored}
use Rattle.facet_index.proofs.index.FacetIndexFacets.write.Goals as goal

pub returns-then-not-fits-clause-fits : goal.returns-then-not-fits-clause-fits
returns-then-not-fits-clause-fits c =
    let x : Write = written c.args.at.number c.args.key.now (option_copied c.args.value) in
    sym (ap (λ b. cond b Wrote.Done Wrote.Full) (fits_sized c.args.self.now.meter (rows_in c.args.self.now.rows) x c.size_at-old.result c.size_of-new.result c.fits.result
    c.args.self.now.metered c.requires.at c.size_at-old.ensures c.size_of-new.ensures c.fits.ensures ∙ c.if-not-fits.true))

pub returns-clause-fits : goal.returns-clause-fits
returns-clause-fits c =
    let x : Write = written c.args.at.number c.args.key.now (option_copied c.args.value) in
    sym (ap (λ b. cond b Wrote.Done Wrote.Full) (fits_sized c.args.self.now.meter (rows_in c.args.self.now.rows) x c.size_at-old.result c.size_of-new.result c.fits.result
    c.args.self.now.metered c.requires.at c.size_at-old.ensures c.size_of-new.ensures c.fits.ensures ∙ c.if-not-fits.false))

pub charge-requires-clause-counted : goal.charge-requires-clause-counted
charge-requires-clause-counted c = counted_sized c.args.self.now.meter (rows_in c.args.self.now.rows) (c.args.key.now, c.args.at.number) c.size_at-old.result c.args.self.now.metered c.requires.at c.size_at-old.ensures

pub invariant_of-self-2 : goal.invariant_of-self-2
invariant_of-self-2 c =
    let x : Write = written c.args.at.number c.args.key.now (option_copied c.args.value) in
    let rows = rows_in c.args.self.now.rows in
    record {
      sound = stored (length c.args.self.now.meter.limits) (length c.charge.new.self.limits) rows (rows_in c.write.new.self) x c.args.self.now.sound
          (record { key_fits = c.requires.key; value_fits = c.requires.value }) c.requires.at (ap length c.charge.ensures.limits) c.in-Ok.ensures.ok;
      metered = metered_charged c.args.self.now.meter c.charge.new.self rows (rows_in c.write.new.self) x c.size_at-old.result c.size_of-new.result c.args.self.now.metered c.requires.at
          c.size_at-old.ensures c.size_of-new.ensures c.charge.ensures.counts c.charge.ensures.limits c.in-Ok.ensures.ok;
    }
