use Rattle.std.proofs.Common.{◌∙◌, ◌<◌, sym, ap, subst, ◌++◌, ◌∷◌, [], List, length, cond}
use Rattle.std.specs.Prelude.{is_ok}
use Rattle.std.specs.Option.{option_copied}
use Rattle.facet_list.specs.declared.facets.Wrote.TheVariants as Wrote
use Rattle.facet_list.specs.Store.{Write, written}
use Rattle.facet_list.specs.Rows.{rows_of, AreStoreRows, IsSized}
use Rattle.facet_list.proofs.RowLaws.{rows_of-push}
use Rattle.facet_list.proofs.Sizes.{store_push}
use Rattle.facet_list.proofs.Tallies.{fits_told}
use Rattle.facet_list.proofs.list.FacetListFacets.write.Goals as goal

pub invariant_of-self : goal.invariant_of-self
invariant_of-self c =
    let sized : IsSized c.args.key.now (option_copied c.args.value) = record { key_fits = c.requires.key; value_fits = c.requires.value } in
    record {
      sound = subst (λ (w : List Write). AreStoreRows (length c.args.self.now.limits.items) (rows_of w)) (sym c.push.ensures.items)
          (store_push (length c.args.self.now.limits.items) (is_ok c.push.result) c.args.self.now.writes.items c.in-Ok.write c.args.self.now.sound
          (subst (λ (x : Write). IsSized x.key x.value) (sym c.in-Ok.ensures) sized) (subst (λ (x : Write). x.label < length c.args.self.now.limits.items) (sym c.in-Ok.ensures) c.requires.at));
    }

pub returns-clause-done : goal.returns-clause-done
returns-clause-done c = λ e. ap rows_of c.in-Ok-push.ensures.items ∙ ap (λ x. rows_of (c.args.self.now.writes.items ++ x ∷ [])) c.in-Ok.ensures
    ∙ rows_of-push c.args.self.now.writes.items (written c.args.at.number c.args.key.now (option_copied c.args.value))

pub returns-then-not-fits-clause-fits : goal.returns-then-not-fits-clause-fits
returns-then-not-fits-clause-fits c = sym (ap (λ b. cond b Wrote.Done Wrote.Full)
    (fits_told c.args.self.now.limits.items c.args.self.now.writes.items c.deref.result.now (written c.args.at.number c.args.key.now (option_copied c.args.value))
    c.index-limits.result.now c.number.result c.fits.result c.number.ensures c.requires.at c.index-limits.ensures c.deref.ensures.value c.fits.ensures ∙ c.if-not-fits.true))

pub returns-clause-fits : goal.returns-clause-fits
returns-clause-fits c = sym (ap (λ b. cond b Wrote.Done Wrote.Full)
    (fits_told c.args.self.now.limits.items c.args.self.now.writes.items c.deref.result.now (written c.args.at.number c.args.key.now (option_copied c.args.value))
    c.index-limits.result.now c.number.result c.fits.result c.number.ensures c.requires.at c.index-limits.ensures c.deref.ensures.value c.fits.ensures ∙ c.if-not-fits.false))
