-- A put.
use Rattle.std.proofs.Common.{◌≡◌, Bool, true, false, cond, List, refl, sym, ◌∙◌, ap}
use Rattle.label_limits.specs.declared.limits.Limits.{Limits}
use Rattle.facet_list.specs.Store.{Write}
use Rattle.facet_list.specs.Rows.{Rows, rows_after}
use Rattle.facet_list.specs.Room.{fits, fits_in}
use Rattle.facet_list.proofs.RowLaws.{rows_of-push}
use Rattle.facet_list.proofs.LiveFacets.{fits_of}
use Rattle.facet_list.specs.declared.facets.Wrote.{Wrote}
use Rattle.facet_list.specs.declared.facets.Wrote.TheVariants.{Done, Full}
use Rattle.trapeze_lines.specs.declared.line.Kind.TheVariants as kind
use Rattle.trapeze_lines.specs.Lines.{line_at}
use Rattle.wasm_semantics.specs.Threads.{Thread}
use Rattle.host_rules.specs.States.{State, Moved, keep, told}
use Rattle.host_rules.specs.Effects.{write}
use Rattle.trapeze_host.specs.declared.kept.Kept.{Kept}
use Rattle.trapeze_host.specs.Loans.{Loan, rules_in}
use Rattle.trapeze_host.specs.Keeping.{Keeps, IsSound}

made_true : (b : Bool) → Done ≡ cond b Done Full → b ≡ true
made_true true e = refl
made_true false e = cc

made_false : (b : Bool) → Full ≡ cond b Done Full → b ≡ false
made_false true e = cc
made_false false e = refl

module _ {F : Type 0} (rows : F → Rows) (limits : F → List Limits) (loan : Loan) (k : Kept F) (x : Write) (s : State Thread) (sound : IsSound limits loan k) (keeps : Keeps rows loan k s)
    (wrote : Wrote) (answers : wrote ≡ cond (fits_in (limits k.facets) (rows k.facets) x) Done Full) where
  fits_is : fits_in (limits k.facets) (rows k.facets) x ≡ fits loan.policy.limits s.store x
  fits_is = ap (λ (ls : List Limits). fits_in ls (rows k.facets) x) sound.stored ∙ (ap (λ (r : Rows). fits_in loan.policy.limits r x) keeps.store ∙ fits_of loan.policy.limits s.store x)

  abbrev made : Moved Thread
  made = told (line_at x.label (kind.Write x.key x.value)) (keep s x)

  abbrev full : Moved Thread
  full = told (line_at x.label (kind.Full x.key)) s

  pub put_made : wrote ≡ Done → write (rules_in loan) x s ≡ made
  put_made e = ap (λ (b : Bool). cond b made full) (sym fits_is ∙ made_true _ (sym e ∙ answers))

  pub put_full : wrote ≡ Full → write (rules_in loan) x s ≡ full
  put_full e = ap (λ (b : Bool). cond b made full) (sym fits_is ∙ made_false _ (sym e ∙ answers))

module _ {F : Type 0} (rows : F → Rows) (loan : Loan) (k : Kept F) (facets : F) (s : State Thread) (keeps : Keeps rows loan k s) where
  -- one write more
  pub keeps_written : (x : Write) → rows facets ≡ rows_after (rows k.facets) x → Keeps rows loan (record k { facets = facets }) (keep s x)
  keeps_written x e = record {
    store = e ∙ (ap (λ r. rows_after r x) keeps.store ∙ sym (rows_of-push s.store x));
    state = ap (λ (s : State Thread). keep s x) keeps.state;
  }

  -- the same rows
  pub keeps_same_rows : rows facets ≡ rows k.facets → Keeps rows loan (record k { facets = facets }) s
  keeps_same_rows e = record { store = e ∙ keeps.store; state = keeps.state }
