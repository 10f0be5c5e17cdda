use Rattle.std.proofs.Common.{◌≡◌, ℕ, ◌+◌, suc, ◌∷◌, List, Some, Err, length, drop, sym, ◌∙◌, ap, subst, rules}
use Rattle.std.proofs.Math.Seq.{drop-cons}
use Rattle.std.proofs.lemmas.Result.{err_from_is_err_and}
use Rattle.toml.specs.Data.{Data}
use Rattle.toml.specs.View.{view, items_view}
use Rattle.toml.specs.declared.value.Value.{Value}
use Rattle.policy_toml.specs.declared.error.PolicyError.{PolicyError}
use Rattle.policy_toml.specs.Faults.{fault_of}
use Rattle.policy_toml.specs.Rows.{each_row, items_of}
use Rattle.policy_toml.specs.Labels.{label_row}
use Rattle.policy_toml.proofs.Rows.{SoFar, SoFar-stops}
use Rattle.policy_toml.proofs.labels.label_rows.Goals as goal

pub returns-in_err-label : goal.returns-in_err-label
returns-in_err-label c =
    let all = items_of (items_view c.args.values.now) in let found = c.rows.labels.items in let item = c.value-item.result in
    let rest = drop (suc c.rows.value-index) c.args.values.now in
    let left : drop c.rows.value-index c.args.values.now ≡ item ∷ rest = drop-cons c.args.values.now c.rows.value-index item c.rows-test.true ∙ ap (λ v. v ∷ rest) (sym c.value-item.is) in
    let so : SoFar label_row all (view item ∷ items_of (items_view rest)) found = subst (λ (x : List Value). SoFar label_row all (items_of (items_view x)) found) left c.rows.invariant in
    let so_many : c.len.result ≡ length found = search rules in
    let stops : (fault : PolicyError) → fault_of c.in_err-label.field-0.0 ≡ Some fault → each_row label_row 1 all ≡ Err fault = λ fault is.
    SoFar-stops label_row all (view item) (items_of (items_view rest)) found fault so
    (subst (λ (x : ℕ). label_row (x + 1) (view item) ≡ Err fault) so_many (c.in_err-label.ensures fault is)) in
    let error = err_from_is_err_and c.from_residual.result c.from_residual.ensures.1 in
    rw (error.1, error.2) stops
