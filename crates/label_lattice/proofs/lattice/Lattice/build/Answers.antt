use Rattle.std.proofs.Common.{◌≡◌, ◌∙◌, ℕ, ◌<◌, ◌≤◌, List, length, ap, sym, subst, arith}
use Rattle.std.proofs.lemmas.Result.{err_from_is_err_and}
use Rattle.label_lattice.specs.Rows.{ArePairs, IsClosed, row_flows}
use Rattle.label_lattice.specs.Reach.{pairs_numbered}
use Rattle.label_lattice.specs.Faults.{end_fault, order_fault}
use Rattle.label_lattice.proofs.WhenALattice.{some_names}
use Rattle.label_lattice.proofs.NamePairs.{numbered_pairs, IsClosed-closure}
use Rattle.label_lattice.proofs.FaultsByStage.{fault_of_ends, fault_of_order, sound, closure_same}
use Rattle.label_lattice.proofs.lattice.Lattice.build.Goals as goal

pub returns-in_err-pairs-clause-fault : goal.returns-in_err-pairs-clause-fault
returns-in_err-pairs-clause-fault c =
    let names = c.args.names.now in let flows = c.args.flows.now in let read = c.in_ok-names.ensures in
    let some : 0 < length names = (some_names (length names)).0 (sym c.is_empty.ensures ∙ c.if-is_empty.false) in let few : length names ≤ 64 = omega arith in
    let p = err_from_is_err_and c.from_residual-in_err-pairs.result c.from_residual-in_err-pairs.ensures.1 in
    rw (p.1, p.2) (λ ne. fault_of_ends names flows some few read.fault _ (ap (λ n. end_fault n flows) (sym read.names) ∙ c.in_err-pairs.ensures.fault ne))

pub closure-table-requires-clause-within : goal.closure-table-requires-clause-within
closure-table-requires-clause-within c =
    let names = c.in_ok-names.names in let flows = c.args.flows.now in
    let same : c.deref.result.now ≡ pairs_numbered names flows = c.deref.ensures.value ∙ c.in_ok-pairs.ensures.pairs in
    subst (λ (n : ℕ). ArePairs n c.deref.result.now) (sym c.count-count.ensures.count) (subst (λ (ps : List (ℕ × ℕ)). ArePairs (length names) ps) (sym same) (numbered_pairs names flows))

pub check-requires-clause-closed : goal.check-requires-clause-closed
check-requires-clause-closed c =
    let names = c.in_ok-names.names in let flows = c.args.flows.now in let rows = c.closure-table.result in
    let same : c.deref.result.now ≡ pairs_numbered names flows = c.deref.ensures.value ∙ c.in_ok-pairs.ensures.pairs in
    subst (λ (n : ℕ). IsClosed n rows) (sym c.count-count.ensures.count)
    (IsClosed-closure (length names) (pairs_numbered names flows) rows (numbered_pairs names flows) (closure_same rows c.count-count.ensures.count same c.closure-table.ensures))

pub returns-in_err-check-clause-fault : goal.returns-in_err-check-clause-fault
returns-in_err-check-clause-fault c =
    let names = c.args.names.now in let flows = c.args.flows.now in let read = c.in_ok-names.ensures in let rows = c.closure-table.result in
    let some : 0 < length names = (some_names (length names)).0 (sym c.is_empty.ensures ∙ c.if-is_empty.false) in let few : length names ≤ 64 = omega arith in
    let p = err_from_is_err_and c.from_residual-in_err-check.result c.from_residual-in_err-check.ensures.1 in
    let known = ap (λ n. end_fault n flows) (sym read.names) ∙ c.in_ok-pairs.ensures.fault in
    let size : c.count-count.result ≡ length names = c.count-count.ensures.count ∙ ap length read.names in
    let same : c.deref.result.now ≡ pairs_numbered names flows = c.deref.ensures.value ∙ c.in_ok-pairs.ensures.pairs ∙ ap (λ n. pairs_numbered n flows) read.names in
    rw (p.1, p.2) (λ ne. fault_of_order names flows some few read.fault rows known (closure_same rows size same c.closure-table.ensures) ∙ ap (λ n. order_fault n (row_flows rows)) (sym size) ∙ c.in_err-check.ensures ne)

pub invariant_of-result : goal.invariant_of-result
invariant_of-result c =
    let names = c.in_ok-names.names in let flows = c.args.flows.now in let rows = c.closure-table.result in
    let size = c.count-count.ensures.count in let same : c.deref.result.now ≡ c.in_ok-pairs.pairs.items = c.deref.ensures.value in
    let none = ap (λ n. order_fault n (row_flows rows)) (sym size) ∙ c.in_ok-check.ensures in
    let within = subst (λ (ps : List (ℕ × ℕ)). ArePairs (length names) ps) (sym c.in_ok-pairs.ensures.pairs) (numbered_pairs names flows) in
    let closure = closure_same rows size same c.closure-table.ensures in
    (sound names c.in_ok-pairs.pairs.items rows c.count-count.ensures.names within closure none, within, closure)

pub returns-clause-fault : goal.returns-clause-fault
returns-clause-fault c =
    let names = c.args.names.now in let flows = c.args.flows.now in let read = c.in_ok-names.ensures in let rows = c.closure-table.result in
    let some : 0 < length names = (some_names (length names)).0 (sym c.is_empty.ensures ∙ c.if-is_empty.false) in let few : length names ≤ 64 = omega arith in
    let known = ap (λ n. end_fault n flows) (sym read.names) ∙ c.in_ok-pairs.ensures.fault in
    let size : c.count-count.result ≡ length names = c.count-count.ensures.count ∙ ap length read.names in
    let same : c.deref.result.now ≡ pairs_numbered names flows = c.deref.ensures.value ∙ c.in_ok-pairs.ensures.pairs ∙ ap (λ n. pairs_numbered n flows) read.names in
    fault_of_order names flows some few read.fault rows known (closure_same rows size same c.closure-table.ensures) ∙ ap (λ n. order_fault n (row_flows rows)) (sym size) ∙ c.in_ok-check.ensures
