use Rattle.std.proofs.Common.{◌≡◌, ◌∙◌, ℕ, List, [], true, false, ap, sym, subst, take, length, get_or, ◌<◌, arith}
use Rattle.std.specs.Cmp.{both_ways}
use Rattle.std.specs.List.{list_any}
use Rattle.std.proofs.Math.Seq.{take-length}
use Rattle.std.proofs.lemmas.List.{get_or_default}
use Rattle.trapeze_io.specs.Names.{is_name}
use Rattle.trapeze_io.specs.contracts.names.NamePartialEq.TheImpl.{eq-value}
use Rattle.label_lattice.specs.Faults.{is_repeated, name_fault}
use Rattle.label_lattice.specs.Sound.{AreNames}
use Rattle.label_lattice.proofs.NameFaults.{AreNames-faultless, first_next, first_here, first_end, bad_fault, repeated_fault, no_fault, repeated_in, not_false, not_true, added_name}
use Rattle.label_lattice.proofs.names.Names.read.Goals as goal

pub returns-in_default-clause-fault : goal.returns-in_default-clause-fault
returns-in_default-clause-fault c = λ _.
    let names = c.args.names.now in let i = c.names.i in
    let lt : i < length names = omega arith in
    let here : c.as_slice.result.now ≡ get_or names i [] = c.as_slice.ensures ∙ c.index-names-i.is ∙ get_or_default names i _ [] lt in
    let bad : is_name (get_or names i []) ≡ false = ap is_name (sym here) ∙ both_ways (is_name c.as_slice.result.now) false (λ h. absurd (c.in_default.ensures h)) (λ h. cc) in
    c.names.invariant.fault ∙ first_here (name_fault names) i (length names) _ lt (bad_fault names i bad)

pub returns-in-Ok-false-clause-fault : goal.returns-in-Ok-false-clause-fault
returns-in-Ok-false-clause-fault c = λ _.
    let names = c.args.names.now in let i = c.names.i in
    let lt : i < length names = omega arith in
    let here : c.as_slice.result.now ≡ get_or names i [] = c.as_slice.ensures ∙ c.index-names-i.is ∙ get_or_default names i _ [] lt in
    let good : is_name (get_or names i []) ≡ true = ap is_name (sym here) ∙ c.in-Some.ensures.0 in
    let has : list_any (eq-value.it c.in-Some.name) c.names.set.keys ≡ true = not_false _ (sym c.in-Ok-false.ensures.added ∙ c.in-Ok-false.field-0-test) in
    let again : is_repeated names i ≡ true = sym (repeated_in names i c.in-Some.name c.names.set.keys (c.in-Some.ensures.1 ∙ here) c.names.invariant.read) ∙ has in
    c.names.invariant.fault ∙ first_here (name_fault names) i (length names) _ lt (repeated_fault names i good again)

pub names-preserved : goal.names-preserved
names-preserved c =
    let names = c.args.names.now in let i = c.names.i in
    let lt : i < length names = omega arith in
    let here : c.as_slice.result.now ≡ get_or names i [] = c.as_slice.ensures ∙ c.index-names-i.is ∙ get_or_default names i _ [] lt in
    let good : is_name (get_or names i []) ≡ true = ap is_name (sym here) ∙ c.in-Some.ensures.0 in
    let lacks : list_any (eq-value.it c.in-Some.name) c.names.set.keys ≡ false = not_true _ (sym c.in-Ok-true.ensures.added ∙ c.in-Ok-true.field-0-test) in
    let fresh : is_repeated names i ≡ false = sym (repeated_in names i c.in-Some.name c.names.set.keys (c.in-Some.ensures.1 ∙ here) c.names.invariant.read) ∙ lacks in
    record {
      read = added_name names i c.in-Some.name c.names.set.keys _ _ lt (c.in-Some.ensures.1 ∙ here) c.names.invariant.read lacks c.in-Ok-true.ensures.keys;
      fault = c.names.invariant.fault ∙ first_next (name_fault names) i (length names) lt (no_fault names i good fresh);
    }

pub invariant_of-result : goal.invariant_of-result
invariant_of-result c =
    let names = c.args.names.now in
    let end : c.names.i ≡ length names = omega arith in
    let all : c.names.set.keys ≡ names = c.names.invariant.read ∙ ap (λ n. take n names) end ∙ take-length names in
    subst (λ (ks : List (List ℕ)). AreNames ks) (sym all)
    (AreNames-faultless names c.requires.some c.requires.few (c.names.invariant.fault ∙ first_end (name_fault names) c.names.i (length names) (omega arith)))
