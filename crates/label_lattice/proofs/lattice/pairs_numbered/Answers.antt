use Rattle.std.proofs.Common.{◌≡◌, ◌∙◌, ℕ, ◌<◌, List, [], ◌∷◌, ◌++◌, Some, None, false, ap, sym, length, get_or, below_more, arith}
use Rattle.std.specs.Prelude.{option_map}
use Rattle.std.specs.Option.{is_none}
use Rattle.std.proofs.lemmas.List.{get_or_default}
use Rattle.label_lattice.specs.declared.error.LatticeError.TheVariants.{UnknownLabel}
use Rattle.label_lattice.specs.Order.{place_of}
use Rattle.label_lattice.specs.Reach.{ends_of}
use Rattle.label_lattice.proofs.NamePairs.{ends_found, no_start, no_end, numbered_more}
use Rattle.label_lattice.proofs.FirstPositions.{position_here, position_none}
use Rattle.label_lattice.proofs.lattice.pairs_numbered.Goals as goal

pub returns-in_default-clause-fault : goal.returns-in_default-clause-fault
returns-in_default-clause-fault c = λ _.
    let names = c.args.names.now in let flows = c.args.flows.now in let j = c.flows.j in let d = c.index-flows-j.result in
    let start : place_of (get_or flows j d).0 names ≡ None = ap (λ (p : List ℕ × List ℕ). place_of p.0 names) (sym c.index-flows-j.is) ∙ ap (λ n. place_of n names) (sym c.as_slice.ensures) ∙ sym c.in_default.ensures.place in
    ap (option_map UnknownLabel) (position_here (λ pair. is_none (ends_of names pair)) flows j d (omega arith) (ap is_none (no_start names (get_or flows j d) start)) (λ k lt. c.flows.invariant.known k d lt))

pub returns-in_default-find-clause-fault : goal.returns-in_default-find-clause-fault
returns-in_default-find-clause-fault c = λ _.
    let names = c.args.names.now in let flows = c.args.flows.now in let j = c.flows.j in let d = c.index-flows-j.result in
    let start : place_of (get_or flows j d).0 names ≡ Some c.in-Some.from = ap (λ (p : List ℕ × List ℕ). place_of p.0 names) (sym c.index-flows-j.is) ∙ ap (λ n. place_of n names) (sym c.as_slice.ensures) ∙ sym c.in-Some.ensures.place in
    let stop : place_of (get_or flows j d).1 names ≡ None = ap (λ (p : List ℕ × List ℕ). place_of p.1 names) (sym c.index-flows-j.is) ∙ ap (λ n. place_of n names) (sym c.as_slice-in-flows.ensures) ∙ sym c.in_default-find.ensures.place in
    ap (option_map UnknownLabel) (position_here (λ pair. is_none (ends_of names pair)) flows j d (omega arith) (ap is_none (no_end names (get_or flows j d) c.in-Some.from start stop)) (λ k lt. c.flows.invariant.known k d lt))

pub flows-preserved : goal.flows-preserved
flows-preserved c =
    let names = c.args.names.now in let flows = c.args.flows.now in let j = c.flows.j in let d = c.index-flows-j.result in
    let from = c.in-Some.from in let to = c.in-Some-find.to in
    let lt : j < length flows = omega arith in
    let start : place_of (get_or flows j d).0 names ≡ Some from = ap (λ (p : List ℕ × List ℕ). place_of p.0 names) (sym c.index-flows-j.is) ∙ ap (λ n. place_of n names) (sym c.as_slice.ensures) ∙ sym c.in-Some.ensures.place in
    let stop : place_of (get_or flows j d).1 names ≡ Some to = ap (λ (p : List ℕ × List ℕ). place_of p.1 names) (sym c.index-flows-j.is) ∙ ap (λ n. place_of n names) (sym c.as_slice-in-flows.ensures) ∙ sym c.in-Some-find.ensures.place in
    let ends : ends_of names (get_or flows j d) ≡ Some (from, to) = ends_found names (get_or flows j d) from to start stop in
    record {
      pairs = c.in-Ok.ensures.items ∙ ap (λ (ps : List (ℕ × ℕ)). ps ++ (from, to) ∷ []) c.flows.invariant.pairs ∙ sym (numbered_more names flows j d (from, to) lt ends);
      known = λ k e. below_more (λ k. is_none (ends_of names (get_or flows k e)) ≡ false) j (λ k lt. c.flows.invariant.known k e lt)
          (ap (λ p. is_none (ends_of names p)) (get_or_default flows j e d lt) ∙ ap is_none ends) k;
    }

pub returns-clause-fault : goal.returns-clause-fault
returns-clause-fault c =
    let names = c.args.names.now in let flows = c.args.flows.now in
    ap (option_map UnknownLabel) (position_none (λ pair. is_none (ends_of names pair)) flows (λ k d lt. c.flows.invariant.known k d (omega arith)))
