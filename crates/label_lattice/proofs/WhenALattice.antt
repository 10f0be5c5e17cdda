-- When names and pairs make a lattice.
use Rattle.std.proofs.Common.{◌≡◌, ℕ, ◌<◌, Bool, true, false, List, Option, Some, None, length, get_or, nat_eq, nat_lt, refl, sym, ◌∙◌, ap, arith, inl, inr}
use Rattle.std.specs.Prelude.{Contains, ◌↔◌, ◌==◌, option_map, position, if◌then◌else◌}
use Rattle.std.specs.Option.{is_none, option_or}
use Rattle.std.specs.Cmp.Lexicographic.{pointwise}
use Rattle.std.proofs.lemmas.List.{get_or_default}
use Rattle.std.proofs.lemmas.List.Quantifiers.{position-Some}
use Rattle.std.proofs.lemmas.Bool.{cases_lt, le-ltb, ltb-false, cases_Bool}
use Rattle.std.proofs.lemmas.Bool.Decides.{Decides-eqb}
use lib.Pointwise.{bytes_decides}
use Rattle.label_lattice.specs.declared.error.LatticeError.{LatticeError}
use Rattle.label_lattice.specs.declared.error.LatticeError.TheVariants.{NoLabels, TooMany, UnknownLabel}
use Rattle.label_lattice.specs.Order.{place_of}
use Rattle.label_lattice.specs.Reach.{closes, ends_of, pairs_numbered}
use Rattle.label_lattice.specs.Joins.{labels}
use Rattle.label_lattice.specs.Faults.{first_of, name_fault, end_fault, order_fault}
use Rattle.label_lattice.specs.Laws.{IsExactFault}
use Rattle.label_lattice.proofs.FirstPositions.{position_none, none_passes}
use Rattle.label_lattice.proofs.NamePairs.{ends_found, no_start, no_end, numbered_pairs}
use Rattle.label_lattice.proofs.NameFaults.{or_none, AreNames-faultless, faultless-AreNames}
use Rattle.label_lattice.proofs.Lattices.{order_lattice, closes_preorder, mapped_none}

-- a name that stands somewhere is among the names
placed_among : (name : List ℕ) (names : List (List ℕ)) (i : ℕ) → place_of name names ≡ Some i → Contains names name
placed_among name names i e = let (lt, same, first) = position-Some (pointwise nat_eq name) names i name e in (i, lt, sym ((bytes_decides name (get_or names i name)).0 same))

-- and the other way
among_placed : (name : List ℕ) (names : List (List ℕ)) (o : Option ℕ) → place_of name names ≡ o → Contains names name → (i : ℕ) × (place_of name names ≡ Some i)
among_placed name names None e (k, lt, is) = absurd (
    let other : pointwise nat_eq name (get_or names k name) ≡ false = none_passes (pointwise nat_eq name) names e k name lt in
    let same : pointwise nat_eq name (get_or names k name) ≡ true = (bytes_decides name (get_or names k name)).1 (sym is) in
    let k : true ≡ false = sym same ∙ other in cc)
among_placed name names (Some i) e there = (i, e)

ends_among : (names : List (List ℕ)) (pair : List ℕ × List ℕ) (oa ob : Option ℕ) → place_of pair.0 names ≡ oa → place_of pair.1 names ≡ ob → is_none (ends_of names pair) ≡ false → Contains names pair.0 × Contains names pair.1
ends_among names pair None ob ea eb e = absurd (let k : true ≡ false = sym (ap is_none (no_start names pair ea)) ∙ e in cc)
ends_among names pair (Some a) None ea eb e = absurd (let k : true ≡ false = sym (ap is_none (no_end names pair a ea eb)) ∙ e in cc)
ends_among names pair (Some a) (Some b) ea eb e = (placed_among pair.0 names a ea, placed_among pair.1 names b eb)

among_ends : (names : List (List ℕ)) (pair : List ℕ × List ℕ) → Contains names pair.0 → Contains names pair.1 → is_none (ends_of names pair) ≡ false
among_ends names pair first second =
    let (a, ea) = among_placed pair.0 names (place_of pair.0 names) refl first in
    let (b, eb) = among_placed pair.1 names (place_of pair.1 names) refl second in
    ap is_none (ends_found names pair a b ea eb)

-- no end is unknown exactly where each pair is of names
known_ends : (names : List (List ℕ)) (pairs : List (List ℕ × List ℕ)) → (end_fault names pairs ≡ None) ↔ ((pair : List ℕ × List ℕ) → Contains pairs pair → Contains names pair.0 × Contains names pair.1)
known_ends names pairs = (
  λ e pair (k, lt, is).
      let none = mapped_none UnknownLabel (position (λ pair. is_none (ends_of names pair)) pairs) e in
      let here : is_none (ends_of names pair) ≡ false = ap (λ p. is_none (ends_of names p)) (sym is) ∙ none_passes (λ pair. is_none (ends_of names pair)) pairs none k pair lt in
      ends_among names pair (place_of pair.0 names) (place_of pair.1 names) refl refl here,
  λ h. ap (option_map UnknownLabel) (position_none (λ pair. is_none (ends_of names pair)) pairs (λ k d lt.
      let both = h (get_or pairs k d) (k, lt, get_or_default pairs k (get_or pairs k d) d lt) in
      among_ends names (get_or pairs k d) both.0 both.1)),
)

abbrev pub gate : Bool → Bool → Option LatticeError → Option LatticeError
gate none many o = if none then Some NoLabels else if many then Some TooMany else o

gate_none : (t u : Bool) (o : Option LatticeError) → gate t u o ≡ None → (t ≡ false) × (u ≡ false) × (o ≡ None)
gate_none true u o e = cc
gate_none false true o e = cc
gate_none false false o e = (refl, refl, e)

pub gate_open : (t u : Bool) (o : Option LatticeError) → t ≡ false → u ≡ false → gate t u o ≡ o
gate_open t u o et eu = ap (λ b. gate b u o) et ∙ ap (λ b. gate false b o) eu

pub some_names : (n : ℕ) → ((n == 0) ≡ false) ↔ (0 < n)
some_names n = (
  λ e. elim (cases_lt 0 n) [ inl lt ↦ lt | inr ge ↦ absurd (let zero_is : n ≡ 0 = omega arith in let k : true ≡ false = sym ((Decides-eqb n 0).1 zero_is) ∙ e in cc) ],
  λ lt. elim (cases_Bool (n == 0)) [ inl is ↦ absurd (let zero_is = (Decides-eqb n 0).0 is in omega arith) | inr not_is ↦ not_is ],
)

pub exact_fault : IsExactFault
exact_fault names pairs = (
  λ e.
      let open_gate = gate_none (length names == 0) (nat_lt 64 (length names)) _ e in
      let first = or_none (first_of (name_fault names) (labels (length names))) _ open_gate.2 in
      let second = or_none (end_fault names pairs) (order_fault (length names) (closes (pairs_numbered names pairs))) first.1 in
      record {
        different = AreNames-faultless names ((some_names (length names)).0 open_gate.0) (ltb-false 64 (length names) open_gate.1) first.0;
        known = (known_ends names pairs).0 second.0;
        lattice = (order_lattice (length names) (closes (pairs_numbered names pairs)) (closes_preorder (length names) (pairs_numbered names pairs) (numbered_pairs names pairs))).0 second.1;
      },
  λ makes.
      gate_open (length names == 0) (nat_lt 64 (length names)) _ ((some_names (length names)).1 makes.different.some) (le-ltb 64 (length names) makes.different.few)
      ∙ (λ i. option_or (faultless-AreNames names makes.different i) (option_or ((known_ends names pairs).1 makes.known i)
      ((order_lattice (length names) (closes (pairs_numbered names pairs)) (closes_preorder (length names) (pairs_numbered names pairs) (numbered_pairs names pairs))).1 makes.lattice i))),
)
