-- When an order has no fault.
use Rattle.std.proofs.Common.{◌≡◌, ℕ, ◌+◌, ◌-◌, ◌<◌, ◌≤◌, Bool, true, false, List, [], ◌∷◌, Option, Some, None, map, refl, sym, ◌∙◌, ap, subst, arith, ◌⊎◌, inl, inr}
use Rattle.std.specs.Prelude.{find, not, ◌||◌, ◌&&◌, ◌↔◌, option_map, IsTrue}
use Rattle.std.specs.Option.{is_some, option_or}
use Rattle.std.specs.List.{list_any, range_with_len, flat_map}
use Rattle.std.proofs.lemmas.List.FromFn.{length-range_with_len, get_or-range_with_len}
use Rattle.std.proofs.lemmas.List.Folds.{Any-from_list_any, list_any-from_Any, list_any-append}
use Rattle.std.proofs.lemmas.Bool.{cases_Bool, cases_order}
use Rattle.label_lattice.specs.declared.error.LatticeError.TheVariants.{Cycle, NoJoin, NoMeet}
use Rattle.label_lattice.specs.Reach.{closes}
use Rattle.label_lattice.specs.Joins.{labels, labels_from, label_pairs, turned, is_join, has_join, has_meet, IsJoin, IsMeet}
use Rattle.label_lattice.specs.Faults.{order_fault, cycle_of, no_join_of, no_meet_of, label_of}
use Rattle.label_lattice.specs.Sound.{IsLattice}
use Rattle.label_lattice.proofs.Ranges.{is_some_find}
use Rattle.label_lattice.proofs.JoinsByBits.{any_label, is_join_exact, and_left, and_right, and_both}
use Rattle.label_lattice.proofs.NameFaults.{or_none, not_false}
use Rattle.label_lattice.proofs.Paths.{Reaches-here, Reaches-trans, Reaches-within, exact_test}
use Rattle.label_lattice.specs.Rows.{ArePairs}

-- the test of some number of a range
any_range : (p : ℕ → Bool) (a k : ℕ) → (list_any p (range_with_len a k) ≡ true) ↔ ((u : ℕ) × (a ≤ u) × (u < a + k) × (p u ≡ true))
any_range p a k = (
  λ e. let (i, x, within, is, passes) = Any-from_list_any p (range_with_len a k) e in
      let lt : i < k = omega (arith, length-range_with_len a k) in
      (a + i, omega arith, omega arith, subst (λ (y : ℕ). p y ≡ true) (sym is ∙ get_or-range_with_len a k i x lt) passes),
  λ (u, from, below, passes). list_any-from_Any p (range_with_len a k) (u - a, u, omega (arith, length-range_with_len a k), get_or-range_with_len a k (u - a) u (omega arith) ∙ omega arith, passes),
)

any_map : {X Y : Type 0} (p : Y → Bool) (g : X → Y) (xs : List X) → list_any p (map g xs) ≡ list_any (λ x. p (g x)) xs
any_map p g [] = refl
any_map p g (x ∷ xs) = ap (λ b. p (g x) || b) (any_map p g xs)

any_flat_map : {X Y : Type 0} (p : Y → Bool) (g : X → List Y) (xs : List X) → list_any p (flat_map g xs) ≡ list_any (λ x. list_any p (g x)) xs
any_flat_map p g [] = refl
any_flat_map p g (x ∷ xs) = list_any-append p (g x) (flat_map g xs) ∙ ap (λ b. list_any p (g x) || b) (any_flat_map p g xs)

any_pair : (t : ℕ × ℕ → Bool) (n : ℕ) → list_any t (label_pairs n) ≡ list_any (λ a. list_any (λ b. t (a, b)) (labels_from (a + 1) n)) (labels n)
any_pair t n = any_flat_map t (λ a. map (λ b. (a, b)) (labels_from (a + 1) n)) (labels n) ∙ (λ i. list_any (λ a. any_map t (λ b. (a, b)) (labels_from (a + 1) n) i) (labels n))

-- nothing is found among the pairs exactly where none passes
pub none_of_pairs : (t : ℕ × ℕ → Bool) (n : ℕ) → (find t (label_pairs n) ≡ None) ↔ ((a b : ℕ) → a < b → b < n → t (a, b) ≡ false)
none_of_pairs t n = (
  λ e a b lt within. elim (cases_Bool (t (a, b))) [
    | inl passing ↦ absurd (
        let inner : list_any (λ b. t (a, b)) (labels_from (a + 1) n) ≡ true = (any_range (λ b. t (a, b)) (a + 1) (n - (a + 1))).1 (b, omega arith, omega arith, passing) in
        let outer : list_any t (label_pairs n) ≡ true = any_pair t n ∙ (any_label (λ a. list_any (λ b. t (a, b)) (labels_from (a + 1) n)) n).1 (a, omega arith, inner) in
        let k : false ≡ true = ap is_some (sym e) ∙ is_some_find t (label_pairs n) ∙ outer in cc)
    | inr none ↦ none
  ],
  λ h. elim (cases_Bool (list_any t (label_pairs n))) [
    | inl passing ↦ absurd (
        let (a, la, inner) = (any_label (λ a. list_any (λ b. t (a, b)) (labels_from (a + 1) n)) n).0 (sym (any_pair t n) ∙ passing) in
        let (b, from, below, passes) = (any_range (λ b. t (a, b)) (a + 1) (n - (a + 1))).0 inner in
        let k : true ≡ false = sym passes ∙ h a b (omega arith) (omega arith) in cc)
    | inr none ↦ unfound (find t (label_pairs n)) (is_some_find t (label_pairs n) ∙ none)
  ],
) where
  unfound : (o : Option (ℕ × ℕ)) → is_some o ≡ false → o ≡ None
  unfound None e = refl
  unfound (Some p) e = cc

-- each label flows to itself, flows chain, and others than labels flow to themselves alone
pub record IsPreorder (n : ℕ) (f : ℕ → ℕ → Bool) : Type 0 where
  pub reflexive : (a : ℕ) → IsTrue (f a a)
  pub transitive : (a b c : ℕ) → IsTrue (f a b) → IsTrue (f b c) → IsTrue (f a c)
  pub within : (a b : ℕ) → IsTrue (f a b) → (a ≡ b) ⊎ ((a < n) × (b < n))

pub closes_preorder : (n : ℕ) (ps : List (ℕ × ℕ)) → ArePairs n ps → IsPreorder n (closes ps)
closes_preorder n ps pairs = record {
  reflexive = λ a. (exact_test ps a a).1 (Reaches-here ps a);
  transitive = λ a b d e g. (exact_test ps a d).1 (Reaches-trans ps a b d ((exact_test ps a b).0 e) ((exact_test ps b d).0 g));
  within = λ a b e. Reaches-within n ps pairs a b ((exact_test ps a b).0 e);
}

join_swapped : (n : ℕ) (f : ℕ → ℕ → Bool) (a b j : ℕ) → IsJoin n f a b j → IsJoin n f b a j
join_swapped n f a b j join = record { left = join.right; right = join.left; least = λ u lt e g. join.least u lt g e }

join_itself : (n : ℕ) (f : ℕ → ℕ → Bool) → ((a : ℕ) → IsTrue (f a a)) → (a : ℕ) → IsJoin n f a a a
join_itself n f reflexive a = record { left = reflexive a; right = reflexive a; least = λ u lt e g. e }

-- where each two labels in order have a join, so have each two
all_joins : (n : ℕ) (f : ℕ → ℕ → Bool) → ((a : ℕ) → IsTrue (f a a)) → ((a b : ℕ) → a < b → b < n → has_join n f a b ≡ true) → (a b : ℕ) → a < n → b < n → (j : ℕ) × (j < n) × IsJoin n f a b j
all_joins n f reflexive h a b la lb = elim (cases_order a b) [
  | inl same ↦ (a, la, subst (λ (x : ℕ). IsJoin n f a x a) same (join_itself n f reflexive a))
  | inr (inl lt) ↦ let (j, lj, e) = (any_label (is_join n f a b) n).0 (h a b lt lb) in (j, lj, (is_join_exact n f a b j).0 e)
  | inr (inr lt) ↦ let (j, lj, e) = (any_label (is_join n f b a) n).0 (h b a lt la) in (j, lj, join_swapped n f b a j ((is_join_exact n f b a j).0 e))
]

pub has_from_join : (n : ℕ) (f : ℕ → ℕ → Bool) (a b j : ℕ) → j < n → IsJoin n f a b j → has_join n f a b ≡ true
has_from_join n f a b j lj join = (any_label (is_join n f a b) n).1 (j, lj, (is_join_exact n f a b j).1 join)

-- a meet is a join in the order turned round
pub meet_turned : (n : ℕ) (f : ℕ → ℕ → Bool) (a b m : ℕ) → IsJoin n (turned f) a b m ↔ IsMeet n f a b m
meet_turned n f a b m = (
  λ join. record { left = join.left; right = join.right; greatest = join.least },
  λ meet. record { left = meet.left; right = meet.right; least = meet.greatest },
)

-- the tests are exact
pub exact_join : (n : ℕ) (f : ℕ → ℕ → Bool) (a b : ℕ) → IsTrue (has_join n f a b) ↔ ((j : ℕ) × (j < n) × IsJoin n f a b j)
exact_join n f a b = (
  λ h. let (j, lj, e) = (any_label (is_join n f a b) n).0 h in (j, lj, (is_join_exact n f a b j).0 e),
  λ h. has_from_join n f a b h.0 h.1 h.2,
)

pub exact_meet : (n : ℕ) (f : ℕ → ℕ → Bool) (a b : ℕ) → IsTrue (has_meet n f a b) ↔ ((m : ℕ) × (m < n) × IsMeet n f a b m)
exact_meet n f a b = (
  λ h. let (m, lm, e) = (any_label (is_join n (turned f) a b) n).0 h in (m, lm, (meet_turned n f a b m).0 ((is_join_exact n (turned f) a b m).0 e)),
  λ h. has_from_join n (turned f) a b h.0 h.1 ((meet_turned n f a b h.0).1 h.2),
)

pub mapped_none : {X Y : Type 0} (g : X → Y) (o : Option X) → option_map g o ≡ None → o ≡ None
mapped_none g None e = refl
mapped_none g (Some x) e = cc

pub record Faultless (n : ℕ) (f : ℕ → ℕ → Bool) : Type 0 where
  pub cycles : cycle_of n f ≡ None
  pub joins : no_join_of n f ≡ None
  pub meets : no_meet_of n f ≡ None

faultless : (n : ℕ) (f : ℕ → ℕ → Bool) → (order_fault n f ≡ None) ↔ Faultless n f
faultless n f = (
  λ e.
      let first = or_none (option_map (λ p. Cycle (label_of p.0) (label_of p.1)) (cycle_of n f)) (option_or (option_map (λ p. NoJoin (label_of p.0) (label_of p.1)) (no_join_of n f)) (option_map (λ p. NoMeet (label_of p.0) (label_of p.1)) (no_meet_of n f))) e in
      let second = or_none (option_map (λ p. NoJoin (label_of p.0) (label_of p.1)) (no_join_of n f)) (option_map (λ p. NoMeet (label_of p.0) (label_of p.1)) (no_meet_of n f)) first.1 in
      record {
        cycles = mapped_none (λ p. Cycle (label_of p.0) (label_of p.1)) (cycle_of n f) first.0;
        joins = mapped_none (λ p. NoJoin (label_of p.0) (label_of p.1)) (no_join_of n f) second.0;
        meets = mapped_none (λ p. NoMeet (label_of p.0) (label_of p.1)) (no_meet_of n f) second.1;
      },
  λ h. (λ i. option_or (option_map (λ p. Cycle (label_of p.0) (label_of p.1)) (h.cycles i)) (option_or (option_map (λ p. NoJoin (label_of p.0) (label_of p.1)) (h.joins i)) (option_map (λ p. NoMeet (label_of p.0) (label_of p.1)) (h.meets i)))),
)

-- an order has no fault exactly where it is a lattice
pub order_lattice : (n : ℕ) (f : ℕ → ℕ → Bool) → IsPreorder n f → (order_fault n f ≡ None) ↔ IsLattice n f
order_lattice n f pre = (
  λ e.
      let none = (faultless n f).0 e in
      let cycles = (none_of_pairs (λ p. f p.0 p.1 && f p.1 p.0) n).0 none.cycles in
      let joins = (none_of_pairs (λ p. not (has_join n f p.0 p.1)) n).0 none.joins in
      let meets = (none_of_pairs (λ p. not (has_meet n f p.0 p.1)) n).0 none.meets in
      record {
        reflexive = pre.reflexive;
        transitive = pre.transitive;
        antisymmetric = λ a b to from. elim (pre.within a b to) [
          | inl same ↦ same
          | inr both ↦ elim (cases_order a b) [
            | inl same ↦ same
            | inr (inl lt) ↦ absurd (let k : true ≡ false = sym (and_both (f a b) (f b a) to from) ∙ cycles a b lt both.1 in cc)
            | inr (inr lt) ↦ absurd (let k : true ≡ false = sym (and_both (f b a) (f a b) from to) ∙ cycles b a lt both.0 in cc)
          ]
        ];
        joins = all_joins n f pre.reflexive (λ a b lt within. not_false (has_join n f a b) (joins a b lt within));
        meets = λ a b la lb.
            let (m, lm, join) = all_joins n (turned f) pre.reflexive (λ a b lt within. not_false (has_join n (turned f) a b) (meets a b lt within)) a b la lb in
            (m, lm, (meet_turned n f a b m).0 join);
      },
  λ lattice. (faultless n f).1 (record {
    cycles = (none_of_pairs (λ p. f p.0 p.1 && f p.1 p.0) n).1 (λ a b lt within. elim (cases_Bool (f a b && f b a)) [
      | inl both ↦ absurd (let same = lattice.antisymmetric a b (and_left (f a b) (f b a) both) (and_right (f a b) (f b a) both) in omega arith)
      | inr none ↦ none
    ]);
    joins = (none_of_pairs (λ p. not (has_join n f p.0 p.1)) n).1 (λ a b lt within.
        let (j, lj, join) = lattice.joins a b (omega arith) within in ap not (has_from_join n f a b j lj join));
    meets = (none_of_pairs (λ p. not (has_meet n f p.0 p.1)) n).1 (λ a b lt within.
        let (m, lm, meet) = lattice.meets a b (omega arith) within in ap not (has_from_join n (turned f) a b m lm ((meet_turned n f a b m).1 meet)));
  }),
)
