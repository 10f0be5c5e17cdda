-- Joins by rows of bits.
use Rattle.std.proofs.Common.{◌≡◌, ◌≢◌, ℕ, ◌<◌, ◌≤◌, Bool, true, false, List, length, get_or, refl, sym, ◌∙◌, ap, subst, arith, ◌⊎◌, inl, inr}
use Rattle.std.specs.Prelude.{min, bit_and, ◌==◌, ◌||◌, ◌&&◌, not, ◌↔◌, IsTrue}
use Rattle.std.specs.Int.{bit_at}
use Rattle.std.specs.Cmp.{both_ways}
use Rattle.std.specs.List.{list_any, list_all, range_with_len}
use Rattle.std.proofs.lemmas.List.FromFn.{length-range_with_len, get_or-range_with_len}
use Rattle.std.proofs.lemmas.List.Sums.{AllPass-from_list_all, list_all-from_AllPass}
use Rattle.std.proofs.lemmas.List.Folds.{Any-from_list_any, list_any-from_Any}
use Rattle.std.proofs.lemmas.Bool.{cases_Bool, cases_lt}
use Rattle.std.proofs.lemmas.Bool.Decides.{Decides-eqb}
use Rattle.std.proofs.lemmas.Nat.Bits.{bit_at-lt, bit_at_and, same_from_bits}
use Rattle.label_lattice.specs.Rows.{bit, IsClosed, row_flows}
use Rattle.label_lattice.specs.Joins.{labels, turned, is_join, IsJoin}

-- a test of all labels, and of some label
pub all_labels : (p : ℕ → Bool) (n : ℕ) → (list_all p (labels n) ≡ true) ↔ ((u : ℕ) → u < n → p u ≡ true)
all_labels p n = (
  λ e u lt. let within : u < length (range_with_len 0 n) = omega (arith, length-range_with_len 0 n) in
      let at : get_or (range_with_len 0 n) u 0 ≡ u = get_or-range_with_len 0 n u 0 lt ∙ omega arith in
      subst (λ (x : ℕ). p x ≡ true) at (AllPass-from_list_all p (labels n) e u 0 within),
  λ h. list_all-from_AllPass p (labels n) (λ u d within.
      let lt : u < n = omega (arith, length-range_with_len 0 n) in
      let at : u ≡ get_or (range_with_len 0 n) u d = sym (get_or-range_with_len 0 n u d lt ∙ omega arith) in
      subst (λ (x : ℕ). p x ≡ true) at (h u lt)),
)

pub any_label : (p : ℕ → Bool) (n : ℕ) → (list_any p (labels n) ≡ true) ↔ ((u : ℕ) × (u < n) × (p u ≡ true))
any_label p n = (
  λ e. let (k, x, within, is, passes) = Any-from_list_any p (labels n) e in
      let lt : k < n = omega (arith, length-range_with_len 0 n) in
      (k, lt, subst (λ (y : ℕ). p y ≡ true) (sym is ∙ get_or-range_with_len 0 n k x lt ∙ omega arith) passes),
  λ (u, lt, passes). list_any-from_Any p (labels n) (u, u, omega (arith, length-range_with_len 0 n), get_or-range_with_len 0 n u u lt ∙ omega arith, passes),
)

pub and_left : (x y : Bool) → (x && y) ≡ true → x ≡ true
and_left true y h = refl
and_left false y h = cc

pub and_right : (x y : Bool) → (x && y) ≡ true → y ≡ true
and_right true y h = h
and_right false y h = cc

pub and_both : (x y : Bool) → x ≡ true → y ≡ true → (x && y) ≡ true
and_both true y h k = k
and_both false y h k = h

or_first : (x y : Bool) → x ≡ true → (x || y) ≡ true
or_first true y h = refl
or_first false y h = cc

or_second : (x y : Bool) → y ≡ true → (x || y) ≡ true
or_second true y h = refl
or_second false y h = h

pub or_split : (x y : Bool) → (x || y) ≡ true → (x ≡ true) ⊎ (y ≡ true)
or_split true y h = inl refl
or_split false y h = inr h

-- where x is true, so is z, if y is
implied : (x y z : Bool) → (not (x && y) || z) ≡ true → x ≡ true → y ≡ true → z ≡ true
implied true true z h g k = h
implied true false z h g k = cc
implied false y z h g k = cc

implies : (x y z : Bool) → (x ≡ true → y ≡ true → z ≡ true) → (not (x && y) || z) ≡ true
implies true true z h = h refl refl
implies true false z h = refl
implies false y z h = refl

-- the test of a join says what a join is
pub is_join_exact : (n : ℕ) (f : ℕ → ℕ → Bool) (a b j : ℕ) → (is_join n f a b j ≡ true) ↔ IsJoin n f a b j
is_join_exact n f a b j = (
  λ e. record {
    left = and_left _ (f b j) (and_left (f a j && f b j) _ e);
    right = and_right (f a j) _ (and_left (f a j && f b j) _ e);
    least = λ u lt g h. implied (f a u) (f b u) (f j u) ((all_labels (λ u. not (f a u && f b u) || f j u) n).0 (and_right (f a j && f b j) _ e) u lt) g h;
  },
  λ join. and_both _ _ (and_both _ _ join.left join.right) ((all_labels (λ u. not (f a u && f b u) || f j u) n).1 (λ u lt. implies (f a u) (f b u) (f j u) (join.least u lt))),
)

-- a label's bit and the flow
pub flows_from_bit : (rows : List ℕ) (a b : ℕ) → bit rows a b ≡ 1 → IsTrue (row_flows rows a b)
flows_from_bit rows a b e = or_second (a == b) _ ((Decides-eqb (bit rows a b) 1).1 e)

pub bit_from_flows : (n : ℕ) (rows : List ℕ) → IsClosed n rows → (a b : ℕ) → a < n → IsTrue (row_flows rows a b) → bit rows a b ≡ 1
bit_from_flows n rows closed a b lt e = elim (or_split (a == b) _ e) [
  | inl same ↦ subst (λ (x : ℕ). bit rows a x ≡ 1) ((Decides-eqb a b).0 same) (closed.own a lt)
  | inr set ↦ (Decides-eqb (bit rows a b) 1).0 set
]

same_bit : (x y : ℕ) → x < 2 → y < 2 → (x ≡ 1 → y ≡ 1) → (y ≡ 1 → x ≡ 1) → x ≡ y
same_bit x y lx ly f g = grind arith

-- j is the join of a and b exactly where its row has what both rows have
pub least_row : (n : ℕ) (rows : List ℕ) → IsClosed n rows → (a b j : ℕ) → a < n → b < n → j < n
    → (get_or rows j 0 ≡ bit_and (get_or rows a 0) (get_or rows b 0)) ↔ IsJoin n (row_flows rows) a b j
least_row n rows closed a b j la lb lj =
    let both : (u : ℕ) → bit_at (bit_and (get_or rows a 0) (get_or rows b 0)) u ≡ min (bit rows a u) (bit rows b u) = bit_at_and (get_or rows a 0) (get_or rows b 0) in (
      λ e.
          let here : (u : ℕ) → bit rows j u ≡ min (bit rows a u) (bit rows b u) = λ u. ap (λ x. bit_at x u) e ∙ both u in
          let own = closed.own j lj in let at = here j in
          record {
            left = flows_from_bit rows a j (omega arith);
            right = flows_from_bit rows b j (omega arith);
            least = λ u lt g h. let first = bit_from_flows n rows closed a u la g in let second = bit_from_flows n rows closed b u lb h in let there = here u in
                flows_from_bit rows j u (omega arith);
          },
      λ join. same_from_bits _ _ (λ u. same_bit (bit rows j u) _ (bit_at-lt _ u) (bit_at-lt _ u)
          (λ e. let first : bit rows a u ≡ 1 = closed.transitive a j u (bit_from_flows n rows closed a j la join.left) e in
          let second : bit rows b u ≡ 1 = closed.transitive b j u (bit_from_flows n rows closed b j lb join.right) e in
          let there = both u in omega arith)
          (λ e. let there = both u in
          let first : bit rows a u ≡ 1 = omega (arith, bit_at-lt (get_or rows a 0) u) in
          let second : bit rows b u ≡ 1 = omega (arith, bit_at-lt (get_or rows b 0) u) in
          bit_from_flows n rows closed j u lj (join.least u (closed.within a u first).1 (flows_from_bit rows a u first) (flows_from_bit rows b u second)))),
    )

-- the same of the test
pub is_join_here : (n : ℕ) (rows : List ℕ) → IsClosed n rows → (a b j : ℕ) → a < n → b < n → j < n
    → get_or rows j 0 ≡ bit_and (get_or rows a 0) (get_or rows b 0) → is_join n (row_flows rows) a b j ≡ true
is_join_here n rows closed a b j la lb lj e = (is_join_exact n (row_flows rows) a b j).1 ((least_row n rows closed a b j la lb lj).0 e)

pub is_join_elsewhere : (n : ℕ) (rows : List ℕ) → IsClosed n rows → (a b j : ℕ) → a < n → b < n → j < n
    → get_or rows j 0 ≢ bit_and (get_or rows a 0) (get_or rows b 0) → is_join n (row_flows rows) a b j ≡ false
is_join_elsewhere n rows closed a b j la lb lj ne = elim (cases_Bool (is_join n (row_flows rows) a b j)) [
  | inl e ↦ absurd (ne ((least_row n rows closed a b j la lb lj).1 ((is_join_exact n (row_flows rows) a b j).0 e)))
  | inr e ↦ e
]

-- a table whose bits are those of the other, turned round
pub record IsTurned (rows now : List ℕ) : Type 0 where
  pub turned : (a b : ℕ) → a < 64 → bit now a b ≡ bit rows b a
  pub empty : (a b : ℕ) → 64 ≤ a → bit now a b ≡ 0

turned_bit : (n : ℕ) (rows now : List ℕ) → IsClosed n rows → n ≤ 64 → IsTurned rows now → (a b : ℕ) → (bit now a b ≡ 1) ↔ (bit rows b a ≡ 1)
turned_bit n rows now closed few t a b = (
  λ e. elim (cases_lt a 64) [ inl lt ↦ sym (t.turned a b lt) ∙ e | inr ge ↦ absurd (let none = t.empty a b ge in omega arith) ],
  λ e. let within = (closed.within b a e).1 in t.turned a b (omega arith) ∙ e,
)

pub flows_itself : (rows : List ℕ) (a b : ℕ) → a ≡ b → IsTrue (row_flows rows a b)
flows_itself rows a b e = or_first (a == b) _ ((Decides-eqb a b).1 e)

pub turned_flows : (n : ℕ) (rows now : List ℕ) → IsClosed n rows → n ≤ 64 → IsTurned rows now → row_flows now ≡ turned (row_flows rows)
turned_flows n rows now closed few t = λ i a b. both_ways (row_flows now a b) (row_flows rows b a)
    (λ e. elim (or_split (a == b) _ e) [
      | inl same ↦ flows_itself rows b a (sym ((Decides-eqb a b).0 same))
      | inr set ↦ flows_from_bit rows b a ((turned_bit n rows now closed few t a b).0 ((Decides-eqb (bit now a b) 1).0 set))
    ])
    (λ e. elim (or_split (b == a) _ e) [
      | inl same ↦ flows_itself now a b (sym ((Decides-eqb b a).0 same))
      | inr set ↦ flows_from_bit now a b ((turned_bit n rows now closed few t a b).1 ((Decides-eqb (bit rows b a) 1).0 set))
    ]) i
