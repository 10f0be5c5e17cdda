-- Rows of bits.
use Rattle.std.proofs.Common.{◌≡◌, ◌≢◌, ℕ, zero, suc, ◌+◌, ◌/◌, ◌^◌, ◌*◌, ◌%◌, ◌<◌, ◌≤◌, List, [], length, get_or, set, get_or-set_other, get_or-set_same, length-set, replicate, below_more, sym, ◌∙◌, ap, subst, arith, ◌⊎◌, inl, inr}
use Rattle.std.specs.Prelude.{min, max, bit_and, bit_or}
use Rattle.std.specs.Int.{bit_at}
use Rattle.std.proofs.lemmas.List.{get_or_past, get_or-replicate, length-replicate}
use Rattle.std.proofs.lemmas.Bool.{cases_lt}
use Rattle.std.proofs.lemmas.Nat.{one_shl}
use Rattle.std.proofs.lemmas.Nat.Bits.{bit_at-zero, bit_at-lt, bit_at_or, shr_and_one, bit_at-pow_same, bit_at-pow_other}
use Rattle.label_lattice.specs.Rows.{bit, IsClosure}
use Rattle.label_lattice.proofs.Paths.{Reaches-none}

one_of : (old by from new : ℕ) → new ≡ max old (min by from) → old < 2 → by < 2 → from < 2 → new ≡ 1 → (old ≡ 1) ⊎ ((by ≡ 1) × (from ≡ 1))
one_of zero by from new is lo lb lf e = inr (omega arith, omega arith)
one_of (suc old) by from new is lo lb lf e = inl (omega arith)

-- what a row becomes
pub joined_row : (x from reached b : ℕ) → bit_and (x / 2 ^ from) 1 ≡ 1 → bit_at (bit_or x reached) b ≡ max (bit_at x b) (min (bit_at x from) (bit_at reached b))
joined_row x from reached b test = omega (arith, bit_at_or x reached b, shr_and_one x from, bit_at-lt reached b)

-- the rows below i are joined, and the others are as they were
pub record SoFar (before now : List ℕ) (from reached i : ℕ) : Type 0 where
  pub long : length now ≡ length before
  pub done : (a b : ℕ) → a < i → bit now a b ≡ max (bit before a b) (min (bit before a from) (bit_at reached b))
  pub rest : (a : ℕ) → i ≤ a → get_or now a 0 ≡ get_or before a 0

pub SoFar-more : {before now : List ℕ} {from reached i : ℕ} (x : ℕ) → SoFar before now from reached i → i < length now
    → ((b : ℕ) → bit_at x b ≡ max (bit_at (get_or now i 0) b) (min (bit_at (get_or now i 0) from) (bit_at reached b)))
    → SoFar before (set now i x) from reached (i + 1)
SoFar-more {before} {now} {from} {reached} {i} x so lt is = record {
  long = simp length-set so.long;
  done = λ a b. below_more (λ k. bit_at (get_or (set now i x) k 0) b ≡ max (bit_at (get_or before k 0) b) (min (bit_at (get_or before k 0) from) (bit_at reached b))) i
      (λ k h. let ne : k ≢ i = omega arith in rw get_or-set_other (so.done k b h))
      (rw get_or-set_same (rw (← so.rest i (omega arith)) (is b))) a;
  rest = λ a h. let ne : a ≢ i = omega arith in rw get_or-set_other (so.rest a (omega arith));
}

-- a row past the end has no bit
pub bit_past : (rows : List ℕ) (a b : ℕ) → length rows ≤ a → bit rows a b ≡ 0
bit_past rows a b h = ap (λ x. bit_at x b) (get_or_past rows a 0 h) ∙ bit_at-zero b

-- all rows are joined
pub SoFar-all : (before now : List ℕ) (from reached i : ℕ) → SoFar before now from reached i → length now ≤ i → (a b : ℕ) → bit now a b ≡ max (bit before a b) (min (bit before a from) (bit_at reached b))
SoFar-all before now from reached i so le a b = elim (cases_lt a i) [
  | inl lt ↦ so.done a b lt
  | inr ge ↦ let gone = bit_past now a b (omega arith) in let none = bit_past before a b (omega (arith, so.long)) in let same = bit_past before a from (omega (arith, so.long)) in omega arith
]

-- below i each label has its own bit alone, and the other rows are empty
pub record Ones (rows : List ℕ) (i : ℕ) : Type 0 where
  pub long : length rows ≡ 64
  pub done : (a : ℕ) → a < i → get_or rows a 0 ≡ 2 ^ a
  pub rest : (a : ℕ) → i ≤ a → get_or rows a 0 ≡ 0

pub Ones-none : Ones (replicate 64 0) 0
Ones-none = record {
  long = length-replicate {A = ℕ} 64 0;
  done = λ a h. absurd (omega arith);
  rest = λ a h. elim (cases_lt a 64) [ inl lt ↦ get_or-replicate 64 a 0 0 lt | inr ge ↦ get_or_past (replicate 64 0) a 0 (rw length-replicate ge) ];
}

pub Ones-more : {rows : List ℕ} (i : ℕ) → Ones rows i → i < 64 → Ones (set rows i (1 * 2 ^ i % 2 ^ 64)) (i + 1)
Ones-more {rows} i so small = let lt : i < length rows = omega (arith, so.long) in record {
  long = simp length-set so.long;
  done = below_more (λ k. get_or (set rows i (1 * 2 ^ i % 2 ^ 64)) k 0 ≡ 2 ^ k) i
      (λ k l. let ne : k ≢ i = omega arith in rw get_or-set_other (so.done k l))
      (rw get_or-set_same (one_shl i 64 small));
  rest = λ a h. let ne : a ≢ i = omega arith in rw get_or-set_other (so.rest a (omega arith));
}

bit_of_itself : (a b : ℕ) → bit_at (2 ^ a) b ≡ 1 → a ≡ b
bit_of_itself a b e = grind (arith, bit_at-pow_other a b)

pub Ones-closure : (rows : List ℕ) (n : ℕ) → Ones rows n → IsClosure n [] rows
Ones-closure rows n so = record {
  exact = λ a b. (
    λ e. elim (cases_lt a n) [
      | inl lt ↦ (lt, ([], bit_of_itself a b (sym (ap (λ x. bit_at x b) (so.done a lt)) ∙ e)))
      | inr ge ↦ absurd (let none = ap (λ x. bit_at x b) (so.rest a ge) ∙ bit_at-zero b in omega arith)
    ],
    λ r. ap (λ x. bit_at x b) (so.done a r.0) ∙ subst (λ (x : ℕ). bit_at (2 ^ a) x ≡ 1) (Reaches-none a b r.1) (bit_at-pow_same a),
  );
}

-- the rows below i that have bit b
pub record Column (rows : List ℕ) (b x i : ℕ) : Type 0 where
  pub done : (a : ℕ) → a < i → bit_at x a ≡ bit rows a b
  pub rest : (a : ℕ) → i ≤ a → bit_at x a ≡ 0

pub Column-none : (rows : List ℕ) (b : ℕ) → Column rows b 0 0
Column-none rows b = record { done = λ a h. absurd (omega arith); rest = λ a h. bit_at-zero a }

pub Column-set : (rows : List ℕ) (b x i : ℕ) → Column rows b x i → i < 64 → bit_and (get_or rows i 0 / 2 ^ b) 1 ≡ 1 → Column rows b (bit_or x (1 * 2 ^ i % 2 ^ 64)) (i + 1)
Column-set rows b x i so small test = rw (one_shl i 64 small) (record {
  done = below_more (λ a. bit_at (bit_or x (2 ^ i)) a ≡ bit rows a b) i
      (λ a h. let other = bit_at-pow_other i a (omega arith) in let both = bit_at_or x (2 ^ i) a in let old = so.done a h in omega arith)
      (let own = bit_at-pow_same i in let both = bit_at_or x (2 ^ i) i in let old = so.rest i (omega arith) in let here = shr_and_one (get_or rows i 0) b in omega arith);
  rest = λ a h. let other = bit_at-pow_other i a (omega arith) in let both = bit_at_or x (2 ^ i) a in let old = so.rest a (omega arith) in omega arith;
})

pub Column-kept : (rows : List ℕ) (b x i : ℕ) → Column rows b x i → bit_and (get_or rows i 0 / 2 ^ b) 1 ≢ 1 → Column rows b x (i + 1)
Column-kept rows b x i so test = record {
  done = below_more (λ a. bit_at x a ≡ bit rows a b) i so.done
      (let old = so.rest i (omega arith) in let here = shr_and_one (get_or rows i 0) b in let small = bit_at-lt (get_or rows i 0) b in omega arith);
  rest = λ a h. so.rest a (omega arith);
}

pub Column-all : (rows : List ℕ) (b x i : ℕ) → Column rows b x i → length rows ≤ i → (a : ℕ) → bit_at x a ≡ bit rows a b
Column-all rows b x i so le a = elim (cases_lt a i) [ inl lt ↦ so.done a lt | inr ge ↦ so.rest a ge ∙ sym (bit_past rows a b (omega arith)) ]

-- the rows below i are the columns of the other
pub record Turned (rows now : List ℕ) (i : ℕ) : Type 0 where
  pub long : length now ≡ 64
  pub done : (b : ℕ) → b < i → (a : ℕ) → bit now b a ≡ bit rows a b
