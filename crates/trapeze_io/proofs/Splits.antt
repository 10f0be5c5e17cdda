-- Where a list is split.
use Rattle.std.proofs.Common.{◌≡◌, ℕ, suc, ◌+◌, ◌-◌, ◌<◌, ◌≤◌, Bool, true, false, cond, not, ltb, List, [], ◌∷◌, length, take, drop, Some, None, refl, ap, ◌∙◌, arith, length-drop}
use Rattle.std.proofs.lemmas.List.{take_all}
use Rattle.std.specs.Prelude.{position}
use Rattle.std.specs.List.{slice_split, onto_first, position_or_len}
use Rattle.std.proofs.lemmas.List.Splits.{slice_split_first, slice_split-cons_no}
use borrow.Author.Tests.{ltb-true, ltb-false}

-- what a position that was found, or not found, says
found_test : (b : Bool) (k n : ℕ) → cond b (Some k) None ≡ Some n → (b ≡ true) × (k ≡ n)
found_test true k n h = (refl, cc)
found_test false k n h = absurd (cc)

missing_test : (b : Bool) (k : ℕ) → cond b (Some k) None ≡ None → b ≡ false
missing_test true k h = absurd (cc)
missing_test false k h = refl

module _ {X : Type 0} (p : X → Bool) where
  pub found : (xs : List X) (n : ℕ) → position p xs ≡ Some n → (n < length xs) × (position_or_len p xs ≡ n)
  found xs n h =
      let t = found_test (ltb (position_or_len p xs) (length xs)) (position_or_len p xs) n h in
      let l : position_or_len p xs < length xs = ltb-true (position_or_len p xs) (length xs) t.0 in
      (omega (arith, t.1), t.1)

  pub missing : (xs : List X) → position p xs ≡ None → length xs ≤ position_or_len p xs
  missing xs h =
      let t = missing_test (ltb (position_or_len p xs) (length xs)) (position_or_len p xs) h in
      ltb-false (position_or_len p xs) (length xs) t

module _ (p : ℕ → Bool) where
  -- a list in which no element passes is the one part
  whole_by : (b : Bool) (x : ℕ) (xs : List ℕ) → suc (length xs) ≤ cond (not b) (1 + position_or_len p xs) 0
      → (b ≡ false) × (length xs ≤ position_or_len p xs)
  whole_by true x xs h = absurd (omega arith)
  whole_by false x xs h = (refl, omega arith)

  pub whole : (xs : List ℕ) → length xs ≤ position_or_len p xs → slice_split p xs ≡ xs ∷ []
  whole [] h = refl
  whole (x ∷ xs) h =
      let b = whole_by (p x) x xs h in
      slice_split-cons_no p x xs b.0 ∙ ap (onto_first x) (whole xs b.1)

  -- the parts of a list of which the first place that passes is known
  pub first_part : (xs : List ℕ) (n : ℕ) → n < length xs → position_or_len p xs ≡ n
      → slice_split p xs ≡ take n xs ∷ slice_split p (drop (n + 1) xs)
  first_part xs n l h =
      slice_split_first p xs 0 (omega arith)
      ∙ ap (λ (k : ℕ). take k xs ∷ slice_split p (drop (k + 1) xs)) h

  -- a slice from a place on is what follows the place
  pub from_place : (xs : List ℕ) (n : ℕ) → take (length xs - n) (drop n xs) ≡ drop n xs
  from_place xs n =
      let short : length (drop n xs) ≤ length xs - n = omega (arith, length-drop n xs) in
      take_all (length xs - n) (drop n xs) short

  -- the same, for a slice from there on
  pub first_part_of : (xs : List ℕ) (n : ℕ) → position p xs ≡ Some n
      → slice_split p xs ≡ take n xs ∷ slice_split p (take (length xs - (n + 1)) (drop (n + 1) xs))
  first_part_of xs n h =
      let f = found p xs n h in
      rw (from_place xs (n + 1)) (first_part xs n f.0 f.1)
