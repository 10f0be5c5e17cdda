-- Where a list is split, and how the parts of joined lists join.
use Rattle.std.proofs.Common.{◌≡◌, ℕ, zero, suc, ◌+◌, ◌-◌, ◌<◌, ◌≤◌, Bool, true, false, cond, not, List, [], ◌∷◌, ◌++◌, length, take, drop, Some, None, refl, sym, ap, ◌∙◌, arith, length-drop}
use Rattle.std.proofs.lemmas.List.{drop-drop}
use Rattle.std.specs.Prelude.{position}
use Rattle.std.specs.List.{slice_split, onto_first, position_or_len}
use Rattle.std.proofs.lemmas.List.Splits.{length-slice_split}
use Rattle.trapeze_io.proofs.Splits.{found, missing, from_place}

-- the parts of a list, with the last of them joined to the first of some others
abbrev pub splice : List (List ℕ) → List (List ℕ) → List (List ℕ)
splice [] others = others
splice (part ∷ []) [] = part ∷ []
splice (part ∷ []) (other ∷ others) = (part ++ other) ∷ others
splice (part ∷ next ∷ parts) others = part ∷ splice (next ∷ parts) others

module _ (p : ℕ → Bool) where
  -- the first place of what is left after a front in which no element passes
  later_by : (b : Bool) (x : ℕ) (xs : List ℕ) (n : ℕ) → suc n ≤ cond (not b) (1 + position_or_len p xs) 0
      → (n ≤ position_or_len p xs) × (cond (not b) (1 + position_or_len p xs) 0 ≡ 1 + position_or_len p xs)
  later_by true x xs n h = absurd (omega arith)
  later_by false x xs n h = (omega arith, refl)

  later : (xs : List ℕ) (n : ℕ) → n ≤ position_or_len p xs → position_or_len p xs ≡ n + position_or_len p (drop n xs)
  later xs zero h = omega arith
  later [] (suc n) h = absurd (omega arith)
  later (x ∷ xs) (suc n) h =
      let b = later_by (p x) x xs n h in
      let ih = later xs n b.0 in
      omega (arith, b.1, ih)

  -- the first place that passes, searched for from a later place on
  pub found_next : (xs slice : List ℕ) (start searched at : ℕ) → slice ≡ xs → searched ≤ position_or_len p (drop start xs)
      → position p (take (length slice - (start + searched)) (drop (start + searched) slice)) ≡ Some at
      → (start + (searched + at) < length xs) × (position_or_len p (drop start xs) ≡ searched + at)
  found_next xs slice start searched at same_list l h =
      let there : position p (drop (start + searched) xs) ≡ Some at =
      ap (λ (list : List ℕ). position p (drop (start + searched) list)) (sym same_list)
      ∙ (ap (position p) (sym (from_place p slice (start + searched))) ∙ h) in
      let f = found p (drop (start + searched) xs) at there in
      let e = later (drop start xs) searched l in
      let d : drop searched (drop start xs) ≡ drop (start + searched) xs = drop-drop searched start xs in
      let same : position_or_len p (drop searched (drop start xs)) ≡ at = ap (position_or_len p) d ∙ f.1 in
      (omega (arith, f.0, length-drop (start + searched) xs), omega (arith, e, same))

  pub missing_next : (xs slice : List ℕ) (start searched : ℕ) → slice ≡ xs → searched ≤ position_or_len p (drop start xs)
      → position p (take (length slice - (start + searched)) (drop (start + searched) slice)) ≡ None
      → length (drop start xs) ≤ position_or_len p (drop start xs)
  missing_next xs slice start searched same_list l h =
      let there : position p (drop (start + searched) xs) ≡ None =
      ap (λ (list : List ℕ). position p (drop (start + searched) list)) (sym same_list)
      ∙ (ap (position p) (sym (from_place p slice (start + searched))) ∙ h) in
      let m = missing p (drop (start + searched) xs) there in
      let e = later (drop start xs) searched l in
      let d : drop searched (drop start xs) ≡ drop (start + searched) xs = drop-drop searched start xs in
      let same : position_or_len p (drop searched (drop start xs)) ≡ position_or_len p (drop (start + searched) xs) = ap (position_or_len p) d in
      omega (arith, m, e, same, length-drop (start + searched) xs, length-drop start xs)

  -- the first place that passes stays at least as far on where others follow
  farther_by : (b : Bool) (n m : ℕ) → n ≤ m → cond (not b) (1 + n) 0 ≤ cond (not b) (1 + m) 0
  farther_by true n m l = omega arith
  farther_by false n m l = omega arith

  pub farther : (xs ys : List ℕ) → position_or_len p xs ≤ position_or_len p (xs ++ ys)
  farther [] ys = omega arith
  farther (x ∷ xs) ys = farther_by (p x) (position_or_len p xs) (position_or_len p (xs ++ ys)) (farther xs ys)

  -- a list has at least one part
  pub some_part : (xs : List ℕ) → 0 < length (slice_split p xs)
  some_part xs = omega (arith, length-slice_split p xs)

  -- how the parts of a joined list join
  joined_none : (parts : List (List ℕ)) → 0 < length parts → splice ([] ∷ []) parts ≡ parts
  joined_none [] l = absurd (omega arith)
  joined_none (part ∷ parts) l = refl

  joined_cons : (b : Bool) (x : ℕ) (parts others : List (List ℕ)) → 0 < length parts
      → cond b ([] ∷ splice parts others) (onto_first x (splice parts others))
      ≡ splice (cond b ([] ∷ parts) (onto_first x parts)) others
  joined_cons b x [] others l = absurd (omega arith)
  joined_cons true x (part ∷ parts) others l = refl
  joined_cons false x (part ∷ []) [] l = refl
  joined_cons false x (part ∷ []) (other ∷ others) l = refl
  joined_cons false x (part ∷ next ∷ parts) others l = refl

  pub slice_split-append : (xs ys : List ℕ) → slice_split p (xs ++ ys) ≡ splice (slice_split p xs) (slice_split p ys)
  slice_split-append [] ys = sym (joined_none (slice_split p ys) (some_part ys))
  slice_split-append (x ∷ xs) ys =
      ap (λ (parts : List (List ℕ)). cond (p x) ([] ∷ parts) (onto_first x parts)) (slice_split-append xs ys)
      ∙ joined_cons (p x) x (slice_split p xs) (slice_split p ys) (some_part xs)

-- the first parts stay where others follow
pub splice-append : (firsts parts others : List (List ℕ)) → 0 < length parts
    → splice (firsts ++ parts) others ≡ firsts ++ splice parts others
splice-append [] parts others l = refl
splice-append (first ∷ firsts) [] others l = absurd (omega arith)
splice-append (first ∷ []) (part ∷ parts) others l = refl
splice-append (first ∷ next ∷ firsts) (part ∷ parts) others l =
    ap (λ (rest : List (List ℕ)). first ∷ rest) (splice-append (next ∷ firsts) (part ∷ parts) others l)
