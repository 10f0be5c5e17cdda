-- Lemmas on lists.
use Rattle.std.proofs.Common.{◌≡◌, ℕ, zero, suc, append_assoc, ◌+◌, ◌-◌, ◌<◌, ◌≤◌, List, [], ◌∷◌, ◌++◌, length, get_or, inl, inr, take, drop, refl, sym, ap, ◌∙◌, arith, length-append}
use Rattle.std.specs.Prelude.{false, true, reverse, slice_get, Option, Some, None, IsSome, IfSome, ◌↔◌}
use Rattle.std.specs.Option.{option_copied_mut}
use Rattle.std.specs.Borrow.{MutBor}
use Rattle.std.proofs.lemmas.Option.{slice_get_past, slice_get_read}
use Rattle.std.proofs.lemmas.Bool.{cases_lt}
use Rattle.std.proofs.lemmas.List.{reverse-append, take-append-drop, length-reverse, length-drop, get_or-reverse}
use Rattle.std.proofs.Math.Seq.{drop-append-add, set-append_seam, take-append_seam, take-length, paste}
use Rattle.std.proofs.lemmas.List.Edits.{take-paste}
use Rattle.std.proofs.Math.ListN.{set}

pub reverse_take : {A : Type 0} (n : ℕ) (xs : List A) → reverse (take n xs) ≡ drop (length xs - n) (reverse xs)
reverse_take n xs =
    let t = take n xs in
    let d = drop n xs in
    let whole : reverse xs ≡ reverse d ++ reverse t = ap reverse (sym (take-append-drop n xs)) ∙ reverse-append t d in
    let here : length xs - n ≡ length (reverse d) + 0 = omega (arith, length-reverse d, length-drop n xs) in
    sym (ap (λ r. drop (length xs - n) r) whole ∙ (ap (λ k. drop k (reverse d ++ reverse t)) here ∙ drop-append-add (reverse d) (reverse t) 0))

-- an item, and what stands before it and after it
split_at : {A : Type 0} (xs : List A) (m : ℕ) → m < length xs → (front : List A) × (x : A) × (rest : List A) × (xs ≡ front ++ x ∷ rest) × (length front ≡ m)
split_at [] m h = absurd (omega arith)
split_at (x ∷ xs) zero h = ([], x, xs, refl, refl)
split_at (x ∷ xs) (suc m) h =
    let s = split_at xs m (omega arith) in
    (x ∷ s.0, s.1, s.2, ap (λ ys. x ∷ ys) s.3, ap suc s.4)

turned : {A : Type 0} (front : List A) (x : A) (rest : List A) → reverse (front ++ x ∷ rest) ≡ reverse rest ++ x ∷ reverse front
turned front x rest =
    reverse-append front (x ∷ rest)
    ∙ (ap (λ ys. ys ++ reverse front) (reverse-append (x ∷ []) rest) ∙ append_assoc (reverse rest) (x ∷ []) (reverse front))

-- an item is set from the top
pub reverse_set : {A : Type 0} (xs : List A) (k : ℕ) (a : A) → k < length xs → reverse (set xs (length xs - 1 - k) a) ≡ set (reverse xs) k a
reverse_set xs k a h =
    let s = split_at xs (length xs - 1 - k) (omega arith) in
    let long : length xs ≡ length s.0 + suc (length s.2) = ap length s.3 ∙ length-append s.0 (s.1 ∷ s.2) in
    let behind : k ≡ length (reverse s.2) = omega (arith, long, s.4, length-reverse s.2) in
    ap (λ m. reverse (set xs m a)) (sym s.4)
    ∙ (ap (λ ys. reverse (set ys (length s.0) a)) s.3
    ∙ (ap reverse (set-append_seam s.0 s.1 s.2 a)
    ∙ (turned s.0 a s.2
    ∙ (sym (set-append_seam (reverse s.2) s.1 (reverse s.0) a)
    ∙ (ap (λ m. set (reverse s.2 ++ s.1 ∷ reverse s.0) m a) (sym behind)
    ∙ ap (λ ys. set ys k a) (sym (ap reverse s.3 ∙ turned s.0 s.1 s.2)))))))

-- the last item is the topmost
pub reverse_set_last : {A : Type 0} (xs : List A) (n : ℕ) (a : A) → n ≡ length xs → reverse (set xs (n - 1) a) ≡ set (reverse xs) 0 a
reverse_set_last [] n a e = refl
reverse_set_last (x ∷ xs) n a e =
    let place : n - 1 ≡ length (x ∷ xs) - 1 - 0 = omega arith in
    ap (λ m. reverse (set (x ∷ xs) m a)) place ∙ reverse_set (x ∷ xs) 0 a (omega arith)

pub reverse_drop : {A : Type 0} (n : ℕ) (xs : List A) → reverse (drop n xs) ≡ take (length xs - n) (reverse xs)
reverse_drop n xs =
    let t = take n xs in
    let d = drop n xs in
    let whole : reverse xs ≡ reverse d ++ reverse t = ap reverse (sym (take-append-drop n xs)) ∙ reverse-append t d in
    let here : length xs - n ≡ length (reverse d) = omega (arith, length-reverse d, length-drop n xs) in
    sym (ap (λ r. take (length xs - n) r) whole ∙ (ap (λ k. take k (reverse d ++ reverse t)) here ∙ take-append_seam (reverse d) (reverse t)))

-- the newest kept and the oldest below of a list that is kept in turn
pub reverse_collapse : {A : Type 0} (xs : List A) (kept below : ℕ) → kept + below ≤ length xs
    → reverse (take (below + kept) (paste xs below (drop (length xs - kept) xs) kept)) ≡ take kept (reverse xs) ++ drop (length xs - below) (reverse xs)
reverse_collapse xs kept below h =
    let tail = drop (length xs - kept) xs in
    let long : kept ≡ length tail = omega (arith, length-drop (length xs - kept) xs) in
    let whole : take kept tail ≡ tail = ap (λ k. take k tail) long ∙ take-length tail in
    let first : length xs - (length xs - kept) ≡ kept = omega arith in
    ap reverse (take-paste xs below tail kept (omega arith) (omega arith) ∙ ap (λ t. take below xs ++ t) whole)
    ∙ (reverse-append (take below xs) tail
    ∙ (ap (λ t. t ++ reverse (take below xs)) (reverse_drop (length xs - kept) xs ∙ ap (λ k. take k (reverse xs)) first)
    ∙ ap (λ t. take kept (reverse xs) ++ t) (reverse_take below xs)))

-- the last item, where it is borrowed
pub top_value : {X : Type 0} (xs : List X) (n : ℕ) (r : Option (MutBor X)) → n ≡ length xs → IsSome r ↔ (0 < n) → IfSome r (λ x. x.now ≡ get_or xs (n - 1) x.now)
    → option_copied_mut r ≡ slice_get (reverse xs) 0
top_value xs n None e some value = elim (cases_lt 0 n) [
  | inl lt ↦ absurd (let never : false ≡ true = some.1 lt in cc)
  | inr le ↦ sym (slice_get_past (reverse xs) 0 (omega (arith, length-reverse xs)))
]
top_value xs n (Some x) e some value =
    let lt = some.0 refl in
    let here : length xs - 1 - 0 ≡ n - 1 = omega arith in
    sym (slice_get_read (reverse xs) n 0 x.now (e ∙ sym (length-reverse xs)) lt
    (value ∙ (ap (λ k. get_or xs k x.now) (sym here) ∙ sym (get_or-reverse xs 0 x.now (omega arith)))))
