-- Lists cut at a height.
use Rattle.std.proofs.Common.{◌≡◌, ℕ, ◌+◌, ◌-◌, ◌≤◌, List, [], ◌++◌, length, take, drop, ap, ◌∙◌, arith, length-append, length-drop, length-take}
use Rattle.std.proofs.lemmas.List.{take-append-drop}
use Rattle.std.proofs.Math.Seq.{drop-append-add, take-append-add, take-append_seam}
use Rattle.wasm_data.specs.Cuts.{above, under}

pub above_cut : {A : Type 0} (a b : List A) (h : ℕ) → length b ≡ h → above h (a ++ b) ≡ a
unfolding above
above_cut a b h e = let n : length (a ++ b) - h ≡ length a = omega (arith, length-append a b) in ap (λ k. take k (a ++ b)) n ∙ take-append_seam a b

pub under_cut : {A : Type 0} (a b : List A) (h : ℕ) → length b ≡ h → under h (a ++ b) ≡ b
unfolding under
under_cut a b h e = let n : length (a ++ b) - h ≡ length a + 0 = omega (arith, length-append a b) in ap (λ k. drop k (a ++ b)) n ∙ drop-append-add a b 0

pub above_append : {A : Type 0} (a b : List A) (h : ℕ) → h ≤ length b → above h (a ++ b) ≡ a ++ above h b
unfolding above
above_append a b h le = let n : length (a ++ b) - h ≡ length a + (length b - h) = omega (arith, length-append a b) in ap (λ k. take k (a ++ b)) n ∙ take-append-add a b (length b - h)

pub under_append : {A : Type 0} (a b : List A) (h : ℕ) → h ≤ length b → under h (a ++ b) ≡ under h b
unfolding under
under_append a b h le = let n : length (a ++ b) - h ≡ length a + (length b - h) = omega (arith, length-append a b) in ap (λ k. drop k (a ++ b)) n ∙ drop-append-add a b (length b - h)

pub cut_whole : {A : Type 0} (h : ℕ) (xs : List A) → above h xs ++ under h xs ≡ xs
unfolding above under
cut_whole h xs = take-append-drop (length xs - h) xs

pub length_under : {A : Type 0} (h : ℕ) (xs : List A) → h ≤ length xs → length (under h xs) ≡ h
unfolding under
length_under h xs le = omega (arith, length-drop (length xs - h) xs)

pub length_above : {A : Type 0} (h : ℕ) (xs : List A) → length (above h xs) ≡ length xs - h
unfolding above
length_above h xs = omega (arith, length-take (length xs - h) xs)

-- at its whole height a list has nothing above
pub above_all : {A : Type 0} (xs : List A) (h : ℕ) → length xs ≡ h → above h xs ≡ []
unfolding above
above_all xs h e = let n : length xs - h ≡ 0 = omega arith in ap (λ k. take k xs) n

pub under_all : {A : Type 0} (xs : List A) (h : ℕ) → length xs ≡ h → under h xs ≡ xs
unfolding under
under_all xs h e = let n : length xs - h ≡ 0 = omega arith in ap (λ k. drop k xs) n
