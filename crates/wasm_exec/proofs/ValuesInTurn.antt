-- Values from a place of an array on, one by one.
use Rattle.std.proofs.Common.{◌≡◌, ℕ, ◌+◌, ◌-◌, ◌<◌, ◌≤◌, ◌^◌, List, [], ◌∷◌, length, take, drop, get_or, ap, subst, ◌∙◌, arith}
use Rattle.std.specs.Prelude.{suc}
use Rattle.std.proofs.Math.Seq.{drop-cons}
use Rattle.wasm_ast.specs.declared.val_types.ValType.TheVariants.{I32}
use Rattle.wasm_semantics.specs.OfModule.{Holds}
use Rattle.wasm_data.specs.Marked.{locals_in}

next_word : (n at : ℕ) (values : List ℕ) → at < length values → take (suc n) (drop at values) ≡ get_or values at 0 ∷ take n (drop (at + 1) values)
next_word n at values lt =
    let next : suc at ≡ at + 1 = omega arith in
    ap (take (suc n)) (drop-cons values at 0 lt) ∙ ap (λ k. get_or values at 0 ∷ take n (drop k values)) next

words : (n at : ℕ) (values : List ℕ) → locals_in at (at + n) values ≡ take n (drop at values)
unfolding locals_in
words n at values = let size : at + n - at ≡ n = omega arith in ap (λ k. take k (drop at values)) size

two_words_at : (at : ℕ) (values : List ℕ) → at + 2 ≤ length values → take 2 (drop at values) ≡ get_or values at 0 ∷ get_or values (at + 1) 0 ∷ []
two_words_at at values le = next_word 1 at values (omega arith) ∙ ap (λ xs. get_or values at 0 ∷ xs) (next_word 0 (at + 1) values (omega arith))

pub two_words : (at : ℕ) (values : List ℕ) → at + 2 ≤ length values → locals_in at (at + 2) values ≡ get_or values at 0 ∷ get_or values (at + 1) 0 ∷ []
two_words at values le = words 2 at values ∙ two_words_at at values le

pub four_words : (at : ℕ) (values : List ℕ) → at + 4 ≤ length values
    → locals_in at (at + 4) values ≡ get_or values at 0 ∷ get_or values (at + 1) 0 ∷ get_or values (at + 2) 0 ∷ get_or values (at + 3) 0 ∷ []
four_words at values le =
    let g = get_or values in
    let two : at + 1 + 1 ≡ at + 2 = omega arith in
    let three : at + 2 + 1 ≡ at + 3 = omega arith in
    words 4 at values
    ∙ (next_word 3 at values (omega arith)
    ∙ (ap (λ xs. g at 0 ∷ xs) (next_word 2 (at + 1) values (omega arith))
    ∙ (ap (λ k. g at 0 ∷ g (at + 1) 0 ∷ take 2 (drop k values)) two
    ∙ (ap (λ xs. g at 0 ∷ g (at + 1) 0 ∷ xs) (two_words_at (at + 2) values (omega arith))
    ∙ ap (λ k. g at 0 ∷ g (at + 1) 0 ∷ g (at + 2) 0 ∷ g k 0 ∷ []) three))))

-- each of them is a number of 32 bits
pub two_fit : (at : ℕ) (values : List ℕ) → at + 2 ≤ length values → Holds (I32 ∷ I32 ∷ []) (locals_in at (at + 2) values) → (get_or values at 0 < 2 ^ 32) × (get_or values (at + 1) 0 < 2 ^ 32)
two_fit at values le h = let k = subst (Holds (I32 ∷ I32 ∷ [])) (two_words at values le) h in (k.0, k.1.0)

pub four_fit : (at : ℕ) (values : List ℕ) → at + 4 ≤ length values → Holds (I32 ∷ I32 ∷ I32 ∷ I32 ∷ []) (locals_in at (at + 4) values)
    → (get_or values at 0 < 2 ^ 32) × (get_or values (at + 1) 0 < 2 ^ 32) × (get_or values (at + 2) 0 < 2 ^ 32) × (get_or values (at + 3) 0 < 2 ^ 32)
four_fit at values le h = let k = subst (Holds (I32 ∷ I32 ∷ I32 ∷ I32 ∷ [])) (four_words at values le) h in (k.0, k.1.0, k.1.1.0, k.1.1.1.0)
