-- The blocks of one frame on stacks that others share.
use Rattle.std.proofs.Common.{◌≡◌, ℕ, ◌+◌, ◌-◌, ◌<◌, ◌≤◌, List, [], ◌∷◌, length, take, drop, refl, sym, ap, ◌∙◌, arith, Bor, length-drop}
use Rattle.std.specs.Prelude.{map, slice_get, Some, zero, suc}
use Rattle.std.proofs.lemmas.List.{drop-take, drop-drop}
use Rattle.wasm_ast.specs.declared.trees.Instr.{Instr}
use Rattle.wasm_data.specs.Cuts.{above, under}
use Rattle.wasm_blocks.specs.declared.open.Open.{Open}
use Rattle.wasm_blocks.specs.Levels.{first_of}
use Rattle.wasm_blocks.specs.Runs.{own_nexts}
use Rattle.wasm_blocks.proofs.Cuts.{above_append, under_append}

-- one more on top
pub above_more : {A : Type 0} (low : ℕ) (x : A) (xs : List A) → low ≤ length xs → above low (x ∷ xs) ≡ x ∷ above low xs
above_more low x xs le = above_append (x ∷ []) xs low le

pub under_more : {A : Type 0} (low : ℕ) (x : A) (xs : List A) → low ≤ length xs → under low (x ∷ xs) ≡ under low xs
under_more low x xs le = under_append (x ∷ []) xs low le

more_own : (low n : ℕ) → low ≤ n → suc n - low ≡ suc (n - low)
more_own low n le = omega arith

pub nexts_more : (low : ℕ) (o : Open) (os : List Open) (n : Bor (List Instr)) (ns : List (Bor (List Instr))) → low ≤ length os → own_nexts low (o ∷ os) (n ∷ ns) ≡ n.now ∷ own_nexts low os ns
nexts_more low o os n ns le = ap (λ k. map (λ s. s.now) (take k (n ∷ ns))) (more_own low (length os) le)

pub drop_more : (low : ℕ) (o : Open) (os : List Open) (n : Bor (List Instr)) (ns : List (Bor (List Instr))) → low ≤ length os → drop (length (o ∷ os) - low) (n ∷ ns) ≡ drop (length os - low) ns
drop_more low o os n ns le = ap (λ k. drop k (n ∷ ns)) (more_own low (length os) le)

-- some fewer
pub above_drop : {A : Type 0} (low k : ℕ) (xs : List A) → k + low ≤ length xs → above low (drop k xs) ≡ drop k (above low xs)
unfolding above
above_drop low k xs le =
    let n : length (drop k xs) - low ≡ length xs - low - k = omega (arith, length-drop k xs) in
    let m : k + (length xs - low - k) ≡ length xs - low = omega arith in
    ap (λ j. take j (drop k xs)) n ∙ (sym (drop-take k (length xs - low - k) xs) ∙ ap (λ j. drop k (take j xs)) m)

pub under_drop : {A : Type 0} (low k : ℕ) (xs : List A) → k + low ≤ length xs → under low (drop k xs) ≡ under low xs
unfolding under
under_drop low k xs le =
    let n : k + (length (drop k xs) - low) ≡ length xs - low = omega (arith, length-drop k xs) in
    drop-drop (length (drop k xs) - low) k xs ∙ ap (λ j. drop j xs) n

pub drop_nows : (n : ℕ) (ns : List (Bor (List Instr))) → drop n (map (λ s. s.now) ns) ≡ map (λ s. s.now) (drop n ns)
drop_nows zero [] = refl
drop_nows (suc n) [] = refl
drop_nows zero (y ∷ ns) = refl
drop_nows (suc n) (y ∷ ns) = drop_nows n ns

pub nexts_drop : (low k : ℕ) (os : List Open) (ns : List (Bor (List Instr))) → k + low ≤ length os → own_nexts low (drop k os) (drop k ns) ≡ drop k (own_nexts low os ns)
nexts_drop low k os ns le =
    let n : length (drop k os) - low ≡ length os - low - k = omega (arith, length-drop k os) in
    let m : k + (length os - low - k) ≡ length os - low = omega arith in
    ap (λ j. map (λ s. s.now) (take j (drop k ns))) n
    ∙ (ap (map (λ s. s.now)) (sym (drop-take k (length os - low - k) ns) ∙ ap (λ j. drop k (take j ns)) m)
    ∙ sym (drop_nows k (take (length os - low) ns)))

pub drop_drop : (low k : ℕ) (os : List Open) (ns : List (Bor (List Instr))) → k + low ≤ length os → drop (length (drop k os) - low) (drop k ns) ≡ drop (length os - low) ns
drop_drop low k os ns le =
    let n : k + (length (drop k os) - low) ≡ length os - low = omega (arith, length-drop k os) in
    drop-drop (length (drop k os) - low) k ns ∙ ap (λ j. drop j ns) n

get_take : {A : Type 0} (n k : ℕ) (xs : List A) → n < k → slice_get (take k xs) n ≡ slice_get xs n
get_take n zero xs lt = absurd (omega (arith, lt))
get_take zero (suc k) [] lt = refl
get_take (suc n) (suc k) [] lt = refl
get_take zero (suc k) (x ∷ xs) lt = refl
get_take (suc n) (suc k) (x ∷ xs) lt = get_take n k xs (omega (arith, lt))

pub get_above : {A : Type 0} (low n : ℕ) (xs : List A) → n + low < length xs → slice_get (above low xs) n ≡ slice_get xs n
unfolding above
get_above low n xs lt = get_take n (length xs - low) xs (omega (arith, lt))

next_at : (n : ℕ) (ns : List (Bor (List Instr))) (x : Bor (List Instr)) → slice_get ns n ≡ Some x → first_of (drop n (map (λ s. s.now) ns)) ≡ x.now
next_at n [] x e = cc
next_at zero (y ∷ ns) x e = let same : y ≡ x = cc in ap (λ s. s.now) same
next_at (suc n) (y ∷ ns) x e = next_at n ns x e

pub next_own : (low n : ℕ) (os : List Open) (ns : List (Bor (List Instr))) (x : Bor (List Instr)) → n + low < length os → slice_get ns n ≡ Some x → first_of (drop n (own_nexts low os ns)) ≡ x.now
next_own low n os ns x lt e = next_at n (take (length os - low) ns) x (get_take n (length os - low) ns (omega (arith, lt)) ∙ e)
