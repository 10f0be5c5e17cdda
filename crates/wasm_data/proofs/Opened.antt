-- A frame opened over another in one array.
use Rattle.std.proofs.Common.{◌≡◌, ℕ, ◌+◌, ◌-◌, ◌<◌, ◌≤◌, List, [], ◌∷◌, ◌++◌, length, take, drop, sym, ap, ◌∙◌, arith}
use Rattle.std.specs.Prelude.{reverse, replicate}
use Rattle.std.proofs.Math.ListN.{set, drop_of_length-le}
use Rattle.std.proofs.Math.Seq.{take-append-add}
use Rattle.std.proofs.lemmas.Grind.{replicate_next}
use Rattle.std.proofs.lemmas.List.{take_more_set, take-set-le, take-take, drop-take, drop-drop, drop-set-add, drop-append-le, take-append-drop, length-take, length-drop, reverse-reverse}
use Rattle.wasm_stack.proofs.Lists.{reverse_drop}
use Rattle.wasm_data.specs.Cuts.{under}
use Rattle.wasm_data.specs.Marked.{locals_in, operands_in}
use Rattle.wasm_data.proofs.Arrays.{under_operands, length_operands}

pub zero_more : (xs : List ℕ) (sp i : ℕ) → sp ≤ i → i < length xs → take (i - sp) (drop sp xs) ≡ replicate (i - sp) 0 → take (i + 1 - sp) (drop sp (set xs i 0)) ≡ replicate (i + 1 - sp) 0
zero_more xs sp i le lt h =
    let k = i - sp in
    let at : sp + k ≡ i = omega arith in
    let next : i + 1 - sp ≡ k + 1 = omega arith in
    let long : k < length (drop sp xs) = omega (arith, length-drop sp xs) in
    ap (λ n. take n (drop sp (set xs i 0))) next
    ∙ (ap (λ n. take (k + 1) (drop sp (set xs n 0))) (sym at)
    ∙ (ap (take (k + 1)) (drop-set-add sp xs k 0)
    ∙ (take_more_set (drop sp xs) k 0 long
    ∙ (ap (λ ys. ys ++ 0 ∷ []) h ∙ (sym (replicate_next k 0) ∙ ap (λ n. replicate n 0) (sym next))))))

pub before_more : (xs ys : List ℕ) (sp i : ℕ) → sp ≤ i → take sp xs ≡ take sp ys → take sp (set xs i 0) ≡ take sp ys
before_more xs ys sp i le h = take-set-le sp xs i 0 le ∙ h

pub locals_before : (base floor n : ℕ) (xs ys : List ℕ) → base ≤ floor → floor ≤ n → take n xs ≡ take n ys → locals_in base floor xs ≡ locals_in base floor ys
unfolding locals_in
locals_before base floor n xs ys le le' h =
    let k = floor - base in
    let at : base + k ≡ floor = omega arith in
    let cut = λ (zs : List ℕ). sym (drop-take base k zs) ∙ (ap (λ m. drop base (take m zs)) at ∙ ap (drop base) (sym (take-take floor n zs le'))) in
    cut xs ∙ (ap (λ zs. drop base (take floor zs)) h ∙ sym (cut ys))

pub operands_before : (floor to n : ℕ) (xs ys : List ℕ) → to ≤ n → take n xs ≡ take n ys → operands_in floor to xs ≡ operands_in floor to ys
unfolding operands_in
operands_before floor to n xs ys le h = ap (λ zs. reverse (drop floor zs)) (sym (take-take to n xs le) ∙ (ap (take to) h ∙ take-take to n ys le))

pub take_before : (m n : ℕ) (xs ys : List ℕ) → m ≤ n → take n xs ≡ take n ys → take m xs ≡ take m ys
take_before m n xs ys le h = sym (take-take m n xs le) ∙ (ap (take m) h ∙ take-take m n ys le)

pub none_above : (floor : ℕ) (xs : List ℕ) → operands_in floor floor xs ≡ []
unfolding operands_in
none_above floor xs = ap reverse (drop_of_length-le (take floor xs) (omega (arith, length-take floor xs)))

pub callers_operands : (floor sp params : ℕ) (xs ys : List ℕ) → params ≤ sp - floor → floor ≤ sp → sp ≤ length ys → take sp xs ≡ take sp ys → operands_in floor (sp - params) xs ≡ drop params (operands_in floor sp ys)
unfolding under
callers_operands floor sp params xs ys le le' le'' h =
    let ops = operands_in floor sp ys in
    let k : length ops - (sp - params - floor) ≡ params = omega (arith, length_operands floor sp ys le'') in
    operands_before floor (sp - params) sp xs ys (omega arith) h
    ∙ (under_operands floor (sp - params) sp ys (omega arith) (omega arith) le'' ∙ ap (λ n. drop n ops) k)

pub new_locals : (floor sp params declared : ℕ) (xs ys : List ℕ) → params ≤ sp - floor → floor ≤ sp → sp ≤ length ys → length xs ≡ length ys → take sp xs ≡ take sp ys → take declared (drop sp xs) ≡ replicate declared 0
    → locals_in (sp - params) (sp + declared) xs ≡ reverse (take params (operands_in floor sp ys)) ++ replicate declared 0
unfolding locals_in operands_in
new_locals floor sp params declared xs ys le le' le'' size h zeros =
    let base = sp - params in
    let t = take sp ys in
    let d = drop floor t in
    let long : length t ≡ sp = omega (arith, length-take sp ys) in
    let a = drop base t in
    let count : length a ≡ params = omega (arith, length-drop base t, long) in
    let whole : sp + declared - base ≡ length a + declared = omega (arith, count) in
    let apart : drop base xs ≡ a ++ drop sp xs =
    ap (drop base) (sym (take-append-drop sp xs)) ∙ (drop-append-le base (take sp xs) (drop sp xs) (omega (arith, length-take sp xs, size)) ∙ ap (λ zs. drop base zs ++ drop sp xs) h) in
    let n = length d - params in
    let here : floor + n ≡ base = omega (arith, length-drop floor t, long) in
    let back : length d - n ≡ params = omega (arith, length-drop floor t, long) in
    let args : reverse (take params (reverse d)) ≡ a =
    ap (λ k. reverse (take k (reverse d))) (sym back) ∙ (ap reverse (sym (reverse_drop n d)) ∙ (reverse-reverse (drop n d) ∙ (drop-drop n floor t ∙ ap (λ k. drop k t) here))) in
    ap (λ k. take k (drop base xs)) whole ∙ (ap (take (length a + declared)) apart ∙ (take-append-add a (drop sp xs) declared
    ∙ (ap (λ zs. a ++ zs) zeros ∙ ap (λ zs. zs ++ replicate declared 0) (sym args))))
