-- An array of values with the marks of a frame.
use Rattle.std.proofs.Common.{◌≡◌, ℕ, ◌+◌, ◌-◌, ◌<◌, ◌≤◌, List, [], ◌∷◌, ◌++◌, length, take, drop, sym, ap, ◌∙◌, arith, get_or}
use Rattle.std.specs.Prelude.{reverse, slice_get, Some, suc}
use Rattle.std.proofs.Math.ListN.{set}
use Rattle.std.proofs.Math.Seq.{take-set-lt}
use Rattle.std.proofs.lemmas.List.{take_more_set, take-set-le, take-take, drop-take, take-append-drop, drop-set-lt, drop-set-add, drop-append-le, length-take, length-drop, reverse-append, length-reverse, get_or-take, get_or-drop}
use Rattle.std.proofs.lemmas.Option.{slice_get-get_or}
use Rattle.std.proofs.Math.Seq.{take-suc, drop-append-add}
use Rattle.wasm_data.specs.Cuts.{under}
use Rattle.wasm_data.specs.Marked.{locals_in, operands_in}

last_first : {A : Type 0} (xs : List A) (x : A) → reverse (xs ++ x ∷ []) ≡ x ∷ reverse xs
last_first xs x = reverse-append xs (x ∷ [])

pub put_operands : (floor sp : ℕ) (values : List ℕ) (v : ℕ) → floor ≤ sp → sp < length values → operands_in floor (sp + 1) (set values sp v) ≡ v ∷ operands_in floor sp values
unfolding operands_in
put_operands floor sp values v le lt =
    let long : floor ≤ length (take sp values) = omega (arith, length-take sp values) in
    ap (λ xs. reverse (drop floor xs)) (take_more_set values sp v lt) ∙ (ap reverse (drop-append-le floor (take sp values) (v ∷ []) long) ∙ last_first (drop floor (take sp values)) v)

pub put_locals : (base floor sp : ℕ) (values : List ℕ) (v : ℕ) → base ≤ floor → floor ≤ sp → locals_in base floor (set values sp v) ≡ locals_in base floor values
unfolding locals_in
put_locals base floor sp values v le le' =
    let there : base + (sp - base) ≡ sp = omega arith in
    ap (λ k. take (floor - base) (drop base (set values k v))) (sym there) ∙ (ap (λ xs. take (floor - base) xs) (drop-set-add base values (sp - base) v) ∙ take-set-le (floor - base) (drop base values) (sp - base) v (omega arith))

pub set_locals : (base floor x : ℕ) (values : List ℕ) (v : ℕ) → x < floor - base → locals_in base floor (set values (base + x) v) ≡ set (locals_in base floor values) x v
unfolding locals_in
set_locals base floor x values v lt = ap (λ xs. take (floor - base) xs) (drop-set-add base values x v) ∙ take-set-lt (floor - base) (drop base values) x v lt

pub set_operands : (floor sp i : ℕ) (values : List ℕ) (v : ℕ) → i < floor → floor ≤ sp → operands_in floor sp (set values i v) ≡ operands_in floor sp values
unfolding operands_in
set_operands floor sp i values v lt le = ap (λ xs. reverse (drop floor xs)) (take-set-lt sp values i v (omega arith)) ∙ ap reverse (drop-set-lt floor (take sp values) i v lt)

pub get_local : (base floor x : ℕ) (values : List ℕ) → x < floor - base → floor ≤ length values → slice_get (locals_in base floor values) x ≡ Some (get_or values (base + x) 0)
unfolding locals_in
get_local base floor x values lt le =
    let ls = take (floor - base) (drop base values) in
    let long : x < length ls = omega (arith, length-take (floor - base) (drop base values), length-drop base values) in
    slice_get-get_or ls x 0 long ∙ ap (λ v. Some v) (get_or-take (floor - base) (drop base values) x 0 lt ∙ get_or-drop base values x 0)

pub top_operand : (floor sp : ℕ) (values : List ℕ) → floor < sp → sp ≤ length values → operands_in floor sp values ≡ get_or values (sp - 1) 0 ∷ operands_in floor (sp - 1) values
unfolding operands_in
top_operand floor sp values lt le =
    let there : sp ≡ suc (sp - 1) = omega arith in
    let long : floor ≤ length (take (sp - 1) values) = omega (arith, length-take (sp - 1) values) in
    ap (λ k. reverse (drop floor (take k values))) there
    ∙ (ap (λ xs. reverse (drop floor xs)) (take-suc values (sp - 1) 0 (omega arith))
    ∙ (ap reverse (drop-append-le floor (take (sp - 1) values) (get_or values (sp - 1) 0 ∷ []) long) ∙ last_first (drop floor (take (sp - 1) values)) (get_or values (sp - 1) 0)))

pub length_operands : (floor sp : ℕ) (values : List ℕ) → sp ≤ length values → length (operands_in floor sp values) ≡ sp - floor
unfolding operands_in
length_operands floor sp values le = omega (arith, length-reverse (drop floor (take sp values)), length-drop floor (take sp values), length-take sp values)

pub length_locals : (base floor : ℕ) (values : List ℕ) → floor ≤ length values → length (locals_in base floor values) ≡ floor - base
unfolding locals_in
length_locals base floor values le = omega (arith, length-take (floor - base) (drop base values), length-drop base values)

reverse_take : {A : Type 0} (n : ℕ) (xs : List A) → reverse (take n xs) ≡ drop (length xs - n) (reverse xs)
reverse_take n xs =
    let t = take n xs in
    let d = drop n xs in
    let whole : reverse xs ≡ reverse d ++ reverse t = ap reverse (sym (take-append-drop n xs)) ∙ reverse-append t d in
    let here : length xs - n ≡ length (reverse d) + 0 = omega (arith, length-reverse d, length-drop n xs) in
    sym (ap (λ r. drop (length xs - n) r) whole ∙ (ap (λ k. drop k (reverse d ++ reverse t)) here ∙ drop-append-add (reverse d) (reverse t) 0))

pub under_operands : (floor to sp : ℕ) (values : List ℕ) → floor ≤ to → to ≤ sp → sp ≤ length values → operands_in floor to values ≡ under (to - floor) (operands_in floor sp values)
unfolding operands_in under
under_operands floor to sp values le le' le'' =
    let j = to - floor in
    let k = sp - floor in
    let to_is : floor + j ≡ to = omega arith in
    let sp_is : floor + k ≡ sp = omega arith in
    let D = drop floor values in
    let at_to : drop floor (take to values) ≡ take j D = ap (λ n. drop floor (take n values)) (sym to_is) ∙ drop-take floor j values in
    let at_sp : drop floor (take sp values) ≡ take k D = ap (λ n. drop floor (take n values)) (sym sp_is) ∙ drop-take floor k values in
    let size : length (reverse (take k D)) ≡ length (take k D) = length-reverse (take k D) in
    ap reverse at_to ∙ (ap reverse (sym (take-take j k D (omega arith))) ∙ (reverse_take j (take k D)
    ∙ (ap (λ n. drop (n - j) (reverse (take k D))) (sym size) ∙ ap (λ xs. drop (length (reverse xs) - j) (reverse xs)) (sym at_sp))))

pub keep_one : (floor to sp : ℕ) (values : List ℕ) → floor ≤ to → to + 1 ≤ sp → sp ≤ length values
    → operands_in floor (to + 1) (set values to (get_or values (sp - 1) 0)) ≡ take 1 (operands_in floor sp values) ++ under (to - floor) (operands_in floor sp values)
keep_one floor to sp values le le' le'' =
    let v = get_or values (sp - 1) 0 in
    let ops = operands_in floor sp values in
    put_operands floor to values v le (omega arith)
    ∙ (ap (λ xs. v ∷ xs) (under_operands floor to sp values le (omega arith) le'')
    ∙ ap (λ xs. take 1 xs ++ under (to - floor) ops) (sym (top_operand floor sp values (omega arith) le'')))
