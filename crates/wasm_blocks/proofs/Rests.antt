-- What a run keeps is what the places say, and stays so.
use Rattle.std.proofs.Common.{◌≡◌, ℕ, ◌+◌, ◌-◌, ◌<◌, Bool, true, false, List, [], ◌∷◌, ◌++◌, length, take, drop, refl, sym, ap, subst, ◌∙◌, arith, length-append, append_assoc}
use Rattle.std.specs.Prelude.{slice_get, Some, zero, suc, if◌then◌else◌}
use Rattle.std.proofs.lemmas.List.{take-append-drop}
use Rattle.std.proofs.Math.Seq.{drop-append-add, get_or-append_seam}
use Rattle.std.proofs.lemmas.Option.{slice_get-get_or}
use Rattle.wasm_ast.specs.declared.trees.Instr.{Instr}
use Rattle.wasm_ast.specs.Trees.{layer}
use Rattle.wasm_blocks.specs.declared.open.Open.{Open}
use Rattle.wasm_blocks.specs.Levels.{first_of, rest_of}
use Rattle.wasm_blocks.specs.Rest.{last, part_of, part_at, code_in, nexts_in, IsEnd, Placed}

last_of_end : (xs whole : List Instr) → IsEnd xs whole → last whole (length xs) ≡ xs
last_of_end xs whole e =
    let n : length (e.0 ++ xs) - length xs ≡ length e.0 + 0 = omega (arith, length-append e.0 xs) in
    ap (λ w. last w (length xs)) e.1 ∙ (ap (λ k. drop k (e.0 ++ xs)) n ∙ drop-append-add e.0 xs 0)

last_end : (whole : List Instr) (n : ℕ) → IsEnd (last whole n) whole
last_end whole n = (take (length whole - n) whole, sym (take-append-drop (length whole - n) whole))

end_rest : (xs whole : List Instr) → IsEnd xs whole → IsEnd (drop 1 xs) whole
end_rest [] whole e = e
end_rest (x ∷ xs) whole e = (e.0 ++ x ∷ [], e.1 ∙ sym (append_assoc e.0 (x ∷ []) xs))

end_loops : (loops : Bool) (xs whole : List Instr) → IsEnd xs whole → IsEnd (rest_of loops xs) whole
end_loops true xs whole e = end_rest xs whole e
end_loops false xs whole e = e

-- the instruction in front of an end
front_of : (i : Instr) (rest whole : List Instr) → IsEnd (i ∷ rest) whole → slice_get whole (length whole - (length rest + 1)) ≡ Some i
front_of i rest whole e =
    let size : length whole ≡ length e.0 + (length rest + 1) = omega (arith, ap length e.1, length-append e.0 (i ∷ rest)) in
    let at : length whole - (length rest + 1) ≡ length e.0 = omega (arith, size) in
    let long : length e.0 < length (e.0 ++ i ∷ rest) = omega (arith, length-append e.0 (i ∷ rest)) in
    ap (λ k. slice_get whole k) at ∙ (ap (λ w. slice_get w (length e.0)) e.1
    ∙ (slice_get-get_or (e.0 ++ i ∷ rest) (length e.0) i long ∙ ap (λ v. Some v) (get_or-append_seam e.0 i rest i)))

ending : (loops : Bool) (i : Instr) (rest whole next : List Instr) (left : ℕ) → IsEnd (i ∷ rest) whole → next ≡ (if loops then i ∷ rest else rest) → left ≡ length next → next ≡ last whole left
ending true i rest whole next left e n h = n ∙ (sym (last_of_end (i ∷ rest) whole e) ∙ (ap (λ xs. last whole (length xs)) (sym n) ∙ ap (last whole) (sym h)))
ending false i rest whole next left e n h = n ∙ (sym (last_of_end rest whole (end_rest (i ∷ rest) whole e)) ∙ (ap (λ xs. last whole (length xs)) (sym n) ∙ ap (last whole) (sym h)))

inside : (loops : Bool) (i : Instr) (rest whole next : List Instr) (left : ℕ) → IsEnd (i ∷ rest) whole → next ≡ (if loops then i ∷ rest else rest) → left ≡ length next
    → slice_get whole (length whole - (if loops then left else left + 1)) ≡ Some i
inside true i rest whole next left e n h =
    let k : left ≡ length rest + 1 = omega (arith, h, ap length n) in
    ap (λ k. slice_get whole (length whole - k)) k ∙ front_of i rest whole e
inside false i rest whole next left e n h =
    let k : left ≡ length rest = omega (arith, h, ap length n) in
    ap (λ k. slice_get whole (length whole - (k + 1))) k ∙ front_of i rest whole e

-- a block is entered: a branch goes on behind it, or with it where it is a loop
pub placed_enter : (body : List Instr) (i : Instr) (rest code : List Instr) (ns : List (List Instr)) (os : List Open) (o : Open) (next : List Instr) → Placed body (i ∷ rest) ns os
    → next ≡ (if o.loops then i ∷ rest else rest) → o.left ≡ length next → part_of o.second (layer i) ≡ code → Placed body code (next ∷ ns) (o ∷ os)
placed_enter body i rest code ns os o next p e h c =
    let s = code_in body os in
    record {
      nexts_are = ap (λ n. n ∷ ns) (ending o.loops i rest s next o.left p.code_ends e h) ∙ ap (λ ms. last s o.left ∷ ms) p.nexts_are;
      code_ends = ([], ap (part_at o.second) (inside o.loops i rest s next o.left p.code_ends e h) ∙ c);
    }

-- a block is left
pub placed_leave : (body code n : List Instr) (ns : List (List Instr)) (o : Open) (os : List Open) → Placed body code (n ∷ ns) (o ∷ os) → Placed body (rest_of o.loops n) ns os
placed_leave body code n ns o os p =
    let s = code_in body os in
    let here : n ≡ last s o.left = ap first_of p.nexts_are in
    record {
      nexts_are = ap (λ xs. drop 1 xs) p.nexts_are;
      code_ends = subst (λ xs. IsEnd (rest_of o.loops xs) s) (sym here) (end_loops o.loops (last s o.left) s (last_end s o.left));
    }

at_label : (body : List Instr) (os : List Open) (n : ℕ) → n < length os → Placed body (first_of (drop n (nexts_in body os))) (drop (suc n) (nexts_in body os)) (drop (suc n) os)
at_label body [] n lt = absurd (omega (arith, lt))
at_label body (o ∷ os) zero lt = record { nexts_are = refl; code_ends = last_end (code_in body os) o.left }
at_label body (o ∷ os) (suc n) lt = at_label body os n (omega (arith, lt))

-- a branch
pub placed_branch : (body code : List Instr) (ns : List (List Instr)) (os : List Open) (n : ℕ) → Placed body code ns os → n < length os → Placed body (first_of (drop n ns)) (drop (suc n) ns) (drop (suc n) os)
placed_branch body code ns os n p lt = subst (λ ms. Placed body (first_of (drop n ms)) (drop (suc n) ms) (drop (suc n) os)) (sym p.nexts_are) (at_label body os n lt)
