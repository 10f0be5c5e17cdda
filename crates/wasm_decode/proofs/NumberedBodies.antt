-- Bodies by their numbers, as the code goes.
use Rattle.std.proofs.Common.{◌≡◌, ℕ, suc, ◌+◌, ◌-◌, ◌<◌, ◌≤◌, List, [], ◌∷◌, ◌++◌, Ok, Err, refl, sym, ap, ◌∙◌, arith}
use Rattle.std.proofs.lemmas.List.{append-nil}
use Rattle.wasm_ast.specs.declared.bodies.Body.{Body}
use Rattle.wasm_code.specs.declared.error.DecodeError.{DecodeError}
use Rattle.wasm_code.specs.Places.{Place, Reading, ◌>>=◌}
use Rattle.wasm_code.specs.Answers.{IsFirstFault}
use Rattle.wasm_code.specs.Fields.{range, sized}
use Rattle.wasm_code.specs.Reading.{body, whole_body}
use Rattle.wasm_code.proofs.Agreements.{bind}
use Rattle.wasm_code.proofs.Loops.{with_front, regroup, no_front, stops_whole}
use Rattle.wasm_decode.specs.Parts.{bodies}

-- the bodies that are found, with the others, are all
abbrev pub SoFar : List Body → ℕ → ℕ → Place → Reading (List Body) → Type 0
SoFar found count i p total = with_front found (bodies i (count - i) p) ≡ total

pub begins : (count : ℕ) (p : Place) → SoFar [] count 0 p (bodies 0 count p)
begins count p = let k : count - 0 ≡ count = omega arith in rw k (no_front (bodies 0 count p))

one_more : (count i : ℕ) → i < count → count - i ≡ suc (count - (i + 1))
one_more count i l = omega arith

-- what is behind a body
abbrev others : ℕ → ℕ → Body × Place → Reading (List Body)
others f n first = bodies (f + 1) n first.1 >>= λ others. Ok (first.0 ∷ others.0, others.1)

first_of : (f n : ℕ) (p : Place) → bodies f (suc n) p ≡ (sized (body f) p >>= others f n)
unfolding bodies
first_of f n p = refl

sized_is : (f : ℕ) (p : Place) (r : Place × Place) (b : Body) → range p ≡ Ok r → whole_body f r.0 ≡ Ok b → sized (body f) p ≡ Ok (b, r.1)
unfolding sized
sized_is f p r b e h = bind (range p) (λ r. whole_body f r.0 >>= λ x. Ok (x, r.1)) r e ∙ bind (whole_body f r.0) (λ x. Ok (x, r.1)) b h

bad_size : (f : ℕ) (p : Place) (e : DecodeError) → range p ≡ Err e → sized (body f) p ≡ Err e
unfolding sized
bad_size f p e h = ap (λ x. x >>= λ r. whole_body f r.0 >>= λ x. Ok (x, r.1)) h

bad_body : (f : ℕ) (p : Place) (r : Place × Place) (e : DecodeError) → range p ≡ Ok r → whole_body f r.0 ≡ Err e → sized (body f) p ≡ Err e
unfolding sized
bad_body f p r e k h = bind (range p) (λ r. whole_body f r.0 >>= λ x. Ok (x, r.1)) r k ∙ ap (λ x. x >>= λ x. Ok (x, r.1)) h

pub goes_on : (found : List Body) (count i : ℕ) (p : Place) (r : Place × Place) (b : Body) (total : Reading (List Body)) → i < count → range p ≡ Ok r → whole_body i r.0 ≡ Ok b
    → SoFar found count i p total → SoFar (found ++ b ∷ []) count (i + 1) r.1 total
goes_on found count i p r b total lt e h so_far =
    let n = count - (i + 1) in
    let one : bodies i (count - i) p ≡ others i n (b, r.1) = ap (λ k. bodies i k p) (one_more count i lt) ∙ (first_of i n p ∙ bind (sized (body i) p) (others i n) (b, r.1) (sized_is i p r b e h)) in
    sym (regroup found (b ∷ []) (bodies (i + 1) n r.1)) ∙ (ap (with_front found) (sym one) ∙ so_far)

fault_first : (found : List Body) (count i : ℕ) (p : Place) (total : Reading (List Body)) (e : DecodeError) → i < count → sized (body i) p ≡ Err e → SoFar found count i p total → total ≡ Err e
fault_first found count i p total e lt h so_far =
    let n = count - (i + 1) in
    sym so_far ∙ ap (with_front found) (ap (λ k. bodies i k p) (one_more count i lt) ∙ (first_of i n p ∙ ap (λ x. x >>= others i n) h))

pub stops_at_size : (found : List Body) (count i : ℕ) (p : Place) (total : Reading (List Body)) (e : DecodeError) → i < count → IsFirstFault e (range p) → SoFar found count i p total → IsFirstFault e total
stops_at_size found count i p total e lt s so_far = stops_whole e (range p) total (λ d k. fault_first found count i p total d lt (bad_size i p d k) so_far) s

pub stops_at_body : (found : List Body) (count i : ℕ) (p : Place) (r : Place × Place) (total : Reading (List Body)) (e : DecodeError) → i < count → range p ≡ Ok r → IsFirstFault e (whole_body i r.0)
    → SoFar found count i p total → IsFirstFault e total
stops_at_body found count i p r total e lt k s so_far = stops_whole e (whole_body i r.0) total (λ d f. fault_first found count i p total d lt (bad_body i p r d k f) so_far) s

pub is_done : (found : List Body) (count i : ℕ) (p : Place) (total : Reading (List Body)) → count ≤ i → SoFar found count i p total → total ≡ Ok (found, p)
unfolding bodies
is_done found count i p total le so_far =
    let k : count - i ≡ 0 = omega arith in
    let one : with_front found (bodies i (count - i) p) ≡ Ok (found, p) = rw k (ap (λ bs. Ok (bs, p)) (append-nil found)) in
    sym so_far ∙ one
