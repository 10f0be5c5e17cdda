-- No list that is read has more members than its count says.
use Rattle.std.proofs.Common.{◌≡◌, ℕ, zero, suc, ◌+◌, ◌<◌, ◌^◌, List, [], ◌∷◌, length, Result, Ok, Err, sym, ap, ◌∙◌, arith}
use Rattle.std.specs.Prelude.{IfOk}
use Rattle.wasm_ast.specs.declared.bodies.Body.{Body}
use Rattle.wasm_code.specs.declared.error.DecodeError.{DecodeError}
use Rattle.wasm_code.specs.Places.{Place, Reading, ◌>>=◌}
use Rattle.wasm_code.specs.Fields.{times, sized}
use Rattle.wasm_code.specs.Reading.{body}
use Rattle.wasm_code.specs.Answers.{ReadsAs}
use Rattle.wasm_code.proofs.Agreements.{bind_ok, ok_is}
use Rattle.wasm_decode.specs.Parts.{bodies}

-- so many were read
times_count : {X : Type 0} (read : Place → Reading X) (n : ℕ) (p : Place) (y : List X × Place) → times read n p ≡ Ok y → length y.0 ≡ n
unfolding times
times_count read zero p y e = ap (λ (z : List _ × Place). length z.0) (sym (ok_is ([], p) y e))
times_count read (suc n) p y e =
    let first = bind_ok (read p) (λ first. times read n first.1 >>= λ others. Ok (first.0 ∷ others.0, others.1)) y e in
    let others = bind_ok (times read n first.0.1) (λ others. Ok (first.0.0 ∷ others.0, others.1)) y first.2 in
    ap (λ (z : List _ × Place). length z.0) (sym (ok_is (first.0.0 ∷ others.0.0, others.0.1) y others.2)) ∙ ap suc (times_count read n first.0.1 others.0 others.1)

bodies_count : (f n : ℕ) (p : Place) (y : List Body × Place) → bodies f n p ≡ Ok y → length y.0 ≡ n
unfolding bodies
bodies_count f zero p y e = ap (λ (z : List Body × Place). length z.0) (sym (ok_is ([], p) y e))
bodies_count f (suc n) p y e =
    let first = bind_ok (sized (body f) p) (λ first. bodies (f + 1) n first.1 >>= λ others. Ok (first.0 ∷ others.0, others.1)) y e in
    let others = bind_ok (bodies (f + 1) n first.0.1) (λ others. Ok (first.0.0 ∷ others.0, others.1)) y first.2 in
    ap (λ (z : List Body × Place). length z.0) (sym (ok_is (first.0.0 ∷ others.0.0, others.0.1) y others.2)) ∙ ap suc (bodies_count (f + 1) n first.0.1 others.0 others.1)

-- what was read of a count of 32 bits is few
pub few_times : {A X : Type 0} (view : A → List X × Place) (read : Place → Reading X) (n : ℕ) (p : Place) (result : Result A DecodeError) → n < 2 ^ 32
    → ReadsAs view result (times read n p) → IfOk result (λ x. length (view x).0 < 2 ^ 32)
few_times view read n p (Ok x) few g = omega (arith, few, times_count read n p (view x) g)
few_times view read n p (Err e) few g = tt

pub few_bodies : {A : Type 0} (view : A → List Body × Place) (n : ℕ) (p : Place) (result : Result A DecodeError) → n < 2 ^ 32
    → ReadsAs view result (bodies 0 n p) → IfOk result (λ x. length (view x).0 < 2 ^ 32)
few_bodies view n p (Ok x) few g = omega (arith, few, bodies_count 0 n p (view x) g)
few_bodies view n p (Err e) few g = tt
