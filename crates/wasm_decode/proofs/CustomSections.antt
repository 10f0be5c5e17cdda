-- Custom sections, as the code passes them.
use Rattle.std.proofs.Common.{◌≡◌, ℕ, zero, suc, ◌-◌, ◌≤◌, List, [], length, Result, Ok, Err, refl, sym, ap, ◌∙◌, arith}
use Rattle.std.specs.Prelude.{Option, Some, None}
use Rattle.std.proofs.lemmas.List.{nil_from_length}
use Rattle.wasm_code.specs.declared.error.DecodeError.{DecodeError}
use Rattle.wasm_code.specs.Places.{Place, ◌>>=◌}
use Rattle.wasm_code.specs.Answers.{IsFirstFault}
use Rattle.wasm_code.specs.Fields.{range, name}
use Rattle.wasm_code.proofs.Agreements.{bind}
use Rattle.wasm_code.proofs.FieldsBothWays.{range_sound}
use Rattle.wasm_code.proofs.Loops.{stops_whole}
use Rattle.wasm_decode.specs.Sections.{custom, after_id_of, after_id, customs_by, customs, all_customs}
use Rattle.wasm_decode.proofs.ModulesBothWays.{after_shorter}

bind_same : {A B : Type 0} (r : Result A DecodeError) (f g : A → Result B DecodeError) → ((x : A) → r ≡ Ok x → f x ≡ g x) → (r >>= f) ≡ (r >>= g)
bind_same (Ok x) f g h = h x refl
bind_same (Err e) f g h = refl

enough_by : (f g : Place → Result Place DecodeError) (n m : ℕ) (p : Place) (o : Option Place) → after_id 0 p ≡ o → length p.rest ≤ suc n → length p.rest ≤ suc m
    → ((q : Place) → length q.rest ≤ n → length q.rest ≤ m → f q ≡ g q) → customs_by f p o ≡ customs_by g p o
enough_by f g n m p None h l l' ih = refl
enough_by f g n m p (Some q) h l l' ih =
    bind_same (range q) (λ r. custom r.0 >>= λ t. f r.1) (λ r. custom r.0 >>= λ t. g r.1)
    (λ r e. let s = (range_sound q r e).1 in let s' = after_shorter 0 p q h in bind_same (custom r.0) (λ t. f r.1) (λ t. g r.1) (λ t _. ih r.1 (omega (arith, s, s')) (omega (arith, s, s'))))

nothing : (n : ℕ) (p : Place) → p.rest ≡ [] → customs n p ≡ Ok p
unfolding customs after_id
nothing zero p h = refl
nothing (suc n) p h = ap (λ b. customs_by (customs n) p (after_id_of 0 b p.at)) h

enough : (n m : ℕ) (p : Place) → length p.rest ≤ n → length p.rest ≤ m → customs n p ≡ customs m p
unfolding customs
enough zero m p l l' = let e = nil_from_length p.rest (omega arith) in nothing zero p e ∙ sym (nothing m p e)
enough (suc n) zero p l l' = let e = nil_from_length p.rest (omega arith) in nothing (suc n) p e
enough (suc n) (suc m) p l l' = enough_by (customs n) (customs m) n m p (after_id 0 p) refl l l' (λ q k k'. enough n m q k k')

-- what is behind the id
abbrev behind : ℕ → Place → Result Place DecodeError
behind n q = range q >>= λ r. custom r.0 >>= λ t. customs n r.1

met : (p q : Place) → Some q ≡ after_id 0 p → all_customs p ≡ behind (length p.rest - 1) q
unfolding customs
met p q h =
    let k : length p.rest ≡ suc (length p.rest - 1) = omega (arith, after_shorter 0 p q (sym h)) in
    ap (λ k. customs k p) k ∙ ap (customs_by (customs (length p.rest - 1)) p) (sym h)

pub passes : (p q : Place) (r : Place × Place) (text : List ℕ × Place) → Some q ≡ after_id 0 p → range q ≡ Ok r → name r.0 ≡ Ok text → all_customs p ≡ all_customs r.1
passes p q r text h e e' =
    let n = length p.rest - 1 in
    met p q h ∙ (bind (range q) (λ r. custom r.0 >>= λ t. customs n r.1) r e ∙ (ap (λ x. (x >>= λ text. Ok tt) >>= λ t. customs n r.1) e'
    ∙ enough n (length r.1.rest) r.1 (omega (arith, after_shorter 0 p q (sym h), (range_sound q r e).1)) (omega arith)))

pub bad_range : (p q : Place) (e : DecodeError) → Some q ≡ after_id 0 p → IsFirstFault e (range q) → IsFirstFault e (all_customs p)
bad_range p q e h s = stops_whole e (range q) (all_customs p) (λ d k. met p q h ∙ ap (λ x. x >>= λ r. custom r.0 >>= λ t. customs (length p.rest - 1) r.1) k) s

pub bad_name : (p q : Place) (r : Place × Place) (e : DecodeError) → Some q ≡ after_id 0 p → range q ≡ Ok r → IsFirstFault e (name r.0) → IsFirstFault e (all_customs p)
bad_name p q r e h k s =
    let n = length p.rest - 1 in
    stops_whole e (name r.0) (all_customs p) (λ d f. met p q h ∙ (bind (range q) (λ r. custom r.0 >>= λ t. customs n r.1) r k ∙ ap (λ x. (x >>= λ text. Ok tt) >>= λ t. customs n r.1) f)) s

none_by : (n : ℕ) (p : Place) → None ≡ after_id 0 p → customs n p ≡ Ok p
unfolding customs
none_by zero p h = refl
none_by (suc n) p h = ap (customs_by (customs n) p) (sym h)

pub stops : (p : Place) → None ≡ after_id 0 p → all_customs p ≡ Ok p
stops p h = none_by (length p.rest) p h
