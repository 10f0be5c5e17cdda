-- A name from its bytes.
use Rattle.std.proofs.Common.{◌≡◌, ℕ, Bool, true, false, List, Ok, Err, refl, ◌∙◌, ap}
use Rattle.std.specs.Str.{is_utf8, IsUtf8}
use Rattle.std.proofs.lemmas.Str.{IsUtf8-from_is_utf8, is_utf8-from_IsUtf8}
use Rattle.wasm_code.specs.declared.error.DecodeError.TheVariants.{Malformed}
use Rattle.wasm_code.specs.Places.{Place, ◌>>=◌, check}
use Rattle.wasm_code.specs.Fields.{bytes, name}
use Rattle.wasm_code.proofs.Agreements.{bind, checked}

pub is_name : (p : Place) (text : List ℕ × Place) → bytes p ≡ Ok text → IsUtf8 text.0 → name p ≡ Ok text
unfolding name
is_name p text e u =
    bind (bytes p) (λ text. check (is_utf8 text.0) p.at >>= λ t. Ok text) text e
    ∙ bind (check (is_utf8 text.0) p.at) (λ t. Ok text) tt (checked (is_utf8 text.0) p.at (is_utf8-from_IsUtf8 text.0 u))

bad_by : (b : Bool) (text : List ℕ) (at : ℕ) → is_utf8 text ≡ b → (IsUtf8 text → ⊥) → check b at ≡ Err (Malformed at)
bad_by true text at h u = absurd (u (IsUtf8-from_is_utf8 text h))
bad_by false text at h u = refl

pub is_no_name : (p : Place) (text : List ℕ × Place) → bytes p ≡ Ok text → (IsUtf8 text.0 → ⊥) → name p ≡ Err (Malformed p.at)
unfolding name
is_no_name p text e u =
    bind (bytes p) (λ text. check (is_utf8 text.0) p.at >>= λ t. Ok text) text e
    ∙ ap (λ x. x >>= λ t. Ok text) (bad_by (is_utf8 text.0) text.0 p.at refl u)
