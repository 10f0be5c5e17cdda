-- A grammar and a reading from the left.
use Rattle.std.specs.Prelude.{ℕ, ◌≡◌, ◌≤◌, ◌+◌, List, length, Ok}
use Rattle.wasm_code.specs.declared.error.DecodeError.{DecodeError}
use Rattle.wasm_code.specs.declared.error.DecodeError.TheVariants.{Malformed, TooDeep, TooManyLocals, NoMemory}
use Rattle.wasm_code.specs.Places.{Place, Reading, Fails, past}

-- so many bytes of what is left of the range further on
abbrev pub IsFurther : Place → Place → Type 0
IsFurther p q = (k : ℕ) × (k ≤ length p.rest) × (q ≡ past k p)

-- The offset of a fault is in what is left of the range, or its end. No reading is out of memory.
abbrev pub IsFaultWithin : Place → DecodeError → Type 0
IsFaultWithin p (Malformed at) = (p.at ≤ at) × (at ≤ p.at + length p.rest)
IsFaultWithin p (TooDeep at) = (p.at ≤ at) × (at ≤ p.at + length p.rest)
IsFaultWithin p (TooManyLocals f) = Unit {0}
IsFaultWithin p NoMemory = ⊥

-- What is read is what the bytes spell, up to where the reading goes on; and what they spell is read, and no more.
pub record Agrees {X : Type 0} (G : X → List ℕ → List ℕ → Type 0) (read : Place → Reading X) : Type 0 where
  pub sound : (p : Place) (x : X) (q : Place) → read p ≡ Ok (x, q) → G x p.rest q.rest
  pub complete : (x : X) (p : Place) (rest : List ℕ) → G x p.rest rest → (at : ℕ) × (read p ≡ Ok (x, record { rest = rest; at = at }))
  pub further : (p : Place) (x : X) (q : Place) → read p ≡ Ok (x, q) → IsFurther p q
  pub within : (p : Place) (fault : DecodeError) → Fails (read p) fault → IsFaultWithin p fault
