-- Why a module is refused, with the place where it stands.
use Rattle.std.specs.Prelude.{ℕ}
use Rattle.wasm_ast.specs.declared.places.FloatPlace.{FloatPlace}
use Rattle.wasm_ast.specs.declared.places.SegmentPlace.{SegmentPlace}

-- a float, an import that is no host call, a rule of structure, no entry point, a segment that does not fit, a body without a typing
pub data Fault : Type 0 where
  Float : FloatPlace → Fault
  Import : ℕ → Fault
  Structure : ℕ → Fault
  NoHandle : Fault
  Segment : SegmentPlace → Fault
  IllTyped : ℕ → Fault
