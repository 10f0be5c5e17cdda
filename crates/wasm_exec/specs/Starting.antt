-- The frames that a module begins with, at rest.
use Rattle.std.specs.Prelude.{◌≤◌, ◌≡◌, List, [], ◌∷◌, ◌++◌, length, replicate}
use Rattle.wasm_ast.specs.declared.modules.Module.{Module}
use Rattle.wasm_ast.specs.Validity.{handle_of}
use Rattle.wasm_semantics.specs.Begin.{entry_frame}
use Rattle.wasm_frames.specs.declared.active.Place.{Place}
use Rattle.wasm_frames.specs.Resting.{frames_at_rest, AreResting}

-- over an array of zeros, no longer than the values of a thread may be
pub record AreFirst (m : Module) (p : Place) (ps : List Place) : Type 0 where
  pub frames : frames_at_rest m (p ∷ ps) (replicate p.marks.sp 0) [] ≡ entry_frame m m.start ++ entry_frame m (handle_of m)
  pub resting : AreResting (p ∷ ps) (replicate p.marks.sp 0) []
  pub most : p.marks.sp ≤ 65536
  pub few : length ps ≤ 1
