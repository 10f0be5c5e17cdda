-- A thread in the middle of a run.
use Rattle.std.proofs.Common.{Bor}
use Rattle.std.specs.Prelude.{◌<◌, ◌≡◌, List, length}
use Rattle.wasm_ast.specs.declared.trees.Instr.{Instr}
use Rattle.wasm_ast.specs.declared.modules.Module.{Module}
use Rattle.wasm_semantics.specs.Threads.{Store}
use Rattle.wasm_semantics.specs.OfModule.{IsOf}
use Rattle.wasm_data.specs.Cuts.{above}
use Rattle.wasm_blocks.specs.declared.open.Open.{Open}
use Rattle.wasm_blocks.specs.Rest.{last, code_in}
use Rattle.wasm_frames.specs.declared.active.Place.{Place}
use Rattle.wasm_frames.specs.declared.active.Active.{Active}
use Rattle.wasm_frames.specs.Resting.{body_of}
use Rattle.wasm_frames.specs.Standing.{Surroundings, thread_in, IsStanding, IsPlaced}
use Rattle.wasm_frames.specs.Turns.{IsBounded}

-- the frame at a place, as it runs with this code
abbrev pub active_at : Place → Bor (List Instr) → Active
active_at p code = record { hot = record { code = code; marks = p.marks; low = p.low }; function = p.function; gives = p.gives }

-- where a frame that runs waits
abbrev pub place_of : Active → Place
place_of a = record { marks = a.hot.marks; left = length a.hot.code.now; low = a.hot.low; function = a.function; gives = a.gives }

-- the code that remains of the frame at a place, whose blocks lie on top
abbrev pub code_at : Module → Place → List Open → List Instr
code_at m p opens = last (code_in (body_of m p.function) (above p.low opens)) p.left

-- a thread of the module is in the middle of a run
pub record IsGoing (m : Module) (st : Store) (a : Active) (h : Surroundings) : Type 0 where
  pub of : IsOf m (thread_in m st a h)
  pub stands : IsStanding a h
  pub placed : IsPlaced m a h
  pub bounded : IsBounded h

-- the same thread, with the code of the frame below at hand
pub record HasWarmed (m : Module) (a : Active) (was h : Surroundings) : Type 0 where
  pub thread : (st : Store) → thread_in m st a h ≡ thread_in m st a was
  pub stands : IsStanding a h
  pub placed : IsPlaced m a h
  pub frames : length h.places ≡ length was.places
  pub warm : 0 < length h.codes
