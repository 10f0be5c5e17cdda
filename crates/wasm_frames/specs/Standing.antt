-- A machine of several frames, and its thread: the frame that runs by slices of code, those below by numbers.
use Rattle.std.proofs.Common.{Bor}
use Rattle.std.specs.Prelude.{ℕ, ◌-◌, ◌≤◌, ◌≡◌, List, [], ◌∷◌, length, drop, Option}
use Rattle.wasm_ast.specs.declared.trees.Instr.{Instr}
use Rattle.wasm_ast.specs.declared.modules.Module.{Module}
use Rattle.wasm_semantics.specs.Operators.{truth}
use Rattle.wasm_semantics.specs.Threads.{Store, Thread}
use Rattle.wasm_semantics.specs.Control.{Spot, thread_at}
use Rattle.wasm_data.specs.Cuts.{above, under}
use Rattle.wasm_blocks.specs.declared.open.Open.{Open}
use Rattle.wasm_blocks.specs.Rest.{Placed}
use Rattle.wasm_blocks.specs.Runs.{Outer, own_nexts, place, StandsInArray}
use Rattle.wasm_frames.specs.declared.active.Place.{Place}
use Rattle.wasm_frames.specs.declared.active.Active.{Active}
use Rattle.wasm_frames.specs.Resting.{body_of, frames_at_rest, BeginsAt, AreResting}

-- what a run has beside the frame that runs: the places of the frames below, the code of those of them that ran in this run, the
-- values of all frames, their open blocks, and what branches to these go on with
pub record Surroundings : Type 0 where
  pub places : List Place
  pub codes : List (Bor (List Instr))
  pub values : List ℕ
  pub opens : List Open
  pub nexts : List (Bor (List Instr))

-- these parts
abbrev pub held : List Place → List (Bor (List Instr)) → List ℕ → List Open → List (Bor (List Instr)) → Surroundings
held places codes values opens nexts = record { places = places; codes = codes; values = values; opens = opens; nexts = nexts }

-- a store
abbrev pub store_of : List ℕ → List ℕ → List (Option ℕ) → Store
store_of memory globals table = record { memory = memory; globals = globals; table = table }

-- what lies around the frame that runs
abbrev pub outer_of : Module → Store → Active → Surroundings → Outer
outer_of m st a h = record { store = st; gives = truth a.gives; frames = frames_at_rest m h.places h.values (under a.hot.low h.opens) }

-- where the thread runs
abbrev pub spot_at : Module → Store → Active → Surroundings → Spot
spot_at m st a h = place (outer_of m st a h) a.hot h.values h.opens h.nexts

-- the thread
abbrev pub thread_in : Module → Store → Active → Surroundings → Thread
thread_in m st a h = thread_at (spot_at m st a h)

-- what branches to the blocks of other frames go on with
abbrev pub nexts_under : ℕ → List Open → List (Bor (List Instr)) → List (Bor (List Instr))
nexts_under low opens nexts = drop (length opens - low) nexts

-- the code of a frame that waits is at hand
pub record IsWarm (c : Bor (List Instr)) (p : Place) (opens : List Open) (nexts : List (Bor (List Instr))) : Type 0 where
  pub left : length c.now ≡ p.left
  pub many : length opens - p.low ≤ length nexts

-- that of so many as there are codes
abbrev pub AreWarm : List (Bor (List Instr)) → List Place → List Open → List (Bor (List Instr)) → Type 0
AreWarm [] ps opens nexts = Unit {0}
AreWarm (c ∷ cs) [] opens nexts = ⊥
AreWarm (c ∷ cs) (p ∷ ps) opens nexts = IsWarm c p opens nexts × AreWarm cs ps (under p.low opens) (nexts_under p.low opens nexts)

-- the frame that runs stands over those that wait
pub record IsStanding (a : Active) (h : Surroundings) : Type 0 where
  pub here : StandsInArray a.hot h.values h.opens h.nexts
  pub begins : BeginsAt h.places a.hot.marks.base
  pub below : AreResting h.places h.values (under a.hot.low h.opens)
  pub warm : AreWarm h.codes h.places (under a.hot.low h.opens) (nexts_under a.hot.low h.opens h.nexts)

-- the slices of frames that wait are what the numbers say
abbrev pub ArePlaced : Module → List (Bor (List Instr)) → List Place → List Open → List (Bor (List Instr)) → Type 0
ArePlaced m [] ps opens nexts = Unit {0}
ArePlaced m (c ∷ cs) [] opens nexts = ⊥
ArePlaced m (c ∷ cs) (p ∷ ps) opens nexts =
    Placed (body_of m p.function) c.now (own_nexts p.low opens nexts) (above p.low opens)
    × ArePlaced m cs ps (under p.low opens) (nexts_under p.low opens nexts)

-- all slices are what the numbers say in the bodies of the frames' functions
pub record IsPlaced (m : Module) (a : Active) (h : Surroundings) : Type 0 where
  pub here : Placed (body_of m a.function) a.hot.code.now (own_nexts a.hot.low h.opens h.nexts) (above a.hot.low h.opens)
  pub below : ArePlaced m h.codes h.places (under a.hot.low h.opens) (nexts_under a.hot.low h.opens h.nexts)
