-- Instructions that choose where to go on, and the ends of blocks and functions (4.4.5 to 4.4.7).
use Rattle.std.specs.Prelude.{ℕ, zero, suc, if◌then◌else◌, List, [], ◌∷◌, ◌++◌, length, map, reverse, slice_get, Option, Some, None}
use Rattle.wasm_ast.specs.declared.trees.Instr.{Instr}
use Rattle.wasm_ast.specs.declared.func_types.FuncType.{FuncType}
use Rattle.wasm_ast.specs.declared.imports.Import.{Import}
use Rattle.wasm_ast.specs.declared.modules.Module.{Module}
use Rattle.wasm_ast.specs.Spaces.{Function, own, type_of}
use Rattle.wasm_ast.specs.declared.hosts.HostName.{HostName}
use Rattle.wasm_ast.specs.Hosts.{host_named, host_params, same_type}
use Rattle.wasm_semantics.specs.declared.traps.Trap.TheVariants as trap
use Rattle.wasm_semantics.specs.Data.{with_some, split}
use Rattle.wasm_semantics.specs.Threads.{Store, Level, Frame, Thread, Outcome, Goes, Calls, Done, Trapped, Stuck}

-- where a thread runs: its store, the locals of the frame that runs and how many values its return keeps, the frames below, its
-- innermost level, and the levels around that
pub record Spot : Type 0 where
  pub store : Store
  pub locals : List ℕ
  pub gives : ℕ
  pub frames : List Frame
  pub level : Level
  pub levels : List Level

-- the thread that runs there
abbrev pub thread_at : Spot → Thread
thread_at p = record { store = p.store; frames = record { locals = p.locals; levels = p.level ∷ p.levels; gives = p.gives } ∷ p.frames }

-- the innermost of these levels
abbrev pub spot_in : Store → Frame → List Frame → List Level → Option Spot
spot_in st f fs [] = None
spot_in st f fs (l ∷ ls) = Some (record { store = st; locals = f.locals; gives = f.gives; frames = fs; level = l; levels = ls })

-- the first of these frames
abbrev pub first_spot : Store → List Frame → Option Spot
first_spot st [] = None
first_spot st (f ∷ fs) = spot_in st f fs f.levels

-- where a thread runs, if it has a frame with a level
abbrev pub spot_of : Thread → Option Spot
spot_of t = first_spot t.store t.frames

-- a level without operands
abbrev pub empty_level : List Instr → ℕ → List Instr → Level
empty_level code keeps target = record { values = []; code = code; keeps = keeps; target = target }

-- the level with other values and other code
abbrev pub level_with : Level → List ℕ → List Instr → Level
level_with l values code = record { values = values; code = code; keeps = l.keeps; target = l.target }

-- other levels in the frame that runs
abbrev pub at_level : Spot → Level → List Level → Spot
at_level p l ls = record { store = p.store; locals = p.locals; gives = p.gives; frames = p.frames; level = l; levels = ls }

-- other values and other code in the innermost level
abbrev pub spot_with : Spot → List ℕ → List Instr → Spot
spot_with p values code = at_level p (level_with p.level values code) p.levels

-- the thread that runs there with other values
abbrev pub behind : Spot → List ℕ → Thread
behind p values = thread_at (spot_with p values p.level.code)

-- it goes on with these values
abbrev pub onto : Spot → List ℕ → Outcome
onto p values = Goes (behind p values)

-- results onto the operands of the frame where a thread runs then
abbrev pub handed : List ℕ → Option Spot → Outcome
handed kept None = Stuck
handed kept (Some p) = onto p (kept ++ p.level.values)

-- results to the frame below; done where there is none
abbrev pub hand : Store → List ℕ → List Frame → Outcome
hand st kept [] = Done
hand st kept (g ∷ gs) = handed kept (first_spot st (g ∷ gs))

-- the frame is closed, and its results are the topmost of these values
abbrev pub finish : Spot → List ℕ → Outcome
finish p values = split Stuck p.gives values (λ kept below. hand p.store kept p.frames)

-- a branch from these levels to label n with these values of the innermost; one to the function's own level is a return
abbrev pub branch : Spot → ℕ → List ℕ → List Level → Outcome
branch p n values [] = Stuck
branch p zero values (l ∷ []) = finish p values
branch p zero values (l ∷ o ∷ os) =
    split Stuck l.keeps values (λ kept below. Goes (thread_at (at_level p (level_with o (kept ++ o.values) l.target) os)))
branch p (suc n) values (l ∷ ls) = branch p n values ls

-- a branch from where a thread runs
abbrev pub branch_at : Spot → ℕ → List ℕ → Outcome
branch_at p n values = branch p n values (p.level ∷ p.levels)

-- a block is opened with this code; a branch to it keeps so many values and goes on at target
abbrev pub enter : Spot → List ℕ → List Instr → ℕ → List Instr → Outcome
enter p values code keeps target =
    Goes (thread_at (at_level p (empty_level code keeps target) (level_with p.level values p.level.code ∷ p.levels)))

-- the values of a block that ends go to the level around it; a function's own level returns
abbrev pub leave_to : Spot → List Level → Outcome
leave_to p [] = finish p p.level.values
leave_to p (o ∷ os) = onto (at_level p o os) (p.level.values ++ o.values)

-- the end of the innermost level
abbrev pub leave : Spot → Outcome
leave p = leave_to p p.levels

-- a frame that begins
abbrev pub first_frame : Function → List ℕ → Frame
first_frame fn locals = record { locals = locals; levels = empty_level fn.code 0 [] ∷ []; gives = length fn.signature.results }

-- one zero for each
abbrev pub zeros : {A : Type 0} → List A → List ℕ
zeros xs = map (λ x. 0) xs

-- a frame of fn, with these arguments, the last on top, and the declared locals at zero, over the frame that runs
abbrev pub opened : Function → Spot → List ℕ → List ℕ → Outcome
opened fn p args below =
    Goes (record { store = p.store; frames = first_frame fn (reverse args ++ zeros fn.declared) ∷ (behind p below).frames })

-- the host is asked, and the thread waits behind the call
abbrev pub asked : HostName → Spot → List ℕ → List ℕ → Outcome
asked h p args below = Calls h (reverse args) (behind p below)

-- an import is a host call, any other a function of the module
abbrev pub call_of : Module → ℕ → Spot → List ℕ → Option Import → Outcome
call_of m x p values None = with_some Stuck (own m x) (λ fn. split Stuck (length fn.signature.params) values (opened fn p))
call_of m x p values (Some i) = with_some Stuck (host_named i.name) (λ h. split Stuck (length (host_params h)) values (asked h p))

-- the function with this index is called, an import by its name
abbrev pub call : Module → ℕ → Spot → List ℕ → Outcome
call m x p values = call_of m x p values (slice_get m.imports x)

-- a call through an entry of the table: past its end, not set, of another type
abbrev pub indirect : Module → FuncType → Spot → List ℕ → Option (Option ℕ) → Outcome
indirect m ft p values None = Trapped trap.Table
indirect m ft p values (Some None) = Trapped trap.Empty
indirect m ft p values (Some (Some x)) =
    with_some Stuck (type_of m x) (λ found. if same_type found ft then call m x p values else Trapped trap.TypeDiffers)
