-- Which files a call opened when it ends.
use Rattle.std.specs.Prelude.{◌≡◌, ◌+◌, ◌<◌, ◌^◌, ⊤, ℕ, List, [], ◌∷◌, ◌++◌, length, map, Option, Some, None, IfSome, Ok, Result, Err, IsOk, IsOkAnd, take}
use Rattle.trapeze_io.specs.Causes.{Rose}
use Rattle.trapeze_io.specs.Seen.{Seen, Held, OpensAll}
use Rattle.policy_toml.specs.Parts.{Parts}
use Rattle.wasm_ast.specs.declared.modules.Module.{Module as Program}
use Rattle.trapeze_cli.specs.declared.status.Status.{Status}
use Rattle.trapeze_cli.specs.declared.status.Status.TheVariants.{Done, Usage, Policy, Module, Events, ReadFault, WriteFault, NoMemory, TooLong}
use Rattle.trapeze_cli.specs.declared.status.Input.{Input}
use Rattle.trapeze_cli.specs.declared.status.Input.TheVariants.{Policy as policy_input, Module as module_input, Events as events_input}
use Rattle.trapeze_cli.specs.Forms.{Form, policy_name, Source, sources_of, file_name}
use Rattle.trapeze_cli.specs.Command.{policy_in, shown_in, AreModules, Prepared, IsPrepared}

-- the input that was opened last, and the files that were not opened
abbrev pub IsLast : Status → Input → List Source → Type 0
IsLast Done input after = after ≡ []
IsLast Usage input after = input ≡ policy_input
IsLast (Policy fault) input after = input ≡ policy_input
IsLast (Module function fault) input after = input ≡ module_input function
IsLast (Events error) input after = input ≡ events_input
IsLast (ReadFault failed) input after = input ≡ failed
IsLast WriteFault input after = after ≡ []
IsLast NoMemory input after = ⊤
IsLast (TooLong long) input after = input ≡ long

abbrev pub names_of : List Source → List (List ℕ)
names_of sources = map (λ s. s.name) sources

-- of these files those up to the last one were opened, in order and each once, and no other
pub record OpensTo (sources : List Source) (status : Status) (old new : Seen) : Type 0 where
  pub before : List Source
  pub last : Source
  pub after : List Source
  pub split : sources ≡ before ++ last ∷ after
  pub is_last : IsLast status last.input after
  pub opens : OpensAll (names_of (before ++ last ∷ [])) old new

-- the files of the functions of a policy; none where there is no policy
abbrev pub files_by : Result Parts Status → List (List ℕ)
files_by (Ok policy) = policy.files
files_by (Err status) = []

abbrev pub files_in : Held → Form → List (List ℕ)
files_in held form = files_by (policy_in held (policy_name form))

-- these are the files of the functions, where the files held are told
abbrev pub AreFiles : Option Held → Form → List (List ℕ) → Type 0
AreFiles held form files = IfSome held (λ h. files ≡ files_in h form)

-- the files of a form were opened up to the last one
pub record OpensForm (form : Form) (status : Status) (old new : Seen) : Type 0 where
  pub files : List (List ℕ)
  pub of_policy : AreFiles old.held form files
  pub opens : OpensTo (sources_of form files) status old new

-- which files a call opened: of words without a form none
abbrev pub Opened : Option Form → Status → Seen → Seen → Type 0
Opened None status old new = new ≡ old
Opened (Some form) status old new = OpensForm form status old new

-- how many files are opened before an input, where there are so many functions
abbrev pub opens_before : ℕ → Input → ℕ
opens_before functions policy_input = 0
opens_before functions (module_input f) = f + 1
opens_before functions events_input = functions + 1

-- an open or a read of an input failed: the count of faults rose in the call and since the last open, which was of the input's file and
-- came after those of the inputs before it
pub record FailsToRead (form : Option Form) (input : Input) (old new : Seen) : Type 0 where
  pub rose : Rose old.faults new.faults
  pub marked : Rose new.mark new.faults
  pub files : List (List ℕ)
  pub of_policy : IfSome form (λ f. AreFiles old.held f files)
  pub named : IfSome new.last_name (λ last. last ≡ file_name form files input)
  pub counted : IfSome old.opens (λ n. n < 2 ^ 63 → new.opens ≡ Some (n + opens_before (length files) input + 1))

-- all before an input was accepted, under a policy
abbrev pub IsReachedUnder : Held → Form → Parts → Input → Type 0
IsReachedUnder held form policy policy_input = ⊤
IsReachedUnder held form policy (module_input f) =
    IsOk (shown_in policy.lattice.names form) × (f < length policy.files)
    × ((programs : List Program) × AreModules held 0 (take f policy.files) (Ok programs))
IsReachedUnder held form policy events_input = (ready : Prepared) × IsPrepared held form policy (Ok ready)

-- all before an input was accepted
abbrev pub IsReached : Option Form → Held → Input → Type 0
IsReached None held input = ⊥
IsReached (Some form) held policy_input = ⊤
IsReached (Some form) held (module_input f) =
    IsOkAnd (policy_in held (policy_name form)) (λ policy. IsReachedUnder held form policy (module_input f))
IsReached (Some form) held events_input =
    IsOkAnd (policy_in held (policy_name form)) (λ policy. IsReachedUnder held form policy events_input)
