-- What the bytes of a file were judged to be.
use Rattle.std.proofs.Common.{◌≡◌, ◌≢◌, ℕ, List, Some, Result, Ok, Err, ◌⊎◌, inl, inr, refl, sym, ap, subst}
use Rattle.std.specs.Prelude.{IfErr, IsErrAnd}
use Rattle.policy_toml.specs.Faults as policies
use Rattle.policy_toml.specs.PolicyOf.{policy_of}
use Rattle.policy_toml.specs.declared.error.PolicyError.{PolicyError}
use Rattle.policy_toml.specs.declared.error.PolicyError.TheVariants as policy
use Rattle.wasm_ast.specs.declared.modules.Module.{Module as Program}
use Rattle.wasm_code.specs.declared.error.DecodeError.{DecodeError}
use Rattle.wasm_code.specs.declared.error.DecodeError.TheVariants as decode
use Rattle.wasm_decode.specs.Grammar.{Spells}
use Rattle.wasm_decode.specs.Sections.{Fails}
use Rattle.wasm_validate.specs.Invalids.{IsRefused}
use Rattle.wasm_validate.specs.declared.invalid.Invalid.{Invalid as InvalidFault}
use Rattle.wasm_validate.specs.declared.invalid.Invalid.TheVariants as invalid
use Rattle.file_calls.specs.declared.error.FileError.{FileError}
use Rattle.file_calls.specs.declared.error.FileError.TheVariants.{Refused, TooLong, Fault, NoMemory}
use Rattle.file_calls.specs.Steps.{Judges, IsNoRefusal}
use Rattle.read_setting.specs.declared.refusal.Refusal.{Refusal}
use Rattle.read_setting.specs.declared.refusal.Refusal.TheVariants.{Policy, Module}
use Rattle.fault_texts.specs.declared.modules.ModuleFault.TheVariants.{Decode, Invalid}
use Rattle.read_setting.specs.Memory.{IsTold, TellsMemory}
use Rattle.read_setting.specs.Policies.{accepted, policy_said}
use Rattle.read_setting.specs.Modules.{IsUnfit, IsModule, IsAccepted}

-- a file that could not be read tells of no fault
unread_tells : (error : FileError Refusal) → IsNoRefusal error → TellsMemory error
unread_tells (Refused place refusal) no_refusal = absurd no_refusal
unread_tells (TooLong place) no_refusal = tt
unread_tells (Fault place) no_refusal = tt
unread_tells NoMemory no_refusal = tt

pub unread_memory : {A : Type 0} (result : Result A (FileError Refusal)) (error : FileError Refusal) → IsErrAnd result (λ e. e ≡ error) → IsNoRefusal error → IfErr result TellsMemory
unread_memory (Ok a) error is no_refusal = absurd is
unread_memory (Err e) error is no_refusal = unread_tells e (rw is no_refusal)

pub err_was : {A E : Type 0} (result : Result A E) (error : E) → IsErrAnd result (λ e. e ≡ error) → result ≡ Err error
err_was (Ok a) error is = absurd is
err_was (Err e) error is = ap Err is

-- each error but being out of memory is a fault
is_fault : (error : PolicyError) → error ≢ policy.NoMemory → policies.fault_of error ≡ Some error
is_fault policy.Toml other = refl
is_fault (policy.Extra place) other = refl
is_fault (policy.Missing place) other = refl
is_fault (policy.WrongKind place) other = refl
is_fault (policy.Lattice fault) other = refl
is_fault (policy.BadName place) other = refl
is_fault (policy.UnknownLabel place) other = refl
is_fault (policy.UnknownFunction place) other = refl
is_fault (policy.OutOfRange place) other = refl
is_fault policy.NoMemory other = absurd (other refl)

module _ (place : ℕ) (bytes : List ℕ) where
  -- no policy
  pub no_policy : (fault : PolicyError) (error : FileError Refusal) → ((told : PolicyError) → policies.fault_of fault ≡ Some told → policy_of bytes ≡ Err told)
      → IsTold place (Policy fault) (fault ≡ policy.NoMemory) error → Judges place (λ r. policy_said place bytes ≡ r) (Err error)
  no_policy fault error unfit (inl k) = subst (λ e. Judges place (λ r. policy_said place bytes ≡ r) (Err e)) (sym k.0) tt
  no_policy fault error unfit (inr k) =
      subst (λ e. Judges place (λ r. policy_said place bytes ≡ r) (Err e)) (sym k.0) (refl, ap (accepted place) (unfit fault (is_fault fault k.1)))

  -- no module
  pub no_module : (fault : DecodeError) (error : FileError Refusal) → (fault ≡ decode.NoMemory) ⊎ Fails bytes fault
      → IsTold place (Module (Decode fault)) (fault ≡ decode.NoMemory) error → Judges place (IsModule place bytes) (Err error)
  no_module fault error fails (inl k) = subst (λ e. Judges place (IsModule place bytes) (Err e)) (sym k.0) tt
  no_module fault error (inl none) (inr k) = absurd (k.1 none)
  no_module fault error (inr fails) (inr k) = subst (λ e. Judges place (IsModule place bytes) (Err e)) (sym k.0) (refl, (Decode fault, refl, fails))

  unfit_spelled : (program : Program) (error : FileError Refusal) → Spells program bytes → IsAccepted place program (Err error) → IsModule place bytes (Err error)
  unfit_spelled program error spells (Decode fault, is, unfit) = absurd unfit
  unfit_spelled program error spells (Invalid told, is, unfit) = (Invalid told, is, (program, spells, unfit))

  -- a module that is judged as what it was decoded to
  pub module_accepted : (program : Program) (result : Result Program (FileError Refusal)) → Spells program bytes → Judges place (IsAccepted place program) result
      → Judges place (IsModule place bytes) result
  module_accepted program (Ok valid) spells k = (subst (λ m. Spells m bytes) (sym k.0) spells, rw k.0 k.1)
  module_accepted program (Err (Refused at refusal)) spells k = (k.0, unfit_spelled program (Refused at refusal) spells k.1)
  module_accepted program (Err (TooLong at)) spells k = absurd k
  module_accepted program (Err (Fault at)) spells k = absurd k
  module_accepted program (Err NoMemory) spells k = tt

  fault_is : (program : Program) (told : InvalidFault) → told ≢ invalid.NoMemory → IsRefused program told → IsUnfit program (Invalid told)
  fault_is program (invalid.Float at) other refused = (_, refl, refused)
  fault_is program (invalid.Import i) other refused = (_, refl, refused)
  fault_is program (invalid.Structure n) other refused = (_, refl, refused)
  fault_is program invalid.NoHandle other refused = (_, refl, refused)
  fault_is program (invalid.Segment at) other refused = (_, refl, refused)
  fault_is program (invalid.IllTyped k) other refused = (_, refl, refused)
  fault_is program invalid.NoMemory other refused = absurd (other refl)

  -- a module that is not valid
  pub not_accepted : (program : Program) (told : InvalidFault) (error : FileError Refusal) → IsRefused program told
      → IsTold place (Module (Invalid told)) (told ≡ invalid.NoMemory) error → Judges place (IsAccepted place program) (Err error)
  not_accepted program told error refused (inl k) = subst (λ e. Judges place (IsAccepted place program) (Err e)) (sym k.0) tt
  not_accepted program told error refused (inr k) =
      subst (λ e. Judges place (IsAccepted place program) (Err e)) (sym k.0) (refl, (Invalid told, refl, fault_is program told k.1 refused))
