-- How a step ends whose file is no policy.
use Rattle.std.proofs.Common.{◌≡◌, ◌≢◌, ℕ, List, [], ◌∷◌, Some, None, IfSome, Ok, Err, ◌⊎◌, inl, inr, refl, sym, subst}
use Rattle.std.specs.declared.option.Option.{Option}
use Rattle.trapeze_io.specs.Seen.{Seen, Held, OpensAll}
use Rattle.policy_toml.specs.Faults.{fault_of}
use Rattle.policy_toml.specs.PolicyOf.{policy_of}
use Rattle.policy_toml.specs.declared.error.PolicyError.{PolicyError}
use Rattle.policy_toml.specs.declared.error.PolicyError.TheVariants.{Toml, Extra, Missing, WrongKind, Lattice, BadName, UnknownLabel, UnknownFunction, OutOfRange, NoMemory as no_memory}
use Rattle.trapeze_cli.specs.declared.status.Status.{Status}
use Rattle.trapeze_cli.specs.declared.status.Status.TheVariants.{Policy, NoMemory}
use Rattle.trapeze_cli.specs.declared.status.Input.TheVariants.{Policy as policy_input}
use Rattle.trapeze_cli.specs.Command.{file_of, policy_in, policy_limit}
use Rattle.trapeze_cli.specs.Promises.{TellsMemory}
use Rattle.trapeze_cli.specs.Steps.{Ends}
use Rattle.trapeze_cli.proofs.StepsInTurn.{opens_one}

-- each error but being out of memory is a fault
is_fault : (error : PolicyError) → error ≢ no_memory → fault_of error ≡ Some error
is_fault Toml other = refl
is_fault (Extra place) other = refl
is_fault (Missing place) other = refl
is_fault (WrongKind place) other = refl
is_fault (Lattice fault) other = refl
is_fault (BadName place) other = refl
is_fault (UnknownLabel place) other = refl
is_fault (UnknownFunction place) other = refl
is_fault (OutOfRange place) other = refl
is_fault no_memory other = absurd (other refl)

-- a file that is held and is no policy
unfit_policy : (held : Option Held) (name bytes : List ℕ) (fault : PolicyError)
    → IfSome held (λ h. file_of h name policy_limit policy_input ≡ Ok bytes) → policy_of bytes ≡ Err fault
    → IfSome held (λ h. policy_in h name ≡ Err (Policy fault))
unfit_policy None name bytes fault file unfit = tt
unfit_policy (Some h) name bytes fault file unfit = rw (file, unfit) refl

-- a file that was read and is no policy ends the step with its fault, or out of memory
pub unfit_ends : (name bytes : List ℕ) (old new : Seen) (fault : PolicyError) (status : Status) → OpensAll (name ∷ []) old new
    → IfSome old.held (λ h. file_of h name policy_limit policy_input ≡ Ok bytes) → ((told : PolicyError) → fault_of fault ≡ Some told → policy_of bytes ≡ Err told)
    → (status ≡ NoMemory) ⊎ (status ≡ Policy fault) → TellsMemory status
    → Ends (record { input = policy_input; name = name } ∷ []) (λ h r. policy_in h name ≡ r) status old new
unfit_ends name bytes old new fault status opens file unfit (inl is) tells =
    subst (λ (s : Status). Ends (record { input = policy_input; name = name } ∷ []) (λ h r. policy_in h name ≡ r) s old new) (sym is)
    (record { opens = opens_one _ _ _ _ opens tt; refused = tt })
unfit_ends name bytes old new fault status opens file unfit (inr is) tells =
    let other = (subst TellsMemory is tells).0 in
    subst (λ (s : Status). Ends (record { input = policy_input; name = name } ∷ []) (λ h r. policy_in h name ≡ r) s old new) (sym is)
    (record { opens = opens_one _ _ _ _ opens refl; refused = unfit_policy old.held name bytes fault file (unfit fault (is_fault fault other)) })
