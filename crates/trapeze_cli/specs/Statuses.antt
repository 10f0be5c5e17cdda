-- The statuses of a call, their numbers and their lines on the error sink.
use Rattle.std.specs.Prelude.{ℕ, List, [], ◌++◌, codes, slice_index_or, Option, None, Some, IfSome, Result, Ok, Err}
use Rattle.trapeze_io.specs.Seen.{Held}
use Rattle.trapeze_cli.specs.Forms.{Form, policy_name, file_name}
use Rattle.trapeze_cli.specs.Command.{policy_in}
use Rattle.trapeze_cli.specs.declared.status.Input.TheVariants.{Policy as policy_input, Module as module_input, Events as events_input}
use Rattle.trapeze_cli.specs.declared.status.Status.{Status}
use Rattle.trapeze_cli.specs.declared.status.Status.TheVariants.{Done, Usage, Policy, Module, Events, ReadFault, WriteFault, NoMemory, TooLong}
use Rattle.policy_toml.specs.Parts.{Parts}
use Rattle.fault_texts.specs.EventTexts.{bad_line_text}
use Rattle.fault_texts.specs.ModuleTexts.{module_line}
use Rattle.fault_texts.specs.PolicyTexts.{policy_text}

-- the exit status of the program
abbrev pub code_of : Status → ℕ
code_of Done = 0
code_of Usage = 1
code_of (Policy fault) = 2
code_of (Module function fault) = 3
code_of (Events error) = 4
code_of (ReadFault input) = 5
code_of WriteFault = 6
code_of NoMemory = 7
code_of (TooLong input) = 8

-- what an error line may name: the functions of the policy, and their files
pub record Named : Type 0 where
  pub functions : List (List ℕ)
  pub files : List (List ℕ)

abbrev pub no_names : Named
no_names = record { functions = []; files = [] }

-- the functions of a policy
abbrev pub named_by : Result Parts Status → Named
named_by (Ok policy) = record { functions = policy.functions; files = policy.files }
named_by (Err status) = no_names

-- the functions of the policy of words
abbrev pub named_in : Option Form → Held → Named
named_in None held = no_names
named_in (Some form) held = named_by (policy_in held (policy_name form))

-- the line of a status on the error sink: nothing after Done
abbrev pub error_text : Option Form → Named → Status → List ℕ
error_text form names Done = []
error_text form names Usage =
    codes "usage: trapeze run POLICY EVENTS | trace POLICY EVENTS | view POLICY EVENTS LABEL | check POLICY | exercise N\n"
error_text form names (Policy fault) = policy_text fault
error_text form names (Module f fault) = module_line (slice_index_or names.functions f []) fault
error_text form names (Events error) = bad_line_text error
error_text form names (ReadFault input) = codes "cannot read " ++ file_name form names.files input ++ codes "\n"
error_text form names WriteFault = codes "cannot write output\n"
error_text form names NoMemory = codes "out of memory\n"
error_text form names (TooLong input) = codes "too long: " ++ file_name form names.files input ++ codes "\n"

-- P of the functions that a status may name: of those of the policy where the status names one, if the files held are told, and else of any
abbrev pub WithNames : Option Form → Option Held → Status → (Named → Type 0) → Type 0
WithNames form held (Module f fault) P = IfSome held (λ h. P (named_in form h))
WithNames form held (ReadFault (module_input f)) P = IfSome held (λ h. P (named_in form h))
WithNames form held (TooLong (module_input f)) P = IfSome held (λ h. P (named_in form h))
WithNames form held (ReadFault policy_input) P = P no_names
WithNames form held (ReadFault events_input) P = P no_names
WithNames form held (TooLong policy_input) P = P no_names
WithNames form held (TooLong events_input) P = P no_names
WithNames form held Done P = P no_names
WithNames form held Usage P = P no_names
WithNames form held (Policy fault) P = P no_names
WithNames form held (Events error) P = P no_names
WithNames form held WriteFault P = P no_names
WithNames form held NoMemory P = P no_names
