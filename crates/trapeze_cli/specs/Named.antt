-- What the code has at hand when it writes an error line.
use Rattle.std.specs.Prelude.{Option, None, Some}
use Rattle.std.specs.Borrow.{Bor}
use Rattle.policy_toml.specs.Parts.{Parts}
use Rattle.trapeze_cli.specs.declared.forms.Form.{Form as CodeForm}
use Rattle.trapeze_cli.specs.Forms.{Form}
use Rattle.trapeze_cli.specs.Said.{said}
use Rattle.trapeze_cli.specs.Statuses.{Named, no_names}

-- the form of the words, where they have one
abbrev pub form_told : Option (Bor CodeForm) → Option Form
form_told None = None
form_told (Some form) = Some (said form.now)

-- the functions of the policy, where it was read
abbrev pub names_told : Option (Bor Parts) → Named
names_told None = no_names
names_told (Some policy) = record { functions = policy.now.functions; files = policy.now.files }
