-- A raise, once its name was read.
use Rattle.std.proofs.Common.{◌≡◌, ℕ, List, Ok, ◌∙◌, ap}
use Rattle.std.specs.Prelude.{slice_index}
use Rattle.trapeze_io.specs.Answers.{◌>>=◌}
use Rattle.wasm_ast.specs.declared.hosts.HostName.TheVariants as host
use Rattle.wasm_exec.specs.declared.stops.Asked.{Asked}
use Rattle.host_rules.specs.Ranges.{name_at}
use Rattle.host_rules.specs.Rules.{Rules}
use Rattle.host_rules.specs.Wishes.{wish, wish_of}
use Rattle.shim_calls.specs.Performing.{asked_in}
use Rattle.shim_calls.specs.Wished.{raises}

pub raise_is : (P : Rules) (memory : List ℕ) (a : Asked) (name : List ℕ) → a.name ≡ host.Raise → name_at memory (slice_index a.args 0) (slice_index a.args 1) ≡ Ok name → wish P memory (asked_in a) ≡ raises P name
raise_is P memory a name is read =
    ap (λ h. wish_of P memory h (slice_index a.args 0) (slice_index a.args 1) (slice_index a.args 2) (slice_index a.args 3)) is ∙ ap (λ r. r >>= raises P) read
