-- Which state a host stands for.
use Rattle.std.specs.Prelude.{◌≡◌, ℕ, Bool, List, ◌++◌, Result, MatchResult}
use Rattle.trapeze_io.specs.declared.failures.NoMemory.{NoMemory}
use Rattle.policy_toml.specs.Parts.{Parts}
use Rattle.facet_list.specs.Rows.{Rows}
use Rattle.trapeze_lines.specs.declared.line.Line.{Line}
use Rattle.wasm_ast.specs.declared.modules.Module.{Module}
use Rattle.wasm_semantics.specs.Threads.{Thread}
use Rattle.host_rules.specs.States.{State, Moved}
use Rattle.trapeze_host.specs.declared.host.Host.{Host}
use Rattle.trapeze_host.specs.Keeping.{Keeps}
pub use Rattle.trapeze_host.specs.Adding.{AddsPart, Adds}
pub use Rattle.trapeze_host.specs.Loans.{known_in}

-- what a host was lent
unfoldable pub policy_lent : {F : Type 0} → Host F → Parts
policy_lent host = host.lent.policy

unfoldable pub modules_lent : {F : Type 0} → Host F → List Module
modules_lent host = host.lent.modules

-- a call of play was out of memory
unfoldable pub is_spent : {F : Type 0} → Host F → Bool
is_spent host = host.spent

-- how many events were played
unfoldable pub played_in : {F : Type 0} → Host F → ℕ
played_in host = host.played

-- the host stands for this state
unfoldable pub Stands : {F : Type 0} → (F → Rows) → Host F → State Thread → Type 0
Stands rows host s = Keeps rows host.lent host.kept s

-- the move was made, and its lines appended
pub record Plays {F : Type 0} (rows : F → Rows) (m : Moved Thread) (host : Host F) (before after : List Line) : Type 0 where
  pub stands : Stands rows host m.state
  pub lines : after ≡ before ++ m.lines

-- the move was made, and its lines appended; or, out of memory, the first of them were
abbrev pub Moves : {F X : Type 0} → (F → Rows) → Result X NoMemory → Moved Thread → Host F → List Line → List Line → Type 0
Moves rows result m host before after = MatchResult result (λ _. Plays rows m host before after) (λ _. AddsPart m.lines before after)
