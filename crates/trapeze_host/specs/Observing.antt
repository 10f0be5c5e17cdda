-- What an observer sees of an event that was played.
use Rattle.std.specs.Prelude.{◌≡◌, ℕ, true, false, List, ◌++◌}
use Rattle.event_file.specs.declared.entry.Event.{Event}
use Rattle.trapeze_lines.specs.declared.line.Line.{Line}
use Rattle.wasm_semantics.specs.Threads.{Thread}
use Rattle.host_rules.specs.Rules.{Rules}
use Rattle.host_rules.specs.Guests.{Guest}
use Rattle.host_rules.specs.States.{State, Moved, Happens}
use Rattle.host_rules.specs.Play.{step, play, releases}
use Rattle.host_rules.specs.Regular.{IsRegular}
use Rattle.host_rules.specs.Views.{event_label, visible, visible_items, Same}

-- the visible lines that were appended are those of another move, and the states after both are the same to o
pub record Shows (P : Rules) (o : ℕ) (after_this : State Thread) (other : Moved Thread) (before after : List Line) : Type 0 where
  pub lines : visible P o after ≡ visible P o before ++ visible P o other.lines
  pub same : Same P o after_this other.state

module _ (P : Rules) (M : Guest Thread) (o : ℕ) (s : State Thread) (e : Event) (before after : List Line) where
  -- a hidden event shows what its visible releases show, from any regular state that is the same to o
  abbrev pub Hides : Type 0
  Hides = P.flows (event_label e) o ≡ false → IsRegular P s → (t : State Thread) → IsRegular P t → Same P o s t →
      Shows P o (step P M s (Happens e)).state (play P M t (visible_items P o (releases P M s e))) before after

  -- a visible event shows what it shows from any regular state that is the same to o
  abbrev pub Mirrors : Type 0
  Mirrors = P.flows (event_label e) o ≡ true → IsRegular P s → (t : State Thread) → IsRegular P t → Same P o s t →
      Shows P o (step P M s (Happens e)).state (step P M t (Happens e)) before after
