-- Events that were played, and their lines counted.
use Rattle.std.specs.Prelude.{◌≡◌, List, ◌++◌}
use Rattle.event_file.specs.declared.entry.Event.{Event}
use Rattle.trapeze_lines.specs.declared.line.Line.{Line}
use Rattle.wasm_semantics.specs.Threads.{Thread}
use Rattle.host_rules.specs.Rules.{Rules}
use Rattle.host_rules.specs.Guests.{Guest}
use Rattle.host_rules.specs.States.{State}
use Rattle.host_rules.specs.Play.{play, trace, items_of}
use Rattle.trapeze_cli.specs.declared.counts.Counts.{Counts}
use Rattle.trapeze_cli.specs.Counts.{counts_of}

-- the counts took in these lines
abbrev pub TakesIn : List Line → Counts → Counts → Type 0
TakesIn lines old new = (before : List Line) → old ≡ counts_of before → new ≡ counts_of (before ++ lines)

-- events were played from the states for which a host stood, and their lines counted
pub record Counted (P : Rules) (M : Guest Thread) (before now : State Thread → Type 0) (events : List Event)
    (old new : Counts) : Type 0 where
  pub stands : (s : State Thread) → before s → now (play P M s (items_of events)).state
  pub counts : (s : State Thread) → before s → TakesIn (trace P M s (items_of events)) old new
