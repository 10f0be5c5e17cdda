-- The lines and the text of a run.
use Rattle.std.specs.Prelude.{ℕ, ◌<◌, ⊤, List, []}
use Rattle.wasm_ast.specs.declared.modules.Module.{Module}
use Rattle.wasm_semantics.specs.Threads.{Thread}
use Rattle.event_file.specs.Known.{Known}
use Rattle.event_file.specs.Heard.{heard}
use Rattle.event_file.specs.declared.entry.Entry.{Entry}
use Rattle.policy_toml.specs.Parts.{Parts}
use Rattle.trapeze_lines.specs.declared.line.Line.{Line}
use Rattle.trapeze_lines.specs.Lines.{run_kinds}
use Rattle.trapeze_lines.specs.Texts.{text}
use Rattle.host_rules.specs.Rules.{Rules}
use Rattle.host_rules.specs.Policies.{rules_of}
use Rattle.host_rules.specs.Guests.{Guest}
use Rattle.host_rules.specs.Modules.{guest_of}
use Rattle.host_rules.specs.States.{Item, start}
use Rattle.host_rules.specs.Play.{trace, whole, items_of}
use Rattle.host_rules.specs.Views.{visible}
use Rattle.trapeze_host.specs.Standing.{known_in}
use Rattle.trapeze_cli.specs.declared.shown.Shown.{Shown}
use Rattle.trapeze_cli.specs.declared.shown.Shown.TheVariants.{RunKinds, AllKinds, VisibleTo}
use Rattle.trapeze_cli.specs.Played.{FileEnd, AtEnd, AtBad, PastLimit, Played, events_of}

-- what events are played on: the names that they may use, the rules of the policy, the guest of its functions' modules; and which lines
-- are shown
pub record Setting : Type 0 where
  pub known : Known
  pub rules : Rules
  pub guest : Guest Thread
  pub shown : Shown

-- the setting of a policy and the modules of its functions
abbrev pub setting_of : Parts → List Module → Shown → Setting
setting_of policy modules shown =
    record { known = known_in policy; rules = rules_of policy; guest = guest_of modules; shown = shown }

-- the lines that are shown: those of the kinds that a run prints, all, or of those that a run prints the ones that flow to a label
abbrev pub shown_lines : Rules → Shown → List Line → List Line
shown_lines P RunKinds lines = run_kinds lines
shown_lines P AllKinds lines = lines
shown_lines P (VisibleTo label) lines = visible P label.number (run_kinds lines)

-- the label to which lines have to flow, if there is one, is one of so many
abbrev pub IsShownTo : ℕ → Shown → Type 0
IsShownTo labels RunKinds = ⊤
IsShownTo labels AllKinds = ⊤
IsShownTo labels (VisibleTo label) = label.number < labels

-- the lines of items from an empty store: with those of the facets where a file is played to its end, and else without
abbrev pub lines_to : FileEnd → Rules → Guest Thread → List Item → List Line
lines_to AtEnd P M items = whole P M (start []) items
lines_to (AtBad bad) P M items = trace P M (start []) items
lines_to PastLimit P M items = trace P M (start []) items

-- the lines that are shown of what is played
abbrev pub lines_played : Setting → Played → List Line
lines_played g played = shown_lines g.rules g.shown (lines_to played.end g.rules g.guest (items_of (events_of played.entries)))

-- their text
abbrev pub text_of : Setting → Played → List ℕ
text_of g played = text g.rules.labels (lines_played g played)

-- the text of entries, without facets
abbrev pub text_before : Setting → List Entry → List ℕ
text_before g entries = text_of g (record { entries = entries; end = PastLimit })

-- the text of the lines that are heard in the bytes given of a file: of the events of those that count
abbrev pub text_heard : Setting → List ℕ → List ℕ
text_heard g given = text_before g (heard g.known given).entries
