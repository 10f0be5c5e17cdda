-- What is written of a play, and what each label sees of it.
use Rattle.std.proofs.Common.{◌≡◌, ℕ, List, []}
use Rattle.std.specs.declared.option.Option.{Option}
use Rattle.wasm_semantics.specs.Threads.{Thread}
use Rattle.host_rules.specs.Rules.{Rules, IsOrdered}
use Rattle.host_rules.specs.Guests.{Guest}
use Rattle.host_rules.specs.Laws.{SeesTheSame}
use Rattle.host_rules.specs.States.{Item, start}
use Rattle.host_rules.specs.Play.{items_of}
use Rattle.host_rules.specs.Views.{visible, visible_events, view}
use Rattle.host_rules.proofs.Runs.{noninterfering}
use Rattle.host_rules.proofs.NoGates.{noninterfering_alone}
use Rattle.trapeze_cli.specs.declared.status.Status.{Status}
use Rattle.trapeze_cli.specs.Command.{status_at}
use Rattle.trapeze_io.specs.Appends.{AppendsAll}
use Rattle.trapeze_cli.specs.Played.{FileEnd, AtEnd, AtBad, PastLimit, Played, events_of}
use Rattle.trapeze_cli.specs.Runs.{Setting, lines_to, lines_played, text_of}
use Rattle.trapeze_cli.specs.Promises.{IsPrivate, shown_of}
use Rattle.trapeze_cli.proofs.Showing.{shown_alike}

-- items that look the same look the same up to any end
ends_alike : (P : Rules) (M : Guest Thread) (o : ℕ) (end : FileEnd) (items others : List Item) → SeesTheSame P M o [] items others
    → visible P o (lines_to end P M items) ≡ visible P o (lines_to end P M others)
ends_alike P M o AtEnd items others sees = sees.of_whole
ends_alike P M o (AtBad bad) items others sees = sees.of_trace
ends_alike P M o PastLimit items others sees = sees.of_trace

shown_same : (g : Setting) (o : ℕ) (end : FileEnd) (items others : List Item) → SeesTheSame g.rules g.guest o [] items others
    → visible g.rules o (shown_of g end items) ≡ visible g.rules o (shown_of g end others)
shown_same g o end items others sees =
    shown_alike g.rules g.shown o (lines_to end g.rules g.guest items) (lines_to end g.rules g.guest others) (ends_alike g.rules g.guest o end items others sees)

pub private_by : (g : Setting) (played : Played) (s : Status) (old new : Option (List ℕ)) → IsOrdered g.rules → s ≡ status_at played.end → AppendsAll (text_of g played) old new
    → IsPrivate g played s old new
private_by g played s old new order is wrote = record {
  ended = is;
  lines = lines_played g played;
  written = wrote;
  private = λ o. shown_same g o played.end (items_of (events_of played.entries)) (view g.rules g.guest o (start []) (events_of played.entries))
      (noninterfering g.rules order g.guest o [] (events_of played.entries));
  alone = λ none o. shown_same g o played.end (items_of (events_of played.entries)) (items_of (visible_events g.rules o (events_of played.entries)))
      (noninterfering_alone g.rules none g.guest order o [] (events_of played.entries));
}
