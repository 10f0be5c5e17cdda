-- The laws of one step, for a call of play.
use Rattle.std.proofs.Common.{◌≡◌, ℕ, List, ◌++◌, ◌∙◌, ap}
use Rattle.std.proofs.lemmas.List.Elements.{filter-append}
use Rattle.event_file.specs.declared.entry.Event.{Event}
use Rattle.trapeze_lines.specs.declared.line.Line.{Line}
use Rattle.wasm_semantics.specs.Threads.{Thread}
use Rattle.host_rules.specs.Rules.{Rules}
use Rattle.host_rules.specs.Guests.{Guest}
use Rattle.host_rules.specs.States.{State, Moved, Happens}
use Rattle.host_rules.specs.Play.{step}
use Rattle.host_rules.specs.Views.{visible}
use Rattle.host_rules.specs.Laws.{LooksLike, HidesEvents, DoesTheSame}
use Rattle.trapeze_host.specs.Observing.{Shows, Hides, Mirrors}

shown : (P : Rules) (o : ℕ) (m other : Moved Thread) (before after : List Line) → after ≡ before ++ m.lines → LooksLike P o m other → Shows P o m.state other before after
shown P o m other before after e looks = record {
  lines = ap (visible P o) e ∙ filter-append (λ (line : Line). P.flows line.label.number o) before m.lines ∙ ap (λ ls. visible P o before ++ ls) looks.lines_seen;
  same = looks.same;
}

module _ (P : Rules) (M : Guest Thread) (o : ℕ) (s : State Thread) (e : Event) (before after : List Line) (added : after ≡ before ++ (step P M s (Happens e)).lines) where
  pub hides : HidesEvents P M → Hides P M o s e before after
  hides law = λ hidden left t right same. shown P o (step P M s (Happens e)) _ before after added (law o s t e hidden (record { same = same; left = left; right = right }))

  pub mirrors : DoesTheSame P M → Mirrors P M o s e before after
  mirrors law = λ seen left t right same. shown P o (step P M s (Happens e)) _ before after added (law o s t (Happens e) seen (record { same = same; left = left; right = right }))
