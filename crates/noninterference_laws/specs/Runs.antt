-- What an observer sees of the runs of a policy and its modules.
use Rattle.std.specs.Prelude.{◌≡◌, ℕ, List}
use Rattle.label_lattice.specs.Sound.{IsSound}
use Rattle.policy_toml.specs.Parts.{Parts}
use Rattle.wasm_ast.specs.declared.modules.Module.{Module}
use Rattle.facet_list.specs.Store.{Write}
use Rattle.event_file.specs.declared.entry.Event.{Event}
use Rattle.trapeze_lines.specs.declared.line.Line.{Line}
use Rattle.trapeze_lines.specs.Lines.{run_kinds}
use Rattle.host_rules.specs.Rules.{HasNoGates}
use Rattle.host_rules.specs.Policies.{rules_of}
use Rattle.host_rules.specs.Modules.{guest_of}
use Rattle.host_rules.specs.States.{Item, start}
use Rattle.host_rules.specs.Play.{whole, trace, items_of}
use Rattle.host_rules.specs.Views.{visible, visible_writes, visible_events, view}

module _ (parts : Parts) (modules : List Module) where
  -- the lines of items, and then of the facets in the end, from a store with these writes
  abbrev pub whole_lines : List Write → List Item → List Line
  whole_lines w items = whole (rules_of parts) (guest_of modules) (start w) items

  -- the same without the facets
  abbrev pub trace_lines : List Write → List Item → List Line
  trace_lines w items = trace (rules_of parts) (guest_of modules) (start w) items

  -- the view that o has of events
  abbrev pub view_from : ℕ → List Write → List Event → List Item
  view_from o w events = view (rules_of parts) (guest_of modules) o (start w) events

  -- o sees the same of two plays: with the facets in the end and without them, of all lines and of those that a run prints
  pub record LooksTheSame (o : ℕ) (w v : List Write) (items others : List Item) : Type 0 where
    pub of_whole : visible (rules_of parts) o (whole_lines w items) ≡ visible (rules_of parts) o (whole_lines v others)
    pub of_trace : visible (rules_of parts) o (trace_lines w items) ≡ visible (rules_of parts) o (trace_lines v others)
    pub printed_whole : visible (rules_of parts) o (run_kinds (whole_lines w items))
        ≡ visible (rules_of parts) o (run_kinds (whole_lines v others))
    pub printed_trace : visible (rules_of parts) o (run_kinds (trace_lines w items))
        ≡ visible (rules_of parts) o (run_kinds (trace_lines v others))

  -- what o sees of events is what he sees of his view of them, from the writes that he sees
  abbrev pub ShowTheView : ℕ → List Write → List Event → Type 0
  ShowTheView o w events = LooksTheSame o w (visible_writes (rules_of parts) o w) (items_of events) (view_from o w events)

  -- what o sees of events is what he sees of those that flow to him, from the writes that he sees
  abbrev pub ShowTheVisible : ℕ → List Write → List Event → Type 0
  ShowTheVisible o w events = LooksTheSame o w (visible_writes (rules_of parts) o w) (items_of events)
      (items_of (visible_events (rules_of parts) o events))

  -- o sees the same writes of two stores, and has the same view of two lists of events
  pub record AreAlike (o : ℕ) (w v : List Write) (events others : List Event) : Type 0 where
    pub writes : visible_writes (rules_of parts) o w ≡ visible_writes (rules_of parts) o v
    pub views : view_from o w events ≡ view_from o v others

  -- o sees the same writes of two stores, and the same events of two lists
  pub record AreAlikeAlone (o : ℕ) (w v : List Write) (events others : List Event) : Type 0 where
    pub writes : visible_writes (rules_of parts) o w ≡ visible_writes (rules_of parts) o v
    pub events_seen : visible_events (rules_of parts) o events ≡ visible_events (rules_of parts) o others

-- of every policy, whose lattice is sound, and all modules, for each o, store and list of events
abbrev pub OfAllRuns : ((parts : Parts) (modules : List Module) → ℕ → List Write → List Event → Type 0) → Type 0
OfAllRuns Q = (parts : Parts) (modules : List Module) → IsSound parts.lattice → (o : ℕ) (w : List Write) (events : List Event) →
    Q parts modules o w events

abbrev pub ShowTheirViews : Type 0
ShowTheirViews = OfAllRuns ShowTheView

abbrev pub ShowTheirVisibleEvents : Type 0
ShowTheirVisibleEvents = OfAllRuns (λ parts modules o w events. HasNoGates (rules_of parts) → ShowTheVisible parts modules o w events)

-- two runs that are alike to o look the same to him
abbrev pub ShowTheSame : Type 0
ShowTheSame = OfAllRuns (λ parts modules o w events. (v : List Write) (others : List Event) →
    AreAlike parts modules o w v events others → LooksTheSame parts modules o w v (items_of events) (items_of others))

-- without gates the same events are enough
abbrev pub ShowTheSameAlone : Type 0
ShowTheSameAlone = OfAllRuns (λ parts modules o w events. HasNoGates (rules_of parts) → (v : List Write) (others : List Event) →
    AreAlikeAlone parts modules o w v events others → LooksTheSame parts modules o w v (items_of events) (items_of others))
