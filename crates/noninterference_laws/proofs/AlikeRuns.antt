-- Runs that look the same.
use Rattle.std.proofs.Common.{◌≡◌, ℕ, List, sym, ◌∙◌, ap, subst}
use Rattle.policy_toml.specs.Parts.{Parts}
use Rattle.wasm_ast.specs.declared.modules.Module.{Module}
use Rattle.facet_list.specs.Store.{Write}
use Rattle.host_rules.specs.Policies.{rules_of}
use Rattle.host_rules.specs.Modules.{guest_of}
use Rattle.host_rules.specs.States.{Item}
use Rattle.host_rules.specs.Play.{items_of}
use Rattle.host_rules.specs.Laws.{SeesTheSame}
use Rattle.host_rules.specs.Views.{visible_writes, visible_events}
use Rattle.host_rules.proofs.Ordered.{are_ordered}
use Rattle.host_rules.proofs.Runs.{noninterfering}
use Rattle.host_rules.proofs.NoGates.{noninterfering_alone}
use Rattle.noninterference_laws.specs.Runs.{view_from, LooksTheSame, ShowTheirViews, ShowTheirVisibleEvents, ShowTheSame, ShowTheSameAlone}

module _ (parts : Parts) (modules : List Module) (o : ℕ) where
  from_the_rules : (w : List Write) (items others : List Item) → SeesTheSame (rules_of parts) (guest_of modules) o w items others
      → LooksTheSame parts modules o w (visible_writes (rules_of parts) o w) items others
  from_the_rules w items others h = record {
    of_whole = h.of_whole;
    of_trace = h.of_trace;
    printed_whole = h.printed_whole;
    printed_trace = h.printed_trace;
  }

  -- two plays look the same where both look like a third one
  both_like : (w v u : List Write) (items others third : List Item) → LooksTheSame parts modules o w u items third
      → LooksTheSame parts modules o v u others third → LooksTheSame parts modules o w v items others
  both_like w v u items others third h k = record {
    of_whole = h.of_whole ∙ sym k.of_whole;
    of_trace = h.of_trace ∙ sym k.of_trace;
    printed_whole = h.printed_whole ∙ sym k.printed_whole;
    printed_trace = h.printed_trace ∙ sym k.printed_trace;
  }

  -- the same where they look like plays that are the same
  both_alike : (w v u x : List Write) (items others third fourth : List Item) → u ≡ x → third ≡ fourth
      → LooksTheSame parts modules o w u items third → LooksTheSame parts modules o v x others fourth
      → LooksTheSame parts modules o w v items others
  both_alike w v u x items others third fourth e f h k = both_like w v x items others fourth
      (subst (λ i. LooksTheSame parts modules o w x items i) f (subst (λ s. LooksTheSame parts modules o w s items third) e h)) k

pub views_shown : ShowTheirViews
views_shown parts modules sound o w events = from_the_rules parts modules o w (items_of events) (view_from parts modules o w events)
    (noninterfering (rules_of parts) (are_ordered parts sound) (guest_of modules) o w events)

pub visible_shown : ShowTheirVisibleEvents
visible_shown parts modules sound o w events none =
    from_the_rules parts modules o w (items_of events) (items_of (visible_events (rules_of parts) o events))
    (noninterfering_alone (rules_of parts) none (guest_of modules) (are_ordered parts sound) o w events)

pub same_shown : ShowTheSame
same_shown parts modules sound o w events v others alike =
    both_alike parts modules o w v (visible_writes (rules_of parts) o w) (visible_writes (rules_of parts) o v)
    (items_of events) (items_of others) (view_from parts modules o w events) (view_from parts modules o v others)
    alike.writes alike.views (views_shown parts modules sound o w events) (views_shown parts modules sound o v others)

pub same_shown_alone : ShowTheSameAlone
same_shown_alone parts modules sound o w events none v others alike =
    both_alike parts modules o w v (visible_writes (rules_of parts) o w) (visible_writes (rules_of parts) o v)
    (items_of events) (items_of others)
    (items_of (visible_events (rules_of parts) o events)) (items_of (visible_events (rules_of parts) o others))
    alike.writes (ap items_of alike.events_seen)
    (visible_shown parts modules sound o w events none) (visible_shown parts modules sound o v others none)
