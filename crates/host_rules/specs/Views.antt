-- What an observer sees: an observer is a label, and sees what flows to it.
use Rattle.std.specs.Prelude.{◌≡◌, ℕ, true, List, [], ◌∷◌, ◌++◌, filter, if◌then◌else◌}
use Rattle.facet_list.specs.Store.{Write}
use Rattle.facet_list.specs.Rows.{rows_of}
use Rattle.facet_list.specs.Views as views
use Rattle.event_file.specs.declared.entry.Event.{Event}
use Rattle.event_file.specs.declared.entry.Event.TheVariants.{Put, Ask, Turn}
use Rattle.trapeze_lines.specs.declared.line.Line.{Line}
use Rattle.trapeze_lines.specs.Lines as lines
use Rattle.host_rules.specs.Guests.{Guest}
use Rattle.host_rules.specs.Rules.{Rules, clearance}
use Rattle.host_rules.specs.States.{Serving, State, Serves, Item, Happens, Out}
use Rattle.host_rules.specs.Play.{step, releases}

abbrev pub event_label : Event → ℕ
event_label (Put label key value) = label.number
event_label (Ask label client function id body) = label.number
event_label (Turn label) = label.number

-- the label of a release is its gate's target
abbrev pub item_label : Item → ℕ
item_label (Happens e) = event_label e
item_label (Out gate bytes) = gate.target.number

-- visible: the lines whose label flows to o
abbrev pub visible : Rules → ℕ → List Line → List Line
visible P o ls = lines.visible P.flows o ls

-- the events that are visible to o
abbrev pub visible_events : Rules → ℕ → List Event → List Event
visible_events P o events = filter (λ e. P.flows (event_label e) o) events

-- the items that are visible to o
abbrev pub visible_items : Rules → ℕ → List Item → List Item
visible_items P o items = filter (λ i. P.flows (item_label i) o) items

-- the writes whose label flows to o
abbrev pub visible_writes : Rules → ℕ → List Write → List Write
visible_writes P o w = views.visible_writes P.flows o w

-- two stores have the same rows: for each key the same last writes of each label, in the same order
abbrev pub HaveSameRows : List Write → List Write → Type 0
HaveSameRows w v = rows_of w ≡ rows_of v

-- the same to an observer: the visible writes have the same rows; at each label that flows to o the lists, turn
-- numbers and request numbers are equal; and of the requests of activations there whose client's clearance flows to o the
-- same are answered
pub record Same {T : Type 0} (P : Rules) (o : ℕ) (s t : State T) : Type 0 where
  pub store : HaveSameRows (visible_writes P o s.store) (visible_writes P o t.store)
  pub lists : (l : ℕ) → P.flows l o ≡ true → s.lists l ≡ t.lists l
  pub turns : (l : ℕ) → P.flows l o ≡ true → s.turns l ≡ t.turns l
  pub requests : (l : ℕ) → P.flows l o ≡ true → s.requests l ≡ t.requests l
  pub answered : (l : ℕ) (x : Serving) → P.flows l o ≡ true → Serves s l x → P.flows (clearance P x.client) o ≡ true →
      s.answered x.request ≡ t.answered x.request

-- the view of o: each visible event, and in place of each hidden one its releases that are visible
abbrev pub view : {T : Type 0} → Rules → Guest T → ℕ → State T → List Event → List Item
view P M o s [] = []
view P M o s (e ∷ events) =
    (if P.flows (event_label e) o then Happens e ∷ [] else visible_items P o (releases P M s e))
    ++ view P M o (step P M s (Happens e)).state events
