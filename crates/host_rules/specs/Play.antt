-- Events and releases one after the other, from any state.
use Rattle.std.specs.Prelude.{ℕ, ◌+◌, List, [], ◌∷◌, ◌++◌, Some, map}
use Rattle.event_file.specs.declared.entry.Event.{Event}
use Rattle.event_file.specs.declared.entry.Event.TheVariants.{Put, Ask, Turn}
use Rattle.trapeze_lines.specs.declared.line.Line.{Line}
use Rattle.facet_list.specs.Store.{written}
use Rattle.host_rules.specs.Guests.{Guest}
use Rattle.host_rules.specs.Rules.{Rules}
use Rattle.host_rules.specs.States.{Serving, fresh, State, count_request, Item, Happens, Out, Moved, still, then_move}
use Rattle.host_rules.specs.Stores.{facet_lines}
use Rattle.host_rules.specs.Effects.{write, arrive, let_in}
use Rattle.host_rules.specs.Turns.{turn}

-- ask: the next request number of the label is taken, and an activation for that request arrives at the label, from it
abbrev pub ask : {T : Type 0} → Rules → ℕ → ℕ → ℕ → List ℕ → List ℕ → State T → Moved T
ask P l client function id body s =
    let serving : Serving = record { request = record { label = l; number = s.requests l + 1 }; client = client; id = id } in
    arrive P l l (fresh function body (Some serving)) (count_request s l)

-- one item: put, a write at the event's label; ask; turn; or a release that is let in
abbrev pub step : {T : Type 0} → Rules → Guest T → State T → Item → Moved T
step P M s (Happens (Put label key value)) = write P (written label.number key value) s
step P M s (Happens (Ask label client function id body)) = ask P label.number client function id body s
step P M s (Happens (Turn label)) = turn P M label.number s
step P M s (Out gate bytes) = let_in P gate bytes s

-- the items in order, each from the state after the one before it
abbrev pub play : {T : Type 0} → Rules → Guest T → State T → List Item → Moved T
play P M s [] = still s
play P M s (i ∷ items) = then_move (step P M s i) (play P M (step P M s i).state items)

-- the lines of the items
abbrev pub trace : {T : Type 0} → Rules → Guest T → State T → List Item → List Line
trace P M s items = (play P M s items).lines

-- the lines of the items, and then those of the facets in the end
abbrev pub whole : {T : Type 0} → Rules → Guest T → State T → List Item → List Line
whole P M s items = trace P M s items ++ facet_lines (play P M s items).state.store

-- the releases that did not vanish while an event was played, in order
abbrev pub releases : {T : Type 0} → Rules → Guest T → State T → Event → List Item
releases P M s e = (step P M s (Happens e)).outs

-- events as items
abbrev pub items_of : List Event → List Item
items_of events = map Happens events
