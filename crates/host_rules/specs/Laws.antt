-- What the laws say of the rules.
use Rattle.std.specs.Prelude.{◌≡◌, ◌≤◌, ℕ, ◌+◌, true, false, List, [], ◌++◌}
use Rattle.facet_list.specs.Store.{Write}
use Rattle.trapeze_lines.specs.declared.line.Line.{Line}
use Rattle.event_file.specs.declared.entry.Event.{Event}
use Rattle.trapeze_lines.specs.Lines.{run_kinds}
use Rattle.host_rules.specs.Guests.{Asked, Guest}
use Rattle.host_rules.specs.Rules.{Rules}
use Rattle.host_rules.specs.States.{Activation, State, Item, Happens, Moved, still, start}
use Rattle.host_rules.specs.Calls.{shim}
use Rattle.host_rules.specs.Play.{step, play, trace, whole, releases, items_of}
use Rattle.host_rules.specs.Regular.{IsRegular}
use Rattle.host_rules.specs.Views.{visible_writes, event_label, item_label, visible, visible_events, visible_items, Same, view}

-- the lines that a run prints, of those that are visible, are the visible lines of those that it prints
abbrev pub KeepsInEitherOrder : Type 0
KeepsInEitherOrder = (P : Rules) (o : ℕ) (lines : List Line) → visible P o (run_kinds lines) ≡ run_kinds (visible P o lines)

-- sameness is an equivalence
pub record IsEquivalence (T : Type 0) (P : Rules) (o : ℕ) : Type 0 where
  pub reflexive : (s : State T) → Same P o s s
  pub symmetric : (s t : State T) → Same P o s t → Same P o t s
  pub transitive : (s t u : State T) → Same P o s t → Same P o t u → Same P o s u

-- a number stays or rises by one
abbrev pub StaysOrRises : ℕ → ℕ → Type 0
StaysOrRises before after = (before ≤ after) × (after ≤ before + 1)

-- a move looks to o as another one: the visible lines are equal, and the states after them are the same to o
pub record LooksLike {T : Type 0} (P : Rules) (o : ℕ) (x y : Moved T) : Type 0 where
  pub lines_seen : visible P o x.lines ≡ visible P o y.lines
  pub same : Same P o x.state y.state

-- two regular states that are the same to o
pub record AreSame {T : Type 0} (P : Rules) (o : ℕ) (s t : State T) : Type 0 where
  pub same : Same P o s t
  pub left : IsRegular P s
  pub right : IsRegular P t

module _ {T : Type 0} (P : Rules) (M : Guest T) where
  -- a hidden event looks like its visible releases, played from any state that is the same
  abbrev pub HidesEvents : Type 0
  HidesEvents = (o : ℕ) (s t : State T) (e : Event) → P.flows (event_label e) o ≡ false → AreSame P o s t →
      LooksLike P o (step P M s (Happens e)) (play P M t (visible_items P o (releases P M s e)))

  -- a visible item does the same from states that are the same
  abbrev pub DoesTheSame : Type 0
  DoesTheSame = (o : ℕ) (s t : State T) (i : Item) → P.flows (item_label i) o ≡ true → AreSame P o s t →
      LooksLike P o (step P M s i) (step P M t i)

  -- a hidden event looks like nothing
  abbrev pub HidesEventsWhole : Type 0
  HidesEventsWhole = (o : ℕ) (s : State T) (e : Event) → P.flows (event_label e) o ≡ false → IsRegular P s →
      LooksLike P o (step P M s (Happens e)) (still s)

  -- a host call at a visible label is granted the same over stores that are the same to o
  abbrev pub GrantsTheSame : Type 0
  GrantsTheSame = (o c : ℕ) (a : Activation T) (s t : State T) (asked : Asked) (waits : T) → P.flows c o ≡ true → Same P o s t →
      shim P M c a s.store asked waits ≡ shim P M c a t.store asked waits

  -- the start is a regular state, and each step keeps a state regular
  pub record KeepsRegular : Type 0 where
    pub start_is : (w : List Write) → IsRegular P (start {T = T} w)
    pub steps : (s : State T) (i : Item) → IsRegular P s → IsRegular P (step P M s i).state

  -- no step raises a turn or request number by more than one, or lowers one
  pub record RaisesByOne : Type 0 where
    pub turns : (s : State T) (i : Item) (l : ℕ) → StaysOrRises (s.turns l) ((step P M s i).state.turns l)
    pub requests : (s : State T) (i : Item) (l : ℕ) → StaysOrRises (s.requests l) ((step P M s i).state.requests l)

  -- what o sees of items from any store is what it sees of the others from the writes that it sees: with the facets in the end
  -- and without them, of all lines and of those that a run prints
  pub record SeesTheSame (o : ℕ) (w : List Write) (items others : List Item) : Type 0 where
    pub of_whole : visible P o (whole P M (start w) items) ≡ visible P o (whole P M (start (visible_writes P o w)) others)
    pub of_trace : visible P o (trace P M (start w) items) ≡ visible P o (trace P M (start (visible_writes P o w)) others)
    pub printed_whole : visible P o (run_kinds (whole P M (start w) items))
        ≡ visible P o (run_kinds (whole P M (start (visible_writes P o w)) others))
    pub printed_trace : visible P o (run_kinds (trace P M (start w) items))
        ≡ visible P o (run_kinds (trace P M (start (visible_writes P o w)) others))

  -- noninterference with gates: the events show what the view of o shows
  abbrev pub IsNoninterfering : Type 0
  IsNoninterfering = (o : ℕ) (w : List Write) (events : List Event) →
      SeesTheSame o w (items_of events) (view P M o (start w) events)

  -- noninterference: the events show what the events that flow to o show alone
  abbrev pub IsNoninterferingAlone : Type 0
  IsNoninterferingAlone = (o : ℕ) (w : List Write) (events : List Event) →
      SeesTheSame o w (items_of events) (items_of (visible_events P o events))

  -- nothing is released, and the view is the events that are visible
  pub record IsWithoutReleases : Type 0 where
    pub nothing : (s : State T) (e : Event) → releases P M s e ≡ []
    pub view_is : (o : ℕ) (s : State T) (events : List Event) → view P M o s events ≡ items_of (visible_events P o events)

  -- more items add lines, and change none of those before
  abbrev pub TracesGrow : Type 0
  TracesGrow = (s : State T) (items more : List Item) →
      trace P M s (items ++ more) ≡ trace P M s items ++ trace P M (play P M s items).state more
