-- Whole runs.
use Rattle.std.proofs.Common.{◌≡◌, ℕ, ◌<◌, true, false, cond, length, List, [], ◌∷◌, ◌++◌, Contains, refl, sym, ◌∙◌, ap, subst, arith}
use Rattle.std.proofs.lemmas.List.Elements.{filter-append}
use Rattle.facet_list.specs.Store.{Write}
use Rattle.facet_list.specs.Rows.{rows_of}
use Rattle.trapeze_lines.specs.declared.line.Line.{Line}
use Rattle.event_file.specs.declared.entry.Event.{Event}
use Rattle.trapeze_lines.specs.Lines.{is_of_run, run_kinds}
use Rattle.host_rules.specs.Guests.{Guest}
use Rattle.host_rules.specs.Rules.{Rules, IsOrdered}
use Rattle.host_rules.specs.States.{State, Happens, start}
use Rattle.host_rules.specs.Stores.{facet_lines}
use Rattle.host_rules.specs.Play.{step, play, trace, whole, items_of}
use Rattle.host_rules.specs.Regular.{IsRegular}
use Rattle.host_rules.specs.Views.{visible_writes, event_label, item_label, visible, visible_items, Same, view}
use Rattle.host_rules.specs.Laws.{HidesEvents, DoesTheSame, GrantsTheSame, KeepsInEitherOrder, KeepsRegular, IsNoninterfering, TracesGrow}
use Rattle.host_rules.proofs.FilteredLists.{filter_twice, filters_commute}
use Rattle.host_rules.proofs.Stores.{facets_alike}
use Rattle.host_rules.proofs.SameToObserver.{Agree, same_refl, agree_still, agree_move, play_append}
use Rattle.host_rules.proofs.Calls.{shim_alike}
use Rattle.host_rules.proofs.Turns.{hidden_step, seen_step}

none_in : {A B : Type 0} (a : A) → Contains [] a → B
none_in {A} a h = absurd (never h.0 h.1)
  where
    never : (k : ℕ) → k < length {A = A} [] → ⊥
    never k h = omega arith

pub kept_in_either_order : KeepsInEitherOrder
kept_in_either_order P o lines = filters_commute (λ (line : Line). P.flows line.label.number o) (λ (line : Line). is_of_run line.kind) lines

of_run_kinds : (P : Rules) (o : ℕ) (lines others : List Line) → visible P o lines ≡ visible P o others → visible P o (run_kinds lines) ≡ visible P o (run_kinds others)
of_run_kinds P o lines others e = kept_in_either_order P o lines ∙ ap run_kinds e ∙ sym (kept_in_either_order P o others)

module _ {T : Type 0} (P : Rules) where
  pub regular_start : (w : List Write) → IsRegular P (start {T = T} w)
  regular_start w = record {
    taken = λ l x h. none_in h.activation h.listed;
    answered = λ r h. absurd (differ h);
    one_client = λ l m x y h k e. none_in h.activation h.listed;
    upwards = λ l x h. none_in h.activation h.listed;
  }
    where
      differ : false ≡ true → ⊥
      differ h = cc

  same_start : (o : ℕ) (w : List Write) → Same P o (start {T = T} w) (start (visible_writes P o w))
  same_start o w = record {
    store = ap rows_of (sym (filter_twice (λ (x : Write). P.flows x.label o) w));
    lists = λ l h. refl;
    turns = λ l h. refl;
    requests = λ l h. refl;
    answered = λ l x h e k. refl;
  }

  module _ (order : IsOrdered P) (M : Guest T) where
    play_seen : (o : ℕ) (events : List Event) (s t : State T) → Same P o s t → IsRegular P s → IsRegular P t → Agree P o (play P M s (items_of events)) (play P M t (view P M o s events))
    play_seen o [] s t same left right = agree_still P o s t same left right
    play_seen o (e ∷ events) s t same left right =
        let x = step P M s (Happens e) in
        let later = view P M o x.state events in
        elim (P.flows (event_label e) o) as (λ b. P.flows (event_label e) o ≡ b → Agree P o (play P M s (items_of (e ∷ events))) (play P M t (cond b (Happens e ∷ []) (visible_items P o x.outs) ++ later))) [
          | true ↦ λ f. (
              let y = step P M t (Happens e) in
              let first = seen_step P order M o (Happens e) s t f same left right in
              agree_move P o x y (play P M x.state (items_of events)) (play P M y.state later) first.lines
              (play_seen o events x.state y.state first.same first.left first.right))
          | false ↦ λ f. (
              let first = (hidden_step P order M o (Happens e) s f left).shows t same right in
              let u = play P M t (visible_items P o x.outs) in
              subst (λ z. Agree P o (play P M s (items_of (e ∷ events))) z) (sym (play_append P o M (visible_items P o x.outs) later t))
              (agree_move P o x u (play P M x.state (items_of events)) (play P M u.state later) first.lines
              (play_seen o events x.state u.state first.same first.left first.right)))
        ] refl

    whole_seen : (o : ℕ) (events : List Event) (s t : State T) → Same P o s t → IsRegular P s → IsRegular P t → visible P o (whole P M s (items_of events)) ≡ visible P o (whole P M t (view P M o s events))
    whole_seen o events s t same left right =
        let x = play P M s (items_of events) in
        let y = play P M t (view P M o s events) in
        let h = play_seen o events s t same left right in
        filter-append (λ (line : Line). P.flows line.label.number o) x.lines (facet_lines x.state.store)
        ∙ ap (λ v. v ++ visible P o (facet_lines x.state.store)) h.lines
        ∙ ap (λ v. visible P o y.lines ++ v) (facets_alike P o x.state.store y.state.store h.same.store)
        ∙ sym (filter-append (λ (line : Line). P.flows line.label.number o) y.lines (facet_lines y.state.store))

    pub noninterfering : IsNoninterfering P M
    noninterfering o w events =
        let v = visible_writes P o w in
        let h = whole_seen o events (start w) (start v) (same_start o w) (regular_start w) (regular_start v) in
        let k = (play_seen o events (start w) (start v) (same_start o w) (regular_start w) (regular_start v)).lines in
        record {
          of_whole = h;
          of_trace = k;
          printed_whole = of_run_kinds P o (whole P M (start w) (items_of events)) (whole P M (start v) (view P M o (start w) events)) h;
          printed_trace = of_run_kinds P o (trace P M (start w) (items_of events)) (trace P M (start v) (view P M o (start w) events)) k;
        }

    pub grants_the_same : GrantsTheSame P M
    grants_the_same o c a s t asked waits seen same = shim_alike P M c order o seen a s.store t.store same.store asked waits

    pub hides_events : HidesEvents P M
    hides_events o s t e hidden b = let h = (hidden_step P order M o (Happens e) s hidden b.left).shows t b.same b.right in record { lines_seen = h.lines; same = h.same }

    pub does_the_same : DoesTheSame P M
    does_the_same o s t i seen b = let h = seen_step P order M o i s t seen b.same b.left b.right in record { lines_seen = h.lines; same = h.same }

    -- a label that sees the item sees a state as itself
    pub keeps_regular : KeepsRegular P M
    keeps_regular = record {
      start_is = regular_start;
      steps = λ s i regular. (seen_step P order M (item_label i) i s s (order.reflexive (item_label i)) (same_refl P (item_label i) s) regular regular).left;
    }

  pub traces_grow : (M : Guest T) → TracesGrow P M
  traces_grow M s items more = ap (λ m. m.lines) (play_append P 0 M items more s)
