-- Events that are played one after the other, and how much of their text was written.
use Rattle.std.proofs.Common.{◌≡◌, ℕ, ◌<◌, ◌+◌, ◌-◌, List, [], ◌∷◌, ◌++◌, sym, ap, subst, ◌∙◌, append-nil, Result, Ok, Err, arith}
use Rattle.std.specs.declared.option.Option.{Option}
use Rattle.std.specs.Prelude.{OnOk, IsErrAnd, replicate}
use Rattle.std.proofs.lemmas.List.{replicate-append-replicate, map-append}
use Rattle.wasm_semantics.specs.Threads.{Thread}
use Rattle.event_file.specs.declared.entry.Event.{Event}
use Rattle.trapeze_lines.specs.declared.line.Line.{Line}
use Rattle.host_rules.specs.States.{State, Happens}
use Rattle.host_rules.specs.Play.{step, play, trace, items_of}
use Rattle.host_rules.proofs.SameToObserver.{play_append}
use Rattle.trapeze_cli.specs.declared.halt.Halt.{Halt}
use Rattle.trapeze_cli.specs.declared.halt.Halt.TheVariants.{NoMemory}
use Rattle.trapeze_cli.specs.Runs.{Setting}
use Rattle.trapeze_cli.specs.Playing.{AppendsBy, PlaysOn, said_of, text_from}
use Rattle.trapeze_cli.proofs.Showing.{said-append, said_nothing}
use Rattle.trapeze_io.proofs.Appended.{all_none, prefix_none}
use Rattle.trapeze_cli.proofs.Prefixes.{by_after, by_longer, by_halt}

-- the state that events leave
abbrev pub state_after : Setting → State Thread → List Event → State Thread
state_after g s events = (play g.rules g.guest s (items_of events)).state

pub state_both : (g : Setting) (s : State Thread) (first second : List Event) → state_after g s (first ++ second) ≡ state_after g (state_after g s first) second
state_both g s first second =
    ap (λ items. (play g.rules g.guest s items).state) (map-append Happens first second)
    ∙ ap (λ m. m.state) (play_append g.rules 0 g.guest (items_of first) (items_of second) s)

pub trace_both : (g : Setting) (s : State Thread) (first second : List Event)
    → trace g.rules g.guest s (items_of (first ++ second)) ≡ trace g.rules g.guest s (items_of first) ++ trace g.rules g.guest (state_after g s first) (items_of second)
trace_both g s first second =
    ap (λ items. trace g.rules g.guest s items) (map-append Happens first second)
    ∙ ap (λ m. m.lines) (play_append g.rules 0 g.guest (items_of first) (items_of second) s)

pub text_both : (g : Setting) (s : State Thread) (first second : List Event)
    → text_from g s (items_of (first ++ second)) ≡ text_from g s (items_of first) ++ text_from g (state_after g s first) (items_of second)
text_both g s first second =
    ap (said_of g) (trace_both g s first second)
    ∙ said-append g (trace g.rules g.guest s (items_of first)) (trace g.rules g.guest (state_after g s first) (items_of second))

on_ok : {A : Type 0} {P : Type 0} (result : Result A Halt) → P → OnOk result P
on_ok (Ok a) p = p
on_ok (Err e) p = tt

on_ok_map : {A : Type 0} {P Q : Type 0} (result : Result A Halt) → (P → Q) → OnOk result P → OnOk result Q
on_ok_map (Ok a) f p = f p
on_ok_map (Err e) f p = tt

-- no events
pub plays_none : {A : Type 0} (g : Setting) (before : State Thread → Type 0) (a : A) (old : Option (List ℕ)) → PlaysOn g before before [] (Ok a) old old
plays_none g before a old = record { state = λ s is. is; lines = λ s is. subst (λ t. AppendsBy (Ok a) t old old) (sym (said_nothing g)) (all_none old) }

-- one event, whose lines were written
pub plays_one : {A : Type 0} (g : Setting) (before now : State Thread → Type 0) (event : Event) (lines : List Line) (result : Result A Halt) (old new : Option (List ℕ))
    → ((s : State Thread) → before s → now (step g.rules g.guest s (Happens event)).state)
    → ((s : State Thread) → before s → lines ≡ (step g.rules g.guest s (Happens event)).lines) → AppendsBy result (said_of g lines) old new
    → PlaysOn g before now (event ∷ []) result old new
plays_one g before now event lines result old new state gave p = record {
  state = on_ok result state;
  lines = λ s is. subst (λ ls. AppendsBy result (said_of g ls) old new) (gave s is ∙ sym (append-nil (step g.rules g.guest s (Happens event)).lines)) p;
}

-- out of memory, nothing was written
pub plays_nothing : {A : Type 0} (g : Setting) (before now : State Thread → Type 0) (events : List Event) (old : Option (List ℕ)) → PlaysOn {A = A} g before now events (Err NoMemory) old old
plays_nothing g before now events old = record { state = tt; lines = λ s is. prefix_none (text_from g s (items_of events)) old }

-- some events, and then others
pub plays_both : {A B : Type 0} (g : Setting) (before mid now : State Thread → Type 0) (first second : List Event) (a : B) (result : Result A Halt) (old between new : Option (List ℕ))
    → PlaysOn g before mid first (Ok a) old between → PlaysOn g mid now second result between new → PlaysOn g before now (first ++ second) result old new
plays_both g before mid now first second a result old between new p q = record {
  state = on_ok_map result (λ next s is. subst now (sym (state_both g s first second)) (next (state_after g s first) (p.state s is))) q.state;
  lines = λ s is. subst (λ t. AppendsBy result t old new) (sym (text_both g s first second))
      (by_after result (text_from g s (items_of first)) (text_from g (state_after g s first) (items_of second)) old between new (p.lines s is) (q.lines (state_after g s first) (p.state s is)));
}

-- events that were not all played are a prefix of more events
pub plays_longer : {A B : Type 0} (g : Setting) (before now later : State Thread → Type 0) (first second : List Event) (halt : Halt) (old new : Option (List ℕ))
    → PlaysOn {A = A} g before now first (Err halt) old new → PlaysOn {A = B} g before later (first ++ second) (Err halt) old new
plays_longer {A = A} {B = B} g before now later first second halt old new p = record {
  state = tt;
  lines = λ s is. subst (λ t. AppendsBy {A = B} (Err halt) t old new) (sym (text_both g s first second))
      (by_longer A B halt (text_from g s (items_of first)) (text_from g (state_after g s first) (items_of second)) old new (p.lines s is));
}

-- what `?` answers
pub err_is : {A : Type 0} (result : Result A Halt) (halt : Halt) → IsErrAnd result (λ e. e ≡ halt) → result ≡ Err halt
err_is (Ok a) halt is = absurd is
err_is (Err e) halt is = ap Err is

-- an event was played once more
pub times_more : {B : Type 0} (g : Setting) (before mid now : State Thread → Type 0) (event : Event) (k : ℕ) (b : B) (old between new : Option (List ℕ))
    → PlaysOn {A = Unit {0}} g before mid (replicate k event) (Ok tt) old between → PlaysOn g mid now (event ∷ []) (Ok b) between new
    → PlaysOn {A = Unit {0}} g before now (replicate (k + 1) event) (Ok tt) old new
times_more g before mid now event k b old between new p q =
    let both = plays_both g before mid now (replicate k event) (event ∷ []) tt (Ok b) old between new p q in
    let all : PlaysOn {A = Unit {0}} g before now (replicate k event ++ event ∷ []) (Ok tt) old new = record { state = both.state; lines = both.lines } in
    subst (λ es. PlaysOn {A = Unit {0}} g before now es (Ok tt) old new) (replicate-append-replicate k 1 event) all

-- it was not played as often as it was to be
pub times_halt : {A B : Type 0} (g : Setting) (before mid now later : State Thread → Type 0) (event : Event) (k count : ℕ) (halt : Halt) (old between new : Option (List ℕ))
    → k < count → PlaysOn {A = Unit {0}} g before mid (replicate k event) (Ok tt) old between → PlaysOn {A = A} g mid now (event ∷ []) (Err halt) between new
    → PlaysOn {A = B} g before later (replicate count event) (Err halt) old new
times_halt {A = A} {B = B} g before mid now later event k count halt old between new less p q =
    let both : PlaysOn {A = A} g before now (replicate k event ++ event ∷ []) (Err halt) old new = plays_both g before mid now (replicate k event) (event ∷ []) tt (Err halt) old between new p q in
    let longer : PlaysOn {A = B} g before later ((replicate k event ++ event ∷ []) ++ replicate (count - (k + 1)) event) (Err halt) old new =
    plays_longer g before now later (replicate k event ++ event ∷ []) (replicate (count - (k + 1)) event) halt old new both in
    let e : k + 1 + (count - (k + 1)) ≡ count = omega arith in
    subst (λ es. PlaysOn {A = B} g before later es (Err halt) old new)
    (ap (λ es. es ++ replicate (count - (k + 1)) event) (replicate-append-replicate k 1 event) ∙ replicate-append-replicate (k + 1) (count - (k + 1)) event ∙ ap (λ n. replicate n event) e)
    longer

pub plays_halt : {A B : Type 0} (g : Setting) (before now : State Thread → Type 0) (events : List Event) (halt : Halt) (old new : Option (List ℕ))
    → PlaysOn {A = A} g before now events (Err halt) old new → PlaysOn {A = B} g before now events (Err halt) old new
plays_halt {A = A} {B = B} g before now events halt old new p = record {
  state = tt;
  lines = λ s is. by_halt A B halt (text_from g s (items_of events)) old new (p.lines s is);
}

-- all was played so far, and then the call is out of memory
pub plays_no_more : {A B : Type 0} (g : Setting) (before mid now : State Thread → Type 0) (events : List Event) (b : B) (old new : Option (List ℕ))
    → PlaysOn g before mid events (Ok b) old new → PlaysOn {A = A} g before now events (Err NoMemory) old new
plays_no_more {A = A} g before mid now events b old new p =
    subst (λ es. PlaysOn {A = A} g before now es (Err NoMemory) old new) (append-nil events)
    (plays_both g before mid now events [] b (Err NoMemory) old new new p (plays_nothing g mid now [] new))

-- all was played, whatever the answer that says so
pub plays_all : {A B : Type 0} (g : Setting) (before now : State Thread → Type 0) (events : List Event) (a : A) (b : B) (old new : Option (List ℕ))
    → PlaysOn g before now events (Ok b) old new → PlaysOn g before now events (Ok a) old new
plays_all g before now events a b old new p = record { state = p.state; lines = p.lines }
