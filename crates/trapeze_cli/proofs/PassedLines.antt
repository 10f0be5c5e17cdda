-- What a reader passes, step by step.
use Rattle.std.proofs.Common.{◌≡◌, ℕ, ◌+◌, List, [], ◌∷◌, ◌++◌, None, Some, Result, Ok, refl, sym, ap, subst, ◌∙◌, append_assoc, append-nil}
use Rattle.std.specs.declared.option.Option.{Option}
use Rattle.std.proofs.lemmas.Grind.{flat_map-append}
use Rattle.wasm_semantics.specs.Threads.{Thread}
use Rattle.event_file.specs.Script.{Entries, after, onto}
use Rattle.event_file.specs.Reader.{Reader, entries_with}
use Rattle.event_file.specs.Heard.{heard_with}
use Rattle.event_file.specs.Calls.{Continues, Completes, Finishes, IsShort, used_up}
use Rattle.event_file.specs.declared.entry.Entry.{Entry}
use Rattle.event_file.specs.declared.fault.LineError.{LineError}
use Rattle.event_file.specs.declared.next.Next.TheVariants as next
use Rattle.event_file.proofs.WithinLimits.{empty_line}
use Rattle.host_rules.specs.States.{State}
use Rattle.host_rules.specs.Stores.{facet_lines}
use Rattle.host_rules.specs.Play.{trace, items_of}
use Rattle.trapeze_cli.specs.declared.halt.Halt.{Halt}
use Rattle.trapeze_cli.specs.Played.{AtEnd, end_at, entry_events, events_of}
use Rattle.trapeze_cli.specs.Runs.{Setting}
use Rattle.trapeze_cli.specs.Playing.{PlaysOn, HasPassed, FailsAt, Drains, said_of, text_from, lines_from}
use Rattle.trapeze_cli.proofs.Showing.{said-append}
use Rattle.trapeze_cli.proofs.Playing.{state_after, plays_both, plays_all}

pub after_both : (first second : List Entry) (rest : Entries) → after first (after second rest) ≡ after (first ++ second) rest
after_both first second rest = ap (λ es. the es) (sym (append_assoc first second rest.entries))
  where
    the : List Entry → Entries
    the es = record { entries = es; bad = rest.bad }

-- what all the calls of `next_line` leave as it was
pub record Stays (old new : Reader) : Type 0 where
  pub known : new.known ≡ old.known
  pub finished : new.finished ≡ old.finished
  pub fed : new.fed ≡ old.fed

pub stays_of : (old new : Reader) (bad : Option LineError) → new ≡ record old { kept = new.kept; lines = new.lines; bad = bad } → Stays old new
stays_of old new bad is = record { known = ap (λ (r : Reader). r.known) is; finished = ap (λ (r : Reader). r.finished) is; fed = ap (λ (r : Reader). r.fed) is }

pub passes_none : (r : Reader) → HasPassed r r []
passes_none r = record { known = refl; finished = refl; fed = refl; all = λ more. refl; counted = λ more. refl }

passes_both : (a b c : Reader) (first second : List Entry) → HasPassed a b first → HasPassed b c second → HasPassed a c (first ++ second)
passes_both a b c first second p q = record {
  known = q.known ∙ p.known;
  finished = q.finished ∙ p.finished;
  fed = q.fed ∙ p.fed;
  all = λ more. p.all more ∙ ap (after first) (q.all more) ∙ after_both first second (entries_with c more);
  counted = λ more. p.counted more ∙ ap (after first) (q.counted more) ∙ after_both first second (heard_with c more);
}

-- one more entry
pub passes_entry : (a b c : Reader) (entries : List Entry) (entry : Entry) → HasPassed a b entries → Stays b c
    → ((more : List ℕ) → Continues entries_with b c (next.Entry entry) more) → ((more : List ℕ) → Continues heard_with b c (next.Entry entry) more)
    → HasPassed a c (entries ++ entry ∷ [])
passes_entry a b c entries entry p stays k h =
    passes_both a b c entries (entry ∷ []) p (record { known = stays.known; finished = stays.finished; fed = stays.fed; all = k; counted = h })

-- no entry, in the lines that were passed
same_entries : (a b c : Reader) (entries : List Entry) → HasPassed a b entries → Stays b c
    → ((more : List ℕ) → entries_with b more ≡ entries_with c more) → ((more : List ℕ) → heard_with b more ≡ heard_with c more) → HasPassed a c entries
same_entries a b c entries p stays k h = record {
  known = stays.known ∙ p.known;
  finished = stays.finished ∙ p.finished;
  fed = stays.fed ∙ p.fed;
  all = λ more. p.all more ∙ ap (after entries) (k more);
  counted = λ more. p.counted more ∙ ap (after entries) (h more);
}

pub passes_dry : (a b c : Reader) (entries : List Entry) → HasPassed a b entries → b.bad ≡ None → c ≡ record b { kept = c.kept; lines = c.lines; bad = b.bad }
    → ((more : List ℕ) → Continues entries_with b c next.NoLine more) → ((more : List ℕ) → Continues heard_with b c next.NoLine more)
    → IsShort c → Drains a c entries (Ok None)
passes_dry a b c entries p good is k h short =
    (same_entries a b c entries p (stays_of b c b.bad is) k h, record { good = ap (λ (r : Reader). r.bad) is ∙ good; short = short })

pub passes_waiting : (a b c : Reader) (entries : List Entry) → HasPassed a b entries → c ≡ record b { kept = c.kept; lines = c.lines; bad = b.bad }
    → ((more : List ℕ) → Continues entries_with b c next.NoMemory more) → ((more : List ℕ) → Continues heard_with b c next.NoMemory more) → HasPassed a c entries
passes_waiting a b c entries p is k h = same_entries a b c entries p (stays_of b c b.bad is) k h

pub nothing_after : (entries : List Entry) (bad : Option LineError) → after entries (record { entries = []; bad = bad }) ≡ record { entries = entries; bad = bad }
nothing_after entries bad = ap (λ es. the es) (append-nil entries)
  where
    the : List Entry → Entries
    the es = record { entries = es; bad = bad }

pub passes_bad : (a b c : Reader) (entries : List Entry) (bad : LineError) → HasPassed a b entries
    → ((more : List ℕ) → Continues entries_with b c (next.Bad bad) more) → ((more : List ℕ) → Continues heard_with b c (next.Bad bad) more) → FailsAt a entries bad
passes_bad a b c entries bad p k h = record {
  all = λ more. p.all more ∙ ap (after entries) (k more) ∙ nothing_after entries (Some bad);
  counted = λ more. p.counted more ∙ ap (after entries) (h more) ∙ nothing_after entries (Some bad);
}

events_push : (entries : List Entry) (entry : Entry) → events_of (entries ++ entry ∷ []) ≡ events_of entries ++ entry_events entry
events_push entries entry = flat_map-append entry_events entries (entry ∷ []) ∙ ap (λ es. events_of entries ++ es) (append-nil (entry_events entry))

-- one more entry was played, or a part of it
pub plays_entry : {A B : Type 0} (g : Setting) (before mid now : State Thread → Type 0) (entries : List Entry) (entry : Entry) (b : B) (result : Result A Halt) (old between new : Option (List ℕ))
    → PlaysOn g before mid (events_of entries) (Ok b) old between → PlaysOn g mid now (entry_events entry) result between new
    → PlaysOn g before now (events_of (entries ++ entry ∷ [])) result old new
plays_entry g before mid now entries entry b result old between new p q =
    subst (λ es. PlaysOn g before now es result old new) (sym (events_push entries entry))
    (plays_both g before mid now (events_of entries) (entry_events entry) b result old between new p q)

-- the last line and the facets

used_entries : (r : Reader) → entries_with (used_up r) [] ≡ record { entries = []; bad = None }
used_entries r = ap (λ said. onto ((used_up r).lines + 1) said (record { entries = []; bad = None })) (empty_line r.known)

-- the entries of a reader whose last line says an entry
pub last_entry : (old new : Reader) (entry : Entry) → Finishes old new (next.Entry entry) → Completes old new (next.Entry entry) → entries_with old [] ≡ record { entries = entry ∷ []; bad = None }
last_entry old new entry ends completes = completes ∙ ap (after (entry ∷ [])) (ap (λ (r : Reader). entries_with r []) ends.1 ∙ used_entries old)

-- the text of such an end
pub end_text : (g : Setting) (s : State Thread) (read : Entries) (entry : Entry) → read ≡ record { entries = entry ∷ []; bad = None }
    → said_of g (lines_from g (end_at AtEnd read.bad) s (events_of read.entries))
    ≡ text_from g s (items_of (entry_events entry)) ++ said_of g (facet_lines (state_after g s (entry_events entry)).store)
end_text g s read entry is =
    ap (λ (e : Entries). said_of g (lines_from g (end_at AtEnd e.bad) s (events_of e.entries))) is
    ∙ ap (λ es. said_of g (lines_from g AtEnd s es)) (append-nil (entry_events entry))
    ∙ said-append g (trace g.rules g.guest s (items_of (entry_events entry))) (facet_lines (state_after g s (entry_events entry)).store)

-- the lines of one more piece were played
pub plays_lines : {A B : Type 0} (g : Setting) (before mid now : State Thread → Type 0) (first second : List Entry) (a : A) (b : B) (old between new : Option (List ℕ))
    → PlaysOn {A = Unit {0}} g before mid (events_of first) (Ok tt) old between → PlaysOn g mid now (events_of second) (Ok b) between new
    → PlaysOn g before now (events_of (first ++ second)) (Ok a) old new
plays_lines g before mid now first second a b old between new p q =
    let both = plays_both g before mid now (events_of first) (events_of second) tt (Ok b) old between new p q in
    subst (λ es. PlaysOn g before now es (Ok a) old new) (sym (flat_map-append entry_events first second))
    (plays_all g before now (events_of first ++ events_of second) a b old new both)
