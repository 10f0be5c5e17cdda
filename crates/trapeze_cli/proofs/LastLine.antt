-- The last line of a file, which has no end, and the facets.
use Rattle.std.proofs.Common.{◌≡◌, ℕ, List, [], ◌∷◌, None, Some, Result, Err, sym, subst}
use Rattle.std.specs.declared.option.Option.{Option}
use Rattle.wasm_semantics.specs.Threads.{Thread}
use Rattle.event_file.specs.Script.{Entries}
use Rattle.event_file.specs.declared.entry.Entry.{Entry}
use Rattle.event_file.specs.declared.fault.LineError.{LineError}
use Rattle.host_rules.specs.States.{State}
use Rattle.host_rules.specs.Stores.{facet_lines}
use Rattle.host_rules.specs.Play.{items_of}
use Rattle.trapeze_cli.specs.declared.halt.Halt.{Halt}
use Rattle.trapeze_cli.specs.Played.{AtEnd, end_at, entry_events, events_of}
use Rattle.trapeze_cli.specs.Runs.{Setting}
use Rattle.trapeze_io.specs.Appends.{AppendsAll}
use Rattle.trapeze_cli.specs.Playing.{AppendsBy, said_of, text_from, lines_from}
use Rattle.trapeze_cli.proofs.Showing.{said_nothing}
use Rattle.trapeze_io.proofs.Appended.{all_none}
use Rattle.trapeze_cli.proofs.Prefixes.{by_after, by_longer, by_halt}
use Rattle.trapeze_cli.proofs.Playing.{state_after}
use Rattle.trapeze_cli.proofs.PassedLines.{end_text}

-- the text of what is read in the end
abbrev pub last_text : Setting → State Thread → Entries → List ℕ
last_text g s read = said_of g (lines_from g (end_at AtEnd read.bad) s (events_of read.entries))

-- the last entry was not played whole
pub last_halts : (g : Setting) (s : State Thread) (read : Entries) (entry : Entry) (halt : Halt) (old new : Option (List ℕ)) → read ≡ record { entries = entry ∷ []; bad = None }
    → AppendsBy {A = Unit {0}} (Err halt) (text_from g s (items_of (entry_events entry))) old new → AppendsBy {A = Option LineError} (Err halt) (last_text g s read) old new
last_halts g s read entry halt old new is p =
    subst (λ t. AppendsBy {A = Option LineError} (Err halt) t old new) (sym (end_text g s read entry is))
    (by_longer (Unit {0}) (Option LineError) halt (text_from g s (items_of (entry_events entry))) (said_of g (facet_lines (state_after g s (entry_events entry)).store)) old new p)

-- the last entry was played, and the facets were told
pub last_told : {A : Type 0} (g : Setting) (s : State Thread) (read : Entries) (entry : Entry) (result : Result A Halt) (old mid new : Option (List ℕ)) → read ≡ record { entries = entry ∷ []; bad = None }
    → AppendsAll (text_from g s (items_of (entry_events entry))) old mid → AppendsBy result (said_of g (facet_lines (state_after g s (entry_events entry)).store)) mid new
    → AppendsBy result (last_text g s read) old new
last_told g s read entry result old mid new is w p =
    subst (λ t. AppendsBy result t old new) (sym (end_text g s read entry is))
    (by_after result (text_from g s (items_of (entry_events entry))) (said_of g (facet_lines (state_after g s (entry_events entry)).store)) old mid new w p)

-- the last line says nothing, and the facets were told
pub none_told : {A : Type 0} (g : Setting) (s : State Thread) (read : Entries) (result : Result A Halt) (old new : Option (List ℕ)) → read ≡ record { entries = []; bad = None }
    → AppendsBy result (said_of g (facet_lines s.store)) old new → AppendsBy result (last_text g s read) old new
none_told g s read result old new is p = subst (λ (e : Entries). AppendsBy result (last_text g s e) old new) (sym is) p

-- the last line is bad
pub bad_told : (g : Setting) (s : State Thread) (read : Entries) (bad : LineError) (old : Option (List ℕ)) → read ≡ record { entries = []; bad = Some bad }
    → AppendsAll (last_text g s read) old old
bad_told g s read bad old is = subst (λ (e : Entries). AppendsAll (last_text g s e) old old) (sym is) (subst (λ t. AppendsAll t old old) (sym (said_nothing g)) (all_none old))

-- a halt, whatever the answer that says so
pub told_halt : (halt : Halt) (said : List ℕ) (old new : Option (List ℕ)) → AppendsBy {A = Unit {0}} (Err halt) said old new → AppendsBy {A = Option LineError} (Err halt) said old new
told_halt halt said old new p = by_halt (Unit {0}) (Option LineError) halt said old new p
