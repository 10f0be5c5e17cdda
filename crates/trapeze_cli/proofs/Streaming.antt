-- From what a reader passed to what a status says of the file.
use Rattle.std.proofs.Common.{◌≡◌, ℕ, ◌-◌, ◌<◌, ◌≤◌, List, [], ◌++◌, length, take, drop, None, Some, Result, Ok, Err, IfSome, inl, inr, refl, sym, ap, subst, ◌∙◌, append_assoc, append-nil, length-append, take-append-drop, arith}
use Rattle.std.specs.declared.option.Option.{Option}
use Rattle.std.specs.Prelude.{IfOk}
use Rattle.std.proofs.lemmas.List.{length-take, length-take-le, take-append-le}
use Rattle.std.proofs.lemmas.Grind.{flat_map-append}
use Rattle.std.specs.Io.KnownBytes.{append_known}
use Rattle.trapeze_io.specs.Seen.{OpenFile, Gives, IsAtEnd}
use Rattle.trapeze_io.proofs.CallsInTurn.{Gives-trans}
use Rattle.wasm_semantics.specs.Threads.{Thread}
use Rattle.event_file.specs.Script.{Entries, after, entries_of}
use Rattle.event_file.specs.Reader.{Reader, entries_with}
use Rattle.event_file.specs.Heard.{heard}
use Rattle.event_file.specs.declared.entry.Entry.{Entry}
use Rattle.event_file.specs.declared.entry.Event.{Event}
use Rattle.event_file.specs.declared.fault.LineError.{LineError}
use Rattle.host_rules.specs.States.{State, start}
use Rattle.host_rules.specs.Stores.{facet_lines}
use Rattle.host_rules.specs.Play.{trace, items_of}
use Rattle.trapeze_cli.specs.declared.halt.Halt.{Halt}
use Rattle.trapeze_cli.specs.declared.halt.Halt.TheVariants.{Write, NoMemory}
use Rattle.trapeze_cli.specs.declared.status.Status.TheVariants as status
use Rattle.trapeze_cli.specs.declared.status.Input.TheVariants as input
use Rattle.trapeze_cli.specs.Played.{FileEnd, AtEnd, AtBad, PastLimit, Played, played_of, up_to, end_at, entry_events, events_of}
use Rattle.trapeze_cli.specs.Runs.{Setting, lines_to, text_of, text_before, text_heard}
use Rattle.trapeze_cli.specs.Command.{events_limit, piece, status_at}
use Rattle.trapeze_io.specs.Appends.{AppendsAll, AppendsPrefix, AppendsLess}
use Rattle.trapeze_cli.specs.Promises.{StopsAt}
use Rattle.trapeze_cli.specs.Whys.{why}
use Rattle.trapeze_cli.specs.Playing.{AppendsBy, said_of, lines_from, IsDry, Drains, HasFollowed, file_in, played_in_file, texts_of, WritesOf, PlaysFile, status_of}
use Rattle.trapeze_cli.proofs.Showing.{said-append}
use Rattle.trapeze_io.proofs.Appended.{prefix_after, prefix_wider, less_after, less_wider}
use Rattle.trapeze_cli.proofs.Prefixes.{by_after}
use Rattle.trapeze_cli.proofs.Playing.{state_after, state_both, trace_both}
use Rattle.trapeze_cli.proofs.HeardPrefixes.{Begins, heard_begins, heard_good}
use Rattle.trapeze_cli.proofs.FollowedFile.{follows_passed, heard_dry, played_begins, played_bad, played_whole, played_past}

-- the texts

lines_both : (g : Setting) (end : FileEnd) (s : State Thread) (first second : List Event)
    → lines_from g end s (first ++ second) ≡ trace g.rules g.guest s (items_of first) ++ lines_from g end (state_after g s first) second
lines_both g AtEnd s first second =
    ap (λ ls. ls ++ facet_lines (state_after g s (first ++ second)).store) (trace_both g s first second)
    ∙ append_assoc (trace g.rules g.guest s (items_of first)) (trace g.rules g.guest (state_after g s first) (items_of second)) (facet_lines (state_after g s (first ++ second)).store)
    ∙ ap (λ (t : State Thread). trace g.rules g.guest s (items_of first) ++ (trace g.rules g.guest (state_after g s first) (items_of second) ++ facet_lines t.store)) (state_both g s first second)
lines_both g (AtBad bad) s first second = trace_both g s first second
lines_both g PastLimit s first second = trace_both g s first second

lines_start : (g : Setting) (end : FileEnd) (events : List Event) → lines_to end g.rules g.guest (items_of events) ≡ lines_from g end (start []) events
lines_start g AtEnd events = refl
lines_start g (AtBad bad) events = refl
lines_start g PastLimit events = refl

-- the text of what is played that begins with some entries
pub text_after : (g : Setting) (end : FileEnd) (first second : List Entry)
    → text_of g (record { entries = first ++ second; end = end })
    ≡ text_before g first ++ said_of g (lines_from g end (state_after g (start []) (events_of first)) (events_of second))
text_after g end first second =
    ap (said_of g) (lines_start g end (events_of (first ++ second)))
    ∙ ap (λ es. said_of g (lines_from g end (start []) es)) (flat_map-append entry_events first second)
    ∙ ap (said_of g) (lines_both g end (start []) (events_of first) (events_of second))
    ∙ said-append g (trace g.rules g.guest (start []) (items_of (events_of first))) (lines_from g end (state_after g (start []) (events_of first)) (events_of second))

-- a text that begins with another
pub record Starts (all first : List ℕ) : Type 0 where
  pub others : List ℕ
  pub same : all ≡ first ++ others

text_starts : (g : Setting) (p : Played) (first : List Entry) → Begins p.entries first → Starts (text_of g p) (text_before g first)
text_starts g p first b = record { others = _; same = ap (λ es. text_of g (the es)) b.same ∙ text_after g p.end first b.others }
  where
    the : List Entry → Played
    the es = record { entries = es; end = p.end }

-- the text heard in a prefix of the bytes comes first
heard_starts : (g : Setting) (given : List ℕ) (n : ℕ) → Starts (text_heard g given) (text_heard g (take n given))
heard_starts g given n =
    let b : Begins (heard g.known given).entries (heard g.known (take n given)).entries =
    subst (λ (bytes : List ℕ). Begins (heard g.known bytes).entries (heard g.known (take n given)).entries) (take-append-drop n given) (heard_begins g.known (take n given) (drop n given)) in
    text_starts g (record { entries = (heard g.known given).entries; end = PastLimit }) (heard g.known (take n given)).entries b

-- the answers at each end of the stream

-- what a step that halts has written, where all that is heard in the bytes before its piece was written
halt_writes : (A : Type 0) (g : Setting) (r : OpenFile) (given last : List ℕ) (halt : Halt) (first second others : List ℕ) (old mid new : Option (List ℕ))
    → r.given ≡ given ++ last → length last ≤ piece → text_heard g given ≡ first → text_of g (played_in_file g r) ≡ (first ++ second) ++ others
    → AppendsAll first old mid → AppendsBy {A = A} (Err halt) second mid new → WritesOf (texts_of g r) (why (status_of (Err halt))) old new
halt_writes A g r given last Write first second others old mid new is short heard_is all_is w p =
    let m = length r.given - piece in
    let fits : m ≤ length given = omega (arith, ap length is, length-append given last) in
    let same : take m r.given ≡ take m given = ap (take m) is ∙ take-append-le m given last fits in
    let prefix : Starts (text_heard g given) (text_heard g (take m given)) = heard_starts g given m in
    let before = text_heard g (take m given) in
    let here : (first ++ []) ≡ before ++ prefix.others = append-nil first ∙ sym heard_is ∙ prefix.same in
    let part : AppendsLess (first ++ []) (first ++ second) old new = less_after first [] second old mid new w p in
    let wide : AppendsLess before ((first ++ second) ++ others) old new =
    less_wider before prefix.others (first ++ second) others old new (subst (λ l. AppendsLess l (first ++ second) old new) here part) in
    subst (λ b. AppendsLess (text_heard g b) (text_of g (played_in_file g r)) old new) (sym same)
    (subst (λ t. AppendsLess before t old new) (sym all_is) wide)
halt_writes A g r given last NoMemory first second others old mid new is short heard_is all_is w p =
    let prefix : AppendsPrefix (first ++ []) (first ++ second) old new = prefix_after first [] second old mid new w p in
    subst (λ t. AppendsPrefix [] t old new) (sym all_is) (prefix_wider [] (first ++ []) (first ++ second) others old new prefix)

-- what was heard was written
heard_text : (g : Setting) (given : List ℕ) (entries : List Entry) → heard g.known given ≡ record { entries = entries; bad = None }
    → text_heard g given ≡ text_before g entries
heard_text g given entries h = ap (λ (e : Entries). text_before g e.entries) h

-- no bad line is heard in the bytes given before the last piece
before_last : (g : Setting) (r : OpenFile) (given last : List ℕ) → r.given ≡ given ++ last → length last ≤ piece → (heard g.known given).bad ≡ None
    → (heard g.known (take (length r.given - piece) r.given)).bad ≡ None
before_last g r given last is short good =
    let m = length r.given - piece in
    let fits : m ≤ length given = omega (arith, ap length is, length-append given last) in
    let same : take m r.given ≡ take m given = ap (take m) is ∙ take-append-le m given last fits in
    let all : (heard g.known (take m given ++ drop m given)).bad ≡ None = subst (λ bytes. (heard g.known bytes).bad ≡ None) (sym (take-append-drop m given)) good in
    subst (λ bytes. (heard g.known bytes).bad ≡ None) (sym same) (heard_good g.known (take m given) (drop m given) all)

-- a read failed
pub answers_fault : (g : Setting) (r : OpenFile) (given : List ℕ) (entries : List Entry) (reader : Reader) (old new : Option (List ℕ))
    → r.given ≡ given → length given ≤ events_limit → HasFollowed g.known given entries reader → IsDry reader → AppendsAll (text_before g entries) old new
    → PlaysFile g r (status.ReadFault input.Events) old new
answers_fault g r given entries reader old new is l f d w =
    let h : heard g.known r.given ≡ record { entries = entries; bad = None } = ap (heard g.known) is ∙ heard_dry g.known given entries reader f d in
    record {
      tells = (refl, ap (λ (e : Entries). e.bad) h, omega (arith, l, ap length is));
      ended = λ e. cc;
      past = λ e. cc;
      stopped = λ bad e. cc;
      writes = w ∙ ap (λ t. append_known old t) (sym (heard_text g r.given entries h));
    }

-- a byte past the limit came
pub answers_past : (g : Setting) (r : OpenFile) (given over : List ℕ) (entries : List Entry) (reader : Reader) (old new : Option (List ℕ))
    → r.given ≡ given ++ over → length given ≡ events_limit → length over ≡ 1 → HasFollowed g.known given entries reader → IsDry reader
    → AppendsAll (text_before g entries) old new → PlaysFile g r (status.TooLong input.Events) old new
answers_past g r given over entries reader old new is l o f d w =
    let sc : played_in_file g r ≡ record { entries = entries; end = PastLimit } =
    ap (λ b. played_of events_limit g.known (b ++ r.rest)) is ∙ played_past events_limit g.known given over r.rest entries (heard_dry g.known given entries reader f d) l (omega (arith, o)) in
    record {
      tells = sym (ap (λ (x : Played). status_at x.end) sc);
      ended = λ e. cc;
      past = λ e. omega (arith, ap length is, length-append given over, l, o);
      stopped = λ bad e. cc;
      writes = w ∙ ap (λ (x : Played). append_known old (text_of g x)) (sym sc);
    }

-- out of memory for a piece
pub answers_want : (g : Setting) (r : OpenFile) (given last : List ℕ) (entries : List Entry) (reader : Reader) (old new : Option (List ℕ))
    → r.given ≡ given ++ last → length given ≤ events_limit → HasFollowed g.known given entries reader
    → AppendsAll (text_before g entries) old new → PlaysFile g r status.NoMemory old new
answers_want g r given last entries reader old new is l f w = record {
  tells = tt;
  ended = λ e. cc;
  past = λ e. cc;
  stopped = λ bad e. cc;
  writes =
      let b = played_begins events_limit g.known given (last ++ r.rest) entries reader f l in
      let s = text_starts g (played_of events_limit g.known (given ++ (last ++ r.rest))) entries b in
      let all : text_of g (played_in_file g r) ≡ text_before g entries ++ s.others =
      ap (λ bytes. text_of g (played_of events_limit g.known bytes)) (ap (λ b. b ++ r.rest) is ∙ append_assoc given last r.rest) ∙ s.same in
      record { more = text_before g entries; left = s.others; split = all; appended = w };
}

-- a piece was played up to a halt, or up to a bad line
pub answers_piece : (g : Setting) (r : OpenFile) (given last : List ℕ) (entries passed : List Entry) (reader fed left : Reader) (result : Result (Option LineError) Halt) (old mid new : Option (List ℕ))
    → r.given ≡ given ++ last → length last ≤ piece → length (given ++ last) ≤ events_limit
    → HasFollowed g.known given entries reader → IsDry reader → HasFollowed g.known (given ++ last) entries fed → Drains fed left passed result
    → AppendsAll (text_before g entries) old mid
    → AppendsBy result (said_of g (trace g.rules g.guest (state_after g (start []) (events_of entries)) (items_of (events_of passed)))) mid new
    → ¬ (result ≡ Ok None) → PlaysFile g r (status_of result) old new
answers_piece g r given last entries passed reader fed left (Ok None) old mid new is short l f d f2 dr w p more = absurd (more refl)
answers_piece g r given last entries passed reader fed left (Ok (Some bad)) old mid new is short l f d f2 dr w p more =
    let sc : played_in_file g r ≡ record { entries = entries ++ passed; end = AtBad bad } =
    ap (λ b. played_of events_limit g.known (b ++ r.rest)) is ∙ played_bad events_limit g.known (given ++ last) r.rest entries passed fed bad f2 dr l in
    let second = said_of g (trace g.rules g.guest (state_after g (start []) (events_of entries)) (items_of (events_of passed))) in
    let t : text_of g (played_in_file g r) ≡ text_before g entries ++ second = ap (text_of g) sc ∙ text_after g (AtBad bad) entries passed in
    record {
      tells = sym (ap (λ (x : Played). status_at x.end) sc);
      ended = λ e. cc;
      past = λ e. cc;
      stopped = λ other e.
          let same : bad ≡ other = cc in
          subst (λ (b : LineError). StopsAt g.known b r) same (record {
            met = inl (ap (λ (e : Entries). e.bad) (ap (heard g.known) (is ∙ sym (append-nil (given ++ last))) ∙ f2.counted [] ∙ ap (after entries) (dr.counted [])));
            before = before_last g r given last is short (ap (λ (e : Entries). e.bad) (heard_dry g.known given entries reader f d));
          });
      writes = subst (λ t. AppendsAll t old new) (sym t) (by_after (Ok (Some bad)) (text_before g entries) second old mid new w p);
    }
answers_piece g r given last entries passed reader fed left (Err halt) old mid new is short l f d f2 dr w p more =
    let b = played_begins events_limit g.known (given ++ last) r.rest (entries ++ passed) left (follows_passed g.known (given ++ last) entries passed fed left f2 dr) l in
    let s = text_starts g (played_of events_limit g.known ((given ++ last) ++ r.rest)) (entries ++ passed) b in
    let first = text_before g entries in
    let second = said_of g (trace g.rules g.guest (state_after g (start []) (events_of entries)) (items_of (events_of passed))) in
    let both : text_before g (entries ++ passed) ≡ first ++ second = text_after g PastLimit entries passed in
    let all : text_of g (played_in_file g r) ≡ (first ++ second) ++ s.others =
    ap (λ b. text_of g (played_of events_limit g.known (b ++ r.rest))) is ∙ s.same ∙ ap (λ t. t ++ s.others) both in
    of_halt g r halt old new
    (halt_writes (Option LineError) g r given last halt first second s.others old mid new is short (heard_text g given entries (heard_dry g.known given entries reader f d)) all w p)
  where
    of_halt : (g : Setting) (r : OpenFile) (halt : Halt) (old new : Option (List ℕ)) → WritesOf (texts_of g r) (why (status_of (Err halt))) old new → PlaysFile g r (status_of (Err halt)) old new
    of_halt g r Write old new w = record {
      tells = tt;
      ended = λ e. cc;
      past = λ e. cc;
      stopped = λ bad e. cc;
      writes = w;
    }
    of_halt g r NoMemory old new w = record {
      tells = tt;
      ended = λ e. cc;
      past = λ e. cc;
      stopped = λ bad e. cc;
      writes = w;
    }

-- the file ended, and its last line and the facets were told, up to a halt or a bad line
pub answers_end : (g : Setting) (r : OpenFile) (given : List ℕ) (entries : List Entry) (reader : Reader) (result : Result (Option LineError) Halt) (old mid new : Option (List ℕ))
    → r.given ≡ given → r.rest ≡ [] → length given ≤ events_limit → HasFollowed g.known given entries reader → IsDry reader
    → AppendsAll (text_before g entries) old mid
    → IfOk result (λ bad. (entries_with reader []).bad ≡ bad)
    → AppendsBy result (said_of g (lines_from g (end_at AtEnd (entries_with reader []).bad) (state_after g (start []) (events_of entries)) (events_of (entries_with reader []).entries))) mid new
    → PlaysFile g r (status_of result) old new
answers_end g r given entries reader result old mid new is none l f d w ends p =
    let rest = entries_with reader [] in
    let bytes : file_in r ≡ given = ap (λ b. b ++ r.rest) is ∙ ap (λ b. given ++ b) none ∙ append-nil given in
    let sc : played_in_file g r ≡ up_to AtEnd (after entries rest) = ap (played_of events_limit g.known) bytes ∙ played_whole events_limit g.known given entries reader f l in
    let first = text_before g entries in
    let second = said_of g (lines_from g (end_at AtEnd rest.bad) (state_after g (start []) (events_of entries)) (events_of rest.entries)) in
    let all : text_of g (played_in_file g r) ≡ first ++ second = ap (text_of g) sc ∙ text_after g (end_at AtEnd rest.bad) entries rest.entries in
    by_result result first second all rest.bad (ap (λ (x : Played). x.end) sc)
    (ap (λ (e : Entries). e.bad) (ap (entries_of g.known) (is ∙ sym (append-nil given)) ∙ f.all [])) ends p
    (heard_text g given entries (heard_dry g.known given entries reader f d)) w
  where
    by_result : (result : Result (Option LineError) Halt) (first second : List ℕ) → text_of g (played_in_file g r) ≡ first ++ second → (bad : Option LineError) → (played_in_file g r).end ≡ end_at AtEnd bad
        → (entries_of g.known r.given).bad ≡ bad → IfOk result (λ b. bad ≡ b) → AppendsBy result second mid new → text_heard g given ≡ first → AppendsAll first old mid → PlaysFile g r (status_of result) old new
    by_result (Ok None) first second all bad end read ends p h w = record {
      tells = sym (ap status_at (end ∙ ap (end_at AtEnd) ends));
      ended = λ e. none;
      past = λ e. cc;
      stopped = λ bad e. cc;
      writes = subst (λ t. AppendsAll t old new) (sym all) (by_after (Ok first) first second old mid new w p);
    }
    by_result (Ok (Some b)) first second all bad end read ends p h w = record {
      tells = sym (ap status_at (end ∙ ap (end_at AtEnd) ends));
      ended = λ e. cc;
      past = λ e. cc;
      stopped = λ other e.
          let same : b ≡ other = cc in
          subst (λ (x : LineError). StopsAt g.known x r) same (record {
            met = inr (none, read ∙ ends);
            before = before_last g r given [] (is ∙ sym (append-nil given)) (omega arith) (ap (λ (e : Entries). e.bad) (heard_dry g.known given entries reader f d));
          });
      writes = subst (λ t. AppendsAll t old new) (sym all) (by_after (Ok first) first second old mid new w p);
    }
    by_result (Err Write) first second all bad end read ends p h w = record {
      tells = tt;
      ended = λ e. cc;
      past = λ e. cc;
      stopped = λ bad e. cc;
      writes = halt_writes (Option LineError) g r given [] Write first second [] old mid new (is ∙ sym (append-nil given)) (omega arith) h (all ∙ sym (append-nil (first ++ second))) w p;
    }
    by_result (Err NoMemory) first second all bad end read ends p h w = record {
      tells = tt;
      ended = λ e. cc;
      past = λ e. cc;
      stopped = λ bad e. cc;
      writes = halt_writes (Option LineError) g r given [] NoMemory first second [] old mid new (is ∙ sym (append-nil given)) (omega arith) h (all ∙ sym (append-nil (first ++ second))) w p;
    }

-- what was given since the open, where it is told
pub told : {P : OpenFile → Type 0} (old new : Option OpenFile) (given : List ℕ) → IfSome old (λ r. r.given ≡ []) → Gives old new given → ((r : OpenFile) → r.given ≡ given → P r) → IfSome new P
told None None given is g k = tt
told None (Some r) given is g k = absurd g
told (Some o) None given is g k = absurd g
told (Some o) (Some r) given is g k = k r (g.1 ∙ ap (λ b. b ++ given) is)

pub told_end : {P : OpenFile → Type 0} (old new : Option OpenFile) (given : List ℕ) → IfSome old (λ r. r.given ≡ []) → Gives old new given → IsAtEnd new
    → ((r : OpenFile) → r.given ≡ given → r.rest ≡ [] → P r) → IfSome new P
told_end None None given is g e k = tt
told_end None (Some r) given is g e k = absurd g
told_end (Some o) None given is g e k = absurd g
told_end (Some o) (Some r) given is g e k = k r (g.1 ∙ ap (λ b. b ++ given) is) e

-- a piece that was read into the first bytes of a buffer

pub room_long : (room : ℕ) (buf buffer : List ℕ) → length buf ≡ length (take room buffer) → length buffer ≡ 65536 → room ≤ 65536 → length buf ≡ room
room_long room buf buffer same long fits = omega (arith, same, length-take room buffer)

pub piece_long : (count : ℕ) (buf tail : List ℕ) → count ≤ length buf → length (take count (buf ++ tail)) ≡ count
piece_long count buf tail fits = ap length (take-append-le count buf tail fits) ∙ length-take-le count buf fits

pub piece_given : (a b c : Option OpenFile) (given : List ℕ) (count : ℕ) (buf tail : List ℕ) → Gives a b given → Gives b c (take count buf) → count ≤ length buf
    → Gives a c (given ++ take count (buf ++ tail))
piece_given a b c given count buf tail p q fits = subst (λ xs. Gives a c (given ++ xs)) (sym (take-append-le count buf tail fits)) (Gives-trans a b c given (take count buf) p q)
