use Rattle.std.proofs.Common.{◌≡◌, ◌++◌, [], ◌∙◌, sym, subst, arith, Ok, Err, Some, refl, take, drop, length, length-append}
use Rattle.std.proofs.lemmas.List.{length-take-le}
use Rattle.trapeze_io.specs.Seen.{Gives}
use Rattle.trapeze_io.proofs.CallsInTurn.{Gives-nil, Gives-last, Gives-trans, OpensNone-same, OpensNone-trans}
use Rattle.host_rules.specs.States.{start}
use Rattle.trapeze_host.specs.Standing.{modules_lent, known_in}
use Rattle.trapeze_cli.specs.Played.{events_of}
use Rattle.trapeze_cli.specs.Runs.{setting_of}
use Rattle.trapeze_cli.proofs.Playing.{plays_none, state_after}
use Rattle.trapeze_cli.proofs.PassedLines.{plays_lines}
use Rattle.trapeze_cli.proofs.PacedReading.{paced_fed, paced_new, reader_new, numbered_clients, numbered_functions}
use Rattle.trapeze_cli.proofs.FollowedFile.{follows_new, dry_new, follows_fed, follows_passed}
use Rattle.trapeze_cli.proofs.Streaming.{told, told_end, answers_fault, answers_end, answers_past, answers_want, answers_piece, room_long, piece_long, piece_given}
use Rattle.trapeze_cli.proofs.stream.play_stream.Goals as goal

pub new-reader-requires-clause-clients : goal.new-reader-requires-clause-clients
new-reader-requires-clause-clients g c = numbered_clients c.args.scene.now.policy.now _ c.clients.ensures.policy c.clients.ensures.clients

pub new-reader-requires-clause-functions : goal.new-reader-requires-clause-functions
new-reader-requires-clause-functions g c = numbered_functions c.args.scene.now.policy.now _ c.functions.ensures.policy c.functions.ensures.functions

pub pieces-init : goal.pieces-init
pieces-init g c =
    let fresh = reader_new c.args.scene.now.policy.now _ _ _ c.new-reader.result c.lattice.ensures.lattice c.clients.ensures.clients c.functions.ensures.functions c.new-reader.ensures in
    record {
      given = [];
      entries = [];
      gives = Gives-nil _;
      follows = follows_new (known_in c.args.scene.now.policy.now) c.new-reader.result fresh;
      dry = dry_new (known_in c.args.scene.now.policy.now) c.new-reader.result fresh;
      within = omega arith;
      plays = plays_none _ _ tt _;
      can = c.requires.can;
      paced = paced_new _ _ _ fresh c.requires.unplayed;
      modules = refl;
      none = OpensNone-same _;
      later = omega arith;
    }

pub returns-in_default-clause-answers : goal.returns-in_default-clause-answers
returns-in_default-clause-answers g c =
    let inv = c.pieces.invariant in
    let setting = setting_of c.args.scene.now.policy.now (modules_lent c.args.host.now) c.args.scene.now.shown in
    told (g.F.Files.seen c.args.files.now).current (g.F.Files.seen c.read.new.self).current inv.given c.requires.begun
    (subst (λ r. Gives (g.F.Files.seen c.args.files.now).current r inv.given) (sym c.in_default.ensures.bytes) inv.gives)
    (λ r same. answers_fault setting r inv.given inv.entries c.pieces.reader _ _ same inv.within inv.follows inv.dry (inv.plays.lines (start []) c.requires.stands))

pub returns-then-count-eq0-clause-answers : goal.returns-then-count-eq0-clause-answers
returns-then-count-eq0-clause-answers g c =
    let inv = c.pieces.invariant in
    let setting = setting_of c.args.scene.now.policy.now (modules_lent c.args.host.now) c.args.scene.now.shown in
    let state = state_after setting (start []) (events_of inv.entries) in
    let none : c.in-Ok.count ≡ 0 = c.if-count-eq0.true in
    let full = room_long c.room.result c.read.new.buf c.pieces.buffer c.read.auto.buf c.room.array_long c.room.ensures.piece in
    let end = c.in-Ok.ensures.bytes.1 none (omega (arith, full, c.room.ensures.some)) in
    let lines = rw inv.modules at c.play_end.ensures.lines in
    told_end (g.F.Files.seen c.args.files.now).current (g.F.Files.seen c.read.new.self).current inv.given c.requires.begun
    (Gives-last _ (g.F.Files.seen c.pieces.files).current _ inv.given _ c.in-Ok.count none inv.gives c.in-Ok.ensures.bytes.0)
    end
    (λ r same rest. rw c.ending.ensures
    (answers_end setting r inv.given inv.entries c.pieces.reader c.play_end.result _ (g.S.Sink.written c.pieces.out) _ same rest inv.within inv.follows inv.dry
    (inv.plays.lines (start []) c.requires.stands) c.play_end.ensures.bad (lines state (inv.plays.state (start []) c.requires.stands))))

pub returns-then-fed-ge-EVENTS_LIMIT-clause-answers : goal.returns-then-fed-ge-EVENTS_LIMIT-clause-answers
returns-then-fed-ge-EVENTS_LIMIT-clause-answers g c =
    let inv = c.pieces.invariant in
    let setting = setting_of c.args.scene.now.policy.now (modules_lent c.args.host.now) c.args.scene.now.shown in
    let over = take c.in-Ok.count c.read.new.buf in
    let full = room_long c.room.result c.read.new.buf c.pieces.buffer c.read.auto.buf c.room.array_long c.room.ensures.piece in
    let long : length over ≡ c.in-Ok.count = length-take-le c.in-Ok.count c.read.new.buf c.in-Ok.ensures.bound.0 in
    told (g.F.Files.seen c.args.files.now).current (g.F.Files.seen c.read.new.self).current (inv.given ++ over) c.requires.begun
    (Gives-trans _ (g.F.Files.seen c.pieces.files).current _ inv.given over inv.gives c.in-Ok.ensures.bytes.0)
    (λ r same. answers_past setting r inv.given over inv.entries c.pieces.reader _ _ same (omega (arith, inv.within, inv.follows.fed)) (omega (arith, long, full, c.in-Ok.ensures.bound.0, c.room.ensures.past)) inv.follows inv.dry
    (inv.plays.lines (start []) c.requires.stands))

pub returns-in_default-feed-clause-answers : goal.returns-in_default-feed-clause-answers
returns-in_default-feed-clause-answers g c =
    let inv = c.pieces.invariant in
    let setting = setting_of c.args.scene.now.policy.now (modules_lent c.args.host.now) c.args.scene.now.shown in
    let last = take c.in-Ok.count c.read.new.buf in
    told (g.F.Files.seen c.args.files.now).current (g.F.Files.seen c.read.new.self).current (inv.given ++ last) c.requires.begun
    (Gives-trans _ (g.F.Files.seen c.pieces.files).current _ inv.given last inv.gives c.in-Ok.ensures.bytes.0)
    (λ r same. answers_want setting r inv.given last inv.entries c.pieces.reader _ _ same inv.within inv.follows (inv.plays.lines (start []) c.requires.stands))

pub play_lines-requires-clause-paced : goal.play_lines-requires-clause-paced
play_lines-requires-clause-paced g c =
    let inv = c.pieces.invariant in
    let read = c.in-Ok.ensures in
    let tail = drop c.room.result c.pieces.buffer in
    let last = take c.in-Ok.count (c.read.new.buf ++ tail) in
    let full = room_long c.room.result c.read.new.buf c.pieces.buffer c.read.auto.buf c.room.array_long c.room.ensures.piece in
    let long = piece_long c.in-Ok.count c.read.new.buf tail read.bound.0 in
    paced_fed c.args.scene.now.policy.now c.pieces.reader c.feed.new.self _ last inv.paced c.in-Ok-feed.ensures.ok
    (omega (arith, long, full, read.bound.0, c.room.ensures.within, c.fed-fed.ensures.fed))

pub pieces-preserved : goal.pieces-preserved
pieces-preserved g c =
    let inv = c.pieces.invariant in
    let read = c.in-Ok.ensures in
    let tail = drop c.room.result c.pieces.buffer in
    let last = take c.in-Ok.count (c.read.new.buf ++ tail) in
    let full = room_long c.room.result c.read.new.buf c.pieces.buffer c.read.auto.buf c.room.array_long c.room.ensures.piece in
    let long = piece_long c.in-Ok.count c.read.new.buf tail read.bound.0 in
    let now = inv.given ++ last in
    let fed = follows_fed (known_in c.args.scene.now.policy.now) inv.given inv.entries c.pieces.reader c.feed.new.self last inv.follows c.in-Ok-feed.ensures.ok c.in-Ok-feed.ensures.entries c.in-Ok-feed.ensures.heard in
    let lines = rw inv.modules at (rw c.in-Ok-None.field-0-is at c.in-Ok-None.ensures.plays) in
    record {
      given = now;
      entries = inv.entries ++ lines.entries;
      gives = piece_given _ (g.F.Files.seen c.pieces.files).current _ inv.given c.in-Ok.count c.read.new.buf tail inv.gives read.bytes.0 read.bound.0;
      follows = follows_passed (known_in c.args.scene.now.policy.now) now inv.entries lines.entries c.feed.new.self c.play_lines.new.reader fed lines.drains.0;
      dry = lines.drains.1;
      within = omega (arith, long, full, inv.follows.fed, length-append inv.given last, read.bound.0, c.room.ensures.within, c.fed-fed.ensures.fed);
      plays = plays_lines _ _ _ _ inv.entries lines.entries tt _ _ _ _ inv.plays lines.plays;
      can = c.in-Ok-None.ensures.goes_on;
      paced = c.in-Ok-None.ensures.paced;
      modules = c.in-Ok-None.ensures.modules ∙ inv.modules;
      none = OpensNone-trans _ _ _ inv.none read.none;
      later = omega (arith, inv.later, c.in-Ok-None.ensures.counts.later);
    }

pub returns-in-Ok-Some-clause-answers : goal.returns-in-Ok-Some-clause-answers
returns-in-Ok-Some-clause-answers g c =
    let inv = c.pieces.invariant in
    let setting = setting_of c.args.scene.now.policy.now (modules_lent c.args.host.now) c.args.scene.now.shown in
    let state = state_after setting (start []) (events_of inv.entries) in
    let read = c.in-Ok.ensures in
    let tail = drop c.room.result c.pieces.buffer in
    let last = take c.in-Ok.count (c.read.new.buf ++ tail) in
    let full = room_long c.room.result c.read.new.buf c.pieces.buffer c.read.auto.buf c.room.array_long c.room.ensures.piece in
    let long = piece_long c.in-Ok.count c.read.new.buf tail read.bound.0 in
    let fed = follows_fed (known_in c.args.scene.now.policy.now) inv.given inv.entries c.pieces.reader c.feed.new.self last inv.follows c.in-Ok-feed.ensures.ok c.in-Ok-feed.ensures.entries c.in-Ok-feed.ensures.heard in
    let lines = rw inv.modules at (rw c.in-Ok-Some.field-0-is at c.in-Ok-Some.ensures.plays) in
    told (g.F.Files.seen c.args.files.now).current (g.F.Files.seen c.read.new.self).current (inv.given ++ last) c.requires.begun
    (piece_given _ (g.F.Files.seen c.pieces.files).current _ inv.given c.in-Ok.count c.read.new.buf tail inv.gives read.bytes.0 read.bound.0)
    (λ r same. rw c.ending-in-Ok-Some.ensures
    (answers_piece setting r inv.given last inv.entries lines.entries c.pieces.reader c.feed.new.self c.play_lines.new.reader (Ok (Some c.in-Ok-Some.bad)) _ (g.S.Sink.written c.pieces.out) _ same
    (omega (arith, long, full, c.room.ensures.piece, read.bound.0)) (omega (arith, long, full, inv.follows.fed, length-append inv.given last, read.bound.0, c.room.ensures.within, c.fed-fed.ensures.fed))
    inv.follows inv.dry fed lines.drains (inv.plays.lines (start []) c.requires.stands) (lines.plays.lines state (inv.plays.state (start []) c.requires.stands)) (λ e. cc)))

pub returns-in-Err-clause-answers : goal.returns-in-Err-clause-answers
returns-in-Err-clause-answers g c =
    let inv = c.pieces.invariant in
    let setting = setting_of c.args.scene.now.policy.now (modules_lent c.args.host.now) c.args.scene.now.shown in
    let state = state_after setting (start []) (events_of inv.entries) in
    let read = c.in-Ok.ensures in
    let tail = drop c.room.result c.pieces.buffer in
    let last = take c.in-Ok.count (c.read.new.buf ++ tail) in
    let full = room_long c.room.result c.read.new.buf c.pieces.buffer c.read.auto.buf c.room.array_long c.room.ensures.piece in
    let long = piece_long c.in-Ok.count c.read.new.buf tail read.bound.0 in
    let fed = follows_fed (known_in c.args.scene.now.policy.now) inv.given inv.entries c.pieces.reader c.feed.new.self last inv.follows c.in-Ok-feed.ensures.ok c.in-Ok-feed.ensures.entries c.in-Ok-feed.ensures.heard in
    let lines = rw inv.modules at c.in-Err.ensures.plays in
    told (g.F.Files.seen c.args.files.now).current (g.F.Files.seen c.read.new.self).current (inv.given ++ last) c.requires.begun
    (piece_given _ (g.F.Files.seen c.pieces.files).current _ inv.given c.in-Ok.count c.read.new.buf tail inv.gives read.bytes.0 read.bound.0)
    (λ r same. rw c.ending-in-Err.ensures
    (answers_piece setting r inv.given last inv.entries lines.entries c.pieces.reader c.feed.new.self c.play_lines.new.reader (Err c.in-Err.halt) _ (g.S.Sink.written c.pieces.out) _ same
    (omega (arith, long, full, c.room.ensures.piece, read.bound.0)) (omega (arith, long, full, inv.follows.fed, length-append inv.given last, read.bound.0, c.room.ensures.within, c.fed-fed.ensures.fed))
    inv.follows inv.dry fed lines.drains (inv.plays.lines (start []) c.requires.stands) (lines.plays.lines state (inv.plays.state (start []) c.requires.stands)) (λ e. cc)))

pub returns-in_default-clause-given : goal.returns-in_default-clause-given
returns-in_default-clause-given g c =
    (c.pieces.invariant.given, subst (λ r. Gives (g.F.Files.seen c.args.files.now).current r c.pieces.invariant.given) (sym c.in_default.ensures.bytes) c.pieces.invariant.gives)

pub returns-then-count-eq0-clause-given : goal.returns-then-count-eq0-clause-given
returns-then-count-eq0-clause-given g c = (_, Gives-trans _ (g.F.Files.seen c.pieces.files).current _ _ _ c.pieces.invariant.gives c.in-Ok.ensures.bytes.0)

pub returns-then-fed-ge-EVENTS_LIMIT-clause-given : goal.returns-then-fed-ge-EVENTS_LIMIT-clause-given
returns-then-fed-ge-EVENTS_LIMIT-clause-given g c = (_, Gives-trans _ (g.F.Files.seen c.pieces.files).current _ _ _ c.pieces.invariant.gives c.in-Ok.ensures.bytes.0)

pub returns-in_default-feed-clause-given : goal.returns-in_default-feed-clause-given
returns-in_default-feed-clause-given g c = (_, Gives-trans _ (g.F.Files.seen c.pieces.files).current _ _ _ c.pieces.invariant.gives c.in-Ok.ensures.bytes.0)

pub returns-in-Ok-Some-clause-given : goal.returns-in-Ok-Some-clause-given
returns-in-Ok-Some-clause-given g c = (_, Gives-trans _ (g.F.Files.seen c.pieces.files).current _ _ _ c.pieces.invariant.gives c.in-Ok.ensures.bytes.0)

pub returns-in-Err-clause-given : goal.returns-in-Err-clause-given
returns-in-Err-clause-given g c = (_, Gives-trans _ (g.F.Files.seen c.pieces.files).current _ _ _ c.pieces.invariant.gives c.in-Ok.ensures.bytes.0)

pub returns-in_default-clause-none : goal.returns-in_default-clause-none
returns-in_default-clause-none g c = OpensNone-trans _ (g.F.Files.seen c.pieces.files) _ c.pieces.invariant.none c.in_default.ensures.none

pub returns-then-count-eq0-clause-none : goal.returns-then-count-eq0-clause-none
returns-then-count-eq0-clause-none g c = OpensNone-trans _ (g.F.Files.seen c.pieces.files) _ c.pieces.invariant.none c.in-Ok.ensures.none

pub returns-then-fed-ge-EVENTS_LIMIT-clause-none : goal.returns-then-fed-ge-EVENTS_LIMIT-clause-none
returns-then-fed-ge-EVENTS_LIMIT-clause-none g c = OpensNone-trans _ (g.F.Files.seen c.pieces.files) _ c.pieces.invariant.none c.in-Ok.ensures.none

pub returns-in_default-feed-clause-none : goal.returns-in_default-feed-clause-none
returns-in_default-feed-clause-none g c = OpensNone-trans _ (g.F.Files.seen c.pieces.files) _ c.pieces.invariant.none c.in-Ok.ensures.none

pub returns-in-Ok-Some-clause-none : goal.returns-in-Ok-Some-clause-none
returns-in-Ok-Some-clause-none g c = OpensNone-trans _ (g.F.Files.seen c.pieces.files) _ c.pieces.invariant.none c.in-Ok.ensures.none

pub returns-in-Err-clause-none : goal.returns-in-Err-clause-none
returns-in-Err-clause-none g c = OpensNone-trans _ (g.F.Files.seen c.pieces.files) _ c.pieces.invariant.none c.in-Ok.ensures.none
