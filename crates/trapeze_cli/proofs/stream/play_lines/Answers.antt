use Rattle.std.proofs.Common.{◌++◌, ◌∷◌, [], ap, ◌∙◌, arith, refl}
use Rattle.event_file.specs.Reader.{Reader}
use Rattle.trapeze_cli.proofs.Playing.{err_is, plays_none, plays_halt, plays_no_more, plays_all}
use Rattle.trapeze_cli.proofs.PassedLines.{passes_none, passes_entry, passes_dry, passes_waiting, passes_bad, plays_entry, stays_of}
use Rattle.trapeze_cli.proofs.PacedReading.{paced_entry, few_turns}
use Rattle.trapeze_cli.proofs.Shrinking.{shrinks_dry, shrinks_bad, paced_later}
use Rattle.trapeze_cli.proofs.stream.play_lines.Goals as goal

pub lines-init : goal.lines-init
lines-init g c = record {
  good = c.requires.good;
  entries = [];
  passes = passes_none c.args.reader.now;
  plays = plays_none _ _ tt _;
  can = c.requires.can;
  paced = c.requires.paced;
  modules = refl;
  later = omega arith;
}

pub play_entry-requires-clause-few : goal.play_entry-requires-clause-few
play_entry-requires-clause-few g c = few_turns _ _ _ c.lines.invariant.paced

pub play_entry-requires-clause-entry : goal.play_entry-requires-clause-entry
play_entry-requires-clause-entry g c =
    let answer = c.in-Entry.ensures in
    rw (ap (λ (r : Reader). r.known) answer.stays ∙ c.lines.invariant.paced.known) at answer.within

pub returns-in_err-play_entry-in-Entry-clause-plays : goal.returns-in_err-play_entry-in-Entry-clause-plays
returns-in_err-play_entry-in-Entry-clause-plays g c =
    let inv = c.lines.invariant in
    let answer = c.in-Entry.ensures in
    rw (err_is _ _ c.from_residual.ensures.1) (record {
      entries = inv.entries ++ c.in-Entry.entry ∷ [];
      drains = passes_entry _ _ _ _ _ inv.passes (stays_of _ _ _ answer.stays) (answer.entries inv.good) (answer.heard inv.good);
      plays = plays_halt _ _ _ _ _ _ _
          (plays_entry _ _ _ _ inv.entries c.in-Entry.entry _ _ _ _ _ inv.plays (rw inv.modules at c.in_err-play_entry-in-Entry.ensures.plays));
    })

pub lines-preserved : goal.lines-preserved
lines-preserved g c =
    let inv = c.lines.invariant in
    let answer = c.in-Entry.ensures in
    let one = c.in_ok-play_entry-in-Entry.ensures in
    let played = plays_entry _ _ _ _ inv.entries c.in-Entry.entry _ _ _ _ _ inv.plays (rw inv.modules at one.plays) in
    record {
      good = ap (λ (r : Reader). r.bad) answer.stays ∙ inv.good;
      entries = inv.entries ++ c.in-Entry.entry ∷ [];
      passes = passes_entry _ _ _ _ _ inv.passes (stays_of _ _ _ answer.stays) (answer.entries inv.good) (answer.heard inv.good);
      plays = plays_all _ _ _ _ tt _ _ _ played;
      can = one.goes_on;
      paced = paced_entry _ _ _ _ _ inv.paced (stays_of _ _ _ answer.stays) answer.leaves one.counted;
      modules = one.modules ∙ inv.modules;
      later = omega (arith, inv.later, one.counts.later);
    }

pub returns-in-Bad-clause-plays : goal.returns-in-Bad-clause-plays
returns-in-Bad-clause-plays g c =
    let inv = c.lines.invariant in
    let answer = c.in-Bad.ensures in
    record {
      entries = inv.entries;
      drains = passes_bad c.args.reader.now c.lines.reader c.next_line.new.self _ _ inv.passes (answer.entries inv.good) (answer.heard inv.good);
      plays = plays_all _ _ _ _ _ _ _ _ inv.plays;
    }

pub returns-in-NoLine-clause-plays : goal.returns-in-NoLine-clause-plays
returns-in-NoLine-clause-plays g c =
    let inv = c.lines.invariant in
    let answer = c.in-NoLine.ensures in
    record {
      entries = inv.entries;
      drains = passes_dry _ _ _ _ inv.passes inv.good answer.stays (answer.entries inv.good) (answer.heard inv.good) answer.leaves;
      plays = plays_all _ _ _ _ _ _ _ _ inv.plays;
    }

pub returns-in-NoMemory-clause-plays : goal.returns-in-NoMemory-clause-plays
returns-in-NoMemory-clause-plays g c =
    let inv = c.lines.invariant in
    let answer = c.in-NoMemory.ensures in
    record {
      entries = inv.entries;
      drains = passes_waiting _ _ _ _ inv.passes answer.stays (answer.entries inv.good) (answer.heard inv.good);
      plays = plays_no_more _ _ _ _ _ _ _ _ inv.plays;
    }

pub returns-in-Bad-clause-paced : goal.returns-in-Bad-clause-paced
returns-in-Bad-clause-paced g c =
    let inv = c.lines.invariant in
    let answer = c.in-Bad.ensures in
    paced_later _ c.lines.reader c.next_line.new.self _ inv.paced (stays_of _ _ _ answer.stays) (shrinks_bad c.lines.reader c.next_line.new.self c.in-Bad.bad (answer.answer inv.good))

pub returns-in-NoLine-clause-paced : goal.returns-in-NoLine-clause-paced
returns-in-NoLine-clause-paced g c =
    let inv = c.lines.invariant in
    let answer = c.in-NoLine.ensures in
    paced_later _ c.lines.reader c.next_line.new.self _ inv.paced (stays_of _ _ _ answer.stays) (shrinks_dry c.lines.reader c.next_line.new.self (answer.answer inv.good))
