use Rattle.std.proofs.Common.{length, refl, sym, ap, ◌∙◌, subst}
use Rattle.std.specs.Prelude.{List, ℕ, Option}
use Rattle.std.specs.Option.{option_copied}
use Rattle.facet_list.specs.Store.{written}
use Rattle.facet_list.specs.Rows.{AreBelow, rows_after}
use Rattle.facet_rows.specs.Rows.{rows_in}
use Rattle.flow_check.specs.Sound.{told_write, is_turn}
use Rattle.flow_check.proofs.TellsMore.{tells_write, tells_turn, below_after}
use Rattle.flow_check.proofs.note.note.Goals as goal

pub returns-in_ok-write-in-Write-clause-below : goal.returns-in_ok-write-in-Write-clause-below
returns-in_ok-write-in-Write-clause-below c = λ h.
    subst (AreBelow (length c.args.turns.now.items)) (sym (c.in_ok-write-in-Write.ensures.ok))
    (below_after (length c.args.turns.now.items) (rows_in c.args.rows.now) (written c.args.line.now.label.number c.as_slice.result.now (option_copied c.value_of.result)) h c.requires.at)

pub returns-in_ok-write-in-Write-clause-ok : goal.returns-in_ok-write-in-Write-clause-ok
returns-in_ok-write-in-Write-clause-ok c = λ lines few h.
    tells_write (length c.args.turns.now.items) lines c.args.line.now (rows_in c.args.rows.now) (rows_in c.write.new.self) c.args.turns.now.items
    c.in-Write.key c.in-Write.value h c.in-Write.is
    (c.in_ok-write-in-Write.ensures.ok ∙ ap (λ (k : List ℕ). rows_after (rows_in c.args.rows.now) (written c.args.line.now.label.number k (option_copied c.value_of.result))) c.as_slice.ensures
    ∙ ap (λ (v : Option (List ℕ)). rows_after (rows_in c.args.rows.now) (written c.args.line.now.label.number c.in-Write.key v)) c.value_of.ensures)

pub returns-in-Turn-clause-ok : goal.returns-in-Turn-clause-ok
returns-in-Turn-clause-ok c = λ lines few h.
    tells_turn (length c.args.turns.now.items) lines c.args.line.now (rows_in c.args.rows.now) (rows_in c.args.rows.now) c.args.turns.now.items
    c.count_turn.new.turns.items h refl c.requires.at few (ap (told_write c.args.line.now.label.number) c.in-Turn.is) (ap is_turn c.in-Turn.is) c.count_turn.ensures

pub returns-in-Idle-clause-ok : goal.returns-in-Idle-clause-ok
returns-in-Idle-clause-ok c = λ lines few h.
    tells_turn (length c.args.turns.now.items) lines c.args.line.now (rows_in c.args.rows.now) (rows_in c.args.rows.now) c.args.turns.now.items
    c.count_turn-in-Idle.new.turns.items h refl c.requires.at few (ap (told_write c.args.line.now.label.number) c.in-Idle.is) (ap is_turn c.in-Idle.is) c.count_turn-in-Idle.ensures
