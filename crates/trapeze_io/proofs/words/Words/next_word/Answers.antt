use Rattle.std.proofs.Common.{sym, ap, ◌∙◌}
use Rattle.trapeze_io.specs.Words.{words_left}
use Rattle.trapeze_io.proofs.Splits.{missing, first_part_of, whole}
use Rattle.trapeze_io.proofs.words.Words.next_word.Goals as goal

pub returns-in-Some : goal.returns-in-Some
returns-in-Some c =
    sym c.self.view_is ∙ (ap words_left c.in_ok-text.was ∙ first_part_of _ c.in_ok-text.text.now c.in-Some.at (sym c.in-Some.ensures))

pub returns-in-None : goal.returns-in-None
returns-in-None c =
    sym c.self.view_is ∙ (ap words_left c.in_ok-text.was ∙ whole _ c.in_ok-text.text.now (missing _ c.in_ok-text.text.now (sym c.in-None.ensures)))
