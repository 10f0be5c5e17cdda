use Rattle.std.proofs.Common.{rules, tests, sym, ap, ◌∙◌}
use Rattle.std.specs.Prelude.{ok_or, option_map}
use Rattle.std.specs.Str.{bytes_eq}
use Rattle.std.proofs.lemmas.Iterator.{YieldsList-from_slice}
use Rattle.std.proofs.lemmas.Iterator.Search.{find_from_yields_List}
use Rattle.trapeze_lines.specs.Texts.{outcome_text}
use Rattle.trapeze_lines.specs.Reading.{SaysNothing, plain_outcome_of, outcomes}
use Rattle.trapeze_lines.proofs.Spellings.{silent}
use Rattle.trapeze_lines.proofs.words.read_plain_outcome.Goals as goal

pub returns-in-None : goal.returns-in-None
unfolding plain_outcome_of
returns-in-None c =
    let e = find_from_yields_List (λ end. bytes_eq (outcome_text end) c.args.word.now) _ _ c.find.result c.find.ensures.ran (YieldsList-from_slice outcomes cc) (λ x b q k. search (rules, tests)) in
    silent (plain_outcome_of c.args.word.now) (ap (λ o. ok_or o SaysNothing) (sym e ∙ ap (option_map (λ x. x.now)) c.in-None.is))
