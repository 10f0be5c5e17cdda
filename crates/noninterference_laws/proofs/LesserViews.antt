-- What is seen of lines that were seen.
use Rattle.std.proofs.Common.{◌≡◌, Bool, true, ◌∙◌}
use Rattle.label_lattice.specs.Reach.{flows}
use Rattle.trapeze_lines.specs.declared.line.Line.{Line}
use Rattle.host_rules.proofs.FilteredLists.{kept_by_both, filter_twice, filters_commute}
use Rattle.std.proofs.lemmas.List.Elements.{filter-append}
use Rattle.trapeze_lines.specs.Lines.{is_of_run}
use Rattle.noninterference_laws.specs.Observers.{IsSeenAgain, SeesOfTheOther, GoesByPieces, IsPrintedOrSeenFirst}

pub seen_again : IsSeenAgain
seen_again f o lines = filter_twice (λ (line : Line). f line.label.number o) lines

pub by_pieces : GoesByPieces
by_pieces f o lines more = filter-append (λ (line : Line). f line.label.number o) lines more

pub printed_or_seen : IsPrintedOrSeenFirst
printed_or_seen f o lines = filters_commute (λ (line : Line). f line.label.number o) (λ (line : Line). is_of_run line.kind) lines

pub of_the_other : SeesOfTheOther
of_the_other order sound p o upward lines = record {
  of_the_other = kept_by_both sees_o sees_p onward lines;
  by_the_other = filters_commute sees_o sees_p lines ∙ kept_by_both sees_o sees_p onward lines;
}
  where
    sees_o : Line → Bool
    sees_o line = flows order line.label.number o

    sees_p : Line → Bool
    sees_p line = flows order line.label.number p

    onward : (line : Line) → sees_p line ≡ true → sees_o line ≡ true
    onward line h = sound.lattice.transitive line.label.number p o h upward
