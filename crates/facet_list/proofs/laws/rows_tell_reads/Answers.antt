use Rattle.facet_list.proofs.RowLaws.{read_rows_of}
use Rattle.facet_list.proofs.laws.rows_tell_reads.Goals as goal

pub returns : goal.returns
returns c = read_rows_of
