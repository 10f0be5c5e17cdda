use Rattle.facet_list.proofs.LiveFacets.{fits_of}
use Rattle.facet_list.proofs.laws.rows_tell_fits.Goals as goal

pub returns : goal.returns
returns c = fits_of
