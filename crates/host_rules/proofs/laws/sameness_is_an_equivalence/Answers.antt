use Rattle.host_rules.proofs.SameToObserver.{same_refl, same_sym, same_trans}
use Rattle.host_rules.proofs.laws.sameness_is_an_equivalence.Goals as goal

pub returns : goal.returns
returns c = λ P o. record { reflexive = same_refl P o; symmetric = same_sym P o; transitive = same_trans P o }
