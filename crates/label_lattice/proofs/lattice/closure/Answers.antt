use Rattle.std.proofs.Common.{ℕ, ◌<◌, List, length, take, get_or, sym, subst, arith}
use Rattle.std.proofs.lemmas.List.{get_or_default, take_more}
use Rattle.label_lattice.specs.Rows.{ArePairs, IsClosure}
use Rattle.label_lattice.proofs.NamePairs.{IsClosure-more}
use Rattle.label_lattice.proofs.lattice.closure.Goals as goal

-- the ends of the pair at a place
ends_below : (n : ℕ) (pairs : List (ℕ × ℕ)) (j : ℕ) → ArePairs n pairs → j < length pairs → ((get_or pairs j (0, 0)).0 < n) × ((get_or pairs j (0, 0)).1 < n)
ends_below n pairs j within lt = let p = get_or pairs j (0, 0) in within p (j, lt, get_or_default pairs j p (0, 0) lt)

pub add-requires-clause-from : goal.add-requires-clause-from
add-requires-clause-from c = let below = ends_below c.args.count c.args.pairs.now c.pairs.from-index c.requires.within c.pairs-test.true in let few = c.requires.few in omega arith

pub add-requires-clause-to : goal.add-requires-clause-to
add-requires-clause-to c = let below = ends_below c.args.count c.args.pairs.now c.pairs.from-index c.requires.within c.pairs-test.true in let few = c.requires.few in omega arith

pub pairs-preserved : goal.pairs-preserved
pairs-preserved c =
    let pairs = c.args.pairs.now in let j = c.pairs.from-index in
    subst (λ (ps : List (ℕ × ℕ)). IsClosure c.args.count ps c.add.new.self) (sym (take_more pairs j (0, 0) c.pairs-test.true))
    (IsClosure-more c.args.count (take j pairs) (get_or pairs j (0, 0)) c.pairs.table c.add.new.self c.pairs.invariant
    (ends_below c.args.count pairs j c.requires.within c.pairs-test.true).1 c.add.ensures)
