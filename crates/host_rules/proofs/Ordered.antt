-- The labels of a policy are ordered.
use Rattle.std.proofs.Common.{◌≡◌, ℕ, Bool, true, Option, Some, None, refl}
use Rattle.std.specs.Prelude.{find, unwrap_or}
use Rattle.label_lattice.specs.Order.{count}
use Rattle.label_lattice.specs.Reach.{flows}
use Rattle.label_lattice.specs.Joins.{is_join, labels, join}
use Rattle.label_lattice.proofs.FoundJoins.{join_found}
use Rattle.host_rules.specs.Policies.{AreOrdered}

-- a label flows to its join with another, and to itself where there is none
flows_to_join : (n : ℕ) (f : ℕ → ℕ → Bool) → ((a : ℕ) → f a a ≡ true) → (a b : ℕ) → f a (join n f a b) ≡ true
flows_to_join n f reflexive a b = found (find (is_join n f a b) (labels n)) refl
  where
    found : (o : Option ℕ) → o ≡ find (is_join n f a b) (labels n) → f a (unwrap_or o a) ≡ true
    found None e = reflexive a
    found (Some j) e = (join_found n f a b j e).1.left

pub are_ordered : AreOrdered
are_ordered parts sound = record {
  reflexive = sound.lattice.reflexive;
  transitive = sound.lattice.transitive;
  upper = flows_to_join (count parts.lattice) (flows parts.lattice) sound.lattice.reflexive;
}
