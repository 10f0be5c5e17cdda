use Rattle.std.proofs.Common.{◌≡◌, length}
use Rattle.store_tests.proofs.play.come.Given as goal

-- the store has limits for four labels all along
abbrev pub invariant-steps : goal.invariant-steps
invariant-steps g l = length (g.F.Facets.limits l.store) ≡ 4
