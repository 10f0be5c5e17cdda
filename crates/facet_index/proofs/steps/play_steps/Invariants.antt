use Rattle.std.proofs.Common.{◌≡◌, take}
use Rattle.label_lattice.specs.Reach.{flows}
use Rattle.facet_index.specs.Steps.{rows_played, answers_of}
use Rattle.facet_index.proofs.steps.play_steps.Given as goal

-- the steps so far are made and answered
abbrev pub invariant-steps : goal.invariant-steps
invariant-steps g l = record {
  kept : g.F.Facets.limits l.facets ≡ g.F.Facets.limits l.initial.facets;
  made : g.F.Facets.rows l.facets ≡ rows_played (g.F.Facets.limits l.initial.facets) (g.F.Facets.rows l.initial.facets) (take l.step-index l.steps);
  said : l.items.items ≡ answers_of (flows l.lattice) (g.F.Facets.limits l.initial.facets) (g.F.Facets.rows l.initial.facets) (take l.step-index l.steps);
}
