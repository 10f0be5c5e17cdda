use Rattle.std.proofs.Common.{◌∙◌, ap, sym, false}
use Rattle.std.specs.Cmp.{both_ways}
use Rattle.trapeze_io.specs.Names.{is_name}
use Rattle.label_lattice.specs.Order.{place_of}
use Rattle.label_lattice.proofs.Places.{found_place, no_name}
use Rattle.label_lattice.proofs.names.Names.find.Goals as goal

pub returns-in_err-name-clause-place : goal.returns-in_err-name-clause-place
returns-in_err-name-clause-place c = c.from_residual.ensures ∙ sym (no_name c.args.name.now c.self.inside.set.keys (both_ways (is_name c.args.name.now) false (λ h. absurd (c.in_err-name.ensures h)) (λ h. cc)) c.self.invariant.named) ∙ ap (place_of c.args.name.now) c.self.view_is

pub returns-in_err-at-clause-place : goal.returns-in_err-at-clause-place
returns-in_err-at-clause-place c = c.from_residual-in_err-at.ensures ∙ c.in_err-at.ensures.index ∙ found_place c.in_ok-name.name c.self.inside.set.keys ∙ ap (λ n. place_of n c.self.inside.set.keys) c.in_ok-name.ensures.1 ∙ ap (place_of c.args.name.now) c.self.view_is

pub returns-clause-place : goal.returns-clause-place
returns-clause-place c = c.in_ok-at.ensures.index ∙ found_place c.in_ok-name.name c.self.inside.set.keys ∙ ap (λ n. place_of n c.self.inside.set.keys) c.in_ok-name.ensures.1 ∙ ap (place_of c.args.name.now) c.self.view_is
