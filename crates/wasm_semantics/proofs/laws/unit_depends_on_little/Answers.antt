use Rattle.std.proofs.Common.{ap, ◌∙◌}
use Rattle.wasm_semantics.specs.Units.{unit, units}
use Rattle.wasm_semantics.proofs.Pages.{unit_same, units_same}
use Rattle.wasm_semantics.proofs.laws.unit_depends_on_little.Goals as goal

pub returns-clause-unit : goal.returns-clause-unit
returns-clause-unit c = λ m p q s t e h. ap (unit m p) e ∙ unit_same m p q t h

pub returns-clause-units : goal.returns-clause-units
returns-clause-units c = λ m p q n s t e h. ap (λ u. units m p u n) e ∙ units_same m p q n t h
