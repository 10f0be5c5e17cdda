use Rattle.std.proofs.Common.{rules, tests, ap, ◌∙◌}
use Rattle.std.specs.List.{list_any}
use Rattle.std.proofs.lemmas.Iterator.Consumers.{YieldsList-from_rest}
use Rattle.std.proofs.lemmas.Iterator.Search.{any_from_yields_List}
use Rattle.gate_rules.specs.Gates.{has, leads}
use Rattle.gate_rules.proofs.Values.{any_value}
use Rattle.gate_rules.proofs.gates.Gates.has.Goals as goal

pub returns-clause-has : goal.returns-clause-has
returns-clause-has c =
    let test = leads c.args.source c.args.target c.args.function in
    any_from_yields_List test _ _ c.any.result c.any.ensures.ran (YieldsList-from_rest c.values.result cc) (λ x b q k. search (rules, tests))
    ∙ ap (list_any test) c.values.ensures.rest
    ∙ any_value test c.self.inside.gates.entries
    ∙ ap (has c.args.source c.args.target c.args.function) c.self.view_is
