use Rattle.std.proofs.Common.{sym, ◌∙◌, ap, arith}
use Rattle.std.specs.Prelude.{option_map, option_and_then}
use Rattle.toml.specs.View.{array_view}
use Rattle.policy_toml.specs.Labels.{two_texts}
use Rattle.policy_toml.proofs.Rows.{not_two}
use Rattle.policy_toml.proofs.labels.two_texts.Goals as goal

pub returns-then-len-ne2 : goal.returns-then-len-ne2
returns-then-len-ne2 c = sym (
    ap (option_and_then two_texts) (sym c.as_array.ensures ∙ ap (option_map (λ v. array_view v.now)) c.in_ok-ends.was)
    ∙ not_two c.in_ok-ends.ends.now.items (λ two. c.if-len-ne2.true (let ok = c.in_ok-ends.ends.now.ok in let len = c.len.ensures in omega arith)))
