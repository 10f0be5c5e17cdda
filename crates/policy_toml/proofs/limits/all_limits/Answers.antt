use Rattle.std.proofs.Common.{◌≡◌, [], ◌∷◌, ◌++◌, sym, ◌∙◌, ap, arith, rules}
use Rattle.std.proofs.lemmas.List.FromFn.{map-range_with_len_more}
use Rattle.label_lattice.specs.Order.{count}
use Rattle.policy_toml.specs.PolicyOf.{limits_written, limits_by_label}
use Rattle.policy_toml.proofs.ByLabel.{all_within, one_for_each}
use Rattle.policy_toml.proofs.limits.all_limits.Goals as goal

pub labels-preserved : goal.labels-preserved
labels-preserved c =
    let pushed : c.push.new.self.items ≡ c.labels.all.items ++ limits_written c.args.rows.now c.labels.label ∷ [] = search rules in
    pushed
    ∙ ap (λ all. all ++ limits_written c.args.rows.now c.labels.label ∷ []) c.labels.invariant
    ∙ sym (map-range_with_len_more (limits_written c.args.rows.now) 0 c.labels.label c.labels.label (omega arith))

pub returns-clause-limits : goal.returns-clause-limits
returns-clause-limits c =
    let all_counted : c.labels.label ≡ count c.args.lattice.now = (omega arith) ∙ c.count-label-end.ensures.count in
    c.labels.invariant ∙ ap (λ n. limits_by_label n c.args.rows.now) all_counted

pub returns-clause-in_range : goal.returns-clause-in_range
returns-clause-in_range c = all_within c.labels.label (count c.args.lattice.now) c.args.rows.now c.labels.all.items c.requires c.labels.invariant

pub returns-clause-count : goal.returns-clause-count
returns-clause-count c =
    let all_counted : c.labels.label ≡ count c.args.lattice.now = (omega arith) ∙ c.count-label-end.ensures.count in
    one_for_each c.labels.label c.args.rows.now c.labels.all.items c.labels.invariant ∙ all_counted
