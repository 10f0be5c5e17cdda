use Rattle.std.proofs.Common.{◌∙◌, ◌++◌, ◌∷◌, [], ℕ, None, sym, ap, subst, arith}
use Rattle.facet_list.specs.Rows.{AreBelow}
use Rattle.facet_rows.specs.Rows.{rows_in}
use Rattle.host_rules.specs.Policies.{rules_of}
use Rattle.flow_check.specs.Kept.{Tells, kept_last}
use Rattle.flow_check.proofs.NextLines.{last_push, longer}
use Rattle.flow_check.proofs.checker.Checker.keep_line.Goals as goal

pub returns-clause-labels : goal.returns-clause-labels
returns-clause-labels c =
    let counted = c.requires.labels.counted in
    record {
      counted = c.note.ensures.counted ∙ counted;
      below = subst (λ (n : ℕ). AreBelow n (rows_in c.note.new.rows)) counted (c.note.ensures.below (subst (λ (n : ℕ). AreBelow n (rows_in c.args.self.now.rows)) (sym counted) c.requires.labels.below));
      last = c.in_ok-last.ensures.label;
    }

pub returns-clause-ok : goal.returns-clause-ok
returns-clause-ok c = λ lines few h.
    let counted = c.requires.labels.counted in
    let x = c.args.line.now in
    let size = longer lines x in
    let number = h.number in
    let sum = c.saturating_add-self.ensures in
    record {
      keeps = record {
        tells = subst (λ (n : ℕ). Tells n (lines ++ x ∷ []) (rows_in c.note.new.rows) c.note.new.turns.items) counted
            (c.in_ok-note.ensures.ok lines few (subst (λ (n : ℕ). Tells n lines (rows_in c.args.self.now.rows) c.args.self.now.turns.items) (sym counted) h.keeps.tells));
        last_is = c.in_ok-last.ensures.kept ∙ sym (ap (kept_last (rules_of c.args.policy.now)) (last_push None lines x));
      };
      number = omega (arith, size, number, sum);
    }
