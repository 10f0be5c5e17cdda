use Rattle.std.proofs.Common.{◌+◌, ap, sym, subst, ◌∙◌, arith}
use Rattle.trapeze_cli.specs.declared.counts.Counts.{Counts}
use Rattle.trapeze_cli.specs.Counts.{counted_with, AtMost}
use Rattle.trapeze_cli.proofs.Counting.{counts_next, at_most_more, at_most_up}
use Rattle.trapeze_cli.proofs.counts.Counts.count.Goals as goal

pub lines-preserved : goal.lines-preserved
lines-preserved c =
    let i = c.lines.line-index in
    let line = c.line-item.result in record {
      counts = λ before is.
          c.count_kind.ensures ∙ ap (λ n. counted_with n line.kind) (c.lines.invariant.counts before is)
          ∙ sym (counts_next before c.args.lines.now i line c.lines-test.true c.line-item.is);
      most = λ most least.
          subst (λ (n : Counts). AtMost (most + (i + 1)) n) (sym c.count_kind.ensures)
          (at_most_up (most + i + 1) (most + (i + 1)) (counted_with c.lines.self line.kind) (omega arith) (at_most_more (most + i) c.lines.self line.kind (c.lines.invariant.most most least)));
    }
