use Rattle.std.proofs.Common.{◌∙◌}
use Rattle.trapeze_cli.proofs.Counting.{counts_all, counts_less}
use Rattle.trapeze_cli.proofs.exercise.say_counts.Goals as goal

pub returns-in-Ok : goal.returns-in-Ok
returns-in-Ok g c =
    counts_all c.args.counts.now c.as_bytes.result.now c.as_bytes-2.result.now c.as_bytes-3.result.now c.as_bytes-4.result.now c.as_bytes-5.result.now c.as_bytes-6.result.now _ _ _ _ (record {
      replies = c.as_bytes.ensures.value ∙ c.format-replies.ensures.text;
      turns = c.as_bytes-2.ensures.value ∙ c.format-turns.ensures.text;
      idle = c.as_bytes-3.ensures.value ∙ c.format-idle.ensures.text;
      dropped = c.as_bytes-4.ensures.value ∙ c.format-dropped.ensures.text;
      full = c.as_bytes-5.ensures.value ∙ c.format-full.ensures.text;
      facets = c.as_bytes-6.ensures.value ∙ c.format-facets.ensures.text;
    })
    c.in-Ok.ensures.all

pub returns-in-Err : goal.returns-in-Err
returns-in-Err g c =
    counts_less c.args.counts.now c.as_bytes.result.now c.as_bytes-2.result.now c.as_bytes-3.result.now c.as_bytes-4.result.now c.as_bytes-5.result.now c.as_bytes-6.result.now _ _ _ _ (record {
      replies = c.as_bytes.ensures.value ∙ c.format-replies.ensures.text;
      turns = c.as_bytes-2.ensures.value ∙ c.format-turns.ensures.text;
      idle = c.as_bytes-3.ensures.value ∙ c.format-idle.ensures.text;
      dropped = c.as_bytes-4.ensures.value ∙ c.format-dropped.ensures.text;
      full = c.as_bytes-5.ensures.value ∙ c.format-full.ensures.text;
      facets = c.as_bytes-6.ensures.value ∙ c.format-facets.ensures.text;
    })
    c.in-Err.ensures.part c.in-Err.ensures.cause.failed
