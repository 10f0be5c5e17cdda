use Rattle.std.proofs.Common.{length, ap, ◌∙◌}
use Rattle.sandbox.specs.Threads.{memory_of}
use Rattle.sandbox.proofs.suspended.Suspended.memory_len.Goals as goal

pub returns : goal.returns
unfolding memory_of
returns c = ap length (c.bytes.ensures ∙ ap (λ x. x.bytes) c.memory.ensures.is)
