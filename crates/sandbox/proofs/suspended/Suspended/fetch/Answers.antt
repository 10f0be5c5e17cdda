use Rattle.std.proofs.Common.{length, ap, ◌∙◌}
use Rattle.std.specs.Prelude.{unwrap_or}
use Rattle.wasm_ast.specs.Memory.{memory_read}
use Rattle.wasm_memory.specs.Contents.{refused, out_of_bounds}
use Rattle.sandbox.specs.Threads.{memory_of}
use Rattle.sandbox.proofs.suspended.Suspended.fetch.Goals as goal

pub returns-clause-answer : goal.returns-clause-answer
unfolding memory_of
returns-clause-answer c =
    c.copy_out.ensures.answer ∙ ap (λ x. refused out_of_bounds (memory_read x.bytes c.args.at (length c.args.into.now))) c.memory.ensures.is

pub returns-clause-bytes : goal.returns-clause-bytes
unfolding memory_of
returns-clause-bytes c =
    c.copy_out.ensures.bytes ∙ ap (λ x. unwrap_or (memory_read x.bytes c.args.at (length c.args.into.now)) c.args.into.now) c.memory.ensures.is
