use Rattle.std.proofs.Common.{ap, ◌∙◌, arith}
use Rattle.wasm_ast.specs.Spaces.{first_pages}
use Rattle.sandbox.specs.Threads.{thread_of, IsReady}
use Rattle.sandbox.proofs.sandboxes.Sandbox.fresh.Goals as goal

pub returns-clause-begins : goal.returns-clause-begins
unfolding thread_of IsReady
returns-clause-begins c =
    let pages = c.least_pages.ensures ∙ ap first_pages c.module.ensures.same in
    let b = c.in_ok-machine.ensures in
    (omega (arith, pages, c.if-least_pages-pages.false), b.0, b.1)
