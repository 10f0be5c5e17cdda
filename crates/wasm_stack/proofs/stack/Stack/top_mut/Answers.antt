use borrow.Follows.Closed.{read_of}
use Rattle.std.specs.Prelude.{reverse}
use Rattle.std.specs.Option.{ghost_name_of}
use Rattle.wasm_stack.proofs.Lists.{reverse_set_last, top_value}
use Rattle.wasm_stack.proofs.stack.Stack.top_mut.Goals as goal

pub returns : goal.returns
returns g c =
    let items = c.self.inside.items in
    rw (← c.self.view_is) (
      λ t. read_of (ghost_name_of c.last_mut.result) (λ (w : g.row.T.Denot). reverse_set_last items.items items.len w items.ok.0 t) (reverse items.items),
      record { writes_back = tt; value = top_value items.items items.len c.last_mut.result items.ok.0 c.last_mut.ensures.variant c.last_mut.ensures.value },
    )
