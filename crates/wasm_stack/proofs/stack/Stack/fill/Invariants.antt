use Rattle.std.proofs.Common.{◌≡◌, ◌≤◌, ◌+◌, ◌-◌, ◌++◌, vec_len}
use Rattle.std.specs.Prelude.{replicate, reverse, vec_capacity}
use Rattle.wasm_stack.proofs.stack.Stack.fill.Given as goal

abbrev pub invariant-copies : goal.invariant-copies
invariant-copies g l = record {
  items : reverse l.self-inside.items.items ≡ replicate l.counter l.item ++ l.fn.self;
  room : vec_len l.self-inside.items + (l.count - l.counter) ≤ vec_capacity l.self-inside.items;
}
