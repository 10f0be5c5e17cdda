-- A guest: what the rules see of the functions' modules and their threads.
use Rattle.std.specs.Prelude.{ℕ, List, Option}
use Rattle.wasm_ast.specs.declared.hosts.HostName.{HostName}
use Rattle.trapeze_lines.specs.declared.outcome.Cause.{Cause}

-- a host call, and its operands in order, each read as unsigned
pub record Asked : Type 0 where
  pub name : HostName
  pub args : List ℕ

-- what one unit of a thread comes to: a thread that goes on, a host call with the thread that waits for its answer, the end, or a trap
pub data OneUnit (T : Type 0) : Type 0 where
  Goes : T → OneUnit T
  Calls : Asked → T → OneUnit T
  Done : OneUnit T
  Traps : Cause → OneUnit T

pub record Guest (T : Type 0) : Type 0 where
  -- the starting thread of a function
  pub begin : ℕ → T
  -- the pages that the memory of a function's module has at least
  pub minimum : ℕ → ℕ
  -- one unit of a thread of a function, where its memory may have so many pages
  pub unit : ℕ → ℕ → T → OneUnit T
  -- the memory of a thread
  pub memory : T → List ℕ
  -- the thread that waits, with this memory and this answer, if the call has one
  pub answer : T → List ℕ → Option ℕ → T
