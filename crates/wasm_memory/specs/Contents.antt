-- What contracts see of a memory, and how an access that may be refused changes it.
use Rattle.std.specs.Prelude.{ℕ, ◌≡◌, ◌≤◌, ◌*◌, ◌/◌, ◌||◌, Bool, nat_eq, min, List, length, Option, Some, None, Result, Ok, Err}
use Rattle.wasm_ast.specs.Memory.{memory_grow}
use Rattle.wasm_memory.specs.declared.errors.OutOfBounds.{OutOfBounds}

-- the bytes, and the most pages that there may ever be
pub record Contents : Type 0 where
  pub bytes : List ℕ
  pub maximum : ℕ

-- whole pages, no more than the most, of which there are at most 65,536
abbrev pub AreWholePages : List ℕ → ℕ → Type 0
AreWholePages bytes most = (length bytes ≡ length bytes / 65536 * 65536) × (length bytes ≤ most * 65536) × (most ≤ 65536)

-- other bytes, where the access was not refused
abbrev pub after : Contents → Option (List ℕ) → Contents
after m None = m
after m (Some bytes) = record { bytes = bytes; maximum = m.maximum }

-- the bytes with more pages, where there are then no more than the limit and the most
abbrev pub larger : Contents → ℕ → ℕ → Option (List ℕ)
larger m pages limit = memory_grow (min limit m.maximum) m.bytes pages

-- a refusal, where there is nothing
abbrev pub refused : {A E : Type 0} → E → Option A → Result (Unit {0}) E
refused e None = Err e
refused e (Some x) = Ok tt

-- the fault of a range that is not inside
abbrev pub out_of_bounds : OutOfBounds
out_of_bounds = record {}

-- the widths of an access, in bytes
abbrev pub is_width : ℕ → Bool
is_width n = nat_eq n 1 || (nat_eq n 2 || (nat_eq n 4 || nat_eq n 8))
