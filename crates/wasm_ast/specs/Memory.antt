-- A memory alone: what each access makes of its bytes, or that the range is not inside (4.4.4; of Core 2.0, 4.4.7).
use Rattle.std.specs.Prelude.{ℕ, ◌+◌, Bool, nat_lt, nat_le, if◌then◌else◌, List, length, take, drop, Option, Some, None}
use Rattle.wasm_ast.specs.Bytes.{placed, loaded, stored, in_pages, grown, copied, filled}

-- n bytes from this address on do not all stand in the memory
abbrev pub is_past : List ℕ → ℕ → ℕ → Bool
is_past bytes at n = nat_lt (length bytes) (at + n)

-- the number that n bytes from this address on are
abbrev pub memory_load : List ℕ → ℕ → ℕ → Option ℕ
memory_load bytes at n = if is_past bytes at n then None else Some (loaded bytes at n)

-- the n low bytes of a number put in their place
abbrev pub memory_store : List ℕ → ℕ → ℕ → ℕ → Option (List ℕ)
memory_store bytes at n value = if is_past bytes at n then None else Some (stored bytes at n value)

-- n further pages of zeros, where there are then no more pages than the limit
abbrev pub memory_grow : ℕ → List ℕ → ℕ → Option (List ℕ)
memory_grow limit bytes n = if nat_le (n + in_pages bytes) limit then Some (grown bytes n) else None

-- n bytes put in their place as they stood before; both ranges are tested, also for n = 0
abbrev pub memory_copy : List ℕ → ℕ → ℕ → ℕ → Option (List ℕ)
memory_copy bytes to from n = if is_past bytes from n then None else if is_past bytes to n then None else Some (copied bytes to from n)

-- n bytes that are each the low byte of a number; the range is tested also for n = 0
abbrev pub memory_fill : List ℕ → ℕ → ℕ → ℕ → Option (List ℕ)
memory_fill bytes at value n = if is_past bytes at n then None else Some (filled bytes at value n)

-- n bytes from this address on
abbrev pub memory_read : List ℕ → ℕ → ℕ → Option (List ℕ)
memory_read bytes at n = if is_past bytes at n then None else Some (take n (drop at bytes))

-- other bytes put in their place from this address on
abbrev pub memory_write : List ℕ → ℕ → List ℕ → Option (List ℕ)
memory_write bytes at others = if is_past bytes at (length others) then None else Some (placed bytes at others)
