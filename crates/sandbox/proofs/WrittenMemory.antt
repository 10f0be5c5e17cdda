-- A memory with other bytes.
use Rattle.std.proofs.Common.{◌≡◌, List, ℕ, refl}
use Rattle.std.specs.Prelude.{Option, Some, None, unwrap_or}
use Rattle.wasm_memory.specs.Contents.{Contents, after}

pub bytes_after : (c : Contents) (o : Option (List ℕ)) → (after c o).bytes ≡ unwrap_or o c.bytes
bytes_after c None = refl
bytes_after c (Some bytes) = refl
