-- The ranges of a memory that a host call names.
use Rattle.std.specs.Prelude.{ℕ, nat_le, List, Result, Err, ok_or, if◌then◌else◌}
use Rattle.trapeze_lines.specs.declared.outcome.Cause.{Cause}
use Rattle.trapeze_lines.specs.declared.outcome.Cause.TheVariants.{Memory, Size}
use Rattle.trapeze_io.specs.Sizes.{longest_name, longest_key, longest_value}
use Rattle.wasm_ast.specs.Memory.{memory_read}

-- a source: the bytes of a range; first its size limit is tested, then its bounds
abbrev pub source : ℕ → List ℕ → ℕ → ℕ → Result (List ℕ) Cause
source limit memory at len = if nat_le len limit then ok_or (memory_read memory at len) Memory else Err Size

-- a key is no longer than a key may be
abbrev pub key_at : List ℕ → ℕ → ℕ → Result (List ℕ) Cause
key_at memory at len = source longest_key memory at len

-- a name has no more bytes than a name may have
abbrev pub name_at : List ℕ → ℕ → ℕ → Result (List ℕ) Cause
name_at memory at len = source longest_name memory at len

-- every other source is no longer than a value may be
abbrev pub bytes_at : List ℕ → ℕ → ℕ → Result (List ℕ) Cause
bytes_at memory at len = source longest_value memory at len
