use Rattle.std.proofs.Common.{◌≡◌, ◌<◌, IfSome, Some, reverse, slice_get, take}
use Rattle.std.specs.Option.{option_map}
use Rattle.trapeze_io.specs.Places.{bytes_at, name_of}
use Rattle.trapeze_io.specs.Memory.{file_held}
use Rattle.trapeze_io.proofs.memory_files.latest.Given as goal

abbrev pub invariant-loop-place : goal.invariant-loop-place
invariant-loop-place l = record {
  held : IfSome l.found (λ place. (place < l.place) × (name_of (slice_get l.fn.held place) ≡ l.fn.name));
  bytes : option_map (λ place. bytes_at l.fn.held (Some place)) l.found ≡ file_held (reverse (take l.place l.fn.held)) l.fn.name;
}
