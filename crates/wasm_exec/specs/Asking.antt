-- Host calls and their answers.
use Rattle.std.specs.Prelude.{ℕ, ◌+◌, ◌^◌, ◌<◌, ◌≡◌, nat_lt, Bool, List, length, slice_set, Option, Some, None}
use Rattle.wasm_ast.specs.declared.hosts.HostName.{HostName}
use Rattle.wasm_ast.specs.Hosts.{host_results}
use Rattle.wasm_data.specs.Marked.{raised}
use Rattle.wasm_frames.specs.declared.active.Place.{Place}

-- whether a host call has a result
abbrev pub has_answer : HostName → Bool
has_answer h = nat_lt 0 (length (host_results h))

-- a frame with one operand more
abbrev pub one_more : Place → Place
one_more p = record { marks = raised p.marks (p.marks.sp + 1); left = p.left; low = p.low; function = p.function; gives = p.gives }

-- an answer, where there is one and a place for it, becomes the topmost operand
abbrev pub PutsAnswer : Option ℕ → Place → List ℕ → Place → List ℕ → Type 0
PutsAnswer None p values p' values' = (p' ≡ p) × (values' ≡ values)
PutsAnswer (Some v) p values p' values' =
    (v < 2 ^ 32) × (p.marks.sp < length values → (p' ≡ one_more p) × (values' ≡ slice_set values p.marks.sp v))
