-- What is told of a sink.
use Rattle.std.specs.Prelude.{◌≡◌, ℕ, ◌<◌, ◌≤◌, ⊤, List, length, take, Result, MatchResult}
use Rattle.std.specs.declared.option.Option.{Option}
use Rattle.std.specs.Io.KnownBytes.{append_known}

-- a write that answers n appended the first n bytes of the piece, and a failed one none
abbrev pub AppendsFirst : {E : Type 0} → Option (List ℕ) → Option (List ℕ) → Result ℕ E → List ℕ → Type 0
AppendsFirst old new result piece = MatchResult result (λ n. new ≡ append_known old (take n piece)) (λ _. new ≡ old)

-- at most the piece is written, and some of it where it is not empty
abbrev pub WritesSome : {E : Type 0} → Result ℕ E → List ℕ → Type 0
WritesSome result piece = MatchResult result (λ n. (n ≤ length piece) × (0 < length piece → 0 < n)) (λ _. ⊤)
