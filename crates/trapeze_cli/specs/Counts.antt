-- How many lines of each kind there are.
use Rattle.std.specs.Prelude.{ℕ, ◌+◌, ◌≤◌, List, [], ◌∷◌, ◌++◌, codes, decimal}
use Rattle.std.specs.List.{flat_map}
use Rattle.trapeze_lines.specs.declared.line.Line.{Line}
use Rattle.trapeze_lines.specs.declared.line.Kind.{Kind}
use Rattle.trapeze_lines.specs.declared.line.Kind.TheVariants.{Reply, Turn, Idle, Dropped, Full, Facet, Write, Read, Send, Answer, Start}
use Rattle.trapeze_cli.specs.declared.counts.Counts.{Counts}
use Rattle.trapeze_cli.specs.Exercise.{count_of}

-- how many of the lines are of each kind that a run prints
unfoldable pub counts_of : List Line → Counts
counts_of lines = record {
  replies = count_of (codes "reply") lines;
  turns = count_of (codes "turn") lines;
  idle = count_of (codes "idle") lines;
  dropped = count_of (codes "drop") lines;
  full = count_of (codes "full") lines;
  facets = count_of (codes "facet") lines;
}

-- a line more of a kind, which counts if a run prints it
abbrev pub counted_with : Counts → Kind → Counts
counted_with c (Reply client id bytes) = record c { replies = c.replies + 1 }
counted_with c (Turn number function id outcome) = record c { turns = c.turns + 1 }
counted_with c (Idle number) = record c { idle = c.idle + 1 }
counted_with c (Dropped function id) = record c { dropped = c.dropped + 1 }
counted_with c (Full key) = record c { full = c.full + 1 }
counted_with c (Facet key value) = record c { facets = c.facets + 1 }
counted_with c (Write key value) = c
counted_with c (Read key value) = c
counted_with c (Send channel bytes) = c
counted_with c (Answer client id bytes) = c
counted_with c (Start from function id) = c

-- each count is at most so much
pub record AtMost (most : ℕ) (c : Counts) : Type 0 where
  pub replies : c.replies ≤ most
  pub turns : c.turns ≤ most
  pub idle : c.idle ≤ most
  pub dropped : c.dropped ≤ most
  pub full : c.full ≤ most
  pub facets : c.facets ≤ most

-- each kind that a run prints by its word, and its count
abbrev pub by_word : Counts → List (List ℕ × ℕ)
by_word c =
    (codes "reply", c.replies) ∷ (codes "turn", c.turns) ∷ (codes "idle", c.idle)
    ∷ (codes "drop", c.dropped) ∷ (codes "full", c.full) ∷ (codes "facet", c.facets) ∷ []

-- the seven lines that say the counts
abbrev pub counts_text : Counts → List ℕ
counts_text c = codes "events 20000\n" ++ flat_map (λ p. p.0 ++ codes " " ++ decimal p.1 ++ codes "\n") (by_word c)
