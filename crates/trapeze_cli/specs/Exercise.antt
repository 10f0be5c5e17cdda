-- The exercise: what is written of a run of events that are made from a number.
use Rattle.std.specs.Prelude.{ℕ, List, [], ◌∷◌, ◌++◌, codes, decimal, filter, length}
use Rattle.std.specs.List.{flat_map}
use Rattle.std.specs.Str.{bytes_eq}
use Rattle.trapeze_lines.specs.declared.line.Line.{Line}
use Rattle.trapeze_lines.specs.Lines.{run_kinds}
use Rattle.trapeze_lines.specs.Texts.{kind_word}
use Rattle.host_rules.specs.Policies.{rules_of}
use Rattle.host_rules.specs.Modules.{guest_of}
use Rattle.host_rules.specs.States.{start}
use Rattle.host_rules.specs.Play.{whole, items_of}
use Rattle.trapeze_exercise.specs.BuiltIn.{built_in, built_in_modules}
use Rattle.trapeze_exercise.specs.Generated.{all_generated}

-- the lines that a run of the exercise prints, from an empty store and with those of the facets in the end
unfoldable pub exercise_lines : ℕ → List Line
exercise_lines number = run_kinds (whole (rules_of built_in) (guest_of built_in_modules) (start []) (items_of (all_generated number)))

-- how many lines are of the kind with this word
abbrev pub count_of : List ℕ → List Line → ℕ
count_of word lines = length (filter (λ line. bytes_eq (kind_word line.kind) word) lines)

-- the word of a kind, and how many of the lines are of it
abbrev pub count_text : List Line → List ℕ → List ℕ
count_text lines word = word ++ codes " " ++ decimal (count_of word lines) ++ codes "\n"

-- the words of the kinds that a run prints
abbrev pub run_words : List (List ℕ)
run_words = codes "reply" ∷ codes "turn" ∷ codes "idle" ∷ codes "drop" ∷ codes "full" ∷ codes "facet" ∷ []

-- the seven lines that are written: how many events there were, and how many lines of each kind
unfoldable pub exercise_text : ℕ → List ℕ
exercise_text number = codes "events 20000\n" ++ flat_map (count_text (exercise_lines number)) run_words
