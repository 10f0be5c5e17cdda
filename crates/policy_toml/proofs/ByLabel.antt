-- The limits of each label, which are within their ranges.
use Rattle.std.proofs.Common.{◌≡◌, ℕ, ◌==◌, Bool, true, false, cond, List, [], ◌∷◌, length, Option, Some, refl, sym, ◌∙◌, ap, subst}
use Rattle.std.proofs.lemmas.List.Elements.{All-head, All-tail, All-map}
use Rattle.std.proofs.lemmas.List.FromFn.{length-map-range_with_len}
use Rattle.std.specs.Prelude.{All, find, option_map, unwrap_or}
use Rattle.std.specs.List.{range_with_len, slice_index_or}
use Rattle.label_limits.specs.Ranges.{usual, AreWithin}
use Rattle.label_limits.specs.declared.limits.Limits.{Limits}
use Rattle.policy_toml.specs.PolicyOf.{limits_written, limits_by_label}
use Rattle.policy_toml.specs.Limits.{IsRowOf}

chosen : (b : Bool) (row : ℕ × Limits) (rest : Option (ℕ × Limits)) → AreWithin row.1
    → AreWithin (unwrap_or (option_map (λ row. row.1) rest) usual) → AreWithin (unwrap_or (option_map (λ row. row.1) (cond b (Some row) rest)) usual)
chosen true row rest here there = here
chosen false row rest here there = there

row_within : (test : ℕ × Limits → Bool) (rows : List (ℕ × Limits)) → All (λ row. AreWithin row.1) rows
    → AreWithin (unwrap_or (option_map (λ row. row.1) (find test rows)) usual)
row_within test [] each = refl
row_within test (row ∷ rows) each =
    chosen (test row) row (find test rows) (All-head (λ row. AreWithin row.1) row rows each)
    (row_within test rows (All-tail (λ row. AreWithin row.1) row rows each))

pub limits_within : (labels : ℕ) (rows : List (ℕ × Limits)) (label : ℕ) → All (IsRowOf labels) rows → AreWithin (limits_written rows label)
limits_within labels rows label each = row_within (λ row. row.0 == label) rows (λ k row below. (each k row below).limits)

pub all_within : (n labels : ℕ) (rows : List (ℕ × Limits)) (all : List Limits) → All (IsRowOf labels) rows → all ≡ limits_by_label n rows
    → All AreWithin all
all_within n labels rows all each is =
    subst (All AreWithin) (sym is)
    (All-map AreWithin (limits_written rows) (range_with_len 0 n) (λ k label below. limits_within labels rows (slice_index_or (range_with_len 0 n) k label) each))

pub one_for_each : (labels : ℕ) (rows : List (ℕ × Limits)) (all : List Limits) → all ≡ limits_by_label labels rows → length all ≡ labels
one_for_each labels rows all is = ap length is ∙ length-map-range_with_len (limits_written rows) 0 labels
