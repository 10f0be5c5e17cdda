-- Writes and reads that are made one after the other on the rows of a store.
use Rattle.std.specs.Prelude.{◌≡◌, ◌<◌, ◌≤◌, ℕ, Bool, List, [], ◌∷◌, Option, None, Some, length, take, if◌then◌else◌}
use Rattle.label_limits.specs.declared.limits.Limits.{Limits}
use Rattle.facet_list.specs.Store.{Write as Written, written}
use Rattle.facet_list.specs.Rows.{Rows, row_of, rows_after, read_row}
use Rattle.trapeze_io.specs.Sizes.{IsKey, IsValue}
use Rattle.facet_list.specs.Room.{fits_in}
use Rattle.facet_index.specs.declared.steps.StoreStep.{StoreStep}
use Rattle.facet_index.specs.declared.steps.StoreStep.TheVariants.{Write, Read}
use Rattle.facet_index.specs.declared.steps.StoreAnswer.{StoreAnswer}
use Rattle.facet_index.specs.declared.steps.StoreAnswer.TheVariants.{Done, Full, Value, Absent}

-- the label is below the count, and the key and the value are within their sizes
abbrev pub IsFitStep : ℕ → StoreStep → Type 0
IsFitStep count (Write at key value) = (at.number < count) × IsKey key × IsValue value
IsFitStep count (Read at key) = (at.number < count) × IsKey key

-- the rows after a write that is made where it fits
abbrev pub rows_put : List Limits → Rows → Written → Rows
rows_put limits rows x = if fits_in limits rows x then rows_after rows x else rows

-- the rows after a step
abbrev pub rows_step : List Limits → Rows → StoreStep → Rows
rows_step limits rows (Write at key value) = rows_put limits rows (written at.number key value)
rows_step limits rows (Read at key) = rows

-- the rows after the steps
abbrev pub rows_played : List Limits → Rows → List StoreStep → Rows
rows_played limits rows [] = rows
rows_played limits rows (step ∷ steps) = rows_played limits (rows_step limits rows step) steps

abbrev pub answer_write : Bool → StoreAnswer
answer_write fits = if fits then Done else Full

abbrev pub answer_read : Option (List ℕ) → StoreAnswer
answer_read None = Absent
answer_read (Some value) = Value value

-- what a step answers: whether the write fits, or what is read
abbrev pub answer_of : (ℕ → ℕ → Bool) → List Limits → Rows → StoreStep → StoreAnswer
answer_of flows limits rows (Write at key value) = answer_write (fits_in limits rows (written at.number key value))
answer_of flows limits rows (Read at key) = answer_read (read_row flows at.number (row_of rows key))

-- what the steps answer, each on the rows that those before it leave
abbrev pub answers_of : (ℕ → ℕ → Bool) → List Limits → Rows → List StoreStep → List StoreAnswer
answers_of flows limits rows [] = []
answers_of flows limits rows (step ∷ steps) = answer_of flows limits rows step ∷ answers_of flows limits (rows_step limits rows step) steps

-- the first of the steps were made, and the rows are those after them
pub record IsPart (limits : List Limits) (before after : Rows) (steps : List StoreStep) : Type 0 where
  pub made : ℕ
  pub within : made ≤ length steps
  pub rows : after ≡ rows_played limits before (take made steps)
