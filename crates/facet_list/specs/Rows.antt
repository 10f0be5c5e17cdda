-- A store as its callers see it: a row for each key.
use Rattle.std.specs.Prelude.{◌≢◌, ◌<◌, ◌≤◌, ℕ, Bool, not, ◌==◌, List, [], ◌∷◌, ◌++◌, Option, Some, None, filter, map, length, unwrap_or, if◌then◌else◌, All}
use Rattle.std.specs.List.{AllPairs, flat_map}
use Rattle.std.specs.declared.cmp.Ordering.{Ordering}
use Rattle.std.specs.Ordering.{nat_cmp}
use Rattle.std.specs.Cmp.Lexicographic.{slice_cmp}
use Rattle.std.specs.FinMap as finite
use Rattle.trapeze_io.specs.Sizes.{IsKey, IsValue}
use Rattle.facet_list.specs.Store.{Write, Slot, Facet, slot_cmp, last_value}

-- a label and its value or absent
abbrev pub Member : Type 0
Member = ℕ × Option (List ℕ)

-- the live facets of a key, one a label, in the order in which they were last written
abbrev pub Row : Type 0
Row = List Member

abbrev pub key_cmp : List ℕ → List ℕ → Ordering
key_cmp = slice_cmp nat_cmp

-- the row of each key
abbrev pub Rows : Type 0
Rows = finite.FinMap key_cmp Row

abbrev pub row_of : Rows → List ℕ → Row
row_of rows key = unwrap_or (finite.get rows key) []

-- the label's member goes, and the new one comes last
abbrev pub row_after : ℕ → Option (List ℕ) → Row → Row
row_after l v row = filter (λ m. not (m.0 == l)) row ++ (l, v) ∷ []

-- the rows after a write: the row of its key changes, and no other
abbrev pub rows_after : Rows → Write → Rows
rows_after rows x = finite.insert rows x.key (row_after x.label x.value (row_of rows x.key))

abbrev pub rows_from : Rows → List Write → Rows
rows_from rows [] = rows
rows_from rows (x ∷ w) = rows_from (rows_after rows x) w

-- the rows that the writes leave
abbrev pub rows_of : List Write → Rows
rows_of w = rows_from finite.empty w

-- the latest visible facet of a row: the value of the last member whose label flows to c, absent where there is none
abbrev pub read_row : (ℕ → ℕ → Bool) → ℕ → Row → Option (List ℕ)
read_row flows c row = last_value None (map (λ m. m.1) (filter (λ m. flows m.0 c) row))

-- what a row has at a label
abbrev pub member : ℕ → Row → Option (Option (List ℕ))
member l [] = None
member l (m ∷ row) = if m.0 == l then Some m.1 else member l row

-- the facet of a key and a label
abbrev pub facet_at : Rows → Slot → Option (Option (List ℕ))
facet_at rows s = member s.1 (row_of rows s.0)

-- the facets of a key with its row
abbrev pub facets_of : List ℕ × Row → List Facet
facets_of e = map (λ m. ((e.0, m.0), m.1)) e.1

-- the live facets of the rows, by key in byte order and then by label
abbrev pub facets_in : Rows → List Facet
facets_in rows = finite.entries (finite.from_entries {R = slot_cmp} (flat_map facets_of (finite.entries rows)))

-- the key and the value are within their sizes
pub record IsSized (key : List ℕ) (value : Option (List ℕ)) : Type 0 where
  pub key_fits : IsKey key
  pub value_fits : IsValue value

-- the label of each facet is below the number
abbrev pub AreBelow : ℕ → Rows → Type 0
AreBelow n rows = (key : List ℕ) → All (λ m. m.0 < n) (row_of rows key)

-- what holds of the rows of each store with n limits
pub record AreStoreRows (n : ℕ) (rows : Rows) : Type 0 where
  -- the facets of a key are within their sizes
  pub sized : (key : List ℕ) → All (λ m. IsSized key m.1) (row_of rows key)
  -- no two members of a row have one label
  pub once : (key : List ℕ) → AllPairs (λ m n. m.0 ≢ n.0) (row_of rows key)
  -- each label has its limits
  pub below : AreBelow n rows
