-- The rows that an ordered map has.
use Rattle.std.specs.Prelude.{◌≡◌, ◌≢◌, ◌<◌, ℕ, Bool, true, ◌&&◌, List, Option, None, Some, length, map, nat_lt, option_map, Vec}
use Rattle.std.specs.Borrow.{Bor}
use Rattle.std.specs.Ordering.{is_lt}
use Rattle.std.specs.declared.cmp.Ordering.TheVariants.{Less}
use Rattle.std.specs.List.{AllPairs}
use Rattle.std.specs.declared.alloc.Global.{Global}
use Rattle.std.specs.FinMap as finite
use Rattle.label_lattice.specs.declared.label.Label.{Label}
use Rattle.facet_list.specs.Store.{Facet}
use Rattle.facet_list.specs.Rows.{Member, Row, Rows, key_cmp, row_of, member}

-- an entry of the map: a key and its row
abbrev pub Entry : Type 0
Entry = Vec ℕ Global × Row

abbrev pub keyed : Entry → List ℕ × Row
keyed e = (e.0.items, e.1)

-- the rows that keys with their rows make
abbrev pub rows_in : List (List ℕ × Row) → Rows
rows_in es = finite.from_entries es

-- the rows of the entries of the map
abbrev pub entry_rows : List Entry → Rows
entry_rows es = rows_in (map keyed es)

-- one member or more, of different labels
pub record IsRow (row : Row) : Type 0 where
  pub some : 0 < length row
  pub once : AllPairs (λ m n. m.0 ≢ n.0) row

-- the number of a label, if there is one
abbrev pub number_after : Option Label → Option ℕ
number_after after = option_map (λ label. label.number) after

-- whether a number is greater than the one given, if there is one
abbrev pub is_later : Option ℕ → ℕ → Bool
is_later None l = true
is_later (Some a) l = nat_lt a l

-- whether a member comes after the number and before the least one so far
abbrev pub is_lesser : Option ℕ → Member → Option Member → Bool
is_lesser after m None = is_later after m.0
is_lesser after m (Some other) = is_later after m.0 && nat_lt m.0 other.0

-- the member of the least label after one, or of all, or None where there is none
abbrev pub IsLeastMember : Row → Option ℕ → Option Member → Type 0
IsLeastMember row after None = (l : ℕ) → is_later after l ≡ true → member l row ≡ None
IsLeastMember row after (Some m) = (is_later after m.0 ≡ true) × (member m.0 row ≡ Some m.1)
    × ((l : ℕ) → is_later after l ≡ true → l < m.0 → member l row ≡ None)

-- a row that is lent with its key
abbrev pub row_lent : Bor (Vec ℕ Global) × Bor Row → List ℕ × Row
row_lent p = (p.0.now.items, p.1.now)

-- whether a key is greater than the one given, if there is one
abbrev pub is_past : Option (List ℕ) → List ℕ → Bool
is_past None key = true
is_past (Some a) key = is_lt (key_cmp a key)

-- the row of the least key after one, or of all, or None where there is none
abbrev pub IsNextRow : Rows → Option (List ℕ) → Option (List ℕ × Row) → Type 0
IsNextRow rows after None = (key : List ℕ) → is_past after key ≡ true → finite.get rows key ≡ None
IsNextRow rows after (Some e) = (is_past after e.0 ≡ true) × (finite.get rows e.0 ≡ Some e.1)
    × ((key : List ℕ) → is_past after key ≡ true → key_cmp key e.0 ≡ Less → finite.get rows key ≡ None)

-- the facet of a key at the least label after one, or None where there is none
abbrev pub IsRest : Rows → List ℕ → ℕ → Option Facet → Type 0
IsRest rows key l None = (k : ℕ) → l < k → member k (row_of rows key) ≡ None
IsRest rows key l (Some f) = (f.0.0 ≡ key) × (l < f.0.1) × (member f.0.1 (row_of rows key) ≡ Some f.1)
    × ((k : ℕ) → l < k → k < f.0.1 → member k (row_of rows key) ≡ None)

-- the facet of the least label of a row, where there is a row
abbrev pub IsFirst : Option (List ℕ × Row) → Option Facet → Type 0
IsFirst None found = found ≡ None
IsFirst (Some e) None = ⊥
IsFirst (Some e) (Some f) = (f.0.0 ≡ e.0) × (member f.0.1 e.1 ≡ Some f.1) × ((k : ℕ) → k < f.0.1 → member k e.1 ≡ None)
