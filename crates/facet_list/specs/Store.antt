-- A store as the list of its writes: what is read of it, and its live facets.
use Rattle.std.specs.Prelude.{ℕ, Bool, ◌&&◌, ◌==◌, List, [], ◌∷◌, Option, None, filter, map, nat_eq}
use Rattle.std.specs.List.{last_or}
use Rattle.std.specs.declared.cmp.Ordering.{Ordering}
use Rattle.std.specs.Ordering.{nat_cmp, ordering_then}
use Rattle.std.specs.Cmp.Lexicographic.{slice_cmp, pointwise}
use Rattle.std.specs.FinMap.{put}

-- a write at a label: a key, and a value or absent
pub record Write : Type 0 where
  pub label : ℕ
  pub key : List ℕ
  pub value : Option (List ℕ)

-- the write of a key and a value or absent at a label
abbrev pub written : ℕ → List ℕ → Option (List ℕ) → Write
written label key value = record { label = label; key = key; value = value }

-- the last of the values, or else the one found before them
abbrev pub last_value : Option (List ℕ) → List (Option (List ℕ)) → Option (List ℕ)
last_value found [] = found
last_value found (v ∷ vs) = last_value v vs

-- the writes of the key whose label flows to c
abbrev pub readable : (ℕ → ℕ → Bool) → ℕ → List ℕ → List Write → List Write
readable flows c key w = filter (λ x. pointwise nat_eq key x.key && flows x.label c) w

-- the latest visible facet: a read of the key at c gives the value of the last write of the key whose label flows to c, absent
-- where there is none
abbrev pub read : (ℕ → ℕ → Bool) → ℕ → List ℕ → List Write → Option (List ℕ)
read flows c key w = last_value None (map (λ x. x.value) (readable flows c key w))

-- a key and a label
abbrev pub Slot : Type 0
Slot = List ℕ × ℕ

-- the writes of a key at exactly this label
abbrev pub written_at : Slot → List Write → List Write
written_at s w = filter (λ x. pointwise nat_eq s.0 x.key && x.label == s.1) w

-- the last write of a key at a label: its value, or absent, or None where there is none
abbrev pub last_at : Slot → List Write → Option (Option (List ℕ))
last_at s w = last_or None (map (λ x. x.value) (written_at s w))

-- the order of slots: by key in byte order, then by label
abbrev pub slot_cmp : Slot → Slot → Ordering
slot_cmp a b = ordering_then (slice_cmp nat_cmp a.0 b.0) (nat_cmp a.1 b.1)

-- a facet: its key and label, and its value or absent
abbrev pub Facet : Type 0
Facet = Slot × Option (List ℕ)

-- the live facets after the writes, from those before them, in the order of slots: each write takes the place of the facet
-- of its key and label
abbrev pub facets_after : List Facet → List Write → List Facet
facets_after fs [] = fs
facets_after fs (x ∷ w) = facets_after (put slot_cmp (x.key, x.label) x.value fs) w

-- the live facets of the writes, by key in byte order and then by label
abbrev pub facets : List Write → List Facet
facets w = facets_after [] w
