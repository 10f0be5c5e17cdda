-- What an observer sees of writes and facets.
use Rattle.std.specs.Prelude.{◌≡◌, ℕ, Bool, List, T, filter}
use Rattle.std.specs.FinMap.{is_sorted}
use Rattle.facet_list.specs.Store.{Write, Facet, slot_cmp, facets_after, facets}

-- the writes whose label flows to o
abbrev pub visible_writes : (ℕ → ℕ → Bool) → ℕ → List Write → List Write
visible_writes flows o w = filter (λ x. flows x.label o) w

-- the facets whose label flows to o
abbrev pub visible_facets : (ℕ → ℕ → Bool) → ℕ → List Facet → List Facet
visible_facets flows o fs = filter (λ f. flows f.0.1 o) fs

-- noninterference: what an observer sees of the facets is the facets of the writes that he sees
abbrev pub AreNoninterfering : Type 0
AreNoninterfering = (flows : ℕ → ℕ → Bool) (o : ℕ) (w : List Write) → visible_facets flows o (facets w) ≡ facets (visible_writes flows o w)

-- the same from any facets that are there before the writes
abbrev pub AreNoninterferingFrom : Type 0
AreNoninterferingFrom = (flows : ℕ → ℕ → Bool) (o : ℕ) (start : List Facet) (w : List Write) → T (is_sorted slot_cmp start)
    → visible_facets flows o (facets_after start w) ≡ facets_after (visible_facets flows o start) (visible_writes flows o w)
