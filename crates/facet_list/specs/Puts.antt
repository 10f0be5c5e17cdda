-- Puts under limits: those that fit are made, and the others are refused.
use Rattle.std.specs.Prelude.{◌≡◌, ℕ, Bool, List, [], ◌∷◌, ◌++◌, if◌then◌else◌}
use Rattle.label_limits.specs.declared.limits.Limits.{Limits}
use Rattle.facet_list.specs.Store.{Write, facets}
use Rattle.facet_list.specs.Room.{fits}
use Rattle.facet_list.specs.Views.{visible_writes, visible_facets}

-- the store after a put: a put that does not fit changes nothing
abbrev pub store_after : List Limits → List Write → Write → List Write
store_after limits w x = if fits limits w x then w ++ x ∷ [] else w

-- the put, where it is refused
abbrev pub refused_of : List Limits → List Write → Write → List Write
refused_of limits w x = if fits limits w x then [] else x ∷ []

-- the store after the puts
abbrev pub play : List Limits → List Write → List Write → List Write
play limits w [] = w
play limits w (x ∷ puts) = play limits (store_after limits w x) puts

-- the puts that are refused, in order
abbrev pub refused : List Limits → List Write → List Write → List Write
refused limits w [] = []
refused limits w (x ∷ puts) = refused_of limits w x ++ refused limits (store_after limits w x) puts

-- noninterference of puts from any store: what an observer sees of the store, of the refusals and of the facets is what
-- the puts that he sees make of the store that he sees
pub record AreNoninterferingPuts (limits : List Limits) (flows : ℕ → ℕ → Bool) (o : ℕ) (w puts : List Write) : Type 0 where
  pub store : visible_writes flows o (play limits w puts) ≡ play limits (visible_writes flows o w) (visible_writes flows o puts)
  pub refusals : visible_writes flows o (refused limits w puts) ≡ refused limits (visible_writes flows o w) (visible_writes flows o puts)
  pub facets_seen : visible_facets flows o (facets (play limits w puts))
      ≡ facets (play limits (visible_writes flows o w) (visible_writes flows o puts))
