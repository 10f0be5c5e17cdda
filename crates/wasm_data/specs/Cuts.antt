-- A list, topmost first, cut at a height.
use Rattle.std.specs.Prelude.{ℕ, ◌-◌, List, length, take, drop}

-- what lies above
unfoldable pub above : {A : Type 0} → ℕ → List A → List A
above h vs = take (length vs - h) vs

-- what lies below
unfoldable pub under : {A : Type 0} → ℕ → List A → List A
under h vs = drop (length vs - h) vs
