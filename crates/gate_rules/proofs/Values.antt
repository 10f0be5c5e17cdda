-- A test of the values of a table.
use Rattle.std.proofs.Common.{◌≡◌, Bool, List, [], ◌∷◌, refl, ap}
use Rattle.std.specs.Prelude.{◌||◌}
use Rattle.std.specs.List.{list_any}
use Rattle.std.specs.Map.{values_of}

-- some value passes exactly where some entry has a value that does
pub any_value : {K X : Type 0} (p : X → Bool) (es : List (K × X)) → list_any p (values_of es) ≡ list_any (λ e. p e.1) es
any_value p [] = refl
any_value p (e ∷ es) = ap (λ b. p e.1 || b) (any_value p es)
