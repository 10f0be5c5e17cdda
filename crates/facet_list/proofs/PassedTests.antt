-- Tests that pass: of both parts of a conjunction, and of an order that is less.
use Rattle.std.proofs.Common.{◌≡◌, Bool, true, false, cond, T, Option, None, refl}
use Rattle.std.specs.Prelude.{◌&&◌}
use Rattle.std.specs.declared.cmp.Ordering.{Ordering}
use Rattle.std.specs.declared.cmp.Ordering.TheVariants.{Less, Equal, Greater}
use Rattle.std.specs.Ordering.{is_lt}

pub first : (a b : Bool) → T (a && b) → T a
first true b h = tt
first false b h = h

pub second : (a b : Bool) → T (a && b) → T b
second true b h = h
second false b h = absurd h

pub both : (a b : Bool) → T a → T b → T (a && b)
both true b h g = g
both false b h g = h

pub less : (r : Ordering) → T (is_lt r) → r ≡ Less
less Less h = refl
less Equal h = absurd h
less Greater h = absurd h

pub less_true : (r : Ordering) → is_lt r ≡ true → r ≡ Less
less_true Less h = refl
less_true Equal h = cc
less_true Greater h = cc

-- what is None wherever the test passes
pub none_or : {A : Type 0} (b : Bool) (o : Option A) → (b ≡ true → o ≡ None) → cond b o None ≡ None
none_or true o h = h refl
none_or false o h = refl
