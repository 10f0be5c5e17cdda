-- Which lists of types the known operands stand for, and what a relation between such lists makes of them.
use Rattle.std.specs.Prelude.{◌≡◌, ◌↔◌, Bool, true, false, IsTrue, List, [], ◌∷◌, ◌++◌, Option, Some, None, Result, IfOk}
use Rattle.wasm_ast.specs.declared.val_types.ValType.{ValType}
use Rattle.wasm_typing.specs.declared.operands.Operands.{Operands}

-- a type that fits what is known of it
abbrev pub FitsKnown : Option ValType → ValType → Type 0
FitsKnown None t = Unit {0}
FitsKnown (Some u) t = t ≡ u

-- a list that fits what is known, topmost first; below the known ones stands nothing, or anything
abbrev pub Fit : Bool → List (Option ValType) → List ValType → Type 0
Fit false [] ts = ts ≡ []
Fit true [] ts = Unit {0}
Fit anything (known ∷ others) [] = ⊥
Fit anything (known ∷ others) (t ∷ ts) = FitsKnown known t × Fit anything others ts

-- a list that fits what is kept
abbrev pub Stand : Operands → List ValType → Type 0
Stand o ts = Fit o.anything o.kept ts

-- what an instruction does to a list of types: it takes these off
abbrev pub Takes : List ValType → List ValType → List ValType → Type 0
Takes ts before after = before ≡ ts ++ after

-- it puts these on
abbrev pub PutsOn : List ValType → List ValType → List ValType → Type 0
PutsOn ts before after = after ≡ ts ++ before

-- it takes one off
abbrev pub TakesOne : List ValType → List ValType → Type 0
TakesOne before after = (t : ValType) × (before ≡ t ∷ after)

-- it leaves anything
abbrev pub Anything : List ValType → List ValType → Type 0
Anything before after = Unit {0}

-- it takes these off, and leaves anything
abbrev pub Jumps : List ValType → List ValType → List ValType → Type 0
Jumps ts before after = (below : List ValType) × (before ≡ ts ++ below)

-- it takes two of one type off, and puts one back
abbrev pub Chooses : List ValType → List ValType → Type 0
Chooses before after = (t : ValType) × ((below : List ValType) × (before ≡ t ∷ (t ∷ below)) × (after ≡ t ∷ below))

-- Q are exactly the lists that R leaves of those of P; where ok is false, R leaves none
pub record Image (R : List ValType → List ValType → Type 0) (P Q : List ValType → Type 0) (ok : Bool) : Type 0 where
  pub reached : (before after : List ValType) → P before → R before after → IsTrue ok × Q after
  pub source : IsTrue ok → (after : List ValType) → Q after → (before : List ValType) × P before × R before after

-- the operands become exactly those that R leaves of them, unless out of memory
abbrev pub Turns : {E : Type 0} → (List ValType → List ValType → Type 0) → Operands → Operands → Result Bool E → Type 0
Turns R old new told = IfOk told (λ ok. Image R (Stand old) (Stand new) ok)

-- the lists of P that have one on top are those of Q with one that fits what is known
pub record Splits (P Q : List ValType → Type 0) (known : Option ValType) : Type 0 where
  pub parts : (t : ValType) (ts : List ValType) → P (t ∷ ts) → FitsKnown known t × Q ts
  pub whole : (t : ValType) (ts : List ValType) → FitsKnown known t → Q ts → P (t ∷ ts)

-- no list of P has one on top
abbrev pub NoTop : (List ValType → Type 0) → Type 0
NoTop P = (t : ValType) (ts : List ValType) → P (t ∷ ts) → ⊥

-- what is known of a type exactly where both of these are; none where no type fits both
abbrev pub IsBoth : Option ValType → Option ValType → Option (Option ValType) → Type 0
IsBoth first second None = (t : ValType) → FitsKnown first t → FitsKnown second t → ⊥
IsBoth first second (Some known) = (t : ValType) → FitsKnown known t ↔ (FitsKnown first t × FitsKnown second t)
