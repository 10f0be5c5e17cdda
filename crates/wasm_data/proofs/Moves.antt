-- Effects on the data that an array holds between marks.
use Rattle.std.proofs.Common.{◌≡◌, ◌≢◌, ℕ, ◌-◌, ◌<◌, ◌≤◌, Bool, true, false, List, [], ◌∷◌, length, take, drop, refl, sym, ap, ◌∙◌, arith}
use Rattle.std.specs.Prelude.{slice_get, slice_set, Option, Some, None, nat_lt, if◌then◌else◌}
use Rattle.std.proofs.lemmas.Option.{slice_get-get_or}
use Rattle.std.proofs.lemmas.Bool.Decides.{nat_tests}
use Rattle.wasm_semantics.specs.Data.{DataEffect, Moves, Wrong, with_top, with_some, split, set_local}
use Rattle.wasm_data.specs.declared.marks.Marks.{Marks}
use Rattle.wasm_data.specs.Marked.{AreInArray, locals_in, operands_in, raised}
use Rattle.wasm_data.specs.Effects.{cells, seen}
use Rattle.wasm_data.proofs.Arrays.{length_locals}

-- a local is set to the topmost operand, with these operands left
pub set_does : (memory globals : List ℕ) (m : Marks) (x v sp : ℕ) (old new rest left : List ℕ) → AreInArray m (length old) → x < m.floor - m.base
    → operands_in m.floor m.sp old ≡ v ∷ rest → locals_in m.base m.floor new ≡ slice_set (locals_in m.base m.floor old) x v → operands_in m.floor sp new ≡ left
    → with_some Wrong (slice_get (locals_in m.base m.floor old) x) (λ was. set_local (seen (cells memory globals old) m) x v left)
    ≡ Moves (seen (cells memory globals new) (raised m sp))
set_does memory globals m x v sp old new rest left w lt top ls os =
    let locals = locals_in m.base m.floor old in
    let long : x < length locals = omega (arith, length_locals m.base m.floor old (omega (arith, w.operands, w.room)), lt) in
    let build = λ (ls vs : List ℕ). Moves (record { memory = memory; globals = globals; locals = ls; values = vs }) in
    ap (λ o. with_some Wrong o (λ was. set_local (seen (cells memory globals old) m) x v left)) (slice_get-get_or locals x 0 long)
    ∙ (ap (λ ls. build ls left) (sym ls) ∙ ap (build (locals_in m.base m.floor new)) (sym os))

-- the two instructions that set a local
pub local_set_does : (memory globals : List ℕ) (m : Marks) (x v : ℕ) (old new : List ℕ) → AreInArray m (length old) → x < m.floor - m.base
    → operands_in m.floor m.sp old ≡ v ∷ operands_in m.floor (m.sp - 1) old → locals_in m.base m.floor new ≡ slice_set (locals_in m.base m.floor old) x v
    → operands_in m.floor (m.sp - 1) new ≡ operands_in m.floor (m.sp - 1) old
    → with_some Wrong (slice_get (locals_in m.base m.floor old) x) (λ was. with_top Wrong (operands_in m.floor m.sp old) (λ v vs. set_local (seen (cells memory globals old) m) x v vs))
    ≡ Moves (seen (cells memory globals new) (raised m (m.sp - 1)))
local_set_does memory globals m x v old new w lt top ls os =
    let d = seen (cells memory globals old) m in
    ap (λ xs. with_some Wrong (slice_get d.locals x) (λ was. with_top Wrong xs (λ v vs. set_local d x v vs))) top
    ∙ set_does memory globals m x v (m.sp - 1) old new (operands_in m.floor (m.sp - 1) old) (operands_in m.floor (m.sp - 1) old) w lt top ls os

pub local_tee_does : (memory globals : List ℕ) (m : Marks) (x v : ℕ) (old new : List ℕ) → AreInArray m (length old) → x < m.floor - m.base
    → operands_in m.floor m.sp old ≡ v ∷ operands_in m.floor (m.sp - 1) old → locals_in m.base m.floor new ≡ slice_set (locals_in m.base m.floor old) x v
    → operands_in m.floor m.sp new ≡ operands_in m.floor m.sp old
    → with_some Wrong (slice_get (locals_in m.base m.floor old) x) (λ was. with_top Wrong (operands_in m.floor m.sp old) (λ v vs. set_local (seen (cells memory globals old) m) x v (v ∷ vs)))
    ≡ Moves (seen (cells memory globals new) (raised m m.sp))
local_tee_does memory globals m x v old new w lt top ls os =
    let d = seen (cells memory globals old) m in
    ap (λ xs. with_some Wrong (slice_get d.locals x) (λ was. with_top Wrong xs (λ v vs. set_local d x v (v ∷ vs)))) top
    ∙ set_does memory globals m x v m.sp old new (operands_in m.floor (m.sp - 1) old) (v ∷ operands_in m.floor (m.sp - 1) old) w lt top ls (os ∙ top)

-- what a rule needs: something there, a topmost operand, so many of them
pub some_there : {A : Type 0} (o : Option A) (go : A → DataEffect) → with_some Wrong o go ≢ Wrong → (v : A) × (o ≡ Some v)
some_there None go h = absurd (h refl)
some_there (Some v) go h = (v, refl)

pub top_there : (vs : List ℕ) (go : ℕ → List ℕ → DataEffect) → with_top Wrong vs go ≢ Wrong → 0 < length vs
top_there [] go h = absurd (h refl)
top_there (v ∷ vs) go h = omega arith

many_there : (n k : ℕ) (x : DataEffect) (b : Bool) → nat_lt n k ≡ b → (if b then Wrong else x) ≢ Wrong → k ≤ n
many_there n k x true e h = absurd (h refl)
many_there n k x false e h = grind (arith, nat_tests)

pub split_there : (n : ℕ) (vs : List ℕ) (go : List ℕ → List ℕ → DataEffect) → split Wrong n vs go ≢ Wrong → n ≤ length vs
split_there n vs go h = many_there (length vs) n (go (take n vs) (drop n vs)) (nat_lt (length vs) n) refl h
