-- Blocks entered, left and branched to.
use Rattle.std.proofs.Common.{◌≡◌, ℕ, ◌≤◌, false, List, [], ◌∷◌, ◌++◌, length, take, drop, refl, sym, ap, subst, ◌∙◌, arith}
use Rattle.std.specs.Prelude.{slice_get, Some, nat_lt, if◌then◌else◌, zero, suc}
use Rattle.std.proofs.lemmas.Bool.Decides.{nat_tests}
use Rattle.std.proofs.lemmas.List.{take-append-le}
use Rattle.wasm_ast.specs.declared.trees.Instr.{Instr}
use Rattle.wasm_semantics.specs.Operators.{truth}
use Rattle.wasm_semantics.specs.Threads.{Store, Level, Frame, Outcome, Goes, Stuck}
use Rattle.wasm_semantics.specs.Data.{split}
use Rattle.wasm_semantics.specs.Control.{Spot, thread_at, at_level, level_with, spot_with, branch, branch_at, enter, leave}
use Rattle.wasm_data.specs.Cuts.{above, under}
use Rattle.wasm_blocks.specs.declared.open.Open.{Open}
use Rattle.wasm_blocks.specs.Levels.{Around, rest_of, first_of, values_in, keeps_in, target_in, level_in, levels_in, spot_in, IsTower}
use Rattle.wasm_blocks.proofs.Cuts.{cut_whole, length_under, above_append, under_append, above_all, under_all}

-- the operands below those of the innermost level
abbrev pub height_of : List Open → ℕ
height_of [] = 0
height_of (o ∷ os) = o.height

pub heights : (os : List Open) (n : ℕ) → IsTower os n → height_of os ≤ n
heights [] n t = omega arith
heights (o ∷ os) n t = t.0

abbrev level_by : List ℕ → List Instr → ℕ → List Instr → Level
level_by vs code keeps target = record { values = vs; code = code; keeps = keeps; target = target }

abbrev spot_by : Around → Level → List Level → Spot
spot_by a l ls = record { store = a.store; locals = a.locals; gives = a.gives; frames = a.frames; level = l; levels = ls }

abbrev around_at : Spot → Around
around_at p = record { store = p.store; locals = p.locals; gives = p.gives; frames = p.frames }

abbrev around_by : Store → List ℕ → ℕ → List Frame → Around
around_by st locals gives frames = record { store = st; locals = locals; gives = gives; frames = frames }

around_same : (a : Around) (p : Spot) → p.store ≡ a.store → p.locals ≡ a.locals → p.gives ≡ a.gives → p.frames ≡ a.frames → around_at p ≡ a
around_same a p s l g f =
    let st = λ (x : Store). around_by x p.locals p.gives p.frames in
    let ls = λ (x : List ℕ). around_by a.store x p.gives p.frames in
    let gs = λ (x : ℕ). around_by a.store a.locals x p.frames in
    let fs = λ (x : List Frame). around_by a.store a.locals a.gives x in
    ap st s ∙ (ap ls l ∙ (ap gs g ∙ ap fs f))

-- more operands on top
pub values_more : (opens : List Open) (operands more : List ℕ) → height_of opens ≤ length operands → values_in opens (more ++ operands) ≡ more ++ values_in opens operands
values_more [] operands more le = refl
values_more (o ∷ os) operands more le = above_append more operands o.height le

pub levels_more : (nexts : List (List Instr)) (opens : List Open) (operands more : List ℕ) → height_of opens ≤ length operands → levels_in nexts opens (more ++ operands) ≡ levels_in nexts opens operands
levels_more nexts [] operands more le = refl
levels_more nexts (o ∷ os) operands more le =
    ap (λ xs. level_in (rest_of o.loops (first_of nexts)) (drop 1 nexts) os xs ∷ levels_in (drop 1 nexts) os xs) (under_append more operands o.height le)

pub spot_more : (a : Around) (code : List Instr) (nexts : List (List Instr)) (opens : List Open) (operands more : List ℕ) → height_of opens ≤ length operands
    → (let p = spot_in a code nexts opens operands in spot_in a code nexts opens (more ++ operands) ≡ spot_with p (more ++ p.level.values) code)
spot_more a code nexts opens operands more le =
    let at = λ (vs : List ℕ) (ls : List Level). spot_by a (level_by vs code (keeps_in opens) (target_in opens nexts)) ls in
    ap (λ vs. at vs (levels_in nexts opens (more ++ operands))) (values_more opens operands more le)
    ∙ ap (at (more ++ values_in opens operands)) (levels_more nexts opens operands more le)

-- a block is entered
pub enter_goes : (a : Around) (rest : List Instr) (nexts : List (List Instr)) (opens : List Open) (operands : List ℕ) (body next : List Instr) (o : Open)
    → o.height ≡ length operands → rest_of o.loops next ≡ rest
    → (let p = spot_in a rest nexts opens operands in enter p p.level.values body (truth o.keeps) next ≡ Goes (thread_at (spot_in a body (next ∷ nexts) (o ∷ opens) operands)))
enter_goes a rest nexts opens operands body next o h r =
    let at = λ (vs : List ℕ) (ls : List Level). Goes (thread_at (spot_by a (level_by vs body (truth o.keeps) next) ls)) in
    let around = λ (c : List Instr) (xs : List ℕ). level_in c nexts opens xs ∷ levels_in nexts opens xs in
    sym (ap (λ vs. at vs (around (rest_of o.loops next) (under o.height operands))) (above_all operands o.height (sym h))
    ∙ (ap (λ xs. at [] (around (rest_of o.loops next) xs)) (under_all operands o.height (sym h))
    ∙ ap (λ c. at [] (around c operands)) r))

-- the end of a block
pub leave_goes : (a : Around) (code : List Instr) (nexts : List (List Instr)) (o : Open) (os : List Open) (operands : List ℕ) → IsTower (o ∷ os) (length operands)
    → leave (spot_in a code nexts (o ∷ os) operands) ≡ Goes (thread_at (spot_in a (rest_of o.loops (first_of nexts)) (drop 1 nexts) os operands))
leave_goes a code nexts o os operands tower =
    let u = under o.height operands in
    let v = above o.height operands in
    let long : length u ≡ o.height = length_under o.height operands tower.0 in
    let room : height_of os ≤ length u = omega (arith, heights os o.height tower.1, long) in
    sym (ap (λ xs. Goes (thread_at (spot_in a (rest_of o.loops (first_of nexts)) (drop 1 nexts) os xs))) (sym (cut_whole o.height operands))
    ∙ ap (λ p. Goes (thread_at p)) (spot_more a (rest_of o.loops (first_of nexts)) (drop 1 nexts) os u v room))

at_most : (n k : ℕ) → k ≤ n → nat_lt n k ≡ false
at_most n k h = grind (arith, nat_tests)

pub split_goes : (n : ℕ) (vs : List ℕ) (go : List ℕ → List ℕ → Outcome) → n ≤ length vs → split Stuck n vs go ≡ go (take n vs) (drop n vs)
split_goes n vs go le = ap (λ b. if b then Stuck else go (take n vs) (drop n vs)) (at_most (length vs) n le)

under_under : (a b : ℕ) (xs : List ℕ) → a ≤ b → b ≤ length xs → under a (under b xs) ≡ under a xs
under_under a b xs le le' =
    let long : a ≤ length (under b xs) = omega (arith, length_under b xs le') in
    sym (under_append (above b xs) (under b xs) a long) ∙ ap (under a) (cut_whole b xs)

pub tower_at : (n : ℕ) (os : List Open) (h : ℕ) (o : Open) → IsTower os h → slice_get os n ≡ Some o → o.height ≤ h
tower_at n [] h o t e = cc
tower_at zero (p ∷ os) h o t e = let same : p ≡ o = cc in subst (λ x. x.height ≤ h) same t.0
tower_at (suc n) (p ∷ os) h o t e = omega (arith, tower_at n os p.height o t.1 e, t.0)

drop_next : {A : Type 0} (n : ℕ) (xs : List A) → drop n (drop 1 xs) ≡ drop (suc n) xs
drop_next zero [] = refl
drop_next (suc n) [] = refl
drop_next n (x ∷ xs) = refl

-- where a branch ends up
abbrev target_spot : Around → List (List Instr) → List Open → ℕ → List ℕ → Spot
target_spot a nexts opens n operands = spot_in a (first_of (drop n nexts)) (drop (suc n) nexts) (drop (suc n) opens) operands

-- a branch by the levels, where p is any place with these surroundings
branch_by : (a : Around) (p : Spot) (n : ℕ) (vs : List ℕ) (code : List Instr) (nexts : List (List Instr)) (opens : List Open) (operands : List ℕ) (o : Open)
    → p.store ≡ a.store → p.locals ≡ a.locals → p.gives ≡ a.gives → p.frames ≡ a.frames
    → IsTower opens (length operands) → slice_get opens n ≡ Some o → truth o.keeps ≤ length vs
    → branch p n vs (level_in code nexts opens operands ∷ levels_in nexts opens operands)
    ≡ Goes (thread_at (target_spot a nexts opens n (take (truth o.keeps) vs ++ under o.height operands)))
branch_by a p n vs code nexts [] operands o s l g f t e le = cc
branch_by a p zero vs code nexts (q ∷ os) operands o s l g f t e le =
    let same : q ≡ o = cc in
    let u = under q.height operands in
    let c = rest_of q.loops (first_of nexts) in
    let ns = drop 1 nexts in
    let long : length u ≡ q.height = length_under q.height operands t.0 in
    let room : height_of os ≤ length u = omega (arith, heights os q.height t.1, long) in
    let enough : truth q.keeps ≤ length vs = subst (λ (x : Open). truth x.keeps ≤ length vs) (sym same) le in
    let k = take (truth q.keeps) vs in
    let level = level_by (k ++ values_in os u) (first_of nexts) (keeps_in os) (target_in os ns) in
    let on = λ (b : Around). Goes (thread_at (spot_by b level (levels_in ns os u))) in
    split_goes (truth q.keeps) vs (λ kept below. Goes (thread_at (at_level p (level_with (level_in c ns os u) (kept ++ values_in os u) (first_of nexts)) (levels_in ns os u)))) enough
    ∙ (ap on (around_same a p s l g f)
    ∙ (ap (λ q. Goes (thread_at q)) (sym (spot_more a (first_of nexts) ns os u k room))
    ∙ ap (λ (x : Open). Goes (thread_at (spot_in a (first_of nexts) ns os (take (truth x.keeps) vs ++ under x.height operands)))) same))
branch_by a p (suc n) vs code nexts (q ∷ os) operands o s l g f t e le =
    let u = under q.height operands in
    let k = take (truth o.keeps) vs in
    let long : length u ≡ q.height = length_under q.height operands t.0 in
    let to = λ (xs ys : List (List Instr)) (zs : List ℕ). Goes (thread_at (spot_in a (first_of xs) ys (drop (suc n) os) (k ++ zs))) in
    branch_by a p n vs (rest_of q.loops (first_of nexts)) (drop 1 nexts) os u o s l g f (subst (IsTower os) (sym long) t.1) e le
    ∙ (ap (λ xs. to xs (drop (suc n) (drop 1 nexts)) (under o.height u)) (drop_next n nexts)
    ∙ (ap (λ ys. to (drop (suc n) nexts) ys (under o.height u)) (drop_next (suc n) nexts)
    ∙ ap (to (drop (suc n) nexts) (drop (suc (suc n)) nexts)) (under_under o.height q.height operands (tower_at n os q.height o t.1 e) t.0)))

pub take_kept : (k : ℕ) (os : List Open) (operands : List ℕ) → k ≤ length (values_in os operands) → take k (values_in os operands) ≡ take k operands
take_kept k [] operands le = refl
take_kept k (o ∷ os) operands le = sym (take-append-le k (above o.height operands) (under o.height operands) le) ∙ ap (take k) (cut_whole o.height operands)

-- a branch to an open block
pub branch_goes : (a : Around) (n : ℕ) (code : List Instr) (nexts : List (List Instr)) (opens : List Open) (operands : List ℕ) (o : Open)
    → IsTower opens (length operands) → slice_get opens n ≡ Some o → truth o.keeps ≤ length (values_in opens operands)
    → (let p = spot_in a code nexts opens operands in branch_at p n p.level.values
    ≡ Goes (thread_at (spot_in a (first_of (drop n nexts)) (drop (suc n) nexts) (drop (suc n) opens) (take (truth o.keeps) operands ++ under o.height operands))))
branch_goes a n code nexts opens operands o t e le =
    branch_by a (spot_in a code nexts opens operands) n (values_in opens operands) code nexts opens operands o refl refl refl refl t e le
    ∙ ap (λ vs. Goes (thread_at (spot_in a (first_of (drop n nexts)) (drop (suc n) nexts) (drop (suc n) opens) (vs ++ under o.height operands)))) (take_kept (truth o.keeps) opens operands le)
