-- What is not stuck has what it needs.
use Rattle.std.proofs.Common.{◌≡◌, ◌≢◌, ℕ, ◌-◌, ◌<◌, ◌≤◌, Bool, true, false, List, [], ◌∷◌, ◌++◌, length, take, drop, refl, ap, subst, ◌∙◌, arith}
use Rattle.std.specs.Prelude.{nat_lt, if◌then◌else◌, zero, suc, slice_get, Option, Some, None, option_and_then}
use Rattle.std.proofs.lemmas.Bool.Decides.{nat_tests}
use Rattle.wasm_ast.specs.declared.func_types.FuncType.{FuncType}
use Rattle.wasm_ast.specs.declared.imports.Import.{Import}
use Rattle.wasm_ast.specs.declared.bodies.Body.{Body}
use Rattle.wasm_ast.specs.declared.hosts.HostName.{HostName}
use Rattle.wasm_ast.specs.declared.trees.Instr.{Instr}
use Rattle.wasm_ast.specs.declared.modules.Module.{Module}
use Rattle.wasm_ast.specs.Spaces.{Function, own, own_type, joined, import_of, type_of, function_count}
use Rattle.wasm_ast.specs.Hosts.{host_named, host_params}
use Rattle.wasm_semantics.specs.Operators.{truth}
use Rattle.wasm_semantics.specs.Data.{with_some, split}
use Rattle.wasm_semantics.specs.Threads.{Store, Outcome, Goes, Stuck}
use Rattle.wasm_semantics.specs.Control.{Spot, thread_at, at_level, level_with, branch, branch_at, finish, leave, hand, opened, asked, call, call_of, indirect}
use Rattle.wasm_data.specs.Cuts.{above, under}
use Rattle.wasm_blocks.specs.declared.open.Open.{Open}
use Rattle.wasm_blocks.specs.Levels.{Around, rest_of, first_of, values_in, level_in, levels_in, spot_in}
use Rattle.wasm_blocks.specs.Runs.{own_nexts}
use Rattle.wasm_blocks.proofs.Cuts.{above_all, length_above}
use Rattle.wasm_frames.specs.declared.active.Active.{Active}
use Rattle.wasm_frames.specs.Standing.{Surroundings, spot_at}
use Rattle.wasm_frames.specs.Turns.{CanBranch}
use Rattle.wasm_frames.specs.declared.callees.Callee.{Callee}
use Rattle.wasm_frames.specs.declared.callees.Runs.{Runs}
use Rattle.wasm_frames.specs.declared.callees.Runs.TheVariants as runs
use Rattle.wasm_frames.specs.Callees.{RunsWhenCalled, IsHost, AreCallees, HasArguments, AreTypes}
use Rattle.wasm_frames.proofs.Calling.{found, some_there}
use Rattle.wasm_frames.proofs.TableCalls.{through_same}
use Rattle.wasm_semantics.specs.OfModule.{IsStore}
use Rattle.wasm_frames.proofs.FewerOperands.{own_operands}

many_there : (n k : ℕ) (x : Outcome) (b : Bool) → nat_lt n k ≡ b → (if b then Stuck else x) ≢ Stuck → k ≤ n
many_there n k x true e h = absurd (h refl)
many_there n k x false e h = grind (arith, nat_tests)

pub split_there : (n : ℕ) (vs : List ℕ) (go : List ℕ → List ℕ → Outcome) → split Stuck n vs go ≢ Stuck → n ≤ length vs
split_there n vs go h = many_there (length vs) n (go (take n vs) (drop n vs)) (nat_lt (length vs) n) refl h

pub finish_there : (p : Spot) (vs : List ℕ) → finish p vs ≢ Stuck → p.gives ≤ length vs
finish_there p vs h = split_there p.gives vs (λ kept below. hand p.store kept p.frames) h

leave_none : (a : Around) (code : List Instr) (nexts : List (List Instr)) (os : List Open) (ops : List ℕ) → os ≡ [] → (let p = spot_in a code nexts os ops in leave p ≡ finish p p.level.values)
leave_none a code nexts [] ops e = refl
leave_none a code nexts (o ∷ os) ops e = cc

-- at the end of a function's own level
pub leave_ends : (m : Module) (st : Store) (a : Active) (h : Surroundings) → length h.opens ≡ a.hot.low → (let p = spot_at m st a h in leave p ≡ finish p p.level.values)
leave_ends m st a h e =
    let p = spot_at m st a h in
    leave_none (record { store = st; locals = p.locals; gives = p.gives; frames = p.frames }) a.hot.code.now (own_nexts a.hot.low h.opens h.nexts) (above a.hot.low h.opens) (own_operands a h) (above_all h.opens a.hot.low e)

branch_kept : (p : Spot) (n : ℕ) (vs : List ℕ) (code : List Instr) (nexts : List (List Instr)) (os : List Open) (ops : List ℕ) (o : Open) → slice_get os n ≡ Some o
    → branch p n vs (level_in code nexts os ops ∷ levels_in nexts os ops) ≢ Stuck → truth o.keeps ≤ length vs
branch_kept p n vs code nexts [] ops o e h = cc
branch_kept p zero vs code nexts (q ∷ os) ops o e h =
    let same : q ≡ o = cc in
    let l = level_in (rest_of q.loops (first_of nexts)) (drop 1 nexts) os (under q.height ops) in
    let ls = levels_in (drop 1 nexts) os (under q.height ops) in
    subst (λ (x : Open). truth x.keeps ≤ length vs) same (split_there (truth q.keeps) vs (λ kept below. Goes (thread_at (at_level p (level_with l (kept ++ l.values) (first_of nexts)) ls))) h)
branch_kept p (suc n) vs code nexts (q ∷ os) ops o e h = branch_kept p n vs (rest_of q.loops (first_of nexts)) (drop 1 nexts) os (under q.height ops) o e h

branch_inside : (p : Spot) (n : ℕ) (vs : List ℕ) (code : List Instr) (nexts : List (List Instr)) (os : List Open) (ops : List ℕ)
    → branch p n vs (level_in code nexts os ops ∷ levels_in nexts os ops) ≢ Stuck → (n ≤ length os) × (n ≡ length os → p.gives ≤ length vs)
branch_inside p zero vs code nexts [] ops h = (omega arith, λ e. finish_there p vs h)
branch_inside p (suc n) vs code nexts [] ops h = absurd (h refl)
branch_inside p zero vs code nexts (o ∷ os) ops h = (omega arith, λ e. absurd (omega (arith, e)))
branch_inside p (suc n) vs code nexts (o ∷ os) ops h =
    let r = branch_inside p n vs (rest_of o.loops (first_of nexts)) (drop 1 nexts) os (under o.height ops) h in
    (omega (arith, r.0), λ e. r.1 (omega (arith, e)))

pub can_branch : (m : Module) (st : Store) (a : Active) (h : Surroundings) (n : ℕ) → (let p = spot_at m st a h in branch_at p n p.level.values ≢ Stuck) → CanBranch a n h.values h.opens
can_branch m st a h n t =
    let p = spot_at m st a h in
    let own = above a.hot.low h.opens in
    let nexts = own_nexts a.hot.low h.opens h.nexts in
    let ops = own_operands a h in
    let r = branch_inside p n (values_in own ops) a.hot.code.now nexts own ops t in
    record {
      kept = λ o e. branch_kept p n (values_in own ops) a.hot.code.now nexts own ops o e t;
      inside = omega (arith, r.0, length_above a.hot.low h.opens);
      returns = λ e. r.1 (omega (arith, e, length_above a.hot.low h.opens));
    }

none_past : {A : Type 0} (k : ℕ) (xs : List A) → length xs ≤ k → slice_get xs k ≡ None
none_past k [] h = refl
none_past zero (x ∷ xs) h = absurd (omega arith)
none_past (suc k) (x ∷ xs) h = none_past k xs (omega arith)

with_some_there : {A : Type 0} (o : Option A) (go : A → Outcome) → with_some Stuck o go ≢ Stuck → (x : A) × (o ≡ Some x)
with_some_there None go h = absurd (h refl)
with_some_there (Some x) go h = (x, refl)

bound_there : {A B : Type 0} (f : A → Option B) (o : Option A) (y : B) → option_and_then f o ≡ Some y → (x : A) × (o ≡ Some x) × (f x ≡ Some y)
bound_there f None y e = cc
bound_there f (Some x) y e = (x, refl, e)

joined_type : (t : Option FuncType) (b : Option Body) (fn : Function) → joined t b ≡ Some fn → (ft : FuncType) × (t ≡ Some ft)
joined_type None b fn e = cc
joined_type (Some t) b fn e = (t, refl)

own_there : (m : Module) (x : ℕ) (fn : Function) → own m x ≡ Some fn → x < function_count m
own_there m x fn e =
    let f = found m x fn e in
    let t = joined_type (own_type m (x - length m.imports)) (slice_get m.bodies (x - length m.imports)) fn f.1 in
    let k = bound_there (slice_get m.types) (slice_get m.functions (x - length m.imports)) t.0 t.1 in
    omega (arith, some_there m.functions (x - length m.imports) k.0 k.1, f.0)

call_there_by : (m : Module) (x : ℕ) (p : Spot) (vs : List ℕ) (o : Option Import) → slice_get m.imports x ≡ o → call_of m x p vs o ≢ Stuck → x < function_count m
call_there_by m x p vs None e h =
    let f = with_some_there (own m x) (λ fn. split Stuck (length fn.signature.params) vs (opened fn p)) h in own_there m x f.0 f.1
call_there_by m x p vs (Some i) e h = omega (arith, some_there m.imports x i e)

-- the function that is called is there
pub call_there : (m : Module) (x : ℕ) (p : Spot) (vs : List ℕ) → call m x p vs ≢ Stuck → x < function_count m
call_there m x p vs h = call_there_by m x p vs (slice_get m.imports x) refl h

host_split : (m : Module) (x n : ℕ) (name : HostName) (p : Spot) (vs : List ℕ) → IsHost m x n name → call m x p vs ≡ split Stuck (length (host_params name)) vs (asked name p)
host_split m x n name p vs i =
    let b = bound_there (λ (i : Import). host_named i.name) (slice_get m.imports x) name i.named in
    ap (call_of m x p vs) b.1 ∙ ap (λ y. with_some Stuck y (λ h. split Stuck (length (host_params h)) vs (asked h p))) b.2

own_split : (m : Module) (x : ℕ) (fn : Function) (p : Spot) (vs : List ℕ) → own m x ≡ Some fn → call m x p vs ≡ split Stuck (length fn.signature.params) vs (opened fn p)
own_split m x fn p vs e =
    ap (call_of m x p vs) (none_past x m.imports (found m x fn e).0) ∙ ap (λ o. with_some Stuck o (λ fn. split Stuck (length fn.signature.params) vs (opened fn p))) e

run_takes : (m : Module) (x n : ℕ) (r : Runs) (p : Spot) (vs : List ℕ) → RunsWhenCalled m x n r → call m x p vs ≢ Stuck → n ≤ length vs
run_takes m x n (runs.Host name) p vs i h =
    omega (arith, i.takes, split_there (length (host_params name)) vs (asked name p) (λ s. h (host_split m x n name p vs i ∙ s)))
run_takes m x n (runs.Own e) p vs i h =
    omega (arith, i.takes, split_there (length i.function.signature.params) vs (opened i.function p) (λ s. h (own_split m x i.function p vs i.member ∙ s)))

-- so are its arguments
pub call_takes : (m : Module) (rows : List Callee) (x : ℕ) (st : Store) (a : Active) (h : Surroundings) → AreCallees m rows → (let p = spot_at m st a h in call m x p p.level.values ≢ Stuck) → HasArguments rows x a h.values h.opens
call_takes m rows x st a h cs t c e = let p = spot_at m st a h in run_takes m x c.params c.runs p p.level.values (cs.each x c e).runs t

type_there_by : (m : Module) (x : ℕ) (ft : FuncType) (b : Bool) → nat_lt x (length m.imports) ≡ b → (if b then import_of m x else own_type m (x - length m.imports)) ≡ Some ft → x < function_count m
type_there_by m x ft true e h = let lt : x < length m.imports = grind (arith, nat_tests) in omega (arith, lt)
type_there_by m x ft false e h =
    let le : length m.imports ≤ x = grind (arith, nat_tests) in
    let k = bound_there (slice_get m.types) (slice_get m.functions (x - length m.imports)) ft h in
    omega (arith, some_there m.functions (x - length m.imports) k.0 k.1, le)

pub type_there : (m : Module) (x : ℕ) (ft : FuncType) → type_of m x ≡ Some ft → x < function_count m
unfolding type_of
type_there m x ft e = type_there_by m x ft (nat_lt x (length m.imports)) refl e

-- a call through the table
pub types_there : (m : Module) (rows : List Callee) (kind at : ℕ) (st : Store) (a : Active) (h : Surroundings) → AreCallees m rows → IsStore m st
    → ((wanted : FuncType) → slice_get m.types kind ≡ Some wanted → (let p = spot_at m st a h in indirect m wanted p p.level.values (slice_get st.table at) ≢ Stuck))
    → AreTypes m rows kind st.table at a h.values h.opens
types_there m rows kind at st a h cs s t x e =
    let p = spot_at m st a h in
    let f = s.table at x e in (
      omega (arith, type_there m x f.0 f.1, cs.many),
      λ found wanted is is' same.
          call_takes m rows x st a h cs (λ stuck. t wanted is' (through_same m wanted found p p.level.values x (slice_get st.table at) e is same ∙ stuck)),
    )

-- the type that is wanted is there
pub kind_there : {A : Type 0} (xs : List A) (k : ℕ) (go : A → Outcome) → with_some Stuck (slice_get xs k) go ≢ Stuck → (x : A) × (slice_get xs k ≡ Some x) × (k < length xs)
kind_there xs k go h = let x = with_some_there (slice_get xs k) go h in (x.0, x.1, some_there xs k x.0 x.1)
