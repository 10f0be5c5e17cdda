-- An instruction that moves data moves the same data where more operands lie below.
use Rattle.std.proofs.Common.{◌≡◌, ◌≢◌, ◌≤◌, ◌+◌, ℕ, Bool, true, false, List, [], ◌∷◌, ◌++◌, length, take, drop, min, refl, ap, ◌∙◌, arith, length-append}
use Rattle.std.specs.Prelude.{Option, Some, None, slice_get, nat_lt, if◌then◌else◌}
use Rattle.std.proofs.lemmas.List.{take-append-le, drop-append-le}
use Rattle.std.proofs.lemmas.Bool.Decides.{nat_tests}
use Rattle.wasm_ast.specs.declared.trees.Instr.TheOpen.{Instr-F}
use Rattle.wasm_ast.specs.declared.modules.Module.{Module}
use Rattle.wasm_ast.specs.Trees.{Layer}
use Rattle.wasm_ast.specs.Spaces.{page_limit}
use Rattle.wasm_ast.specs.Operators.{Access, load_of, store_of}
use Rattle.wasm_ast.specs.Memory.{memory_load, memory_store, memory_grow, memory_copy, memory_fill}
use Rattle.wasm_semantics.specs.Operators.{operator_of, type_of_operator, compute, Computed, Number, Fails, Missing}
use Rattle.wasm_semantics.specs.Data.{Data, DataEffect, Wrong, with_top, with_some, split, moves, computed, chosen, set_local, set_global, fetched, written, sized, effect_of}
use Rattle.wasm_semantics.specs.Laws.{deeper, lifted}

top_flat : (w values : List ℕ) (go go' : ℕ → List ℕ → DataEffect) → with_top Wrong values go ≢ Wrong → ((v : ℕ) (vs : List ℕ) → go v vs ≢ Wrong → go' v (vs ++ w) ≡ lifted w (go v vs))
    → with_top Wrong (values ++ w) go' ≡ lifted w (with_top Wrong values go)
top_flat w [] go go' h k = absurd (h refl)
top_flat w (v ∷ vs) go go' h k = k v vs h

some_flat : {A : Type 0} (w : List ℕ) (o : Option A) (go go' : A → DataEffect) → with_some Wrong o go ≢ Wrong → ((v : A) → go v ≢ Wrong → go' v ≡ lifted w (go v))
    → with_some Wrong o go' ≡ lifted w (with_some Wrong o go)
some_flat w None go go' h k = refl
some_flat w (Some v) go go' h k = k v h

long_enough : (n k : ℕ) → nat_lt n k ≡ false → k ≤ n
long_enough n k h = grind (arith, nat_tests)

enough : (n k : ℕ) → k ≤ n → nat_lt n k ≡ false
enough n k h = grind (arith, nat_tests)

split_by : (w : List ℕ) (n : ℕ) (values : List ℕ) (go go' : List ℕ → List ℕ → DataEffect) (b : Bool) → nat_lt (length values) n ≡ b → (if b then Wrong else go (take n values) (drop n values)) ≢ Wrong
    → ((a b : List ℕ) → go a b ≢ Wrong → go' a (b ++ w) ≡ lifted w (go a b)) → split Wrong n (values ++ w) go' ≡ lifted w (if b then Wrong else go (take n values) (drop n values))
split_by w n values go go' true e h k = absurd (h refl)
split_by w n values go go' false e h k =
    let long : n ≤ length values = long_enough (length values) n e in
    let longer : n ≤ length (values ++ w) = omega (arith, length-append values w) in
    ap (λ c. if c then Wrong else go' (take n (values ++ w)) (drop n (values ++ w))) (enough (length (values ++ w)) n longer)
    ∙ (ap (λ t. go' t (drop n (values ++ w))) (take-append-le n values w long) ∙ (ap (λ t. go' (take n values) t) (drop-append-le n values w long) ∙ k (take n values) (drop n values) h))

split_flat : (w : List ℕ) (n : ℕ) (values : List ℕ) (go go' : List ℕ → List ℕ → DataEffect) → split Wrong n values go ≢ Wrong
    → ((a b : List ℕ) → go a b ≢ Wrong → go' a (b ++ w) ≡ lifted w (go a b)) → split Wrong n (values ++ w) go' ≡ lifted w (split Wrong n values go)
split_flat w n values go go' h k = split_by w n values go go' (nat_lt (length values) n) refl h k

computed_flat : (d : Data) (w b : List ℕ) (r : Computed) → computed (deeper d w) (b ++ w) r ≡ lifted w (computed d b r)
computed_flat d w b (Number n) = refl
computed_flat d w b (Fails t) = refl
computed_flat d w b Missing = refl

fetched_flat : (d : Data) (w b : List ℕ) (a : Access) (o : Option ℕ) → fetched (deeper d w) a o (b ++ w) ≡ lifted w (fetched d a o b)
fetched_flat d w b a None = refl
fetched_flat d w b a (Some n) = refl

written_flat : (d : Data) (w b : List ℕ) (o : Option (List ℕ)) → written (deeper d w) o (b ++ w) ≡ lifted w (written d o b)
written_flat d w b None = refl
written_flat d w b (Some memory) = refl

sized_flat : (d : Data) (w b : List ℕ) (o : Option (List ℕ)) → sized (deeper d w) o (b ++ w) ≡ lifted w (sized d o b)
sized_flat d w b None = refl
sized_flat d w b (Some memory) = refl

three_flat : (w values : List ℕ) (go go' : ℕ → ℕ → ℕ → List ℕ → DataEffect) → with_top Wrong values (λ x xs. with_top Wrong xs (λ y ys. with_top Wrong ys (go x y))) ≢ Wrong
    → ((x y z : ℕ) (zs : List ℕ) → go' x y z (zs ++ w) ≡ lifted w (go x y z zs))
    → with_top Wrong (values ++ w) (λ x xs. with_top Wrong xs (λ y ys. with_top Wrong ys (go' x y))) ≡ lifted w (with_top Wrong values (λ x xs. with_top Wrong xs (λ y ys. with_top Wrong ys (go x y))))
three_flat w values go go' h k =
    top_flat w values (λ x xs. with_top Wrong xs (λ y ys. with_top Wrong ys (go x y))) (λ x xs. with_top Wrong xs (λ y ys. with_top Wrong ys (go' x y))) h
    (λ x xs i. top_flat w xs (λ y ys. with_top Wrong ys (go x y)) (λ y ys. with_top Wrong ys (go' x y)) i
    (λ y ys j. top_flat w ys (go x y) (go' x y) j (λ z zs l. k x y z zs)))

pub effect_flat : (m : Module) (pages : ℕ) (y : Layer) (d : Data) (w : List ℕ) → effect_of m pages y d ≢ Wrong → effect_of m pages y (deeper d w) ≡ lifted w (effect_of m pages y d)
effect_flat m pages Instr-F.Nop d w h = refl
effect_flat m pages Instr-F.Drop d w h = top_flat w d.values (λ v vs. moves d vs) (λ v vs. moves (deeper d w) vs) h (λ v vs k. refl)
effect_flat m pages Instr-F.Select d w h =
    let last = λ (e : Data) (v b a : ℕ) (xs : List ℕ). moves e (chosen v a b ∷ xs) in
    top_flat w d.values (λ v vs. with_top Wrong vs (λ b ws. with_top Wrong ws (last d v b))) (λ v vs. with_top Wrong vs (λ b ws. with_top Wrong ws (last (deeper d w) v b))) h
    (λ v vs k. top_flat w vs (λ b ws. with_top Wrong ws (last d v b)) (λ b ws. with_top Wrong ws (last (deeper d w) v b)) k
    (λ b ws l. top_flat w ws (last d v b) (last (deeper d w) v b) l (λ a xs n. refl)))
effect_flat m pages (Instr-F.LocalGet x) d w h = some_flat w (slice_get d.locals x) (λ v. moves d (v ∷ d.values)) (λ v. moves (deeper d w) (v ∷ (d.values ++ w))) h (λ v k. refl)
effect_flat m pages (Instr-F.GlobalGet x) d w h = some_flat w (slice_get d.globals x) (λ v. moves d (v ∷ d.values)) (λ v. moves (deeper d w) (v ∷ (d.values ++ w))) h (λ v k. refl)
effect_flat m pages (Instr-F.LocalSet x) d w h =
    some_flat w (slice_get d.locals x) (λ old. with_top Wrong d.values (λ v vs. set_local d x v vs)) (λ old. with_top Wrong (d.values ++ w) (λ v vs. set_local (deeper d w) x v vs)) h
    (λ old k. top_flat w d.values (λ v vs. set_local d x v vs) (λ v vs. set_local (deeper d w) x v vs) k (λ v vs l. refl))
effect_flat m pages (Instr-F.LocalTee x) d w h =
    some_flat w (slice_get d.locals x) (λ old. with_top Wrong d.values (λ v vs. set_local d x v (v ∷ vs))) (λ old. with_top Wrong (d.values ++ w) (λ v vs. set_local (deeper d w) x v (v ∷ vs))) h
    (λ old k. top_flat w d.values (λ v vs. set_local d x v (v ∷ vs)) (λ v vs. set_local (deeper d w) x v (v ∷ vs)) k (λ v vs l. refl))
effect_flat m pages (Instr-F.GlobalSet x) d w h =
    some_flat w (slice_get d.globals x) (λ old. with_top Wrong d.values (λ v vs. set_global d x v vs)) (λ old. with_top Wrong (d.values ++ w) (λ v vs. set_global (deeper d w) x v vs)) h
    (λ old k. top_flat w d.values (λ v vs. set_global d x v vs) (λ v vs. set_global (deeper d w) x v vs) k (λ v vs l. refl))
effect_flat m pages (Instr-F.Load op align offset) d w h =
    let go = λ (e : Data) (k : Access) (a : ℕ) (vs : List ℕ). fetched e k (memory_load d.memory (a + offset) k.width) vs in
    some_flat w (load_of op) (λ k. with_top Wrong d.values (go d k)) (λ k. with_top Wrong (d.values ++ w) (go (deeper d w) k)) h
    (λ k l. top_flat w d.values (go d k) (go (deeper d w) k) l (λ a vs n. fetched_flat d w vs k (memory_load d.memory (a + offset) k.width)))
effect_flat m pages (Instr-F.Store op align offset) d w h =
    let go = λ (e : Data) (k : Access) (v a : ℕ) (ws : List ℕ). written e (memory_store d.memory (a + offset) k.width v) ws in
    some_flat w (store_of op) (λ k. with_top Wrong d.values (λ v vs. with_top Wrong vs (go d k v))) (λ k. with_top Wrong (d.values ++ w) (λ v vs. with_top Wrong vs (go (deeper d w) k v))) h
    (λ k l. top_flat w d.values (λ v vs. with_top Wrong vs (go d k v)) (λ v vs. with_top Wrong vs (go (deeper d w) k v)) l
    (λ v vs n. top_flat w vs (go d k v) (go (deeper d w) k v) n (λ a ws q. written_flat d w ws (memory_store d.memory (a + offset) k.width v))))
effect_flat m pages Instr-F.MemorySize d w h = refl
effect_flat m pages Instr-F.MemoryGrow d w h =
    let go = λ (e : Data) (v : ℕ) (vs : List ℕ). sized e (memory_grow (min pages (page_limit m)) d.memory v) vs in
    top_flat w d.values (go d) (go (deeper d w)) h (λ v vs l. sized_flat d w vs (memory_grow (min pages (page_limit m)) d.memory v))
effect_flat m pages Instr-F.MemoryCopy d w h =
    let go = λ (e : Data) (n from to : ℕ) (xs : List ℕ). written e (memory_copy d.memory to from n) xs in
    three_flat w d.values (go d) (go (deeper d w)) h (λ n from to xs. written_flat d w xs (memory_copy d.memory to from n))
effect_flat m pages Instr-F.MemoryFill d w h =
    let go = λ (e : Data) (n v at : ℕ) (xs : List ℕ). written e (memory_fill d.memory at v n) xs in
    three_flat w d.values (go d) (go (deeper d w)) h (λ n v at xs. written_flat d w xs (memory_fill d.memory at v n))
effect_flat m pages (Instr-F.I32Const n) d w h = refl
effect_flat m pages (Instr-F.I64Const n) d w h = refl
effect_flat m pages (Instr-F.Num op) d w h =
    some_flat w (operator_of op) (λ o. split Wrong (length (type_of_operator o).takes) d.values (λ args below. computed d below (compute o args)))
    (λ o. split Wrong (length (type_of_operator o).takes) (d.values ++ w) (λ args below. computed (deeper d w) below (compute o args))) h
    (λ o k. split_flat w (length (type_of_operator o).takes) d.values (λ args below. computed d below (compute o args)) (λ args below. computed (deeper d w) below (compute o args)) k
    (λ args below l. computed_flat d w below (compute o args)))
effect_flat m pages _ d w h = absurd (h refl)
