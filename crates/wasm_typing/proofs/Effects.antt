-- Each instruction without parts, from what its parts do.
use Rattle.std.proofs.Common.{◌≡◌, ◌<◌, ◌≤◌, ◌^◌, ℕ, Bool, true, false, List, [], ◌∷◌, ◌++◌, length, get_or, zero, suc, refl, sym, ap, subst, ◌∙◌, arith}
use Rattle.std.specs.Prelude.{IsTrue, Option, Some, None, Result, Ok, Err, IfOk, ◌↔◌, reverse, slice_get, option_map, if◌then◌else◌}
use Rattle.std.proofs.lemmas.Option.{slice_get-map}
use Rattle.std.proofs.Math.Pow.{pow_mono, pow-lt}
use Rattle.wasm_ast.specs.declared.val_types.ValType.{ValType}
use Rattle.wasm_ast.specs.declared.val_types.ValType.TheVariants.{I32}
use Rattle.wasm_ast.specs.declared.trees.Instr.TheOpen.{Instr-F}
use Rattle.wasm_ast.specs.declared.func_types.FuncType.{FuncType}
use Rattle.wasm_ast.specs.declared.global_vars.GlobalVar.{GlobalVar}
use Rattle.wasm_ast.specs.declared.tables.Table.{Table}
use Rattle.wasm_ast.specs.declared.memory_types.MemoryType.{MemoryType}
use Rattle.wasm_ast.specs.Spaces.{type_of, table_of, memory_of}
use Rattle.wasm_ast.specs.Operators.{operator_type, Access, load_of, store_of}
use Rattle.wasm_ast.specs.Typing.{results, Plain, Lead, Changes}
use Rattle.wasm_typing.specs.declared.opcodes.Operator.{Operator}
use Rattle.wasm_typing.specs.declared.opcodes.Move.{Move}
use Rattle.wasm_typing.specs.declared.operands.Operands.{Operands}
use Rattle.wasm_typing.specs.declared.scopes.Scope.{Scope}
use Rattle.wasm_typing.specs.Opcodes.{type_in, Accesses}
use Rattle.wasm_typing.specs.Operands.{Stand, Image, Takes, PutsOn, Jumps, Chooses}
use Rattle.wasm_typing.specs.Scopes.{context_in, labels_of, TypeEffect}
use Rattle.wasm_typing.proofs.Images.{Then, Given, image_by, image_then, image_stops, holds_image, false_not, given_some, given_none, changes_more, changes_first, changes_takes, changes_leaves, refused, same_some, some_none}

-- under a result
pub if_ok : {E : Type 0} (r : Result Bool E) (X Y : Bool → Type 0) → ((ok : Bool) → X ok → Y ok) → IfOk r X → IfOk r Y
if_ok (Ok a) X Y f x = f a x
if_ok (Err e) X Y f x = tt

label_there : (ls : List (Option ValType)) (n : ℕ) (bt : Option ValType) → Some bt ≡ slice_get ls n → slice_get (labels_of ls) n ≡ Some (results bt)
label_there ls n bt e = slice_get-map results ls n ∙ ap (option_map results) (sym e)

label_absent : (ls : List (Option ValType)) (n : ℕ) → None ≡ slice_get ls n → slice_get (labels_of ls) n ≡ None
label_absent ls n e = slice_get-map results ls n ∙ ap (option_map results) (sym e)

module _ (s : Scope) (old new : Operands) where
  pub br_effect : (ls : List (Option ValType)) (n : ℕ) (bt : Option ValType) (ok : Bool) → Some bt ≡ slice_get ls n → Image (Jumps (results bt)) (Stand old) (Stand new) ok → TypeEffect s ls (Instr-F.Br n) old new ok
  br_effect ls n bt ok e h = given_some (slice_get (labels_of ls) n) (results bt) Jumps (Stand old) (Stand new) ok (label_there ls n bt e) h

  pub br_nowhere : (ls : List (Option ValType)) (n : ℕ) → None ≡ slice_get ls n → TypeEffect s ls (Instr-F.Br n) old new false
  br_nowhere ls n e = given_none (slice_get (labels_of ls) n) Jumps (Stand old) (Stand new) (label_absent ls n e)

  pub br_if_effect : (mid : Operands) (ls : List (Option ValType)) (n : ℕ) (bt : Option ValType) (ok : Bool) → Some bt ≡ slice_get ls n → Image (Takes (I32 ∷ [])) (Stand old) (Stand mid) true
      → Image (Changes (results bt) (results bt)) (Stand mid) (Stand new) ok → TypeEffect s ls (Instr-F.BrIf n) old new ok
  br_if_effect mid ls n bt ok e g h =
      given_some (slice_get (labels_of ls) n) (results bt) (λ ts. Changes (I32 ∷ ts) ts) (Stand old) (Stand new) ok (label_there ls n bt e)
      (changes_more (I32 ∷ []) (results bt) (results bt) (Stand old) (Stand mid) (Stand new) ok g h)

  pub br_if_stops : (ls : List (Option ValType)) (n : ℕ) (bt : Option ValType) → Some bt ≡ slice_get ls n → Image (Takes (I32 ∷ [])) (Stand old) (Stand new) false → TypeEffect s ls (Instr-F.BrIf n) old new false
  br_if_stops ls n bt e g =
      given_some (slice_get (labels_of ls) n) (results bt) (λ ts. Changes (I32 ∷ ts) ts) (Stand old) (Stand new) false (label_there ls n bt e)
      (changes_first (I32 ∷ []) (results bt) (results bt) (Stand old) (Stand new) (Stand new) g)

  pub call_effect : (n : ℕ) (ft : FuncType) (ok : Bool) → Some ft ≡ type_of s.program.now n → Image (Changes (reverse ft.params) ft.results) (Stand old) (Stand new) ok
      → (ls : List (Option ValType)) → TypeEffect s ls (Instr-F.Call n) old new ok
  call_effect n ft ok e h ls = given_some (type_of s.program.now n) ft (λ f. Changes (reverse f.params) f.results) (Stand old) (Stand new) ok (sym e) h

  -- the same with a second condition
  indirect : (n : ℕ) (ft : FuncType) (t : Table) (ok : Bool) → Some ft ≡ slice_get s.program.now.types n → Some t ≡ table_of s.program.now → Image (Changes (I32 ∷ reverse ft.params) ft.results) (Stand old) (Stand new) ok
      → (ls : List (Option ValType)) → TypeEffect s ls (Instr-F.CallIndirect n) old new ok
  indirect n ft t ok e f h ls =
      image_by (Given (slice_get s.program.now.types n) (λ g. Changes (I32 ∷ reverse g.params) g.results)) (Plain (context_in s) (labels_of ls) (Instr-F.CallIndirect n)) (Stand old) (Stand new) ok
      (λ b a w. (w.0, w.1, (t, sym f), w.2)) (λ b a p. (p.0, p.1, p.3))
      (given_some (slice_get s.program.now.types n) ft (λ g. Changes (I32 ∷ reverse g.params) g.results) (Stand old) (Stand new) ok (sym e) h)

  pub call_indirect_effect : (mid : Operands) (n : ℕ) (ft : FuncType) (t : Table) (ok : Bool) → Some ft ≡ slice_get s.program.now.types n → Some t ≡ table_of s.program.now → Image (Takes (I32 ∷ [])) (Stand old) (Stand mid) true
      → Image (Changes (reverse ft.params) ft.results) (Stand mid) (Stand new) ok → (ls : List (Option ValType)) → TypeEffect s ls (Instr-F.CallIndirect n) old new ok
  call_indirect_effect mid n ft t ok e f g h = indirect n ft t ok e f (changes_more (I32 ∷ []) (reverse ft.params) ft.results (Stand old) (Stand mid) (Stand new) ok g h)

  pub call_indirect_stops : (n : ℕ) (ft : FuncType) (t : Table) → Some ft ≡ slice_get s.program.now.types n → Some t ≡ table_of s.program.now → Image (Takes (I32 ∷ [])) (Stand old) (Stand new) false
      → (ls : List (Option ValType)) → TypeEffect s ls (Instr-F.CallIndirect n) old new false
  call_indirect_stops n ft t e f g = indirect n ft t false e f (changes_first (I32 ∷ []) (reverse ft.params) ft.results (Stand old) (Stand new) (Stand new) g)

  selects : (ls : List (Option ValType)) (ok : Bool) → Image (Then (Takes (I32 ∷ [])) Chooses) (Stand old) (Stand new) ok → TypeEffect s ls Instr-F.Select old new ok
  selects ls ok h =
      image_by (Then (Takes (I32 ∷ [])) Chooses) (Plain (context_in s) (labels_of ls) Instr-F.Select) (Stand old) (Stand new) ok
      (λ b a w. (w.2.0, (w.2.1.0, w.1 ∙ ap (λ x. I32 ∷ x) w.2.1.1, w.2.1.2)))
      (λ b a p. (p.0 ∷ (p.0 ∷ p.1.0), p.1.1, (p.0, (p.1.0, refl, p.1.2))))
      h

  pub select_effect : (mid : Operands) (ok : Bool) → Image (Takes (I32 ∷ [])) (Stand old) (Stand mid) true → Image Chooses (Stand mid) (Stand new) ok → (ls : List (Option ValType)) → TypeEffect s ls Instr-F.Select old new ok
  select_effect mid ok g h ls = selects ls ok (image_then (Takes (I32 ∷ [])) Chooses (Stand old) (Stand mid) (Stand new) ok g h)

  pub select_stops : Image (Takes (I32 ∷ [])) (Stand old) (Stand new) false → (ls : List (Option ValType)) → TypeEffect s ls Instr-F.Select old new false
  select_stops g ls = selects ls false (image_stops (Takes (I32 ∷ [])) Chooses (Stand old) (Stand new) (Stand new) g)

  pub local_get_effect : (n : ℕ) (t : ValType) (ok : Bool) → Some t ≡ slice_get (context_in s).locals n → Image (Changes [] (t ∷ [])) (Stand old) (Stand new) ok → (ls : List (Option ValType)) → TypeEffect s ls (Instr-F.LocalGet n) old new ok
  local_get_effect n t ok e h ls = given_some (slice_get (context_in s).locals n) t (λ u. PutsOn (u ∷ [])) (Stand old) (Stand new) ok (sym e) (changes_leaves (t ∷ []) (Stand old) (Stand new) ok h)

  pub local_set_effect : (n : ℕ) (t : ValType) (ok : Bool) → Some t ≡ slice_get (context_in s).locals n → Image (Changes (t ∷ []) []) (Stand old) (Stand new) ok → (ls : List (Option ValType)) → TypeEffect s ls (Instr-F.LocalSet n) old new ok
  local_set_effect n t ok e h ls = given_some (slice_get (context_in s).locals n) t (λ u. Takes (u ∷ [])) (Stand old) (Stand new) ok (sym e) (changes_takes (t ∷ []) (Stand old) (Stand new) ok h)

  pub local_tee_effect : (n : ℕ) (t : ValType) (ok : Bool) → Some t ≡ slice_get (context_in s).locals n → Image (Changes (t ∷ []) (t ∷ [])) (Stand old) (Stand new) ok → (ls : List (Option ValType)) → TypeEffect s ls (Instr-F.LocalTee n) old new ok
  local_tee_effect n t ok e h ls = given_some (slice_get (context_in s).locals n) t (λ u. Changes (u ∷ []) (u ∷ [])) (Stand old) (Stand new) ok (sym e) h

  pub global_get_effect : (n : ℕ) (g : GlobalVar) (ok : Bool) → Some g ≡ slice_get s.program.now.globals n → Image (Changes [] (g.val_type ∷ [])) (Stand old) (Stand new) ok → (ls : List (Option ValType)) → TypeEffect s ls (Instr-F.GlobalGet n) old new ok
  global_get_effect n g ok e h ls =
      given_some (slice_get s.program.now.globals n) g (λ v. PutsOn (v.val_type ∷ [])) (Stand old) (Stand new) ok (sym e) (changes_leaves (g.val_type ∷ []) (Stand old) (Stand new) ok h)

  pub global_set_effect : (n : ℕ) (g : GlobalVar) (ok : Bool) → Some g ≡ slice_get s.program.now.globals n → g.mutable ≡ true → Image (Changes (g.val_type ∷ []) []) (Stand old) (Stand new) ok
      → (ls : List (Option ValType)) → TypeEffect s ls (Instr-F.GlobalSet n) old new ok
  global_set_effect n g ok e m h ls =
      image_by (Given (slice_get s.program.now.globals n) (λ v b a. (v.mutable ≡ true) × Takes (v.val_type ∷ []) b a)) (Plain (context_in s) (labels_of ls) (Instr-F.GlobalSet n)) (Stand old) (Stand new) ok
      (λ b a w. (w.0, w.1, w.2.0, w.2.1)) (λ b a p. (p.0, p.1, (p.2, p.3)))
      (given_some (slice_get s.program.now.globals n) g (λ v b a. (v.mutable ≡ true) × Takes (v.val_type ∷ []) b a) (Stand old) (Stand new) ok (sym e)
      (image_by (Takes (g.val_type ∷ [])) (λ b a. (g.mutable ≡ true) × Takes (g.val_type ∷ []) b a) (Stand old) (Stand new) ok (λ b a w. (m, w)) (λ b a w. w.1) (changes_takes (g.val_type ∷ []) (Stand old) (Stand new) ok h)))

  pub memory_size_effect : (t : MemoryType) (ok : Bool) → Some t ≡ memory_of s.program.now → Image (Changes [] (I32 ∷ [])) (Stand old) (Stand new) ok → (ls : List (Option ValType)) → TypeEffect s ls Instr-F.MemorySize old new ok
  memory_size_effect t ok e h ls = given_some (memory_of s.program.now) t (λ u. PutsOn (I32 ∷ [])) (Stand old) (Stand new) ok (sym e) (changes_leaves (I32 ∷ []) (Stand old) (Stand new) ok h)

  pub memory_grow_effect : (t : MemoryType) (ok : Bool) → Some t ≡ memory_of s.program.now → Image (Changes (I32 ∷ []) (I32 ∷ [])) (Stand old) (Stand new) ok → (ls : List (Option ValType)) → TypeEffect s ls Instr-F.MemoryGrow old new ok
  memory_grow_effect t ok e h ls = given_some (memory_of s.program.now) t (λ u. Changes (I32 ∷ []) (I32 ∷ [])) (Stand old) (Stand new) ok (sym e) h

  pub memory_copy_effect : (t : MemoryType) (ok : Bool) → Some t ≡ memory_of s.program.now → Image (Changes (I32 ∷ (I32 ∷ (I32 ∷ []))) []) (Stand old) (Stand new) ok
      → (ls : List (Option ValType)) → TypeEffect s ls Instr-F.MemoryCopy old new ok
  memory_copy_effect t ok e h ls =
      given_some (memory_of s.program.now) t (λ u. Takes (I32 ∷ (I32 ∷ (I32 ∷ [])))) (Stand old) (Stand new) ok (sym e) (changes_takes (I32 ∷ (I32 ∷ (I32 ∷ []))) (Stand old) (Stand new) ok h)

  pub memory_fill_effect : (t : MemoryType) (ok : Bool) → Some t ≡ memory_of s.program.now → Image (Changes (I32 ∷ (I32 ∷ (I32 ∷ []))) []) (Stand old) (Stand new) ok
      → (ls : List (Option ValType)) → TypeEffect s ls Instr-F.MemoryFill old new ok
  memory_fill_effect t ok e h ls =
      given_some (memory_of s.program.now) t (λ u. Takes (I32 ∷ (I32 ∷ (I32 ∷ [])))) (Stand old) (Stand new) ok (sym e) (changes_takes (I32 ∷ (I32 ∷ (I32 ∷ []))) (Stand old) (Stand new) ok h)

  pub num_effect : (n : ℕ) (o : Operator) (ok : Bool) → Some (type_in o) ≡ operator_type n → Image (Changes (type_in o).takes (o.leaves ∷ [])) (Stand old) (Stand new) ok → (ls : List (Option ValType)) → TypeEffect s ls (Instr-F.Num n) old new ok
  num_effect n o ok e h ls = given_some (operator_type n) (type_in o) (λ u. Changes u.takes (u.leaves ∷ [])) (Stand old) (Stand new) ok (sym e) h

-- operands of an operator
pub two_taken : (o : Operator) → o.binary ≡ true → o.operand ∷ (o.operand ∷ []) ≡ (type_in o).takes
two_taken o e = ap (λ b. if b then o.operand ∷ (o.operand ∷ []) else o.operand ∷ []) (sym e)

pub one_taken : (o : Operator) → o.binary ≡ false → o.operand ∷ [] ≡ (type_in o).takes
one_taken o e = ap (λ b. if b then o.operand ∷ (o.operand ∷ []) else o.operand ∷ []) (sym e)

pub const_effect : (C : Type 0) (t : ValType) (old new : Operands) (ok : Bool) → C → Image (Changes [] (t ∷ [])) (Stand old) (Stand new) ok → Image (λ b a. C × PutsOn (t ∷ []) b a) (Stand old) (Stand new) ok
const_effect C t old new ok h r = holds_image C (PutsOn (t ∷ [])) (Stand old) (Stand new) ok h (changes_leaves (t ∷ []) (Stand old) (Stand new) ok r)

-- several labels
pub results_same : (a b : Option ValType) → results a ≡ results b → a ≡ b
results_same None None e = refl
results_same None (Some t) e = cc
results_same (Some t) None e = cc
results_same (Some t) (Some u) e = let f : t ≡ u = cc in ap (λ v. Some v) f

pub lead_from : (labels : List (List ValType)) (ts : List ValType) (ns : List ℕ) → ((k : ℕ) → k < length ns → slice_get labels (get_or ns k 0) ≡ Some ts) → Lead labels ts ns
lead_from labels ts [] h = tt
lead_from labels ts (n ∷ ns) h = (h 0 (omega arith), lead_from labels ts ns (λ k lt. h (suc k) (omega arith)))

pub lead_at : (labels : List (List ValType)) (ts : List ValType) (ns : List ℕ) (k : ℕ) → Lead labels ts ns → k < length ns → slice_get labels (get_or ns k 0) ≡ Some ts
lead_at labels ts [] k h lt = absurd (omega arith)
lead_at labels ts (n ∷ ns) zero h lt = h.0
lead_at labels ts (n ∷ ns) (suc k) h lt = lead_at labels ts ns k h.1 (omega arith)

pub same_label : (ls : List (Option ValType)) (ns : List ℕ) (k : ℕ) (found taken : Option ValType) → Some found ≡ slice_get ls (get_or ns k 0) → found ≡ taken → slice_get (labels_of ls) (get_or ns k 0) ≡ Some (results taken)
same_label ls ns k found taken e f = label_there ls (get_or ns k 0) found e ∙ ap (λ b. Some (results b)) f

pub other_label : (ls : List (Option ValType)) (ns : List ℕ) (k : ℕ) (found taken : Option ValType) (b : Bool) → k < length ns → Some found ≡ slice_get ls (get_or ns k 0) → (found ≡ taken → IsTrue b) → b ≡ false
    → IsTrue false ↔ Lead (labels_of ls) (results taken) ns
other_label ls ns k found taken b lt e f off = (
  (λ h. false_not h),
  (λ lead.
      let there = lead_at (labels_of ls) (results taken) ns k lead lt in
      subst IsTrue off (f (results_same found taken (same_some (results found) (results taken) (sym (label_there ls (get_or ns k 0) found e) ∙ there))))),
)

pub no_label : (ls : List (Option ValType)) (ns : List ℕ) (k : ℕ) (taken : Option ValType) → k < length ns → None ≡ slice_get ls (get_or ns k 0) → IsTrue false ↔ Lead (labels_of ls) (results taken) ns
no_label ls ns k taken lt e = (
  (λ h. false_not h),
  (λ lead. some_none (slice_get (labels_of ls) (get_or ns k 0)) (results taken) (label_absent ls (get_or ns k 0) e) (lead_at (labels_of ls) (results taken) ns k lead lt)),
)

module _ (s : Scope) (old new : Operands) where
  -- the types of all targets are those of the default
  tables : (ls : List (Option ValType)) (ns : List ℕ) (n : ℕ) (bt : Option ValType) (ok : Bool) → Some bt ≡ slice_get ls n → Lead (labels_of ls) (results bt) ns → Image (Jumps (I32 ∷ results bt)) (Stand old) (Stand new) ok
      → TypeEffect s ls (Instr-F.BrTable ns n) old new ok
  tables ls ns n bt ok e l h =
      image_by (Given (slice_get (labels_of ls) n) (λ ts b a. Lead (labels_of ls) ts ns × Jumps (I32 ∷ ts) b a)) (Plain (context_in s) (labels_of ls) (Instr-F.BrTable ns n)) (Stand old) (Stand new) ok
      (λ b a w. (w.0, w.2.0, w.1, w.2.1)) (λ b a p. (p.0, p.2, (p.1, p.3)))
      (given_some (slice_get (labels_of ls) n) (results bt) (λ ts b a. Lead (labels_of ls) ts ns × Jumps (I32 ∷ ts) b a) (Stand old) (Stand new) ok (label_there ls n bt e)
      (image_by (Jumps (I32 ∷ results bt)) (λ b a. Lead (labels_of ls) (results bt) ns × Jumps (I32 ∷ results bt) b a) (Stand old) (Stand new) ok (λ b a w. (l, w)) (λ b a w. w.1) h))

  pub table_stops : (ls : List (Option ValType)) (ns : List ℕ) (n : ℕ) (bt : Option ValType) → Some bt ≡ slice_get ls n → Lead (labels_of ls) (results bt) ns → Image (Takes (I32 ∷ [])) (Stand old) (Stand new) false
      → TypeEffect s ls (Instr-F.BrTable ns n) old new false
  table_stops ls ns n bt e l h =
      tables ls ns n bt false e l (image_by (Then (Takes (I32 ∷ [])) (Jumps (results bt))) (Jumps (I32 ∷ results bt)) (Stand old) (Stand new) false
      (λ b a w. (w.2.0, w.1 ∙ ap (λ x. I32 ∷ x) w.2.1)) (λ b a p. (results bt ++ p.0, p.1, (p.0, refl))) (image_stops (Takes (I32 ∷ [])) (Jumps (results bt)) (Stand old) (Stand new) (Stand new) h))

  pub table_effect : (mid : Operands) (ls : List (Option ValType)) (ns : List ℕ) (n : ℕ) (bt : Option ValType) (ok : Bool) → Some bt ≡ slice_get ls n → Lead (labels_of ls) (results bt) ns
      → Image (Takes (I32 ∷ [])) (Stand old) (Stand mid) true → Image (Jumps (results bt)) (Stand mid) (Stand new) ok → TypeEffect s ls (Instr-F.BrTable ns n) old new ok
  table_effect mid ls ns n bt ok e l g h =
      tables ls ns n bt ok e l (image_by (Then (Takes (I32 ∷ [])) (Jumps (results bt))) (Jumps (I32 ∷ results bt)) (Stand old) (Stand new) ok
      (λ b a w. (w.2.0, w.1 ∙ ap (λ x. I32 ∷ x) w.2.1)) (λ b a p. (results bt ++ p.0, p.1, (p.0, refl))) (image_then (Takes (I32 ∷ [])) (Jumps (results bt)) (Stand old) (Stand mid) (Stand new) ok g h))

  pub table_differs : (ls : List (Option ValType)) (ns : List ℕ) (n : ℕ) (bt : Option ValType) → Some bt ≡ slice_get ls n → (Lead (labels_of ls) (results bt) ns → ⊥) → TypeEffect s ls (Instr-F.BrTable ns n) old new false
  table_differs ls ns n bt e l =
      refused (Plain (context_in s) (labels_of ls) (Instr-F.BrTable ns n)) (Stand old) (Stand new)
      (λ b a p. l (subst (λ ts. Lead (labels_of ls) ts ns) (same_some p.0 (results bt) (sym p.2 ∙ label_there ls n bt e)) p.1))

-- what a load or a store is known to move
pub record Moves (o : Option Access) (m : Move) : Type 0 where
  pub access : Access
  pub there : o ≡ Some access
  pub kind : access.val_type ≡ m.val_type
  pub width : access.width ≡ 2 ^ m.exponent

pub moves_of : (o : Option Access) (m : Move) → Accesses o (Some m) → Moves o m
moves_of None m h = absurd h
moves_of (Some a) m h = record { access = a; there = refl; kind = h.0; width = h.1 }

too_wide : (align k w : ℕ) → k < align → w ≡ 2 ^ k → 2 ^ align ≤ w → ⊥
too_wide align k w h e g = let p : 2 ^ k < 2 ^ align = pow-lt h in omega arith

wide : (align k w : ℕ) → align ≤ k → w ≡ 2 ^ k → 2 ^ align ≤ w
wide align k w h e = let p : 2 ^ align ≤ 2 ^ k = pow_mono h in omega arith

module _ (s : Scope) (old new : Operands) (n align offset : ℕ) (m : Move) where
  pub load_narrow : Accesses (load_of n) (Some m) → m.exponent < align → (ls : List (Option ValType)) → TypeEffect s ls (Instr-F.Load n align offset) old new false
  load_narrow h lt ls =
      let k = moves_of (load_of n) m h in
      refused (Plain (context_in s) (labels_of ls) (Instr-F.Load n align offset)) (Stand old) (Stand new)
      (λ b a p. too_wide align m.exponent k.access.width lt k.width (subst (λ x. 2 ^ align ≤ x.width) (same_some p.0 k.access (sym p.1 ∙ k.there)) p.2))

  pub load_effect : (t : MemoryType) (ok : Bool) → Accesses (load_of n) (Some m) → align ≤ m.exponent → Some t ≡ memory_of s.program.now → Image (Changes (I32 ∷ []) (m.val_type ∷ [])) (Stand old) (Stand new) ok
      → (ls : List (Option ValType)) → TypeEffect s ls (Instr-F.Load n align offset) old new ok
  load_effect t ok h le e r ls =
      let k = moves_of (load_of n) m h in
      image_by (Given (load_of n) (λ x. Changes (I32 ∷ []) (x.val_type ∷ []))) (Plain (context_in s) (labels_of ls) (Instr-F.Load n align offset)) (Stand old) (Stand new) ok
      (λ b a w. (w.0, w.1, subst (λ x. 2 ^ align ≤ x.width) (same_some k.access w.0 (sym k.there ∙ w.1)) (wide align m.exponent k.access.width le k.width), (t, sym e), w.2)) (λ b a p. (p.0, p.1, p.4))
      (given_some (load_of n) k.access (λ x. Changes (I32 ∷ []) (x.val_type ∷ [])) (Stand old) (Stand new) ok k.there (subst (λ v. Image (Changes (I32 ∷ []) (v ∷ [])) (Stand old) (Stand new) ok) (sym k.kind) r))

  pub store_narrow : Accesses (store_of n) (Some m) → m.exponent < align → (ls : List (Option ValType)) → TypeEffect s ls (Instr-F.Store n align offset) old new false
  store_narrow h lt ls =
      let k = moves_of (store_of n) m h in
      refused (Plain (context_in s) (labels_of ls) (Instr-F.Store n align offset)) (Stand old) (Stand new)
      (λ b a p. too_wide align m.exponent k.access.width lt k.width (subst (λ x. 2 ^ align ≤ x.width) (same_some p.0 k.access (sym p.1 ∙ k.there)) p.2))

  pub store_effect : (t : MemoryType) (ok : Bool) → Accesses (store_of n) (Some m) → align ≤ m.exponent → Some t ≡ memory_of s.program.now → Image (Changes (m.val_type ∷ (I32 ∷ [])) []) (Stand old) (Stand new) ok
      → (ls : List (Option ValType)) → TypeEffect s ls (Instr-F.Store n align offset) old new ok
  store_effect t ok h le e r ls =
      let k = moves_of (store_of n) m h in
      image_by (Given (store_of n) (λ x. Takes (x.val_type ∷ (I32 ∷ [])))) (Plain (context_in s) (labels_of ls) (Instr-F.Store n align offset)) (Stand old) (Stand new) ok
      (λ b a w. (w.0, w.1, subst (λ x. 2 ^ align ≤ x.width) (same_some k.access w.0 (sym k.there ∙ w.1)) (wide align m.exponent k.access.width le k.width), (t, sym e), w.2)) (λ b a p. (p.0, p.1, p.4))
      (given_some (store_of n) k.access (λ x. Takes (x.val_type ∷ (I32 ∷ []))) (Stand old) (Stand new) ok k.there
      (subst (λ v. Image (Takes (v ∷ (I32 ∷ []))) (Stand old) (Stand new) ok) (sym k.kind) (changes_takes (m.val_type ∷ (I32 ∷ [])) (Stand old) (Stand new) ok r)))
