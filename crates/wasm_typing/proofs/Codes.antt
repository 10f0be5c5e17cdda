-- One instruction, and a list of them.
use Rattle.std.proofs.Common.{◌≡◌, ◌+◌, ◌<◌, ℕ, Bool, true, false, List, [], ◌∷◌, ◌++◌, length, take, drop, get_or, suc, refl, sym, ap, subst, ◌∙◌, arith, append_assoc, length-append}
use Rattle.std.specs.Prelude.{IsTrue, Option, Result, IfOk, ◌↔◌}
use Rattle.std.proofs.lemmas.List.{append-nil, take_more, take-append-drop}
use Rattle.std.proofs.Math.Seq.{drop-cons}
use Rattle.wasm_ast.specs.declared.val_types.ValType.{ValType}
use Rattle.wasm_ast.specs.declared.val_types.ValType.TheVariants.{I32}
use Rattle.wasm_ast.specs.declared.trees.Seq.{Seq}
use Rattle.wasm_ast.specs.declared.trees.Instr.{Instr}
use Rattle.wasm_ast.specs.declared.trees.Instr.TheOpen.{Instr-F}
use Rattle.wasm_ast.specs.Trees.{Layer, layer}
use Rattle.wasm_ast.specs.Typing.{Context, Plain, Step, plain, block, loops, ifs, Types, empty, more, results, Changes}
use Rattle.wasm_ast.proofs.Typings.{IsPlain, plain_of, block_of, loop_of, if_of, at_end}
use Rattle.wasm_typing.specs.declared.operands.Operands.{Operands}
use Rattle.wasm_typing.specs.declared.scopes.Scope.{Scope}
use Rattle.wasm_typing.specs.Operands.{Fit, Stand, Image, PutsOn}
use Rattle.wasm_typing.specs.Scopes.{context_in, labels_of, TypeEffect, Stepped}
use Rattle.wasm_typing.proofs.Images.{Then, image_by, image_then, refused}
use Rattle.wasm_typing.proofs.Effects.{if_ok}

module _ (s : Scope) (ls : List (Option ValType)) (i : Instr) (old new : Operands) where
  pub plain_stepped : (y : Layer) (ok : Bool) → layer i ≡ y → IsPlain y → TypeEffect s ls y old new ok → Stepped s ls i old new ok
  plain_stepped y ok e p h =
      image_by (Plain (context_in s) (labels_of ls) y) (Step (context_in s) (labels_of ls) i) (Stand old) (Stand new) ok
      (λ b a w. plain (context_in s) (labels_of ls) i b a (subst (λ z. Plain (context_in s) (labels_of ls) z b a) (sym e) w))
      (λ b a d. plain_of (context_in s) (labels_of ls) i b a y d e p) h

  pub effects_stepped : {E : Type 0} (r : Result Bool E) (y : Layer) → layer i ≡ y → IsPlain y → IfOk r (λ ok. (labels : List (Option ValType)) → TypeEffect s labels y old new ok) → IfOk r (λ ok. Stepped s ls i old new ok)
  effects_stepped r y e p h = if_ok r (λ ok. (labels : List (Option ValType)) → TypeEffect s labels y old new ok) (λ ok. Stepped s ls i old new ok) (λ ok w. plain_stepped y ok e p (w ls)) h

  pub effect_stepped : {E : Type 0} (r : Result Bool E) (y : Layer) → layer i ≡ y → IsPlain y → IfOk r (λ ok. TypeEffect s ls y old new ok) → IfOk r (λ ok. Stepped s ls i old new ok)
  effect_stepped r y e p h = if_ok r (λ ok. TypeEffect s ls y old new ok) (λ ok. Stepped s ls i old new ok) (λ ok w. plain_stepped y ok e p w) h

  pub block_stepped : (bt : Option ValType) (body : Seq) → layer i ≡ Instr-F.Block bt body → Types (context_in s) (results bt ∷ labels_of ls) body.items [] (results bt) → Image (PutsOn (results bt)) (Stand old) (Stand new) true
      → Stepped s ls i old new true
  block_stepped bt body e t h =
      image_by (PutsOn (results bt)) (Step (context_in s) (labels_of ls) i) (Stand old) (Stand new) true
      (λ b a w. block (context_in s) (labels_of ls) i bt body b a e t w) (λ b a d. (block_of (context_in s) (labels_of ls) i b a bt body d e).1) h

  pub block_refused : (bt : Option ValType) (body : Seq) → layer i ≡ Instr-F.Block bt body → (Types (context_in s) (results bt ∷ labels_of ls) body.items [] (results bt) → ⊥) → Stepped s ls i old new false
  block_refused bt body e n =
      refused (Step (context_in s) (labels_of ls) i) (Stand old) (Stand new) (λ b a d. n (block_of (context_in s) (labels_of ls) i b a bt body d e).0)

  pub loop_stepped : (bt : Option ValType) (body : Seq) → layer i ≡ Instr-F.Loop bt body → Types (context_in s) ([] ∷ labels_of ls) body.items [] (results bt) → Image (PutsOn (results bt)) (Stand old) (Stand new) true
      → Stepped s ls i old new true
  loop_stepped bt body e t h =
      image_by (PutsOn (results bt)) (Step (context_in s) (labels_of ls) i) (Stand old) (Stand new) true
      (λ b a w. loops (context_in s) (labels_of ls) i bt body b a e t w) (λ b a d. (loop_of (context_in s) (labels_of ls) i b a bt body d e).1) h

  pub loop_refused : (bt : Option ValType) (body : Seq) → layer i ≡ Instr-F.Loop bt body → (Types (context_in s) ([] ∷ labels_of ls) body.items [] (results bt) → ⊥) → Stepped s ls i old new false
  loop_refused bt body e n =
      refused (Step (context_in s) (labels_of ls) i) (Stand old) (Stand new) (λ b a d. n (loop_of (context_in s) (labels_of ls) i b a bt body d e).0)

  pub if_stepped : (bt : Option ValType) (first second : Seq) (ok : Bool) → layer i ≡ Instr-F.If bt first second → Types (context_in s) (results bt ∷ labels_of ls) first.items [] (results bt)
      → Types (context_in s) (results bt ∷ labels_of ls) second.items [] (results bt) → Image (Changes (I32 ∷ []) (results bt)) (Stand old) (Stand new) ok → Stepped s ls i old new ok
  if_stepped bt first second ok e t u h =
      image_by (Changes (I32 ∷ []) (results bt)) (Step (context_in s) (labels_of ls) i) (Stand old) (Stand new) ok
      (λ b a w. ifs (context_in s) (labels_of ls) i bt first second b w.0 a e t u w.1 w.2) (λ b a d. (if_of (context_in s) (labels_of ls) i b a bt first second d e).2) h

  pub first_refused : (bt : Option ValType) (first second : Seq) → layer i ≡ Instr-F.If bt first second → (Types (context_in s) (results bt ∷ labels_of ls) first.items [] (results bt) → ⊥) → Stepped s ls i old new false
  first_refused bt first second e n =
      refused (Step (context_in s) (labels_of ls) i) (Stand old) (Stand new) (λ b a d. n (if_of (context_in s) (labels_of ls) i b a bt first second d e).0)

  pub second_refused : (bt : Option ValType) (first second : Seq) → layer i ≡ Instr-F.If bt first second → (Types (context_in s) (results bt ∷ labels_of ls) second.items [] (results bt) → ⊥) → Stepped s ls i old new false
  second_refused bt first second e n =
      refused (Step (context_in s) (labels_of ls) i) (Stand old) (Stand new) (λ b a d. n (if_of (context_in s) (labels_of ls) i b a bt first second d e).1)

-- a list, an instruction at a time
last_same : (code first : List Instr) (i last : Instr) → code ++ i ∷ [] ≡ first ++ last ∷ [] → (code ≡ first) × (i ≡ last)
last_same [] [] i last e = (refl, cc)
last_same [] (x ∷ xs) i last e = absurd (omega (arith, ap length e, length-append xs (last ∷ [])))
last_same (y ∷ ys) [] i last e = absurd (omega (arith, ap length e, length-append ys (i ∷ [])))
last_same (y ∷ ys) (x ∷ xs) i last e =
    let h : y ≡ x = cc in
    let t : ys ++ i ∷ [] ≡ xs ++ last ∷ [] = cc in
    let r = last_same ys xs i last t in
    (ap (λ z. z ∷ ys) h ∙ ap (λ z. x ∷ z) r.0, r.1)

longer : (c : Context) (labels : List (List ValType)) (code : List Instr) (i : Instr) (whole : List Instr) (b a : List ValType) → whole ≡ code ++ i ∷ [] → Types c labels whole b a
    → (between : List ValType) × Types c labels code b between × Step c labels i between a
longer c labels code i whole b a e (empty k l ts) = absurd (omega (arith, ap length e, length-append code (i ∷ [])))
longer c labels code i whole b a e (more k l w first last x y z f t s) =
    let r = last_same code first i last (sym e ∙ f) in
    (y, subst (λ d. Types c labels d b y) (sym r.0) t, subst (λ j. Step c labels j y a) (sym r.1) s)

front : (c : Context) (labels : List (List ValType)) (first rest : List Instr) (b a : List ValType) → Types c labels (first ++ rest) b a → (m : List ValType) × Types c labels first b m
front c labels first [] b a t = (a, subst (λ d. Types c labels d b a) (append-nil first) t)
front c labels first (i ∷ rest) b a t =
    let m = front c labels (first ++ i ∷ []) rest b a (subst (λ d. Types c labels d b a) (sym (append_assoc first (i ∷ []) rest)) t) in
    let r = longer c labels first i (first ++ i ∷ []) b m.0 refl m.1 in
    (r.0, r.1)

-- no operands
abbrev pub None_ : List ValType → Type 0
None_ ts = ts ≡ []

-- o stands for exactly what the code can leave from no operands
abbrev pub Exactly : Context → List (List ValType) → List Instr → Operands → Type 0
Exactly c labels code o = Image (Types c labels code) None_ (Stand o) true

pub begins : (c : Context) (labels : List (List ValType)) (o : Operands) → o.kept ≡ [] → o.anything ≡ false → Exactly c labels [] o
begins c labels o k m = record {
  reached = λ b a p t. (refl, subst (λ ks. Fit o.anything ks a) (sym k) (subst (λ x. Fit x [] a) (sym m) (sym (at_end c labels b a t) ∙ p)));
  source = λ h a q.
      let none : a ≡ [] = subst (λ x. Fit x [] a) m (subst (λ ks. Fit o.anything ks a) k q) in
      ([], refl, subst (λ x. Types c labels [] [] x) (sym none) (empty c labels []));
}

same_code : (code : List Instr) (k : ℕ) (i : Instr) → k < length code → i ≡ get_or code k i → code ≡ (take k code ++ i ∷ []) ++ drop (suc k) code
same_code code k i lt e =
    sym (take-append-drop k code) ∙ (ap (λ d. take k code ++ d) (drop-cons code k i lt ∙ ap (λ j. j ∷ drop (suc k) code) (sym e)) ∙ sym (append_assoc (take k code) (i ∷ []) (drop (suc k) code)))

pub goes_on : (c : Context) (labels : List (List ValType)) (code : List Instr) (k : ℕ) (i : Instr) (old new : Operands) → k < length code → i ≡ get_or code k i → Exactly c labels (take k code) old
    → Image (Step c labels i) (Stand old) (Stand new) true → Exactly c labels (take (k + 1) code) new
goes_on c labels code k i old new lt e x m =
    let one : take (k + 1) code ≡ take k code ++ i ∷ [] = take_more code k i lt ∙ ap (λ j. take k code ++ j ∷ []) (sym e) in
    subst (λ d. Image (Types c labels d) None_ (Stand new) true) (sym one)
    (image_by (Then (Types c labels (take k code)) (Step c labels i)) (Types c labels (take k code ++ i ∷ [])) None_ (Stand new) true
    (λ b a w. more c labels (take k code ++ i ∷ []) (take k code) i b w.0 a refl w.1 w.2)
    (λ b a t. longer c labels (take k code) i (take k code ++ i ∷ []) b a refl t)
    (image_then (Types c labels (take k code)) (Step c labels i) None_ (Stand old) (Stand new) true x m))

pub ends_here : (c : Context) (labels : List (List ValType)) (code : List Instr) (k : ℕ) (i : Instr) (old new : Operands) (a : List ValType) → k < length code → i ≡ get_or code k i → Exactly c labels (take k code) old
    → Image (Step c labels i) (Stand old) (Stand new) false → Types c labels code [] a → IsTrue false
ends_here c labels code k i old new a lt e x m t =
    let f = front c labels (take k code ++ i ∷ []) (drop (suc k) code) [] a (subst (λ d. Types c labels d [] a) (same_code code k i lt e) t) in
    let w = longer c labels (take k code) i (take k code ++ i ∷ []) [] f.0 refl f.1 in
    (m.reached w.0 f.0 (x.reached [] w.0 refl w.1).1 w.2).0

-- an instruction that has no typing
pub untyped_stepped : (s : Scope) (ls : List (Option ValType)) (i : Instr) (old new : Operands) (y : Layer) → layer i ≡ y → IsPlain y → ((b a : List ValType) → Plain (context_in s) (labels_of ls) y b a → ⊥) → Stepped s ls i old new false
untyped_stepped s ls i old new y e p n = plain_stepped s ls i old new y false e p (refused (Plain (context_in s) (labels_of ls) y) (Stand old) (Stand new) n)

-- what a check of a part says
pub yes : (b : Bool) (A : Type 0) → IsTrue b ↔ A → b ≡ true → A
yes b A e h = e.0 h

pub no_ : (b : Bool) (A : Type 0) → IsTrue b ↔ A → b ≡ false → A → ⊥
no_ b A e h a = let f : false ≡ true = sym h ∙ e.1 a in cc
