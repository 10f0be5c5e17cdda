-- A typing from its first instruction.
use Rattle.std.proofs.Common.{◌≡◌, List, [], ◌∷◌, ◌++◌, length, refl, sym, ap, subst, ◌∙◌, arith, length-append}
use Rattle.std.specs.Prelude.{Option}
use Rattle.wasm_ast.specs.declared.val_types.ValType.{ValType}
use Rattle.wasm_ast.specs.declared.val_types.ValType.TheVariants.{I32}
use Rattle.wasm_ast.specs.declared.trees.Seq.{Seq}
use Rattle.wasm_ast.specs.declared.trees.Instr.{Instr}
use Rattle.wasm_ast.specs.declared.trees.Instr.TheOpen.{Instr-F}
use Rattle.wasm_ast.specs.Trees.{Layer, layer}
use Rattle.wasm_ast.specs.Typing.{Context, Plain, Step, plain, block, loops, ifs, Types, empty, more, results}

abbrev pub IsPlain : Layer → Type 0
IsPlain (Instr-F.Block bt s) = ⊥
IsPlain (Instr-F.Loop bt s) = ⊥
IsPlain (Instr-F.If bt s r) = ⊥
IsPlain _ = Unit {0}

pub plain_of : (c : Context) (labels : List (List ValType)) (i : Instr) (b a : List ValType) (x : Layer) → Step c labels i b a → layer i ≡ x → IsPlain x → Plain c labels x b a
plain_of c labels i b a x (plain k l j d e p) q h = subst (λ y. Plain c labels y b a) q p
plain_of c labels i b a x (block k l j bt body d e f t g) q h = absurd (subst IsPlain (sym q ∙ f) h)
plain_of c labels i b a x (loops k l j bt body d e f t g) q h = absurd (subst IsPlain (sym q ∙ f) h)
plain_of c labels i b a x (ifs k l j bt r s d w e f t u g v) q h = absurd (subst IsPlain (sym q ∙ f) h)

pub block_of : (c : Context) (labels : List (List ValType)) (i : Instr) (b a : List ValType) (bt : Option ValType) (body : Seq) → Step c labels i b a → layer i ≡ Instr-F.Block bt body
    → Types c (results bt ∷ labels) body.items [] (results bt) × (a ≡ results bt ++ b)
block_of c labels i b a bt body (plain k l j d e p) q = absurd (subst (λ y. Plain c labels y b a) q p)
block_of c labels i b a bt body (loops k l j bt' body' d e f t g) q = let both : Instr-F.Loop bt' body' ≡ Instr-F.Block bt body = sym f ∙ q in cc
block_of c labels i b a bt body (ifs k l j bt' r s d w e f t u g v) q = let both : Instr-F.If bt' r s ≡ Instr-F.Block bt body = sym f ∙ q in cc
block_of c labels i b a bt body (block k l j bt' body' d e f t g) q =
    let both : Instr-F.Block bt' body' ≡ Instr-F.Block bt body = sym f ∙ q in
    let same : bt' ≡ bt = cc in
    let same' : body' ≡ body = cc in
    (subst (λ x. Types c (results x ∷ labels) body.items [] (results x)) same (subst (λ y. Types c (results bt' ∷ labels) y.items [] (results bt')) same' t), g ∙ ap (λ x. results x ++ b) same)

pub loop_of : (c : Context) (labels : List (List ValType)) (i : Instr) (b a : List ValType) (bt : Option ValType) (body : Seq) → Step c labels i b a → layer i ≡ Instr-F.Loop bt body
    → Types c ([] ∷ labels) body.items [] (results bt) × (a ≡ results bt ++ b)
loop_of c labels i b a bt body (plain k l j d e p) q = absurd (subst (λ y. Plain c labels y b a) q p)
loop_of c labels i b a bt body (block k l j bt' body' d e f t g) q = let both : Instr-F.Block bt' body' ≡ Instr-F.Loop bt body = sym f ∙ q in cc
loop_of c labels i b a bt body (ifs k l j bt' r s d w e f t u g v) q = let both : Instr-F.If bt' r s ≡ Instr-F.Loop bt body = sym f ∙ q in cc
loop_of c labels i b a bt body (loops k l j bt' body' d e f t g) q =
    let both : Instr-F.Loop bt' body' ≡ Instr-F.Loop bt body = sym f ∙ q in
    let same : bt' ≡ bt = cc in
    let same' : body' ≡ body = cc in
    (subst (λ x. Types c ([] ∷ labels) body.items [] (results x)) same (subst (λ y. Types c ([] ∷ labels) y.items [] (results bt')) same' t), g ∙ ap (λ x. results x ++ b) same)

pub if_of : (c : Context) (labels : List (List ValType)) (i : Instr) (b a : List ValType) (bt : Option ValType) (first second : Seq) → Step c labels i b a → layer i ≡ Instr-F.If bt first second
    → Types c (results bt ∷ labels) first.items [] (results bt) × Types c (results bt ∷ labels) second.items [] (results bt) × ((below : List ValType) × (b ≡ I32 ∷ below) × (a ≡ results bt ++ below))
if_of c labels i b a bt first second (plain k l j d e p) q = absurd (subst (λ y. Plain c labels y b a) q p)
if_of c labels i b a bt first second (block k l j bt' body' d e f t g) q = let both : Instr-F.Block bt' body' ≡ Instr-F.If bt first second = sym f ∙ q in cc
if_of c labels i b a bt first second (loops k l j bt' body' d e f t g) q = let both : Instr-F.Loop bt' body' ≡ Instr-F.If bt first second = sym f ∙ q in cc
if_of c labels i b a bt first second (ifs k l j bt' r s d w e f t u g v) q =
    let both : Instr-F.If bt' r s ≡ Instr-F.If bt first second = sym f ∙ q in
    let same : bt' ≡ bt = cc in
    let same' : r ≡ first = cc in
    let same'' : s ≡ second = cc in (
      subst (λ x. Types c (results x ∷ labels) first.items [] (results x)) same (subst (λ y. Types c (results bt' ∷ labels) y.items [] (results bt')) same' t),
      subst (λ x. Types c (results x ∷ labels) second.items [] (results x)) same (subst (λ y. Types c (results bt' ∷ labels) y.items [] (results bt')) same'' u),
      (w, g, v ∙ ap (λ x. results x ++ w) same),
    )

same_ends : (c : Context) (labels : List (List ValType)) (code : List Instr) (b a : List ValType) → code ≡ [] → Types c labels code b a → b ≡ a
same_ends c labels code b a e (empty k l ts) = refl
same_ends c labels code b a e (more k l w first last x y z f t s) = absurd (omega (arith, ap length (sym f ∙ e), length-append first (last ∷ [])))

pub at_end : (c : Context) (labels : List (List ValType)) (b a : List ValType) → Types c labels [] b a → b ≡ a
at_end c labels b a t = same_ends c labels [] b a refl t

pub uncons : (c : Context) (labels : List (List ValType)) (code : List Instr) (i : Instr) (rest : List Instr) (b a : List ValType) → Types c labels code b a → code ≡ i ∷ rest
    → (m : List ValType) × Step c labels i b m × Types c labels rest m a
uncons c labels code i rest b a (empty k l ts) e = cc
uncons c labels code i rest b a (more k l w [] last x y z f t s) e =
    let both : last ∷ [] ≡ i ∷ rest = sym f ∙ e in
    let one : last ≡ i = cc in
    let none : [] ≡ rest = cc in
    (a, subst (λ j. Step c labels j b a) one (subst (λ v. Step c labels last v a) (sym (same_ends c labels [] b y refl t)) s), subst (λ d. Types c labels d a a) none (empty c labels a))
uncons c labels code i rest b a (more k l w (g ∷ gs) last x y z f t s) e =
    let both : g ∷ (gs ++ last ∷ []) ≡ i ∷ rest = sym f ∙ e in
    let one : g ≡ i = cc in
    let tail : gs ++ last ∷ [] ≡ rest = cc in
    let r = uncons c labels (g ∷ gs) g gs b y t refl in
    (r.0, subst (λ j. Step c labels j b r.0) one r.1, more c labels rest gs last r.0 y a (sym tail) r.2 s)
