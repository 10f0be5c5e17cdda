-- Typings that are put together from those of single instructions.
use Rattle.std.proofs.Common.{◌≡◌, List, [], ◌∷◌, ◌++◌, refl, sym, ap, subst, ◌∙◌, append_assoc}
use Rattle.std.proofs.lemmas.List.{append-nil}
use Rattle.wasm_ast.specs.declared.val_types.ValType.{ValType}
use Rattle.wasm_ast.specs.declared.trees.Instr.{Instr}
use Rattle.wasm_ast.specs.Trees.{Layer, layer}
use Rattle.wasm_ast.specs.Typing.{Context, Plain, Step, plain, Types, empty, more}

pub plainly : {c : Context} {labels : List (List ValType)} {i : Instr} {b a : List ValType} (y : Layer) → layer i ≡ y → Plain c labels y b a → Step c labels i b a
plainly {c = c} {labels = labels} {i = i} {b = b} {a = a} y e p = plain c labels i b a (subst (λ z. Plain c labels z b a) (sym e) p)

pub followed : {c : Context} {labels : List (List ValType)} {first : List Instr} {last : Instr} {b x a : List ValType} → Types c labels first b x → Step c labels last x a → Types c labels (first ++ last ∷ []) b a
followed {c = c} {labels = labels} {first = first} {last = last} {b = b} {x = x} {a = a} t s = more c labels (first ++ last ∷ []) first last b x a refl t s

-- one list, and then another
pub then_list : (c : Context) (labels : List (List ValType)) (first rest : List Instr) (b m a : List ValType) → Types c labels first b m → Types c labels rest m a → Types c labels (first ++ rest) b a
then_list c labels first rest b m a t (empty k l ts) = subst (λ code. Types c labels code b m) (sym (append-nil first)) t
then_list c labels first rest b m a t (more k l w others last x y z e u s) =
    more c labels (first ++ rest) (first ++ others) last b y a (ap (λ code. first ++ code) e ∙ sym (append_assoc first others (last ∷ []))) (then_list c labels first others b m y t u) s

-- the first instruction, and then the rest
pub first_then : (c : Context) (labels : List (List ValType)) (i : Instr) (rest : List Instr) (b m a : List ValType) → Step c labels i b m → Types c labels rest m a → Types c labels (i ∷ rest) b a
first_then c labels i rest b m a s t = then_list c labels (i ∷ []) rest b m a (followed (empty c labels b) s) t
