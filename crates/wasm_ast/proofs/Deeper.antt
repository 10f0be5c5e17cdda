-- A typing stays one where the same types stand below on both sides.
use Rattle.std.proofs.Common.{◌≡◌, List, ◌∷◌, ◌++◌, ap, ◌∙◌, append_assoc}
use Rattle.std.specs.Prelude.{reverse}
use Rattle.wasm_ast.specs.declared.val_types.ValType.{ValType}
use Rattle.wasm_ast.specs.declared.val_types.ValType.TheVariants.{I32}
use Rattle.wasm_ast.specs.declared.trees.Instr.{Instr}
use Rattle.wasm_ast.specs.declared.trees.Instr.TheOpen.{Instr-F}
use Rattle.wasm_ast.specs.Trees.{Layer, layer}
use Rattle.wasm_ast.specs.Typing.{Context, Plain, Step, plain, block, loops, ifs, Types, empty, more, results}

below_both : (xs ts us w : List ValType) → xs ≡ ts ++ us → xs ++ w ≡ ts ++ (us ++ w)
below_both xs ts us w e = ap (λ v. v ++ w) e ∙ append_assoc ts us w

below_top : (xs ts us w : List ValType) → xs ≡ I32 ∷ (ts ++ us) → xs ++ w ≡ I32 ∷ (ts ++ (us ++ w))
below_top xs ts us w e = ap (λ v. v ++ w) e ∙ ap (λ v. I32 ∷ v) (append_assoc ts us w)

plain_below : (c : Context) (labels : List (List ValType)) (y : Layer) (b a w : List ValType) → Plain c labels y b a → Plain c labels y (b ++ w) (a ++ w)
plain_below c labels Instr-F.Unreachable b a w p = tt
plain_below c labels Instr-F.Nop b a w p = ap (λ v. v ++ w) p
plain_below c labels (Instr-F.Block bt s) b a w p = p
plain_below c labels (Instr-F.Loop bt s) b a w p = p
plain_below c labels (Instr-F.If bt s r) b a w p = p
plain_below c labels (Instr-F.Br n) b a w p = (p.0, p.1, (p.2.0 ++ w, below_both b p.0 p.2.0 w p.2.1))
plain_below c labels (Instr-F.BrIf n) b a w p = (p.0, p.1, (p.2.0 ++ w, below_top b p.0 p.2.0 w p.2.1, below_both a p.0 p.2.0 w p.2.2))
plain_below c labels (Instr-F.BrTable is n) b a w p = (p.0, p.1, p.2, (p.3.0 ++ w, below_top b p.0 p.3.0 w p.3.1))
plain_below c labels Instr-F.Return b a w p = (p.0 ++ w, below_both b c.returns p.0 w p.1)
plain_below c labels (Instr-F.Call n) b a w p = (p.0, p.1, (p.2.0 ++ w, below_both b (reverse p.0.params) p.2.0 w p.2.1, below_both a p.0.results p.2.0 w p.2.2))
plain_below c labels (Instr-F.CallIndirect n) b a w p =
    (p.0, p.1, p.2, (p.3.0 ++ w, below_top b (reverse p.0.params) p.3.0 w p.3.1, below_both a p.0.results p.3.0 w p.3.2))
plain_below c labels Instr-F.Drop b a w p = (p.0, ap (λ v. v ++ w) p.1)
plain_below c labels Instr-F.Select b a w p = (p.0, (p.1.0 ++ w, ap (λ v. v ++ w) p.1.1, ap (λ v. v ++ w) p.1.2))
plain_below c labels (Instr-F.LocalGet n) b a w p = (p.0, p.1, ap (λ v. v ++ w) p.2)
plain_below c labels (Instr-F.LocalSet n) b a w p = (p.0, p.1, ap (λ v. v ++ w) p.2)
plain_below c labels (Instr-F.LocalTee n) b a w p = (p.0, p.1, (p.2.0 ++ w, ap (λ v. v ++ w) p.2.1, ap (λ v. v ++ w) p.2.2))
plain_below c labels (Instr-F.GlobalGet n) b a w p = (p.0, p.1, ap (λ v. v ++ w) p.2)
plain_below c labels (Instr-F.GlobalSet n) b a w p = (p.0, p.1, p.2, ap (λ v. v ++ w) p.3)
plain_below c labels (Instr-F.Load o x n) b a w p = (p.0, p.1, p.2, p.3, (p.4.0 ++ w, ap (λ v. v ++ w) p.4.1, ap (λ v. v ++ w) p.4.2))
plain_below c labels (Instr-F.Store o x n) b a w p = (p.0, p.1, p.2, p.3, ap (λ v. v ++ w) p.4)
plain_below c labels Instr-F.MemorySize b a w p = (p.0, p.1, ap (λ v. v ++ w) p.2)
plain_below c labels Instr-F.MemoryGrow b a w p = (p.0, p.1, (p.2.0 ++ w, ap (λ v. v ++ w) p.2.1, ap (λ v. v ++ w) p.2.2))
plain_below c labels Instr-F.MemoryCopy b a w p = (p.0, p.1, ap (λ v. v ++ w) p.2)
plain_below c labels Instr-F.MemoryFill b a w p = (p.0, p.1, ap (λ v. v ++ w) p.2)
plain_below c labels (Instr-F.I32Const n) b a w p = (p.0, ap (λ v. v ++ w) p.1)
plain_below c labels (Instr-F.I64Const n) b a w p = (p.0, ap (λ v. v ++ w) p.1)
plain_below c labels (Instr-F.Num n) b a w p = (p.0, p.1, (p.2.0 ++ w, below_both b (p.0.takes) p.2.0 w p.2.1, ap (λ v. v ++ w) p.2.2))
plain_below c labels (Instr-F.FloatMemory op x n) b a w p = p
plain_below c labels (Instr-F.F32Const n) b a w p = p
plain_below c labels (Instr-F.F64Const n) b a w p = p
plain_below c labels (Instr-F.FloatOp op) b a w p = p

step_below : (c : Context) (labels : List (List ValType)) (i : Instr) (b a w : List ValType) → Step c labels i b a → Step c labels i (b ++ w) (a ++ w)
step_below c labels i b a w (plain k l j d e p) = plain c labels i (b ++ w) (a ++ w) (plain_below c labels (layer i) b a w p)
step_below c labels i b a w (block k l j bt body d e f t g) = block c labels i bt body (b ++ w) (a ++ w) f t (below_both a (results bt) b w g)
step_below c labels i b a w (loops k l j bt body d e f t g) = loops c labels i bt body (b ++ w) (a ++ w) f t (below_both a (results bt) b w g)
step_below c labels i b a w (ifs k l j bt r s d x e f t u g h) = ifs c labels i bt r s (b ++ w) (x ++ w) (a ++ w) f t u (ap (λ v. v ++ w) g) (below_both a (results bt) x w h)

pub types_below : (c : Context) (labels : List (List ValType)) (code : List Instr) (b a w : List ValType) → Types c labels code b a → Types c labels code (b ++ w) (a ++ w)
types_below c labels code b a w (empty k l ts) = empty c labels (b ++ w)
types_below c labels code b a w (more k l d first last x y z f t s) = more c labels code first last (b ++ w) (y ++ w) (a ++ w) f (types_below c labels first b y w t) (step_below c labels last y a w s)
