-- Data segments laid on one after another.
use Rattle.std.proofs.Common.{◌≡◌, ◌≤◌, ◌<◌, ◌+◌, ◌*◌, ℕ, List, [], ◌∷◌, length, drop, get_or, replicate, refl, sym, ap, subst, ◌∙◌, arith}
use Rattle.std.specs.Prelude.{Some, slice_get, zero, suc}
use Rattle.std.proofs.lemmas.Option.{slice_get_read}
use Rattle.wasm_ast.specs.declared.pieces.Piece.{Piece}
use Rattle.wasm_ast.specs.declared.modules.Module.{Module}
use Rattle.wasm_ast.specs.Spaces.{first_pages}
use Rattle.wasm_ast.specs.Structure.{constant_value}
use Rattle.wasm_ast.specs.Validity.{Valid}
use Rattle.wasm_ast.specs.Bytes.{placed, with_pieces, first_memory}
use Rattle.wasm_ast.proofs.Lengths.{length_placed}
use Rattle.wasm_ast.proofs.Segments.{pieces_fit}

-- what is left to lay on these bytes leaves what all of them leave on zeros
pub record IsLaid (all : List ℕ) (len : ℕ) (bytes : List ℕ) (rest : List Piece) : Type 0 where
  pub length : length bytes ≡ len
  pub whole : with_pieces bytes rest ≡ all

pub item_at : (xs ps : List Piece) (i : ℕ) (p : Piece) → xs ≡ ps → i < length xs → p ≡ get_or xs i p → slice_get ps i ≡ Some p
item_at xs ps i p e h g = subst (λ ys. slice_get ys i ≡ Some p) e (slice_get_read xs (length xs) i p refl h g)

drop_at : (ps : List Piece) (k : ℕ) (p : Piece) → slice_get ps k ≡ Some p → drop k ps ≡ p ∷ drop (k + 1) ps
drop_at [] k p e = cc
drop_at (q ∷ ps) zero p e = let same : q ≡ p = cc in ap (λ r. r ∷ ps) same
drop_at (q ∷ ps) (suc k) p e = let next : suc k + 1 ≡ suc (k + 1) = omega arith in drop_at ps k p e ∙ ap (λ n. p ∷ drop n (q ∷ ps)) (sym next)

pub fits : (m : Module) (all bytes : List ℕ) (len k : ℕ) (p : Piece) → Valid m → len ≡ first_pages m * 65536 → slice_get m.pieces k ≡ Some p → IsLaid all len bytes (drop k m.pieces)
    → constant_value p.offset.items + length p.bytes ≤ length bytes
fits m all bytes len k p valid e f h =
    let long = h.length in
    omega (arith, pieces_fit m valid k p f)

pub one_laid : (m : Module) (all bytes new : List ℕ) (len k : ℕ) (p : Piece) → Valid m → len ≡ first_pages m * 65536 → slice_get m.pieces k ≡ Some p → IsLaid all len bytes (drop k m.pieces)
    → new ≡ placed bytes (constant_value p.offset.items) p.bytes → IsLaid all len new (drop (k + 1) m.pieces)
one_laid m all bytes new len k p valid e f h g = record {
  length = ap length g ∙ (length_placed bytes (constant_value p.offset.items) p.bytes (fits m all bytes len k p valid e f h) ∙ h.length);
  whole = ap (λ b. with_pieces b (drop (k + 1) m.pieces)) g ∙ (sym (ap (with_pieces bytes) (drop_at m.pieces k p f)) ∙ h.whole);
}

drop_all : (ps : List Piece) (k : ℕ) → length ps ≤ k → drop k ps ≡ []
drop_all [] zero h = refl
drop_all [] (suc k) h = refl
drop_all (p ∷ ps) zero h = absurd (omega arith)
drop_all (p ∷ ps) (suc k) h = drop_all ps k (omega arith)

pub all_laid : (m : Module) (xs : List Piece) (zeros bytes : List ℕ) (len k n : ℕ) → xs ≡ m.pieces → length xs ≤ k → n ≡ first_pages m → zeros ≡ replicate (n * 65536) 0
    → IsLaid (with_pieces zeros m.pieces) len bytes (drop k m.pieces) → bytes ≡ first_memory m
unfolding first_memory
all_laid m xs zeros bytes len k n e past f z h =
    sym (ap (with_pieces bytes) (drop_all m.pieces k (subst (λ ys. length ys ≤ k) e past))) ∙ (h.whole ∙ (ap (λ b. with_pieces b m.pieces) z ∙ ap (λ j. with_pieces (replicate (j * 65536) 0) m.pieces) f))
