-- The segments of a valid module end within what they fill.
use Rattle.std.proofs.Common.{◌≡◌, ◌≤◌, ◌+◌, ◌*◌, ℕ, false, List, [], ◌∷◌, length, refl, sym, subst, ◌∙◌, arith}
use Rattle.std.specs.Prelude.{Some, IsTrue, ◌&&◌, slice_get, suc, nat_lt, nat_le, option_map, position}
use Rattle.std.specs.List.{list_all}
use Rattle.std.proofs.lemmas.Bool.Decides.{nat_tests}
use Rattle.wasm_ast.specs.declared.elements.Element.{Element}
use Rattle.wasm_ast.specs.declared.pieces.Piece.{Piece}
use Rattle.wasm_ast.specs.declared.memory_types.MemoryType.{MemoryType}
use Rattle.wasm_ast.specs.declared.modules.Module.{Module}
use Rattle.wasm_ast.specs.Spaces.{memory_of, first_pages, table_size}
use Rattle.wasm_ast.specs.Bytes.{placed, grown, with_pieces, first_memory}
use Rattle.wasm_ast.specs.Structure.{constant_value, is_memory}
use Rattle.wasm_ast.specs.declared.places.SegmentPlace.TheVariants as segment
use Rattle.wasm_ast.specs.Validity.{Valid, is_element_past, is_piece_past}
use Rattle.wasm_ast.proofs.Lists.{both_true, each_of, none_passes}
use Rattle.wasm_ast.proofs.Valids.{kept, none_first, none_mapped, rule}
use Rattle.wasm_ast.proofs.Lengths.{length_placed, length_grown}

not_past : (n k : ℕ) → nat_lt n k ≡ false → k ≤ n
not_past n k h = grind (arith, nat_tests)

-- each piece ends within so many bytes
abbrev pub PiecesFit : ℕ → List Piece → Type 0
PiecesFit n ps = (k : ℕ) (p : Piece) → slice_get ps k ≡ Some p → constant_value p.offset.items + length p.bytes ≤ n

pub length_pieces : (n : ℕ) (bytes : List ℕ) (ps : List Piece) → length bytes ≡ n → PiecesFit n ps → length (with_pieces bytes ps) ≡ n
length_pieces n bytes [] e h = e
length_pieces n bytes (p ∷ ps) e h =
    length_pieces n (placed bytes (constant_value p.offset.items) p.bytes) ps
    (length_placed bytes (constant_value p.offset.items) p.bytes (subst (λ k. constant_value p.offset.items + length p.bytes ≤ k) (sym e) (h 0 p refl)) ∙ e) (λ k q f. h (suc k) q f)

abbrev pub ElementsFit : ℕ → List Element → Type 0
ElementsFit n es = (k : ℕ) (e : Element) → slice_get es k ≡ Some e → constant_value e.offset.items + length e.members ≤ n

pub elements_fit : (m : Module) → Valid m → ElementsFit (table_size m) m.elements
elements_fit m valid k e f =
    let first = none_first (option_map segment.Element (position (is_element_past m) m.elements)) (option_map segment.Data (position (is_piece_past m) m.pieces) ∷ []) (kept m valid).segments in
    not_past (table_size m) (constant_value e.offset.items + length e.members)
    (none_passes (is_element_past m) m.elements k e (none_mapped segment.Element (position (is_element_past m) m.elements) first.0) f)

pub pieces_fit : (m : Module) → Valid m → PiecesFit (first_pages m * 65536) m.pieces
pieces_fit m valid k p f =
    let first = none_first (option_map segment.Element (position (is_element_past m) m.elements)) (option_map segment.Data (position (is_piece_past m) m.pieces) ∷ []) (kept m valid).segments in
    let last = none_first (option_map segment.Data (position (is_piece_past m) m.pieces)) [] first.1 in
    not_past (first_pages m * 65536) (constant_value p.offset.items + length p.bytes)
    (none_passes (is_piece_past m) m.pieces k p (none_mapped segment.Data (position (is_piece_past m) m.pieces) last.0) f)

-- the first memory has the pages that its type begins with
pub length_first : (m : Module) → Valid m → length (first_memory m) ≡ first_pages m * 65536
unfolding first_memory
length_first m valid = length_pieces (first_pages m * 65536) (grown [] (first_pages m)) m.pieces (length_grown [] (first_pages m) ∙ omega arith) (pieces_fit m valid)

pub is_memory_of : (m : Module) → Valid m → (t : MemoryType) → memory_of m ≡ Some t → IsTrue (is_memory t)
is_memory_of m valid t e =
    each_of is_memory m.memories 0 t
    (both_true (nat_le (length m.memories) 1) (list_all is_memory m.memories) (rule m 3 (nat_le (length m.memories) 1 && list_all is_memory m.memories) valid refl)).1 e
