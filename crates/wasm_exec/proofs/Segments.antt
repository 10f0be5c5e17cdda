-- Element segments laid on a table one after another.
use Rattle.std.proofs.Common.{◌≡◌, ◌≤◌, ◌<◌, ◌+◌, ℕ, List, [], ◌∷◌, ◌++◌, length, take, drop, get_or, replicate, refl, sym, ap, subst, ◌∙◌, arith, append_assoc, length-append, length-take}
use Rattle.std.specs.Prelude.{Option, Some, None, slice_get, zero, suc}
use Rattle.std.proofs.Math.ListN.{set}
use Rattle.std.proofs.Math.Seq.{drop-cons, set-append_seam}
use Rattle.std.proofs.lemmas.List.{take_more, length-map, map-append}
use Rattle.wasm_ast.specs.declared.elements.Element.{Element}
use Rattle.wasm_ast.specs.declared.modules.Module.{Module}
use Rattle.wasm_ast.specs.Spaces.{table_size}
use Rattle.wasm_ast.specs.Bytes.{placed}
use Rattle.wasm_ast.specs.Structure.{constant_value}
use Rattle.wasm_ast.specs.Validity.{Valid}
use Rattle.wasm_ast.proofs.Lengths.{length_placed}
use Rattle.wasm_ast.proofs.Segments.{elements_fit}
use Rattle.wasm_semantics.specs.Begin.{set_entries, with_elements, first_table}

-- one entry more
placed_more : {A : Type 0} (xs : List A) (at : ℕ) (ys : List A) (v : A) → at + length ys < length xs → set (placed xs at ys) (at + length ys) v ≡ placed xs at (ys ++ v ∷ [])
placed_more xs at ys v lt =
    let n = at + length ys in
    let front = take at xs ++ ys in
    let rest = drop (suc n) xs in
    let y = get_or xs n v in
    let long : n ≡ length front = omega (arith, length-append (take at xs) ys, length-take at xs) in
    let behind : suc n ≡ at + length (ys ++ v ∷ []) = omega (arith, length-append ys (v ∷ [])) in
    ap (λ zs. set (take at xs ++ (ys ++ zs)) n v) (drop-cons xs n v lt)
    ∙ (ap (λ zs. set zs n v) (sym (append_assoc (take at xs) ys (y ∷ rest)))
    ∙ (ap (λ k. set (front ++ y ∷ rest) k v) long
    ∙ (set-append_seam front y rest v
    ∙ (append_assoc (take at xs) ys (v ∷ rest)
    ∙ (ap (λ zs. take at xs ++ zs) (sym (append_assoc ys (v ∷ []) rest))
    ∙ ap (λ k. take at xs ++ ((ys ++ v ∷ []) ++ drop k xs)) behind)))))

pub entry_more : (table new : List (Option ℕ)) (first : List (Option ℕ)) (at k : ℕ) (members : List ℕ) → at + length members ≤ length first → k < length members → table ≡ placed first at (set_entries (take k members))
    → new ≡ set table (at + k) (Some (get_or members k 0)) → new ≡ placed first at (set_entries (take (k + 1) members))
entry_more table new first at k members room lt h e =
    let ys = set_entries (take k members) in
    let v = get_or members k 0 in
    let long : k ≡ length ys = omega (arith, length-map (take k members) (λ x. Some x), length-take k members) in
    e ∙ (ap (λ t. set t (at + k) (Some v)) h
    ∙ (ap (λ n. set (placed first at ys) (at + n) (Some v)) long
    ∙ (placed_more first at ys (Some v) (omega (arith, long, room, lt))
    ∙ ap (placed first at) (sym (map-append (λ x. Some x) (take k members) (v ∷ [])) ∙ ap set_entries (sym (take_more members k 0 lt))))))

-- what is left to lay on this table leaves what all of them leave on unset entries
pub record IsLaid (all : List (Option ℕ)) (len : ℕ) (table : List (Option ℕ)) (rest : List Element) : Type 0 where
  pub length : length table ≡ len
  pub whole : with_elements table rest ≡ all

drop_at : (es : List Element) (k : ℕ) (e : Element) → slice_get es k ≡ Some e → drop k es ≡ e ∷ drop (k + 1) es
drop_at [] k e h = cc
drop_at (f ∷ es) zero e h = let same : f ≡ e = cc in ap (λ r. r ∷ es) same
drop_at (f ∷ es) (suc k) e h = let next : suc k + 1 ≡ suc (k + 1) = omega arith in drop_at es k e h ∙ ap (λ n. e ∷ drop n (f ∷ es)) (sym next)

pub fits : (m : Module) (all table : List (Option ℕ)) (len k : ℕ) (e : Element) → Valid m → len ≡ table_size m → slice_get m.elements k ≡ Some e → IsLaid all len table (drop k m.elements)
    → constant_value e.offset.items + length e.members ≤ length table
fits m all table len k e valid size f h =
    let long = h.length in
    omega (arith, elements_fit m valid k e f)

long_entries : (xs : List ℕ) → length (set_entries xs) ≡ length xs
long_entries xs = length-map xs (λ x. Some x)

pub one_laid : (m : Module) (all table new : List (Option ℕ)) (len k : ℕ) (e : Element) → Valid m → len ≡ table_size m → slice_get m.elements k ≡ Some e → IsLaid all len table (drop k m.elements)
    → new ≡ placed table (constant_value e.offset.items) (set_entries e.members) → IsLaid all len new (drop (k + 1) m.elements)
one_laid m all table new len k e valid size f h g =
    let at = constant_value e.offset.items in
    let room = fits m all table len k e valid size f h in
    record {
      length = ap length g ∙ (length_placed table at (set_entries e.members) (omega (arith, long_entries e.members, room)) ∙ h.length);
      whole = ap (λ t. with_elements t (drop (k + 1) m.elements)) g ∙ (sym (ap (with_elements table) (drop_at m.elements k e f)) ∙ h.whole);
    }

drop_all : (es : List Element) (k : ℕ) → length es ≤ k → drop k es ≡ []
drop_all [] zero h = refl
drop_all [] (suc k) h = refl
drop_all (e ∷ es) zero h = absurd (omega arith)
drop_all (e ∷ es) (suc k) h = drop_all es k (omega arith)

pub all_laid : (m : Module) (es : List Element) (unset table : List (Option ℕ)) (len k : ℕ) → es ≡ m.elements → length es ≤ k → len ≡ table_size m → unset ≡ replicate len None
    → IsLaid (with_elements unset m.elements) len table (drop k m.elements) → table ≡ first_table m
all_laid m es unset table len k e past size u h =
    sym (ap (with_elements table) (drop_all m.elements k (subst (λ xs. length xs ≤ k) e past))) ∙ (h.whole ∙ (ap (λ t. with_elements t m.elements) u ∙ ap (λ n. with_elements (replicate n None) m.elements) size))
