-- The code of a frame, found again block by block.
use Rattle.std.proofs.Common.{◌≡◌, ℕ, ◌+◌, ◌-◌, ◌<◌, ◌≤◌, List, [], ◌∷◌, length, drop, refl, sym, ap, ◌∙◌, arith, Bor}
use Rattle.std.specs.Prelude.{zero, suc, map, slice_get, Some}
use Rattle.wasm_ast.specs.declared.trees.Instr.{Instr}
use Rattle.wasm_data.specs.Cuts.{above, under}
use Rattle.wasm_blocks.specs.declared.open.Open.{Open}
use Rattle.wasm_blocks.specs.Rest.{last, part_at, from_block, code_in, nexts_in}
use Rattle.wasm_blocks.proofs.Cuts.{above_all, length_under}
use Rattle.wasm_blocks.proofs.OwnBlocks.{above_more}
use Rattle.wasm_exec.specs.Codes.{HasLaid}

drop_at : {A : Type 0} (xs : List A) (k : ℕ) (x : A) → slice_get xs k ≡ Some x → drop k xs ≡ x ∷ drop (k + 1) xs
drop_at [] k x e = cc
drop_at (y ∷ xs) zero x e = let same : y ≡ x = cc in ap (λ z. z ∷ xs) same
drop_at (y ∷ xs) (suc k) x e = let next : suc k + 1 ≡ suc (k + 1) = omega arith in drop_at xs k x e ∙ ap (λ n. x ∷ drop n (y ∷ xs)) (sym next)

-- no blocks between a height and itself
pub none_between : (low : ℕ) (os : List Open) → low ≤ length os → above low (under low os) ≡ []
none_between low os le = above_all (under low os) low (length_under low os le)

under_next : (h : ℕ) (os : List Open) (o : Open) → h < length os → slice_get os (length os - 1 - h) ≡ Some o → under (h + 1) os ≡ o ∷ under h os
unfolding under
under_next h os o lt e =
    let k = length os - 1 - h in
    let here : length os - (h + 1) ≡ k = omega arith in
    let next : k + 1 ≡ length os - h = omega arith in
    ap (λ n. drop n os) here ∙ (drop_at os k o e ∙ ap (λ n. o ∷ drop n os) next)

-- one block more
pub one_between : (low h : ℕ) (os : List Open) (o : Open) → low ≤ h → h < length os → slice_get os (length os - 1 - h) ≡ Some o → above low (under (h + 1) os) ≡ o ∷ above low (under h os)
one_between low h os o le lt e =
    ap (above low) (under_next h os o lt e) ∙ above_more low o (under h os) (omega (arith, length_under h os (omega (arith, lt)), le))

pub none_laid : (body : List Instr) (own : List Open) (ns : List (Bor (List Instr))) → own ≡ [] → HasLaid body own ns ns
none_laid body own ns e = record { fresh = []; over = refl; are = sym (ap (nexts_in body) e) }

pub one_laid : (body code : List Instr) (own own' : List Open) (o : Open) (n : Bor (List Instr)) (old new new' : List (Bor (List Instr))) → own' ≡ o ∷ own → code ≡ code_in body own → n.now ≡ last code o.left → new' ≡ n ∷ new
    → HasLaid body own old new → HasLaid body own' old new'
one_laid body code own own' o n old new new' e c h over l = record {
  fresh = n ∷ l.fresh;
  over = over ∙ ap (λ xs. n ∷ xs) l.over;
  are = ap (λ x. x ∷ map (λ s. s.now) l.fresh) (h ∙ ap (λ xs. last xs o.left) c) ∙ (ap (λ xs. last (code_in body own) o.left ∷ xs) l.are ∙ sym (ap (nexts_in body) e));
}

pub one_inside : (body code within : List Instr) (own own' : List Open) (o : Open) → own' ≡ o ∷ own → code ≡ code_in body own → within ≡ part_at o.second (slice_get code (length code - from_block o)) → within ≡ code_in body own'
one_inside body code within own own' o e c h = h ∙ (ap (λ xs. part_at o.second (slice_get xs (length xs - from_block o))) c ∙ sym (ap (code_in body) e))
