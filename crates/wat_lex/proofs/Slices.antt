-- Each token is its slice of the text.
use Rattle.std.proofs.Common.{◌≡◌, ◌≤◌, ◌<◌, ℕ, suc, ◌+◌, ◌-◌, List, [], ◌∷◌, ◌++◌, length, take, drop, arith, refl, sym, ap, ◌∙◌, append_assoc, subst}
use Rattle.std.proofs.lemmas.List.{length-append}
use Rattle.std.proofs.Math.Seq.{drop-append_seam, take-append_seam}
use Rattle.std.specs.Prelude.{Option, Some, None, slice_range}
use Rattle.wat_lex.specs.declared.pieces.Token.{Token}
use Rattle.wat_lex.specs.declared.pieces.TokenKind.{TokenKind}
use Rattle.wat_lex.specs.Sentences.{Spelled, IsFirst, Sentence, IsTail, AreTokens, AreSlices}

abbrev IsSlice : List ℕ → Token → Type 0
IsSlice text t = (t.start ≤ t.end) × (t.end ≤ length text) × Spelled t.kind (slice_range text t.start t.end)

-- the slice behind a front
slice_behind : (front spelled rest : List ℕ) → slice_range (front ++ (spelled ++ rest)) (length front) (length front + length spelled) ≡ spelled
slice_behind front spelled rest =
    let n : length front + length spelled - length front ≡ length spelled = omega arith in
    ap (take (length front + length spelled - length front)) (drop-append_seam front (spelled ++ rest))
    ∙ (ap (λ n. take n (spelled ++ rest)) n ∙ take-append_seam spelled rest)

is_slice : (text front spelled rest : List ℕ) (kind : TokenKind) → text ≡ front ++ (spelled ++ rest) → Spelled kind spelled
    → IsSlice text (record { start = length front; end = length front + length spelled; kind = kind })
is_slice text front spelled rest kind e s =
    let n : length text ≡ length front + length (spelled ++ rest) = ap length e ∙ length-append front (spelled ++ rest) in
    let m : length (spelled ++ rest) ≡ length spelled + length rest = length-append spelled rest in
    ((omega arith), (omega arith), subst (Spelled kind) (sym (ap (λ text. slice_range text (length front) (length front + length spelled)) e ∙ slice_behind front spelled rest)) s)

slices : (text front : List ℕ) (before : Option TokenKind) (bytes : List ℕ) (ts : List Token) → text ≡ front ++ bytes → Sentence IsTail before (length front) bytes ts → AreSlices text ts
slices text front before bytes [] e d = tt
slices text front before bytes (t ∷ ts) e d =
    let f = d.1 in
    let ahead : List ℕ = front ++ f.gap in
    let whole : List ℕ = ahead ++ f.spelled in
    let l : length ahead ≡ length front + length f.gap = length-append front f.gap in
    let m : length whole ≡ length ahead + length f.spelled = length-append ahead f.spelled in
    let split : text ≡ ahead ++ (f.spelled ++ d.0) = e ∙ (ap (λ l. front ++ l) f.whole ∙ sym (append_assoc front f.gap (f.spelled ++ d.0))) in
    let place : t ≡ record { start = length ahead; end = length ahead + length f.spelled; kind = t.kind } = f.place ∙ ap (λ n. record { start = n; end = n + length f.spelled; kind = t.kind }) (sym l) in
    let further : t.end ≡ length whole = ap (λ t. t.end) place ∙ sym m in (
      subst (IsSlice text) (sym place) (is_slice text ahead f.spelled d.0 t.kind split f.is_spelled),
      slices text whole (Some t.kind) d.0 ts (split ∙ sym (append_assoc ahead f.spelled d.0)) (subst (λ n. Sentence IsTail (Some t.kind) n d.0 ts) further d.2),
    )

pub are_slices : (text : List ℕ) (ts : List Token) → AreTokens text ts → AreSlices text ts
are_slices text ts d = slices text [] None text ts refl d
