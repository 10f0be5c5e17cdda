-- Lines that are appended one after the other.
use Rattle.std.proofs.Common.{◌≡◌, ℕ, ◌<◌, List, [], ◌∷◌, ◌++◌, append_assoc, append-nil, get_or, refl, sym, ◌∙◌, ap, subst, arith}
use Rattle.std.specs.Prelude.{All}
use Rattle.std.proofs.lemmas.List.Elements.{All-append}
use Rattle.trapeze_lines.specs.declared.line.Line.{Line}
use Rattle.trapeze_lines.specs.Lines.{IsLabelled}
use Rattle.trapeze_host.specs.Adding.{AddsPart, KeepsLabelled}

-- one element holds it, so the list of it does
pub all_one : {A : Type 0} (P : A → Type 0) (x : A) → P x → All P (x ∷ [])
all_one P x h = λ i d b. subst (λ i. P (get_or (x ∷ []) i d)) (zero_of i b) h
  where
    zero_of : (i : ℕ) → i < 1 → 0 ≡ i
    zero_of i b = omega arith

pub all_push : {A : Type 0} (P : A → Type 0) (xs : List A) (x : A) → All P xs → P x → All P (xs ++ x ∷ [])
all_push P xs x h p = All-append P xs (x ∷ []) h (all_one P x p)

-- the first of these lines were appended, and these are left
pub record Shown (lines rest before after : List Line) : Type 0 where
  pub part : List Line
  pub added : after ≡ before ++ part
  pub whole : lines ≡ part ++ rest

pub none_shown : (lines before : List Line) → Shown lines lines before before
none_shown lines before = record { part = []; added = sym (append-nil before); whole = refl }

pub one_shown : (lines rest next before between after : List Line) (line : Line) → Shown lines rest before between → rest ≡ line ∷ next → after ≡ between ++ line ∷ [] → Shown lines next before after
one_shown lines rest next before between after line s e a = record {
  part = s.part ++ line ∷ [];
  added = a ∙ ap (λ ls. ls ++ line ∷ []) s.added ∙ append_assoc before s.part (line ∷ []);
  whole = s.whole ∙ ap (λ ls. s.part ++ ls) e ∙ sym (append_assoc s.part (line ∷ []) next);
}

pub shown_part : (lines rest before after : List Line) → Shown lines rest before after → AddsPart lines before after
shown_part lines rest before after s = record { part = s.part; rest = rest; added = s.added; whole = s.whole }

pub all_shown : (lines rest before after : List Line) → Shown lines rest before after → rest ≡ [] → after ≡ before ++ lines
all_shown lines rest before after s e = s.added ∙ ap (λ ls. before ++ ls) (sym (append-nil s.part) ∙ ap (λ ls. s.part ++ ls) (sym e) ∙ sym s.whole)

-- one line more is labelled
pub labelled_push : (n : ℕ) (first before after : List Line) (line : Line) → KeepsLabelled n first before → after ≡ before ++ line ∷ [] → IsLabelled n line → KeepsLabelled n first after
labelled_push n first before after line keeps e is = λ h. subst (All (IsLabelled n)) (sym e) (all_push (IsLabelled n) before line (keeps h) is)
