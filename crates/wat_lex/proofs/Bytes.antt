-- A byte where a token may begin, by what it begins.
use Rattle.std.proofs.Common.{◌≡◌, ℕ, refl, sym, ap, ◌∙◌, Bool, true, false, subst}
use Rattle.std.proofs.lemmas.Bool.{eqb-true}
use Rattle.std.specs.Prelude.{if◌then◌else◌, ◌&&◌, nat_eq, nat_le}
use Rattle.wat_lex.specs.declared.classes.Class.{Class}
use Rattle.wat_lex.specs.declared.classes.Class.TheVariants.{Blank, Opening, Closing, Quote, Semicolon, Letter, Other}
use Rattle.wat_lex.specs.Classes.{is_blank, class_of}

pub data View : (b : ℕ) → Type 0 where
  as_blank : (b : ℕ) → is_blank b ≡ true → View b
  as_opening : View 40
  as_closing : View 41
  as_quote : View 34
  as_semicolon : View 59
  as_letter : (b : ℕ) → class_of b ≡ Letter → View b
  as_other : (b : ℕ) → class_of b ≡ Other → View b

-- the class of a byte that is none of the five
late_class : (b : ℕ) → is_blank b ≡ false → nat_eq b 40 ≡ false → nat_eq b 41 ≡ false → nat_eq b 34 ≡ false → nat_eq b 59 ≡ false
    → class_of b ≡ (if nat_le 33 b && nat_le b 126 then Letter else Other)
late_class b n o c q s =
    let last : Class = if nat_le 33 b && nat_le b 126 then Letter else Other in
    ap (λ t. if t then Blank else if nat_eq b 40 then Opening else if nat_eq b 41 then Closing else if nat_eq b 34 then Quote else if nat_eq b 59 then Semicolon else last) n
    ∙ (ap (λ t. if t then Opening else if nat_eq b 41 then Closing else if nat_eq b 34 then Quote else if nat_eq b 59 then Semicolon else last) o
    ∙ (ap (λ t. if t then Closing else if nat_eq b 34 then Quote else if nat_eq b 59 then Semicolon else last) c
    ∙ (ap (λ t. if t then Quote else if nat_eq b 59 then Semicolon else last) q
    ∙ ap (λ t. if t then Semicolon else last) s)))

view_last : (b : ℕ) (t : Bool) → (nat_le 33 b && nat_le b 126) ≡ t → class_of b ≡ (if nat_le 33 b && nat_le b 126 then Letter else Other) → View b
view_last b true e k = as_letter b (k ∙ ap (λ t. if t then Letter else Other) e)
view_last b false e k = as_other b (k ∙ ap (λ t. if t then Letter else Other) e)

view_semicolon : (b : ℕ) (t : Bool) → nat_eq b 59 ≡ t → is_blank b ≡ false → nat_eq b 40 ≡ false → nat_eq b 41 ≡ false → nat_eq b 34 ≡ false → View b
view_semicolon b true e n o c q = subst View (sym (eqb-true b 59 e)) as_semicolon
view_semicolon b false e n o c q = view_last b (nat_le 33 b && nat_le b 126) refl (late_class b n o c q e)

view_quote : (b : ℕ) (t : Bool) → nat_eq b 34 ≡ t → is_blank b ≡ false → nat_eq b 40 ≡ false → nat_eq b 41 ≡ false → View b
view_quote b true e n o c = subst View (sym (eqb-true b 34 e)) as_quote
view_quote b false e n o c = view_semicolon b (nat_eq b 59) refl n o c e

view_closing : (b : ℕ) (t : Bool) → nat_eq b 41 ≡ t → is_blank b ≡ false → nat_eq b 40 ≡ false → View b
view_closing b true e n o = subst View (sym (eqb-true b 41 e)) as_closing
view_closing b false e n o = view_quote b (nat_eq b 34) refl n o e

view_opening : (b : ℕ) (t : Bool) → nat_eq b 40 ≡ t → is_blank b ≡ false → View b
view_opening b true e n = subst View (sym (eqb-true b 40 e)) as_opening
view_opening b false e n = view_closing b (nat_eq b 41) refl n e

view_blank : (b : ℕ) (t : Bool) → is_blank b ≡ t → View b
view_blank b true e = as_blank b e
view_blank b false e = view_opening b (nat_eq b 40) refl e

pub view : (b : ℕ) → View b
view b = view_blank b (is_blank b) refl
