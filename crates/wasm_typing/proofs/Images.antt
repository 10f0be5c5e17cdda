-- What relations between lists of types make of what stands.
use Rattle.std.proofs.Common.{◌≡◌, ◌+◌, ◌-◌, ◌<◌, ℕ, Bool, true, false, List, [], ◌∷◌, ◌++◌, length, take, drop, get_or, suc, refl, sym, ap, subst, ◌∙◌, arith, append_assoc}
use Rattle.std.specs.Prelude.{◌↔◌, IsTrue, Option, Some, None, nat_eq, reverse, Result, OnOk, Ok, Err}
use Rattle.std.proofs.lemmas.Bool.Decides.{nat_tests}
use Rattle.std.proofs.lemmas.List.{take_more, reverse-append}
use Rattle.std.proofs.Math.Seq.{drop-length, drop-cons}
use Rattle.std.proofs.lemmas.List.{take-append-drop, append-nil}
use Rattle.wasm_ast.specs.declared.val_types.ValType.{ValType}
use Rattle.wasm_ast.specs.declared.val_types.ValType.TheVariants.{I32}
use Rattle.wasm_ast.specs.Typing.{Changes}
use Rattle.wasm_typing.specs.Operands.{FitsKnown, Fit, Image, Splits, Takes, PutsOn, TakesOne, Anything, Jumps, Chooses, NoTop}

-- one relation after the other
abbrev pub Then : (List ValType → List ValType → Type 0) → (List ValType → List ValType → Type 0) → List ValType → List ValType → Type 0
Then R S before after = (between : List ValType) × R before between × S between after

pub image_then : (R S : List ValType → List ValType → Type 0) (P M Q : List ValType → Type 0) (ok : Bool) → Image R P M true → Image S M Q ok → Image (Then R S) P Q ok
image_then R S P M Q ok r s = record {
  reached = λ b a p w. s.reached w.0 a (r.reached b w.0 p w.1).1 w.2;
  source = λ h a q. let m = s.source h a q in let f = r.source refl m.0 m.1 in (f.0, f.1, (m.0, f.2, m.2));
}

pub false_not : {A : Type 0} → IsTrue false → A
false_not h = cc

pub image_none : (R S : List ValType → List ValType → Type 0) (P Q : List ValType → Type 0) → ((b a : List ValType) → P b → R b a → IsTrue false) → Image R P Q false
image_none R S P Q f = record { reached = λ b a p r. (f b a p r, false_not (f b a p r)); source = λ h. false_not h }

pub image_stops : (R S : List ValType → List ValType → Type 0) (P M Q : List ValType → Type 0) → Image R P M false → Image (Then R S) P Q false
image_stops R S P M Q r = image_none (Then R S) S P Q (λ b a p w. (r.reached b w.0 p w.1).0)

pub image_by : (R S : List ValType → List ValType → Type 0) (P Q : List ValType → Type 0) (ok : Bool) → ((b a : List ValType) → R b a → S b a) → ((b a : List ValType) → S b a → R b a) → Image R P Q ok → Image S P Q ok
image_by R S P Q ok f g r = record {
  reached = λ b a p s. r.reached b a p (g b a s);
  source = λ h a q. let w = r.source h a q in (w.0, w.1, f w.0 a w.2);
}

-- some list stands
some_type : (known : Option ValType) → (t : ValType) × FitsKnown known t
some_type None = (I32, tt)
some_type (Some t) = (t, refl)

pub some_list : (m : Bool) (ks : List (Option ValType)) → (ts : List ValType) × Fit m ks ts
some_list false [] = ([], refl)
some_list true [] = ([], tt)
some_list m (k ∷ ks) = let t = some_type k in let ts = some_list m ks in (t.0 ∷ ts.0, (t.1, ts.1))

pub image_anything : (m : Bool) (ks ls : List (Option ValType)) → ls ≡ [] → Image Anything (Fit m ks) (Fit true ls) true
image_anything m ks ls e = record {
  reached = λ b a p r. (refl, subst (λ x. Fit true x a) (sym e) tt);
  source = λ h a q. let s = some_list m ks in (s.0, s.1, tt);
}

pub drop_all : {A : Type 0} (xs : List A) → drop (length xs - 0) xs ≡ []
drop_all xs = let e : length xs - 0 ≡ length xs = omega arith in ap (λ n. drop n xs) e ∙ drop-length xs

not_zero : (n : ℕ) → IsTrue (nat_eq (suc n) 0) → ⊥
not_zero n h = let e : suc n ≡ 0 = grind (arith, nat_tests) in omega arith

pub none_stand : (m : Bool) (ks : List (Option ValType)) → IsTrue (nat_eq (length ks) 0) ↔ Fit m ks []
none_stand false [] = ((λ h. refl), (λ h. refl))
none_stand true [] = ((λ h. tt), (λ h. refl))
none_stand m (k ∷ ks) = ((λ h. absurd (not_zero (length ks) h)), (λ h. absurd h))

pub image_one : (P Q : List ValType → Type 0) (known : Option ValType) → Splits P Q known → Image TakesOne P Q true
image_one P Q known s = record {
  reached = λ b a p w. (refl, (s.parts w.0 a (subst P w.1 p)).1);
  source = λ h a q. let t = some_type known in (t.0 ∷ a, s.whole t.0 a t.1 q, (t.0, refl));
}

back_from : (P Q : List ValType → Type 0) (t : ValType) → Splits Q P (Some t) → (Q [] → IsTrue false) → (a : List ValType) → Q a → (b : List ValType) × P b × PutsOn (t ∷ []) b a
back_from P Q t s n [] q = false_not (n q)
back_from P Q t s n (u ∷ us) q = let w = s.parts u us q in (us, w.1, ap (λ v. v ∷ us) w.0)

pub image_leave : (P Q : List ValType → Type 0) (t : ValType) → Splits Q P (Some t) → (Q [] → IsTrue false) → Image (PutsOn (t ∷ [])) P Q true
image_leave P Q t s n = record {
  reached = λ b a p e. (refl, subst Q (sym e) (s.whole t b refl p));
  source = λ h a q. back_from P Q t s n a q;
}

-- several, one after the other
pub takes_both : (ts us : List ValType) (P M Q : List ValType → Type 0) (ok : Bool) → Image (Takes ts) P M true → Image (Takes us) M Q ok → Image (Takes (ts ++ us)) P Q ok
takes_both ts us P M Q ok r s =
    image_by (Then (Takes ts) (Takes us)) (Takes (ts ++ us)) P Q ok
    (λ b a w. w.1 ∙ (ap (λ x. ts ++ x) w.2 ∙ sym (append_assoc ts us a)))
    (λ b a e. (us ++ a, e ∙ append_assoc ts us a, refl))
    (image_then (Takes ts) (Takes us) P M Q ok r s)

pub takes_stop : (ts us : List ValType) (P Q : List ValType → Type 0) → Image (Takes ts) P Q false → Image (Takes (ts ++ us)) P Q false
takes_stop ts us P Q r =
    image_by (Then (Takes ts) (Takes us)) (Takes (ts ++ us)) P Q false
    (λ b a w. w.1 ∙ (ap (λ x. ts ++ x) w.2 ∙ sym (append_assoc ts us a)))
    (λ b a e. (us ++ a, e ∙ append_assoc ts us a, refl))
    (image_stops (Takes ts) (Takes us) P Q Q r)

pub leaves_both : (ts us : List ValType) (P M Q : List ValType → Type 0) → Image (PutsOn us) P M true → Image (PutsOn ts) M Q true → Image (PutsOn (ts ++ us)) P Q true
leaves_both ts us P M Q r s =
    image_by (Then (PutsOn us) (PutsOn ts)) (PutsOn (ts ++ us)) P Q true
    (λ b a w. w.2 ∙ (ap (λ x. ts ++ x) w.1 ∙ sym (append_assoc ts us b)))
    (λ b a e. (us ++ b, refl, e ∙ append_assoc ts us b))
    (image_then (PutsOn us) (PutsOn ts) P M Q true r s)

pub take_step : (all : List ValType) (n : ℕ) (t : ValType) (P M Q : List ValType → Type 0) → n < length all → t ≡ get_or all n t → Image (Takes (take n all)) P M true → Image (Takes (t ∷ [])) M Q true
    → Image (Takes (take (n + 1) all)) P Q true
take_step all n t P M Q lt e r s =
    subst (λ x. Image (Takes x) P Q true) (ap (λ u. take n all ++ u ∷ []) e ∙ sym (take_more all n t lt)) (takes_both (take n all) (t ∷ []) P M Q true r s)

pub parted : (all : List ValType) (n : ℕ) (t : ValType) → n < length all → t ≡ get_or all n t → take n all ++ (t ∷ drop (suc n) all) ≡ all
parted all n t lt e = ap (λ x. take n all ++ x) (ap (λ u. u ∷ drop (suc n) all) e ∙ sym (drop-cons all n t lt)) ∙ take-append-drop n all

pub take_stop : (all : List ValType) (n : ℕ) (t : ValType) (P M Q : List ValType → Type 0) → n < length all → t ≡ get_or all n t → Image (Takes (take n all)) P M true → Image (Takes (t ∷ [])) M Q false
    → Image (Takes all) P Q false
take_stop all n t P M Q lt e r s =
    subst (λ x. Image (Takes x) P Q false) (parted all n t lt e)
    (takes_both (take n all) (t ∷ drop (suc n) all) P M Q false r (takes_stop (t ∷ []) (drop (suc n) all) M Q s))

pub leave_step : (all : List ValType) (n : ℕ) (t : ValType) (P M Q : List ValType → Type 0) → n < length all → t ≡ get_or all n t → Image (PutsOn (reverse (take n all))) P M true → Image (PutsOn (t ∷ [])) M Q true
    → Image (PutsOn (reverse (take (n + 1) all))) P Q true
leave_step all n t P M Q lt e r s =
    subst (λ x. Image (PutsOn x) P Q true)
    (sym (ap reverse (take_more all n t lt ∙ ap (λ u. take n all ++ u ∷ []) (sym e)) ∙ reverse-append (take n all) (t ∷ [])))
    (leaves_both (t ∷ []) (reverse (take n all)) P M Q r s)

-- where a result is Ok
pub on_ok : {A E : Type 0} (r : Result A E) (X Y : Type 0) → (X → Y) → OnOk r X → OnOk r Y
on_ok (Ok a) X Y f x = f x
on_ok (Err e) X Y f x = tt

pub image_jumps : (ts : List ValType) (P M Q : List ValType → Type 0) → Image (Takes ts) P M true → Image Anything M Q true → Image (Jumps ts) P Q true
image_jumps ts P M Q r s =
    image_by (Then (Takes ts) Anything) (Jumps ts) P Q true (λ b a w. (w.0, w.1)) (λ b a w. (w.0, w.1, tt)) (image_then (Takes ts) Anything P M Q true r s)

pub jumps_stop : (ts : List ValType) (P Q : List ValType → Type 0) → Image (Takes ts) P Q false → Image (Jumps ts) P Q false
jumps_stop ts P Q r = image_none (Jumps ts) Anything P Q (λ b a p w. (r.reached b w.0 p w.1).0)

-- two of one type
pub chooses_second : (P Q : List ValType → Type 0) → NoTop P → Image Chooses P Q false
chooses_second P Q n = image_none Chooses Anything P Q (λ b a p w. absurd (n w.0 (w.0 ∷ w.1.0) (subst P w.1.1 p)))

pub chooses_first : (P M Q : List ValType → Type 0) (second : Option ValType) → Splits P M second → NoTop M → Image Chooses P Q false
chooses_first P M Q second s n = image_none Chooses Anything P Q (λ b a p w. absurd (n w.0 w.1.0 (s.parts w.0 (w.0 ∷ w.1.0) (subst P w.1.1 p)).1))

chosen : (P M N Q : List ValType → Type 0) (first second known : Option ValType) → Splits P M second → Splits M N first → ((t : ValType) → FitsKnown known t ↔ (FitsKnown first t × FitsKnown second t)) → Splits Q N known
    → (Q [] → IsTrue false) → (a : List ValType) → Q a → (b : List ValType) × P b × Chooses b a
chosen P M N Q first second known s r e w n [] q = false_not (n q)
chosen P M N Q first second known s r e w n (t ∷ ts) q =
    let x = w.parts t ts q in
    let y = (e t).0 x.0 in
    (t ∷ (t ∷ ts), s.whole t (t ∷ ts) y.1 (r.whole t ts y.0 x.1), (t, (ts, refl, refl)))

pub image_chooses : (P M N Q : List ValType → Type 0) (first second known : Option ValType) → Splits P M second → Splits M N first → ((t : ValType) → FitsKnown known t ↔ (FitsKnown first t × FitsKnown second t)) → Splits Q N known
    → (Q [] → IsTrue false) → Image Chooses P Q true
image_chooses P M N Q first second known s r e w n = record {
  reached = λ b a p c.
      let x = s.parts c.0 (c.0 ∷ c.1.0) (subst P c.1.1 p) in
      let y = r.parts c.0 c.1.0 x.1 in
      (refl, subst Q (sym c.1.2) (w.whole c.0 c.1.0 ((e c.0).1 (y.0, x.0)) y.1));
  source = λ h a q. chosen P M N Q first second known s r e w n a q;
}

-- takes these and puts those
pub image_changes : (ts us : List ValType) (P M Q : List ValType → Type 0) → Image (Takes ts) P M true → Image (PutsOn us) M Q true → Image (Changes ts us) P Q true
image_changes ts us P M Q r s = image_then (Takes ts) (PutsOn us) P M Q true r s

pub changes_stop : (ts us : List ValType) (P Q : List ValType → Type 0) → Image (Takes ts) P Q false → Image (Changes ts us) P Q false
changes_stop ts us P Q r = image_none (Changes ts us) Anything P Q (λ b a p w. (r.reached b w.0 p w.1).0)

pub changes_more : (ts us vs : List ValType) (P M Q : List ValType → Type 0) (ok : Bool) → Image (Takes ts) P M true → Image (Changes us vs) M Q ok → Image (Changes (ts ++ us) vs) P Q ok
changes_more ts us vs P M Q ok r s =
    image_by (Then (Takes ts) (Changes us vs)) (Changes (ts ++ us) vs) P Q ok
    (λ b a w. (w.2.0, w.1 ∙ (ap (λ x. ts ++ x) w.2.1 ∙ sym (append_assoc ts us w.2.0)), w.2.2))
    (λ b a w. (us ++ w.0, w.1 ∙ append_assoc ts us w.0, (w.0, refl, w.2)))
    (image_then (Takes ts) (Changes us vs) P M Q ok r s)

pub changes_first : (ts us vs : List ValType) (P M Q : List ValType → Type 0) → Image (Takes ts) P M false → Image (Changes (ts ++ us) vs) P Q false
changes_first ts us vs P M Q r = image_none (Changes (ts ++ us) vs) Anything P Q (λ b a p w. (r.reached b (us ++ w.0) p (w.1 ∙ append_assoc ts us w.0)).0)

pub changes_takes : (ts : List ValType) (P Q : List ValType → Type 0) (ok : Bool) → Image (Changes ts []) P Q ok → Image (Takes ts) P Q ok
changes_takes ts P Q ok r = image_by (Changes ts []) (Takes ts) P Q ok (λ b a w. w.1 ∙ ap (λ x. ts ++ x) (sym w.2)) (λ b a e. (a, e, refl)) r

pub changes_leaves : (us : List ValType) (P Q : List ValType → Type 0) (ok : Bool) → Image (Changes [] us) P Q ok → Image (PutsOn us) P Q ok
changes_leaves us P Q ok r = image_by (Changes [] us) (PutsOn us) P Q ok (λ b a w. w.2 ∙ ap (λ x. us ++ x) (sym w.1)) (λ b a e. (b, refl, e)) r

-- under a look-up
abbrev pub Given : {A : Type 0} → Option A → (A → List ValType → List ValType → Type 0) → List ValType → List ValType → Type 0
Given {A} o R before after = (x : A) × (o ≡ Some x) × R x before after

pub same_some : {A : Type 0} (x y : A) → Some x ≡ Some y → x ≡ y
same_some x y e = cc

pub given_some : {A : Type 0} (o : Option A) (x : A) (R : A → List ValType → List ValType → Type 0) (P Q : List ValType → Type 0) (ok : Bool) → o ≡ Some x → Image (R x) P Q ok → Image (Given o R) P Q ok
given_some o x R P Q ok e r =
    image_by (R x) (Given o R) P Q ok (λ b a w. (x, e, w)) (λ b a w. subst (λ y. R y b a) (same_some w.0 x (sym w.1 ∙ e)) w.2) r

pub some_none : {A : Type 0} (o : Option A) (x : A) → o ≡ None → o ≡ Some x → IsTrue false
some_none o x e f = let g : None ≡ Some x = sym e ∙ f in cc

pub given_none : {A : Type 0} (o : Option A) (R : A → List ValType → List ValType → Type 0) (P Q : List ValType → Type 0) → o ≡ None → Image (Given o R) P Q false
given_none o R P Q e = image_none (Given o R) Anything P Q (λ b a p w. some_none o w.0 e w.1)

-- under a condition
pub holds_image : (C : Type 0) (R : List ValType → List ValType → Type 0) (P Q : List ValType → Type 0) (ok : Bool) → C → Image R P Q ok → Image (λ b a. C × R b a) P Q ok
holds_image C R P Q ok h r = image_by R (λ b a. C × R b a) P Q ok (λ b a w. (h, w)) (λ b a w. w.1) r

pub refused : (R : List ValType → List ValType → Type 0) (P Q : List ValType → Type 0) → ((b a : List ValType) → R b a → ⊥) → Image R P Q false
refused R P Q n = image_none R Anything P Q (λ b a p w. absurd (n b a w))

pub nothing_done : (P : List ValType → Type 0) → Image (λ before after. after ≡ before) P P true
nothing_done P = record { reached = λ b a p e. (refl, subst P (sym e) p); source = λ h a q. (a, q, refl) }

pub are_not : (ts : List ValType) (P M : List ValType → Type 0) → Image (Takes ts) P M false → IsTrue false ↔ P ts
are_not ts P M r = ((λ h. false_not h), (λ p. (r.reached ts [] p (sym (append-nil ts))).0))

pub are_left : (ts : List ValType) (P M : List ValType → Type 0) (b : Bool) → Image (Takes ts) P M true → IsTrue b ↔ M [] → IsTrue b ↔ P ts
are_left ts P M b r e = (
  (λ h. let w = r.source refl [] (e.0 h) in subst P (w.2 ∙ append-nil ts) w.1),
  (λ p. e.1 (r.reached ts [] p (sym (append-nil ts))).1),
)
