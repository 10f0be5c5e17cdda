-- What calls in turn wrote, gave and opened together.
use Rattle.std.proofs.Common.{◌≡◌, ℕ, ◌+◌, ◌-◌, List, [], ◌++◌, length, take, drop, refl, sym, ap, subst, ◌∙◌, None, Some, IfSome, MatchOption, is_some, append_assoc, append-nil, length-drop, arith}
use Rattle.std.specs.declared.option.Option.{Option}
use Rattle.std.specs.Io.KnownBytes.{append_known}
use Rattle.std.proofs.Math.Seq.{take-add, take-length, take-append_seam}
use Rattle.trapeze_io.specs.Seen.{Seen, OpenFile, Held, OpensOne, OpensNone, Gives, GivesPrefix, started}

-- a slice from a place on, as the code takes it
pub take_rest : (xs : List ℕ) (i : ℕ) → take (length xs - i) (drop i xs) ≡ drop i xs
take_rest xs i = rw (← length-drop i xs) (take-length (drop i xs))

pub append_known-append : (known : Option (List ℕ)) (xs ys : List ℕ) → append_known (append_known known xs) ys ≡ append_known known (xs ++ ys)
append_known-append None xs ys = refl
append_known-append (Some known) xs ys = ap Some (append_assoc known xs ys)

-- a front was appended, and then the next bytes
pub append_known-more : (a b c : Option (List ℕ)) (i n : ℕ) (xs : List ℕ) → b ≡ append_known a (take i xs)
    → c ≡ append_known b (take n (take (length xs - i) (drop i xs))) → c ≡ append_known a (take (i + n) xs)
append_known-more a b c i n xs first second =
    let later : c ≡ append_known b (take n (drop i xs)) = rw (take_rest xs i) at second in
    rw (take-add i n xs, ← append_known-append a (take i xs) (take n (drop i xs)), ← first) later

-- pieces given in turn are given together
pub Gives-trans : (a b c : Option OpenFile) (xs ys : List ℕ) → Gives a b xs → Gives b c ys → Gives a c (xs ++ ys)
Gives-trans None None None xs ys p q = tt
Gives-trans None None (Some z) xs ys p q = absurd q
Gives-trans None (Some y) c xs ys p q = absurd p
Gives-trans (Some x) None c xs ys p q = absurd p
Gives-trans (Some x) (Some y) None xs ys p q = absurd q
Gives-trans (Some x) (Some y) (Some z) xs ys p q =
    (p.0 ∙ ap (λ l. xs ++ l) q.0 ∙ sym (append_assoc xs ys z.rest), q.1 ∙ ap (λ l. l ++ ys) p.1 ∙ append_assoc x.given xs ys)

pub Gives-nil : (a : Option OpenFile) → Gives a a []
Gives-nil None = tt
Gives-nil (Some x) = (refl, sym (append-nil x.given))

-- a prefix of the file, where it is told
pub prefix_since : (held : Option Held) (name : List ℕ) (old mid now : Option OpenFile) (file xs : List ℕ)
    → mid ≡ started file old → IfSome held (λ files. files name ≡ Some file) → Gives mid now xs → GivesPrefix held name now
prefix_since None name old mid now file xs s h g = tt
prefix_since (Some files) name old mid None file xs s h g =
    elim (files name) as (λ f. MatchOption f (Unit {0}) (λ _. Unit {0})) [ None ↦ tt | Some f ↦ tt ]
prefix_since (Some files) name None mid (Some r) file xs s h g = absurd (subst (λ m. Gives m (Some r) xs) s g)
prefix_since (Some files) name (Some o) mid (Some r) file xs s h g =
    let k : (file ≡ xs ++ r.rest) × (r.given ≡ xs) = subst (λ m. Gives m (Some r) xs) s g in
    rw h (rw (k.0, k.1) (take-append_seam xs r.rest))

pub append_known-nil : (known : Option (List ℕ)) → known ≡ append_known known []
append_known-nil None = refl
append_known-nil (Some known) = ap Some (sym (append-nil known))

-- a piece of no bytes at the end
pub Gives-last : (a b c : Option OpenFile) (xs buffer : List ℕ) (n : ℕ) → n ≡ 0 → Gives a b xs → Gives b c (take n buffer) → Gives a c xs
Gives-last a b c xs buffer n z p q =
    let last : Gives b c [] = subst (λ k. Gives b c (take k buffer)) z q in
    subst (Gives a c) (append-nil xs) (Gives-trans a b c xs [] p last)

-- reads in turn, after no open, make none
pub OpensNone-same : (s : Seen) → OpensNone s s
OpensNone-same s = record { held = refl; opens = refl; last_name = refl; faults = omega arith; mark = refl }

pub OpensNone-trans : (a b c : Seen) → OpensNone a b → OpensNone b c → OpensNone a c
OpensNone-trans a b c p q = record {
  held = q.held ∙ p.held;
  opens = q.opens ∙ p.opens;
  last_name = q.last_name ∙ p.last_name;
  faults = omega (arith, p.faults, q.faults);
  mark = q.mark ∙ p.mark;
}

Gives-told : (a b : Option OpenFile) (xs : List ℕ) → Gives a b xs → is_some b ≡ is_some a
Gives-told None None xs g = refl
Gives-told None (Some s) xs g = absurd g
Gives-told (Some r) None xs g = absurd g
Gives-told (Some r) (Some s) xs g = refl

-- one open, and then reads that gave these bytes
pub OpensOne-read : (old mid now : Seen) (name xs : List ℕ) → OpensOne old name mid → OpensNone mid now → Gives mid.current now.current xs
    → OpensOne old name now
OpensOne-read old mid now name xs p q g = record {
  held = q.held ∙ p.held;
  told = Gives-told mid.current now.current xs g ∙ p.told;
  opens = q.opens ∙ p.opens;
  last_name = subst (λ (last : Option (List ℕ)). IfSome last (λ l. l ≡ name)) (sym q.last_name) p.last_name;
  faults = omega (arith, p.faults, q.faults);
  mark = q.mark ∙ p.mark;
}
