-- Files that are opened in turn.
use Rattle.std.proofs.Common.{◌≡◌, ℕ, ◌+◌, ◌^◌, ◌<◌, ◌≤◌, List, [], ◌∷◌, ◌++◌, length, refl, sym, ap, subst, ◌∙◌, None, Some, IfSome, arith}
use Rattle.std.specs.declared.option.Option.{Option}
use Rattle.trapeze_io.specs.Seen.{Seen, AddsUp, OpensAll, OpensOne, one_more_open}

-- nothing was opened after the first open
first_alone : (old new : Option ℕ) → new ≡ one_more_open old → IfSome old (λ n. n + 0 + 1 < 2 ^ 64 → new ≡ Some (n + 0 + 1))
first_alone None new one = tt
first_alone (Some n) new one = λ few. one ∙ ap Some (omega arith)

-- one open, and then so many and one
then_more : (old between new : Option ℕ) (count more : ℕ) → more ≡ count + 1 → between ≡ one_more_open old
    → IfSome between (λ n. n + count + 1 < 2 ^ 64 → new ≡ Some (n + count + 1))
    → IfSome old (λ n. n + more + 1 < 2 ^ 64 → new ≡ Some (n + more + 1))
then_more None between new count more is one rest = tt
then_more (Some n) between new count more is one rest = λ few.
    let after : (k : ℕ) → Some k ≡ between → k + count + 1 < 2 ^ 64 → new ≡ Some (k + count + 1) =
    λ k e. subst (λ (o : Option ℕ). IfSome o (λ n. n + count + 1 < 2 ^ 64 → new ≡ Some (n + count + 1))) (sym e) rest in
    let at : Some (n + 1) ≡ between = sym (one ∙ ap Some (omega arith)) in
    after (n + 1) at (omega arith) ∙ ap Some (omega arith)

pub adds_up : (names : List (List ℕ)) (name : List ℕ) (old new : Seen) → OpensAll (names ++ name ∷ []) old new → AddsUp names name old new
adds_up [] name old new (between, one, same) =
    subst (λ (s : Seen). AddsUp [] name old s) (sym same) (record {
      held = one.held;
      opens = first_alone old.opens between.opens one.opens;
      last_name = one.last_name;
      faults = one.faults;
    })
adds_up (first ∷ names) name old new (between, one, rest) =
    let later = adds_up names name between new rest in record {
      held = later.held ∙ one.held;
      opens = then_more old.opens between.opens new.opens (length names) (length (first ∷ names)) (omega arith) one.opens later.opens;
      last_name = later.last_name;
      faults = omega (arith, one.faults, later.faults);
    }

-- some opens, and then more
pub OpensAll-append : (first second : List (List ℕ)) (old mid new : Seen) → OpensAll first old mid → OpensAll second mid new
    → OpensAll (first ++ second) old new
OpensAll-append [] second old mid new p q = subst (λ (s : Seen). OpensAll second s new) p q
OpensAll-append (name ∷ first) second old mid new (between, one, rest) q = (between, one, OpensAll-append first second between mid new rest q)

-- one open alone
pub OpensAll-one : (old new : Seen) (name : List ℕ) → OpensOne old name new → OpensAll (name ∷ []) old new
OpensAll-one old new name one = (new, one, refl)

-- the files held stay while files are opened, and the faults counted do not fall
pub OpensAll-held : (names : List (List ℕ)) (old new : Seen) → OpensAll names old new → new.held ≡ old.held
OpensAll-held [] old new same = ap (λ (s : Seen). s.held) same
OpensAll-held (name ∷ names) old new (between, one, rest) = OpensAll-held names between new rest ∙ one.held

pub OpensAll-faults : (names : List (List ℕ)) (old new : Seen) → OpensAll names old new → old.faults ≤ new.faults
OpensAll-faults [] old new same = omega (arith, ap (λ (s : Seen). s.faults) same)
OpensAll-faults (name ∷ names) old new (between, one, rest) = omega (arith, one.faults, OpensAll-faults names between new rest)
