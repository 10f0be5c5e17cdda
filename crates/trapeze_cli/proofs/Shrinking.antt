-- What a reader keeps after lines that it passed is no longer than before.
use Rattle.std.proofs.Common.{◌≡◌, ℕ, suc, ◌+◌, ◌≤◌, ◌<◌, Bool, true, false, cond, List, [], ◌∷◌, ◌++◌, length, ap, ◌∙◌, refl, arith}
use Rattle.std.specs.Prelude.{◌==◌}
use Rattle.std.specs.List.{slice_split, onto_first}
use Rattle.std.proofs.lemmas.List.Splits.{length-slice_split}
use Rattle.event_file.specs.Lines.{lines_of}
use Rattle.event_file.specs.Reader.{Reader}
use Rattle.event_file.specs.Calls.{Advances}
use Rattle.event_file.specs.declared.fault.LineError.{LineError}
use Rattle.event_file.specs.declared.next.Next.TheVariants as next
use Rattle.policy_toml.specs.Parts.{Parts}
use Rattle.trapeze_cli.specs.Playing.{IsPaced}
use Rattle.trapeze_cli.proofs.PassedLines.{Stays}

-- the bytes of lines, each with its end
abbrev weight : List (List ℕ) → ℕ
weight [] = 0
weight (line ∷ lines) = suc (length line) + weight lines

one_byte : (b : Bool) (x : ℕ) (parts : List (List ℕ)) → 0 < length parts → weight (cond b ([] ∷ parts) (onto_first x parts)) ≡ suc (weight parts)
one_byte b x [] some = absurd (omega arith)
one_byte true x (part ∷ parts) some = omega arith
one_byte false x (part ∷ parts) some = omega arith

split_weight : (p : ℕ → Bool) (xs : List ℕ) → weight (slice_split p xs) ≡ suc (length xs)
split_weight p [] = refl
split_weight p (x ∷ xs) = one_byte (p x) x (slice_split p xs) (omega (arith, length-slice_split p xs)) ∙ ap suc (split_weight p xs)

last_weight : (firsts lines : List (List ℕ)) → weight lines ≤ weight (firsts ++ lines)
last_weight [] lines = omega arith
last_weight (first ∷ firsts) lines = let h = last_weight firsts lines in omega (arith, h)

no_longer : (skipped : List (List ℕ)) (old new : List ℕ) → lines_of old ≡ skipped ++ lines_of new → length new ≤ length old
no_longer skipped old new e =
    let last : weight (lines_of new) ≤ weight (skipped ++ lines_of new) = last_weight skipped (lines_of new) in
    let before : weight (lines_of old) ≡ suc (length old) = split_weight (λ byte. byte == 10) old in
    let after : weight (lines_of new) ≡ suc (length new) = split_weight (λ byte. byte == 10) new in
    let same : weight (lines_of old) ≡ weight (skipped ++ lines_of new) = ap weight e in
    omega (arith, last, before, after, same)

pub shrinks_dry : (old new : Reader) → Advances old new next.NoLine → length new.kept ≤ length old.kept
shrinks_dry old new x =
    let h : length x.between.kept ≤ length old.kept = no_longer x.skips.skipped old.kept x.between.kept x.skips.whole in
    let same : length new.kept ≡ length x.between.kept = ap (λ (r : Reader). length r.kept) x.goes.0 in
    omega (arith, h, same)

pub shrinks_bad : (old new : Reader) (bad : LineError) → Advances old new (next.Bad bad) → length new.kept ≤ length old.kept
shrinks_bad old new bad x =
    let h : length x.between.kept ≤ length old.kept = no_longer x.skips.skipped old.kept x.between.kept x.skips.whole in
    let same : length new.kept ≡ length x.between.kept = ap (λ (r : Reader). length r.kept) x.goes.same in
    omega (arith, h, same)

-- lines were passed and nothing was played
pub paced_later : (policy : Parts) (old new : Reader) (played : ℕ) → IsPaced policy old played → Stays old new → length new.kept ≤ length old.kept → IsPaced policy new played
paced_later policy old new played p s less = record {
  known = s.known ∙ p.known;
  fed = omega (arith, s.fed, p.fed);
  few = omega (arith, s.fed, p.few, less);
}
