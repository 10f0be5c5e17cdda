-- What the writers put is a shortest spelling.
use Rattle.std.proofs.Common.{◌≡◌, ℕ, ◌+◌, ◌/◌, ◌%◌, ◌<◌, ◌≤◌, Bool, List, [], ◌∷◌, ◌++◌, length, append_assoc, Ok, ap, ◌∙◌, subst, arith}
use Rattle.std.proofs.lemmas.List.Elements.{All-head, All-tail}
use Rattle.std.specs.Prelude.{All}
use Rattle.wasm_leb.specs.Leb.{last, leb, Spells, IsShortest, NeedsMore, AddsShortest}
use Rattle.wasm_leb.proofs.Roundtrip.{again, longer}

one_least : (signed : Bool) (top n b : ℕ) (other : List ℕ) → Spells signed top n other → length (b ∷ []) ≤ length other
one_least signed top n b [] d = absurd d
one_least signed top n b (c ∷ other) d = omega arith

pub one_byte : (signed : Bool) (top n b : ℕ) → b < 128 → last signed top b ≡ Ok (n, 1) → IsShortest signed top n (b ∷ [])
one_byte signed top n b l e = record { spells = (l, e); least = λ other a d. one_least signed top n b other d }

more_least : (signed : Bool) (top n b : ℕ) (front other : List ℕ) → NeedsMore signed top n → IsShortest signed (top / 128) (n / 128) front
    → All (λ b. b < 256) other → Spells signed top n other → length (b ∷ front) ≤ length other
more_least signed top n b front [] m s a d = absurd d
more_least signed top n b front (c ∷ []) m s a d = absurd (m.1 c d.0 d.1)
more_least signed top n b front (c ∷ e ∷ other) m s a d =
    let small : c < 256 = All-head (λ b. b < 256) c (e ∷ other) a in
    let high : d.2 ≡ n / 128 = omega (arith, d.3, d.0) in
    let less : length front ≤ length (e ∷ other) =
    s.least (e ∷ other) (All-tail (λ b. b < 256) c (e ∷ other) a) (subst (λ h. Spells signed (top / 128) h (e ∷ other)) high d.4) in
    omega (arith, less)

pub more_bytes : (signed : Bool) (top n : ℕ) (front : List ℕ) → NeedsMore signed top n → IsShortest signed (top / 128) (n / 128) front
    → IsShortest signed top n ((n % 128 + 128) ∷ front)
more_bytes signed top n front m s = record {
  spells = longer signed top n (n % 128 + 128) (n / 128) front (omega arith) m.0 (omega arith) s.spells;
  least = λ other a d. more_least signed top n (n % 128 + 128) front other m s a d;
}

-- what was put after nothing is read again
pub read_again : (signed : Bool) (top n : ℕ) (old new rest : List ℕ) → old ≡ [] → AddsShortest signed top n old new → leb signed top (new ++ rest) ≡ Ok (n, length new)
read_again signed top n old new rest e a =
    let same : a.0 ≡ new = cc (e, a.2) in
    subst (λ (bytes : List ℕ). leb signed top (bytes ++ rest) ≡ Ok (n, length bytes)) same (again signed top n a.0 rest (a.1).spells)

-- a byte that goes on, and then a shortest spelling of the rest
pub adds_more : (signed : Bool) (top n : ℕ) (old between new : List ℕ) → NeedsMore signed top n → between ≡ old ++ (n % 128 + 128) ∷ []
    → AddsShortest signed (top / 128) (n / 128) between new → AddsShortest signed top n old new
adds_more signed top n old between new m e a =
    ((n % 128 + 128) ∷ a.0, more_bytes signed top n a.0 m a.1, a.2 ∙ (ap (λ bytes. bytes ++ a.0) e ∙ append_assoc old ((n % 128 + 128) ∷ []) a.0))
