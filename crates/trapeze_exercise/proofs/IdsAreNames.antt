-- Ids are names.
use Rattle.std.proofs.Common.{◌<◌, ◌≤◌, ◌+◌, ◌%◌, ◌^◌, ℕ, zero, suc, Bool, true, false, List, [], ◌∷◌, ◌++◌, length, decimal, refl, arith}
use Rattle.std.proofs.lemmas.Fmt.{decimal_by_steps, length-decimal-le}
use Rattle.std.specs.Prelude.{IsTrue, ◌&&◌, nat_le}
use Rattle.std.specs.List.{list_all}
use Rattle.trapeze_io.specs.Names.{is_name, goes_in_name}

both : (a b : Bool) → IsTrue a → IsTrue b → IsTrue (a && b)
both true b p q = q
both false b p q = p

-- a digit may go into a name
digit_goes : (n : ℕ) → n < 10 → IsTrue (goes_in_name (48 + n))
digit_goes zero h = refl
digit_goes (suc zero) h = refl
digit_goes (suc (suc zero)) h = refl
digit_goes (suc (suc (suc zero))) h = refl
digit_goes (suc (suc (suc (suc zero)))) h = refl
digit_goes (suc (suc (suc (suc (suc zero))))) h = refl
digit_goes (suc (suc (suc (suc (suc (suc zero)))))) h = refl
digit_goes (suc (suc (suc (suc (suc (suc (suc zero))))))) h = refl
digit_goes (suc (suc (suc (suc (suc (suc (suc (suc zero)))))))) h = refl
digit_goes (suc (suc (suc (suc (suc (suc (suc (suc (suc zero))))))))) h = refl
digit_goes (suc (suc (suc (suc (suc (suc (suc (suc (suc (suc n)))))))))) h = absurd (omega arith)

one_more : (bytes : List ℕ) (byte : ℕ) → IsTrue (list_all goes_in_name bytes) → IsTrue (goes_in_name byte) → IsTrue (list_all goes_in_name (bytes ++ byte ∷ []))
one_more [] byte p q = both (goes_in_name byte) true q refl
one_more (b ∷ bytes) byte p q = more_by (goes_in_name b) (list_all goes_in_name bytes) (list_all goes_in_name (bytes ++ byte ∷ [])) p (λ h. one_more bytes byte h q)
  where
    more_by : (a b c : Bool) → IsTrue (a && b) → (IsTrue b → IsTrue c) → IsTrue (a && c)
    more_by true b c p f = f p
    more_by false b c p f = p

all_digits : (n : ℕ) → n < 2 ^ 64 → IsTrue (list_all goes_in_name (decimal n))
all_digits =
    decimal_by_steps (λ n ds. IsTrue (list_all goes_in_name ds)) (λ n h. both (goes_in_name (48 + n)) true (digit_goes n h) refl)
    (λ n ds h p. one_more ds (48 + n % 10) p (digit_goes (n % 10) (omega arith)))

within : (a b : ℕ) → a ≤ b → IsTrue (nat_le a b)
within a b h = grind arith

-- an `r` and a small number are a name
pub id_is_name : (i : ℕ) → i < 20000 → IsTrue (is_name (114 ∷ decimal i))
id_is_name i h =
    both (list_all goes_in_name (decimal i)) (nat_le (length (114 ∷ decimal i)) 64) (all_digits i (omega arith))
    (within (length (114 ∷ decimal i)) 64 (omega (arith, length-decimal-le 5 i (omega arith) (omega arith) (omega arith))))
