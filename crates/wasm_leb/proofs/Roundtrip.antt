-- What is read is spelled so, and what is spelled so is read.
use Rattle.std.proofs.Common.{◌≡◌, ℕ, suc, ◌+◌, ◌-◌, ◌*◌, ◌/◌, ◌<◌, ◌≤◌, Bool, true, false, List, [], ◌∷◌, ◌++◌, length, Result, Ok, Err, refl, sym, ap, ◌∙◌, subst, arith}
use Rattle.std.proofs.lemmas.Bool.{lt-ltb, ltb-true, le-ltb, ltb-false}
use Rattle.std.specs.Prelude.{nat_lt, if◌then◌else◌}
use Rattle.wasm_leb.specs.declared.error.LebError.{LebError}
use Rattle.wasm_leb.specs.declared.error.LebError.TheVariants.{Long}
use Rattle.wasm_leb.specs.Leb.{last, under, leb, Spells, IsReadFrom}

abbrev Found : Type 0
Found = Result (ℕ × ℕ) LebError

abbrev branch : Bool → Found → Found → Found
branch t a b = if t then a else b

pub again : (signed : Bool) (top n : ℕ) (front rest : List ℕ) → Spells signed top n front → leb signed top (front ++ rest) ≡ Ok (n, length front)
unfolding leb
again signed top n [] rest d = absurd d
again signed top n (b ∷ []) rest d =
    ap (λ t. branch t (last signed top b) (branch (nat_lt 127 top) (under b (leb signed (top / 128) rest)) (Err Long))) (lt-ltb b 128 d.0) ∙ d.1
again signed top n (b ∷ c ∷ bytes) rest d =
    let ih = again signed (top / 128) d.2 (c ∷ bytes) rest d.4 in
    let more : Found = leb signed (top / 128) ((c ∷ bytes) ++ rest) in
    let len : suc (length bytes) + 1 ≡ suc (suc (length bytes)) = omega arith in
    ap (λ t. branch t (last signed top b) (branch (nat_lt 127 top) (under b more) (Err Long))) (le-ltb b 128 d.0)
    ∙ (ap (λ t. branch t (under b more) (Err Long)) (lt-ltb 127 top d.1)
    ∙ (ap (under b) ih ∙ (ap (λ m. Ok (m, suc (length bytes) + 1)) (sym d.3) ∙ ap (λ k. Ok (n, k)) len)))

one : (t : Bool) (n : ℕ) (x : ℕ × ℕ) → branch t (Err Long) (Ok (n, 1)) ≡ Ok x → x.1 ≡ 1
one true n x e = absurd cc
one false n x e = let same : ◌≡◌ {A = ℕ × ℕ} (n, 1) x = cc in ap (λ (x : ℕ × ℕ). x.1) (sym same)

one_of : (t : Bool) (a b : Found) (x : ℕ × ℕ) → (a ≡ Ok x → x.1 ≡ 1) → (b ≡ Ok x → x.1 ≡ 1) → branch t a b ≡ Ok x → x.1 ≡ 1
one_of true a b x f g e = f e
one_of false a b x f g e = g e

last_one : (signed : Bool) (top b : ℕ) (x : ℕ × ℕ) → last signed top b ≡ Ok x → x.1 ≡ 1
last_one false top b x e = one (nat_lt top b) b x e
last_one true top b x e =
    one_of (nat_lt b 64) (branch (nat_lt (top / 2) b) (Err Long) (Ok (b, 1))) (branch (nat_lt (top / 2) (127 - b)) (Err Long) (Ok (top - (127 - b), 1))) x
    (one (nat_lt (top / 2) b) b x) (one (nat_lt (top / 2) (127 - b)) (top - (127 - b)) x) e

pub longer : (signed : Bool) (top n b high : ℕ) (front : List ℕ) → 128 ≤ b → 127 < top → n ≡ b - 128 + 128 * high → Spells signed (top / 128) high front → Spells signed top n (b ∷ front)
longer signed top n b high [] l l' e d = absurd d
longer signed top n b high (c ∷ bytes) l l' e d = (l, l', high, e, d)

read_under : (signed : Bool) (top b : ℕ) (bytes : List ℕ) (r : Found) (x : ℕ × ℕ) → 128 ≤ b → 127 < top → ((y : ℕ × ℕ) → r ≡ Ok y → IsReadFrom signed (top / 128) bytes y)
    → under b r ≡ Ok x → IsReadFrom signed top (b ∷ bytes) x
read_under signed top b bytes (Err e') x l l' ih e = absurd cc
read_under signed top b bytes (Ok h) x l l' ih e =
    let same : ◌≡◌ {A = ℕ × ℕ} (b - 128 + 128 * h.0, h.1 + 1) x = cc in
    let y = ih h refl in
    let k : suc h.1 ≡ h.1 + 1 = omega arith in
    subst (λ x. IsReadFrom signed top (b ∷ bytes) x) same (subst (λ k. IsReadFrom signed top (b ∷ bytes) (b - 128 + 128 * h.0, k)) k
    (record { front = b ∷ y.front; spells = longer signed top (b - 128 + 128 * h.0) b h.0 y.front l l' refl y.spells; used = ap suc y.used; parts = ap (λ t. b ∷ t) y.parts }))

read_more : (signed : Bool) (top b : ℕ) (bytes : List ℕ) (x : ℕ × ℕ) (t : Bool) → nat_lt 127 top ≡ t → 128 ≤ b → ((y : ℕ × ℕ) → leb signed (top / 128) bytes ≡ Ok y → IsReadFrom signed (top / 128) bytes y)
    → branch t (under b (leb signed (top / 128) bytes)) (Err Long) ≡ Ok x → IsReadFrom signed top (b ∷ bytes) x
read_more signed top b bytes x true h l ih e = read_under signed top b bytes (leb signed (top / 128) bytes) x l (ltb-true 127 top h) ih e
read_more signed top b bytes x false h l ih e = absurd cc

read_byte : (signed : Bool) (top b : ℕ) (bytes : List ℕ) (x : ℕ × ℕ) (t : Bool) → nat_lt b 128 ≡ t → ((y : ℕ × ℕ) → leb signed (top / 128) bytes ≡ Ok y → IsReadFrom signed (top / 128) bytes y)
    → branch t (last signed top b) (branch (nat_lt 127 top) (under b (leb signed (top / 128) bytes)) (Err Long)) ≡ Ok x → IsReadFrom signed top (b ∷ bytes) x
read_byte signed top b bytes x true h ih e =
    let k : 1 ≡ x.1 = sym (last_one signed top b x e) in
    let it : last signed top b ≡ Ok (x.0, 1) = e ∙ ap (λ k. Ok (x.0, k)) (sym k) in
    subst (λ k. IsReadFrom signed top (b ∷ bytes) (x.0, k)) k (record { front = b ∷ []; spells = (ltb-true b 128 h, it); used = refl; parts = refl })
read_byte signed top b bytes x false h ih e = read_more signed top b bytes x (nat_lt 127 top) refl (ltb-false b 128 h) ih e

pub spelled : (signed : Bool) (top : ℕ) (bytes : List ℕ) (x : ℕ × ℕ) → leb signed top bytes ≡ Ok x → IsReadFrom signed top bytes x
unfolding leb
spelled signed top [] x e = absurd cc
spelled signed top (b ∷ bytes) x e = read_byte signed top b bytes x (nat_lt b 128) refl (λ y h. spelled signed (top / 128) bytes y h) e
