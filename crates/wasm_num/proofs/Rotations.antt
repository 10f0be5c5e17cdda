-- The two parts of a rotation share no bit, so `|` adds them.
use Rattle.std.proofs.Common.{◌≡◌, ℕ, zero, suc, ◌+◌, ◌-◌, ◌*◌, ◌/◌, ◌%◌, ◌^◌, ◌<◌, ◌≤◌, Bool, bit_or, sym, ap, ap₂, ◌∙◌, subst, arith}
use Rattle.std.proofs.lemmas.Nat.{pow_pos, mod-pow-add, shl-shr, shr_below, or_shifted, or_comm, mod_below, or_lt, shr_le}
use Rattle.std.proofs.Math.Nat.{mul-mod_left, mod-eq_of_lt, div-one, mul-one, div-eq_of_lt}
use Rattle.std.specs.Int.Bits.{or_self}
use Rattle.wasm_num.specs.Num.{width, rotate}

-- what stays when n moves k bits up
high : (w k n : ℕ) → k ≤ w → (n * 2 ^ k) % 2 ^ w ≡ (n % 2 ^ (w - k)) * 2 ^ k
high w k n le =
    let split : w ≡ (w - k) + k = omega arith in
    ap (λ w. (n * 2 ^ k) % 2 ^ w) split
    ∙ (mod-pow-add (n * 2 ^ k) (w - k) k
    ∙ (ap₂ (λ h l. h % 2 ^ (w - k) * 2 ^ k + l) (shl-shr n k) (mul-mod_left n (2 ^ k)) ∙ omega arith))

-- what comes round
low : (w k n : ℕ) → k ≤ w → n < 2 ^ w → n / 2 ^ (w - k) < 2 ^ k
low w k n le lt =
    let split : w ≡ k + (w - k) = omega arith in
    shr_below n k (w - k) (subst (λ w. n < 2 ^ w) split lt)

joined : (w k n : ℕ) → k ≤ w → n < 2 ^ w → bit_or ((n * 2 ^ k) % 2 ^ w) (n / 2 ^ (w - k)) ≡ rotate w n k
joined w k n le lt =
    let h = high w k n le in
    ap (λ h. bit_or h (n / 2 ^ (w - k))) h
    ∙ (or_shifted (n % 2 ^ (w - k)) k (n / 2 ^ (w - k)) (low w k n le lt)
    ∙ ap (λ h. h + n / 2 ^ (w - k)) (sym h))

whole : (w n : ℕ) → n < 2 ^ w → (n * 2 ^ 0) % 2 ^ w ≡ n
whole w n lt = ap (λ n. n % 2 ^ w) (mul-one n) ∙ mod-eq_of_lt lt

round : (w : ℕ) → (w - 0) % w ≡ 0
round w = let once : w - 0 ≡ 1 * w = omega arith in ap (λ j. j % w) once ∙ mul-mod_left 1 w

none_up : (w n : ℕ) → n < 2 ^ w → rotate w n 0 ≡ n
none_up w n lt =
    let all : w - 0 ≡ w = omega arith in
    ap₂ (λ h l. h + l) (whole w n lt) (ap (λ k. n / 2 ^ k) all ∙ div-eq_of_lt lt) ∙ omega arith

all_up : (w n : ℕ) → rotate w n w ≡ n
all_up w n =
    let none : w - w ≡ 0 = omega arith in
    ap₂ (λ h l. h + l) (mul-mod_left n (2 ^ w)) (ap (λ k. n / 2 ^ k) none ∙ div-one n) ∙ omega arith

left : (w k n : ℕ) → k < w → n < 2 ^ w → bit_or ((n * 2 ^ k) % 2 ^ w) (n / 2 ^ ((w - k) % w)) ≡ rotate w n k
left w zero n k lt =
    let none : (w - 0) % w ≡ 0 = round w in
    ap₂ (λ h l. bit_or h l) (whole w n lt) (ap (λ k. n / 2 ^ k) none ∙ div-one n) ∙ (or_self n ∙ sym (none_up w n lt))
left w (suc k) n l lt =
    let back : w - suc k < w = omega arith in
    ap (λ j. bit_or ((n * 2 ^ suc k) % 2 ^ w) (n / 2 ^ j)) (mod-eq_of_lt back) ∙ joined w (suc k) n (omega arith) lt

right : (w k n : ℕ) → k < w → n < 2 ^ w → bit_or (n / 2 ^ k) ((n * 2 ^ ((w - k) % w)) % 2 ^ w) ≡ rotate w n (w - k)
right w zero n k lt =
    let none : (w - 0) % w ≡ 0 = round w in
    let all : w - 0 ≡ w = omega arith in
    ap₂ (λ l h. bit_or l h) (div-one n) (ap (λ k. (n * 2 ^ k) % 2 ^ w) none ∙ whole w n lt)
    ∙ (or_self n ∙ sym (ap (rotate w n) all ∙ all_up w n))
right w (suc k) n l lt =
    let back : w - suc k < w = omega arith in
    let twice : w - (w - suc k) ≡ suc k = omega arith in
    ap (λ j. bit_or (n / 2 ^ suc k) ((n * 2 ^ j) % 2 ^ w)) (mod-eq_of_lt back)
    ∙ (or_comm (n / 2 ^ suc k) ((n * 2 ^ (w - suc k)) % 2 ^ w)
    ∙ (ap (λ j. bit_or ((n * 2 ^ (w - suc k)) % 2 ^ w) (n / 2 ^ j)) (sym twice) ∙ joined w (w - suc k) n (omega arith) lt))

taken : (w b k : ℕ) → 0 < w → k ≡ b % w → k % w ≡ b % w
taken w b k l e = ap (λ k. k % w) e ∙ mod-eq_of_lt (mod_below b w l)

rotl_is : (w n b k : ℕ) → 0 < w → n < 2 ^ w → k ≡ b % w → bit_or ((n * 2 ^ (k % w)) % 2 ^ w) (n / 2 ^ ((w - k % w) % w)) ≡ rotate w n (b % w)
rotl_is w n b k l lt e =
    subst (λ k. bit_or ((n * 2 ^ k) % 2 ^ w) (n / 2 ^ ((w - k) % w)) ≡ rotate w n (b % w)) (sym (taken w b k l e)) (left w (b % w) n (mod_below b w l) lt)

rotr_is : (w n b k : ℕ) → 0 < w → n < 2 ^ w → k ≡ b % w → bit_or (n / 2 ^ (k % w)) ((n * 2 ^ ((w - k % w) % w)) % 2 ^ w) ≡ rotate w n (w - b % w)
rotr_is w n b k l lt e =
    subst (λ k. bit_or (n / 2 ^ k) ((n * 2 ^ ((w - k) % w)) % 2 ^ w) ≡ rotate w n (w - b % w)) (sym (taken w b k l e)) (right w (b % w) n (mod_below b w l) lt)

-- what the machine's rotations give, at either width
pub rotl_at : (wide : Bool) (w n b k : ℕ) → width wide ≡ w → 0 < w → n < 2 ^ width wide → k ≡ b % width wide
    → bit_or ((n * 2 ^ (k % w)) % 2 ^ w) (n / 2 ^ ((w - k % w) % w)) ≡ rotate (width wide) n (b % width wide)
rotl_at wide w n b k e l lt h =
    subst (λ w. bit_or ((n * 2 ^ (k % w)) % 2 ^ w) (n / 2 ^ ((w - k % w) % w)) ≡ rotate (width wide) n (b % width wide)) e
    (rotl_is (width wide) n b k (omega (arith, e, l)) lt h)

pub rotr_at : (wide : Bool) (w n b k : ℕ) → width wide ≡ w → 0 < w → n < 2 ^ width wide → k ≡ b % width wide
    → bit_or (n / 2 ^ (k % w)) ((n * 2 ^ ((w - k % w) % w)) % 2 ^ w) ≡ rotate (width wide) n (width wide - b % width wide)
rotr_at wide w n b k e l lt h =
    subst (λ w. bit_or (n / 2 ^ (k % w)) ((n * 2 ^ ((w - k % w) % w)) % 2 ^ w) ≡ rotate (width wide) n (width wide - b % width wide)) e
    (rotr_is (width wide) n b k (omega (arith, e, l)) lt h)

pub rotate_below : (w k n : ℕ) → k ≤ w → n < 2 ^ w → rotate w n k < 2 ^ w
rotate_below w k n le lt =
    subst (λ r. r < 2 ^ w) (joined w k n le lt)
    (or_lt w ((n * 2 ^ k) % 2 ^ w) (n / 2 ^ (w - k)) (mod_below (n * 2 ^ k) (2 ^ w) (pow_pos w)) (omega (arith, lt, shr_le n (w - k))))
