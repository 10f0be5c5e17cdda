-- One request more is marked.
use Rattle.std.proofs.Common.{◌≡◌, ℕ, zero, suc, ◌<◌, ◌*◌, ◌/◌, ◌%◌, ◌^◌, ◌||◌, cond, List, [], ◌∷◌, ◌++◌, length, get_or, map, refl, sym, ◌∙◌, ap, subst, arith}
use Rattle.std.specs.Prelude.{◌==◌, ◌≢◌, ◌&&◌, bit_or, Vec}
use Rattle.std.specs.Vec.{with_item}
use Rattle.std.specs.declared.alloc.Global.{Global}
use Rattle.std.proofs.lemmas.Nat.{one_shl}
use Rattle.host_rules.specs.States.{Request, same_request}
use Rattle.trapeze_host.specs.declared.requests.Requests.{Requests}
use Rattle.std.specs.Int.{bit_at}
use Rattle.std.proofs.Math.ListN.{set}
use Rattle.std.proofs.lemmas.Nat.Bits.{bit_at-lt, bit_at_or, bit_at-pow_same, bit_at-pow_other}
use Rattle.std.proofs.lemmas.List.{get_or-set_same, get_or-set_other, get_or-map, get_or_read, map-set, length-set, length-map}
use Rattle.trapeze_host.specs.Requests.{is_marked, marks_of, taken_of, answered_of, HasRoom}
use Rattle.trapeze_host.proofs.SetPlaces.{by_same, set_place}

-- the word of a number, with the bit of this number set
abbrev pub with_mark : List ℕ → ℕ → List ℕ
with_mark words n = set words (n / 64) (bit_or (get_or words (n / 64) 0) (2 ^ (n % 64)))

same_bit : (x k : ℕ) → bit_at (bit_or x (2 ^ k)) k ≡ 1
same_bit x k = let both = bit_at_or x (2 ^ k) k in let own = bit_at-pow_same k in let small = bit_at-lt x k in omega arith

other_bit : (x k j : ℕ) → j ≢ k → bit_at (bit_or x (2 ^ k)) j ≡ bit_at x j
other_bit x k j n = let both = bit_at_or x (2 ^ k) j in let own = bit_at-pow_other k j n in omega arith

-- the numbers differ in their words or in their bits
apart : (p n : ℕ) → p ≢ n → p / 64 ≡ n / 64 → p % 64 ≢ n % 64
apart p n d w b = d (omega arith)

pub marked : (words : List ℕ) (n p : ℕ) → n / 64 < length words → is_marked (with_mark words n) p ≡ ((p == n) || is_marked words p)
marked words n p h = by_same (λ b. is_marked (with_mark words n) p ≡ (b || is_marked words p)) p n
    (λ e. ap (λ p. is_marked (with_mark words n) p) e
    ∙ ap (λ x. bit_at x (n % 64) == 1) (get_or-set_same words (n / 64) (bit_or (get_or words (n / 64) 0) (2 ^ (n % 64))) 0 h)
    ∙ ap (λ b. b == 1) (same_bit (get_or words (n / 64) 0) (n % 64)))
    (λ d. by_same (λ b. p / 64 == n / 64 ≡ b → is_marked (with_mark words n) p ≡ is_marked words p) (p / 64) (n / 64)
    (λ w e. ap (λ x. bit_at x (p % 64) == 1) (ap (λ i. get_or (with_mark words n) i 0) w ∙ get_or-set_same words (n / 64) (bit_or (get_or words (n / 64) 0) (2 ^ (n % 64))) 0 h)
    ∙ ap (λ b. b == 1) (other_bit (get_or words (n / 64) 0) (n % 64) (p % 64) (apart p n d w))
    ∙ ap (λ i. bit_at (get_or words i 0) (p % 64) == 1) (sym w))
    (λ w e. ap (λ x. bit_at x (p % 64) == 1) (get_or-set_other words (n / 64) (p / 64) (bit_or (get_or words (n / 64) 0) (2 ^ (n % 64))) 0 w))
    refl)

-- the words of a label
pub words_at : (r : Requests) (l : ℕ) (words : Vec ℕ Global) → l < length r.marks.items → words ≡ get_or r.marks.items l words → marks_of r l ≡ words.items
words_at r l words here is = get_or-map (λ (w : Vec ℕ Global). w.items) r.marks.items l words [] here ∙ ap (λ (w : Vec ℕ Global). w.items) (sym is)

-- a number below all bits of a label has a word
pub words_there : (r : Requests) (l : ℕ) (words : Vec ℕ Global) (n : ℕ) → l < length r.marks.items → words ≡ get_or r.marks.items l words → n < 64 * length (marks_of r l) → n / 64 < length words.items
words_there r l words n here is h = omega (arith, h, ap length (words_at r l words here is))

module _ (r : Requests) (l n x : ℕ) (words : Vec ℕ Global) (here : l < length r.marks.items) (word : n / 64 < length words.items)
    (is_words : words ≡ get_or r.marks.items l words) (is_word : x ≡ get_or words.items (n / 64) x) where
  -- the requests with one of a label marked
  abbrev marked_words : Vec ℕ Global
  marked_words = with_item words (n / 64) (bit_or x (1 * 2 ^ (n % 64) % 2 ^ 64))

  abbrev marked_requests : Requests
  marked_requests = record r { marks = with_item r.marks l marked_words }

  words_here : marks_of r l ≡ words.items
  words_here = words_at r l words here is_words

  words_are : marked_words.items ≡ with_mark words.items n
  words_are = ap (λ b. set words.items (n / 64) (bit_or x b)) (one_shl (n % 64) 64 (omega arith))
      ∙ ap (λ x. set words.items (n / 64) (bit_or x (2 ^ (n % 64)))) (get_or_read words.items (n / 64) x word is_word 0)

  marks_are : (k : ℕ) → marks_of marked_requests k ≡ cond (k == l) (with_mark words.items n) (marks_of r k)
  marks_are k = ap (λ (ws : List (List ℕ)). get_or ws k []) (map-set (λ (w : Vec ℕ Global). w.items) r.marks.items l marked_words)
      ∙ set_place (λ (w : List ℕ). w) (map (λ (w : Vec ℕ Global). w.items) r.marks.items) [] l k marked_words.items (omega (arith, here, length-map r.marks.items (λ (w : Vec ℕ Global). w.items)))
      ∙ ap (λ (ws : List ℕ). cond (k == l) ws (marks_of r k)) words_are

  pub answered_after : (q : Request) → answered_of marked_requests q ≡ (same_request q (record { label = l; number = n }) || answered_of r q)
  answered_after q = ap (λ ws. is_marked ws q.number) (marks_are q.label)
      ∙ by_same (λ b. is_marked (cond b (with_mark words.items n) (marks_of r q.label)) q.number ≡ ((b && q.number == n) || is_marked (marks_of r q.label) q.number)) q.label l
      (λ e. marked words.items n q.number word ∙ ap (λ ws. (q.number == n) || is_marked ws q.number) (sym words_here ∙ ap (marks_of r) (sym e)))
      (λ d. refl)

  pub room_after : HasRoom r → HasRoom marked_requests
  room_after room = record {
    labels = length-set r.marks.items l marked_words ∙ room.labels;
    bits = λ k h. subst (λ (ws : List ℕ). taken_of r k < 64 * length ws) (sym (marks_are k))
        (by_same (λ b. taken_of r k < 64 * length (cond b (with_mark words.items n) (marks_of r k))) k l
        (λ e. omega (arith, room.bits k h, length-set words.items (n / 64) (bit_or (get_or words.items (n / 64) 0) (2 ^ (n % 64))), ap length (ap (marks_of r) e ∙ words_here)))
        (λ d. room.bits k h));
  }

-- a word of zeros behind the others changes no mark
pub widened : (words : List ℕ) (n : ℕ) → is_marked (words ++ 0 ∷ []) n ≡ is_marked words n
widened words n = ap (λ x. bit_at x (n % 64) == 1) (zero_behind words (n / 64))
  where
    zero_behind : (xs : List ℕ) (i : ℕ) → get_or (xs ++ 0 ∷ []) i 0 ≡ get_or xs i 0
    zero_behind [] zero = refl
    zero_behind [] (suc i) = refl
    zero_behind (x ∷ xs) zero = refl
    zero_behind (x ∷ xs) (suc i) = zero_behind xs i

-- other words of a label, with the same marks
module _ (r : Requests) (l : ℕ) (words others : Vec ℕ Global) (here : l < length r.marks.items)
    (is_words : words ≡ get_or r.marks.items l words) (same : (n : ℕ) → is_marked others.items n ≡ is_marked words.items n) where
  abbrev with_others : Vec ℕ Global → Requests
  with_others taken = record { taken = taken; marks = with_item r.marks l others }

  others_are : (taken : Vec ℕ Global) (k : ℕ) → marks_of (with_others taken) k ≡ cond (k == l) others.items (marks_of r k)
  others_are taken k = ap (λ (ws : List (List ℕ)). get_or ws k []) (map-set (λ (w : Vec ℕ Global). w.items) r.marks.items l others)
      ∙ set_place (λ (w : List ℕ). w) (map (λ (w : Vec ℕ Global). w.items) r.marks.items) [] l k others.items (omega (arith, here, length-map r.marks.items (λ (w : Vec ℕ Global). w.items)))

  pub answered_still : (taken : Vec ℕ Global) → answered_of (with_others taken) ≡ answered_of r
  answered_still taken = λ i q. at q i
    where
      at : (q : Request) → answered_of (with_others taken) q ≡ answered_of r q
      at q = ap (λ ws. is_marked ws q.number) (others_are taken q.label)
          ∙ by_same (λ b. is_marked (cond b others.items (marks_of r q.label)) q.number ≡ is_marked (marks_of r q.label) q.number) q.label l
          (λ e. same q.number ∙ ap (λ ws. is_marked ws q.number) (sym (words_at r l words here is_words) ∙ ap (marks_of r) (sym e)))
          (λ d. refl)

  -- there is a place for each number, also where the label's number is this one
  pub room_still : (taken : Vec ℕ Global) → HasRoom r → length taken.items ≡ length r.taken.items
      → ((k : ℕ) → (k ≡ l → get_or taken.items k 0 < 64 * length others.items) × (k ≢ l → get_or taken.items k 0 ≡ taken_of r k)) → HasRoom (with_others taken)
  room_still taken room e n = record {
    labels = length-set r.marks.items l others ∙ room.labels ∙ sym e;
    bits = λ k h. subst (λ (ws : List ℕ). get_or taken.items k 0 < 64 * length ws) (sym (others_are taken k))
        (by_same (λ b. get_or taken.items k 0 < 64 * length (cond b others.items (marks_of r k))) k l
        (λ s. (n k).0 s)
        (λ d. omega (arith, (n k).1 d, room.bits k (omega (arith, h, e)))));
  }
