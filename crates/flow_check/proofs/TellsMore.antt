-- What one line more changes of what is kept.
use Rattle.std.proofs.Common.{◌≡◌, ℕ, ◌+◌, ◌-◌, ◌<◌, ◌≤◌, ◌^◌, Bool, true, false, cond, List, [], ◌∷◌, ◌++◌, Option, length, min, refl, sym, ◌∙◌, ap, subst, arith, length-append}
use Rattle.std.specs.Prelude.{filter, not, ◌==◌, ◌&&◌, nat_eq, All, slice_index, slice_set}
use Rattle.std.specs.Cmp.Lexicographic.{pointwise}
use Rattle.std.proofs.lemmas.Bool.Decides.{Decides-eqb, not_from_Decides}
use Rattle.std.proofs.lemmas.Grind.{flat_map-append}
use Rattle.std.proofs.lemmas.List.{append-nil, get_or-set_same, get_or-set_other}
use Rattle.std.proofs.lemmas.List.Elements.{filter-append, All-push, All-filter}
use Rattle.facet_list.specs.Store.{Write, written}
use Rattle.facet_list.specs.Rows.{Rows, Row, Member, rows_of, rows_after, row_of, row_after, AreBelow}
use Rattle.facet_list.proofs.RowLaws.{row_of-after, rows_of-push}
use Rattle.trapeze_lines.specs.declared.line.Line.{Line}
use Rattle.trapeze_lines.specs.declared.line.Kind.TheVariants as kind
use Rattle.flow_check.specs.Sound.{told_write, writes_in, is_turn, turns_in}
use Rattle.flow_check.specs.Kept.{Tells}

pub writes_append : (xs ys : List Line) → writes_in (xs ++ ys) ≡ writes_in xs ++ writes_in ys
writes_append xs ys = flat_map-append (λ (line : Line). told_write line.label.number line.kind) xs ys

pub writes_push : (lines : List Line) (x : Line) → writes_in (lines ++ x ∷ []) ≡ writes_in lines ++ told_write x.label.number x.kind
writes_push lines x = writes_append lines (x ∷ []) ∙ ap (λ w. writes_in lines ++ w) (append-nil (told_write x.label.number x.kind))

pub turns_append : (l : ℕ) (xs ys : List Line) → turns_in l (xs ++ ys) ≡ turns_in l xs + turns_in l ys
turns_append l xs ys =
    ap length (filter-append (λ (line : Line). line.label.number == l && is_turn line.kind) xs ys)
    ∙ length-append (filter (λ (line : Line). line.label.number == l && is_turn line.kind) xs) (filter (λ (line : Line). line.label.number == l && is_turn line.kind) ys)

one : (b : Bool) (x : Line) → length (cond b (x ∷ []) []) ≡ cond b 1 0
one true x = refl
one false x = refl

pub turns_push : (l : ℕ) (lines : List Line) (x : Line) → turns_in l (lines ++ x ∷ []) ≡ turns_in l lines + cond (x.label.number == l && is_turn x.kind) 1 0
turns_push l lines x = turns_append l lines (x ∷ []) ∙ ap (λ n. turns_in l lines + n) (one (x.label.number == l && is_turn x.kind) x)

-- a line that is no turn
no_turn : (b c : Bool) → c ≡ false → cond {A = ℕ} (b && c) 1 0 ≡ 0
no_turn true true e = cc
no_turn true false e = refl
no_turn false c e = refl

pub turns_still : (l : ℕ) (lines : List Line) (x : Line) → is_turn x.kind ≡ false → turns_in l (lines ++ x ∷ []) ≡ turns_in l lines
turns_still l lines x e = turns_push l lines x ∙ ap (λ n. turns_in l lines + n) (no_turn (x.label.number == l) (is_turn x.kind) e) ∙ omega arith

-- a turn of the label, and of another one
a_turn : (b c : Bool) → b ≡ true → c ≡ true → cond {A = ℕ} (b && c) 1 0 ≡ 1
a_turn true true e f = refl
a_turn true false e f = cc
a_turn false c e f = cc

other_turn : (b c : Bool) → b ≡ false → cond {A = ℕ} (b && c) 1 0 ≡ 0
other_turn true c e = cc
other_turn false c e = refl

pub turns_here : (l : ℕ) (lines : List Line) (x : Line) → x.label.number ≡ l → is_turn x.kind ≡ true → turns_in l (lines ++ x ∷ []) ≡ turns_in l lines + 1
turns_here l lines x e t = turns_push l lines x ∙ ap (λ n. turns_in l lines + n) (a_turn (x.label.number == l) (is_turn x.kind) ((Decides-eqb x.label.number l).1 e) t)

pub turns_there : (l : ℕ) (lines : List Line) (x : Line) → (x.label.number == l) ≡ false → turns_in l (lines ++ x ∷ []) ≡ turns_in l lines
turns_there l lines x e = turns_push l lines x ∙ ap (λ n. turns_in l lines + n) (other_turn (x.label.number == l) (is_turn x.kind) e) ∙ omega arith

few : (l : ℕ) (lines : List Line) → turns_in l lines ≤ length lines
few l [] = omega arith
few l (x ∷ lines) = elim (x.label.number == l && is_turn x.kind) as (λ b. length (cond b (x ∷ filter (λ (line : Line). line.label.number == l && is_turn line.kind) lines) (filter (λ (line : Line). line.label.number == l && is_turn line.kind) lines)) ≤ length (x ∷ lines)) [
  | true ↦ (let h = few l lines in omega arith)
  | false ↦ (let h = few l lines in omega arith)
]

-- labels stay below the number
pub below_after : (n : ℕ) (rows : Rows) (x : Write) → AreBelow n rows → x.label < n → AreBelow n (rows_after rows x)
below_after n rows x h lt key = subst (λ (row : Row). All (λ m. m.0 < n) row) (sym (row_of-after rows x key))
    (elim (pointwise nat_eq key x.key) as (λ t. All (λ m. m.0 < n) (cond t (row_after x.label x.value (row_of rows x.key)) (row_of rows key))) [
      | true ↦ All-push (λ (m : Member). m.0 < n) _ (x.label, x.value) (All-filter (λ (m : Member). not (m.0 == x.label)) (λ (m : Member). m.0 < n) (row_of rows x.key) (h x.key)) lt
      | false ↦ h key
    ])

module _ (n : ℕ) (lines : List Line) (x : Line) (rows new : Rows) (turns : List ℕ) where
  pub tells_write : (key : List ℕ) (value : Option (List ℕ)) → Tells n lines rows turns → x.kind ≡ kind.Write key value
      → new ≡ rows_after rows (written x.label.number key value) → Tells n (lines ++ x ∷ []) new turns
  tells_write key value h e r =
      let w = written x.label.number key value in
      record {
        rows_are = r ∙ ap (λ q. rows_after q w) h.rows_are ∙ sym (rows_of-push (writes_in lines) w)
            ∙ sym (ap rows_of (writes_push lines x ∙ ap (λ k. writes_in lines ++ told_write x.label.number k) e));
        turns_are = λ l below. h.turns_are l below ∙ sym (turns_still l lines x (ap is_turn e));
      }

  pub tells_turn : (after : List ℕ) → Tells n lines rows turns → length turns ≡ n → x.label.number < n → length lines < 2 ^ 63 → told_write x.label.number x.kind ≡ [] → is_turn x.kind ≡ true
      → after ≡ slice_set turns x.label.number (min (slice_index turns x.label.number + 1) (2 ^ 64 - 1)) → Tells n (lines ++ x ∷ []) rows after
  tells_turn after h size lt few_lines e t r =
      let at = x.label.number in
      record {
        rows_are = h.rows_are ∙ sym (ap rows_of (writes_push lines x ∙ ap (λ w. writes_in lines ++ w) e ∙ append-nil (writes_in lines)));
        turns_are = λ l below. ap (λ ts. slice_index ts l) r ∙ elim (at == l) as (λ b. (at == l) ≡ b → slice_index (slice_set turns at (min (slice_index turns at + 1) (2 ^ 64 - 1))) l ≡ turns_in l (lines ++ x ∷ [])) [
          | true ↦ λ same.
              (let e = (Decides-eqb at l).0 same in
              let here = turns_here l lines x e t in
              let many = few l lines in
              let count : slice_index turns at ≡ turns_in l lines = ap (slice_index turns) e ∙ h.turns_are l below in
              let value : min (slice_index turns at + 1) (2 ^ 64 - 1) ≡ turns_in l lines + 1 = omega arith in
              ap (slice_index (slice_set turns at (min (slice_index turns at + 1) (2 ^ 64 - 1)))) (sym e)
              ∙ get_or-set_same turns at (min (slice_index turns at + 1) (2 ^ 64 - 1)) 0 (omega arith) ∙ value ∙ sym here)
          | false ↦ λ apart.
              get_or-set_other turns at l (min (slice_index turns at + 1) (2 ^ 64 - 1)) 0 (λ e. not_from_Decides (at == l) (Decides-eqb at l) apart (sym e))
              ∙ h.turns_are l below ∙ sym (turns_there l lines x apart)
        ] refl;
      }
