-- Bodies: what is read is spelled so, and what is spelled so is read.
use Rattle.std.proofs.Common.{◌≡◌, ℕ, zero, suc, ◌+◌, ◌-◌, ◌≤◌, Bool, true, false, List, [], ◌∷◌, ◌++◌, length, Ok, Err, refl, sym, ap, subst, ◌∙◌, arith}
use Rattle.std.proofs.lemmas.Bool.{leb-true, le-leb}
use Rattle.std.proofs.lemmas.List.Sums.{sum_by-cons}
use Rattle.std.specs.Prelude.{nat_le, if◌then◌else◌, replicate, sum_by}
use Rattle.std.specs.List.{flat_map}
use Rattle.wasm_ast.specs.declared.val_types.ValType.{ValType}
use Rattle.wasm_ast.specs.declared.bodies.Body.{Body}
use Rattle.wasm_code.specs.declared.error.DecodeError.TheVariants.{TooManyLocals}
use Rattle.wasm_code.specs.Places.{Place, ◌>>=◌}
use Rattle.wasm_code.specs.Fields.{u32, val_type}
use Rattle.wasm_code.specs.Spelling.{U32, Members}
use Rattle.wasm_code.specs.Reading.{expr, within, locals, body}
use Rattle.wasm_code.specs.Grammar.{Expr, Group, IsBody}
use Rattle.wasm_code.proofs.Agreements.{bind, bind_ok, ok_is, here, Was, Reads}
use Rattle.wasm_code.proofs.FieldsBothWays.{u32_reads, val_type_reads}
use Rattle.wasm_code.proofs.Stepping.{steps_shorter}
use Rattle.wasm_code.proofs.SpelledIsRead.{complete}
use Rattle.wasm_code.proofs.ReadIsSpelled.{sound}

pub expr_reads : Reads Expr expr
expr_reads = record {
  sound = λ p y e. record { spells = sound p y e; shorter = steps_shorter (suc (length p.rest)) [] [] p y e };
  complete = complete;
}

abbrev Groups : Type 0
Groups = List (ℕ × ValType)

abbrev total : Groups → ℕ
total groups = sum_by (λ group. group.0) groups

abbrev declared : Groups → List ValType
declared groups = flat_map (λ group. replicate group.0 group.1) groups

total_cons : (g : ℕ × ValType) (groups : Groups) → total (g ∷ groups) ≡ g.0 + total groups
total_cons g groups = sum_by-cons (λ (group : ℕ × ValType). group.0) g groups

record IsLocals (n left : ℕ) (p : Place) (y : List ValType × Place) : Type 0 where
  groups : Groups
  counted : length groups ≡ n
  few : total groups ≤ left
  locals : y.0 ≡ declared groups
  spells : Members Group groups p.rest y.1.rest
  shorter : length y.1.rest ≤ length p.rest

within_by : (f : ℕ) (b : Bool) (t : Unit {0}) → (if b then Ok tt else Err (TooManyLocals f)) ≡ Ok t → b ≡ true
within_by f true t e = refl
within_by f false t e = absurd cc

within_ok : (f count left : ℕ) (t : Unit {0}) → within f count left ≡ Ok t → count ≤ left
within_ok f count left t e = leb-true count left (within_by f (nat_le count left) t e)

pub within_is : (f count left : ℕ) → count ≤ left → within f count left ≡ Ok tt
within_is f count left l = ap (λ b. if b then Ok tt else Err (TooManyLocals f)) (le-leb count left l)

locals_sound : (f n left : ℕ) (p : Place) (y : List ValType × Place) → locals f n left p ≡ Ok y → IsLocals n left p y
unfolding locals
locals_sound f zero left p y e =
    subst (IsLocals zero left p) (ok_is ([], p) y e) (record { groups = []; counted = refl; few = omega arith; locals = refl; spells = refl; shorter = omega arith })
locals_sound f (suc n) left p y e =
    let c = bind_ok (u32 p) (λ count. within f count.0 left >>= λ t. val_type count.1 >>= λ one. locals f n (left - count.0) one.1 >>= λ others. Ok (replicate count.0 one.0 ++ others.0, others.1)) y e in
    let t = bind_ok (within f c.0.0 left) (λ t. val_type c.0.1 >>= λ one. locals f n (left - c.0.0) one.1 >>= λ others. Ok (replicate c.0.0 one.0 ++ others.0, others.1)) y c.2 in
    let one = bind_ok (val_type c.0.1) (λ one. locals f n (left - c.0.0) one.1 >>= λ others. Ok (replicate c.0.0 one.0 ++ others.0, others.1)) y t.2 in
    let o = bind_ok (locals f n (left - c.0.0) one.0.1) (λ others. Ok (replicate c.0.0 one.0.0 ++ others.0, others.1)) y one.2 in
    let ih = locals_sound f n (left - c.0.0) one.0.1 o.0 o.1 in
    let w = u32_reads.sound p c.0 c.1 in
    let v = val_type_reads.sound c.0.1 one.0 one.1 in
    let g : ℕ × ValType = (c.0.0, one.0.0) in
    subst (IsLocals (suc n) left p) (ok_is (replicate c.0.0 one.0.0 ++ o.0.0, o.0.1) y o.2) (record {
      groups = g ∷ ih.groups;
      counted = ap suc ih.counted;
      few = omega (arith, total_cons g ih.groups, ih.few, within_ok f c.0.0 left t.0 t.1);
      locals = ap (λ ts. replicate c.0.0 one.0.0 ++ ts) ih.locals;
      spells = (one.0.1.rest, (c.0.1.rest, w.spells, v.spells), ih.spells);
      shorter = omega (arith, w.shorter, v.shorter, ih.shorter);
    })

locals_complete : (f : ℕ) (groups : Groups) (left : ℕ) (p : Place) (rest : List ℕ) → total groups ≤ left → Members Group groups p.rest rest
    → (at : ℕ) × (locals f (length groups) left p ≡ Ok (declared groups, here rest at))
unfolding locals
locals_complete f [] left p rest l d = (p.at, ap (λ r. Ok ([], here r p.at)) d)
locals_complete f (g ∷ groups) left p rest l d =
    let n = length groups in
    let k : g.0 + total groups ≤ left = omega (arith, total_cons g groups) in
    let c = u32_reads.complete g.0 p d.1.0 d.1.1 in
    let q = here d.1.0 c.0 in
    let v = val_type_reads.complete g.1 q d.0 d.1.2 in
    let r = here d.0 v.0 in
    let ih = locals_complete f groups (left - g.0) r rest (omega arith) d.2 in (
      ih.0,
      bind (u32 p) (λ count. within f count.0 left >>= λ t. val_type count.1 >>= λ one. locals f n (left - count.0) one.1 >>= λ others. Ok (replicate count.0 one.0 ++ others.0, others.1)) (g.0, q) c.1
          ∙ (bind (within f g.0 left) (λ t. val_type q >>= λ one. locals f n (left - g.0) one.1 >>= λ others. Ok (replicate g.0 one.0 ++ others.0, others.1)) tt (within_is f g.0 left (omega arith))
          ∙ (bind (val_type q) (λ one. locals f n (left - g.0) one.1 >>= λ others. Ok (replicate g.0 one.0 ++ others.0, others.1)) (g.1, r) v.1
          ∙ bind (locals f n (left - g.0) r) (λ others. Ok (replicate g.0 g.1 ++ others.0, others.1)) (declared groups, here rest ih.0) ih.1)),
    )

body_sound : (f : ℕ) (p : Place) (y : Body × Place) → body f p ≡ Ok y → Was IsBody p y
unfolding body
body_sound f p y e =
    let n = bind_ok (u32 p) (λ groups. locals f groups.0 1024 groups.1 >>= λ ts. expr ts.1 >>= λ code. Ok (record { locals = ts.0; code = record { items = code.0 } }, code.1)) y e in
    let ts = bind_ok (locals f n.0.0 1024 n.0.1) (λ ts. expr ts.1 >>= λ code. Ok (record { locals = ts.0; code = record { items = code.0 } }, code.1)) y n.2 in
    let c = bind_ok (expr ts.0.1) (λ code. Ok (record { locals = ts.0.0; code = record { items = code.0 } }, code.1)) y ts.2 in
    let w = u32_reads.sound p n.0 n.1 in
    let l = locals_sound f n.0.0 1024 n.0.1 ts.0 ts.1 in
    let x = expr_reads.sound ts.0.1 c.0 c.1 in
    subst (Was IsBody p) (ok_is (record { locals = ts.0.0; code = record { items = c.0.0 } }, c.0.1) y c.2) (record {
      spells = record {
        groups = l.groups;
        few = l.few;
        locals = l.locals;
        spells = (ts.0.1.rest, (n.0.1.rest, subst (λ k. U32 k p.rest n.0.1.rest) (sym l.counted) w.spells, l.spells), x.spells);
      };
      shorter = omega (arith, w.shorter, l.shorter, x.shorter);
    })

body_complete : (f : ℕ) (b : Body) (p : Place) (rest : List ℕ) → IsBody b p.rest rest → (at : ℕ) × (body f p ≡ Ok (b, here rest at))
unfolding body
body_complete f b p rest d =
    let s = d.spells in
    let n = length d.groups in
    let c = u32_reads.complete n p s.1.0 s.1.1 in
    let q = here s.1.0 c.0 in
    let l = locals_complete f d.groups 1024 q s.0 d.few s.1.2 in
    let r = here s.0 l.0 in
    let x = complete b.code.items r rest s.2 in (
      x.0,
      bind (u32 p) (λ groups. locals f groups.0 1024 groups.1 >>= λ ts. expr ts.1 >>= λ code. Ok (record { locals = ts.0; code = record { items = code.0 } }, code.1)) (n, q) c.1
          ∙ (bind (locals f n 1024 q) (λ ts. expr ts.1 >>= λ code. Ok (record { locals = ts.0; code = record { items = code.0 } }, code.1)) (declared d.groups, r) l.1
          ∙ (bind (expr r) (λ code. Ok (record { locals = declared d.groups; code = record { items = code.0 } }, code.1)) (b.code.items, here rest x.0) x.1
          ∙ ap (λ ts. Ok (record { locals = ts; code = b.code }, here rest x.0)) (sym d.locals))),
    )

pub body_reads : (f : ℕ) → Reads IsBody (body f)
body_reads f = record { sound = body_sound f; complete = body_complete f }
