-- What an answer says of the grammar.
use Rattle.std.proofs.Common.{◌≡◌, ℕ, ◌+◌, ◌-◌, ◌≤◌, List, [], length, take, drop, Result, Ok, Err, refl, sym, ap, ◌∙◌, subst, arith, inl, inr, length-drop}
use Rattle.std.specs.Prelude.{◌⊎◌, IfOk, IfErr}
use Rattle.wasm_code.specs.declared.error.DecodeError.{DecodeError}
use Rattle.wasm_code.specs.declared.error.DecodeError.TheVariants.{Malformed, TooDeep, TooManyLocals, NoMemory}
use Rattle.std.proofs.lemmas.List.{drop-drop, drop-take, length-take-le}
use Rattle.std.specs.Prelude.{slice_range}
use Rattle.wasm_ast.specs.declared.trees.Seq.{Seq}
use Rattle.wasm_code.specs.Places.{Fails, Place, part}
use Rattle.wasm_code.specs.Fields.{filling}
use Rattle.wasm_code.specs.Reading.{expr, expr_to, body}
use Rattle.wasm_code.specs.Grammar.{Expr, ExprTo, IsBody}
use Rattle.wasm_code.proofs.Agreements.{bind, bind_ok, ok_is, here}
use Rattle.wasm_code.proofs.FieldsBothWays.{filling_sound, filling_complete}
use Rattle.wasm_code.proofs.BodiesBothWays.{expr_reads, body_reads}
use Rattle.wasm_code.proofs.BodyExtents.{expr_goes}
use Rattle.wasm_code.specs.Answers.{ReadsAs, OrNoMemory}

-- what is read is all that is spelled
pub record Reads {X : Type 0} (Spelled : X → Type 0) (reading : Result X DecodeError) : Type 0 where
  pub sound : (x : X) → reading ≡ Ok x → Spelled x
  pub complete : (x : X) → Spelled x → reading ≡ Ok x

pub found : {X : Type 0} (Spelled : X → Type 0) (reading result : Result X DecodeError) → Reads Spelled reading → ReadsAs (λ x. x) result reading → IfOk result Spelled
found Spelled reading (Ok x) a g = a.sound x g
found Spelled reading (Err e) a g = tt

answer_by : {X : Type 0} (reading result answer : Result X DecodeError) → ReadsAs (λ x. x) result reading → reading ≡ answer → OrNoMemory result answer
answer_by reading (Ok x) answer g e = inl (sym g ∙ e)
answer_by reading (Err (Malformed at)) answer g e = inl (sym g ∙ e)
answer_by reading (Err (TooDeep at)) answer g e = inl (sym g ∙ e)
answer_by reading (Err (TooManyLocals f)) answer g e = inl (sym g ∙ e)
answer_by reading (Err NoMemory) answer g e = inr refl

pub only : {X : Type 0} (Spelled : X → Type 0) (reading result : Result X DecodeError) → Reads Spelled reading → ReadsAs (λ x. x) result reading → (x : X) → Spelled x → OrNoMemory result (Ok x)
only Spelled reading result a g x d = answer_by reading result (Ok x) g (a.complete x d)

pub fault : {X : Type 0} (reading result : Result X DecodeError) → ReadsAs (λ x. x) result reading → IfErr result (λ e. (e ≡ NoMemory) ⊎ Fails reading e)
fault reading (Ok x) g = tt
fault reading (Err (Malformed at)) g = inr g
fault reading (Err (TooDeep at)) g = inr g
fault reading (Err (TooManyLocals f)) g = inr g
fault reading (Err NoMemory) g = inl refl

pub first : {X : Type 0} (reading result : Result X DecodeError) → ReadsAs (λ x. x) result reading → (e : DecodeError) → Fails reading e → OrNoMemory result (Err e)
first reading result g e h = answer_by reading result (Err e) g h

-- bodies
pub body_is : (f : ℕ) (p : Place) → Reads (λ b. IsBody b p.rest []) (filling (body f) p)
body_is f p = record { sound = λ b e. filling_sound IsBody (body f) (body_reads f) p b e; complete = λ b d. filling_complete IsBody (body f) (body_reads f) b p d }

-- expressions, with the offset behind them
range_length : (start end : ℕ) (bytes : List ℕ) → end ≤ length bytes → length (slice_range bytes start end) ≡ end - start
range_length start end bytes l = length-take-le (end - start) (drop start bytes) (omega (arith, length-drop start bytes))

further_on : (start end k : ℕ) (bytes : List ℕ) → start + k ≤ end → drop k (slice_range bytes start end) ≡ slice_range bytes (start + k) end
further_on start end k bytes l =
    let m : end - start ≡ k + (end - (start + k)) = omega arith in
    ap (λ n. drop k (take n (drop start bytes))) m
    ∙ (drop-take k (end - (start + k)) (drop start bytes) ∙ ap (take (end - (start + k))) (drop-drop k start bytes))

expr_sound : (start end : ℕ) (bytes : List ℕ) → start ≤ end → end ≤ length bytes → (x : Seq × ℕ) → expr_to (part start end bytes) ≡ Ok x → ExprTo start end bytes x
expr_sound start end bytes a b x e =
    let p = part start end bytes in
    let y = bind_ok (expr p) (λ code. Ok (record { items = code.0 }, code.1.at)) x e in
    let f = (expr_goes p).further y.0 y.1 in
    let k = f.0 in
    let far : start + k ≤ end = omega (arith, f.1, range_length start end bytes b) in
    let rest : y.0.1.rest ≡ slice_range bytes (start + k) end = ap (λ (q : Place). q.rest) f.2 ∙ further_on start end k bytes far in
    let at : y.0.1.at ≡ start + k = ap (λ (q : Place). q.at) f.2 in
    let d : Expr y.0.0 p.rest (slice_range bytes y.0.1.at end) =
    subst (λ r. Expr y.0.0 p.rest r) (rest ∙ ap (λ n. slice_range bytes n end) (sym at)) (expr_reads.sound p y.0 y.1).spells in
    subst (ExprTo start end bytes) (ok_is (record { items = y.0.0 }, y.0.1.at) x y.2) (omega (arith, at), omega (arith, at, far), d)

expr_complete : (start end : ℕ) (bytes : List ℕ) → start ≤ end → end ≤ length bytes → (x : Seq × ℕ) → ExprTo start end bytes x → expr_to (part start end bytes) ≡ Ok x
expr_complete start end bytes a b x d =
    let p = part start end bytes in
    let rest = slice_range bytes x.1 end in
    let c = expr_reads.complete x.0.items p rest d.2 in
    let f = (expr_goes p).further (x.0.items, here rest c.0) c.1 in
    let at : c.0 ≡ start + f.0 = ap (λ (q : Place). q.at) f.2 in
    let left : end - x.1 ≡ length (drop f.0 p.rest) = sym (range_length x.1 end bytes b) ∙ ap (λ (q : Place). length q.rest) f.2 in
    let same : c.0 ≡ x.1 = omega (arith, at, left, f.1, length-drop f.0 p.rest, range_length start end bytes b, d.0, d.1) in
    bind (expr p) (λ code. Ok (record { items = code.0 }, code.1.at)) (x.0.items, here rest c.0) c.1 ∙ ap (λ n. Ok (x.0, n)) same

pub expr_is : (start end : ℕ) (bytes : List ℕ) → start ≤ end → end ≤ length bytes → Reads (ExprTo start end bytes) (expr_to (part start end bytes))
expr_is start end bytes a b = record { sound = expr_sound start end bytes a b; complete = expr_complete start end bytes a b }
