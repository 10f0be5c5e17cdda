-- Guests that go on.
use Rattle.std.proofs.Common.{◌≡◌, ℕ, Bool, List, [], ◌∷◌, Option, Some, None, Result, Ok, Err, length, take, refl, sym, ◌∙◌, ap, subst}
use Rattle.std.specs.Prelude.{if◌then◌else◌, unwrap_or}
use Rattle.std.proofs.lemmas.Bool.{eq-eqb, ne_eqb}
use Rattle.facet_list.specs.Store.{Write}
use Rattle.facet_list.specs.Store as writes
use Rattle.facet_list.specs.Rows.{Rows, rows_of, row_of, read_row}
use Rattle.trapeze_lines.specs.declared.line.Line.{Line}
use Rattle.trapeze_lines.specs.declared.line.Kind.TheVariants as kind
use Rattle.trapeze_lines.specs.declared.outcome.Cause.TheVariants.{Memory}
use Rattle.trapeze_lines.specs.Lines.{line_at}
use Rattle.wasm_ast.specs.declared.modules.Module.{Module}
use Rattle.wasm_ast.specs.Memory.{memory_write}
use Rattle.wasm_memory.specs.Contents.{refused}
use Rattle.wasm_semantics.specs.Threads.{Thread}
use Rattle.wasm_semantics.specs.Units.{answered, with_memory}
use Rattle.sandbox.specs.declared.sandboxes.Sandbox.{Sandbox}
use Rattle.sandbox.specs.Threads.{thread_of, IsReady}
use Rattle.host_rules.specs.Rules.{Rules}
use Rattle.host_rules.specs.States.{Activation, State, Moved, then_lines}
use Rattle.host_rules.specs.Calls.{Resumed, RaisedTo, Refused, Nothing, resumes, written_out, copied, read_out, raised}
use Rattle.host_rules.specs.Calls.{Effect as Does}
use Rattle.host_rules.specs.Effects.{apply}
use Rattle.host_rules.specs.Stores.{read}
use Rattle.host_rules.specs.Modules.{guest_of}
use Rattle.shim_calls.specs.declared.effect.Effect.{Effect}
use Rattle.shim_calls.specs.declared.effect.Effect.TheVariants as effect
use Rattle.shim_calls.specs.Performing.{made, Resumes}
use Rattle.shim_calls.specs.Wished.{MakesLines}

-- an access that was not refused gives something, and one that was gives nothing
was_given : {A E : Type 0} (fault : E) (o : Option A) (x : Unit {0}) → Ok x ≡ refused fault o → (y : A) × (o ≡ Some y)
was_given {A} {E} fault None x e = absurd (let k : ◌≡◌ {A = Result (Unit {0}) E} (Ok x) (Err fault) = e in cc)
was_given fault (Some y) x e = (y, refl)

was_refused : {A E : Type 0} (fault other : E) (o : Option A) → Err other ≡ refused fault o → o ≡ None
was_refused fault other None e = refl
was_refused {A} {E} fault other (Some y) e = absurd (let k : ◌≡◌ {A = Result (Unit {0}) E} (Err other) (Ok tt) = e in cc)

module _ (P : Rules) (m : Module) (modules : List Module) (c : ℕ) (a : Activation Thread) (s : State Thread) (t : Thread) (rows : Rows) (sandbox : Sandbox) where
  -- a guest that is answered goes on, where its lines and what it does are all that the effect makes
  pub resumed : (v : Option ℕ) (lines : List Line) (does : Does) (e : Option Effect) → thread_of m sandbox ≡ answered t v → IsReady m sandbox
      → then_lines lines (apply P c a does s) ≡ made P c a e s → rows ≡ rows_of (made P c a e s).state.store
      → Resumes P m c a s (resumes (guest_of modules) t v lines does) rows sandbox e
  resumed v lines does e thread ready moved stored =
      record { lines = lines; does = does; is = ap (λ t. Resumed t lines does) (sym thread); moved = moved; rows = stored; ready = ready }

  -- bytes were copied to it
  pub copied_to : {E : Type 0} (fault : E) (u : Thread) (memory front bytes : List ℕ) (at cap : ℕ) (lines : List Line) (e : Option Effect) (x : Unit {0}) → t.store.memory ≡ memory → front ≡ take cap bytes
      → Ok x ≡ refused fault (memory_write memory at front) → u ≡ with_memory t (unwrap_or (memory_write memory at front) memory) → thread_of m sandbox ≡ answered u (Some (length bytes))
      → IsReady m sandbox → MakesLines P c a s lines e → rows ≡ rows_of s.store → Resumes P m c a s (copied (guest_of modules) t at cap bytes lines) rows sandbox e
  copied_to fault u memory front bytes at cap lines e x memory_is front_is ok put thread ready tells stored =
      let M = guest_of modules in
      let given = was_given fault (memory_write memory at front) x ok in
      let changed : u ≡ with_memory t given.0 = put ∙ ap (λ o. with_memory t (unwrap_or o memory)) given.1 in
      record {
        lines = lines;
        does = Nothing;
        is = ap (λ memory. written_out M t (memory_write memory at (take cap bytes)) (length bytes) lines) memory_is
            ∙ ap (λ front. written_out M t (memory_write memory at front) (length bytes) lines) (sym front_is)
            ∙ ap (λ o. written_out M t o (length bytes) lines) given.1
            ∙ ap (λ u. Resumed (answered u (Some (length bytes))) lines Nothing) (sym changed)
            ∙ ap (λ u. Resumed u lines Nothing) (sym thread);
        moved = tells;
        rows = stored ∙ ap (λ (moved : Moved Thread). rows_of moved.state.store) tells;
        ready = ready;
      }

  -- it is at the label already
  pub raised_here : (l new : ℕ) → new ≡ P.join c l → new ≡ c → thread_of m sandbox ≡ answered t None → IsReady m sandbox → rows ≡ rows_of s.store
      → Resumes P m c a s (raised P (guest_of modules) c t l) rows sandbox None
  raised_here l new is here thread ready stored =
      subst (λ called. Resumes P m c a s called rows sandbox None)
      (sym (ap (λ b. if b then resumes (guest_of modules) t None [] Nothing else RaisedTo (P.join c l) (answered t None)) (eq-eqb (P.join c l) c (sym is ∙ here))))
      (resumed None [] Nothing None thread ready refl stored)

  -- it goes on at another label
  pub raised_there : (l new : ℕ) → new ≡ P.join c l → (new ≡ c → ⊥) → thread_of m sandbox ≡ answered t None → raised P (guest_of modules) c t l ≡ RaisedTo new (thread_of m sandbox)
  raised_there l new is other thread =
      ap (λ b. if b then resumes (guest_of modules) t None [] Nothing else RaisedTo (P.join c l) (answered t None)) (ne_eqb (P.join c l) c (λ e. other (is ∙ e)))
      ∙ ap (λ l. RaisedTo l (answered t None)) (sym is) ∙ ap (RaisedTo new) (sym thread)

-- a read that found nothing
pub read_nothing : (P : Rules) (m : Module) (modules : List Module) (c : ℕ) (a : Activation Thread) (s : State Thread) (t : Thread) (rows : Rows) (sandbox : Sandbox) (key : List ℕ) (place cap : ℕ)
    → read P c key s.store ≡ None → thread_of m sandbox ≡ answered t (Some 4294967295) → IsReady m sandbox → rows ≡ rows_of s.store
    → Resumes P m c a s (read_out (guest_of modules) t place cap (read P c key s.store) (line_at c (kind.Read key (read P c key s.store)) ∷ [])) rows sandbox (Some (effect.Read key None))
read_nothing P m modules c a s t rows sandbox key place cap none thread ready stored =
    subst (λ v. Resumes P m c a s (read_out (guest_of modules) t place cap v (line_at c (kind.Read key v) ∷ [])) rows sandbox (Some (effect.Read key None))) (sym none)
    (resumed P m modules c a s t rows sandbox (Some 4294967295) (line_at c (kind.Read key None) ∷ []) Nothing (Some (effect.Read key None)) thread ready refl stored)

-- the rows tell what is read
pub read_is : (P : Rules) (c : ℕ) (flows : ℕ → ℕ → Bool) (key asked : List ℕ) (rows : Rows) (w : List Write) (v : Option (List ℕ))
    → ((flows : ℕ → ℕ → Bool) (c : ℕ) (key : List ℕ) (w : List Write) → read_row flows c (row_of (rows_of w) key) ≡ writes.read flows c key w)
    → flows ≡ P.flows → asked ≡ key → rows ≡ rows_of w → v ≡ read_row flows c (row_of rows asked) → read P c key w ≡ v
read_is P c flows key asked rows w v tell order is stored found =
    sym (found ∙ ap (λ f. read_row f c (row_of rows asked)) order ∙ ap (λ key. read_row P.flows c (row_of rows key)) is ∙ ap (λ rows. read_row P.flows c (row_of rows key)) stored ∙ tell P.flows c key w)

-- a range outside the memory of a guest
pub not_copied : {E : Type 0} (fault other : E) (modules : List Module) (t : Thread) (memory front bytes : List ℕ) (at cap : ℕ) (lines : List Line) → t.store.memory ≡ memory → front ≡ take cap bytes
    → Err other ≡ refused fault (memory_write memory at front) → copied (guest_of modules) t at cap bytes lines ≡ Refused Memory
not_copied fault other modules t memory front bytes at cap lines memory_is front_is err =
    let M = guest_of modules in
    ap (λ memory. written_out M t (memory_write memory at (take cap bytes)) (length bytes) lines) memory_is
    ∙ ap (λ front. written_out M t (memory_write memory at front) (length bytes) lines) (sym front_is)
    ∙ ap (λ o. written_out M t o (length bytes) lines) (was_refused fault other (memory_write memory at front) err)
