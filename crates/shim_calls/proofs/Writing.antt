-- Writes that were made, and writes that did not fit.
use Rattle.std.proofs.Common.{◌≡◌, ℕ, Bool, true, false, List, [], Option, Some, sym, ◌∙◌, ap, refl}
use Rattle.std.specs.Prelude.{if◌then◌else◌}
use Rattle.label_limits.specs.declared.limits.Limits.{Limits}
use Rattle.facet_list.specs.Store.{Write, written}
use Rattle.facet_list.specs.Rows.{Rows, rows_of, rows_after}
use Rattle.facet_list.specs.Room.{fits_in, fits}
use Rattle.facet_list.specs.declared.facets.Wrote.{Wrote}
use Rattle.facet_list.specs.declared.facets.Wrote.TheVariants as wrote
use Rattle.facet_list.proofs.RowLaws.{rows_of-push}
use Rattle.trapeze_lines.specs.declared.line.Kind.TheVariants as kind
use Rattle.trapeze_lines.specs.Lines.{line_at}
use Rattle.wasm_ast.specs.declared.modules.Module.{Module}
use Rattle.wasm_semantics.specs.Threads.{Thread}
use Rattle.wasm_semantics.specs.Units.{answered}
use Rattle.sandbox.specs.declared.sandboxes.Sandbox.{Sandbox}
use Rattle.sandbox.specs.Threads.{thread_of, IsReady}
use Rattle.host_rules.specs.Rules.{Rules}
use Rattle.host_rules.specs.States.{Activation, State, keep, told, then_lines}
use Rattle.host_rules.specs.Calls.{Called, Resumed, AWrite, resumes}
use Rattle.host_rules.specs.Modules.{guest_of}
use Rattle.shim_calls.specs.declared.effect.Effect.TheVariants as effect
use Rattle.shim_calls.specs.Performing.{Resumes}

-- whether a write was made says whether it fits
wrote_is : (limits now : List Limits) (before : Rows) (w : List Write) (x y : Write) (how : Wrote)
    → ((limits : List Limits) (w : List Write) (x : Write) → fits_in limits (rows_of w) x ≡ fits limits w x)
    → now ≡ limits → before ≡ rows_of w → x ≡ y → how ≡ (if fits_in now before x then wrote.Done else wrote.Full)
    → how ≡ (if fits limits w y then wrote.Done else wrote.Full)
wrote_is limits now before w x y how tell same stored is e =
    e ∙ ap (λ l. if fits_in l before x then wrote.Done else wrote.Full) same ∙ ap (λ r. if fits_in limits r x then wrote.Done else wrote.Full) stored
    ∙ ap (λ x. if fits_in limits (rows_of w) x then wrote.Done else wrote.Full) is ∙ ap (λ b. if b then wrote.Done else wrote.Full) (tell limits w y)

done_fits : (b : Bool) → wrote.Done ≡ (if b then wrote.Done else wrote.Full) → b ≡ true
done_fits true e = refl
done_fits false e = absurd cc

full_fits_not : (b : Bool) → wrote.Full ≡ (if b then wrote.Done else wrote.Full) → b ≡ false
full_fits_not true e = absurd cc
full_fits_not false e = refl

-- what was stored: how the write of a key at c ended, over rows of these writes
pub record Stored (P : Rules) (c : ℕ) (w : List Write) (key : List ℕ) (value : Option (List ℕ)) (how : Wrote) : Type 0 where
  pub limits : List Limits
  pub before : Rows
  pub x : Write
  pub tell : (limits : List Limits) (w : List Write) (x : Write) → fits_in limits (rows_of w) x ≡ fits limits w x
  pub same : limits ≡ P.limits
  pub stored : before ≡ rows_of w
  pub is : x ≡ written c key value
  pub ended : how ≡ (if fits_in limits before x then wrote.Done else wrote.Full)

module _ (P : Rules) (m : Module) (modules : List Module) (c : ℕ) (a : Activation Thread) (s : State Thread) (t : Thread) (key : List ℕ) (value : Option (List ℕ)) (after : Rows) (sandbox : Sandbox) where
  abbrev wrote_called : Called Thread
  wrote_called = resumes (guest_of modules) t (Some (if fits P.limits s.store (written c key value) then 0 else 1)) [] (AWrite key value)

  pub write_done : (r : Stored P c s.store key value wrote.Done) → after ≡ rows_after r.before r.x → thread_of m sandbox ≡ answered t (Some 0) → IsReady m sandbox
      → Resumes P m c a s wrote_called after sandbox (Some (effect.Wrote key value))
  write_done r kept thread ready =
      let fit : fits P.limits s.store (written c key value) ≡ true = done_fits _ (wrote_is P.limits r.limits r.before s.store r.x (written c key value) wrote.Done r.tell r.same r.stored r.is r.ended) in
      record {
        lines = [];
        does = AWrite key value;
        is = ap (λ b. resumes (guest_of modules) t (Some (if b then 0 else 1)) [] (AWrite key value)) fit ∙ ap (λ t. Resumed t [] (AWrite key value)) (sym thread);
        moved = ap (λ b. then_lines [] (if b then told (line_at c (kind.Write key value)) (keep s (written c key value)) else told (line_at c (kind.Full key)) s)) fit;
        rows = kept ∙ ap (λ rows. rows_after rows r.x) r.stored ∙ ap (rows_after (rows_of s.store)) r.is ∙ sym (rows_of-push s.store (written c key value));
        ready = ready;
      }

  pub write_full : (r : Stored P c s.store key value wrote.Full) → after ≡ r.before → thread_of m sandbox ≡ answered t (Some 1) → IsReady m sandbox
      → Resumes P m c a s wrote_called after sandbox (Some (effect.Full key))
  write_full r kept thread ready =
      let fit : fits P.limits s.store (written c key value) ≡ false = full_fits_not _ (wrote_is P.limits r.limits r.before s.store r.x (written c key value) wrote.Full r.tell r.same r.stored r.is r.ended) in
      record {
        lines = [];
        does = AWrite key value;
        is = ap (λ b. resumes (guest_of modules) t (Some (if b then 0 else 1)) [] (AWrite key value)) fit ∙ ap (λ t. Resumed t [] (AWrite key value)) (sym thread);
        moved = ap (λ b. then_lines [] (if b then told (line_at c (kind.Write key value)) (keep s (written c key value)) else told (line_at c (kind.Full key)) s)) fit;
        rows = kept ∙ r.stored;
        ready = ready;
      }
