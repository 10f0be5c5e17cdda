-- What is owed of a stint, and what comes of a host call in it.
use Rattle.std.proofs.Common.{◌≡◌, ℕ, List, ◌++◌, append_assoc, append-nil, Option, refl, sym, ◌∙◌, ap, subst}
use Rattle.facet_list.specs.Rows.{Rows, rows_of}
use Rattle.trapeze_lines.specs.declared.line.Line.{Line}
use Rattle.trapeze_lines.specs.declared.outcome.Cause.{Cause}
use Rattle.wasm_ast.specs.declared.modules.Module.{Module}
use Rattle.wasm_semantics.specs.Threads.{Thread}
use Rattle.sandbox.specs.declared.sandboxes.Sandbox.{Sandbox}
use Rattle.sandbox.specs.Threads.{thread_of}
use Rattle.shim_calls.specs.declared.effect.Effect.{Effect}
use Rattle.shim_calls.specs.Performing.{Resumes, made}
use Rattle.host_rules.specs.Rules.{Rules}
use Rattle.host_rules.specs.States.{Activation, State, Moved, Item, still, then_move}
use Rattle.host_rules.specs.Calls.{Called, RaisedTo, Refused}
use Rattle.host_rules.specs.Turns.{End, Trapped, Raised, Stint, stops, then_stint, after_call}
use Rattle.trapeze_host.specs.declared.kept.Kept.{Kept}
use Rattle.trapeze_host.specs.Adding.{AddsPart}
use Rattle.trapeze_host.specs.Loans.{Loan}
use Rattle.trapeze_host.specs.Keeping.{Keeps, Made, IsWritten}
use Rattle.trapeze_host.specs.Turning.{Owes, ends_so}
use Rattle.trapeze_host.proofs.Keeping.{then_part, part_then}

-- two moves and a stint, in either grouping
stint_after : (x y : Moved Thread) (r : Stint Thread) → then_stint x (then_stint y r) ≡ then_stint (then_move x y) r
stint_after x y r = ap (λ (ls : List Line). record { moved = record { state = r.moved.state; lines = ls; outs = x.outs ++ (y.outs ++ r.moved.outs) }; end = r.end }) (sym (append_assoc x.lines y.lines r.moved.lines))
    ∙ ap (λ (os : List Item). record { moved = record { state = r.moved.state; lines = (x.lines ++ y.lines) ++ r.moved.lines; outs = os }; end = r.end }) (sym (append_assoc x.outs y.outs r.moved.outs))

module _ {F : Type 0} (rows : F → Rows) (loan : Loan) where
  -- all of a stint is owed at its start
  pub owed : (k : Kept F) (s : State Thread) (lines : List Line) (rest : State Thread → Stint Thread) → Keeps rows loan k s → Owes rows loan (rest s) k lines lines rest
  owed k s lines rest keeps = record { done = still s; keeps = keeps; lines = sym (append-nil lines); makes = refl }

  -- the rest of what is owed goes on as another stint does, of which a part is done
  pub owes_then : (whole x : Stint Thread) (k j : Kept F) (before between after : List Line) (f h : State Thread → Stint Thread) (o : Owes rows loan whole k before between f)
      → f o.done.state ≡ x → Owes rows loan x j between after h → Owes rows loan whole j before after h
  owes_then whole x k j before between after f h o e p = record {
    done = then_move o.done p.done;
    keeps = p.keeps;
    lines = p.lines ∙ (ap (λ ls. ls ++ p.done.lines) o.lines ∙ append_assoc before o.done.lines p.done.lines);
    makes = o.makes ∙ (ap (then_stint o.done) (e ∙ p.makes) ∙ stint_after o.done p.done (h p.done.state));
  }

  -- out of memory in the rest
  pub owes_part : (whole x : Stint Thread) (k : Kept F) (before between after : List Line) (f : State Thread → Stint Thread) (o : Owes rows loan whole k before between f)
      → f o.done.state ≡ x → AddsPart x.moved.lines between after → AddsPart whole.moved.lines before after
  owes_part whole x k before between after f o e p = subst (λ (r : Stint Thread). AddsPart r.moved.lines before after) (sym (o.makes ∙ ap (then_stint o.done) e))
      (then_part rows loan o.done x.moved k before between after (record { keeps = o.keeps; lines = o.lines }) p)

  -- nothing was done, and the end is there
  pub owes_end : (k : Kept F) (s : State Thread) (lines : List Line) (end : End Thread) → Keeps rows loan k s → Owes rows loan (stops s end) k lines lines (ends_so end)
  owes_end k s lines end keeps = record { done = still s; keeps = keeps; lines = sym (append-nil lines); makes = refl }

  module _ (k : Kept F) (facets : F) (P : Rules) (m : Module) (c : ℕ) (a : Activation Thread) (s : State Thread) (keeps : Keeps rows loan k s) (called : Called Thread) (rest : Thread → State Thread → Stint Thread) where
    -- the call goes on: its write is in the store
    module _ (sandbox : Sandbox) (effect : Option Effect) (p : Resumes P m c a s called (rows facets) sandbox effect) where
      pub written : IsWritten rows loan (record k { facets = facets }) s (made P c a effect s)
      written = record { store = p.rows; state = keeps.state }

      goes_on : after_call P c a s rest called ≡ then_stint (made P c a effect s) (rest (thread_of m sandbox) (made P c a effect s).state)
      goes_on = ap (after_call P c a s rest) p.is ∙ ap (λ (x : Moved Thread). then_stint x (rest (thread_of m sandbox) x.state)) p.moved

      pub resumed : (j : Kept F) (before after : List Line) → Made rows loan (made P c a effect s) j before after → Owes rows loan (after_call P c a s rest called) j before after (rest (thread_of m sandbox))
      resumed j before after x = record { done = made P c a effect s; keeps = x.keeps; lines = x.lines; makes = goes_on }

      pub resumed_part : (before after : List Line) → AddsPart (made P c a effect s).lines before after → AddsPart (after_call P c a s rest called).moved.lines before after
      resumed_part before after x = subst (λ (r : Stint Thread). AddsPart r.moved.lines before after) (sym goes_on)
          (part_then rows loan (made P c a effect s) (rest (thread_of m sandbox) (made P c a effect s).state).moved before after x)

    -- the call made no write
    pub unwritten : rows facets ≡ rows_of s.store → Keeps rows loan (record k { facets = facets }) s
    unwritten e = record { store = e; state = keeps.state }

    pub raised_so : (l : ℕ) (t : Thread) (lines : List Line) → called ≡ RaisedTo l t → rows facets ≡ rows_of s.store
        → Owes rows loan (after_call P c a s rest called) (record k { facets = facets }) lines lines (ends_so (Raised l t))
    raised_so l t lines e r = subst (λ (x : Stint Thread). Owes rows loan x (record k { facets = facets }) lines lines (ends_so (Raised l t))) (sym (ap (after_call P c a s rest) e))
        (owes_end (record k { facets = facets }) s lines (Raised l t) (unwritten r))

    pub trapped_so : (cause : Cause) (lines : List Line) → called ≡ Refused cause → rows facets ≡ rows_of s.store
        → Owes rows loan (after_call P c a s rest called) (record k { facets = facets }) lines lines (ends_so (Trapped cause))
    trapped_so cause lines e r = subst (λ (x : Stint Thread). Owes rows loan x (record k { facets = facets }) lines lines (ends_so (Trapped cause))) (sym (ap (after_call P c a s rest) e))
        (owes_end (record k { facets = facets }) s lines (Trapped cause) (unwritten r))
