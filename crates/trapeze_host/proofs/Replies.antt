-- A reply.
use Rattle.std.proofs.Common.{◌≡◌, ℕ, Bool, true, false, cond, ◌||◌, List, Some, sym, ◌∙◌, ap}
use Rattle.std.specs.Prelude.{◌&&◌, not}
use Rattle.facet_list.specs.Rows.{Rows}
use Rattle.trapeze_lines.specs.declared.line.Kind.TheVariants as kind
use Rattle.trapeze_lines.specs.Lines.{line_at}
use Rattle.wasm_semantics.specs.Threads.{Thread}
use Rattle.host_rules.specs.Rules.{client_name, clearance}
use Rattle.host_rules.specs.States.{Request, State, Moved, still, told, answer, same_request}
use Rattle.host_rules.specs.Effects.{reply}
use Rattle.trapeze_host.specs.declared.kept.Kept.{Kept}
use Rattle.trapeze_host.specs.declared.kept.Serving.{Serving}
use Rattle.trapeze_host.specs.declared.requests.Requests.{Requests}
use Rattle.trapeze_host.specs.Loans.{Loan, rules_in}
use Rattle.trapeze_host.specs.Requests.{request_of, taken_of, answered_of}
use Rattle.trapeze_host.specs.Keeping.{serving_of, state_of, Keeps}
use Rattle.trapeze_host.proofs.Keeping.{for_state}

module _ {F : Type 0} (rows : F → Rows) (loan : Loan) (k : Kept F) (s : State Thread) (keeps : Keeps rows loan k s) (c : ℕ) (x : Serving) (bytes : List ℕ) where
  -- the test by what is kept
  abbrev pub test : Bool
  test = (rules_in loan).flows c (clearance (rules_in loan) x.client) && not (answered_of k.requests (request_of x.request))

  abbrev pub reached : Moved Thread
  reached = told (line_at (clearance (rules_in loan) x.client) (kind.Reply (client_name (rules_in loan) x.client) x.id bytes)) (answer s (request_of x.request))

  reply_is : (b : Bool) → b ≡ test → reply (rules_in loan) c (Some (serving_of x)) bytes s ≡ cond b reached (still s)
  reply_is b e = ap (λ (d : Bool). cond ((rules_in loan).flows c (clearance (rules_in loan) x.client) && not d) reached (still s)) (sym (ap (λ (s : State Thread). s.answered (request_of x.request)) keeps.state))
      ∙ ap (λ (b : Bool). cond b reached (still s)) (sym e)

  pub reply_vanishes : false ≡ test → reply (rules_in loan) c (Some (serving_of x)) bytes s ≡ still s
  reply_vanishes e = reply_is false e

  pub reply_reaches : true ≡ test → reply (rules_in loan) c (Some (serving_of x)) bytes s ≡ reached
  reply_reaches e = reply_is true e

-- one request more is answered
pub keeps_answered : {F : Type 0} (rows : F → Rows) (loan : Loan) (k : Kept F) (s : State Thread) (t : Requests) (q : Request) → Keeps rows loan k s → taken_of t ≡ taken_of k.requests
    → ((r : Request) → answered_of t r ≡ (same_request r q || answered_of k.requests r)) → Keeps rows loan (record k { requests = t }) (answer s q)
keeps_answered {F} rows loan k s t q keeps taken answered = for_state rows loan (λ s. Keeps rows loan (record k { requests = t }) (answer s q)) k
    (λ w f. record {
      store = f;
      state = λ i. record (state_of loan w k) { requests = taken i; answered = λ r. answered r i };
    }) s keeps
