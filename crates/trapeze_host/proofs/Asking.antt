-- An ask: the next request number of a label is taken.
use Rattle.std.proofs.Common.{◌≡◌, ℕ, ◌+◌, ◌<◌, ◌≤◌, cond, Bool, List, Some, None, length, refl, sym, ◌∙◌, ap, subst, arith}
use Rattle.facet_list.specs.Rows.{Rows}
use Rattle.wasm_semantics.specs.Threads.{Thread}
use Rattle.host_rules.specs.States.{State, count_request, set_at}
use Rattle.sandbox.specs.declared.sandboxes.Sandbox.{Sandbox}
use Rattle.trapeze_host.specs.declared.kept.Kept.{Kept}
use Rattle.trapeze_host.specs.declared.kept.Serving.{Serving}
use Rattle.trapeze_host.specs.declared.requests.Requests.{Requests}
use Rattle.trapeze_host.specs.Loans.{Loan}
use Rattle.trapeze_host.specs.Requests.{taken_of, answered_of}
use Rattle.trapeze_host.specs.Keeping.{state_of, Keeps, IsServed, IsFitActivation}
use Rattle.trapeze_host.proofs.Keeping.{for_state}
use Rattle.trapeze_host.proofs.SetPlaces.{by_same}
use Rattle.trapeze_host.proofs.MoreRequests.{AreMore}

module _ (r t : Requests) (l n : ℕ) (number : n ≡ taken_of r l + 1) (taken : taken_of t ≡ set_at (taken_of r) l n) where
  raised_at : (m : ℕ) → (taken_of r m ≤ taken_of t m) × (taken_of t m ≤ taken_of r m + 1)
  raised_at m = by_same (λ (b : Bool). cond b n (taken_of r m) ≡ taken_of t m → (taken_of r m ≤ taken_of t m) × (taken_of t m ≤ taken_of r m + 1)) m l
      (λ s e. let here : taken_of r m ≡ taken_of r l = ap (taken_of r) s in (omega (arith, e, number, here), omega (arith, e, number, here)))
      (λ d e. (omega (arith, e), omega (arith, e)))
      (sym (ap (λ (f : ℕ → ℕ). f m) taken))

  pub taken_more : AreMore r t
  taken_more m = (raised_at m).0

  pub taken_raised : (m : ℕ) → taken_of t m ≤ taken_of r m + 1
  taken_raised m = (raised_at m).1

  pub taken_here : taken_of t l ≡ n
  taken_here = ap (λ (f : ℕ → ℕ). f l) taken ∙ by_same (λ (b : Bool). cond b n (taken_of r l) ≡ n) l l (λ e. refl) (λ d. absurd (d refl))

-- a request number is taken
pub keeps_taken : {F : Type 0} (rows : F → Rows) (loan : Loan) (k : Kept F) (t : Requests) (l n : ℕ) (s : State Thread) → Keeps rows loan k s → n ≡ taken_of k.requests l + 1
    → taken_of t ≡ set_at (taken_of k.requests) l n → answered_of t ≡ answered_of k.requests → Keeps rows loan (record k { requests = t }) (count_request s l)
keeps_taken {F} rows loan k t l n s keeps number taken answered = for_state rows loan (λ s. Keeps rows loan (record k { requests = t }) (count_request s l)) k
    (λ w f. record {
      store = f;
      state = λ i. record (state_of loan w k) { requests = (taken ∙ ap (set_at (taken_of k.requests) l) number) i; answered = answered i };
    }) s keeps

-- the activation of an ask is fit
pub fit_asked : (loan : Loan) (r : Requests) (function used : ℕ) (input : List ℕ) (x : Serving) → function < length loan.policy.functions → length input ≤ 65536 → IsServed loan r x
    → IsFitActivation loan r (record { function = function; input = input; serves = Some x; sandbox = None; used = used })
fit_asked loan r function used input x f i served = record {
  function = f;
  input = i;
  serves = λ y e. subst (IsServed loan r) (same y e) served;
  ready = λ b e. absurd (never b e);
}
  where
    same : (y : Serving) → Some x ≡ Some y → x ≡ y
    same y e = cc

    never : (b : Sandbox) → None ≡ Some b → ⊥
    never b e = cc
