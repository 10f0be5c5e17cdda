-- A stint goes on as the run of the engine ended.
use Rattle.std.proofs.Common.{◌≡◌, ℕ, zero, suc, ◌-◌, ◌<◌, List, [], ◌∷◌, ◌++◌, length, replicate, Option, refl, sym, ◌∙◌, ap, subst, arith}
use Rattle.std.specs.Prelude.{slice_index}
use Rattle.wasm_ast.specs.declared.hosts.HostName.{HostName}
use Rattle.wasm_ast.specs.declared.modules.Module.{Module}
use Rattle.wasm_semantics.specs.declared.traps.Trap.{Trap}
use Rattle.wasm_semantics.specs.Threads as outcome
use Rattle.wasm_semantics.specs.Threads.{Thread, Outcome}
use Rattle.wasm_semantics.specs.Units.{Course, units}
use Rattle.wasm_semantics.specs.Laws.{in_four_places}
use Rattle.sandbox.specs.declared.suspended.Suspended.{Suspended}
use Rattle.sandbox.specs.declared.sandboxes.Sandbox.{Sandbox}
use Rattle.sandbox.specs.declared.going.Going.{Going}
use Rattle.sandbox.specs.declared.going.Going.TheVariants as going
use Rattle.sandbox.specs.Threads.{thread_of, waiting, asked_of}
use Rattle.sandbox.specs.Going.{Asks, EndsAs}
use Rattle.shim_calls.specs.Performing.{asked_in}
use Rattle.host_rules.specs.Rules.{Rules, limits_at}
use Rattle.host_rules.specs.States.{Activation, State}
use Rattle.host_rules.specs.Guests.{Guest}
use Rattle.host_rules.specs.Modules.{cause_of, unit_of, module_at, guest_of}
use Rattle.host_rules.specs.Wishes.{wish_of}
use Rattle.host_rules.specs.Calls.{shim, after_wish, granted}
use Rattle.host_rules.specs.Turns.{Ended, Trapped, Spent, Stint, stops, after_call, stint}
use Rattle.host_rules.specs.Bridges.{after_run, GoesByRuns}
use Rattle.label_limits.specs.declared.limits.Limits.{Limits}
use Rattle.trapeze_host.specs.declared.runs.Run.{Run}
use Rattle.trapeze_host.specs.Loans.{Loan, rules_in, guest_in, module_in}
use Rattle.trapeze_host.specs.Turning.{run_of}

-- zeros behind a list change nothing of what is read of it
padded : (xs : List ℕ) (n i : ℕ) → slice_index (xs ++ replicate n 0) i ≡ slice_index xs i
padded [] zero i = refl
padded [] (suc n) zero = refl
padded [] (suc n) (suc i) = padded [] n i
padded (x ∷ xs) n zero = refl
padded (x ∷ xs) n (suc i) = padded xs n i

-- the shim reads four places
pub in_places : (P : Rules) (M : Guest Thread) (c : ℕ) (a : Activation Thread) (s : State Thread) (name : HostName) (args places : List ℕ) (t : Thread) → places ≡ in_four_places args
    → shim P M c a s.store (record { name = name; args = args }) t ≡ shim P M c a s.store (record { name = name; args = places }) t
in_places P M c a s name args places t e =
    ap (λ (read : ℕ → ℕ). after_wish (wish_of P (M.memory t) name (read 0) (read 1) (read 2) (read 3)) (granted P M c a s.store t)) (λ i k. sym (padded args (4 - length args) k) i)
    ∙ ap (λ (xs : List ℕ). shim P M c a s.store (record { name = name; args = xs }) t) (sym e)

module _ (law : GoesByRuns) (P : Rules) (modules : List Module) (c : ℕ) (a : Activation Thread) (left used pages : ℕ) (m : Module) (t : Thread)
    (own : m ≡ module_at modules a.function) (limit : pages ≡ (limits_at P c).pages) where
  ran : (s : State Thread) (stop : Outcome) → units m pages t left ≡ record { used = used; stop = stop }
      → stint P (guest_of modules) c a left t s ≡ after_run P (guest_of modules) c a (left - used) (unit_of stop) s
  ran s stop e = law P modules c left a t s ∙ ap (λ (r : Course). after_run P (guest_of modules) c a (left - r.used) (unit_of r.stop) s)
      (ap (λ (m : Module). units m (limits_at P c).pages t left) (sym own) ∙ ap (λ (p : ℕ). units m p t left) (sym limit) ∙ e)

  pub ran_spent : (s : State Thread) (u : Thread) → units m pages t left ≡ record { used = used; stop = outcome.Goes u } → stint P (guest_of modules) c a left t s ≡ stops s (Spent u)
  ran_spent s u e = ran s (outcome.Goes u) e

  pub ran_done : (s : State Thread) → units m pages t left ≡ record { used = used; stop = outcome.Done } → stint P (guest_of modules) c a left t s ≡ stops s Ended
  ran_done s e = ran s outcome.Done e

  pub ran_trapped : (s : State Thread) (trap : Trap) → units m pages t left ≡ record { used = used; stop = outcome.Trapped trap } → stint P (guest_of modules) c a left t s ≡ stops s (Trapped (cause_of trap))
  ran_trapped s trap e = ran s (outcome.Trapped trap) e

  pub ran_asks : (s : State Thread) (suspended : Suspended) → Asks m (units m pages t left) used suspended
      → stint P (guest_of modules) c a left t s ≡ after_call P c a s (λ t s. stint P (guest_of modules) c a (left - used) t s) (shim P (guest_of modules) c a s.store (asked_in (asked_of suspended)) (waiting m suspended))
  ran_asks s suspended asks = ran s (outcome.Calls (asked_of suspended).name asks.args (waiting m suspended)) asks.course_is
      ∙ ap (after_call P c a s (λ t s. stint P (guest_of modules) c a (left - used) t s))
      (in_places P (guest_of modules) c a s (asked_of suspended).name asks.args (asked_of suspended).args (waiting m suspended) asks.places)

-- a unit at least was used where the host is asked
pub asks_some : (m : Module) (pages left used : ℕ) (t : Thread) (suspended : Suspended) → (units m pages t 0 ≡ record { used = 0; stop = outcome.Goes t }) → (0 < left → 0 < (units m pages t left).used)
    → Asks m (units m pages t left) used suspended → 0 < used
asks_some m pages zero used t suspended none some asks = absurd (never (ap (λ (r : Course). r.stop) (sym none ∙ asks.course_is)))
  where
    never : outcome.Goes t ≡ outcome.Calls (asked_of suspended).name asks.args (waiting m suspended) → ⊥
    never e = cc
asks_some m pages (suc n) used t suspended none some asks = omega (arith, some (omega arith), ap (λ (r : Course). r.used) asks.course_is)

-- the same of the run of an activation, by how the engine's run ended
module _ (law : GoesByRuns) (loan : Loan) (r : Run) (before : Option Thread) (left used : ℕ) (limits : Limits) (program : Module) (sandbox : Sandbox) (how : Going)
    (own : program ≡ module_in loan r.function) (limit : limits ≡ limits_at (rules_in loan) r.at.number)
    (ends : EndsAs program (units program limits.pages (thread_of program sandbox) left) used how) where
  m : Module
  m = module_in loan r.function

  ended : (x : Going) → how ≡ x → EndsAs m (units m limits.pages (thread_of m sandbox) left) used x
  unfolding m
  ended x e = subst (λ (m : Module). EndsAs m (units m limits.pages (thread_of m sandbox) left) used x) own
      (subst (λ (x : Going). EndsAs program (units program limits.pages (thread_of program sandbox) left) used x) e ends)

  abbrev pub stint_here : State Thread → Stint Thread
  stint_here s = stint (rules_in loan) (guest_in loan) r.at.number (run_of before r) left (thread_of (module_in loan r.function) sandbox) s

  pub here_spent : (s : State Thread) (next : Sandbox) → how ≡ going.Spent next → stint_here s ≡ stops s (Spent (thread_of (module_in loan r.function) next))
  unfolding m
  here_spent s next e = ran_spent law (rules_in loan) loan.modules r.at.number (run_of before r) left used limits.pages m (thread_of m sandbox) refl (ap (λ (x : Limits). x.pages) limit) s (thread_of m next) (ended (going.Spent next) e).0

  pub here_done : (s : State Thread) → how ≡ going.Done → stint_here s ≡ stops s Ended
  unfolding m
  here_done s e = ran_done law (rules_in loan) loan.modules r.at.number (run_of before r) left used limits.pages m (thread_of m sandbox) refl (ap (λ (x : Limits). x.pages) limit) s (ended going.Done e)

  pub here_trapped : (s : State Thread) (trap : Trap) → how ≡ going.Trapped trap → stint_here s ≡ stops s (Trapped (cause_of trap))
  unfolding m
  here_trapped s trap e = ran_trapped law (rules_in loan) loan.modules r.at.number (run_of before r) left used limits.pages m (thread_of m sandbox) refl (ap (λ (x : Limits). x.pages) limit) s trap (ended (going.Trapped trap) e)

  pub here_asks : (s : State Thread) (suspended : Suspended) → how ≡ going.Asks suspended → stint_here s ≡ after_call (rules_in loan) r.at.number (run_of before r) s
      (λ t s. stint (rules_in loan) (guest_in loan) r.at.number (run_of before r) (left - used) t s)
      (shim (rules_in loan) (guest_in loan) r.at.number (run_of before r) s.store (asked_in (asked_of suspended)) (waiting (module_in loan r.function) suspended))
  unfolding m
  here_asks s suspended e = ran_asks law (rules_in loan) loan.modules r.at.number (run_of before r) left used limits.pages m (thread_of m sandbox) refl (ap (λ (x : Limits). x.pages) limit) s suspended (ended (going.Asks suspended) e)
