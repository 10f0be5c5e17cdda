-- A host by its parts.
use Rattle.std.proofs.Common.{◌≡◌, ◌<◌, ◌^◌, false, List, Result, Ok, Err, refl, sym, ◌∙◌, ap, subst, arith}
use Rattle.std.specs.Prelude.{map}
use Rattle.trapeze_io.specs.declared.failures.NoMemory.{NoMemory}
use Rattle.event_file.specs.declared.entry.Event.{Event}
use Rattle.event_file.specs.Script.{IsFit}
use Rattle.label_limits.specs.declared.limits.Limits.{Limits}
use Rattle.label_lattice.specs.Order.{count}
use Rattle.policy_toml.specs.Parts.{Parts}
use Rattle.facet_list.specs.Rows.{Rows, facets_in}
use Rattle.facet_list.proofs.RowFacets.{facets_in_of}
use Rattle.trapeze_lines.specs.declared.line.Line.{Line}
use Rattle.wasm_ast.specs.declared.modules.Module.{Module}
use Rattle.wasm_semantics.specs.Threads.{Thread}
use Rattle.host_rules.specs.States.{State, Moved}
use Rattle.host_rules.specs.Stores.{facet_line, facet_lines}
use Rattle.trapeze_host.specs.Adding.{Adds, KeepsLabelled}
use Rattle.trapeze_host.specs.Loans.{known_in}
use Rattle.trapeze_host.specs.Keeping.{HostParts, IsHeld, Keeps, Made, Makes, MayBeRaised, AreCounted}
use Rattle.trapeze_host.specs.Standing.{policy_lent, modules_lent, is_spent, played_in, Stands, Plays, Moves}

module _ {F : Type 0} (h : HostParts F) where
  pub policy_is : policy_lent h ≡ h.lent.policy
  unfolding policy_lent
  policy_is = refl

  pub modules_are : modules_lent h ≡ h.lent.modules
  unfolding modules_lent
  modules_are = refl

  pub spent_is : is_spent h ≡ h.spent
  unfolding is_spent
  spent_is = refl

  pub played_is : played_in h ≡ h.played
  unfolding played_in
  played_is = refl

  pub as_stands : (rows : F → Rows) (s : State Thread) → Keeps rows h.lent h.kept s → Stands rows h s
  unfolding Stands
  as_stands rows s keeps = keeps

  pub stands_as : (rows : F → Rows) (s : State Thread) → Stands rows h s → Keeps rows h.lent h.kept s
  unfolding Stands
  stands_as rows s stands = stands

  pub as_moves : {X : Type 0} (rows : F → Rows) (result : Result X NoMemory) (m : Moved Thread) (before after : List Line) → Makes rows h.lent result m h.kept before after → Moves rows result m h before after
  as_moves rows (Ok x) m before after made = record { stands = as_stands rows m.state made.keeps; lines = made.lines }
  as_moves rows (Err x) m before after part = part

-- the host by its fields
module _ {F : Type 0} (x h : HostParts F) (e : x ≡ h) where
  pub stands_inside : (rows : F → Rows) (s : State Thread) → Stands rows h s → Keeps rows x.lent x.kept s
  stands_inside rows s stands = subst (λ (h : HostParts F). Keeps rows h.lent h.kept s) (sym e) (stands_as h rows s stands)

  pub policy_inside : policy_lent h ≡ x.lent.policy
  policy_inside = policy_is h ∙ ap (λ (h : HostParts F). h.lent.policy) (sym e)

  pub modules_inside : modules_lent h ≡ x.lent.modules
  modules_inside = modules_are h ∙ ap (λ (h : HostParts F). h.lent.modules) (sym e)

  pub spent_inside : is_spent h ≡ x.spent
  spent_inside = spent_is h ∙ ap (λ (h : HostParts F). h.spent) (sym e)

  pub played_inside : played_in h ≡ x.played
  played_inside = played_is h ∙ ap (λ (h : HostParts F). h.played) (sym e)

  -- no number is too high to be raised
  pub few_inside : (limits : F → List Limits) → IsHeld limits x → is_spent h ≡ false → played_in h < 2 ^ 62 → MayBeRaised x.kept
  few_inside limits held unspent few =
      let counted : AreCounted x.played x.kept = held.counted (sym spent_inside ∙ unspent) in
      record {
        turns = λ l. omega (arith, counted.turns l, played_inside, few);
        requests = λ l. omega (arith, counted.requests l, played_inside, few);
      }

  pub event_inside : (event : Event) → IsFit (known_in (policy_lent h)) event → IsFit (known_in x.lent.policy) event
  event_inside event fit = subst (λ (p : Parts). IsFit (known_in p) event) policy_inside fit

  pub labelled_inside : (before after : List Line) → KeepsLabelled (count x.lent.policy.lattice) before after → KeepsLabelled (count (policy_lent h).lattice) before after
  labelled_inside before after keeps = subst (λ (p : Parts). KeepsLabelled (count p.lattice) before after) (sym policy_inside) keeps

  -- the lines of the facets
  pub facets_inside : {X : Type 0} (rows : F → Rows) (result : Result X NoMemory) (before after : List Line) (s : State Thread) → Stands rows h s
      → Adds result (map facet_line (facets_in (rows x.kept.facets))) before after → Adds result (facet_lines s.store) before after
  facets_inside rows result before after s stands adds = subst (λ (lines : List Line). Adds result lines before after)
      (ap (λ (r : Rows). map facet_line (facets_in r)) (stands_inside rows s stands).store ∙ ap (map facet_line) (facets_in_of s.store)) adds

  -- what holds of what the fields were lent holds of what the host was lent
  pub by_lent : (Q : Parts → List Module → Type 0) → Q x.lent.policy x.lent.modules → Q (policy_lent h) (modules_lent h)
  by_lent Q q = subst (λ (ms : List Module). Q (policy_lent h) ms) (sym modules_inside) (subst (λ (p : Parts). Q p x.lent.modules) (sym policy_inside) q)

-- the move was made, so the host stands for the state after it
pub as_plays : {F : Type 0} (h : HostParts F) (rows : F → Rows) (m : Moved Thread) (before after : List Line) → Made rows h.lent m h.kept before after → Plays rows m h before after
as_plays h rows m before after made = record { stands = as_stands h rows m.state made.keeps; lines = made.lines }
