-- An arrival.
use Rattle.std.proofs.Common.{◌≡◌, ℕ, zero, suc, ◌<◌, Bool, true, false, cond, List, [], ◌∷◌, ◌++◌, length, get_or, map, Result, Ok, Err, refl, sym, ◌∙◌, ap, arith}
use Rattle.std.specs.Prelude.{◌↔◌, option_map, is_ok}
use Rattle.std.proofs.lemmas.List.{length-map, map-append}
use Rattle.std.proofs.lemmas.Bool.{le-leb, lt-leb}
use Rattle.label_limits.specs.declared.limits.Limits.{Limits}
use Rattle.facet_list.specs.Rows.{Rows}
use Rattle.label_queues.specs.Lists.{list_of, limit_of}
use Rattle.trapeze_lines.specs.declared.line.Kind.TheVariants.{Dropped, Start}
use Rattle.trapeze_lines.specs.Lines.{line_at}
use Rattle.wasm_semantics.specs.Threads.{Thread}
use Rattle.host_rules.specs.Rules.{label_of, limits_at, no_limits, function_name}
use Rattle.host_rules.specs.States as rules
use Rattle.host_rules.specs.States.{State, Moved, told, push, set_at}
use Rattle.host_rules.specs.Effects.{arrive}
use Rattle.trapeze_host.specs.declared.kept.Activation.{Activation}
use Rattle.trapeze_host.specs.declared.kept.Kept.{Kept}
use Rattle.trapeze_host.specs.Loans.{Loan, rules_in}
use Rattle.trapeze_host.specs.Keeping.{serving_of, activation_of, Keeps, IsSound}
use Rattle.trapeze_host.proofs.Keeping.{list_here}

-- the queue limit of a label
queue_at : (ls : List Limits) (l : ℕ) → get_or (map (λ (x : Limits). x.queue) ls) l 0 ≡ (get_or ls l no_limits).queue
queue_at [] l = refl
queue_at (x ∷ ls) zero = refl
queue_at (x ∷ ls) (suc l) = queue_at ls l

module _ {F : Type 0} (rows : F → Rows) (limits : F → List Limits) (loan : Loan) (k : Kept F) (l m : ℕ) (a : Activation) (s : State Thread) (sound : IsSound limits loan k) (keeps : Keeps rows loan k s) where
  limit_is : limit_of k.queues l ≡ (limits_at (rules_in loan) l).queue
  limit_is = ap (λ (ls : List ℕ). get_or ls l 0) sound.queues ∙ queue_at loan.policy.limits l

  members_are : length (s.lists l) ≡ length (list_of k.queues l)
  members_are = ap length (list_here rows loan k l s keeps) ∙ length-map (list_of k.queues l) (activation_of loan)

  abbrev pub gone : Moved Thread
  gone = told (line_at l (Dropped (function_name (rules_in loan) a.function) (option_map (λ x. x.id) (option_map serving_of a.serves)))) s

  abbrev pub come : Moved Thread
  come = told (line_at l (Start (label_of m) (function_name (rules_in loan) a.function) (option_map (λ x. x.id) (option_map serving_of a.serves)))) (push s l (record (activation_of loan a) { used = 0 }))

  -- where the list has as many members as it may have
  pub full : length (list_of k.queues l) ≡ limit_of k.queues l → arrive (rules_in loan) l m (activation_of loan a) s ≡ gone
  full h = ap (λ (b : Bool). cond b come gone) (lt-leb _ _ (omega (arith, h, limit_is, members_are)))

  -- where it has fewer
  pub room : length (list_of k.queues l) < limit_of k.queues l → arrive (rules_in loan) l m (activation_of loan a) s ≡ come
  room h = ap (λ (b : Bool). cond b come gone) (le-leb _ _ (omega (arith, h, limit_is, members_are)))

  -- the list of the state, with one activation more
  pub pushed : a.used ≡ 0 → record s { lists = set_at s.lists l (map (activation_of loan) (list_of k.queues l ++ a ∷ [])) } ≡ push s l (record (activation_of loan a) { used = 0 })
  pushed e = ap (λ (xs : List (rules.Activation Thread)). record s { lists = set_at s.lists l xs })
      (map-append (activation_of loan) (list_of k.queues l) (a ∷ [])
      ∙ ap (λ (xs : List (rules.Activation Thread)). xs ++ activation_of loan a ∷ []) (sym (list_here rows loan k l s keeps))
      ∙ ap (λ (u : ℕ). s.lists l ++ record (activation_of loan a) { used = u } ∷ []) e)

pub ok_or_err : {A E P : Type 0} (x : A) (y : E) → (Ok x ≡ Err y) ↔ P → P → ⊥
ok_or_err {A} {E} x y h p = never (ap is_ok (h.1 p))
  where
    never : true ≡ false → ⊥
    never e = cc

-- a result that is known by its parts
pub err_when : {A B E P : Type 0} (a item : B) (r full : E) → a ≡ item → r ≡ full → ((let x : Result A (B × E) = Err (a, r) in x) ≡ Err (item, full)) ↔ P → P
err_when {A} {B} {E} a item r full e f h = h.0 (ap (λ (a : B). (let x : Result A (B × E) = Err (a, r) in x)) e ∙ ap (λ (r : E). (let x : Result A (B × E) = Err (item, r) in x)) f)
