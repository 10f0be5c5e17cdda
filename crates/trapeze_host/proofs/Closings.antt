-- The front of a list goes, or takes its place at the back.
use Rattle.std.proofs.Common.{◌≡◌, ℕ, suc, ◌+◌, ◌<◌, Bool, true, false, cond, List, [], ◌∷◌, ◌++◌, length, map, drop, take, Option, Some, refl, sym, ◌∙◌, ap, subst, arith}
use Rattle.std.specs.Prelude.{All, is_some, slice_get}
use Rattle.std.proofs.Math.ListN.{set}
use Rattle.std.proofs.lemmas.List.{drop-map, map-append, get_or-set_same, set-set}
use Rattle.facet_list.specs.Rows.{Rows}
use Rattle.label_queues.specs.Lists.{Lists, list_of, with_list}
use Rattle.trapeze_lines.specs.declared.outcome.Cause.TheVariants.{Fuel}
use Rattle.trapeze_lines.specs.declared.outcome.Outcome.TheVariants as outcome
use Rattle.wasm_semantics.specs.Threads.{Thread}
use Rattle.host_rules.specs.Rules.{limits_at}
use Rattle.host_rules.specs.States as rules
use Rattle.host_rules.specs.States.{State, push, leave, set_at}
use Rattle.trapeze_host.specs.declared.kept.Activation.{Activation}
use Rattle.trapeze_host.specs.declared.kept.Kept.{Kept}
use Rattle.sandbox.specs.declared.sandboxes.Sandbox.{Sandbox}
use Rattle.sandbox.specs.Threads.{IsReady}
use Rattle.trapeze_host.specs.declared.requests.Requests.{Requests}
use Rattle.trapeze_host.specs.declared.runs.Run.{Run}
use Rattle.trapeze_host.specs.declared.runs.Ending.TheVariants as ending
use Rattle.trapeze_host.specs.Loans.{Loan, rules_in, module_in}
use Rattle.trapeze_host.specs.Keeping.{activation_of, Keeps, IsFitActivation}
use Rattle.trapeze_host.specs.Turning.{run_ends, run_waits, run_closes, IsRun}
use Rattle.trapeze_host.proofs.Keeping.{keeps_list, list_here}
use Rattle.trapeze_host.proofs.SetPlaces.{by_same}

pub all_drop : {A : Type 0} (P : A → Type 0) (xs : List A) → All P xs → All P (drop 1 xs)
all_drop P [] h = h
all_drop P (x ∷ xs) h = λ i d b. h (suc i) d (omega arith)

pub all_front : {A : Type 0} (P : A → Type 0) (xs : List A) (x : A) → slice_get xs 0 ≡ Some x → All P xs → P x
all_front P [] x e h = absurd (never (ap is_some e))
  where
    never : false ≡ true → ⊥
    never e = cc
all_front {A} P (y ∷ xs) x e h = subst P (same e) (h 0 y (omega arith))
  where
    same : Some y ≡ Some x → y ≡ x
    same e = cc

pub front_is : {A : Type 0} (xs : List A) (x : A) → slice_get xs 0 ≡ Some x → xs ≡ x ∷ drop 1 xs
front_is [] x e = absurd (never (ap is_some e))
  where
    never : false ≡ true → ⊥
    never e = cc
front_is (y ∷ xs) x e = ap (λ z. z ∷ xs) (same e)
  where
    same : Some y ≡ Some x → y ≡ x
    same e = cc

turned : {A : Type 0} (xs : List A) (a : A) → 0 < length xs → drop 1 (set xs 0 a) ++ take 1 (set xs 0 a) ≡ drop 1 xs ++ a ∷ []
turned [] a h = absurd (omega arith)
turned (x ∷ xs) a h = refl

-- the front is replaced, and then goes to the back
pub replaced_turned : {T : Type 0} (q r t : Lists T) (l : ℕ) (a : T) → l < length q.lists → 0 < length (list_of q l) → r ≡ with_list q l (set (list_of q l) 0 a) → t ≡ with_list r l (drop 1 (list_of r l) ++ take 1 (list_of r l))
    → t ≡ with_list q l (drop 1 (list_of q l) ++ a ∷ [])
replaced_turned {T} q r t l a h some e f = f ∙ ap (λ (r : Lists T). with_list r l (drop 1 (list_of r l) ++ take 1 (list_of r l))) e
    ∙ (ap (λ (xs : List T). with_list (with_list q l (set (list_of q l) 0 a)) l (drop 1 xs ++ take 1 xs)) (get_or-set_same q.lists l (set (list_of q l) 0 a) [] h)
    ∙ (ap (λ (xs : List T). with_list (with_list q l (set (list_of q l) 0 a)) l xs) (turned (list_of q l) a some)
    ∙ ap (λ (ls : List (List T)). record q { lists = ls }) (set-set q.lists l (set (list_of q l) 0 a) (drop 1 (list_of q l) ++ a ∷ []))))

-- a table set twice at one place
pub set_twice : {A : Type 0} (f : ℕ → A) (l : ℕ) (x y : A) → set_at (set_at f l x) l y ≡ set_at f l y
set_twice {A} f l x y = λ i k. at k i
  where
    at : (k : ℕ) → set_at (set_at f l x) l y k ≡ set_at f l y k
    at k = by_same (λ b. cond b y (cond b x (f k)) ≡ cond b y (f k)) k l (λ e. refl) (λ n. refl)

pub set_here : {A : Type 0} (f : ℕ → A) (l : ℕ) (x : A) → set_at f l x l ≡ x
set_here f l x = by_same (λ b. cond b x (f l) ≡ x) l l (λ e. refl) (λ n. absurd (n refl))

-- the front leaves, and one comes behind the others
left_pushed : {A : Type 0} (f : ℕ → List A) (l : ℕ) (a : A) → set_at (set_at f l (drop 1 (f l))) l (set_at f l (drop 1 (f l)) l ++ a ∷ []) ≡ set_at f l (drop 1 (f l) ++ a ∷ [])
left_pushed f l a = set_twice f l (drop 1 (f l)) (set_at f l (drop 1 (f l)) l ++ a ∷ []) ∙ ap (λ xs. set_at f l (xs ++ a ∷ [])) (set_here f l (drop 1 (f l)))

module _ {F : Type 0} (rows : F → Rows) (loan : Loan) (k : Kept F) (queues : Lists Activation) (l : ℕ) (s : State Thread) (keeps : Keeps rows loan k s) where
  pub rest_here : map (activation_of loan) (drop 1 (list_of k.queues l)) ≡ drop 1 (s.lists l)
  rest_here = sym (drop-map (activation_of loan) 1 (list_of k.queues l)) ∙ ap (drop 1) (sym (list_here rows loan k l s keeps))

  -- the front has left
  pub keeps_left : l < length k.queues.lists → queues ≡ with_list k.queues l (drop 1 (list_of k.queues l)) → Keeps rows loan (record k { queues = queues }) (leave s l)
  keeps_left h e = subst (λ (xs : List (rules.Activation Thread)). Keeps rows loan (record k { queues = queues }) (record s { lists = set_at s.lists l xs })) rest_here
      (keeps_list rows loan k queues l (drop 1 (list_of k.queues l)) s keeps h e)

  -- the front has gone to the back as another one
  pub keeps_turned : (a : Activation) → l < length k.queues.lists → queues ≡ with_list k.queues l (drop 1 (list_of k.queues l) ++ a ∷ [])
      → Keeps rows loan (record k { queues = queues }) (push (leave s l) l (activation_of loan a))
  keeps_turned a h e = subst (Keeps rows loan (record k { queues = queues })) same (keeps_list rows loan k queues l (drop 1 (list_of k.queues l) ++ a ∷ []) s keeps h e)
    where
      moved : map (activation_of loan) (drop 1 (list_of k.queues l) ++ a ∷ []) ≡ drop 1 (s.lists l) ++ activation_of loan a ∷ []
      moved = map-append (activation_of loan) (drop 1 (list_of k.queues l)) (a ∷ []) ∙ ap (λ (xs : List (rules.Activation Thread)). xs ++ activation_of loan a ∷ []) rest_here

      same : record s { lists = set_at s.lists l (map (activation_of loan) (drop 1 (list_of k.queues l) ++ a ∷ [])) } ≡ push (leave s l) l (activation_of loan a)
      same = ap (λ (xs : List (rules.Activation Thread)). record s { lists = set_at s.lists l xs }) moved ∙ sym (ap (λ (f : ℕ → List (rules.Activation Thread)). record s { lists = f }) (left_pushed s.lists l (activation_of loan a)))

-- the activation of a run is fit, with a sandbox that can go on
pub fit_run : (loan : Loan) (requests : Requests) (r : Run) (sandbox : Sandbox) (used : ℕ) → IsRun loan requests r → IsReady (module_in loan r.function) sandbox
    → IsFitActivation loan requests (record { function = r.function; input = r.input; serves = r.serves; sandbox = Some sandbox; used = used })
fit_run loan requests r sandbox used is ready = record {
  function = is.function;
  input = is.input;
  serves = is.serves;
  ready = λ x e. subst (IsReady (module_in loan r.function)) (same x e) ready;
}
  where
    same : (x : Sandbox) → Some sandbox ≡ Some x → sandbox ≡ x
    same x e = cc

-- the units of a run are used: so is all its fuel, or it waits
module _ (loan : Loan) (r : Run) (before : Option Thread) (given : ℕ) (sandbox : Sandbox) (s : State Thread) where
  pub fuel_used : r.used + given ≡ (limits_at (rules_in loan) r.at.number).fuel → run_closes loan r before given (ending.Spent sandbox) s ≡ run_ends loan r before (outcome.Trapped Fuel) s
  fuel_used e = by_same (λ (b : Bool). cond {A = rules.Moved Thread} b (run_ends loan r before (outcome.Trapped Fuel) s) (run_waits loan r before given sandbox s) ≡ run_ends loan r before (outcome.Trapped Fuel) s)
      (r.used + given) (limits_at (rules_in loan) r.at.number).fuel (λ e. refl) (λ n. absurd (n e))

  pub fuel_left : (r.used + given ≡ (limits_at (rules_in loan) r.at.number).fuel → ⊥) → run_closes loan r before given (ending.Spent sandbox) s ≡ run_waits loan r before given sandbox s
  fuel_left n = by_same (λ (b : Bool). cond {A = rules.Moved Thread} b (run_ends loan r before (outcome.Trapped Fuel) s) (run_waits loan r before given sandbox s) ≡ run_waits loan r before given sandbox s)
      (r.used + given) (limits_at (rules_in loan) r.at.number).fuel (λ e. absurd (n e)) (λ n. refl)
