-- A turn: the end after the stint, the thread of the front, and the husk in its place.
use Rattle.std.proofs.Common.{◌≡◌, ℕ, zero, suc, ◌+◌, ◌-◌, ◌<◌, ◌≤◌, Bool, cond, List, [], ◌∷◌, ◌++◌, append-nil, length, get_or, map, drop, Option, Some, None, refl, sym, ◌∙◌, ap, subst, arith}
use Rattle.std.specs.declared.alloc.Global.{Global}
use Rattle.std.specs.Prelude.{Vec, Result, All, nat_le, slice_get, slice_index, option_map, min}
use Rattle.std.proofs.Math.ListN.{set}
use Rattle.std.proofs.lemmas.Bool.{le-leb, lt-leb}
use Rattle.trapeze_io.specs.declared.failures.NoMemory.{NoMemory}
use Rattle.facet_list.specs.Rows.{Rows}
use Rattle.label_lattice.specs.Order.{count}
use Rattle.label_lattice.specs.declared.label.Label.{Label}
use Rattle.label_limits.specs.declared.limits.Limits.{Limits}
use Rattle.label_queues.specs.Lists.{Lists, list_of, with_list}
use Rattle.trapeze_lines.specs.declared.line.Line.{Line}
use Rattle.trapeze_lines.specs.declared.outcome.Cause.TheVariants.{Pages}
use Rattle.trapeze_lines.specs.declared.outcome.Outcome.TheVariants as outcome
use Rattle.wasm_ast.specs.Spaces.{first_pages}
use Rattle.wasm_semantics.specs.Threads.{Thread}
use Rattle.wasm_semantics.specs.Begin.{begin}
use Rattle.sandbox.specs.declared.sandboxes.Sandbox.{Sandbox}
use Rattle.sandbox.specs.declared.going.Begun.{Begun}
use Rattle.sandbox.specs.declared.going.Begun.TheVariants as begun
use Rattle.sandbox.specs.Threads.{thread_of, IsReady}
use Rattle.host_rules.specs.Rules.{Rules, limits_at}
use Rattle.host_rules.specs.States as rules
use Rattle.host_rules.specs.States.{State, Moved, still, told, then_move, leave, count_turn, set_at}
use Rattle.host_rules.specs.Turns.{End, Trapped, Stint, turn_line, closing, given, run, run_from, turn_of}
use Rattle.host_rules.specs.Bridges.{with_front, IsIndifferent}
use Rattle.trapeze_host.specs.declared.kept.Activation.{Activation}
use Rattle.trapeze_host.specs.declared.kept.Serving.{Serving}
use Rattle.trapeze_host.specs.declared.requests.Requests.{Requests}
use Rattle.trapeze_host.specs.declared.kept.Kept.{Kept}
use Rattle.trapeze_host.specs.Loans.{Loan, rules_in, guest_in, module_in}
use Rattle.trapeze_host.specs.Keeping.{activation_of, state_of, Keeps, Makes, IsFitActivation, IsSound}
use Rattle.trapeze_host.specs.Turning.{Owes, ends_so, GoesOnWith, IsRun}
use Rattle.trapeze_host.proofs.SetPlaces.{set_table}
use Rattle.trapeze_host.proofs.Keeping.{for_state, then_makes, keeps_list, list_here}
use Rattle.trapeze_host.proofs.SoundLists.{sound_list}
use Rattle.trapeze_host.proofs.Closings.{all_front, front_is, rest_here, set_twice, set_here}

-- a stint and then the end of its turn
pub closed : {F X : Type 0} (rows : F → Rows) (loan : Loan) (j i : Kept F) (before between after : List Line) (r : Stint Thread) (e : End Thread) (o : Owes rows loan r j before between (ends_so e)) (result : Result X NoMemory)
    (P : Rules) (c number n : ℕ) (a : rules.Activation Thread) → Makes rows loan result (closing P c number a n e o.done.state) i between after
    → Makes rows loan result (then_move r.moved (closing P c number a n r.end r.moved.state)) i before after
closed rows loan j i before between after r e o result P c number n a made =
    subst (λ (r : Stint Thread). Makes rows loan result (then_move r.moved (closing P c number a n r.end r.moved.state)) i before after) (sym o.makes)
    (then_makes rows loan result (then_move o.done (still o.done.state)) (closing P c number a n e o.done.state) j i before between after
    (record { keeps = o.keeps; lines = o.lines ∙ ap (λ ls. before ++ ls) (sym (append-nil o.done.lines)) }) made)

-- the units of a turn
pub given_is : (P : Rules) (c : ℕ) (a : rules.Activation Thread) (limits : Limits) (n left : ℕ) → limits ≡ limits_at P c → left ≡ limits.fuel - a.used → n ≡ min limits.quantum left → n ≡ given P c a
given_is P c a limits n left e f h = h ∙ (ap (min limits.quantum) f ∙ ap (λ (x : Limits). min x.quantum (x.fuel - a.used)) e)

-- the thread of the front: its own, or the starting one
pub thread_goes : (loan : Loan) (c number f : ℕ) (a : rules.Activation Thread) (s : State Thread) (o : Option Thread) (b : Begun) (sandbox : Sandbox) → a.function ≡ f → b ≡ begun.Ready sandbox
    → GoesOnWith (module_in loan f) (limits_at (rules_in loan) c).pages o b → run_from (rules_in loan) (guest_in loan) c number a o s ≡ run (rules_in loan) (guest_in loan) c number a (thread_of (module_in loan f) sandbox) s
thread_goes loan c number f a s (Some t) b sandbox is e h =
    let k : (thread_of (module_in loan f) sandbox ≡ t) × IsReady (module_in loan f) sandbox = subst (GoesOnWith (module_in loan f) (limits_at (rules_in loan) c).pages (Some t)) e h in
    ap (λ (t : Thread). run (rules_in loan) (guest_in loan) c number a t s) (sym k.0)
thread_goes loan c number f a s None b sandbox is e h =
    let k : (first_pages (module_in loan f) ≤ (limits_at (rules_in loan) c).pages) × (thread_of (module_in loan f) sandbox ≡ begin (module_in loan f)) × IsReady (module_in loan f) sandbox =
    subst (GoesOnWith (module_in loan f) (limits_at (rules_in loan) c).pages None) e h in
    ap (λ (f : ℕ). cond {A = Moved Thread} (nat_le (first_pages (module_in loan f)) (limits_at (rules_in loan) c).pages) (run (rules_in loan) (guest_in loan) c number a (begin (module_in loan f)) s) (closing (rules_in loan) c number a 0 (Trapped Pages) s)) is
    ∙ ap (λ (b : Bool). cond {A = Moved Thread} b (run (rules_in loan) (guest_in loan) c number a (begin (module_in loan f)) s) (closing (rules_in loan) c number a 0 (Trapped Pages) s)) (le-leb _ _ k.0)
    ∙ ap (λ (t : Thread). run (rules_in loan) (guest_in loan) c number a t s) (sym k.1)

pub thread_pages : (loan : Loan) (c number f : ℕ) (a : rules.Activation Thread) (s : State Thread) (o : Option Thread) (b : Begun) → a.function ≡ f → b ≡ begun.Pages
    → GoesOnWith (module_in loan f) (limits_at (rules_in loan) c).pages o b → run_from (rules_in loan) (guest_in loan) c number a o s ≡ closing (rules_in loan) c number a 0 (Trapped Pages) s
thread_pages loan c number f a s (Some t) b is e h = absurd (subst (GoesOnWith (module_in loan f) (limits_at (rules_in loan) c).pages (Some t)) e h)
thread_pages loan c number f a s None b is e h =
    let k : (limits_at (rules_in loan) c).pages < first_pages (module_in loan f) = subst (GoesOnWith (module_in loan f) (limits_at (rules_in loan) c).pages None) e h in
    ap (λ (f : ℕ). cond {A = Moved Thread} (nat_le (first_pages (module_in loan f)) (limits_at (rules_in loan) c).pages) (run (rules_in loan) (guest_in loan) c number a (begin (module_in loan f)) s) (closing (rules_in loan) c number a 0 (Trapped Pages) s)) is
    ∙ ap (λ (b : Bool). cond {A = Moved Thread} b (run (rules_in loan) (guest_in loan) c number a (begin (module_in loan f)) s) (closing (rules_in loan) c number a 0 (Trapped Pages) s)) (lt-leb _ _ k)

-- the front leaves in the same way, whatever stands in its place
left_alike : (s : State Thread) (c : ℕ) (x : rules.Activation Thread) → leave s c ≡ leave (with_front s c x) c
left_alike s c x = ap (λ (f : ℕ → List (rules.Activation Thread)). record s { lists = f })
    (sym (set_twice s.lists c (x ∷ drop 1 (s.lists c)) (drop 1 (set_at s.lists c (x ∷ drop 1 (s.lists c)) c))
    ∙ ap (λ (xs : List (rules.Activation Thread)). set_at s.lists c (drop 1 xs)) (set_here s.lists c (x ∷ drop 1 (s.lists c)))))

-- what holds of all of a list holds with another front
pub all_set : {A : Type 0} (P : A → Type 0) (xs : List A) (x : A) → All P xs → P x → All P (set xs 0 x)
all_set P [] x h p = h
all_set {A} P (y ∷ xs) x h p = at
  where
    at : (i : ℕ) (d : A) → i < length (x ∷ xs) → P (get_or (x ∷ xs) i d)
    at zero d b = p
    at (suc i) d b = h (suc i) d (omega (arith, b))

-- a husk of one of the functions is fit
pub fit_husk : (loan : Loan) (requests : Requests) (front husk : Activation) → IsFitActivation loan requests front → husk.function ≡ 0 → husk.input ≡ [] → husk.serves ≡ None → husk.sandbox ≡ None → IsFitActivation loan requests husk
fit_husk loan requests front husk fit f i s b = record {
  function = omega (arith, f, fit.function);
  input = omega (arith, ap length i);
  serves = λ x e. absurd (never_serving x (sym s ∙ e));
  ready = λ x e. absurd (never_sandbox x (sym b ∙ e));
}
  where
    never_serving : (x : Serving) → None ≡ Some x → ⊥
    never_serving x e = cc

    never_sandbox : (x : Sandbox) → None ≡ Some x → ⊥
    never_sandbox x e = cc

module _ {F : Type 0} (rows : F → Rows) (loan : Loan) (k : Kept F) (queues : Lists Activation) (l : ℕ) (s : State Thread) (keeps : Keeps rows loan k s) (front husk : Activation) (first : slice_get (list_of k.queues l) 0 ≡ Some front) where
  -- a husk keeps the front's place
  abbrev pub husked : State Thread
  husked = with_front s l (activation_of loan husk)

  pub keeps_husk : l < length k.queues.lists → queues ≡ with_list k.queues l (set (list_of k.queues l) 0 husk) → Keeps rows loan (record k { queues = queues }) husked
  keeps_husk h e = subst (λ (xs : List (rules.Activation Thread)). Keeps rows loan (record k { queues = queues }) (record s { lists = set_at s.lists l xs }))
      (ap (λ (xs : List Activation). map (activation_of loan) (set xs 0 husk)) (front_is (list_of k.queues l) front first)
      ∙ ap (λ (xs : List (rules.Activation Thread)). activation_of loan husk ∷ xs) (rest_here rows loan k queues l s keeps))
      (keeps_list rows loan k queues l (set (list_of k.queues l) 0 husk) s keeps h e)

  list_is : s.lists l ≡ activation_of loan front ∷ map (activation_of loan) (drop 1 (list_of k.queues l))
  list_is = list_here rows loan k l s keeps ∙ ap (map (activation_of loan)) (front_is (list_of k.queues l) front first)

  pub some_here : 0 < length (s.lists l)
  some_here = omega (arith, ap length list_is)

  front_turns : (number : ℕ) → turn_of (rules_in loan) (guest_in loan) l number (s.lists l) s
      ≡ run_from (rules_in loan) (guest_in loan) l number (activation_of loan front) (option_map (thread_of (module_in loan front.function)) front.sandbox) s
  front_turns number = ap (λ (xs : List (rules.Activation Thread)). turn_of (rules_in loan) (guest_in loan) l number xs s) list_is

  module _ (law : IsIndifferent (rules_in loan) (guest_in loan)) (number : ℕ) (b : Begun)
      (goes : GoesOnWith (module_in loan front.function) (limits_at (rules_in loan) l).pages (option_map (thread_of (module_in loan front.function)) front.sandbox) b) where
    pub turn_runs : (sandbox : Sandbox) → b ≡ begun.Ready sandbox → turn_of (rules_in loan) (guest_in loan) l number (s.lists l) s
        ≡ run (rules_in loan) (guest_in loan) l number (activation_of loan front) (thread_of (module_in loan front.function) sandbox) husked
    turn_runs sandbox e = front_turns number
        ∙ thread_goes loan l number front.function (activation_of loan front) s (option_map (thread_of (module_in loan front.function)) front.sandbox) b sandbox refl e goes
        ∙ law l number (activation_of loan front) (activation_of loan husk) (thread_of (module_in loan front.function) sandbox) s some_here

    pub turn_traps : b ≡ begun.Pages → turn_of (rules_in loan) (guest_in loan) l number (s.lists l) s ≡ closing (rules_in loan) l number (activation_of loan front) 0 (Trapped Pages) husked
    turn_traps e = front_turns number
        ∙ thread_pages loan l number front.function (activation_of loan front) s (option_map (thread_of (module_in loan front.function)) front.sandbox) b refl e goes
        ∙ ap (told (turn_line (rules_in loan) l number (activation_of loan front) (outcome.Trapped Pages))) (left_alike s l (activation_of loan husk))

-- what is kept is sound with a husk in the front's place
pub sound_husk : {F : Type 0} (limits : F → List Limits) (loan : Loan) (k : Kept F) (queues : Lists Activation) (l : ℕ) (front : Activation) (input : List ℕ) → IsSound limits loan k → l < count loan.policy.lattice
    → slice_get (list_of k.queues l) 0 ≡ Some front → input ≡ [] → queues ≡ with_list k.queues l (set (list_of k.queues l) 0 (record { function = 0; input = input; serves = None; sandbox = None; used = 0 }))
    → IsSound limits loan (record k { queues = queues })
sound_husk limits loan k queues l front input sound h first e after = sound_list limits loan k queues l (set (list_of k.queues l) 0 husk) sound (omega (arith, h, sound.lists)) after
    (all_set (IsFitActivation loan k.requests) (list_of k.queues l) husk (sound.fit l)
    (fit_husk loan k.requests front husk (all_front (IsFitActivation loan k.requests) (list_of k.queues l) front first (sound.fit l)) refl e refl refl))
  where
    husk : Activation
    husk = record { function = 0; input = input; serves = None; sandbox = None; used = 0 }

-- the run of the front
pub front_run : {F : Type 0} (limits : F → List Limits) (loan : Loan) (k : Kept F) (at : Label) (number : ℕ) (front : Activation) → IsSound limits loan k → at.number < count loan.policy.lattice
    → slice_get (list_of k.queues at.number) 0 ≡ Some front
    → IsRun loan k.requests (record { at = at; number = number; function = front.function; input = front.input; serves = front.serves; used = front.used })
front_run limits loan k at number front sound h first =
    let fit : IsFitActivation loan k.requests front = all_front (IsFitActivation loan k.requests) (list_of k.queues at.number) front first (sound.fit at.number) in
    record { at = h; function = fit.function; input = fit.input; serves = fit.serves }

-- a turn number is taken
pub keeps_turn : {F : Type 0} (rows : F → Rows) (loan : Loan) (k : Kept F) (turns : Vec ℕ Global) (l : ℕ) (s : State Thread) → Keeps rows loan k s → l < length k.turns.items
    → turns.items ≡ set k.turns.items l (slice_index k.turns.items l + 1) → Keeps rows loan (record k { turns = turns }) (count_turn s l)
keeps_turn {F} rows loan k turns l s keeps h e = for_state rows loan (λ s. Keeps rows loan (record k { turns = turns }) (count_turn s l)) k
    (λ w r. record {
      store = r;
      state = ap (λ (t : ℕ → ℕ). record (state_of loan w k) { turns = t }) (ap slice_index e ∙ set_table (λ n. n) k.turns.items 0 l (slice_index k.turns.items l + 1) h);
    }) s keeps

pub none_of : {A : Type 0} (xs : List A) → length xs ≡ 0 → xs ≡ []
none_of [] e = refl
none_of (x ∷ xs) e = absurd (omega arith)
