-- The numbers of turns and requests: an event raises one of them, and nothing else changes them.
use Rattle.std.proofs.Common.{◌≡◌, ℕ, zero, suc, ◌+◌, List, [], ◌∷◌, length, Option, Some, None, refl, sym, ◌∙◌, subst, arith}
use Rattle.std.specs.Prelude.{◌==◌, ◌&&◌, not, nat_lt, nat_le}
use Rattle.facet_list.specs.Store.{Write, written}
use Rattle.trapeze_lines.specs.declared.outcome.Cause.TheVariants.{Pages}
use Rattle.event_file.specs.declared.entry.Event.TheVariants.{Put, Ask, Turn}
use Rattle.host_rules.specs.Guests.{OneUnit, Goes, Calls, Done, Traps, Guest}
use Rattle.host_rules.specs.Rules.{Rules, limits_at, clearance}
use Rattle.host_rules.specs.States.{Serving, Activation, fresh, State, leave, set_at, count_turn, count_request, Item, Happens, Out, Moved}
use Rattle.host_rules.specs.Stores.{fits}
use Rattle.host_rules.specs.Calls.{Effect, Nothing, AWrite, AMessage, AReply, ARelease, Called, Resumed, RaisedTo, Refused, shim}
use Rattle.host_rules.specs.Effects.{write, arrive, reply, apply}
use Rattle.host_rules.specs.Turns.{End, Ended, Trapped, Raised, Spent, Stint, after_call, after_unit, stint, given, closing, run, run_from, turn_of}
use Rattle.host_rules.specs.Play.{step}
use Rattle.host_rules.specs.Laws.{StaysOrRises, RaisesByOne}
use Rattle.host_rules.proofs.SetAt.{at_set, of_branch}

module _ {T : Type 0} (P : Rules) where
  -- the numbers are those of s
  record Keeps (s t : State T) : Type 0 where
    pub turns : t.turns ≡ s.turns
    pub requests : t.requests ≡ s.requests

  keeps_same : (s : State T) → Keeps s s
  keeps_same s = record { turns = refl; requests = refl }

  keeps_then : (s t u : State T) → Keeps s t → Keeps t u → Keeps s u
  keeps_then s t u h k = record { turns = k.turns ∙ h.turns; requests = k.requests ∙ h.requests }

  keeps_write : (x : Write) (s : State T) → Keeps s (write P x s).state
  keeps_write x s = of_branch (λ (m : Moved T). Keeps s m.state) (fits P s.store x) _ _ (record { turns = refl; requests = refl }) (keeps_same s)

  keeps_arrive : (l m : ℕ) (a : Activation T) (s : State T) → Keeps s (arrive P l m a s).state
  keeps_arrive l m a s = of_branch (λ (m : Moved T). Keeps s m.state) (nat_lt (length (s.lists l)) (limits_at P l).queue) _ _ (record { turns = refl; requests = refl }) (keeps_same s)

  keeps_reply : (c : ℕ) (serves : Option Serving) (bytes : List ℕ) (s : State T) → Keeps s (reply P c serves bytes s).state
  keeps_reply c None bytes s = keeps_same s
  keeps_reply c (Some x) bytes s = of_branch (λ (m : Moved T). Keeps s m.state) (P.flows c (clearance P x.client) && not (s.answered x.request)) _ _ (record { turns = refl; requests = refl }) (keeps_same s)

  keeps_apply : (c : ℕ) (a : Activation T) (e : Effect) (s : State T) → Keeps s (apply P c a e s).state
  keeps_apply c a Nothing s = keeps_same s
  keeps_apply c a (AWrite key value) s = keeps_write (written c key value) s
  keeps_apply c a (AMessage channel bytes) s = of_branch (λ (m : Moved T). Keeps s m.state) (P.flows c channel.at.number) _ _ (keeps_arrive channel.at.number c (fresh channel.function bytes a.serves) s) (keeps_same s)
  keeps_apply c a (AReply bytes) s = keeps_reply c a.serves bytes s
  keeps_apply c a (ARelease gate bytes) s = of_branch (λ (m : Moved T). Keeps s m.state) (P.flows c gate.source.number) _ _ (keeps_arrive gate.target.number gate.source.number (fresh gate.function bytes None) s) (keeps_same s)

  module _ (M : Guest T) where
    keeps_call : (c : ℕ) (a : Activation T) (s : State T) (rest : T → State T → Stint T) → ((t : T) (s : State T) → Keeps s (rest t s).moved.state) → (r : Called T) → Keeps s (after_call P c a s rest r).moved.state
    keeps_call c a s rest hyp (Resumed t lines effect) = keeps_then s (apply P c a effect s).state _ (keeps_apply c a effect s) (hyp t (apply P c a effect s).state)
    keeps_call c a s rest hyp (RaisedTo l t) = keeps_same s
    keeps_call c a s rest hyp (Refused cause) = keeps_same s

    keeps_unit : (c : ℕ) (a : Activation T) (s : State T) (rest : T → State T → Stint T) → ((t : T) (s : State T) → Keeps s (rest t s).moved.state) → (u : OneUnit T) → Keeps s (after_unit P M c a s rest u).moved.state
    keeps_unit c a s rest hyp (Goes t) = hyp t s
    keeps_unit c a s rest hyp (Calls asked t) = keeps_call c a s rest hyp (shim P M c a s.store asked t)
    keeps_unit c a s rest hyp Done = keeps_same s
    keeps_unit c a s rest hyp (Traps cause) = keeps_same s

    keeps_stint : (c : ℕ) (a : Activation T) (n : ℕ) (t : T) (s : State T) → Keeps s (stint P M c a n t s).moved.state
    keeps_stint c a zero t s = keeps_same s
    keeps_stint c a (suc n) t s = keeps_unit c a s (λ t s. stint P M c a n t s) (λ t s. keeps_stint c a n t s) (M.unit a.function (limits_at P c).pages t)

    keeps_closing : (c number : ℕ) (a : Activation T) (n : ℕ) (end : End T) (s : State T) → Keeps s (closing P c number a n end s).state
    keeps_closing c number a n Ended s = record { turns = refl; requests = refl }
    keeps_closing c number a n (Trapped cause) s = record { turns = refl; requests = refl }
    keeps_closing c number a n (Raised l t) s = keeps_then s (leave s c) _ (record { turns = refl; requests = refl }) (keeps_arrive l c (record a { thread = Some t }) (leave s c))
    keeps_closing c number a n (Spent t) s = of_branch (λ (m : Moved T). Keeps s m.state) (a.used + n == (limits_at P c).fuel) _ _ (record { turns = refl; requests = refl }) (record { turns = refl; requests = refl })

    keeps_run : (c number : ℕ) (a : Activation T) (t : T) (s : State T) → Keeps s (run P M c number a t s).state
    keeps_run c number a t s =
        let r = stint P M c a (given P c a) t s in
        keeps_then s r.moved.state _ (keeps_stint c a (given P c a) t s) (keeps_closing c number a (given P c a) r.end r.moved.state)

    keeps_from : (c number : ℕ) (a : Activation T) (thread : Option T) (s : State T) → Keeps s (run_from P M c number a thread s).state
    keeps_from c number a (Some t) s = keeps_run c number a t s
    keeps_from c number a None s = of_branch (λ (m : Moved T). Keeps s m.state) (nat_le (M.minimum a.function) (limits_at P c).pages) _ _ (keeps_run c number a (M.begin a.function) s) (keeps_closing c number a 0 (Trapped Pages) s)

    keeps_front : (c number : ℕ) (xs : List (Activation T)) (s : State T) → Keeps s (turn_of P M c number xs s).state
    keeps_front c number [] s = keeps_same s
    keeps_front c number (a ∷ others) s = keeps_from c number a a.thread s

    still_steps : (f g : ℕ → ℕ) (l : ℕ) → g ≡ f → StaysOrRises (f l) (g l)
    still_steps f g l e = subst (λ (g : ℕ → ℕ). StaysOrRises (f l) (g l)) (sym e) (omega arith, omega arith)

    raised_steps : (f g : ℕ → ℕ) (c l : ℕ) → g ≡ set_at f c (f c + 1) → StaysOrRises (f l) (g l)
    raised_steps f g c l e = subst (λ (g : ℕ → ℕ). StaysOrRises (f l) (g l)) (sym e)
        (at_set (λ n. StaysOrRises (f l) n) f c (f c + 1) l (λ e. subst (λ k. StaysOrRises (f k) (f c + 1)) (sym e) (omega arith, omega arith)) (omega arith, omega arith))

    pub raises_by_one : RaisesByOne P M
    raises_by_one = record { turns = turns; requests = requests }
      where
        turns : (s : State T) (i : Item) (l : ℕ) → StaysOrRises (s.turns l) ((step P M s i).state.turns l)
        turns s (Happens (Put label key value)) l = still_steps s.turns _ l (keeps_write (written label.number key value) s).turns
        turns s (Happens (Ask label client function id body)) l = still_steps s.turns _ l (keeps_arrive label.number label.number (fresh function body (Some (record { request = record { label = label.number; number = s.requests label.number + 1 }; client = client; id = id }))) (count_request s label.number)).turns
        turns s (Happens (Turn label)) l = raised_steps s.turns _ label.number l (keeps_front label.number (s.turns label.number + 1) (s.lists label.number) (count_turn s label.number)).turns
        turns s (Out gate bytes) l = still_steps s.turns _ l (keeps_arrive gate.target.number gate.source.number (fresh gate.function bytes None) s).turns

        requests : (s : State T) (i : Item) (l : ℕ) → StaysOrRises (s.requests l) ((step P M s i).state.requests l)
        requests s (Happens (Put label key value)) l = still_steps s.requests _ l (keeps_write (written label.number key value) s).requests
        requests s (Happens (Ask label client function id body)) l = raised_steps s.requests _ label.number l (keeps_arrive label.number label.number (fresh function body (Some (record { request = record { label = label.number; number = s.requests label.number + 1 }; client = client; id = id }))) (count_request s label.number)).requests
        requests s (Happens (Turn label)) l = still_steps s.requests _ l (keeps_front label.number (s.turns label.number + 1) (s.lists label.number) (count_turn s label.number)).requests
        requests s (Out gate bytes) l = still_steps s.requests _ l (keeps_arrive gate.target.number gate.source.number (fresh gate.function bytes None) s).requests
