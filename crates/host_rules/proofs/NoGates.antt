-- Without gates nothing is released, and the view is what is visible.
use Rattle.std.proofs.Common.{◌≡◌, ℕ, zero, suc, ◌+◌, true, false, cond, List, [], ◌∷◌, ◌++◌, Option, Some, None, Result, Ok, Err, length, take, refl, sym, ◌∙◌, ap, subst}
use Rattle.std.specs.Prelude.{◌==◌, nat_le, ok_or, slice_index}
use Rattle.trapeze_io.specs.Answers.{◌>>=◌}
use Rattle.facet_list.specs.Store.{Write, written}
use Rattle.trapeze_lines.specs.declared.line.Line.{Line}
use Rattle.trapeze_lines.specs.declared.outcome.Cause.{Cause}
use Rattle.trapeze_lines.specs.declared.outcome.Cause.TheVariants.{Unknown}
use Rattle.event_file.specs.declared.entry.Event.{Event}
use Rattle.event_file.specs.declared.entry.Event.TheVariants.{Put, Ask, Turn}
use Rattle.wasm_ast.specs.declared.hosts.HostName.{HostName}
use Rattle.wasm_ast.specs.declared.hosts.HostName.TheVariants as host
use Rattle.wasm_ast.specs.Memory.{memory_write}
use Rattle.host_rules.specs.Guests.{OneUnit, Goes, Calls, Done, Traps, Guest}
use Rattle.host_rules.specs.Ranges.{key_at, name_at, bytes_at}
use Rattle.host_rules.specs.Rules.{Rules, IsOrdered, HasNoGates, limits_at, label_named, channel_named, gate_named}
use Rattle.host_rules.specs.States.{Activation, fresh, State, leave, count_turn, count_request, Happens, Moved, start}
use Rattle.host_rules.specs.Stores.{read}
use Rattle.host_rules.specs.Wishes.{Wish, Inputs, Reads, Writes, Sends, Raises, Replies, OwnLabels, Releases, wish_of, wish}
use Rattle.host_rules.specs.Calls.{Effect, Nothing, AWrite, AMessage, AReply, ARelease, Called, Resumed, RaisedTo, Refused, resumes, written_out, copied, read_out, granted, after_wish, shim}
use Rattle.host_rules.specs.Effects.{apply}
use Rattle.host_rules.specs.Turns.{End, Ended, Trapped, Raised, Spent, Stint, after_call, after_unit, stint, given, closing, run, run_from, turn_of}
use Rattle.host_rules.specs.Play.{step, play, releases, items_of}
use Rattle.host_rules.specs.Views.{event_label, visible_events, visible_items, view}
use Rattle.host_rules.specs.Laws.{LooksLike, SeesTheSame, HidesEventsWhole, IsNoninterferingAlone, IsWithoutReleases}
use Rattle.host_rules.proofs.SetAt.{of_branch}
use Rattle.host_rules.proofs.SameToObserver.{same_refl}
use Rattle.host_rules.proofs.Effects.{arrive_outs, write_outs, reply_outs, send_outs}
use Rattle.host_rules.proofs.Runs.{noninterfering, hides_events}

module _ {T : Type 0} (P : Rules) (without : HasNoGates P) (M : Guest T) where
  -- an effect that is no release, and a wish for none
  abbrev IsPlain : Effect → Type 0
  IsPlain Nothing = Unit {0}
  IsPlain (AWrite key value) = Unit {0}
  IsPlain (AMessage channel bytes) = Unit {0}
  IsPlain (AReply bytes) = Unit {0}
  IsPlain (ARelease gate bytes) = ⊥

  abbrev IsPlainCall : Called T → Type 0
  IsPlainCall (Resumed t lines effect) = IsPlain effect
  IsPlainCall (RaisedTo l t) = Unit {0}
  IsPlainCall (Refused cause) = Unit {0}

  abbrev IsPlainWish : Result Wish Cause → Type 0
  IsPlainWish (Ok (Releases gate bytes)) = ⊥
  IsPlainWish (Ok (Inputs at cap)) = Unit {0}
  IsPlainWish (Ok (Reads key at cap)) = Unit {0}
  IsPlainWish (Ok (Writes key value)) = Unit {0}
  IsPlainWish (Ok (Sends name channel bytes)) = Unit {0}
  IsPlainWish (Ok (Raises l)) = Unit {0}
  IsPlainWish (Ok (Replies bytes)) = Unit {0}
  IsPlainWish (Ok (OwnLabels at cap)) = Unit {0}
  IsPlainWish (Err cause) = Unit {0}

  -- a test, and then the rest
  plain_then : {X : Type 0} (r : Result X Cause) (next : X → Result Wish Cause) → ((x : X) → IsPlainWish (next x)) → IsPlainWish (r >>= next)
  plain_then (Ok x) next h = h x
  plain_then (Err cause) next h = tt

  plain_wish : (m : List ℕ) (name : HostName) (x y z w : ℕ) → IsPlainWish (wish_of P m name x y z w)
  plain_wish m host.Input x y z w = tt
  plain_wish m host.Read x y z w = plain_then (key_at m x y) _ (λ key. tt)
  plain_wish m host.Write x y z w = plain_then (key_at m x y) _ (λ key. plain_then (bytes_at m z w) _ (λ value. tt))
  plain_wish m host.Delete x y z w = plain_then (key_at m x y) _ (λ key. tt)
  plain_wish m host.Send x y z w = plain_then (name_at m x y) _ (λ name. plain_then (bytes_at m z w) _ (λ bytes. plain_then (ok_or (channel_named P name) Unknown) _ (λ channel. tt)))
  plain_wish m host.Raise x y z w = plain_then (name_at m x y) _ (λ name. plain_then (ok_or (label_named P name) Unknown) _ (λ label. tt))
  plain_wish m host.Reply x y z w = plain_then (bytes_at m x y) _ (λ bytes. tt)
  plain_wish m host.OwnLabel x y z w = tt
  plain_wish m host.Release x y z w = plain_then (name_at m x y) _ (λ name. plain_then (bytes_at m z w) _ (λ bytes.
      subst (λ g. IsPlainWish (ok_or g Unknown >>= (λ gate. Ok (Releases gate bytes)))) (sym (no_gate name)) tt))
    where
      no_gate : (name : List ℕ) → gate_named P name ≡ None
      no_gate name = ap (λ gates. gate_named (record P { gates = gates }) name) without

  plain_written : (t : T) (memory : Option (List ℕ)) (answer : ℕ) (lines : List Line) → IsPlainCall (written_out M t memory answer lines)
  plain_written t None answer lines = tt
  plain_written t (Some memory) answer lines = tt

  plain_copied : (t : T) (at cap : ℕ) (bytes : List ℕ) (lines : List Line) → IsPlainCall (copied M t at cap bytes lines)
  plain_copied t at cap bytes lines = plain_written t (memory_write (M.memory t) at (take cap bytes)) (length bytes) lines

  plain_read : (t : T) (at cap : ℕ) (value : Option (List ℕ)) (lines : List Line) → IsPlainCall (read_out M t at cap value lines)
  plain_read t at cap None lines = tt
  plain_read t at cap (Some value) lines = plain_copied t at cap value lines

  plain_grant : (c : ℕ) (a : Activation T) (w : List Write) (t : T) (r : Result Wish Cause) → IsPlainWish r → IsPlainCall (after_wish r (granted P M c a w t))
  plain_grant c a w t (Err cause) h = tt
  plain_grant c a w t (Ok (Inputs at cap)) h = plain_copied t at cap a.input []
  plain_grant c a w t (Ok (Reads key at cap)) h = plain_read t at cap (read P c key w) _
  plain_grant c a w t (Ok (Writes key value)) h = tt
  plain_grant c a w t (Ok (Sends name channel bytes)) h = tt
  plain_grant c a w t (Ok (Raises l)) h = of_branch IsPlainCall (P.join c l == c) (resumes M t None [] Nothing) (RaisedTo (P.join c l) (M.answer t (M.memory t) None)) tt tt
  plain_grant c a w t (Ok (Replies bytes)) h = tt
  plain_grant c a w t (Ok (OwnLabels at cap)) h = plain_copied t at cap _ []
  plain_grant c a w t (Ok (Releases gate bytes)) h = absurd h

  plain_apply : (c : ℕ) (a : Activation T) (e : Effect) (s : State T) → IsPlain e → (apply P c a e s).outs ≡ []
  plain_apply c a Nothing s h = refl
  plain_apply c a (AWrite key value) s h = write_outs P (written c key value) s
  plain_apply c a (AMessage channel bytes) s h = send_outs P c a.serves channel bytes s
  plain_apply c a (AReply bytes) s h = reply_outs P c a.serves bytes s
  plain_apply c a (ARelease gate bytes) s h = absurd h

  plain_after : (c : ℕ) (a : Activation T) (s : State T) (rest : T → State T → Stint T) → ((t : T) (s : State T) → (rest t s).moved.outs ≡ []) → (r : Called T) → IsPlainCall r
      → (after_call P c a s rest r).moved.outs ≡ []
  plain_after c a s rest hyp (Resumed t lines effect) h = ap (λ xs. xs ++ (rest t (apply P c a effect s).state).moved.outs) (plain_apply c a effect s h) ∙ hyp t (apply P c a effect s).state
  plain_after c a s rest hyp (RaisedTo l t) h = refl
  plain_after c a s rest hyp (Refused cause) h = refl

  plain_unit : (c : ℕ) (a : Activation T) (s : State T) (rest : T → State T → Stint T) → ((t : T) (s : State T) → (rest t s).moved.outs ≡ []) → (u : OneUnit T) → (after_unit P M c a s rest u).moved.outs ≡ []
  plain_unit c a s rest hyp (Goes t) = hyp t s
  plain_unit c a s rest hyp (Calls asked t) = plain_after c a s rest hyp (shim P M c a s.store asked t)
      (plain_grant c a s.store t (wish P (M.memory t) asked) (plain_wish (M.memory t) asked.name (slice_index asked.args 0) (slice_index asked.args 1) (slice_index asked.args 2) (slice_index asked.args 3)))
  plain_unit c a s rest hyp Done = refl
  plain_unit c a s rest hyp (Traps cause) = refl

  plain_stint : (c : ℕ) (a : Activation T) (n : ℕ) (t : T) (s : State T) → (stint P M c a n t s).moved.outs ≡ []
  plain_stint c a zero t s = refl
  plain_stint c a (suc n) t s = plain_unit c a s (λ t s. stint P M c a n t s) (λ t s. plain_stint c a n t s) (M.unit a.function (limits_at P c).pages t)

  plain_closing : (c number : ℕ) (a : Activation T) (n : ℕ) (end : End T) (s : State T) → (closing P c number a n end s).outs ≡ []
  plain_closing c number a n Ended s = refl
  plain_closing c number a n (Trapped cause) s = refl
  plain_closing c number a n (Raised l t) s = arrive_outs P l c (record a { thread = Some t }) (leave s c)
  plain_closing c number a n (Spent t) s = of_branch (λ (m : Moved T). m.outs ≡ []) (a.used + n == (limits_at P c).fuel) _ _ refl refl

  plain_run : (c number : ℕ) (a : Activation T) (t : T) (s : State T) → (run P M c number a t s).outs ≡ []
  plain_run c number a t s =
      let r = stint P M c a (given P c a) t s in
      ap (λ xs. xs ++ (closing P c number a (given P c a) r.end r.moved.state).outs) (plain_stint c a (given P c a) t s) ∙ plain_closing c number a (given P c a) r.end r.moved.state

  plain_from : (c number : ℕ) (a : Activation T) (thread : Option T) (s : State T) → (run_from P M c number a thread s).outs ≡ []
  plain_from c number a (Some t) s = plain_run c number a t s
  plain_from c number a None s = of_branch (λ (m : Moved T). m.outs ≡ []) (nat_le (M.minimum a.function) (limits_at P c).pages) _ _ (plain_run c number a (M.begin a.function) s) refl

  plain_front : (c number : ℕ) (xs : List (Activation T)) (s : State T) → (turn_of P M c number xs s).outs ≡ []
  plain_front c number [] s = refl
  plain_front c number (a ∷ others) s = plain_from c number a a.thread s

  no_releases : (s : State T) (e : Event) → releases P M s e ≡ []
  no_releases s (Put label key value) = write_outs P (written label.number key value) s
  no_releases s (Ask label client function id body) = arrive_outs P label.number label.number (fresh function body (Some (record { request = record { label = label.number; number = s.requests label.number + 1 }; client = client; id = id }))) (count_request s label.number)
  no_releases s (Turn label) = plain_front label.number (s.turns label.number + 1) (s.lists label.number) (count_turn s label.number)

  view_alone : (o : ℕ) (s : State T) (events : List Event) → view P M o s events ≡ items_of (visible_events P o events)
  view_alone o s [] = refl
  view_alone o s (e ∷ events) =
      ap (λ v. cond (P.flows (event_label e) o) (Happens e ∷ []) (visible_items P o (releases P M s e)) ++ v) (view_alone o (step P M s (Happens e)).state events)
      ∙ elim (P.flows (event_label e) o) as (λ b. cond b (Happens e ∷ []) (visible_items P o (releases P M s e)) ++ items_of (visible_events P o events) ≡ items_of (cond b (e ∷ visible_events P o events) (visible_events P o events))) [
        | true ↦ refl
        | false ↦ ap (λ outs. visible_items P o outs ++ items_of (visible_events P o events)) (no_releases s e)
      ]

  pub without_releases : IsWithoutReleases P M
  without_releases = record { nothing = no_releases; view_is = view_alone }

  pub noninterfering_alone : IsOrdered P → IsNoninterferingAlone P M
  noninterfering_alone order o w events = subst (SeesTheSame P M o w (items_of events)) (view_alone o (start w) events) (noninterfering P order M o w events)

  pub hides_events_whole : IsOrdered P → HidesEventsWhole P M
  hides_events_whole order o s e hidden regular =
      let h = hides_events P order M o s s e hidden (record { same = same_refl P o s; left = regular; right = regular }) in
      subst (λ items. LooksLike P o (step P M s (Happens e)) (play P M s (visible_items P o items))) (no_releases s e) h
