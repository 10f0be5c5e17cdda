-- Writes, arrivals, messages, replies and releases, each by the label of what it does.
use Rattle.std.proofs.Common.{◌≡◌, ℕ, true, false, cond, List, [], ◌∷◌, length, Option, Some, None, Contains, refl, sym, ◌∙◌, ap}
use Rattle.std.specs.Prelude.{not, ◌&&◌, nat_lt}
use Rattle.std.proofs.lemmas.List.{append-nil}
use Rattle.facet_list.specs.Store.{Write, written}
use Rattle.labelled_channel.specs.declared.channels.Channel.{Channel}
use Rattle.gate_rules.specs.declared.gate.Gate.{Gate}
use Rattle.trapeze_lines.specs.declared.line.Kind.TheVariants as kind
use Rattle.trapeze_lines.specs.Lines.{line_at}
use Rattle.host_rules.specs.Guests.{Guest}
use Rattle.host_rules.specs.Rules.{Rules, IsOrdered, label_of, limits_at, function_name, client_name, clearance}
use Rattle.host_rules.specs.States.{Serving, Activation, fresh, State, answer, Out, Moved, still, told, then_move, id_of}
use Rattle.host_rules.specs.Stores.{fits}
use Rattle.host_rules.specs.Calls.{Effect, Nothing, AWrite, AMessage, AReply, ARelease}
use Rattle.host_rules.specs.Effects.{write, arrive, send, reply, let_in, apply}
use Rattle.host_rules.specs.Play.{play}
use Rattle.host_rules.specs.Regular.{IsRegular}
use Rattle.host_rules.specs.Views.{visible, Same}
use Rattle.host_rules.proofs.SetAt.{of_branch}
use Rattle.host_rules.proofs.Stores.{fits_alike}
use Rattle.host_rules.proofs.Changes.{none_some, IsSound, sound_none, sound_here, sound_above, kept_push, regular_push, hidden_push, seen_push, regular_keep, hidden_keep, seen_keep, regular_answer, hidden_answer, seen_answer}
use Rattle.host_rules.proofs.SameToObserver.{hidden_above, hidden_line, Agree, same_refl, agree_still, agree_trans, agree_branch, either_way, Follows, follows_quiet, follows_still, follows_branch}

module _ {T : Type 0} (P : Rules) (o : ℕ) where
  -- an arrival
  pub hidden_arrive : (l m : ℕ) (a : Activation T) (s : State T) → P.flows l o ≡ false → IsRegular P s → IsSound P s l a.serves → Agree P o (arrive P l m a s) (still s)
  hidden_arrive l m a s hidden regular sound = of_branch (λ x. Agree P o x (still s)) (nat_lt (length (s.lists l)) (limits_at P l).queue) _ _
      (record {
        same = hidden_push P o s l (record a { used = 0 }) hidden;
        left = regular_push P s l (record a { used = 0 }) regular sound;
        right = regular;
        lines = hidden_line P o (line_at l (kind.Start (label_of m) (function_name P a.function) (id_of a))) hidden;
      })
      (record { same = same_refl P o s; left = regular; right = regular; lines = hidden_line P o (line_at l (kind.Dropped (function_name P a.function) (id_of a))) hidden })

  -- of what is served, the same is answered
  abbrev pub AreAlikeFor : Option Serving → State T → State T → Type 0
  AreAlikeFor serves s t = (x : Serving) → serves ≡ Some x → P.flows (clearance P x.client) o ≡ true → s.answered x.request ≡ t.answered x.request

  pub alike_here : (c : ℕ) (a : Activation T) (s t : State T) → P.flows c o ≡ true → Same P o s t → Contains (s.lists c) a → AreAlikeFor a.serves s t
  alike_here c a s t seen same here x e g = same.answered c x seen (record { activation = a; listed = here; serves = e }) g

  pub any_arrive : (l m : ℕ) (a : Activation T) (s t : State T) → Same P o s t → IsRegular P s → IsRegular P t → IsSound P s l a.serves → IsSound P t l a.serves → AreAlikeFor a.serves s t
      → Agree P o (arrive P l m a s) (arrive P l m a t)
  any_arrive l m a s t same left right ls rs alike = either_way P o l (arrive P l m a s) (arrive P l m a t) s t same left right
      (λ e. hidden_arrive l m a s e left ls) (λ e. hidden_arrive l m a t e right rs)
      (λ e. agree_branch P o (nat_lt (length (s.lists l)) (limits_at P l).queue) (nat_lt (length (t.lists l)) (limits_at P l).queue) _ _ _ _
      (ap (λ (xs : List (Activation T)). nat_lt (length xs) (limits_at P l).queue) (same.lists l e))
      (record {
        same = seen_push P o s t l (record a { used = 0 }) same alike;
        left = regular_push P s l (record a { used = 0 }) left ls;
        right = regular_push P t l (record a { used = 0 }) right rs;
        lines = refl;
      })
      (record { same = same; left = left; right = right; lines = refl }))

  -- a write
  pub hidden_write : (x : Write) (s : State T) → P.flows x.label o ≡ false → IsRegular P s → Agree P o (write P x s) (still s)
  hidden_write x s hidden regular = of_branch (λ m. Agree P o m (still s)) (fits P s.store x) _ _
      (record { same = hidden_keep P o s x hidden; left = regular_keep P s x regular; right = regular; lines = hidden_line P o (line_at x.label (kind.Write x.key x.value)) hidden })
      (record { same = same_refl P o s; left = regular; right = regular; lines = hidden_line P o (line_at x.label (kind.Full x.key)) hidden })

  pub seen_write : (x : Write) (s t : State T) → P.flows x.label o ≡ true → Same P o s t → IsRegular P s → IsRegular P t → Agree P o (write P x s) (write P x t)
  seen_write x s t seen same left right = agree_branch P o (fits P s.store x) (fits P t.store x) _ _ _ _ (fits_alike P o s.store t.store x seen same.store)
      (record { same = seen_keep P o s t x seen same; left = regular_keep P s x left; right = regular_keep P t x right; lines = refl })
      (record { same = same; left = left; right = right; lines = refl })

  -- a reply that reaches a hidden client, and one to any client
  abbrev reply_told : Serving → List ℕ → State T → Moved T
  reply_told x bytes s = told (line_at (clearance P x.client) (kind.Reply (client_name P x.client) x.id bytes)) (answer s x.request)

  hidden_told : (l : ℕ) (x : Serving) (bytes : List ℕ) (s : State T) → P.flows (clearance P x.client) o ≡ false → IsRegular P s → IsSound P s l (Some x) → Agree P o (reply_told x bytes s) (still s)
  hidden_told l x bytes s hidden regular sound = record {
    same = hidden_answer P o s x (sound.one_client x refl) hidden;
    left = regular_answer P s x.request regular (sound.taken x refl);
    right = regular;
    lines = hidden_line P o (line_at (clearance P x.client) (kind.Reply (client_name P x.client) x.id bytes)) hidden;
  }

  hidden_reply : (c : ℕ) (x : Serving) (bytes : List ℕ) (s : State T) → P.flows (clearance P x.client) o ≡ false → IsRegular P s → IsSound P s c (Some x) → Agree P o (reply P c (Some x) bytes s) (still s)
  hidden_reply c x bytes s hidden regular sound = of_branch (λ m. Agree P o m (still s)) (P.flows c (clearance P x.client) && not (s.answered x.request)) _ _
      (hidden_told c x bytes s hidden regular sound) (agree_still P o s s (same_refl P o s) regular regular)

  pub any_reply : (c : ℕ) (serves : Option Serving) (bytes : List ℕ) (s t : State T) → Same P o s t → IsRegular P s → IsRegular P t → IsSound P s c serves → IsSound P t c serves → AreAlikeFor serves s t
      → Agree P o (reply P c serves bytes s) (reply P c serves bytes t)
  any_reply c None bytes s t same left right ls rs alike = agree_still P o s t same left right
  any_reply c (Some x) bytes s t same left right ls rs alike = either_way P o (clearance P x.client) (reply P c (Some x) bytes s) (reply P c (Some x) bytes t) s t same left right
      (λ e. hidden_reply c x bytes s e left ls) (λ e. hidden_reply c x bytes t e right rs)
      (λ e. agree_branch P o (P.flows c (clearance P x.client) && not (s.answered x.request)) (P.flows c (clearance P x.client) && not (t.answered x.request)) _ _ _ _
      (ap (λ b. P.flows c (clearance P x.client) && not b) (alike x refl e))
      (record {
        same = seen_answer P o s t x.request same;
        left = regular_answer P s x.request left (ls.taken x refl);
        right = regular_answer P t x.request right (rs.taken x refl);
        lines = refl;
      })
      (agree_still P o s t same left right))

  -- a release arrives the same in both, from whatever label
  pub any_let_in : (gate : Gate) (bytes : List ℕ) (s t : State T) → Same P o s t → IsRegular P s → IsRegular P t → Agree P o (let_in P gate bytes s) (let_in P gate bytes t)
  any_let_in gate bytes s t same left right = any_arrive gate.target.number gate.source.number (fresh gate.function bytes None) s t same left right
      (sound_none P s gate.target.number) (sound_none P t gate.target.number) (λ x e. none_some e)

  -- an effect at a visible label
  pub seen_apply : IsOrdered P → (c : ℕ) (a : Activation T) (e : Effect) (s t : State T) → P.flows c o ≡ true → Same P o s t → IsRegular P s → IsRegular P t → Contains (s.lists c) a → Contains (t.lists c) a
      → Agree P o (apply P c a e s) (apply P c a e t)
  seen_apply order c a Nothing s t seen same left right ls rs = agree_still P o s t same left right
  seen_apply order c a (AWrite key value) s t seen same left right ls rs = seen_write (written c key value) s t seen same left right
  seen_apply order c a (AMessage channel bytes) s t seen same left right ls rs =
      let l = channel.at.number in
      let new : Activation T = fresh channel.function bytes a.serves in
      elim (P.flows c l) as (λ b. P.flows c l ≡ b → Agree P o (cond b (arrive P l c new s) (still s)) (cond b (arrive P l c new t) (still t))) [
        | true ↦ λ up. any_arrive l c new s t same left right
            (sound_above P order s c l a.serves up (sound_here P s left c a ls))
            (sound_above P order t c l a.serves up (sound_here P t right c a rs))
            (alike_here c a s t seen same ls)
        | false ↦ λ up. agree_still P o s t same left right
      ] refl
  seen_apply order c a (AReply bytes) s t seen same left right ls rs =
      any_reply c a.serves bytes s t same left right (sound_here P s left c a ls) (sound_here P t right c a rs) (alike_here c a s t seen same ls)
  seen_apply order c a (ARelease gate bytes) s t seen same left right ls rs =
      agree_branch P o (P.flows c gate.source.number) (P.flows c gate.source.number) _ _ _ _ refl
      (let h = any_let_in gate bytes s t same left right in record { same = h.same; left = h.left; right = h.right; lines = h.lines })
      (agree_still P o s t same left right)

-- nothing is released
module _ {T : Type 0} (P : Rules) where
  pub arrive_outs : (l m : ℕ) (a : Activation T) (s : State T) → (arrive P l m a s).outs ≡ []
  arrive_outs l m a s = of_branch (λ (x : Moved T). x.outs ≡ []) (nat_lt (length (s.lists l)) (limits_at P l).queue) _ _ refl refl

  pub write_outs : (x : Write) (s : State T) → (write P x s).outs ≡ []
  write_outs x s = of_branch (λ (m : Moved T). m.outs ≡ []) (fits P s.store x) _ _ refl refl

  pub reply_outs : (c : ℕ) (serves : Option Serving) (bytes : List ℕ) (s : State T) → (reply P c serves bytes s).outs ≡ []
  reply_outs c None bytes s = refl
  reply_outs c (Some x) bytes s = of_branch (λ (m : Moved T). m.outs ≡ []) (P.flows c (clearance P x.client) && not (s.answered x.request)) _ _ refl refl

  pub send_outs : (c : ℕ) (serves : Option Serving) (channel : Channel) (bytes : List ℕ) (s : State T) → (send P c serves channel bytes s).outs ≡ []
  send_outs c serves channel bytes s = of_branch (λ (m : Moved T). m.outs ≡ []) (P.flows c channel.at.number) _ _ (arrive_outs channel.at.number c (fresh channel.function bytes serves) s) refl

-- the running activation stays
module _ {T : Type 0} (P : Rules) (m : ℕ) (x : Activation T) where
  abbrev IsListed : Moved T → Type 0
  IsListed y = Contains (y.state.lists m) x

  kept_arrive : (l k : ℕ) (a : Activation T) (s : State T) → Contains (s.lists m) x → IsListed (arrive P l k a s)
  kept_arrive l k a s h = of_branch IsListed (nat_lt (length (s.lists l)) (limits_at P l).queue) _ _ (kept_push s l (record a { used = 0 }) m x h) h

  kept_reply : (c : ℕ) (serves : Option Serving) (bytes : List ℕ) (s : State T) → Contains (s.lists m) x → IsListed (reply P c serves bytes s)
  kept_reply c None bytes s h = h
  kept_reply c (Some y) bytes s h = of_branch IsListed (P.flows c (clearance P y.client) && not (s.answered y.request)) _ _ h h

  pub kept_apply : (c : ℕ) (a : Activation T) (e : Effect) (s : State T) → Contains (s.lists m) x → Contains ((apply P c a e s).state.lists m) x
  kept_apply c a Nothing s h = h
  kept_apply c a (AWrite key value) s h = of_branch IsListed (fits P s.store (written c key value)) _ _ h h
  kept_apply c a (AMessage channel bytes) s h = of_branch IsListed (P.flows c channel.at.number) _ _ (kept_arrive channel.at.number c (fresh channel.function bytes a.serves) s h) h
  kept_apply c a (AReply bytes) s h = kept_reply c a.serves bytes s h
  kept_apply c a (ARelease gate bytes) s h = of_branch IsListed (P.flows c gate.source.number) _ _ (kept_arrive gate.target.number gate.source.number (fresh gate.function bytes None) s h) h

-- what is hidden is followed by its visible releases
module _ {T : Type 0} (P : Rules) (o : ℕ) (M : Guest T) where
  pub arrive_follows : (l m : ℕ) (a : Activation T) (s : State T) → P.flows l o ≡ false → IsRegular P s → IsSound P s l a.serves → Follows P o M (arrive P l m a s) s
  arrive_follows l m a s hidden regular sound = follows_quiet P o M (arrive P l m a s) s (arrive_outs P l m a s) (hidden_arrive P o l m a s hidden regular sound)

  pub write_follows : (x : Write) (s : State T) → P.flows x.label o ≡ false → IsRegular P s → Follows P o M (write P x s) s
  write_follows x s hidden regular = follows_quiet P o M (write P x s) s (write_outs P x s) (hidden_write P o x s hidden regular)

  pub let_in_follows : (gate : Gate) (bytes : List ℕ) (s : State T) → P.flows gate.target.number o ≡ false → IsRegular P s → Follows P o M (let_in P gate bytes s) s
  let_in_follows gate bytes s hidden regular =
      arrive_follows gate.target.number gate.source.number (fresh gate.function bytes None) s hidden regular (sound_none P s gate.target.number)

  -- a release, by itself in what is played
  abbrev let_out : Gate → List ℕ → State T → Moved T
  let_out gate bytes s = record (let_in P gate bytes s) { outs = Out gate bytes ∷ [] }

  played_one : (x y : Moved T) → Agree P o x y → Agree P o x (then_move y (still y.state))
  played_one x y h = record { same = h.same; left = h.left; right = h.right; lines = h.lines ∙ ap (visible P o) (sym (append-nil y.lines)) }

  released_follows : (gate : Gate) (bytes : List ℕ) (s : State T) → IsRegular P s → Follows P o M (let_out gate bytes s) s
  released_follows gate bytes s regular = record {
    regular = (any_let_in P o gate bytes s s (same_refl P o s) regular regular).left;
    shows = λ t same right. elim (P.flows gate.target.number o) as (λ b. P.flows gate.target.number o ≡ b → Agree P o (let_out gate bytes s) (play P M t (cond b (Out gate bytes ∷ []) []))) [
      | true ↦ λ e. played_one (let_out gate bytes s) (let_in P gate bytes t) (retold (let_in P gate bytes t) (any_let_in P o gate bytes s t same regular right))
      | false ↦ λ e. retold (still t) (agree_trans P o (let_in P gate bytes s) (still s) (still t)
          (hidden_arrive P o gate.target.number gate.source.number (fresh gate.function bytes None) s e regular (sound_none P s gate.target.number)) (agree_still P o s t same regular right))
    ] refl;
  }
    where
      retold : (y : Moved T) → Agree P o (let_in P gate bytes s) y → Agree P o (let_out gate bytes s) y
      retold y h = record { same = h.same; left = h.left; right = h.right; lines = h.lines }

  reply_follows : IsOrdered P → (c : ℕ) (serves : Option Serving) (bytes : List ℕ) (s : State T) → P.flows c o ≡ false → IsRegular P s → IsSound P s c serves → Follows P o M (reply P c serves bytes s) s
  reply_follows order c None bytes s hidden regular sound = follows_still P o M s regular
  reply_follows order c (Some x) bytes s hidden regular sound =
      elim (P.flows c (clearance P x.client)) as (λ b. P.flows c (clearance P x.client) ≡ b → Follows P o M (cond (b && not (s.answered x.request)) (answered x) (still s)) s) [
        | true ↦ λ up. follows_branch P o M (not (s.answered x.request)) (answered x) (still s) s
            (follows_quiet P o M (answered x) s refl (hidden_told P o c x bytes s (hidden_above P order o c (clearance P x.client) up hidden) regular sound))
            (follows_still P o M s regular)
        | false ↦ λ up. follows_still P o M s regular
      ] refl
    where
      answered : Serving → Moved T
      answered x = told (line_at (clearance P x.client) (kind.Reply (client_name P x.client) x.id bytes)) (answer s x.request)

  -- an effect at a hidden label
  pub hidden_apply : IsOrdered P → (c : ℕ) (a : Activation T) (e : Effect) (s : State T) → P.flows c o ≡ false → IsRegular P s → Contains (s.lists c) a → Follows P o M (apply P c a e s) s
  hidden_apply order c a Nothing s hidden regular here = follows_still P o M s regular
  hidden_apply order c a (AWrite key value) s hidden regular here = write_follows (written c key value) s hidden regular
  hidden_apply order c a (AMessage channel bytes) s hidden regular here =
      let l = channel.at.number in
      let new : Activation T = fresh channel.function bytes a.serves in
      elim (P.flows c l) as (λ b. P.flows c l ≡ b → Follows P o M (cond b (arrive P l c new s) (still s)) s) [
        | true ↦ λ up. arrive_follows l c new s (hidden_above P order o c l up hidden) regular (sound_above P order s c l a.serves up (sound_here P s regular c a here))
        | false ↦ λ up. follows_still P o M s regular
      ] refl
  hidden_apply order c a (AReply bytes) s hidden regular here = reply_follows order c a.serves bytes s hidden regular (sound_here P s regular c a here)
  hidden_apply order c a (ARelease gate bytes) s hidden regular here =
      follows_branch P o M (P.flows c gate.source.number) (let_out gate bytes s) (still s) s (released_follows gate bytes s regular) (follows_still P o M s regular)
