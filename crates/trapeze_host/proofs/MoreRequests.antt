-- What is kept stays sound with other requests, where no request number is below what it was.
use Rattle.std.proofs.Common.{◌≡◌, ℕ, ◌≤◌, List, get_or, ◌∙◌, arith}
use Rattle.label_limits.specs.declared.limits.Limits.{Limits}
use Rattle.label_queues.specs.Lists.{list_of}
use Rattle.trapeze_host.specs.declared.kept.Activation.{Activation}
use Rattle.trapeze_host.specs.declared.kept.Kept.{Kept}
use Rattle.trapeze_host.specs.declared.kept.Serving.{Serving}
use Rattle.trapeze_host.specs.declared.requests.Requests.{Requests}
use Rattle.trapeze_host.specs.Loans.{Loan}
use Rattle.trapeze_host.specs.declared.runs.Run.{Run}
use Rattle.trapeze_host.specs.Keeping.{IsServed, IsFitActivation, IsSound, HasSameNumbers, KeepsMembers}
use Rattle.trapeze_host.specs.Turning.{IsRun}
use Rattle.trapeze_host.specs.Requests.{labels_of, taken_of, HasRoom}

-- no request number is below what it was
abbrev pub AreMore : Requests → Requests → Type 0
AreMore before after = (l : ℕ) → taken_of before l ≤ taken_of after l

module _ (loan : Loan) (r t : Requests) (more : AreMore r t) where
  pub served_more : (x : Serving) → IsServed loan r x → IsServed loan t x
  served_more x h = record {
    client = h.client;
    label = h.label;
    request = record { from_one = h.request.from_one; to_last = omega (arith, h.request.to_last, more x.request.label.number) };
  }

  pub fit_more : (a : Activation) → IsFitActivation loan r a → IsFitActivation loan t a
  fit_more a h = record { function = h.function; input = h.input; serves = λ x e. served_more x (h.serves x e); ready = h.ready }

pub sound_more : {F : Type 0} (limits : F → List Limits) (loan : Loan) (k : Kept F) (t : Requests) → IsSound limits loan k → AreMore k.requests t → labels_of t ≡ labels_of k.requests → HasRoom t
    → IsSound limits loan (record k { requests = t })
sound_more limits loan k t sound more labels room = record {
  limited = sound.limited;
  stored = sound.stored;
  lists = sound.lists;
  queues = sound.queues;
  turns = sound.turns;
  requests = omega (arith, labels, sound.requests);
  room = room;
  fit = λ l i d b. fit_more loan k.requests t more (get_or (list_of k.queues l) i d) (sound.fit l i d b);
}

pub run_more : (loan : Loan) (r t : Requests) → AreMore r t → (run : Run) → IsRun loan r run → IsRun loan t run
run_more loan r t more run h = record { at = h.at; function = h.function; input = h.input; serves = λ x e. served_more loan r t more x (h.serves x e) }

-- the same numbers are no lower
pub same_more : {F : Type 0} (k j : Kept F) → HasSameNumbers k j → AreMore k.requests j.requests
same_more k j same = λ l. omega (arith, same.requests l)

pub numbers_then : {F : Type 0} (k i j : Kept F) → HasSameNumbers k i → HasSameNumbers i j → HasSameNumbers k j
numbers_then k i j x y = record { turns = λ l. y.turns l ∙ x.turns l; requests = λ l. y.requests l ∙ x.requests l }

pub members_then : {F : Type 0} (k i j : Kept F) → KeepsMembers k i → KeepsMembers i j → KeepsMembers k j
members_then k i j x y = λ l. omega (arith, x l, y l)
