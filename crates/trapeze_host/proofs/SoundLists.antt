-- What is kept stays sound as one list is set.
use Rattle.std.proofs.Common.{◌≡◌, ℕ, ◌<◌, ◌⊎◌, inl, inr, List, [], length, get_or, sym, ◌∙◌, ap, subst}
use Rattle.std.specs.Prelude.{◌≢◌, All}
use Rattle.std.proofs.Math.ListN.{set}
use Rattle.std.proofs.lemmas.Bool.{cases_eq}
use Rattle.std.proofs.lemmas.List.{get_or-set_same, get_or-set_other, length-set}
use Rattle.label_limits.specs.declared.limits.Limits.{Limits}
use Rattle.label_queues.specs.Lists.{Lists, with_list}
use Rattle.trapeze_host.specs.declared.kept.Activation.{Activation}
use Rattle.trapeze_host.specs.declared.kept.Kept.{Kept}
use Rattle.trapeze_host.specs.Loans.{Loan}
use Rattle.trapeze_host.specs.Keeping.{IsFitActivation, IsSound}

-- the new list of a label is fit, so all is sound
pub sound_list : {F : Type 0} (limits : F → List Limits) (loan : Loan) (k : Kept F) (queues : Lists Activation) (l : ℕ) (xs : List Activation) → IsSound limits loan k → l < length k.queues.lists
    → queues ≡ with_list k.queues l xs → All (IsFitActivation loan k.requests) xs → IsSound limits loan (record k { queues = queues })
sound_list {F} limits loan k queues l xs sound h e fit = subst (λ (q : Lists Activation). IsSound limits loan (record k { queues = q })) (sym e) (record {
  limited = sound.limited;
  stored = sound.stored;
  lists = length-set k.queues.lists l xs ∙ sound.lists;
  queues = sound.queues;
  turns = sound.turns;
  requests = sound.requests;
  room = sound.room;
  fit = λ m. at m (cases_eq m l);
})
  where
    at : (m : ℕ) → (m ≡ l) ⊎ (m ≢ l) → All (IsFitActivation loan k.requests) (get_or (set k.queues.lists l xs) m [])
    at m (inl f) = subst (All (IsFitActivation loan k.requests)) (sym (ap (λ m. get_or (set k.queues.lists l xs) m []) f ∙ get_or-set_same k.queues.lists l xs [] h)) fit
    at m (inr n) = subst (All (IsFitActivation loan k.requests)) (sym (get_or-set_other k.queues.lists l m xs [] n)) (sound.fit m)
