-- The start.
use Rattle.std.proofs.Common.{◌≡◌, ℕ, zero, suc, List, [], get_or, refl, ◌∙◌, ap}
use Rattle.std.specs.Prelude.{map, replicate, slice_index}
use Rattle.facet_list.specs.Store.{Write}
use Rattle.facet_list.specs.Rows.{Rows, rows_of}
use Rattle.label_queues.specs.Lists.{list_of}
use Rattle.host_rules.specs.States.{start}
use Rattle.trapeze_host.specs.declared.kept.Kept.{Kept}
use Rattle.trapeze_host.specs.Loans.{Loan}
use Rattle.trapeze_host.specs.Keeping.{activation_of, Keeps}
use Rattle.trapeze_host.specs.Requests.{AreNone}

pub all_same : {A : Type 0} (n i : ℕ) (a : A) → get_or (replicate n a) i a ≡ a
all_same zero i a = refl
all_same (suc n) zero a = refl
all_same (suc n) (suc i) a = all_same n i a

-- empty lists, numbers that are 0 and no request stand for the start
pub starts : {F : Type 0} (rows : F → Rows) (loan : Loan) (k : Kept F) (n : ℕ) → k.queues.lists ≡ replicate n [] → k.turns.items ≡ replicate n 0 → AreNone n k.requests
    → (w : List Write) → rows k.facets ≡ rows_of w → Keeps rows loan k (start w)
starts rows loan k n lists turns none w e = record {
  store = e;
  state = λ i. record {
    store = w;
    lists = λ l. ap (map (activation_of loan)) (empty l) i;
    turns = λ l. no_turns l i;
    requests = λ l. none.taken l i;
    answered = λ q. none.answered q i;
  };
}
  where
    empty : (l : ℕ) → list_of k.queues l ≡ []
    empty l = ap (λ ls. get_or ls l []) lists ∙ all_same n l []

    no_turns : (l : ℕ) → slice_index k.turns.items l ≡ 0
    no_turns l = ap (λ ls. slice_index ls l) turns ∙ all_same n l 0
