-- Steps that are made one after the other.
use Rattle.std.proofs.Common.{◌≡◌, ◌<◌, ◌+◌, ℕ, Bool, List, [], ◌∷◌, ◌++◌, length, get_or, take, refl, sym, ap, ◌∙◌}
use Rattle.std.proofs.lemmas.List.{take_more}
use Rattle.label_limits.specs.declared.limits.Limits.{Limits}
use Rattle.facet_list.specs.Rows.{Rows}
use Rattle.facet_index.specs.declared.steps.StoreStep.{StoreStep}
use Rattle.facet_index.specs.Steps.{rows_step, rows_played, answer_of, answers_of}

-- one more step
pub rows_played-push : (limits : List Limits) (rows : Rows) (steps : List StoreStep) (step : StoreStep) → rows_played limits rows (steps ++ step ∷ []) ≡ rows_step limits (rows_played limits rows steps) step
rows_played-push limits rows [] step = refl
rows_played-push limits rows (first ∷ steps) step = rows_played-push limits (rows_step limits rows first) steps step

pub answers_of-push : (flows : ℕ → ℕ → Bool) (limits : List Limits) (rows : Rows) (steps : List StoreStep) (step : StoreStep)
    → answers_of flows limits rows (steps ++ step ∷ []) ≡ answers_of flows limits rows steps ++ answer_of flows limits (rows_played limits rows steps) step ∷ []
answers_of-push flows limits rows [] step = refl
answers_of-push flows limits rows (first ∷ steps) step = ap (λ rest. answer_of flows limits rows first ∷ rest) (answers_of-push flows limits (rows_step limits rows first) steps step)

-- the first steps and one more
pub step_more : (steps : List StoreStep) (i : ℕ) (step : StoreStep) → i < length steps → step ≡ get_or steps i step → take (i + 1) steps ≡ take i steps ++ step ∷ []
step_more steps i step lt is = take_more steps i step lt ∙ ap (λ s. take i steps ++ s ∷ []) (sym is)

-- the rows after one more step
pub rows_more : (limits now_limits : List Limits) (start now after : Rows) (steps : List StoreStep) (i : ℕ) (step : StoreStep) → i < length steps → step ≡ get_or steps i step
    → now_limits ≡ limits → now ≡ rows_played limits start (take i steps) → after ≡ rows_step now_limits now step → after ≡ rows_played limits start (take (i + 1) steps)
rows_more limits now_limits start now after steps i step lt is same made stepped =
    stepped ∙ ap (λ ls. rows_step ls now step) same ∙ ap (λ rs. rows_step limits rs step) made ∙ sym (rows_played-push limits start (take i steps) step) ∙ ap (rows_played limits start) (sym (step_more steps i step lt is))
