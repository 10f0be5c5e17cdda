-- Which calls of a form in memory fail, and how much its calls move.
use Rattle.std.specs.Prelude.{◌==◌, ℕ, Bool, List, [], IsTrue}
use Rattle.std.specs.List.{list_any}
use Rattle.trapeze_io.specs.Causes.{one_more}

-- the numbers, from 1, of the calls that fail, how many calls were made, and the most bytes that one moves
pub record Plan : Type 0 where
  pub failing : List ℕ
  pub calls : ℕ
  pub most : ℕ

-- no call fails, none was made, and one moves as many bytes as it can
abbrev pub no_plan : ℕ → Plan
no_plan most = record { failing = []; calls = 0; most = most }

-- one more call was made
abbrev pub after_call : Plan → Plan
after_call plan = record plan { calls = one_more plan.calls }

-- whether the number of the next call is one of those that fail
abbrev pub fails_next : Plan → Bool
fails_next plan = list_any (λ call. call == one_more plan.calls) plan.failing

abbrev pub FailsNext : Plan → Type 0
FailsNext plan = IsTrue (fails_next plan)
