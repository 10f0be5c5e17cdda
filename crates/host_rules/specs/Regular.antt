-- Regular states: what holds of the requests in every state that the rules lead to.
use Rattle.std.specs.Prelude.{◌≡◌, ℕ, ◌<◌, ◌≤◌, true}
use Rattle.host_rules.specs.Rules.{Rules}
use Rattle.host_rules.specs.States.{Request, Serving, State, Serves}

-- the request has a number from 1 to its label's request number
pub record IsTaken (requests : ℕ → ℕ) (r : Request) : Type 0 where
  pub from_one : 0 < r.number
  pub to_last : r.number ≤ requests r.label

-- a regular state
pub record IsRegular {T : Type 0} (P : Rules) (s : State T) : Type 0 where
  -- the request of each activation that has one is counted
  pub taken : (l : ℕ) (x : Serving) → Serves s l x → IsTaken s.requests x.request
  -- and each answered request
  pub answered : (r : Request) → s.answered r ≡ true → IsTaken s.requests r
  -- activations of one request have one client and one id
  pub one_client : (l m : ℕ) (x y : Serving) → Serves s l x → Serves s m y → x.request ≡ y.request → x ≡ y
  -- a request's label flows to the label of each of its activations
  pub upwards : (l : ℕ) (x : Serving) → Serves s l x → P.flows x.request.label l ≡ true
