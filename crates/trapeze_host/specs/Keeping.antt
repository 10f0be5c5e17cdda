-- What the host keeps, and the state that it stands for.
use Rattle.std.specs.Prelude.{◌≡◌, ℕ, ◌<◌, ◌≤◌, ◌+◌, ◌^◌, Bool, false, List, ◌++◌, All, Result, MatchResult}
use Rattle.std.specs.Prelude.{map, option_map, length, slice_index}
use Rattle.std.specs.Option.{ForSome}
use Rattle.trapeze_io.specs.declared.failures.NoMemory.{NoMemory}
use Rattle.label_lattice.specs.Order.{count}
use Rattle.label_limits.specs.declared.limits.Limits.{Limits}
use Rattle.label_queues.specs.Lists.{list_of}
use Rattle.facet_list.specs.Store.{Write}
use Rattle.facet_list.specs.Rows.{Rows, rows_of}
use Rattle.trapeze_lines.specs.declared.line.Line.{Line}
use Rattle.wasm_semantics.specs.Threads.{Thread}
use Rattle.sandbox.specs.Threads.{thread_of, IsReady}
use Rattle.host_rules.specs.States as rules
use Rattle.host_rules.specs.Regular.{IsTaken}
use Rattle.trapeze_io.specs.Sizes.{longest_value}
use Rattle.trapeze_host.specs.declared.kept.Serving.{Serving}
use Rattle.trapeze_host.specs.declared.kept.Activation.{Activation}
use Rattle.trapeze_host.specs.declared.kept.Kept.{Kept}
use Rattle.trapeze_host.specs.declared.requests.Requests.{Requests}
use Rattle.trapeze_host.specs.Adding.{AddsPart}
use Rattle.trapeze_host.specs.Loans.{Loan, module_in}
use Rattle.trapeze_host.specs.Requests.{request_of, labels_of, taken_of, answered_of, HasRoom}

-- what an activation serves, as the rules see it
abbrev pub serving_of : Serving → rules.Serving
serving_of x = record { request = request_of x.request; client = x.client; id = x.id }

-- an activation as the rules see it: its thread is that of its sandbox
abbrev pub activation_of : Loan → Activation → rules.Activation Thread
activation_of loan a = record {
  function = a.function;
  input = a.input;
  serves = option_map serving_of a.serves;
  thread = option_map (thread_of (module_in loan a.function)) a.sandbox;
  used = a.used;
}

-- the state of what is kept, with the writes that the store comes from
abbrev pub state_of : {F : Type 0} → Loan → List Write → Kept F → rules.State Thread
state_of loan w k = record {
  store = w;
  lists = λ l. map (activation_of loan) (list_of k.queues l);
  turns = slice_index k.turns.items;
  requests = taken_of k.requests;
  answered = answered_of k.requests;
}

-- what is kept stands for this state: the rows of its store are those of the writes
pub record Keeps {F : Type 0} (rows : F → Rows) (loan : Loan) (k : Kept F) (s : rules.State Thread) : Type 0 where
  pub store : rows k.facets ≡ rows_of s.store
  pub state : state_of loan s.store k ≡ s

-- the move was made: what is kept stands for the state after it, and its lines were appended
pub record Made {F : Type 0} (rows : F → Rows) (loan : Loan) (m : rules.Moved Thread) (k : Kept F)
    (before after : List Line) : Type 0 where
  pub keeps : Keeps rows loan k m.state
  pub lines : after ≡ before ++ m.lines

-- the move was made; or, out of memory, the first of its lines were appended
abbrev pub Makes :
    {F X : Type 0} → (F → Rows) → Loan → Result X NoMemory → rules.Moved Thread → Kept F → List Line → List Line → Type 0
Makes rows loan result m k before after =
    MatchResult result (λ _. Made rows loan m k before after) (λ _. AddsPart m.lines before after)

-- the store has the write of the move already, and all else that is kept stands for this state
pub record IsWritten {F : Type 0} (rows : F → Rows) (loan : Loan) (k : Kept F) (s : rules.State Thread)
    (m : rules.Moved Thread) : Type 0 where
  pub store : rows k.facets ≡ rows_of m.state.store
  pub state : state_of loan s.store k ≡ s

-- from each state that what is kept stood for, its move was made; or, out of memory, the first of its lines were appended
abbrev pub MakesFrom :
    {F X : Type 0} → (F → Rows) → Loan → Result X NoMemory → Kept F → Kept F → List Line → List Line
    → (rules.State Thread → rules.Moved Thread) → Type 0
MakesFrom rows loan result k j before after move =
    (s : rules.State Thread) → Keeps rows loan k s → Makes rows loan result (move s) j before after

-- the same of a move whose write the store has already
abbrev pub CompletesFrom :
    {F X : Type 0} → (F → Rows) → Loan → Result X NoMemory → Kept F → Kept F → List Line → List Line
    → (rules.State Thread → rules.Moved Thread) → Type 0
CompletesFrom rows loan result k j before after move =
    (s : rules.State Thread) → IsWritten rows loan k s (move s) → Makes rows loan result (move s) j before after

-- a request that was taken, of one of the clients
pub record IsServed (loan : Loan) (requests : Requests) (x : Serving) : Type 0 where
  pub client : x.client < length loan.policy.clients
  pub label : x.request.label.number < count loan.policy.lattice
  pub request : IsTaken (taken_of requests) (request_of x.request)

-- an activation of one of the functions, whose sandbox can go on
pub record IsFitActivation (loan : Loan) (requests : Requests) (a : Activation) : Type 0 where
  pub function : a.function < length loan.policy.functions
  pub input : length a.input ≤ longest_value
  pub serves : ForSome a.serves (IsServed loan requests)
  pub ready : ForSome a.sandbox (IsReady (module_in loan a.function))

-- what is kept is for this policy
pub record IsSound {F : Type 0} (limits : F → List Limits) (loan : Loan) (k : Kept F) : Type 0 where
  pub limited : length loan.policy.limits ≡ count loan.policy.lattice
  pub stored : limits k.facets ≡ loan.policy.limits
  pub lists : length k.queues.lists ≡ count loan.policy.lattice
  pub queues : k.queues.limits ≡ map (λ l. l.queue) loan.policy.limits
  pub turns : length k.turns.items ≡ count loan.policy.lattice
  pub requests : labels_of k.requests ≡ count loan.policy.lattice
  pub room : HasRoom k.requests
  pub fit : (l : ℕ) → All (IsFitActivation loan k.requests) (list_of k.queues l)

-- turn and request numbers are the same
pub record HasSameNumbers {F : Type 0} (before after : Kept F) : Type 0 where
  pub turns : (l : ℕ) → slice_index after.turns.items l ≡ slice_index before.turns.items l
  pub requests : (l : ℕ) → taken_of after.requests l ≡ taken_of before.requests l

-- no turn or request number is more than one above what it was
pub record RaisesNumbers {F : Type 0} (before after : Kept F) : Type 0 where
  pub turns : (l : ℕ) → slice_index after.turns.items l ≤ slice_index before.turns.items l + 1
  pub requests : (l : ℕ) → taken_of after.requests l ≤ taken_of before.requests l + 1

-- turn and request numbers may be raised
pub record MayBeRaised {F : Type 0} (k : Kept F) : Type 0 where
  pub turns : (l : ℕ) → slice_index k.turns.items l < 2 ^ 62
  pub requests : (l : ℕ) → taken_of k.requests l < 2 ^ 62

-- no turn or request number is above n
pub record AreCounted {F : Type 0} (n : ℕ) (k : Kept F) : Type 0 where
  pub turns : (l : ℕ) → slice_index k.turns.items l ≤ n
  pub requests : (l : ℕ) → taken_of k.requests l ≤ n

-- no list is shorter
abbrev pub KeepsMembers : {F : Type 0} → Kept F → Kept F → Type 0
KeepsMembers before after = (l : ℕ) → length (list_of before.queues l) ≤ length (list_of after.queues l)

-- what a host is, as contracts see it
pub record HostParts (F : Type 0) : Type 0 where
  pub lent : Loan
  pub kept : Kept F
  pub spent : Bool
  pub played : ℕ

-- what holds of every host: what is kept is for what was lent, and no number is above the count of events
pub record IsHeld {F : Type 0} (limits : F → List Limits) (h : HostParts F) : Type 0 where
  pub sound : IsSound limits h.lent h.kept
  pub counted : h.spent ≡ false → AreCounted h.played h.kept
