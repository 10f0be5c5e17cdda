-- A turn: the activation that runs, and what is owed of its stint.
use Rattle.std.specs.Prelude.{◌≡◌, ℕ, ◌<◌, ◌≤◌, List, ◌++◌, Option, Some, None, Result, Ok, Err}
use Rattle.std.specs.Prelude.{option_map, length}
use Rattle.std.specs.Option.{ForSome}
use Rattle.trapeze_io.specs.declared.failures.NoMemory.{NoMemory}
use Rattle.label_lattice.specs.Order.{count}
use Rattle.facet_list.specs.Rows.{Rows}
use Rattle.trapeze_lines.specs.declared.line.Line.{Line}
use Rattle.trapeze_lines.specs.declared.outcome.Outcome.{Outcome}
use Rattle.wasm_ast.specs.declared.modules.Module.{Module}
use Rattle.wasm_ast.specs.Spaces.{first_pages}
use Rattle.wasm_semantics.specs.Threads.{Thread}
use Rattle.wasm_semantics.specs.Begin.{begin}
use Rattle.sandbox.specs.declared.sandboxes.Sandbox.{Sandbox}
use Rattle.sandbox.specs.declared.suspended.Suspended.{Suspended}
use Rattle.sandbox.specs.Threads.{thread_of, waiting, asked_of, IsReady}
use Rattle.sandbox.specs.declared.going.Begun.{Begun}
use Rattle.sandbox.specs.declared.going.Begun.TheVariants as begun
use Rattle.host_rules.specs.States as rules
use Rattle.host_rules.specs.Calls.{shim, answer_lines}
use Rattle.host_rules.specs.Effects.{reply}
use Rattle.host_rules.specs.Turns as turns
use Rattle.trapeze_io.specs.Sizes.{longest_value}
use Rattle.shim_calls.specs.declared.effect.Effect.{Effect}
use Rattle.shim_calls.specs.Performing.{asked_in, made}
use Rattle.trapeze_host.specs.declared.kept.Kept.{Kept}
use Rattle.trapeze_host.specs.declared.requests.Requests.{Requests}
use Rattle.trapeze_host.specs.declared.runs.Run.{Run}
use Rattle.trapeze_host.specs.declared.runs.Ending.{Ending}
use Rattle.trapeze_host.specs.declared.runs.Ending.TheVariants as ending
use Rattle.trapeze_host.specs.declared.runs.Reached.{Reached}
use Rattle.trapeze_host.specs.declared.runs.Reached.TheVariants as reached
use Rattle.trapeze_host.specs.Adding.{AddsPart}
use Rattle.trapeze_host.specs.Loans.{Loan, rules_in, guest_in, module_in}
use Rattle.trapeze_host.specs.Keeping.{serving_of, Keeps, IsServed}

-- the activation of a run, with the thread that it had before
abbrev pub run_of : Option Thread → Run → rules.Activation Thread
run_of before r = record {
  function = r.function;
  input = r.input;
  serves = option_map serving_of r.serves;
  thread = before;
  used = r.used;
}

-- a run of one of the functions at one of the labels
pub record IsRun (loan : Loan) (requests : Requests) (r : Run) : Type 0 where
  pub at : r.at.number < count loan.policy.lattice
  pub function : r.function < length loan.policy.functions
  pub input : length r.input ≤ longest_value
  pub serves : ForSome r.serves (IsServed loan requests)

-- how a stint in the module ended, as the rules see it
abbrev pub end_of : Module → Ending → turns.End Thread
end_of m ending.Ended = turns.Ended
end_of m (ending.Trapped cause) = turns.Trapped cause
end_of m (ending.Raised sandbox label) = turns.Raised label.number (thread_of m sandbox)
end_of m (ending.Spent sandbox) = turns.Spent (thread_of m sandbox)

-- what a reply for what is served comes to: its line, and then the reply
abbrev pub answering : Loan → ℕ → Option rules.Serving → List ℕ → rules.State Thread → rules.Moved Thread
answering loan l serves bytes s =
    rules.then_lines (answer_lines (rules_in loan) l serves bytes) (reply (rules_in loan) l serves bytes s)

-- a run that had this thread before, as the rules have it
module _ (loan : Loan) (r : Run) (before : Option Thread) where
  -- what is made of an effect of it
  abbrev pub run_makes : Option Effect → rules.State Thread → rules.Moved Thread
  run_makes effect s = made (rules_in loan) r.at.number (run_of before r) effect s

  -- what comes of the host call that it waits in, and of the rest
  abbrev pub run_calls :
      Suspended → (Thread → rules.State Thread → turns.Stint Thread) → rules.State Thread → turns.Stint Thread
  run_calls suspended rest s =
      let P = rules_in loan in
      let a = run_of before r in
      let asked = asked_in (asked_of suspended) in
      let t = waiting (module_in loan r.function) suspended in
      turns.after_call P r.at.number a s rest (shim P (guest_in loan) r.at.number a s.store asked t)

  -- what comes of so many units
  abbrev pub run_stint : ℕ → Sandbox → rules.State Thread → turns.Stint Thread
  run_stint units sandbox s =
      let t = thread_of (module_in loan r.function) sandbox in
      turns.stint (rules_in loan) (guest_in loan) r.at.number (run_of before r) units t s

  -- its turn
  abbrev pub run_turns : Sandbox → rules.State Thread → rules.Moved Thread
  run_turns sandbox s =
      let t = thread_of (module_in loan r.function) sandbox in
      turns.run (rules_in loan) (guest_in loan) r.at.number r.number (run_of before r) t s

  -- its turn ends with this outcome
  abbrev pub run_ends : Outcome → rules.State Thread → rules.Moved Thread
  run_ends how s = turns.ends (rules_in loan) r.at.number r.number (run_of before r) how s

  -- its turn ends with its units used, and fuel left
  abbrev pub run_waits : ℕ → Sandbox → rules.State Thread → rules.Moved Thread
  run_waits given sandbox s =
      let t = thread_of (module_in loan r.function) sandbox in
      turns.waits (rules_in loan) r.at.number r.number (run_of before r) given t s

  -- its turn ends as its stint did
  abbrev pub run_closes : ℕ → Ending → rules.State Thread → rules.Moved Thread
  run_closes given end s =
      let how = end_of (module_in loan r.function) end in
      turns.closing (rules_in loan) r.at.number r.number (run_of before r) given how s

-- the turn of the front of a label's list
abbrev pub turn_of_front : Loan → ℕ → ℕ → rules.State Thread → rules.Moved Thread
turn_of_front loan l number s = turns.turn_of (rules_in loan) (guest_in loan) l number (s.lists l) s

-- the sandbox goes on, at one of the labels
abbrev pub IsFitEnd : Module → ℕ → Ending → Type 0
IsFitEnd m labels ending.Ended = Unit {0}
IsFitEnd m labels (ending.Trapped cause) = Unit {0}
IsFitEnd m labels (ending.Raised sandbox label) = (label.number < labels) × IsReady m sandbox
IsFitEnd m labels (ending.Spent sandbox) = IsReady m sandbox

abbrev pub IsFitReached : Module → ℕ → Reached → Type 0
IsFitReached m labels (reached.Goes sandbox) = IsReady m sandbox
IsFitReached m labels (reached.Ends end) = IsFitEnd m labels end

-- a part of the stint is done, its lines appended, and the rest is owed from where what is kept stands now
pub record Owes {F : Type 0} (rows : F → Rows) (loan : Loan) (whole : turns.Stint Thread) (k : Kept F)
    (before after : List Line) (rest : rules.State Thread → turns.Stint Thread) : Type 0 where
  pub done : rules.Moved Thread
  pub keeps : Keeps rows loan k done.state
  pub lines : after ≡ before ++ done.lines
  pub makes : whole ≡ turns.then_stint done (rest done.state)

-- nothing is left but the end
abbrev pub ends_so : turns.End Thread → rules.State Thread → turns.Stint Thread
ends_so end s = turns.stops s end

-- after a host call: the rest is owed with the thread that goes on, or nothing but the end; or, out of memory, the first lines
-- were appended
abbrev pub LeadsOn :
    {F : Type 0} → (F → Rows) → Loan → Module → (Thread → rules.State Thread → turns.Stint Thread)
    → turns.Stint Thread → Kept F → List Line → List Line → Result Reached NoMemory → Type 0
LeadsOn rows loan m rest whole k before after (Ok (reached.Goes sandbox)) =
    Owes rows loan whole k before after (rest (thread_of m sandbox))
LeadsOn rows loan m rest whole k before after (Ok (reached.Ends end)) =
    Owes rows loan whole k before after (ends_so (end_of m end))
LeadsOn rows loan m rest whole k before after (Err e) = AddsPart whole.moved.lines before after

-- after a whole stint
abbrev pub FinishesStint :
    {F : Type 0} → (F → Rows) → Loan → Module → turns.Stint Thread → Kept F → List Line → List Line
    → Result Ending NoMemory → Type 0
FinishesStint rows loan m whole k before after (Ok end) =
    Owes rows loan whole k before after (ends_so (end_of m end))
FinishesStint rows loan m whole k before after (Err e) = AddsPart whole.moved.lines before after

-- the thread that an activation goes on with: its own, or the starting one, where the label allows its memory
abbrev pub GoesOnWith : Module → ℕ → Option Thread → Begun → Type 0
GoesOnWith m pages None (begun.Ready sandbox) =
    (first_pages m ≤ pages) × (thread_of m sandbox ≡ begin m) × IsReady m sandbox
GoesOnWith m pages None begun.Pages = pages < first_pages m
GoesOnWith m pages (Some t) (begun.Ready sandbox) = (thread_of m sandbox ≡ t) × IsReady m sandbox
GoesOnWith m pages (Some t) begun.Pages = ⊥
