-- A turn: the front activation of a label runs for some units.
use Rattle.std.specs.Prelude.{ℕ, zero, suc, ◌+◌, ◌-◌, ◌==◌, nat_le, min, List, [], ◌∷◌, Option, Some, None, if◌then◌else◌}
use Rattle.trapeze_lines.specs.declared.line.Line.{Line}
use Rattle.trapeze_lines.specs.declared.outcome.Cause.{Cause}
use Rattle.trapeze_lines.specs.declared.outcome.Outcome.{Outcome}
use Rattle.trapeze_lines.specs.declared.outcome.Cause.TheVariants.{Pages, Fuel}
use Rattle.trapeze_lines.specs.declared.line.Kind.TheVariants as kind
use Rattle.trapeze_lines.specs.declared.outcome.Outcome.TheVariants as outcome
use Rattle.host_rules.specs.Guests.{OneUnit, Goes, Calls, Done, Traps, Guest}
use Rattle.trapeze_lines.specs.Lines.{line_at}
use Rattle.host_rules.specs.Rules.{Rules, limits_at, function_name}
use Rattle.host_rules.specs.States.{Activation, State, push, leave, count_turn, Moved, still, told, then_lines, then_move, id_of}
use Rattle.host_rules.specs.Calls.{Called, Resumed, RaisedTo, Refused, shim}
use Rattle.host_rules.specs.Effects.{arrive, apply}

-- how a stint ends: done, by a trap, raised with the thread that goes on at another label, or with its units used
pub data End (T : Type 0) : Type 0 where
  Ended : End T
  Trapped : Cause → End T
  Raised : ℕ → T → End T
  Spent : T → End T

-- what a stint makes of a state, and how it ends
pub record Stint (T : Type 0) : Type 0 where
  pub moved : Moved T
  pub end : End T

abbrev pub stops : {T : Type 0} → State T → End T → Stint T
stops s end = record { moved = still s; end = end }

-- a move, and then a stint from the state after it
abbrev pub then_stint : {T : Type 0} → Moved T → Stint T → Stint T
then_stint m r = record { moved = then_move m r.moved; end = r.end }

-- after a host call: its lines, its effect, and then the rest of the stint; or its end
abbrev pub after_call :
    {T : Type 0} → Rules → ℕ → Activation T → State T → (T → State T → Stint T) → Called T → Stint T
after_call P c a s rest (Resumed t lines effect) =
    let moved = then_lines lines (apply P c a effect s) in then_stint moved (rest t moved.state)
after_call P c a s rest (RaisedTo l t) = stops s (Raised l t)
after_call P c a s rest (Refused cause) = stops s (Trapped cause)

-- after a unit: the rest of the stint, or its end
abbrev pub after_unit :
    {T : Type 0} → Rules → Guest T → ℕ → Activation T → State T → (T → State T → Stint T) → OneUnit T → Stint T
after_unit P M c a s rest (Goes t) = rest t s
after_unit P M c a s rest (Calls asked t) = after_call P c a s rest (shim P M c a s.store asked t)
after_unit P M c a s rest Done = stops s Ended
after_unit P M c a s rest (Traps cause) = stops s (Trapped cause)

-- a stint: at most n units of a thread of the activation a at c; a host call is carried out within its unit
abbrev pub stint : {T : Type 0} → Rules → Guest T → ℕ → Activation T → ℕ → T → State T → Stint T
stint P M c a zero t s = stops s (Spent t)
stint P M c a (suc n) t s =
    after_unit P M c a s (λ t s. stint P M c a n t s) (M.unit a.function (limits_at P c).pages t)

-- the units of a turn: the lesser of the label's quantum and what is left of its fuel
abbrev pub given : {T : Type 0} → Rules → ℕ → Activation T → ℕ
given P c a = min (limits_at P c).quantum ((limits_at P c).fuel - a.used)

-- the line `turn`
abbrev pub turn_line : {T : Type 0} → Rules → ℕ → ℕ → Activation T → Outcome → Line
turn_line P c number a how = line_at c (kind.Turn number (function_name P a.function) (id_of a) how)

-- the activation leaves its list
abbrev pub ends : {T : Type 0} → Rules → ℕ → ℕ → Activation T → Outcome → State T → Moved T
ends P c number a how s = told (turn_line P c number a how) (leave s c)

-- it goes to the back of its list, with the units that it used
abbrev pub waits : {T : Type 0} → Rules → ℕ → ℕ → Activation T → ℕ → T → State T → Moved T
waits P c number a n t s =
    told (turn_line P c number a outcome.Waits) (push (leave s c) c (record a { thread = Some t; used = a.used + n }))

-- the end of a turn: a raised activation arrives at its new label after the line; one whose units are used has used all its
-- fuel and traps, or goes to the back of its list
abbrev pub closing : {T : Type 0} → Rules → ℕ → ℕ → Activation T → ℕ → End T → State T → Moved T
closing P c number a n Ended s = ends P c number a outcome.Ended s
closing P c number a n (Trapped cause) s = ends P c number a (outcome.Trapped cause) s
closing P c number a n (Raised l t) s =
    let left = ends P c number a outcome.Raised s in then_move left (arrive P l c (record a { thread = Some t }) left.state)
closing P c number a n (Spent t) s =
    if a.used + n == (limits_at P c).fuel
    then ends P c number a (outcome.Trapped Fuel) s
    else waits P c number a n t s

-- the front activation, which stays in its list, runs with this thread
abbrev pub run : {T : Type 0} → Rules → Guest T → ℕ → ℕ → Activation T → T → State T → Moved T
run P M c number a t s =
    let r = stint P M c a (given P c a) t s in then_move r.moved (closing P c number a (given P c a) r.end r.moved.state)

-- the starting thread: an activation that has a thread goes on with it; any other gets its starting thread, or traps where its
-- memory has more pages at least than the label allows
abbrev pub run_from : {T : Type 0} → Rules → Guest T → ℕ → ℕ → Activation T → Option T → State T → Moved T
run_from P M c number a (Some t) s = run P M c number a t s
run_from P M c number a None s =
    if nat_le (M.minimum a.function) (limits_at P c).pages
    then run P M c number a (M.begin a.function) s
    else closing P c number a 0 (Trapped Pages) s

-- the turn of the front of a list
abbrev pub turn_of : {T : Type 0} → Rules → Guest T → ℕ → ℕ → List (Activation T) → State T → Moved T
turn_of P M c number [] s = told (line_at c (kind.Idle number)) s
turn_of P M c number (a ∷ others) s = run_from P M c number a a.thread s

-- turn: the next turn number is taken, and the front activation runs
abbrev pub turn : {T : Type 0} → Rules → Guest T → ℕ → State T → Moved T
turn P M c s = turn_of P M c (s.turns c + 1) (s.lists c) (count_turn s c)
