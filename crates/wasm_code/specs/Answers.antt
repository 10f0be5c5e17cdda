-- What the code answers of a reading.
use Rattle.std.specs.Prelude.{◌≡◌, ◌⊎◌, Bool, true, false, Result, Ok, Err}
use Rattle.wasm_code.specs.declared.error.DecodeError.{DecodeError}
use Rattle.wasm_code.specs.declared.error.DecodeError.TheVariants.{Malformed, TooDeep, TooManyLocals, NoMemory}
use Rattle.wasm_code.specs.declared.input.Input.{Input}
use Rattle.wasm_code.specs.declared.reader.Reader.{Reader}
use Rattle.wasm_code.specs.Places.{Place}
use Rattle.wasm_code.specs.Reading.{Next, More, Whole}

-- where an input stands
abbrev pub place : Input → Place
place input = record { rest = input.rest.now; at = input.at }

-- the first fault, unless the call is out of memory
abbrev pub IsFirstFault : {X : Type 0} → DecodeError → Result X DecodeError → Type 0
IsFirstFault (Malformed at) reading = reading ≡ Err (Malformed at)
IsFirstFault (TooDeep at) reading = reading ≡ Err (TooDeep at)
IsFirstFault (TooManyLocals f) reading = reading ≡ Err (TooManyLocals f)
IsFirstFault NoMemory reading = Unit {0}

-- what was read, seen by view, or the first fault, unless the call is out of memory
abbrev pub ReadsAs : {A X : Type 0} → (A → X) → Result A DecodeError → Result X DecodeError → Type 0
ReadsAs view (Ok a) reading = reading ≡ Ok (view a)
ReadsAs view (Err e) reading = IsFirstFault e reading

-- this answer, or out of memory
abbrev pub OrNoMemory : {X : Type 0} → Result X DecodeError → Result X DecodeError → Type 0
OrNoMemory result answer = (result ≡ answer) ⊎ (result ≡ Err NoMemory)

-- where an expression that is being read stands
abbrev pub state : Reader → Next
state reader = More reader.frames reader.items (place reader.input)

-- the reader goes on as the definition does, or stops
abbrev pub ReadsOn : Result Next DecodeError → Reader → Result (Unit {0}) DecodeError → Type 0
ReadsOn next new (Ok t) = next ≡ Ok (state new)
ReadsOn next new (Err e) = IsFirstFault e next

-- the reader goes on, or has the whole expression (true), or stops
abbrev pub ReadsOnOrEnds : Result Next DecodeError → Reader → Result Bool DecodeError → Type 0
ReadsOnOrEnds next new (Ok false) = next ≡ Ok (state new)
ReadsOnOrEnds next new (Ok true) = next ≡ Ok (Whole new.items (place new.input))
ReadsOnOrEnds next new (Err e) = IsFirstFault e next
