-- Definitions that say an answer or a fault, and calls that answer them unless they are out of memory.
use Rattle.std.specs.Prelude.{◌≡◌, Result, Ok, Err, Some}
use Rattle.std.specs.declared.option.Option.{Option}

-- an answer goes on to the next step, and the first fault ends the steps
infixl 10 ◌>>=◌
abbrev pub ◌>>=◌ : {A B F : Type 0} → Result A F → (A → Result B F) → Result B F
Ok x >>= f = f x
Err fault >>= f = Err fault

-- a call answers what a definition says, or is out of memory, which is the error that is no fault; shown is what the
-- definition says of a value
abbrev pub AnswersBy : {T A E F : Type 0} → (E → Option F) → (T → A) → Result A F → Result T E → Type 0
AnswersBy fault_of shown said (Ok value) = said ≡ Ok (shown value)
AnswersBy {T} {A} {E} {F} fault_of shown said (Err error) = (fault : F) → fault_of error ≡ Some fault → said ≡ Err fault

-- the same of a value that is what the definition says
abbrev pub Answers : {A E F : Type 0} → (E → Option F) → Result A F → Result A E → Type 0
Answers fault_of = AnswersBy fault_of (λ value. value)
