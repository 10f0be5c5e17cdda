-- What is seen of files that are read by name, one at a time.
use Rattle.std.specs.Prelude.{◌≡◌, ℕ, ◌+◌, ◌^◌, ◌<◌, ◌≤◌, ⊤, List, [], ◌∷◌, ◌++◌, length, take, is_some, Result, MatchOption, MatchResult, None, Some, IfSome}
use Rattle.std.specs.declared.option.Option.{Option}
use Rattle.std.specs.Option.{option_map}
use Rattle.std.specs.Io.{StartsWith}
use Rattle.trapeze_io.specs.Causes.{one_more}

-- the files held, by name
abbrev pub Held : Type 0
Held = List ℕ → Option (List ℕ)

-- the open file: the bytes given since its open began, and those not yet read
pub record OpenFile : Type 0 where
  pub given : List ℕ
  pub rest : List ℕ

-- the files held, the open one, all opens so far and the last name opened, each where it is told; the faults counted so far,
-- and their count as the last open began
pub record Seen : Type 0 where
  pub held : Option Held
  pub current : Option OpenFile
  pub opens : Option ℕ
  pub last_name : Option (List ℕ)
  pub faults : ℕ
  pub mark : ℕ

-- one more open, in a number that stands still at its greatest value, where it is told
abbrev pub one_more_open : Option ℕ → Option ℕ
one_more_open opens = option_map one_more opens

-- one open was made or tried, of this name; the files held stay, and so does whether the open file is told
pub record OpensOne (old : Seen) (name : List ℕ) (new : Seen) : Type 0 where
  pub held : new.held ≡ old.held
  pub told : is_some new.current ≡ is_some old.current
  pub opens : new.opens ≡ one_more_open old.opens
  pub last_name : IfSome new.last_name (λ last. last ≡ name)
  pub faults : old.faults ≤ new.faults
  pub mark : new.mark ≡ old.faults

-- no open was made: but for the open file and the faults counted nothing changes
pub record OpensNone (old new : Seen) : Type 0 where
  pub held : new.held ≡ old.held
  pub opens : new.opens ≡ old.opens
  pub last_name : new.last_name ≡ old.last_name
  pub faults : old.faults ≤ new.faults
  pub mark : new.mark ≡ old.mark

-- opens were made or tried of these names, in this order, and nothing else was done
abbrev pub OpensAll : List (List ℕ) → Seen → Seen → Type 0
OpensAll [] old new = new ≡ old
OpensAll (name ∷ names) old new = (between : Seen) × OpensOne old name between × OpensAll names between new

-- what opens of these names, and then of this one, leave: so many more opens, and this name as the last
pub record AddsUp (names : List (List ℕ)) (name : List ℕ) (old new : Seen) : Type 0 where
  pub held : new.held ≡ old.held
  pub opens : IfSome old.opens (λ n. n + length names + 1 < 2 ^ 64 → new.opens ≡ Some (n + length names + 1))
  pub last_name : IfSome new.last_name (λ last. last ≡ name)
  pub faults : old.faults ≤ new.faults

-- an open file with these bytes not yet read, told where the one before was
abbrev pub started : List ℕ → Option OpenFile → Option OpenFile
started file before = option_map (λ _. record { given = []; rest = file }) before

-- an open file that gave these bytes to its end, told where the one before was
abbrev pub ended : List ℕ → Option OpenFile → Option OpenFile
ended file before = option_map (λ _. record { given = file; rest = [] }) before

-- an open of a name begins with the bytes of the file of that name; a failed one leaves nothing to read
abbrev pub Opens : {E : Type 0} → Seen → List ℕ → Seen → Result (Unit {0}) E → Type 0
Opens old name new result = MatchResult result
    (λ _. (file : List ℕ) × (new.current ≡ started file old.current) × IfSome old.held (λ files. files name ≡ Some file))
    (λ _. new.current ≡ started [] old.current)

-- bytes leave the front of the rest for the end of those given; the open file stays told, or untold
abbrev pub Gives : Option OpenFile → Option OpenFile → List ℕ → Type 0
Gives None None bytes = ⊤
Gives None (Some s) bytes = ⊥
Gives (Some r) None bytes = ⊥
Gives (Some r) (Some s) bytes = (r.rest ≡ bytes ++ s.rest) × (s.given ≡ r.given ++ bytes)

abbrev pub IsAtEnd : Option OpenFile → Type 0
IsAtEnd None = ⊤
IsAtEnd (Some r) = r.rest ≡ []

-- a read into a buffer gave the first n bytes of the rest, none only with no room or at the end; a failed one gave none
abbrev pub Reads : {E : Type 0} → Seen → Seen → Result ℕ E → List ℕ → Type 0
Reads old new result buffer = MatchResult result
    (λ n. Gives old.current new.current (take n buffer) × (n ≡ 0 → 0 < length buffer → IsAtEnd new.current))
    (λ _. new.current ≡ old.current)

-- where the files held are told, what was given is a prefix of the file of this name, and nothing where there is none
abbrev pub GivesPrefix : Option Held → List ℕ → Option OpenFile → Type 0
GivesPrefix held name current = IfSome held
    (λ files. MatchOption (files name) (IfSome current (λ r. r.given ≡ [])) (λ file. IfSome current (λ r. StartsWith file r.given)))
