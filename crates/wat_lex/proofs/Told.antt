-- What the public call says, from what the reading is.
use Rattle.std.proofs.Common.{◌≡◌, ℕ, List, Result, Ok, Err, sym, ap, ◌∙◌, refl}
use Rattle.std.proofs.Common.{inl, inr}
use Rattle.std.specs.Prelude.{IfOk}
use Rattle.wat_lex.specs.declared.pieces.Token.{Token}
use Rattle.wat_lex.specs.declared.error.LexError.{LexError}
use Rattle.wat_lex.specs.declared.error.LexError.TheVariants.{At, NoMemory}
use Rattle.wat_lex.specs.Lexing.{tokens}
use Rattle.wat_lex.specs.Sentences.{AreTokens, HasFault, AreSlices}
use Rattle.wat_lex.specs.Answers.{Lexed, OrNoMemory, IfAt}
use Rattle.wat_lex.proofs.Sentenced.{tokens_are_read}
use Rattle.wat_lex.proofs.Faulty.{fault_is_read}
use Rattle.wat_lex.proofs.Found.{read_tokens, read_fault, one_list, one_fault, not_both}
use Rattle.wat_lex.proofs.Slices.{are_slices}

abbrev Answer : Type 0
Answer = Result (List Token) LexError

pub found : (text : List ℕ) (r : Answer) → Lexed r (tokens text) → IfOk r (λ list. AreTokens text list)
found text (Ok list) l = read_tokens text list l
found text (Err e) l = tt

pub slices : (text : List ℕ) (r : Answer) → Lexed r (tokens text) → IfOk r (λ list. AreSlices text list)
slices text (Ok list) l = are_slices text list (read_tokens text list l)
slices text (Err e) l = tt

pub only : (text : List ℕ) (r : Answer) → Lexed r (tokens text) → (list : List Token) → AreTokens text list → OrNoMemory r (Ok list)
only text (Ok list) l other d = inl (ap Ok (one_list text list other (read_tokens text list l) d))
only text (Err (At at)) l other d = absurd (not_both text other at d (read_fault text at l))
only text (Err NoMemory) l other d = inr refl

pub fault : (text : List ℕ) (r : Answer) → Lexed r (tokens text) → IfAt r (λ at. HasFault text at)
fault text (Ok list) l = tt
fault text (Err (At at)) l = read_fault text at l
fault text (Err NoMemory) l = tt

pub first : (text : List ℕ) (r : Answer) → Lexed r (tokens text) → (at : ℕ) → HasFault text at → OrNoMemory r (Err (At at))
first text (Ok list) l at d = absurd (not_both text list at (read_tokens text list l) d)
first text (Err (At by)) l at d = inl (ap (λ n. Err (At n)) (one_fault text by at (read_fault text by l) d))
first text (Err NoMemory) l at d = inr refl
