-- The loop over the bytes.
use Rattle.std.proofs.Common.{◌≡◌, ◌≤◌, ◌<◌, ℕ, ◌+◌, List, [], ◌∷◌, ◌++◌, length, drop, Result, Ok, Err, slice_index_or, arith, refl, sym, ap, ◌∙◌}
use Rattle.std.proofs.lemmas.List.{at_drop_more}
use Rattle.std.proofs.Math.ListN.{drop_of_length-le}
use Rattle.wat_lex.specs.declared.pieces.Token.{Token}
use Rattle.wat_lex.specs.declared.classes.LexState.{LexState}
use Rattle.wat_lex.specs.declared.error.LexError.{LexError}
use Rattle.wat_lex.specs.declared.error.LexError.TheVariants.{At, NoMemory}
use Rattle.wat_lex.specs.Lexing.{lex, step, finish, go_on, tokens}
use Rattle.wat_lex.specs.Answers.{LexesOn, LexesToEnd, Lexed}

abbrev byte_at : List ℕ → ℕ → ℕ
byte_at text at = slice_index_or text at 0

abbrev pub Stands : List Token → LexState → ℕ → List ℕ → Type 0
Stands found s at text = lex found s at (drop at text) ≡ tokens text

-- what the step gives decides the rest
now_go : (found : List Token) (s : LexState) (at : ℕ) (text : List ℕ) → at < length text
    → lex found s at (drop at text) ≡ go_on (step found s (byte_at text at) at) (λ found s. lex found s (at + 1) (drop (at + 1) text))
unfolding lex
now_go found s at text l = at_drop_more (lex found s at) text at 0 l

pub goes : (found new : List Token) (s t : LexState) (at : ℕ) (text : List ℕ) → at < length text → step found s (byte_at text at) at ≡ Ok (new, t) → Stands found s at text → Stands new t (at + 1) text
goes found new s t at text l e h =
    sym (now_go found s at text l ∙ ap (λ m. go_on m (λ found s. lex found s (at + 1) (drop (at + 1) text))) e) ∙ h

stops_at : (found : List Token) (s : LexState) (at n : ℕ) (text : List ℕ) → at < length text → step found s (byte_at text at) at ≡ Err n → Stands found s at text → tokens text ≡ Err n
stops_at found s at n text l e h = sym h ∙ (now_go found s at text l ∙ ap (λ m. go_on m (λ found s. lex found s (at + 1) (drop (at + 1) text))) e)

pub stops : (e : LexError) (found new : List Token) (s : LexState) (at : ℕ) (text : List ℕ) → at < length text → LexesOn new (Err e) (step found s (byte_at text at) at) → Stands found s at text → Lexed (Err e) (tokens text)
stops (At n) found new s at text l m h = stops_at found s at n text l m h
stops NoMemory found new s at text l m h = tt

at_end : (found : List Token) (s : LexState) (at : ℕ) (text : List ℕ) → at ≤ length text → length text ≤ at → Stands found s at text → finish found s (length text) ≡ tokens text
unfolding lex
at_end found s at text l l' h =
    let e : at ≡ length text = omega arith in
    sym (ap (finish found s) e) ∙ (sym (ap (lex found s at) (drop_of_length-le text l')) ∙ h)

pub done : (found new : List Token) (s : LexState) (at : ℕ) (text : List ℕ) → at ≤ length text → length text ≤ at → finish found s (length text) ≡ Ok new → Stands found s at text → tokens text ≡ Ok new
done found new s at text l l' e h = sym (at_end found s at text l l' h) ∙ e

pub fails : (e : LexError) (found new : List Token) (s : LexState) (at : ℕ) (text : List ℕ) → at ≤ length text → length text ≤ at → LexesToEnd new (Err e) (finish found s (length text)) → Stands found s at text → Lexed (Err e) (tokens text)
fails (At n) found new s at text l l' m h = sym (at_end found s at text l l' h) ∙ m
fails NoMemory found new s at text l l' m h = tt

pub within : (at n : ℕ) → at < n → at + 1 ≤ n
within at n l = omega arith
