use Rattle.std.proofs.Common.{◌≡◌, ◌≤◌, drop, length}
use Rattle.wat_lex.specs.Lexing.{lex, tokens}
use Rattle.wat_lex.proofs.lexer.lex.Given as goal

abbrev pub invariant-bytes : goal.invariant-bytes
invariant-bytes l = record {
  within : l.at ≤ length l.text;
  stands : lex l.found.items l.state l.at (drop l.at l.text) ≡ tokens l.text;
}
