use Rattle.std.proofs.Common.{sym, ap, arith}
use Rattle.wasm_semantics.specs.Laws.{in_four_places}
use Rattle.wasm_exec.proofs.ValuesInTurn.{two_words, two_fit}
use Rattle.wasm_exec.proofs.asking.two_from.Goals as goal

pub overflow_cast-result : goal.overflow_cast-result
overflow_cast-result c = omega (arith, (two_fit c.args.at c.args.values.now c.requires.room c.requires.fit).0)

pub overflow_cast-result-2 : goal.overflow_cast-result-2
overflow_cast-result-2 c = omega (arith, (two_fit c.args.at c.args.values.now c.requires.room c.requires.fit).1)

pub returns : goal.returns
returns c = sym (ap in_four_places (two_words c.args.at c.args.values.now c.requires.room))
