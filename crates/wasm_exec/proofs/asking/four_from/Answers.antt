use Rattle.std.proofs.Common.{sym, ap, arith}
use Rattle.wasm_semantics.specs.Laws.{in_four_places}
use Rattle.wasm_exec.proofs.ValuesInTurn.{four_words, four_fit}
use Rattle.wasm_exec.proofs.asking.four_from.Goals as goal

pub overflow_cast-result : goal.overflow_cast-result
overflow_cast-result c = omega (arith, (four_fit c.args.at c.args.values.now c.requires.room c.requires.fit).0)

pub overflow_cast-result-2 : goal.overflow_cast-result-2
overflow_cast-result-2 c = omega (arith, (four_fit c.args.at c.args.values.now c.requires.room c.requires.fit).1)

pub overflow_cast-result-3 : goal.overflow_cast-result-3
overflow_cast-result-3 c = omega (arith, (four_fit c.args.at c.args.values.now c.requires.room c.requires.fit).2)

pub overflow_cast-result-4 : goal.overflow_cast-result-4
overflow_cast-result-4 c = omega (arith, (four_fit c.args.at c.args.values.now c.requires.room c.requires.fit).3)

pub returns : goal.returns
returns c = sym (ap in_four_places (four_words c.args.at c.args.values.now c.requires.room))
