use Rattle.std.proofs.Common.{refl, ap, ◌∙◌, length, Ok, arith, true}
use Rattle.std.proofs.lemmas.Int.{to_z-of_z}
use Rattle.std.specs.Int.{w64, cast_unsigned}
use Rattle.wasm_leb.proofs.Shortest.{read_again}
use Rattle.wasm_leb.proofs.writing.write_s64.Goals as goal

pub put-requires-clause-room : goal.put-requires-clause-room
put-requires-clause-room c = let none = ap length c.empty-leb.ensures in (64, refl, omega arith, omega arith)

pub returns-clause-again : goal.returns-clause-again
returns-clause-again c rest =
    read_again true 18446744073709551615 c.cast_unsigned.result _ c.put.new.leb rest c.empty-leb.ensures c.put.ensures ∙ ap (λ n. Ok (n, length c.put.new.leb)) (c.cast_unsigned.ensures ∙ ap (cast_unsigned w64) (to_z-of_z w64 c.args.value c.ranges.value))
