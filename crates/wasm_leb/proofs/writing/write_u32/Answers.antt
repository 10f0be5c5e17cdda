use Rattle.std.proofs.Common.{refl, ap, ◌∙◌, length, Ok, arith, false}
use Rattle.wasm_leb.proofs.Shortest.{read_again}
use Rattle.wasm_leb.proofs.writing.write_u32.Goals as goal

pub put-requires-clause-room : goal.put-requires-clause-room
put-requires-clause-room c = let none = ap length c.empty-leb.ensures in (32, refl, omega arith, omega arith)

pub returns-clause-again : goal.returns-clause-again
returns-clause-again c rest =
    read_again false 4294967295 c.from.result _ c.put.new.leb rest c.empty-leb.ensures c.put.ensures ∙ ap (λ n. Ok (n, length c.put.new.leb)) c.from.ensures
