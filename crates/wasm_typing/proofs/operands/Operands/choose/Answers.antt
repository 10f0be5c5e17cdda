use Rattle.wasm_typing.specs.Operands.{Stand}
use Rattle.wasm_typing.proofs.Images.{image_chooses}
use Rattle.wasm_typing.proofs.operands.Operands.choose.Goals as goal

pub returns : goal.returns
returns c =
    let w = c.in_ok-put.ensures in
    image_chooses (Stand c.args.self.now) (Stand c.take_one.new.self) (Stand c.take_one-2.new.self) (Stand c.put.new.self) c.in-Some-take_one.first c.in-Some.second c.in-Some-both.known
    c.in-Some.ensures c.in-Some-take_one.ensures c.in-Some-both.ensures w.0 (λ q. absurd (w.1 q))
