use Rattle.std.proofs.Common.{arith}
use Rattle.wasm_data.proofs.Moves.{local_tee_does}
use Rattle.wasm_data.proofs.places.local_tee.Goals as goal

pub returns : goal.returns
returns c m pages memory globals = record {
  is = local_tee_does memory globals c.args.marks c.args.index c.top-value.result c.args.values.now c.set_local.new.values c.requires.within c.requires.there c.top-value.ensures c.set_local.ensures.locals c.set_local.ensures.operands;
  within = record { locals = c.requires.within.locals; operands = c.requires.within.operands; room = omega (arith, c.requires.within.room, c.set_local.auto.values) };
  deep = c.set_local.ensures.deep;
}
