use Rattle.std.proofs.Common.{◌≡◌}
use Rattle.wasm_data.specs.Cuts.{above, under}
use Rattle.wasm_blocks.specs.Rest.{code_in}
use Rattle.wasm_frames.specs.Resting.{body_of}
use Rattle.wasm_exec.specs.Codes.{HasLaid}
use Rattle.wasm_exec.proofs.codes.find_code.Given as goal

abbrev pub invariant-heights : goal.invariant-heights
invariant-heights l = record {
  code : l.code ≡ code_in (body_of l.fn.program l.fn.function) (above l.fn.low (under l.height l.fn.opens));
  laid : HasLaid (body_of l.fn.program l.fn.function) (above l.fn.low (under l.height l.fn.opens)) l.initial.nexts l.nexts;
}
