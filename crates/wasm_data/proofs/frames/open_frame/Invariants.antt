use Rattle.std.proofs.Common.{◌≡◌, ◌-◌, take, drop}
use Rattle.std.specs.Prelude.{replicate}
use Rattle.wasm_data.proofs.frames.open_frame.Given as goal

abbrev pub invariant-zeros : goal.invariant-zeros
invariant-zeros l = record { before : take l.fn.marks.sp l.values ≡ take l.fn.marks.sp l.fn.values; zeros : take (l.i - l.fn.marks.sp) (drop l.fn.marks.sp l.values) ≡ replicate (l.i - l.fn.marks.sp) 0 }
