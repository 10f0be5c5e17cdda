use Rattle.wasm_semantics.proofs.Units.{unit_sound, units_sound}
use Rattle.wasm_semantics.proofs.Begin.{begin_is_of}
use Rattle.wasm_semantics.proofs.Reaches.{reached_sound}
use Rattle.wasm_semantics.proofs.laws.never_stuck.Goals as goal

pub returns-clause-unit : goal.returns-clause-unit
returns-clause-unit c = unit_sound

pub returns-clause-units : goal.returns-clause-units
returns-clause-units c = units_sound

pub returns-clause-begin : goal.returns-clause-begin
returns-clause-begin c = begin_is_of

pub returns-clause-reached : goal.returns-clause-reached
returns-clause-reached c = reached_sound
