use Rattle.wasm_decode.proofs.ModulesBothWays.{module_either, module_one, one_fault, module_or_fault}
use Rattle.wasm_decode.proofs.SectionExtents.{module_faults}
use Rattle.wasm_decode.proofs.laws.spells_or_fails.Goals as goal

pub returns-clause-either : goal.returns-clause-either
returns-clause-either c = module_either

pub returns-clause-one_module : goal.returns-clause-one_module
returns-clause-one_module c = module_one

pub returns-clause-one_fault : goal.returns-clause-one_fault
returns-clause-one_fault c = one_fault

pub returns-clause-not_both : goal.returns-clause-not_both
returns-clause-not_both c = module_or_fault

pub returns-clause-within : goal.returns-clause-within
returns-clause-within c bytes e h = module_faults bytes e h
