use Rattle.wasm_decode.specs.Grammar.{Spells}
use Rattle.wasm_decode.specs.Sections.{module_of}
use Rattle.wasm_code.proofs.Answered.{found, only, fault, first}
use Rattle.wasm_decode.proofs.Answered.{module_is}
use Rattle.wasm_decode.proofs.modules.decode.Goals as goal

pub returns-clause-found : goal.returns-clause-found
returns-clause-found c = found (λ m. Spells m c.args.bytes.now) (module_of c.args.bytes.now) c.file.result (module_is c.args.bytes.now) c.file.ensures.read

pub returns-clause-only : goal.returns-clause-only
returns-clause-only c = only (λ m. Spells m c.args.bytes.now) (module_of c.args.bytes.now) c.file.result (module_is c.args.bytes.now) c.file.ensures.read

pub returns-clause-fault : goal.returns-clause-fault
returns-clause-fault c = fault (module_of c.args.bytes.now) c.file.result c.file.ensures.read

pub returns-clause-first : goal.returns-clause-first
returns-clause-first c = first (module_of c.args.bytes.now) c.file.result c.file.ensures.read
