use Rattle.wasm_leb.proofs.Roundtrip.{again, spelled}
use Rattle.wasm_leb.proofs.laws.spelled_is_read.Goals as goal

pub returns-clause-read : goal.returns-clause-read
returns-clause-read c signed top n front rest d = again signed top n front rest d

pub returns-clause-spelled : goal.returns-clause-spelled
returns-clause-spelled c signed top bytes found e = spelled signed top bytes found e
