use Rattle.wasm_leb.proofs.writing.+put.Given as goal

abbrev pub decreases-put : goal.decreases-put
decreases-put l = l.top
