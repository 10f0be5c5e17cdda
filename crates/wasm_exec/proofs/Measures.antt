-- Why rounds come to an end: each uses a unit, or makes room, or puts code at hand where there was none.
use Rattle.std.proofs.Common.{ℕ, ◌+◌, ◌-◌, ◌*◌, List, [], ◌∷◌, length, Bor}
use Rattle.wasm_ast.specs.declared.trees.Instr.{Instr}

-- 1 where no code is at hand
abbrev pub without : List (Bor (List Instr)) → ℕ
without [] = 1
without (c ∷ cs) = 0

-- units that are left, room that can be made, code that can be found
abbrev pub to_do : ℕ → ℕ → List ℕ → List (Bor (List Instr)) → ℕ
to_do count used values codes = (count - used) * 65538 + (65536 - length values) + without codes
