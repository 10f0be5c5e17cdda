-- Bytes in hexadecimal digits, and a tree that bytes spell.
use Rattle.std.specs.Prelude.{ℕ, zero, suc, ◌+◌, ◌*◌, ◌-◌, nat_lt, if◌then◌else◌, List, [], ◌∷◌, codes, None}
use Rattle.wasm_ast.specs.declared.trees.Instr.TheVariants as V
use Rattle.wasm_ast.specs.declared.bodies.Body.{Body}
use Rattle.wasm_code.specs.Places.{Place}

-- what a digit stands for: 0 to 9, a to f
abbrev pub digit : ℕ → ℕ
digit c = if nat_lt c 58 then c - 48 else c - 87

-- the bytes that are written so
abbrev pub hex : List ℕ → List ℕ
hex [] = []
hex (c ∷ []) = []
hex (c ∷ d ∷ cs) = (16 * digit c + digit d) ∷ hex cs

-- a body without locals, whose code is a loop without an end
abbrev pub endless_bytes : List ℕ
endless_bytes = hex (codes "0003400c000b0b")

abbrev pub endless : Body
endless = record { locals = []; code = record { items = V.Loop None (record { items = V.Br 0 ∷ [] }) ∷ [] } }

-- so many blocks that open inside one another
abbrev pub opening : ℕ → List ℕ
opening zero = []
opening (suc n) = 0x02 ∷ 0x40 ∷ opening n

-- a place at the start of these bytes
abbrev pub start : List ℕ → Place
start bytes = record { rest = bytes; at = 0 }
