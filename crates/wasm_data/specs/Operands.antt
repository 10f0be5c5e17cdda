-- Operators and their operands.
use Rattle.std.specs.Prelude.{ℕ, ◌≡◌, ◌<◌, ◌≤◌, Bool, true, nat_eq, ◌||◌, if◌then◌else◌, List, length, Some}
use Rattle.wasm_ast.specs.declared.val_types.ValType.{ValType}
use Rattle.wasm_ast.specs.Operators.{Access}
use Rattle.wasm_semantics.specs.Data.{Data, DataEffect, Wrong, split, computed}
use Rattle.wasm_semantics.specs.declared.operators.Operator.{Operator}
use Rattle.wasm_semantics.specs.declared.operators.Operator.TheVariants.{Extend}
use Rattle.wasm_semantics.specs.Operators.{operator_of, type_of_operator, compute}
use Rattle.wasm_semantics.specs.Operands.{LieOnTop}
use Rattle.wasm_memory.specs.Contents.{is_width}

-- the operands of the operator with this opcode are there and have their types
abbrev pub HasOperands : ℕ → List ℕ → Type 0
HasOperands code operands = (o : Operator) → operator_of code ≡ Some o → LieOnTop (type_of_operator o).takes operands

-- what an operator does
abbrev pub operated : Operator → Data → DataEffect
operated o d = split Wrong (length (type_of_operator o).takes) d.values (λ args below. computed d below (compute o args))

-- low bits of which a number can be made by their sign
abbrev pub is_low : ℕ → Bool
is_low n = nat_eq n 8 || (nat_eq n 16 || nat_eq n 32)

-- if the operator makes a number of low bits, then of such
abbrev pub keeps_low : Operator → Bool
keeps_low (Extend t n) = is_low n
keeps_low _ = true

-- an opcode between whose gaps the opcodes of all operators lie
pub record IsListed (code : ℕ) : Type 0 where
  pub first : 69 ≤ code
  pub second : 90 < code → 103 ≤ code
  pub third : 138 < code → 167 ≤ code
  pub fourth : 167 < code → 172 ≤ code
  pub fifth : 173 < code → 192 ≤ code
  pub last : code ≤ 196

-- a load or a store of a type, a width and a sign
abbrev pub access : ValType → ℕ → Bool → Access
access t width signed = record { val_type = t; width = width; signed = signed }

-- a width of loads, which has low bits where it is narrow
abbrev pub is_read : ℕ → Bool → Bool
is_read width signed = if signed then nat_eq width 1 || (nat_eq width 2 || nat_eq width 4) else is_width width

-- an opcode between whose gaps the opcodes of all loads lie
pub record IsLoad (code : ℕ) : Type 0 where
  pub first : 40 ≤ code
  pub second : 41 < code → 44 ≤ code
  pub last : code ≤ 53

-- the same of stores
pub record IsStoreCode (code : ℕ) : Type 0 where
  pub first : 54 ≤ code
  pub second : 55 < code → 58 ≤ code
  pub last : code ≤ 62
