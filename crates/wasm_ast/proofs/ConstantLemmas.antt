-- Constants within their ranges.
use Rattle.std.proofs.Common.{◌≡◌, ◌<◌, ◌^◌, ℕ, true, sym, ap, ◌∙◌, arith}
use Rattle.std.specs.Prelude.{Some, None, nat_lt, if◌then◌else◌}
use Rattle.std.proofs.lemmas.Bool.Decides.{nat_tests}
use Rattle.wasm_ast.specs.declared.val_types.ValType.TheVariants.{I32, I64}
use Rattle.wasm_ast.specs.declared.trees.Instr.{Instr}
use Rattle.wasm_ast.specs.declared.trees.Instr.TheOpen.{Instr-F}
use Rattle.wasm_ast.specs.Trees.{layer}
use Rattle.wasm_ast.specs.Structure.{constant_at}

below : (n k : ℕ) → n < k → nat_lt n k ≡ true
below n k h = grind (arith, nat_tests)

pub i32_constant : (i : Instr) (n : ℕ) → layer i ≡ Instr-F.I32Const n → n < 2 ^ 32 → Some (I32, n) ≡ constant_at (layer i)
i32_constant i n e h = sym (ap constant_at e ∙ ap (λ b. if b then Some (I32, n) else None) (below n (2 ^ 32) h))

pub i64_constant : (i : Instr) (n : ℕ) → layer i ≡ Instr-F.I64Const n → n < 2 ^ 64 → Some (I64, n) ≡ constant_at (layer i)
i64_constant i n e h = sym (ap constant_at e ∙ ap (λ b. if b then Some (I64, n) else None) (below n (2 ^ 64) h))
