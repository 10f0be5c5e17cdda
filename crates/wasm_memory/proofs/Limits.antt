-- The pages that the memory of a valid module begins with are no more than it may have.
use Rattle.std.proofs.Common.{◌≡◌, ◌≤◌, ◌/◌, ◌*◌, ℕ, min, length, List, refl, arith}
use Rattle.std.specs.Prelude.{Option, Some, None, IsTrue, ◌&&◌, nat_le}
use Rattle.std.proofs.lemmas.Bool.Decides.{nat_tests}
use Rattle.wasm_ast.specs.declared.memory_types.MemoryType.{MemoryType}
use Rattle.wasm_ast.specs.declared.modules.Module.{Module}
use Rattle.wasm_ast.specs.Spaces.{memory_of, least_pages, first_pages, upto, greatest_pages, page_limit}
use Rattle.wasm_ast.specs.Structure.{is_at_most, has_most_pages, is_memory}
use Rattle.wasm_ast.specs.Validity.{Valid}
use Rattle.wasm_ast.proofs.Lists.{both_true}
use Rattle.wasm_ast.proofs.Segments.{is_memory_of}

at_most : (a b : ℕ) → IsTrue (nat_le a b) → a ≤ b
at_most a b h = grind (arith, nat_tests)

within_upto : (n : ℕ) (o : Option ℕ) → IsTrue (is_at_most n o) → n ≤ 65536 → n ≤ min 65536 (upto o)
within_upto n None h l = omega arith
within_upto n (Some k) h l = let e = at_most n k h in omega arith

least_within : (o : Option MemoryType) → ((t : MemoryType) → o ≡ Some t → IsTrue (is_memory t)) → least_pages o ≤ greatest_pages o
least_within None h = omega arith
least_within (Some t) h =
    let test = both_true (is_at_most t.minimum t.maximum) (nat_le t.minimum 65536 && has_most_pages t.maximum) (h t refl) in
    let small = at_most t.minimum 65536 (both_true (nat_le t.minimum 65536) (has_most_pages t.maximum) test.1).0 in
    within_upto t.minimum t.maximum test.0 small

greatest_small : (o : Option MemoryType) → greatest_pages o ≤ 65536
greatest_small None = omega arith
greatest_small (Some t) = omega arith

-- whole pages, no more than the most
pub first_bytes_stand : (m : Module) (bytes : List ℕ) (most : ℕ) → Valid m → length bytes ≡ first_pages m * 65536 → most ≡ page_limit m
    → (length bytes ≡ length bytes / 65536 * 65536) × (length bytes ≤ most * 65536) × (most ≤ 65536)
first_bytes_stand m bytes most valid e f =
    let within = least_within (memory_of m) (is_memory_of m valid) in
    let small = greatest_small (memory_of m) in
    (omega arith, omega arith, omega arith)
