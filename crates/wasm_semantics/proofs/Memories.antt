-- What accesses to a memory leave.
use Rattle.std.proofs.Common.{◌≡◌, ◌≤◌, ◌+◌, ◌%◌, ◌^◌, ◌*◌, ℕ, List, length}
use Rattle.std.specs.Prelude.{Some, None, IfSome, nat_le, if◌then◌else◌}
use Rattle.wasm_num.specs.Num.{signed}
use Rattle.wasm_num.proofs.Bounds.{wrap_below}
use Rattle.wasm_ast.specs.Operators.{Access, bits}
use Rattle.wasm_ast.specs.Bytes.{in_pages, stored, grown, copied, filled}
use Rattle.wasm_ast.specs.Memory.{is_past, memory_store, memory_grow, memory_copy, memory_fill}
use Rattle.wasm_ast.proofs.Lengths.{length_stored, length_grown, length_copied, length_filled}
use Rattle.wasm_semantics.specs.Operators.{extended_from, read_as}
use Rattle.wasm_semantics.specs.OfModule.{Fits}
use Rattle.wasm_semantics.proofs.Numbers.{fits_wrapped}
use Rattle.wasm_semantics.proofs.Combinators.{if_rule, at_least, at_most}

pub read_fits : (a : Access) (n : ℕ) → Fits a.val_type (read_as a n)
read_fits a n =
    if_rule (Fits a.val_type) a.signed (extended_from (8 * a.width) (bits a.val_type) n) (n % 2 ^ bits a.val_type)
    (λ e. wrap_below (bits a.val_type) (signed (8 * a.width) (n % 2 ^ (8 * a.width)))) (λ e. fits_wrapped a.val_type n)

-- as many bytes as before
abbrev pub AsLong : List ℕ → List ℕ → Type 0
AsLong old new = length new ≡ length old

pub store_as_long : (bytes : List ℕ) (at n value : ℕ) → IfSome (memory_store bytes at n value) (AsLong bytes)
store_as_long bytes at n value =
    if_rule (λ o. IfSome o (AsLong bytes)) (is_past bytes at n) None (Some (stored bytes at n value)) (λ e. tt) (λ e. length_stored bytes at n value (at_least (length bytes) (at + n) e))

pub copy_as_long : (bytes : List ℕ) (to from n : ℕ) → IfSome (memory_copy bytes to from n) (AsLong bytes)
copy_as_long bytes to from n =
    if_rule (λ o. IfSome o (AsLong bytes)) (is_past bytes from n) None (if is_past bytes to n then None else Some (copied bytes to from n)) (λ e. tt)
    (λ e.
    if_rule (λ o. IfSome o (AsLong bytes)) (is_past bytes to n) None (Some (copied bytes to from n)) (λ g. tt)
    (λ g. length_copied bytes to from n (at_least (length bytes) (from + n) e) (at_least (length bytes) (to + n) g)))

pub fill_as_long : (bytes : List ℕ) (at value n : ℕ) → IfSome (memory_fill bytes at value n) (AsLong bytes)
fill_as_long bytes at value n =
    if_rule (λ o. IfSome o (AsLong bytes)) (is_past bytes at n) None (Some (filled bytes at value n)) (λ e. tt) (λ e. length_filled bytes at value n (at_least (length bytes) (at + n) e))

-- n more pages, and no more than the limit
pub record Grew (limit : ℕ) (old : List ℕ) (n : ℕ) (new : List ℕ) : Type 0 where
  pub length : length new ≡ length old + n * 65536
  pub within : n + in_pages old ≤ limit

pub grow_grew : (limit : ℕ) (bytes : List ℕ) (n : ℕ) → IfSome (memory_grow limit bytes n) (Grew limit bytes n)
grow_grew limit bytes n =
    if_rule (λ o. IfSome o (Grew limit bytes n)) (nat_le (n + in_pages bytes) limit) (Some (grown bytes n)) None
    (λ e. record { length = length_grown bytes n; within = at_most (n + in_pages bytes) limit e }) (λ e. tt)
