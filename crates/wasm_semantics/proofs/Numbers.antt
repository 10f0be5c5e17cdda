-- Operators give numbers of the types that their opcodes say.
use Rattle.std.proofs.Common.{◌≡◌, ◌<◌, ◌-◌, ◌%◌, ◌^◌, ℕ, Bool, true, false, List, [], ◌∷◌, length, refl, ap, ◌∙◌, arith, lit<}
use Rattle.std.specs.Prelude.{Option, Some, Result, Ok, Err, IfOk, IsTrue, nat_eq, if◌then◌else◌, slice_get, zero, suc}
use Rattle.std.specs.Option.{option_map}
use Rattle.std.proofs.lemmas.Bool.Decides.{nat_tests}
use Rattle.wasm_ast.specs.declared.val_types.ValType.{ValType}
use Rattle.wasm_ast.specs.declared.val_types.ValType.TheVariants.{I32, I64, F32, F64}
use Rattle.wasm_num.specs.declared.operators.ConvertOp.{ConvertOp}
use Rattle.wasm_num.specs.declared.operators.ConvertOp.TheVariants as convert
use Rattle.wasm_num.specs.declared.operators.NumTrap.{NumTrap}
use Rattle.wasm_num.specs.Num.{signed, num_unary, num_binary, num_compare, num_convert}
use Rattle.wasm_ast.specs.Operators.{bits, between, OperatorType, operator_type, compare_type, unary_type, binary_type, convert_type}
use Rattle.wasm_num.proofs.Bounds.{wrap_below, unary_below, binary_below, convert_below}
use Rattle.wasm_semantics.specs.declared.operators.Operator.{Operator}
use Rattle.wasm_semantics.specs.declared.operators.Operator.TheVariants.{Test, Compare, Unary, Binary, Convert, Extend}
use Rattle.wasm_semantics.specs.Operators.{extended_from, operator_of, type_of_operator, compares, unaries, binaries, extensions, low_bits, Computed, Number, Fails, Missing, truth, of_result, with_one, with_two, compute}
use Rattle.wasm_semantics.specs.OfModule.{Fits, Holds}

pub fits_wrapped : (t : ValType) (n : ℕ) → Fits t (n % 2 ^ bits t)
fits_wrapped I32 n = omega arith
fits_wrapped I64 n = omega arith
fits_wrapped F32 n = omega arith
fits_wrapped F64 n = omega arith

fits_truth : (b : Bool) → Fits I32 (truth b)
fits_truth true = lit< tt
fits_truth false = lit< tt

abbrev pub NumFine : ValType → Computed → Type 0
NumFine t (Number n) = Fits t n
NumFine t (Fails trap) = Unit {0}
NumFine t Missing = ⊥

one_fine : (s t : ValType) (vs : List ℕ) (go : ℕ → Computed) → Holds (s ∷ []) vs → ((a : ℕ) → Fits s a → NumFine t (go a)) → NumFine t (with_one vs go)
one_fine s t [] go h k = absurd h
one_fine s t (v ∷ vs) go h k = k v h.0

two_fine : (s t : ValType) (vs : List ℕ) (go : ℕ → ℕ → Computed) → Holds (s ∷ s ∷ []) vs → ((a b : ℕ) → Fits s a → Fits s b → NumFine t (go a b)) → NumFine t (with_two vs go)
two_fine s t [] go h k = absurd h
two_fine s t (b ∷ []) go h k = absurd h.1
two_fine s t (b ∷ a ∷ vs) go h k = k a b h.1.0 h.0

some_bits : (t : ValType) → 0 < bits t
some_bits I32 = lit< tt
some_bits I64 = lit< tt
some_bits F32 = lit< tt
some_bits F64 = lit< tt

result_fine : (t : ValType) (r : Result ℕ NumTrap) → IfOk r (λ n. n < 2 ^ bits t) → NumFine t (of_result r)
result_fine t (Ok n) h = h
result_fine t (Err trap) h = tt

convert_fine : (op : ConvertOp) (args : List ℕ) → Holds (type_of_operator (Convert op)).takes args → NumFine (type_of_operator (Convert op)).leaves (compute (Convert op) args)
convert_fine convert.Wrap args h = one_fine I64 I32 args (λ a. Number (num_convert convert.Wrap a)) h (λ a fa. convert_below convert.Wrap a fa)
convert_fine convert.ExtendS args h = one_fine I32 I64 args (λ a. Number (num_convert convert.ExtendS a)) h (λ a fa. convert_below convert.ExtendS a fa)
convert_fine convert.ExtendU args h = one_fine I32 I64 args (λ a. Number (num_convert convert.ExtendU a)) h (λ a fa. convert_below convert.ExtendU a fa)

pub compute_fine : (op : Operator) (args : List ℕ) → Holds (type_of_operator op).takes args → NumFine (type_of_operator op).leaves (compute op args)
compute_fine (Test t) args h = one_fine t I32 args (λ a. Number (truth (nat_eq a 0))) h (λ a fa. fits_truth (nat_eq a 0))
compute_fine (Compare t op) args h = two_fine t I32 args (λ a b. Number (truth (num_compare op (bits t) a b))) h (λ a b fa fb. fits_truth (num_compare op (bits t) a b))
compute_fine (Unary t op) args h = one_fine t t args (λ a. Number (num_unary op (bits t) a)) h (λ a fa. unary_below op (bits t) a fa)
compute_fine (Binary t op) args h = two_fine t t args (λ a b. of_result (num_binary op (bits t) a b)) h (λ a b fa fb. result_fine t (num_binary op (bits t) a b) (binary_below op (bits t) a b (some_bits t) fa fb))
compute_fine (Convert op) args h = convert_fine op args h
compute_fine (Extend t n) args h = one_fine t t args (λ a. Number (extended_from n (bits t) a)) h (λ a fa. wrap_below (bits t) (signed n (a % 2 ^ n)))

-- the operator of an opcode that has a type has that type
abbrev Agree : Option OperatorType → Option Operator → Type 0
Agree x y = (o : OperatorType) → x ≡ Some o → (op : Operator) × (y ≡ Some op) × (type_of_operator op ≡ o)

if_both : (b : Bool) (x x' : Option OperatorType) (y y' : Option Operator) → (IsTrue b → Agree x y) → Agree x' y' → Agree (if b then x else x') (if b then y else y')
if_both true x x' y y' h k = h refl
if_both false x x' y y' h k = k

alone : (op : Operator) → Agree (Some (type_of_operator op)) (Some op)
alone op o e = (op, refl, cc)

found : {A : Type 0} (xs : List A) (k : ℕ) → k < length xs → (a : A) × (slice_get xs k ≡ Some a)
found [] k h = absurd (omega arith)
found (x ∷ xs) zero h = (x, refl)
found (x ∷ xs) (suc k) h = found xs k (omega arith)

listed : {A : Type 0} (xs : List A) (make : A → Operator) (t : OperatorType) (k : ℕ) → ((a : A) → type_of_operator (make a) ≡ t) → k < length xs → Agree (Some t) (option_map make (slice_get xs k))
listed xs make t k typed h o e =
    let f = found xs k h in
    (make f.0, ap (option_map make) f.1, typed f.0 ∙ (let same : t ≡ o = cc in same))

in_range : (low high n : ℕ) → IsTrue (between low high n) → n - low < suc (high - low)
in_range low high n h = grind (arith, nat_tests)

extension_type : (op : ConvertOp) (k : ℕ) → slice_get extensions k ≡ Some op → type_of_operator (Convert op) ≡ convert_type I32 I64
extension_type convert.Wrap zero e = cc
extension_type convert.Wrap (suc zero) e = cc
extension_type convert.Wrap (suc (suc k)) e = cc
extension_type convert.ExtendS k e = refl
extension_type convert.ExtendU k e = refl

extended_by : (k : ℕ) → k < 2 → Agree (Some (convert_type I32 I64)) (option_map Convert (slice_get extensions k))
extended_by k h o e =
    let f = found extensions k h in
    (Convert f.0, ap (option_map Convert) f.1, extension_type f.0 k f.1 ∙ (let same : convert_type I32 I64 ≡ o = cc in same))

kept_bits : (t : ValType) (k : ℕ) → k < 3 → Agree (Some (unary_type t)) (option_map (Extend t) (slice_get low_bits k))
kept_bits t k h = listed low_bits (Extend t) (unary_type t) k (λ n. refl) h

pub operator_typed : (n : ℕ) → Agree (operator_type n) (operator_of n)
unfolding operator_type operator_of
operator_typed n =
    if_both (nat_eq n 69) _ _ _ _ (λ e. alone (Test I32))
    (if_both (between 70 79 n) _ _ _ _ (λ e. listed compares (Compare I32) (compare_type I32) (n - 70) (λ a. refl) (in_range 70 79 n e))
    (if_both (nat_eq n 80) _ _ _ _ (λ e. alone (Test I64))
    (if_both (between 81 90 n) _ _ _ _ (λ e. listed compares (Compare I64) (compare_type I64) (n - 81) (λ a. refl) (in_range 81 90 n e))
    (if_both (between 103 105 n) _ _ _ _ (λ e. listed unaries (Unary I32) (unary_type I32) (n - 103) (λ a. refl) (in_range 103 105 n e))
    (if_both (between 106 120 n) _ _ _ _ (λ e. listed binaries (Binary I32) (binary_type I32) (n - 106) (λ a. refl) (in_range 106 120 n e))
    (if_both (between 121 123 n) _ _ _ _ (λ e. listed unaries (Unary I64) (unary_type I64) (n - 121) (λ a. refl) (in_range 121 123 n e))
    (if_both (between 124 138 n) _ _ _ _ (λ e. listed binaries (Binary I64) (binary_type I64) (n - 124) (λ a. refl) (in_range 124 138 n e))
    (if_both (nat_eq n 167) _ _ _ _ (λ e. alone (Convert convert.Wrap))
    (if_both (between 172 173 n) _ _ _ _ (λ e. extended_by (n - 172) (in_range 172 173 n e))
    (if_both (between 192 193 n) _ _ _ _ (λ e. kept_bits I32 (n - 192) (let few = in_range 192 193 n e in omega arith))
    (if_both (between 194 196 n) _ _ _ _ (λ e. kept_bits I64 (n - 194) (in_range 194 196 n e))
    (λ o e. cc))))))))))))
