-- Tables under names.
use Rattle.std.proofs.Common.{◌≡◌, ℕ, zero, suc, ◌<◌, Bool, true, false, cond, List, [], ◌∷◌, Some, None, length, refl, sym, ◌∙◌, arith, get_or, nat_eq, subst}
use Rattle.std.specs.Prelude.{◌≢◌, ◌++◌, All, IsTrue, Result, Ok, Err, OnOk, OnErr}
use Rattle.std.specs.List.{AllPairs, IsDistinct}
use Rattle.std.specs.Map.{lookup, keys_of}
use Rattle.std.specs.Cmp.Lexicographic.{pointwise, bytes_decides}
use Rattle.std.proofs.lemmas.List.{get_or-map, length-map}
use Rattle.std.proofs.lemmas.List.Elements.{All-push, All-same}
use Rattle.std.proofs.lemmas.Map.Keys.{apart_from_distinct}
use Rattle.indexmap.specs.IndexMap.{IndexMap, insert_entry}
use Rattle.indexmap.proofs.CallerLemmas.{insert_entry-new}
use Rattle.trapeze_io.specs.Names.{is_name}
use Rattle.trapeze_io.specs.contracts.names.NamePartialEq.TheImpl.{eq-value}
use Rattle.label_lattice.proofs.Places.{same_name}

-- names in place find what their bytes find
pub found_value : {X : Type 0} (name : List ℕ) (es : List (List ℕ × X)) → lookup (eq-value.it name) es ≡ lookup (pointwise nat_eq name) es
found_value name es = λ i. lookup (λ k. same_name name k i) es

-- what holds of each entry holds of the value that is found
pub lookup_all : {H X : Type 0} (p : H → Bool) (P : X → Type 0) (es : List (H × X)) → ((k : ℕ) (d : H × X) → k < length es → P (get_or es k d).1) → (x : X) → lookup p es ≡ Some x → P x
lookup_all p P [] all x e = absurd (let k : None ≡ Some x = e in cc)
lookup_all p P (entry ∷ es) all x e =
    elim (p entry.0) as (λ t. cond t (Some entry.1) (lookup p es) ≡ Some x → P x) [
      | true ↦ λ found. let same : entry.1 ≡ x = cc in subst P same (all zero entry (omega arith))
      | false ↦ λ found. lookup_all p P es (λ k d lt. all (suc k) d (omega arith)) x found
    ] e

-- what is no name is not found among names
pub no_value : {X : Type 0} (name : List ℕ) (es : List (List ℕ × X)) → (IsTrue (is_name name) → ⊥) → All (λ e. IsTrue (is_name e.0)) es → lookup (pointwise nat_eq name) es ≡ None
no_value name [] bad all = refl
no_value name (e ∷ es) bad all =
    elim (pointwise nat_eq name e.0) as (λ t. pointwise nat_eq name e.0 ≡ t → cond t (Some e.1) (lookup (pointwise nat_eq name) es) ≡ None) [
      | true ↦ λ same. absurd (bad (subst (λ n. IsTrue (is_name n)) (sym ((bytes_decides name e.0).0 same)) (all zero e (omega arith))))
      | false ↦ λ other. no_value name es bad (λ k d lt. all (suc k) d (omega arith))
    ] refl

-- distinct names in place are distinct bytes
pub named_apart : {X : Type 0} (es : List (List ℕ × X)) → IsDistinct eq-value.it (keys_of es) → AllPairs (λ c d. c.0 ≢ d.0) es
named_apart es distinct i j d lt within =
    let keyed : j < length (keys_of es) = subst (λ n. j < n) (sym (length-map es (λ e. e.0))) within in
    let first : get_or (keys_of es) i d.0 ≡ (get_or es i d).0 = get_or-map (λ e. e.0) es i d d.0 (omega arith) in
    let second : get_or (keys_of es) j d.0 ≡ (get_or es j d).0 = get_or-map (λ e. e.0) es j d d.0 within in
    let differ : eq-value.it (get_or (keys_of es) i d.0) (get_or (keys_of es) j d.0) ≡ false = apart_from_distinct eq-value.it (keys_of es) i j d.0 distinct lt keyed in
    λ same. let k : true ≡ false = sym ((bytes_decides (get_or (keys_of es) i d.0) (get_or (keys_of es) j d.0)).1 (first ∙ same ∙ sym second)) ∙ sym (same_name (get_or (keys_of es) i d.0) (get_or (keys_of es) j d.0)) ∙ differ in cc

module _ {X S : Type 0} (m : IndexMap (List ℕ) X S) (name : List ℕ) (x : X) (fresh : lookup (pointwise nat_eq name) m.entries ≡ None) where
  -- an entry under a new name goes last
  pub inserted_last : insert_entry eq-value.it m.entries name x ≡ m.entries ++ (name, x) ∷ []
  inserted_last = insert_entry-new eq-value.it m name x (found_value name m.entries ∙ fresh)

  -- and each entry stands under a name as before, also where the insertion was refused
  pub inserted_named : {T E : Type 0} (r : Result T E) (now : List (List ℕ × X)) → All (λ e. IsTrue (is_name e.0)) m.entries → IsTrue (is_name name)
      → OnOk r (now ≡ insert_entry eq-value.it m.entries name x) → OnErr r (now ≡ m.entries) → All (λ e. IsTrue (is_name e.0)) now
  inserted_named (Ok y) now all good done same = All-same (λ e. IsTrue (is_name e.0)) now (m.entries ++ (name, x) ∷ []) (done ∙ inserted_last) (All-push (λ e. IsTrue (is_name e.0)) m.entries (name, x) all good)
  inserted_named (Err y) now all good done same = All-same (λ e. IsTrue (is_name e.0)) now m.entries same all
