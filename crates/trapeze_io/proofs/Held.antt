-- Files that are held in memory, as one more is held, and as they are searched.
use Rattle.std.proofs.Common.{◌≡◌, ℕ, zero, suc, ◌+◌, ◌<◌, ◌≤◌, List, [], ◌∷◌, ◌++◌, length, length-append, take, reverse, refl, sym, ap, ◌∙◌, arith, None, Some, IfSome, true, false, get_or, if◌then◌else◌}
use Rattle.std.specs.declared.option.Option.{Option}
use Rattle.std.specs.List.{slice_get}
use Rattle.std.specs.Str.{bytes_eq}
use Rattle.std.proofs.Math.Seq.{take-suc}
use Rattle.std.proofs.lemmas.List.{reverse-append}
use Rattle.std.proofs.lemmas.Option.{slice_get-get_or}
use Rattle.std.proofs.lemmas.Slice.Eq.{bytes_eq-Decides}
use Rattle.trapeze_io.specs.Memory.{File, file_held}
use Rattle.trapeze_io.specs.Places.{bytes_at, open_at, name_of, last_name_in, IsNamedIn}
use Rattle.trapeze_io.specs.declared.memory_files.LastName.{LastName}
use Rattle.trapeze_io.specs.declared.memory_files.LastName.TheVariants.{Untold, Held, Other}

pub slice_get_front : {A : Type 0} (xs ys : List A) (i : ℕ) → i < length xs → slice_get (xs ++ ys) i ≡ slice_get xs i
slice_get_front [] ys i within = absurd (omega arith)
slice_get_front (x ∷ xs) ys zero within = refl
slice_get_front (x ∷ xs) ys (suc i) within = slice_get_front xs ys i (omega arith)

-- the open file stays as it is while one more is held
pub open_grown : (files : List File) (file : File) (current : Option ℕ) (given : ℕ) → IfSome current (λ place. place < length files)
    → open_at (files ++ file ∷ []) current given ≡ open_at files current given
open_grown files file None given within = refl
open_grown files file (Some place) given within = rw (slice_get_front files (file ∷ []) place within) refl

pub bytes_grown : (files : List File) (file : File) (current : Option ℕ) → IfSome current (λ place. place < length files)
    → bytes_at (files ++ file ∷ []) current ≡ bytes_at files current
bytes_grown files file None within = refl
bytes_grown files file (Some place) within = rw (slice_get_front files (file ∷ []) place within) refl

-- the name that was opened last stays as it is
pub last_name_grown : (files : List File) (file : File) (last : LastName) → IsNamedIn files last
    → last_name_in (files ++ file ∷ []) last ≡ last_name_in files last
last_name_grown files file Untold within = refl
last_name_grown files file (Held place) within = rw (slice_get_front files (file ∷ []) place within) refl
last_name_grown files file (Other name) within = refl

pub named_grown : (files : List File) (file : File) (last : LastName) → IsNamedIn files last → IsNamedIn (files ++ file ∷ []) last
named_grown files file Untold within = tt
named_grown files file (Held place) within = omega (arith, length-append files (file ∷ []))
named_grown files file (Other name) within = tt

pub reverse_more : (files : List File) (file : File) → reverse (files ++ file ∷ []) ≡ file ∷ reverse files
reverse_more files file = reverse-append files (file ∷ [])

-- one more file is searched, before those that were held earlier
pub held_more : (files : List File) (file : File) (name : List ℕ)
    → file_held (reverse (files ++ file ∷ [])) name ≡ (if bytes_eq file.name name then Some file.bytes else file_held (reverse files) name)
held_more files file name = rw (reverse_more files file) refl

pub seam : (files : List File) (place : ℕ) (file : File) → place < length files → file ≡ get_or files place file
    → take (place + 1) files ≡ take place files ++ file ∷ []
seam files place file within is =
    let next : place + 1 ≡ suc place = omega arith in
    rw next (take-suc files place file within ∙ ap (λ x. take place files ++ x ∷ []) (sym is))

pub held_here : (files : List File) (place : ℕ) (file : File) (name : List ℕ) → place < length files → file ≡ get_or files place file
    → bytes_eq file.name name ≡ true → Some (bytes_at files (Some place)) ≡ file_held (reverse (take (place + 1) files)) name
held_here files place file name within is same =
    rw (seam files place file within is, held_more (take place files) file name, same, slice_get-get_or files place file within, ← is) refl

pub held_earlier : (files : List File) (place : ℕ) (file : File) (name : List ℕ) → place < length files → file ≡ get_or files place file
    → bytes_eq file.name name ≡ false → file_held (reverse (take place files)) name ≡ file_held (reverse (take (place + 1) files)) name
held_earlier files place file name within is other =
    rw (seam files place file within is, held_more (take place files) file name, other) refl

-- the file at the place that was found, as the search goes on
pub named_more : (files : List File) (found : Option ℕ) (i : ℕ) (name : List ℕ)
    → IfSome found (λ place. (place < i) × (name_of (slice_get files place) ≡ name))
    → IfSome found (λ place. (place < i + 1) × (name_of (slice_get files place) ≡ name))
named_more files None i name below = tt
named_more files (Some place) i name below = (omega (arith, below.0), below.1)

pub named_within : (files : List File) (found : Option ℕ) (i : ℕ) (name : List ℕ) → i ≤ length files
    → IfSome found (λ place. (place < i) × (name_of (slice_get files place) ≡ name))
    → IfSome found (λ place. (place < length files) × (name_of (slice_get files place) ≡ name))
named_within files None i name fits below = tt
named_within files (Some place) i name fits below = (omega (arith, below.0), below.1)

pub named_here : (files : List File) (place : ℕ) (file : File) (name : List ℕ) → place < length files → file ≡ get_or files place file
    → bytes_eq file.name name ≡ true → name_of (slice_get files place) ≡ name
named_here files place file name within is same =
    rw (slice_get-get_or files place file within, ← is) ((bytes_eq-Decides file.name name).0 same)
