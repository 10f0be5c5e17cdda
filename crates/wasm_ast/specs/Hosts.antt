-- The functions that the host lends, by the names under which they are imported.
use Rattle.std.specs.Prelude.{ℕ, List, [], ◌∷◌, Bool, true, false, ◌&&◌}
use Rattle.std.specs.Prelude.{bytes_eq, Option, Some, None, option_map, option_and_then, slice_get, find}
use lib.Chars.{codes}
use Rattle.wasm_ast.specs.declared.val_types.ValType.{ValType}
use Rattle.wasm_ast.specs.declared.val_types.ValType.TheVariants.{I32, I64, F32, F64}
use Rattle.wasm_ast.specs.declared.hosts.HostName.{HostName}
use Rattle.wasm_ast.specs.declared.hosts.HostName.TheVariants.{Input, Read, Write, Delete, Send, Raise, Reply, OwnLabel, Release}
use Rattle.wasm_ast.specs.declared.func_types.FuncType.{FuncType}
use Rattle.wasm_ast.specs.declared.imports.Import.{Import}
use Rattle.wasm_ast.specs.declared.modules.Module.{Module}
use Rattle.wasm_ast.specs.Spaces.{imported_type}

-- the nine host calls by their names
abbrev pub host_names : List (List ℕ × HostName)
host_names =
    (codes "input", Input) ∷ (codes "read", Read) ∷ (codes "write", Write) ∷ (codes "delete", Delete) ∷ (codes "send", Send)
    ∷ (codes "raise", Raise) ∷ (codes "reply", Reply) ∷ (codes "own_label", OwnLabel) ∷ (codes "release", Release) ∷ []

-- the host call of a name
unfoldable pub host_named : List ℕ → Option HostName
host_named name = option_map (λ (h : List ℕ × HostName). h.1) (find (λ (h : List ℕ × HostName). bytes_eq h.0 name) host_names)

-- what each takes
abbrev pub host_params : HostName → List ValType
host_params Input = I32 ∷ I32 ∷ []
host_params Read = I32 ∷ I32 ∷ I32 ∷ I32 ∷ []
host_params Write = I32 ∷ I32 ∷ I32 ∷ I32 ∷ []
host_params Delete = I32 ∷ I32 ∷ []
host_params Send = I32 ∷ I32 ∷ I32 ∷ I32 ∷ []
host_params Raise = I32 ∷ I32 ∷ []
host_params Reply = I32 ∷ I32 ∷ []
host_params OwnLabel = I32 ∷ I32 ∷ []
host_params Release = I32 ∷ I32 ∷ I32 ∷ I32 ∷ []

-- what each answers
abbrev pub host_results : HostName → List ValType
host_results Input = I32 ∷ []
host_results Read = I32 ∷ []
host_results Write = I32 ∷ []
host_results Delete = I32 ∷ []
host_results Send = []
host_results Raise = []
host_results Reply = []
host_results OwnLabel = I32 ∷ []
host_results Release = []

-- the type of a host call
abbrev pub host_type : HostName → FuncType
host_type h = record { params = host_params h; results = host_results h }

-- types of values are the same
abbrev pub same_val_type : ValType → ValType → Bool
same_val_type I32 I32 = true
same_val_type I64 I64 = true
same_val_type F32 F32 = true
same_val_type F64 F64 = true
same_val_type _ _ = false

-- lists of them are the same
abbrev pub same_val_types : List ValType → List ValType → Bool
same_val_types [] [] = true
same_val_types [] (u ∷ us) = false
same_val_types (t ∷ ts) [] = false
same_val_types (t ∷ ts) (u ∷ us) = same_val_type t u && same_val_types ts us

-- types of functions are the same in structure
abbrev pub same_type : FuncType → FuncType → Bool
same_type a b = same_val_types a.params b.params && same_val_types a.results b.results

-- the type found is that of the host call
abbrev pub agrees : Option HostName → Option FuncType → Bool
agrees None found = false
agrees (Some h) None = false
agrees (Some h) (Some found) = same_type found (host_type h)

-- the import is a function of module `trapeze`, with the name and the type of a host call
abbrev pub is_host : Module → Import → Bool
is_host m i = bytes_eq i.«module» (codes "trapeze") && agrees (host_named i.name) (imported_type m i.kind)

-- the host call that the import with this index names
abbrev pub host_of : Module → ℕ → Option HostName
host_of m x = option_and_then (λ (i : Import). host_named i.name) (slice_get m.imports x)
