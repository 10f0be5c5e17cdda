-- The files of the functions, read one after the other.
use Rattle.std.proofs.Common.{◌≡◌, ℕ, suc, ◌+◌, List, [], ◌∷◌, ◌++◌, length, take, drop, Some, None, IfSome, Result, Ok, Err, inl, inr, refl, sym, ap, subst, ◌∙◌, arith, append_assoc, take-append-drop}
use Rattle.std.specs.declared.option.Option.{Option}
use Rattle.std.specs.Prelude.{slice_get, ◌⊎◌, IfOk, IfErr, IsErrAnd}
use Rattle.std.proofs.lemmas.Option.{slice_get_within, get_or_from_slice_get}
use Rattle.std.proofs.lemmas.List.{take_more, length-take-le}
use Rattle.trapeze_io.specs.Seen.{Seen, Held, OpensAll}
use Rattle.trapeze_io.proofs.Opens.{OpensAll-append, OpensAll-held}
use Rattle.wasm_ast.specs.declared.modules.Module.{Module as Program}
use Rattle.wasm_ast.specs.Validity.{Valid}
use Rattle.wasm_code.specs.declared.error.DecodeError.{DecodeError}
use Rattle.wasm_code.specs.declared.error.DecodeError.TheVariants as decode
use Rattle.wasm_decode.specs.Grammar.{Spells}
use Rattle.wasm_decode.specs.Sections.{Fails}
use Rattle.wasm_validate.specs.Invalids.{IsRefused as IsRefusedFor}
use Rattle.wasm_validate.specs.declared.invalid.Invalid.{Invalid as InvalidFault}
use Rattle.wasm_validate.specs.declared.invalid.Invalid.TheVariants as invalid
use Rattle.trapeze_cli.specs.declared.status.Status.{Status}
use Rattle.trapeze_cli.specs.declared.status.Status.TheVariants.{Module, NoMemory}
use Rattle.trapeze_cli.specs.declared.status.Input.TheVariants.{Module as module_input}
use Rattle.fault_texts.specs.declared.modules.ModuleFault.TheVariants.{Decode, Invalid}
use Rattle.trapeze_cli.specs.Forms.{Source, module_sources}
use Rattle.trapeze_cli.specs.Command.{module_limit, file_of, IsModule, AreModules}
use Rattle.trapeze_cli.specs.Judged.{IsTold, IsUnfit, IsJudged}
use Rattle.trapeze_cli.specs.Opens.{names_of, OpensTo}
use Rattle.trapeze_cli.specs.Steps.{Ends, Steps, IsReachedModule}
use Rattle.trapeze_cli.specs.Whys.{why, IfReadFailed}
use Rattle.trapeze_cli.proofs.Refusals.{IfSome-map, IfSome-all}
use Rattle.trapeze_cli.proofs.StepsInTurn.{opens_one, names-append, ends_later, ends_first, ends_same, failed_input}

-- what a module that was refused tells

pub unfit_told : (function : ℕ) (program : Program) (told : InvalidFault) (status : Status) → IsRefusedFor program told
    → IsTold (Module function (Invalid told)) (told ≡ invalid.NoMemory) status → IsUnfit function program status
unfit_told function program told status refused (inl k) = inl k.0
unfit_told function program (invalid.Float place) status refused (inr k) = inr (invalid.Float place, _, k.0, refl, refused)
unfit_told function program (invalid.Import i) status refused (inr k) = inr (invalid.Import i, _, k.0, refl, refused)
unfit_told function program (invalid.Structure n) status refused (inr k) = inr (invalid.Structure n, _, k.0, refl, refused)
unfit_told function program invalid.NoHandle status refused (inr k) = inr (invalid.NoHandle, _, k.0, refl, refused)
unfit_told function program (invalid.Segment place) status refused (inr k) = inr (invalid.Segment place, _, k.0, refl, refused)
unfit_told function program (invalid.IllTyped f) status refused (inr k) = inr (invalid.IllTyped f, _, k.0, refl, refused)
unfit_told function program invalid.NoMemory status refused (inr k) = absurd (k.1 refl)

unfit_judged : (function : ℕ) (bytes : List ℕ) (program : Program) (status : Status) → Spells program bytes → IsUnfit function program status → IsJudged function bytes (Err status)
unfit_judged function bytes program status spells (inl is) = inl is
unfit_judged function bytes program status spells (inr (told, fault, is, at, invalid)) = inr (Invalid told, is, (program, fault, spells, at, invalid))

pub accepted_judged : (function : ℕ) (bytes : List ℕ) (program : Program) (result : Result Program Status) → Spells program bytes
    → IfOk result (λ valid. (valid ≡ program) × Valid program) → IfErr result (IsUnfit function program) → IsJudged function bytes result
accepted_judged function bytes program (Ok valid) spells ok err =
    (subst (λ (m : Program). Spells m bytes) (sym ok.0) spells, subst (λ (m : Program). Valid m) (sym ok.0) ok.1)
accepted_judged function bytes program (Err status) spells ok err = unfit_judged function bytes program status spells err

pub undecoded_judged : (function : ℕ) (bytes : List ℕ) (fault : DecodeError) (status : Status) → (fault ≡ decode.NoMemory) ⊎ Fails bytes fault
    → IsTold (Module function (Decode fault)) (fault ≡ decode.NoMemory) status → IsJudged function bytes (Err status)
undecoded_judged function bytes fault status fails (inl k) = inl k.0
undecoded_judged function bytes fault status (inl memory) (inr k) = absurd (k.1 memory)
undecoded_judged function bytes fault status (inr fails) (inr k) = inr (Decode fault, k.0, fails)

-- the file of one function

abbrev pub source_of : ℕ → List ℕ → Source
source_of f name = record { input = module_input f; name = name }

pub unread_ends : (f : ℕ) (name : List ℕ) (status : Status) (old new : Seen) → Ends (source_of f name ∷ []) (λ h r. file_of h name module_limit (module_input f) ≡ r) status old new
    → Ends (source_of f name ∷ []) (λ h r. IsModule h f name r) status old new
unread_ends f name status old new e =
    ends_same (source_of f name ∷ []) (λ h r. file_of h name module_limit (module_input f) ≡ r) (λ h r. IsModule h f name r) status old new
    (IfSome-all old.held (λ h stop. inl stop)) e

judged_ends : (f : ℕ) (name bytes : List ℕ) (status : Status) (old new : Seen) → OpensAll (name ∷ []) old new
    → IfSome old.held (λ h. file_of h name module_limit (module_input f) ≡ Ok bytes) → IsJudged f bytes (Err status)
    → Ends (source_of f name ∷ []) (λ h r. IsModule h f name r) status old new
judged_ends f name bytes status old new opens file (inl is) =
    subst (λ (s : Status). Ends (source_of f name ∷ []) (λ h r. IsModule h f name r) s old new) (sym is)
    (record { opens = opens_one (source_of f name) NoMemory old new opens tt; refused = tt })
judged_ends f name bytes status old new opens file (inr (fault, is, faulty)) =
    subst (λ (s : Status). Ends (source_of f name ∷ []) (λ h r. IsModule h f name r) s old new) (sym is)
    (record {
      opens = opens_one (source_of f name) (Module f fault) old new opens refl;
      refused = IfSome-map old.held (λ h at. inr (bytes, fault, at, refl, faulty)) file;
    })

pub judged_steps : (f : ℕ) (name bytes : List ℕ) (old new : Seen) (result : Result Program Status) → OpensAll (name ∷ []) old new
    → IfSome old.held (λ h. file_of h name module_limit (module_input f) ≡ Ok bytes) → IsJudged f bytes result
    → Steps (source_of f name ∷ []) (λ h r. IsModule h f name r) old new result
judged_steps f name bytes old new (Ok m) opens file judged = opens
judged_steps f name bytes old new (Err status) opens file judged = judged_ends f name bytes status old new opens file judged

pub judged_ok : (f : ℕ) (name bytes : List ℕ) (held : Option Held) (result : Result Program Status)
    → IfSome held (λ h. file_of h name module_limit (module_input f) ≡ Ok bytes) → IsJudged f bytes result
    → IfOk result (λ m. IfSome held (λ h. IsModule h f name (Ok m)))
judged_ok f name bytes held (Ok m) file judged = IfSome-map held (λ h at. (bytes, at, judged.0, judged.1)) file
judged_ok f name bytes held (Err status) file judged = tt

-- one more file

pub take_one : (names : List (List ℕ)) (f : ℕ) (name : List ℕ) → slice_get names f ≡ Some name → take (f + 1) names ≡ take f names ++ name ∷ []
take_one names f name is = take_more names f [] (slice_get_within names f name is) ∙ ap (λ x. take f names ++ x ∷ []) (get_or_from_slice_get names f name [] is)

pub names_at : (names : List (List ℕ)) (f : ℕ) (name : List ℕ) → slice_get names f ≡ Some name → names ≡ take f names ++ name ∷ drop (f + 1) names
names_at names f name is = sym (take-append-drop (f + 1) names) ∙ ap (λ t. t ++ drop (f + 1) names) (take_one names f name is) ∙ append_assoc (take f names) (name ∷ []) (drop (f + 1) names)

long_prefix : (names : List (List ℕ)) (f : ℕ) (name : List ℕ) → slice_get names f ≡ Some name → length (take f names) ≡ f
long_prefix names f name is = length-take-le f names (let h = slice_get_within names f name is in omega arith)

pub sources-append : (xs : List (List ℕ)) (k : ℕ) (ys : List (List ℕ)) → module_sources k (xs ++ ys) ≡ module_sources k xs ++ module_sources (k + length xs) ys
sources-append [] k ys = let e : k ≡ k + 0 = omega arith in ap (λ n. module_sources n ys) e
sources-append (x ∷ xs) k ys =
    let e : k + 1 + length xs ≡ k + suc (length xs) = omega arith in
    ap (λ s. source_of k x ∷ s) (sources-append xs (k + 1) ys ∙ ap (λ n. module_sources (k + 1) xs ++ module_sources n ys) e)

sources_at : (names : List (List ℕ)) (f : ℕ) (name : List ℕ) → slice_get names f ≡ Some name
    → module_sources 0 names ≡ (module_sources 0 (take f names) ++ source_of f name ∷ []) ++ module_sources (f + 1) (drop (f + 1) names)
sources_at names f name is =
    let long : 0 + length (take f names) ≡ f = omega (arith, long_prefix names f name is) in
    ap (module_sources 0) (names_at names f name is)
    ∙ sources-append (take f names) 0 (name ∷ drop (f + 1) names)
    ∙ ap (λ n. module_sources 0 (take f names) ++ module_sources n (name ∷ drop (f + 1) names)) long
    ∙ sym (append_assoc (module_sources 0 (take f names)) (source_of f name ∷ []) (module_sources (f + 1) (drop (f + 1) names)))

sources_more : (names : List (List ℕ)) (f : ℕ) (name : List ℕ) → slice_get names f ≡ Some name
    → module_sources 0 (take (f + 1) names) ≡ module_sources 0 (take f names) ++ source_of f name ∷ []
sources_more names f name is =
    let long : 0 + length (take f names) ≡ f = omega (arith, long_prefix names f name is) in
    ap (module_sources 0) (take_one names f name is) ∙ sources-append (take f names) 0 (name ∷ []) ∙ ap (λ n. module_sources 0 (take f names) ++ module_sources n (name ∷ [])) long

pub opened_more : (names : List (List ℕ)) (f : ℕ) (name : List ℕ) (old mid new : Seen) → slice_get names f ≡ Some name → OpensAll (names_of (module_sources 0 (take f names))) old mid
    → OpensAll (name ∷ []) mid new → OpensAll (names_of (module_sources 0 (take (f + 1) names))) old new
opened_more names f name old mid new is p q =
    subst (λ s. OpensAll s old new) (sym (names-append (module_sources 0 (take f names)) (source_of f name ∷ [])) ∙ ap names_of (sym (sources_more names f name is)))
    (OpensAll-append (names_of (module_sources 0 (take f names))) (name ∷ []) old mid new p q)

module _ (held : Held) where
  -- one more module was read
  pub modules_push : (names : List (List ℕ)) (k : ℕ) (name : List ℕ) (all : List Program) (m : Program) (f : ℕ) → f ≡ k + length names → AreModules held k names (Ok all) → IsModule held f name (Ok m)
      → AreModules held k (names ++ name ∷ []) (Ok (all ++ m ∷ []))
  modules_push [] k name all m f at so one =
      let same : f ≡ k = omega (arith, at) in
      let none : all ≡ [] = cc in
      subst (λ xs. AreModules held k (name ∷ []) (Ok (xs ++ m ∷ []))) (sym none) (subst (λ n. IsModule held n name (Ok m)) same one, refl)
  modules_push (x ∷ names) k name [] m f at so one = absurd so
  modules_push (x ∷ names) k name (n ∷ all) m f at so one = (so.0, modules_push names (k + 1) name all m f (omega (arith, at)) so.1 one)

  -- the next one was refused
  pub modules_stop : (names : List (List ℕ)) (k : ℕ) (name : List ℕ) (more : List (List ℕ)) (all : List Program) (s : Status) (f : ℕ) → f ≡ k + length names → AreModules held k names (Ok all)
      → IsModule held f name (Err s) → AreModules held k (names ++ name ∷ more) (Err s)
  modules_stop [] k name more all s f at so one = let same : f ≡ k = omega (arith, at) in inl (subst (λ n. IsModule held n name (Err s)) same one)
  modules_stop (x ∷ names) k name more [] s f at so one = absurd so
  modules_stop (x ∷ names) k name more (m ∷ all) s f at so one = inr (m, so.0, modules_stop names (k + 1) name more all s f (omega (arith, at)) so.1 one)

pub read_more : (held : Option Held) (names : List (List ℕ)) (f : ℕ) (name : List ℕ) (all : List Program) (m : Program) (now : List Program) → slice_get names f ≡ Some name
    → IfSome held (λ h. AreModules h 0 (take f names) (Ok all)) → IfSome held (λ h. IsModule h f name (Ok m)) → now ≡ all ++ m ∷ []
    → IfSome held (λ h. AreModules h 0 (take (f + 1) names) (Ok now))
read_more None names f name all m now is so one pushed = tt
read_more (Some h) names f name all m now is so one pushed =
    let long : f ≡ 0 + length (take f names) = omega (arith, long_prefix names f name is) in
    subst (λ (xs : List Program). AreModules h 0 (take (f + 1) names) (Ok xs)) (sym pushed)
    (subst (λ ns. AreModules h 0 ns (Ok (all ++ m ∷ []))) (sym (take_one names f name is)) (modules_push h (take f names) 0 name all m f long so one))

stopped : (held : Option Held) (names : List (List ℕ)) (f : ℕ) (name : List ℕ) (all : List Program) (s : Status) → slice_get names f ≡ Some name
    → IfSome held (λ h. AreModules h 0 (take f names) (Ok all)) → IfSome held (λ h. IsModule h f name (Err s) → AreModules h 0 names (Err s))
stopped None names f name all s is so = tt
stopped (Some h) names f name all s is so = λ one.
    let long : f ≡ 0 + length (take f names) = omega (arith, long_prefix names f name is) in
    subst (λ ns. AreModules h 0 ns (Err s)) (sym (names_at names f name is)) (modules_stop h (take f names) 0 name (drop (f + 1) names) all s f long so one)

-- the file of a function ended the reading
pub module_ends : (names : List (List ℕ)) (f : ℕ) (name : List ℕ) (all : List Program) (status : Status) (old mid new : Seen) → slice_get names f ≡ Some name
    → OpensAll (names_of (module_sources 0 (take f names))) old mid → IfSome old.held (λ h. AreModules h 0 (take f names) (Ok all))
    → Ends (source_of f name ∷ []) (λ h r. IsModule h f name r) status mid new → Ends (module_sources 0 names) (λ h r. AreModules h 0 names r) status old new
module_ends names f name all status old mid new is opens so e =
    let before = module_sources 0 (take f names) in
    let here : Ends (before ++ source_of f name ∷ []) (λ h r. AreModules h 0 names r) status old new =
    ends_later before (source_of f name ∷ []) (λ h r. IsModule h f name r) (λ h r. AreModules h 0 names r) status old mid new opens (stopped old.held names f name all status is so) e in
    subst (λ sources. Ends sources (λ h r. AreModules h 0 names r) status old new) (sym (sources_at names f name is))
    (ends_first (before ++ source_of f name ∷ []) (module_sources (f + 1) (drop (f + 1) names)) (λ h r. AreModules h 0 names r) (λ h r. AreModules h 0 names r) status old new
    (IfSome-all old.held (λ h stop. stop)) here)

-- out of memory for one more module
pub memory_ends : (names : List (List ℕ)) (f : ℕ) (name : List ℕ) (old new : Seen) → slice_get names f ≡ Some name
    → OpensAll (names_of (module_sources 0 (take (f + 1) names))) old new → Ends (module_sources 0 names) (λ h r. AreModules h 0 names r) NoMemory old new
memory_ends names f name old new is opens = record {
  opens = record {
    before = module_sources 0 (take f names);
    last = source_of f name;
    after = module_sources (f + 1) (drop (f + 1) names);
    split = sources_at names f name is ∙ append_assoc (module_sources 0 (take f names)) (source_of f name ∷ []) (module_sources (f + 1) (drop (f + 1) names));
    is_last = tt;
    opens = subst (λ s. OpensAll (names_of s) old new) (sources_more names f name is) opens;
  };
  refused = tt;
}

-- the file of a function was reached
pub module_reached : (names : List (List ℕ)) (f : ℕ) (name : List ℕ) (all : List Program) (held : Option Held) (status : Status) (mid new : Seen) → slice_get names f ≡ Some name
    → IfSome held (λ h. AreModules h 0 (take f names) (Ok all)) → OpensTo (source_of f name ∷ []) status mid new
    → IfReadFailed (why status) (λ input. IfSome held (λ h. IsReachedModule h names input))
module_reached names f name all held status mid new is so opens =
    failed_input (source_of f name) status mid new (λ input. IfSome held (λ h. IsReachedModule h names input))
    (IfSome-map held (λ h before. record { function = f; is_input = refl; few = slice_get_within names f name is; programs = all; before = before }) so) opens

pub err_was : {A E : Type 0} (result : Result A E) (e : E) → IsErrAnd result (λ x. x ≡ e) → result ≡ Err e
err_was (Ok a) e is = absurd is
err_was (Err x) e is = ap Err is

-- what is told of the files after others were opened was told before
pub told_before : (P : Held → Type 0) (names : List (List ℕ)) (old mid : Seen) → OpensAll names old mid → IfSome mid.held P → IfSome old.held P
told_before P names old mid opens told = subst (λ (held : Option Held). IfSome held P) (OpensAll-held names old mid opens) told
