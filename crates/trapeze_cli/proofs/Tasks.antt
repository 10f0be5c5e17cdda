-- Words and files say one task.
use Rattle.std.proofs.Common.{◌≡◌, ℕ, ◌+◌, List, [], ◌∷◌, Some, None, Result, Ok, Err, inl, inr, sym, ap, subst, ◌∙◌}
use Rattle.std.specs.declared.option.Option.{Option}
use Rattle.std.specs.Prelude.{IsOk}
use Rattle.trapeze_io.specs.Seen.{Held}
use Rattle.policy_toml.specs.Parts.{Parts}
use Rattle.wasm_ast.specs.declared.modules.Module.{Module as Program}
use Rattle.wasm_ast.specs.Faults.{Fault}
use Rattle.wasm_ast.specs.Faults as fault
use Rattle.wasm_ast.specs.Validity.{Valid, Invalidity}
use Rattle.wasm_ast.proofs.OneFault as one
use Rattle.wasm_decode.specs.Grammar.{Spells}
use Rattle.wasm_decode.proofs.ModulesBothWays.{module_one, module_or_fault, one_fault}
use Rattle.wasm_validate.specs.Invalids.{fault_of}
use Rattle.wasm_validate.specs.declared.invalid.Invalid.{Invalid as InvalidFault}
use Rattle.wasm_validate.specs.declared.invalid.Invalid.TheVariants as invalid
use Rattle.trapeze_cli.specs.declared.status.Status.{Status}
use Rattle.trapeze_cli.specs.declared.status.Status.TheVariants.{Module}
use Rattle.trapeze_cli.specs.declared.status.Input.TheVariants.{Module as module_input}
use Rattle.fault_texts.specs.declared.modules.ModuleFault.{ModuleFault}
use Rattle.fault_texts.specs.declared.modules.ModuleFault.TheVariants.{Decode, Invalid}
use Rattle.trapeze_cli.specs.Forms.{Form, policy_name, Command, Exercise, OnFiles}
use Rattle.trapeze_cli.specs.Command.{module_limit, file_of, policy_in, shown_in, IsFaulty, IsModule, AreModules, Prepared, IsPrepared, Task, task_under, IsTaskUnder, IsTaskBy, IsTask, Answer, IsAnswerOf, answer_of}

ok_one : {X : Type 0} (r : Result X Status) (a b : X) → r ≡ Ok a → r ≡ Ok b → a ≡ b
ok_one {X = X} r a b p q = let e : ◌≡◌ {A = Result X Status} (Ok a) (Ok b) = sym p ∙ q in cc

-- a reading gives a value or ends
ok_or_err : {X P : Type 0} (r : Result X Status) (a : X) (s : Status) → r ≡ Ok a → r ≡ Err s → P
ok_or_err {X = X} r a s p q = let e : ◌≡◌ {A = Result X Status} (Ok a) (Err s) = sym p ∙ q in absurd cc

-- two errors of a reading are one
err_one : {X Y : Type 0} (r : Result X Status) (s t : Status) → r ≡ Err s → r ≡ Err t → ◌≡◌ {A = Result Y Status} (Err s) (Err t)
err_one {X = X} r s t p q = let e : ◌≡◌ {A = Result X Status} (Err s) (Err t) = sym p ∙ q in let same : s ≡ t = cc in ap Err same

differ : {X P : Type 0} (a : X) (s : Status) → ◌≡◌ {A = Result X Status} (Ok a) (Err s) → P
differ a s e = absurd cc

-- what is told of an invalid module is its fault
abbrev invalid_of : Fault → InvalidFault
invalid_of (fault.Float place) = invalid.Float place
invalid_of (fault.Import i) = invalid.Import i
invalid_of (fault.Structure n) = invalid.Structure n
invalid_of fault.NoHandle = invalid.NoHandle
invalid_of (fault.Segment place) = invalid.Segment place
invalid_of (fault.IllTyped k) = invalid.IllTyped k

told_is : (told : InvalidFault) (f : Fault) → fault_of told ≡ Some f → told ≡ invalid_of f
told_is (invalid.Float place) f e = let h : fault.Float place ≡ f = cc in ap invalid_of h
told_is (invalid.Import i) f e = let h : fault.Import i ≡ f = cc in ap invalid_of h
told_is (invalid.Structure n) f e = let h : fault.Structure n ≡ f = cc in ap invalid_of h
told_is invalid.NoHandle f e = let h : fault.NoHandle ≡ f = cc in ap invalid_of h
told_is (invalid.Segment place) f e = let h : fault.Segment place ≡ f = cc in ap invalid_of h
told_is (invalid.IllTyped k) f e = let h : fault.IllTyped k ≡ f = cc in ap invalid_of h
told_is invalid.NoMemory f e = absurd cc

-- bytes that spell a valid module have no fault
not_faulty : (bytes : List ℕ) (m : Program) (f : ModuleFault) → Spells m bytes → Valid m → IsFaulty bytes f → ⊥
not_faulty bytes m (Decode f) spells valid faulty = module_or_fault bytes m f spells faulty
not_faulty bytes m (Invalid told) spells valid (n, f, spelled, is, invalid) =
    one.no_fault m f valid (subst (λ (x : Program). Invalidity x f) (module_one bytes n m spelled spells) invalid)

-- and others have one
fault_one : (bytes : List ℕ) (a b : ModuleFault) → IsFaulty bytes a → IsFaulty bytes b → a ≡ b
fault_one bytes (Decode d) (Decode e) p q = ap Decode (one_fault bytes d e p q)
fault_one bytes (Decode d) (Invalid told) p (m, f, spells, is, invalid) = absurd (module_or_fault bytes m d spells p)
fault_one bytes (Invalid told) (Decode e) (m, f, spells, is, invalid) q = absurd (module_or_fault bytes m e spells q)
fault_one bytes (Invalid told) (Invalid other) (m, f, spells, is, invalid) (n, h, spelled, are, others) =
    let same : f ≡ h = one.one_fault m f h invalid (subst (λ (x : Program). Invalidity x h) (module_one bytes n m spelled spells) others) in
    ap Invalid (told_is told f is ∙ ap invalid_of same ∙ sym (told_is other h are))

module _ (held : Held) where
  file : ℕ → List ℕ → Result (List ℕ) Status
  file f name = file_of held name module_limit (module_input f)

  same_bytes : (P : List ℕ → Type 0) (f : ℕ) (name b c : List ℕ) → file f name ≡ Ok b → file f name ≡ Ok c → P c → P b
  same_bytes P f name b c p q h = subst P (sym (ok_one (file f name) b c p q)) h

  pub one_module : (f : ℕ) (name : List ℕ) (r q : Result Program Status) → IsModule held f name r → IsModule held f name q → r ≡ q
  unfolding file
  one_module f name (Ok m) (Ok n) (b, at, spells, valid) (c, there, spelled, others) =
      ap Ok (module_one b m n spells (same_bytes (Spells n) f name b c at there spelled))
  one_module f name (Ok m) (Err s) (b, at, spells, valid) (inl e) = ok_or_err (file f name) b s at e
  one_module f name (Ok m) (Err s) (b, at, spells, valid) (inr (c, fault, there, is, faulty)) =
      absurd (not_faulty b m fault spells valid (same_bytes (λ x. IsFaulty x fault) f name b c at there faulty))
  one_module f name (Err s) (Ok m) (inl e) (b, at, spells, valid) = ok_or_err (file f name) b s at e
  one_module f name (Err s) (Ok m) (inr (c, fault, there, is, faulty)) (b, at, spells, valid) =
      absurd (not_faulty b m fault spells valid (same_bytes (λ x. IsFaulty x fault) f name b c at there faulty))
  one_module f name (Err s) (Err t) (inl e) (inl d) = err_one (file f name) s t e d
  one_module f name (Err s) (Err t) (inl e) (inr (c, fault, there, is, faulty)) = ok_or_err (file f name) c s there e
  one_module f name (Err s) (Err t) (inr (c, fault, there, is, faulty)) (inl d) = ok_or_err (file f name) c t there d
  one_module f name (Err s) (Err t) (inr (b, fault, at, is, faulty)) (inr (c, other, there, are, others)) =
      ap Err (is ∙ ap (λ x. Module f x) (fault_one b fault other faulty (same_bytes (λ x. IsFaulty x other) f name b c at there others)) ∙ sym are)

  pub one_modules : (names : List (List ℕ)) (f : ℕ) (r q : Result (List Program) Status) → AreModules held f names r → AreModules held f names q → r ≡ q
  one_modules [] f r q p w = p ∙ sym w
  one_modules (name ∷ names) f (Ok []) q p w = absurd p
  one_modules (name ∷ names) f (Ok (m ∷ ms)) (Ok []) p w = absurd w
  one_modules (name ∷ names) f (Ok (m ∷ ms)) (Ok (n ∷ ns)) p w =
      let first : m ≡ n = let e = one_module f name (Ok m) (Ok n) p.0 w.0 in cc in
      let rest : ms ≡ ns = let e = one_modules names (f + 1) (Ok ms) (Ok ns) p.1 w.1 in cc in
      ap (λ x. Ok (x ∷ ms)) first ∙ ap (λ xs. Ok (n ∷ xs)) rest
  one_modules (name ∷ names) f (Ok (m ∷ ms)) (Err s) p (inl e) = differ m s (one_module f name (Ok m) (Err s) p.0 e)
  one_modules (name ∷ names) f (Ok (m ∷ ms)) (Err s) p (inr w) = differ ms s (one_modules names (f + 1) (Ok ms) (Err s) p.1 w.2)
  one_modules (name ∷ names) f (Err s) (Ok []) p w = absurd w
  one_modules (name ∷ names) f (Err s) (Ok (m ∷ ms)) (inl e) w = differ m s (one_module f name (Ok m) (Err s) w.0 e)
  one_modules (name ∷ names) f (Err s) (Ok (m ∷ ms)) (inr p) w = differ ms s (one_modules names (f + 1) (Ok ms) (Err s) w.1 p.2)
  one_modules (name ∷ names) f (Err s) (Err t) (inl e) (inl d) = let same : s ≡ t = let k = one_module f name (Err s) (Err t) e d in cc in ap Err same
  one_modules (name ∷ names) f (Err s) (Err t) (inl e) (inr w) = differ w.0 s (one_module f name (Ok w.0) (Err s) w.1 e)
  one_modules (name ∷ names) f (Err s) (Err t) (inr p) (inl d) = differ p.0 t (one_module f name (Ok p.0) (Err t) p.1 d)
  one_modules (name ∷ names) f (Err s) (Err t) (inr p) (inr w) = one_modules names (f + 1) (Err s) (Err t) p.2 w.2

  module _ (form : Form) (policy : Parts) where
    -- a reading that gave something did not end
    never : {X P : Type 0} (r : Result X Status) (s : Status) → r ≡ Err s → IsOk r → P
    never (Ok x) s e ok = absurd cc
    never (Err d) s e ok = absurd cc

    one_ready : (r q : Result Prepared Status) → IsPrepared held form policy r → IsPrepared held form policy q → r ≡ q
    one_ready (Ok a) (Ok b) p w =
        let shown : a.shown ≡ b.shown = ok_one (shown_in policy.lattice.names form) a.shown b.shown p.0 w.0 in
        let modules : a.modules ≡ b.modules = let e = one_modules policy.files 0 (Ok a.modules) (Ok b.modules) p.1 w.1 in cc in
        ap (λ x. Ok (record { shown = x; modules = a.modules })) shown ∙ ap (λ x. Ok (record { shown = b.shown; modules = x })) modules
    one_ready (Ok a) (Err s) p (inl e) = ok_or_err (shown_in policy.lattice.names form) a.shown s p.0 e
    one_ready (Ok a) (Err s) p (inr w) = differ a.modules s (one_modules policy.files 0 (Ok a.modules) (Err s) p.1 w.1)
    one_ready (Err s) (Ok b) (inl e) w = ok_or_err (shown_in policy.lattice.names form) b.shown s w.0 e
    one_ready (Err s) (Ok b) (inr p) w = differ b.modules s (one_modules policy.files 0 (Ok b.modules) (Err s) w.1 p.1)
    one_ready (Err s) (Err t) (inl e) (inl d) = err_one (shown_in policy.lattice.names form) s t e d
    one_ready (Err s) (Err t) (inl e) (inr w) = never (shown_in policy.lattice.names form) s e w.0
    one_ready (Err s) (Err t) (inr p) (inl d) = never (shown_in policy.lattice.names form) t d p.0
    one_ready (Err s) (Err t) (inr p) (inr w) = let same : s ≡ t = let k = one_modules policy.files 0 (Err s) (Err t) p.1 w.1 in cc in ap Err same

    pub one_task_under : (r q : Result Task Status) → IsTaskUnder held form policy r → IsTaskUnder held form policy q → r ≡ q
    one_task_under (Ok a) (Ok b) (x, p, is) (y, w, are) =
        let same : x ≡ y = let k = one_ready (Ok x) (Ok y) p w in cc in
        ap Ok (is ∙ ap (task_under form policy) same ∙ sym are)
    one_task_under (Ok a) (Err s) (x, p, is) w = differ x s (one_ready (Ok x) (Err s) p w)
    one_task_under (Err s) (Ok b) p (y, w, are) = differ y s (one_ready (Ok y) (Err s) w p)
    one_task_under (Err s) (Err t) p w = let same : s ≡ t = let k = one_ready (Err s) (Err t) p w in cc in ap Err same

  one_task_by : (form : Form) (read : Result Parts Status) (r q : Result Task Status) → IsTaskBy held form read r → IsTaskBy held form read q → r ≡ q
  one_task_by form (Ok policy) r q p w = one_task_under form policy r q p w
  one_task_by form (Err s) r q p w = p ∙ sym w

  pub one_task : (words : Option Command) (r q : Result Task Status) → IsTask words held r → IsTask words held q → r ≡ q
  one_task None r q p w = p ∙ sym w
  one_task (Some (Exercise number)) r q p w = p ∙ sym w
  one_task (Some (OnFiles form)) r q p w = one_task_by form (policy_in held (policy_name form)) r q p w

pub one_answer : (words : Option Command) (held : Held) (a b : Answer) → IsAnswerOf (IsTask words) held a → IsAnswerOf (IsTask words) held b → a ≡ b
one_answer words held a b p q = p.answered ∙ ap (answer_of held) (one_task held words p.task q.task p.is_task q.is_task) ∙ sym q.answered
