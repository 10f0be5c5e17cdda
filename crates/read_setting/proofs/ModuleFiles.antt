-- The files of the functions, read one after the other.
use Rattle.std.proofs.Common.{◌≡◌, ℕ, suc, ◌+◌, List, [], ◌∷◌, ◌++◌, length, map, take, drop, Some, None, IfSome, Result, Ok, Err, inl, inr, refl, sym, ap, subst, ◌∙◌, arith, append_assoc, take-append-drop}
use Rattle.std.specs.declared.option.Option.{Option}
use Rattle.std.specs.Prelude.{slice_get}
use Rattle.std.proofs.lemmas.Option.{slice_get_within, get_or_from_slice_get}
use Rattle.std.proofs.lemmas.List.{take_more, length-take-le, length-map}
use Rattle.trapeze_io.specs.Seen.{Seen, Held}
use Rattle.trapeze_io.proofs.Opens.{OpensAll-held}
use Rattle.wasm_ast.specs.declared.modules.Module.{Module as Program}
use Rattle.file_calls.specs.declared.error.FileError.{FileError}
use Rattle.file_calls.specs.declared.error.FileError.TheVariants.{NoMemory}
use Rattle.file_calls.specs.Sources.{Source, names_of, OpensEach}
use Rattle.file_calls.specs.Steps.{Step, and_then, no_file, Ends}
use Rattle.file_calls.proofs.OneFile.{IfSome-map}
use Rattle.file_calls.proofs.StepsInTurn.{IsPart, part_of_part, first_part, next_part, opens_both, ends_after, ends_whole, memory_ends}
use Rattle.read_setting.specs.declared.refusal.Refusal.{Refusal}
use Rattle.read_setting.specs.Modules.{module_source, module_step, modules_step}

-- the names up to a function

take_one : (names : List (List ℕ)) (f : ℕ) (name : List ℕ) → slice_get names f ≡ Some name → take (f + 1) names ≡ take f names ++ name ∷ []
take_one names f name is = take_more names f [] (slice_get_within names f name is) ∙ ap (λ x. take f names ++ x ∷ []) (get_or_from_slice_get names f name [] is)

names_at : (names : List (List ℕ)) (f : ℕ) (name : List ℕ) → slice_get names f ≡ Some name → names ≡ take f names ++ name ∷ drop (f + 1) names
names_at names f name is = sym (take-append-drop (f + 1) names) ∙ ap (λ t. t ++ drop (f + 1) names) (take_one names f name is) ∙ append_assoc (take f names) (name ∷ []) (drop (f + 1) names)

many : (names : List (List ℕ)) (f : ℕ) (name : List ℕ) → slice_get names f ≡ Some name → length (take f names) ≡ f
many names f name is = length-take-le f names (let h = slice_get_within names f name is in omega arith)

map-both : (first second : List (List ℕ)) → map module_source (first ++ second) ≡ map module_source first ++ map module_source second
map-both [] second = refl
map-both (x ∷ first) second = ap (λ rest. module_source x ∷ rest) (map-both first second)

abbrev more_after : ℕ → Program → List (List ℕ) → Step (List Program) Refusal
more_after place m names = and_then (modules_step (place + 1) names) (λ ms. no_file (λ r. r ≡ Ok (m ∷ ms)))

module _ (held : Held) where
  -- one more module was read
  pub modules_push : (names : List (List ℕ)) (place : ℕ) (name : List ℕ) (all : List Program) (m : Program) (at : ℕ) → at ≡ place + length names
      → (modules_step place names).says held (Ok all) → (module_step at name).says held (Ok m) → (modules_step place (names ++ name ∷ [])).says held (Ok (all ++ m ∷ []))
  modules_push [] place name all m at is so one =
      let same : at ≡ place = omega (arith, is) in
      let none : all ≡ [] = cc in
      subst (λ xs. (modules_step place (name ∷ [])).says held (Ok (xs ++ m ∷ []))) (sym none) (m, subst (λ n. (module_step n name).says held (Ok m)) same one, ([], refl, refl))
  modules_push (x ∷ names) place name all m at is (n, k, (ms, l, e)) one =
      let pushed = modules_push names (place + 1) name ms m at (omega (arith, is)) l one in
      let whole : all ≡ n ∷ ms = cc in
      (n, k, (ms ++ m ∷ [], pushed, ap (λ xs. Ok (xs ++ m ∷ [])) whole))

  -- the step over the next file is a part of the whole
  pub next_module : (names : List (List ℕ)) (place : ℕ) (name : List ℕ) (more : List (List ℕ)) (all : List Program) (at : ℕ) → at ≡ place + length names
      → (modules_step place names).says held (Ok all) → IsPart (module_step at name) (modules_step place (names ++ name ∷ more)) held
  next_module [] place name more all at is so =
      let same : place ≡ at = omega (arith, is) in
      subst (λ n. IsPart (module_step n name) (modules_step place (name ∷ more)) held) same (first_part (module_step place name) (λ m. more_after place m more) held)
  next_module (x ∷ names) place name more all at is (n, k, (ms, l, e)) =
      let inner = next_module names (place + 1) name more ms at (omega (arith, is)) l in
      let rest : List (List ℕ) = names ++ name ∷ more in
      part_of_part (module_step at name) (modules_step (place + 1) rest) (modules_step place (x ∷ rest)) held inner
      (part_of_part (modules_step (place + 1) rest) (more_after place n rest) (modules_step place (x ∷ rest)) held
      (first_part (modules_step (place + 1) rest) (λ ms. no_file (λ r. r ≡ Ok (n ∷ ms))) held)
      (next_part (module_step place x) (λ m. more_after place m rest) n held k))

module _ (names : List (List ℕ)) (place f : ℕ) (name : List ℕ) (is : slice_get names f ≡ Some name) where
  long : place + f ≡ place + length (take f names)
  long = let m = many names f name is in omega arith

  sources_at : map module_source names ≡ (map module_source (take f names) ++ module_source name ∷ []) ++ map module_source (drop (f + 1) names)
  sources_at = ap (map module_source) (names_at names f name is) ∙ map-both (take f names) (name ∷ drop (f + 1) names)
      ∙ sym (append_assoc (map module_source (take f names)) (module_source name ∷ []) (map module_source (drop (f + 1) names)))

  sources_more : map module_source (take (f + 1) names) ≡ map module_source (take f names) ++ module_source name ∷ []
  sources_more = ap (map module_source) (take_one names f name is) ∙ map-both (take f names) (name ∷ [])

  pub opened_more : (old mid new : Seen) → OpensEach (map module_source (take f names)) old mid → OpensEach (module_source name ∷ []) mid new
      → OpensEach (map module_source (take (f + 1) names)) old new
  opened_more old mid new p q =
      subst (λ sources. OpensEach sources old new) (sym sources_more) (opens_both (map module_source (take f names)) (module_source name ∷ []) old mid new p q)

  pub read_more : (old mid : Seen) (all : List Program) (m : Program) (now : List Program) → OpensEach (map module_source (take f names)) old mid
      → IfSome old.held (λ h. (modules_step place (take f names)).says h (Ok all)) → IfSome mid.held (λ h. (module_step (place + f) name).says h (Ok m)) → now ≡ all ++ m ∷ []
      → IfSome old.held (λ h. (modules_step place (take (f + 1) names)).says h (Ok now))
  read_more old mid all m now opens so one pushed =
      by old.held so (subst (λ (o : Option Held). IfSome o (λ h. (module_step (place + f) name).says h (Ok m))) (OpensAll-held (names_of (map module_source (take f names))) old mid opens.opens) one)
    where
      by : (o : Option Held) → IfSome o (λ h. (modules_step place (take f names)).says h (Ok all)) → IfSome o (λ h. (module_step (place + f) name).says h (Ok m))
          → IfSome o (λ h. (modules_step place (take (f + 1) names)).says h (Ok now))
      by None so one = tt
      by (Some h) so one = subst (λ (xs : List Program). (modules_step place (take (f + 1) names)).says h (Ok xs)) (sym pushed)
          (subst (λ ns. (modules_step place ns).says h (Ok (all ++ m ∷ []))) (sym (take_one names f name is)) (modules_push h (take f names) place name all m (place + f) long so one))

  -- the file of a function ended the reading
  pub module_ends : (old mid new : Seen) (all : List Program) (error : FileError Refusal) → OpensEach (map module_source (take f names)) old mid
      → IfSome old.held (λ h. (modules_step place (take f names)).says h (Ok all)) → Ends (place + f) (module_source name ∷ []) (module_step (place + f) name) mid new error
      → Ends place (map module_source names) (modules_step place names) old new error
  module_ends old mid new all error opens so e =
      let before = map module_source (take f names) in
      let step = module_step (place + f) name in
      let part : IfSome old.held (IsPart step (modules_step place names)) =
      IfSome-map old.held (λ h k. subst (λ ns. IsPart step (modules_step place ns) h) (sym (names_at names f name is)) (next_module h (take f names) place name (drop (f + 1) names) all (place + f) long k)) so in
      let at : place + f ≡ place + length before = long ∙ ap (λ n. place + n) (sym (length-map (take f names) module_source)) in
      let here : Ends place (before ++ module_source name ∷ []) (modules_step place names) old new error =
      ends_after place before (module_source name ∷ []) step (modules_step place names) old mid new error opens part (subst (λ n. Ends n (module_source name ∷ []) step mid new error) at e) in
      subst (λ sources. Ends place sources (modules_step place names) old new error) (sym sources_at)
      (ends_whole place (before ++ module_source name ∷ []) (map module_source (drop (f + 1) names)) (modules_step place names) (modules_step place names) old new error
      (IfSome-map old.held (λ h k. record { errors = λ error says. says; reached = λ at reaches. reaches }) so) here)

  -- out of memory for one more module
  pub memory_ends_modules : (old new : Seen) → OpensEach (map module_source (take (f + 1) names)) old new → Ends place (map module_source names) (modules_step place names) old new NoMemory
  memory_ends_modules old new p =
      subst (λ sources. Ends place sources (modules_step place names) old new NoMemory) (sym (sources_at ∙ append_assoc (map module_source (take f names)) (module_source name ∷ []) (map module_source (drop (f + 1) names))))
      (memory_ends place (map module_source (take f names)) (map module_source (drop (f + 1) names)) (module_source name) (modules_step place names) old new
      (subst (λ sources. OpensEach sources old new) sources_more p))
