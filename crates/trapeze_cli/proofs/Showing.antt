-- Lines that are shown, and their text.
use Rattle.std.proofs.Common.{◌≡◌, ℕ, Bool, true, false, cond, List, [], ◌∷◌, ◌++◌, refl, sym, ap, ◌∙◌}
use Rattle.std.specs.Prelude.{filter, ◌&&◌}
use Rattle.std.proofs.lemmas.Grind.{flat_map-append}
use Rattle.std.proofs.lemmas.List.Elements.{filter-append}
use Rattle.trapeze_lines.specs.declared.line.Line.{Line}
use Rattle.trapeze_lines.specs.Lines.{is_of_run, run_kinds}
use Rattle.trapeze_lines.specs.Texts.{text, line_text}
use Rattle.host_rules.specs.Rules.{Rules}
use Rattle.host_rules.specs.Views.{visible}
use Rattle.host_rules.proofs.FilteredLists.{filters_commute}
use Rattle.trapeze_cli.specs.declared.shown.Shown.{Shown}
use Rattle.trapeze_cli.specs.declared.shown.Shown.TheVariants.{RunKinds, AllKinds, VisibleTo}
use Rattle.trapeze_cli.specs.Runs.{Setting, shown_lines}
use Rattle.trapeze_cli.specs.Shows.{shows}
use Rattle.trapeze_cli.specs.Playing.{said_of}

shown-append : (P : Rules) (shown : Shown) (xs ys : List Line) → shown_lines P shown (xs ++ ys) ≡ shown_lines P shown xs ++ shown_lines P shown ys
shown-append P RunKinds xs ys = filter-append (λ (line : Line). is_of_run line.kind) xs ys
shown-append P AllKinds xs ys = refl
shown-append P (VisibleTo label) xs ys =
    ap (visible P label.number) (filter-append (λ (line : Line). is_of_run line.kind) xs ys)
    ∙ filter-append (λ (line : Line). P.flows line.label.number label.number) (run_kinds xs) (run_kinds ys)

pub said-append : (g : Setting) (xs ys : List Line) → said_of g (xs ++ ys) ≡ said_of g xs ++ said_of g ys
said-append g xs ys =
    ap (text g.rules.labels) (shown-append g.rules g.shown xs ys)
    ∙ flat_map-append (line_text g.rules.labels) (shown_lines g.rules g.shown xs) (shown_lines g.rules g.shown ys)

-- no line, no text
pub said_nothing : (g : Setting) → said_of g [] ≡ []
said_nothing g = ap (text g.rules.labels) (none g.shown)
  where
    none : (shown : Shown) → shown_lines g.rules shown [] ≡ []
    none RunKinds = refl
    none AllKinds = refl
    none (VisibleTo label) = refl

keep_all : (xs : List Line) → xs ≡ filter (λ line. true) xs
keep_all [] = refl
keep_all (x ∷ xs) = ap (λ ys. x ∷ ys) (keep_all xs)

both_kept : (p q : Bool) (x : Line) (rest kept : List Line) (f : Line → Bool) → f x ≡ q → filter f rest ≡ kept
    → filter f (cond p (x ∷ rest) rest) ≡ cond (p && q) (x ∷ kept) kept
both_kept true q x rest kept f is e = ap (λ b. cond b (x ∷ filter f rest) (filter f rest)) is ∙ ap (λ ys. cond q (x ∷ ys) ys) e
both_kept false q x rest kept f is e = e

keep_both : (f h : Line → Bool) (xs : List Line) → filter f (filter h xs) ≡ filter (λ x. h x && f x) xs
keep_both f h [] = refl
keep_both f h (x ∷ xs) = both_kept (h x) (f x) x (filter h xs) (filter (λ x. h x && f x) xs) f refl (keep_both f h xs)

-- the lines that are shown, as those that pass a test
pub shown_filter : (P : Rules) (shown : Shown) (xs : List Line) → shown_lines P shown xs ≡ filter (shows P.flows shown) xs
shown_filter P RunKinds xs = refl
shown_filter P AllKinds xs = keep_all xs
shown_filter P (VisibleTo label) xs = keep_both (λ (line : Line). P.flows line.label.number label.number) (λ (line : Line). is_of_run line.kind) xs

-- what is visible of the lines that are shown is shown of the visible ones
pub shown_visible : (P : Rules) (shown : Shown) (o : ℕ) (xs : List Line) → visible P o (shown_lines P shown xs) ≡ shown_lines P shown (visible P o xs)
shown_visible P RunKinds o xs = filters_commute (λ (line : Line). P.flows line.label.number o) (λ (line : Line). is_of_run line.kind) xs
shown_visible P AllKinds o xs = refl
shown_visible P (VisibleTo label) o xs =
    filters_commute (λ (line : Line). P.flows line.label.number o) (λ (line : Line). P.flows line.label.number label.number) (run_kinds xs)
    ∙ ap (visible P label.number) (filters_commute (λ (line : Line). P.flows line.label.number o) (λ (line : Line). is_of_run line.kind) xs)

-- lines that look the same to o look the same as they are shown
pub shown_alike : (P : Rules) (shown : Shown) (o : ℕ) (xs ys : List Line) → visible P o xs ≡ visible P o ys
    → visible P o (shown_lines P shown xs) ≡ visible P o (shown_lines P shown ys)
shown_alike P shown o xs ys e = shown_visible P shown o xs ∙ ap (shown_lines P shown) e ∙ sym (shown_visible P shown o ys)
