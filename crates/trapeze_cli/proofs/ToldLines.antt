-- Lines that a host gave, as they are told.
use Rattle.std.proofs.Common.{◌≡◌, ℕ, List, [], ◌∷◌, ◌++◌, Result, sym, ap, subst, ◌∙◌}
use Rattle.std.specs.declared.option.Option.{Option}
use Rattle.std.specs.Prelude.{All, filter}
use Rattle.std.specs.Io.KnownBytes.{append_known}
use Rattle.std.proofs.lemmas.List.Elements.{All-nil}
use Rattle.wasm_ast.specs.declared.modules.Module.{Module}
use Rattle.wasm_semantics.specs.Threads.{Thread}
use Rattle.label_lattice.specs.Order.{count}
use Rattle.label_lattice.specs.Reach.{flows}
use Rattle.policy_toml.specs.Parts.{Parts}
use Rattle.event_file.specs.declared.entry.Event.{Event}
use Rattle.trapeze_lines.specs.declared.line.Line.{Line}
use Rattle.trapeze_lines.specs.Lines.{IsLabelled}
use Rattle.trapeze_lines.specs.Texts.{text}
use Rattle.host_rules.specs.Policies.{rules_of}
use Rattle.host_rules.specs.Modules.{guest_of}
use Rattle.host_rules.specs.States.{State, Happens, Moved}
use Rattle.host_rules.specs.Stores.{facet_lines}
use Rattle.host_rules.specs.Play.{step}
use Rattle.trapeze_cli.specs.declared.halt.Halt.{Halt}
use Rattle.trapeze_cli.specs.declared.shown.Shown.{Shown}
use Rattle.trapeze_cli.specs.Runs.{setting_of}
use Rattle.trapeze_cli.specs.Shows.{shows}
use Rattle.trapeze_io.specs.Appends.{AppendsAll, AppendsLess}
use Rattle.trapeze_cli.specs.Playing.{AppendsBy, PlaysOn, said_of}
use Rattle.trapeze_cli.proofs.Showing.{shown_filter}
use Rattle.trapeze_cli.proofs.Playing.{plays_one}

-- the text of the lines that pass the test is that of those that are shown
told_text : (policy : Parts) (shown : Shown) (lines : List Line) (cleared said : List ℕ) → cleared ≡ []
    → said ≡ cleared ++ text policy.lattice.names (filter (shows (flows policy.lattice) shown) lines) → said ≡ said_of (setting_of policy [] shown) lines
told_text policy shown lines cleared said none is =
    is ∙ ap (λ bytes. bytes ++ text policy.lattice.names (filter (shows (flows policy.lattice) shown) lines)) none
    ∙ ap (text policy.lattice.names) (sym (shown_filter (rules_of policy) shown lines))

pub told_all : (policy : Parts) (shown : Shown) (lines : List Line) (cleared said : List ℕ) (old new : Option (List ℕ)) → cleared ≡ []
    → said ≡ cleared ++ text policy.lattice.names (filter (shows (flows policy.lattice) shown) lines) → new ≡ append_known old said
    → AppendsAll (said_of (setting_of policy [] shown) lines) old new
told_all policy shown lines cleared said old new none is wrote = wrote ∙ ap (append_known old) (told_text policy shown lines cleared said none is)

pub told_less : (policy : Parts) (shown : Shown) (lines : List Line) (cleared said : List ℕ) (old new : Option (List ℕ)) → cleared ≡ []
    → said ≡ cleared ++ text policy.lattice.names (filter (shows (flows policy.lattice) shown) lines) → AppendsLess [] said old new
    → AppendsLess [] (said_of (setting_of policy [] shown) lines) old new
told_less policy shown lines cleared said old new none is part =
    subst (λ t. AppendsLess [] t old new) (told_text policy shown lines cleared said none is) part

-- what an event of a host gave
pub event_played : {A : Type 0} (policy lent : Parts) (modules : List Module) (shown : Shown) (before now : State Thread → Type 0) (event : Event) (empty lines : List Line)
    (result : Result A Halt) (old new : Option (List ℕ)) → lent ≡ policy → empty ≡ []
    → ((s : State Thread) → before s → now (step (rules_of lent) (guest_of modules) s (Happens event)).state)
    → ((s : State Thread) → before s → lines ≡ empty ++ (step (rules_of lent) (guest_of modules) s (Happens event)).lines)
    → AppendsBy result (said_of (setting_of policy [] shown) lines) old new
    → PlaysOn (setting_of policy modules shown) before now (event ∷ []) result old new
event_played policy lent modules shown before now event empty lines result old new same none stands gave said =
    let moved : State Thread → Moved Thread = λ s. step (rules_of policy) (guest_of modules) s (Happens event) in
    let is : (s : State Thread) → step (rules_of lent) (guest_of modules) s (Happens event) ≡ moved s = λ s. ap (λ p. step (rules_of p) (guest_of modules) s (Happens event)) same in
    plays_one (setting_of policy modules shown) before now event lines result old new
    (λ s b. subst (λ (m : Moved Thread). now m.state) (is s) (stands s b))
    (λ s b. gave s b ∙ ap (λ ls. ls ++ (step (rules_of lent) (guest_of modules) s (Happens event)).lines) none ∙ ap (λ (m : Moved Thread). m.lines) (is s))
    said

-- the lines that a host gives name its labels
pub all_labelled : (policy lent : Parts) (empty lines : List Line) → lent ≡ policy → empty ≡ [] → (All (IsLabelled (count lent.lattice)) empty → All (IsLabelled (count lent.lattice)) lines)
    → All (IsLabelled (count policy.lattice)) lines
all_labelled policy lent empty lines same none k =
    subst (λ (p : Parts). All (IsLabelled (count p.lattice)) lines) same
    (k (subst (λ (ls : List Line). All (IsLabelled (count lent.lattice)) ls) (sym none) (All-nil (IsLabelled (count lent.lattice)))))

-- the facets that a host told
pub facets_told : {A : Type 0} (policy : Parts) (modules : List Module) (shown : Shown) (s : State Thread) (empty lines : List Line) (result : Result A Halt) (old new : Option (List ℕ))
    → empty ≡ [] → lines ≡ empty ++ facet_lines s.store → AppendsBy result (said_of (setting_of policy [] shown) lines) old new
    → AppendsBy result (said_of (setting_of policy modules shown) (facet_lines s.store)) old new
facets_told policy modules shown s empty lines result old new none gave said =
    subst (λ ls. AppendsBy result (said_of (setting_of policy [] shown) ls) old new) (gave ∙ ap (λ ls. ls ++ facet_lines s.store) none) said
