use Rattle.std.proofs.Common.{◌≡◌, ℕ, Some, None, Result, subst, rules, of_calls}
use Rattle.std.specs.Prelude.{MatchResult}
use Rattle.std.proofs.lemmas.Fn.{always_returns_same}
use Rattle.label_lattice.specs.Order.{place_of}
use Rattle.label_lattice.proofs.BinarySearch.{compared, searched}
use Rattle.label_lattice.proofs.ascending.number_among.Goals as goal

pub returns-in-Ok-clause-place : goal.returns-in-Ok-clause-place
returns-in-Ok-clause-place c =
    let compares = always_returns_same _ _ _ (λ a r f k. search (rules, of_calls)) in
    let said = searched c.args.names.now c.args.name.now c.binary_search_by-found.result c.requires.ascend c.binary_search_by-found.ensures.bound (c.binary_search_by-found.ensures.position (compared c.args.name.now) compares) in
    subst (λ (r : Result ℕ ℕ). MatchResult r (λ i. Some i ≡ place_of c.args.name.now c.args.names.now) (λ i. None ≡ place_of c.args.name.now c.args.names.now)) c.in-Ok.is said

pub returns-in-Err-clause-place : goal.returns-in-Err-clause-place
returns-in-Err-clause-place c =
    let compares = always_returns_same _ _ _ (λ a r f k. search (rules, of_calls)) in
    let said = searched c.args.names.now c.args.name.now c.binary_search_by-found.result c.requires.ascend c.binary_search_by-found.ensures.bound (c.binary_search_by-found.ensures.position (compared c.args.name.now) compares) in
    subst (λ (r : Result ℕ ℕ). MatchResult r (λ i. Some i ≡ place_of c.args.name.now c.args.names.now) (λ i. None ≡ place_of c.args.name.now c.args.names.now)) c.in-Err.is said
