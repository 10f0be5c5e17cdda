use Rattle.std.proofs.Common.{◌∙◌, ◌<◌, ℕ, Option, ap, sym, subst, length}
use Rattle.std.specs.Prelude.{unwrap_or}
use Rattle.label_lattice.specs.Order.{Order, count}
use Rattle.label_lattice.specs.Reach.{closes, flows}
use Rattle.label_lattice.specs.Rows.{IsClosed}
use Rattle.label_lattice.specs.Joins.{join, IsJoin}
use Rattle.label_lattice.proofs.FaultsByStage.{same_flows}
use Rattle.label_lattice.proofs.NamePairs.{IsClosed-closure}
use Rattle.label_lattice.proofs.FoundJoins.{join_there, join_found, search_same}
use Rattle.label_lattice.proofs.lattice.Lattice.join.Goals as goal

pub join-requires-clause-closed : goal.join-requires-clause-closed
join-requires-clause-closed c =
    let l = c.self.inside in
    subst (λ (n : ℕ). IsClosed n l.table) (sym c.count.ensures.count) (IsClosed-closure (length l.names) l.pairs.items l.table c.self.invariant.1 c.self.invariant.2)

pub unreachable-requires : goal.unreachable-requires
unreachable-requires c =
    let l = c.self.inside in let a = c.args.a.number in let b = c.args.b.number in
    let same = same_flows (length l.names) l.pairs.items l.table c.self.invariant.1 c.self.invariant.2 in
    join_there (length l.names) (closes l.pairs.items) c.self.invariant.0.lattice a b
    (subst (λ (o : Order). a < count o) (sym c.self.view_is) c.requires.left) (subst (λ (o : Order). b < count o) (sym c.self.view_is) c.requires.right)
    (c.in-None.ensures ∙ search_same c.count.ensures.count same a b)

pub returns-clause-join : goal.returns-clause-join
returns-clause-join c =
    let l = c.self.inside in let a = c.args.a.number in let b = c.args.b.number in
    let same = same_flows (length l.names) l.pairs.items l.table c.self.invariant.1 c.self.invariant.2 in
    ap (λ (o : Option ℕ). unwrap_or o a) (c.in-Some.ensures ∙ search_same c.count.ensures.count same a b)
    ∙ ap (λ (o : Order). join (count o) (flows o) a b) c.self.view_is

pub returns-clause-within : goal.returns-clause-within
returns-clause-within c =
    let l = c.self.inside in let a = c.args.a.number in let b = c.args.b.number in
    let same = same_flows (length l.names) l.pairs.items l.table c.self.invariant.1 c.self.invariant.2 in
    let found = join_found (length l.names) (closes l.pairs.items) a b c.in-Some.number (c.in-Some.ensures ∙ search_same c.count.ensures.count same a b) in
    subst (λ (o : Order). c.in-Some.number < count o) c.self.view_is found.0

pub returns-clause-least : goal.returns-clause-least
returns-clause-least c =
    let l = c.self.inside in let a = c.args.a.number in let b = c.args.b.number in
    let same = same_flows (length l.names) l.pairs.items l.table c.self.invariant.1 c.self.invariant.2 in
    let found = join_found (length l.names) (closes l.pairs.items) a b c.in-Some.number (c.in-Some.ensures ∙ search_same c.count.ensures.count same a b) in
    subst (λ (o : Order). IsJoin (count o) (flows o) a b c.in-Some.number) c.self.view_is found.1
