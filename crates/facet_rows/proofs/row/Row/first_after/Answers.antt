use Rattle.std.proofs.Common.{◌≡◌, ◌∙◌, ◌++◌, ◌∷◌, [], sym, ap, subst, take, Option, None}
use Rattle.std.specs.Prelude.{option_map}
use Rattle.std.specs.Borrow.{Bor}
use Rattle.std.proofs.lemmas.List.{take_all}
use Rattle.label_lattice.specs.declared.label.Label.{Label}
use Rattle.facet_list.specs.Rows.{Member, Row}
use Rattle.facet_rows.specs.Rows.{number_after, is_lesser, IsLeastMember}
use Rattle.facet_rows.proofs.Members.{lesser_more, more_members, chosen, some_least, is_there}
use Rattle.facet_rows.proofs.row.Row.first_after.Goals as goal

pub members-preserved : goal.members-preserved
members-preserved c =
    let after = number_after c.args.after in
    let items = c.deref-member-items.result.now in
    let least = option_map (λ (n : Bor Member). n.now) c.members.least in
    let step = lesser_more after (take c.members.member-index items) c.member-item.result least c.members.invariant in
    subst (λ (row : Row). IsLeastMember row after (option_map (λ (n : Bor Member). n.now) c.lesser-least.result))
    (sym (more_members items c.members.member-index c.member-item.result c.members-test.true c.member-item.is))
    (subst (λ (o : Option Member). IsLeastMember (take c.members.member-index items ++ c.member-item.result ∷ []) after o)
    (sym (ap (option_map (λ (n : Bor Member). n.now)) c.lesser-least.ensures ∙ chosen (is_lesser after c.member-item.result least) _ c.members.least)) step)

pub returns-clause-some : goal.returns-clause-some
returns-clause-some c = λ e.
    let items = c.deref-member-items.result.now in
    let whole : take c.members.member-index items ≡ c.self.inside.members.items = take_all c.members.member-index items c.members-test.false ∙ c.deref-member-items.ensures.value in
    let least = option_map (λ (n : Bor Member). n.now) c.members.least in
    is_there c.members.least (some_least c.self.inside.members.items least c.self.invariant.some
    (subst (λ (row : Row). IsLeastMember row None least) whole (subst (λ (a : Option Label). IsLeastMember (take c.members.member-index items) (number_after a) least) e c.members.invariant)))
