use Rattle.std.proofs.Common.{IsTrue, sym, subst, ◌∙◌}
use Rattle.trapeze_io.specs.Names.{is_name}
use Rattle.trapeze_exercise.proofs.IdsAreNames.{id_is_name}
use Rattle.trapeze_exercise.proofs.events.id_of.Goals as goal

pub unreachable-requires : goal.unreachable-requires
unreachable-requires c =
    c.in-None.ensures
    (subst (λ bytes. IsTrue (is_name bytes)) (sym (c.as_bytes.ensures.value ∙ c.in_ok-text.ensures.ok)) (id_is_name c.args.i c.requires))
