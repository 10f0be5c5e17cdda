use Rattle.std.proofs.Common.{arith, ◌∙◌, ap, sym}
use Rattle.trapeze_io.proofs.Held.{held_here, held_earlier, named_here, named_more, named_within}
use Rattle.trapeze_io.proofs.memory_files.latest.Goals.{then-eq, else-eq}
use Rattle.trapeze_io.proofs.memory_files.latest.Goals as goal

pub loop-place-preserved : goal.loop-place-preserved
loop-place-preserved c =
    let file = c.index-held-place in
    let name = c.args.name.now in
    let test = rw (c.as_str.ensures.value, ap (λ f. f.name) c.file.view_is) at c.eq.ensures in
    elim c.if-eq.branch [
      | then-eq w ↦ let same = sym test ∙ w.if-eq.true in record {
        held = rw w.found-is (omega arith, named_here _ _ file.result name c.loop-place-test.true file.is same);
        bytes = rw w.found-is (held_here _ _ file.result name c.loop-place-test.true file.is same);
      }
      | else-eq w ↦ record {
        held = rw w.found-is (named_more _ _ _ name c.loop-place.invariant.held);
        bytes = rw w.found-is (c.loop-place.invariant.bytes ∙ held_earlier _ _ file.result name c.loop-place-test.true file.is (sym test ∙ w.if-eq.false));
      }
    ]

pub returns-clause-held : goal.returns-clause-held
returns-clause-held c = named_within _ _ c.loop-place.place c.args.name.now (omega (arith, c.loop-place.auto.place-end)) c.loop-place.invariant.held
