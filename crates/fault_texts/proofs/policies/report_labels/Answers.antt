use Rattle.std.proofs.Common.{◌≡◌, ◌∙◌, ap, append_assoc, decimal}
use Rattle.trapeze_io.proofs.Appended.{Says-equal}
use Rattle.fault_texts.proofs.policies.report_labels.Goals as goal

pub returns : goal.returns
returns g c =
    let first : c.as_bytes.result.now ≡ decimal c.args.a.number = c.as_bytes.ensures.value ∙ c.format-first.ensures.text ∙ ap decimal c.number.ensures in
    let second : c.as_bytes-2.result.now ≡ decimal c.args.b.number = c.as_bytes-2.ensures.value ∙ c.format-second.ensures.text ∙ ap decimal c.number-2.ensures in
    Says-equal _ _ _ _ _ _ c.say_pieces.ensures (simp (append_assoc, first, second))
