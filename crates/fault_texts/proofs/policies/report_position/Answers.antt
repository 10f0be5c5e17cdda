use Rattle.std.proofs.Common.{◌≡◌, ◌∙◌, append_assoc, decimal}
use Rattle.trapeze_io.proofs.Appended.{Says-equal}
use Rattle.fault_texts.proofs.policies.report_position.Goals as goal

pub returns : goal.returns
returns g c =
    let number : c.as_bytes.result.now ≡ decimal c.args.position = c.as_bytes.ensures.value ∙ c.format-number.ensures.text in
    Says-equal _ _ _ _ _ _ c.say_pieces.ensures (simp (append_assoc, number))
