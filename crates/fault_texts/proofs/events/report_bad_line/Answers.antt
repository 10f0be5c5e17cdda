use Rattle.std.proofs.Common.{◌≡◌, ◌∙◌, append_assoc, append-nil, decimal}
use Rattle.trapeze_io.proofs.Appended.{Says-equal}
use Rattle.fault_texts.proofs.events.report_bad_line.Goals as goal

pub returns : goal.returns
returns g c =
    let number : c.as_bytes.result.now ≡ decimal c.args.error.line = c.as_bytes.ensures.value ∙ c.format-number.ensures.text in
    Says-equal _ _ _ _ _ _ c.say_pieces.ensures (simp (append_assoc, append-nil, number, c.line_fault_text.ensures))
