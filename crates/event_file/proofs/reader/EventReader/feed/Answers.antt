use Rattle.std.proofs.Common.{◌≡◌, ◌≤◌, ℕ, ◌++◌, List, length, drop, ap, ◌∙◌, arith, length-append}
use Rattle.std.specs.List.{position_or_len}
use Rattle.std.proofs.lemmas.List.{drop-append-le}
use Rattle.event_file.specs.Reader.{Reader}
use Rattle.event_file.proofs.SplitLists.{farther}
use Rattle.event_file.proofs.Continuing.{is_end}
use Rattle.event_file.proofs.reader.EventReader.feed.Goals as goal
use Rattle.event_file.proofs.reader.EventReader.feed.Goals.{then-self-len, else-self-len}

pub invariant_of-self : goal.invariant_of-self
invariant_of-self c =
    let r = c.self-2.inside in
    let items = c.in-Ok.ensures.items in
    let longer = ap length items ∙ length-append r.buffer.items c.args.piece.now in
    let here : r.start ≤ length r.buffer.items = omega (arith, c.self-2.invariant.begins) in
    let rest : drop r.start c.extend_from_slice.new.self.items ≡ drop r.start r.buffer.items ++ c.args.piece.now =
    ap (λ (list : List ℕ). drop r.start list) items ∙ drop-append-le r.start r.buffer.items c.args.piece.now here in
    let place = ap (position_or_len is_end) rest in
    let same : c.if-self-len.self ≡ c.args.self.now =
    elim c.if-self-len.branch [ then-self-len w ↦ w.self-is ∙ w.let_go.ensures | else-self-len w ↦ w.self-is ] in
    let fed : r.fed ≡ c.args.self.now.fed = ap (λ (reader : Reader). reader.fed) (c.self-2.view_is ∙ same) in
    record {
      numbered = c.self-2.invariant.numbered;
      begins = omega (arith, longer, c.self-2.invariant.begins);
      no_end = omega (arith, place, farther is_end (drop r.start r.buffer.items) c.args.piece.now, c.self-2.invariant.no_end);
      counted = omega (arith, longer, here, c.self-2.invariant.counted);
      few = omega (arith, fed, c.requires.few);
    }
