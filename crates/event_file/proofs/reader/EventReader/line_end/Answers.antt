use Rattle.std.proofs.Common.{◌≡◌, ℕ, ◌+◌, ◌<◌, List, ◌∷◌, length, take, drop, sym, ap, subst, arith, length-drop}
use Rattle.event_file.specs.Lines.{lines_of}
use Rattle.event_file.specs.Reader.{Reader, IsOneLine}
use Rattle.event_file.proofs.SplitLists.{found_next, missing_next}
use Rattle.trapeze_io.proofs.Splits.{first_part, whole}
use Rattle.event_file.proofs.reader.EventReader.line_end.Goals as goal

pub invariant_of-self : goal.invariant_of-self
invariant_of-self c =
    let r = c.self.inside in
    let f = found_next _ r.buffer.items c.deref.result.now r.start r.searched c.in-Some.at c.deref.ensures.value c.self.invariant.no_end (sym c.in-Some.ensures) in
    record {
      numbered = c.self.invariant.numbered;
      begins = omega (arith, f.0);
      no_end = omega (arith, f.1);
      counted = c.self.invariant.counted;
      few = c.self.invariant.few;
    }

pub invariant_of-self-in-None : goal.invariant_of-self-in-None
invariant_of-self-in-None c =
    let r = c.self.inside in
    let m = missing_next _ r.buffer.items c.deref.result.now r.start r.searched c.deref.ensures.value c.self.invariant.no_end (sym c.in-None.ensures) in
    let e = ap length c.deref.ensures.value in
    record {
      numbered = c.self.invariant.numbered;
      begins = omega (arith, e, c.self.invariant.begins);
      no_end = omega (arith, e, m, length-drop r.start r.buffer.items);
      counted = c.self.invariant.counted;
      few = c.self.invariant.few;
    }

pub returns-in-Some-clause-end : goal.returns-in-Some-clause-end
returns-in-Some-clause-end c =
    let r = c.self.inside in
    let f = found_next _ r.buffer.items c.deref.result.now r.start r.searched c.in-Some.at c.deref.ensures.value c.self.invariant.no_end (sym c.in-Some.ensures) in
    let kept : drop r.start r.buffer.items ≡ c.args.self.now.kept = ap (λ (reader : Reader). reader.kept) c.self.view_is in
    let len = r.searched + c.in-Some.at in
    let l : len < length (drop r.start r.buffer.items) = omega (arith, f.0, length-drop r.start r.buffer.items) in
    let P : List ℕ → Type 0 = λ bytes. (len < length bytes) × (lines_of bytes ≡ take len bytes ∷ lines_of (drop (len + 1) bytes)) in
    subst P kept (l, first_part _ (drop r.start r.buffer.items) len l f.1)

pub returns-in-None-clause-end : goal.returns-in-None-clause-end
returns-in-None-clause-end c =
    let r = c.self.inside in
    let m = missing_next _ r.buffer.items c.deref.result.now r.start r.searched c.deref.ensures.value c.self.invariant.no_end (sym c.in-None.ensures) in
    let kept : drop r.start r.buffer.items ≡ c.args.self.now.kept = ap (λ (reader : Reader). reader.kept) c.self.view_is in
    let P : List ℕ → Type 0 = λ bytes. IsOneLine bytes in
    subst P kept (whole _ (drop r.start r.buffer.items) m)
