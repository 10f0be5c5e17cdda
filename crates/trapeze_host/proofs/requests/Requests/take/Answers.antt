use Rattle.std.proofs.Common.{◌<◌, ◌+◌, length, get_or, ap, ◌∙◌, refl, arith}
use Rattle.std.specs.Vec.{with_item}
use Rattle.std.proofs.Math.ListN.{set}
use Rattle.std.proofs.lemmas.List.{length-set, get_or-set_same, get_or-set_other}
use Rattle.trapeze_host.proofs.Marks.{answered_still, room_still, words_at}
use Rattle.trapeze_host.proofs.requests.Requests.take.Goals as goal

pub returns-in_default-clause-answered : goal.returns-in_default-clause-answered
returns-in_default-clause-answered c = answered_still c.args.self.now c.number-place.result c.index_mut.result.now c.widen.new.words (omega (arith, c.requires.label, c.number-place.ensures, c.requires.room.labels))
    c.index_mut.ensures.value c.widen.ensures.marks c.args.self.now.taken

pub returns-in_default-clause-room : goal.returns-in_default-clause-room
returns-in_default-clause-room c =
    let r = c.args.self.now in
    let l = c.number-place.result in
    let here : l < length r.marks.items = omega (arith, c.requires.label, c.number-place.ensures, c.requires.room.labels) in
    room_still r l c.index_mut.result.now c.widen.new.words here c.index_mut.ensures.value c.widen.ensures.marks r.taken c.requires.room refl
    (λ k. (
      λ e. omega (arith, c.requires.room.bits l (omega (arith, here, c.requires.room.labels)), ap (λ k. get_or r.taken.items k 0) e, ap length (words_at r l c.index_mut.result.now here c.index_mut.ensures.value), c.widen.ensures.longer),
      λ n. refl,
    ))

pub returns-clause-answered : goal.returns-clause-answered
returns-clause-answered c = answered_still c.args.self.now c.number-place.result c.index_mut.result.now c.widen.new.words (omega (arith, c.requires.label, c.number-place.ensures, c.requires.room.labels))
    c.index_mut.ensures.value c.widen.ensures.marks (with_item c.args.self.now.taken c.number-place.result (c.index.result.now + 1))

pub returns-clause-room : goal.returns-clause-room
returns-clause-room c =
    let r = c.args.self.now in
    let l = c.number-place.result in
    let n = c.index.result.now in
    let here : l < length r.marks.items = omega (arith, c.requires.label, c.number-place.ensures, c.requires.room.labels) in
    room_still r l c.index_mut.result.now c.widen.new.words here c.index_mut.ensures.value c.widen.ensures.marks (with_item r.taken l (n + 1)) c.requires.room (length-set r.taken.items l (n + 1))
    (λ k. (
      λ e. omega (arith, c.in-Ok.ensures.room, ap (λ k. get_or (set r.taken.items l (n + 1)) k 0) e ∙ get_or-set_same r.taken.items l (n + 1) 0 (omega (arith, here, c.requires.room.labels))),
      λ d. get_or-set_other r.taken.items l k (n + 1) 0 d,
    ))
