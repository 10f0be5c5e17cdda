use Rattle.std.proofs.Common.{◌||◌, length, ◌∙◌, arith, ap}
use Rattle.host_rules.specs.States.{same_request}
use Rattle.trapeze_host.specs.Requests.{answered_of, marks_of}
use Rattle.trapeze_host.proofs.Marks.{answered_after, room_after, words_there}
use Rattle.trapeze_host.proofs.requests.Requests.answer.Goals as goal

pub returns-clause-answered : goal.returns-clause-answered
returns-clause-answered c = λ r.
    let q = c.args.request in
    let here = words_there c.args.self.now c.number.result c.index_mut-words.result.now q.number (omega (arith, c.requires.label, c.number.ensures, c.requires.room.labels)) c.index_mut-words.ensures.value
    (omega (arith, c.requires.room.bits q.label.number c.requires.label, c.requires.taken.to_last, ap (λ l. length (marks_of c.args.self.now l)) c.number.ensures)) in
    answered_after c.args.self.now c.number.result q.number c.index_mut.result.now c.index_mut-words.result.now
    (omega (arith, c.requires.label, c.number.ensures, c.requires.room.labels)) here c.index_mut-words.ensures.value c.index_mut.ensures.value r
    ∙ ap (λ l. same_request r (record { label = l; number = q.number }) || answered_of c.args.self.now r) c.number.ensures

pub returns-clause-room : goal.returns-clause-room
returns-clause-room c =
    let q = c.args.request in
    let here = words_there c.args.self.now c.number.result c.index_mut-words.result.now q.number (omega (arith, c.requires.label, c.number.ensures, c.requires.room.labels)) c.index_mut-words.ensures.value
    (omega (arith, c.requires.room.bits q.label.number c.requires.label, c.requires.taken.to_last, ap (λ l. length (marks_of c.args.self.now l)) c.number.ensures)) in
    room_after c.args.self.now c.number.result q.number c.index_mut.result.now c.index_mut-words.result.now
    (omega (arith, c.requires.label, c.number.ensures, c.requires.room.labels)) here c.index_mut-words.ensures.value c.index_mut.ensures.value c.requires.room
