use Rattle.std.proofs.Common.{◌≡◌, ◌+◌, length}
use Rattle.process_verbs.proofs.Telling.{Comes}
use Rattle.process_verbs.proofs.queue.put_messages.Given as goal

abbrev pub invariant-loop-i : goal.invariant-loop-i
invariant-loop-i g l =
    let m = g.H.Heaps.meaning in
    m.waits l.heaps l.rest × ((length (m.messages l.heaps l.rest) ≡ l.rest.count) × ((l.rest.count + l.i ≡ l.fn.at.count)
    × Comes g.K.Sink.wrote g.K.Sink.faults l.names (m.mem l.heaps) (m.messages l.heaps l.fn.at) l.fn.sink l.sink l.i (m.messages l.heaps l.rest)))
