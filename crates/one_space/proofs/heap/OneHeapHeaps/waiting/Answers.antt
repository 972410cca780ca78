use Rattle.two_halves.specs.Halves.{end_of}
use Rattle.one_space.proofs.OfHeap.Keeping.{are-waiting, half-inside, places-follow, row-inside, row-there, values-count}
use Rattle.one_space.proofs.heap.OneHeapHeaps.waiting.Goals as goal

pub returns-clause-waits : goal.returns-clause-waits
returns-clause-waits c =
    let h = c.args.self.now in
    let l = c.requires.lives in
    let p = c.process-process.result.now in
    let there = row-there h c.args.row p (row-inside h c.args.row c.requires.row) c.process-process.ensures l.named l.shared l.processes l.stood in
    places-follow l.stood.is.test h.halves.mem h.halves.room.end (end_of h.halves) (half-inside h.halves l.whole.laid) p.queue p.waiting there.waits

pub returns-clause-count : goal.returns-clause-count
returns-clause-count c = values-count c.args.self.now.halves.mem c.process-process.result.now.queue c.process-process.result.now.waiting

pub returns-clause-words : goal.returns-clause-words
returns-clause-words c =
    are-waiting c.args.self.now c.args.row c.process-process.result.now (row-inside c.args.self.now c.args.row c.requires.row) c.process-process.ensures
