use Rattle.std.proofs.Common.{◌-◌, ◌+◌, set, ◌∙◌, ap}
use Rattle.one_space.proofs.OfHeap.Growing.{pushes}
use Rattle.one_space.proofs.heap.OneHeap.push_place.Goals as goal

pub returns : goal.returns
returns c =
    pushes c.args.self.now c.requires.ready.lives c.args.row c.requires.row c.args.s c.requires.register c.requires.room c.process.result.now c.process.ensures c.set-2.new.self
    (c.set-2.ensures ∙ ap (λ z. set z (c.args.self.now.halves.room.end - 2 + 1) c.process.result.now.stack) c.set.ensures)
