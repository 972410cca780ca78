use Rattle.std.proofs.Common.{arith, sym}
use Rattle.one_space.proofs.OfHeap.Rooming.{at-most, can-collect, looks-so, sweeps-few}
use Rattle.one_space.proofs.heap.OneHeap.look_for.Goals as goal

pub words_looked_for-requires : goal.words_looked_for-requires
words_looked_for-requires c = omega (arith, at-most c.args.want, c.requires.few)

pub make_room-requires-clause-can : goal.make_room-requires-clause-can
make_room-requires-clause-can c = can-collect c.args.self.now c.requires.ready

pub make_room-requires-clause-counted : goal.make_room-requires-clause-counted
make_room-requires-clause-counted c = sweeps-few c.args.self.now c.requires.ready

pub returns : goal.returns
returns c = looks-so c.args.self.now c.args.want c.make_room.new.self c.make_room.result (rw (sym c.words_looked_for.ensures) c.make_room.ensures) c.requires.row
