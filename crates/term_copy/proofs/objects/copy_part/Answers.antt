use Rattle.std.proofs.Common.{◌+◌, refl, ap, arith}
use Rattle.plain_term.specs.Measures.{flat}
use Rattle.term_words.specs.Object.{object_words}
use Rattle.term_copy.specs.Going.{CanTake}
use Rattle.term_copy.proofs.Taking.{can-take, room-advances, took-image}
use Rattle.term_copy.proofs.objects.copy_part.Goals as goal

pub copy_object-requires : goal.copy_object-requires
copy_object-requires c =
    can-take c.requires.task c.requires.known c.args.mem.now c.requires.mark c.requires.at c.args.room.now.top (flat c.requires.tree + c.requires.owed) c.requires.on
    c.args.w c.requires.tree c.requires.standing c.requires.goes.pointer c.args.room.now.end c.requires.has (omega (arith, c.bounded.ensures)) (omega arith)

pub returns-clause-room : goal.returns-clause-room
returns-clause-room c =
    let can : CanTake c.args.mem.now c.args.room.now.top c.args.room.now.end c.args.w =
    can-take c.requires.task c.requires.known c.args.mem.now c.requires.mark c.requires.at c.args.room.now.top (flat c.requires.tree + c.requires.owed) c.requires.on
    c.args.w c.requires.tree c.requires.standing c.requires.goes.pointer c.args.room.now.end c.requires.has (omega (arith, c.bounded.ensures)) (omega arith) in
    room-advances c.args.room.now c.copy_object.new.room (object_words c.args.mem.now c.args.w) c.copy_object.ensures.room can.fits

pub returns-clause-place : goal.returns-clause-place
returns-clause-place c = omega (arith, c.copy_object.ensures.took.word)

pub returns-clause-each : goal.returns-clause-each
returns-clause-each c = λ p known mark at owed u g s goes.
    took-image p known c.args.mem.now mark at c.args.room.now.top (flat u + owed) g.on c.args.w u owed refl s goes c.copy_object.new.mem c.copy_object.result c.copy_object.ensures.took g.led
    c.copy_object.new.room.top (ap (λ r. r.top) c.copy_object.ensures.room)
