use Rattle.std.proofs.Common.{◌+◌, ◌*◌, length, refl, arith}
use Rattle.plain_term.specs.Tree.{pairs_len}
use Rattle.plain_term.specs.InOrder.{in_order}
use Rattle.term_words.specs.Role.{always}
use Rattle.plain_term.proofs.Putting.{in-order-few}
use Rattle.item_build.proofs.Turned.Makes.{at-room, made-map, no-map, pairs-many, uses-some, wide-mark}
use Rattle.item_build.proofs.putting.map_word.Goals as goal

pub returns-in-Some-clause-built : goal.returns-in-Some-clause-built
returns-in-Some-clause-built c = λ k shared given free stand.
    made-map k c.args.names.now shared given c.args.room.now c.map_of_row.new.room c.args.mem.now c.map_of_row.new.mem c.in-Some.w (c.in-Some.ensures.made k shared given stand) free

pub returns-in-Some-clause-uses : goal.returns-in-Some-clause-uses
returns-in-Some-clause-uses c =
    let made = c.in-Some.ensures.made always c.requires.pairs.shared c.requires.pairs.given c.requires.pairs.standing in
    uses-some (4 + 2 * pairs_len (in_order c.args.names.now c.requires.pairs.shared c.requires.pairs.given)) (4 + length c.args.parts.now) c.args.room.now c.map_of_row.new.room
    c.args.mem.now c.map_of_row.new.mem made.uses
    (omega (
      arith,
      in-order-few c.args.names.now c.requires.pairs.shared c.requires.pairs.given,
      pairs-many always c.requires.pairs.shared c.args.mem.now c.args.parts.now c.requires.pairs.given c.requires.pairs.standing,
    ))

pub returns-in-None-clause-built : goal.returns-in-None-clause-built
returns-in-None-clause-built c = λ k shared given free stand.
    at-room k c.args.room.now c.map_of_row.new.room c.args.mem.now c.map_of_row.new.mem shared 0 _ c.in-None.ensures.stopped.0 c.in-None.ensures.stopped.1
    (wide-mark k c.args.room.now c.args.mem.now shared 0 _ refl (no-map c.args.names.now shared given (c.in-None.ensures.none k shared given stand)))
