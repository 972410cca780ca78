use Rattle.std.proofs.Common.{◌+◌, ◌-◌, ◌*◌, ◌∙◌, length, take, sym, arith}
use Rattle.plain_term.specs.Tree.Tree.{Map}
use Rattle.ladder_tests.specs.Bench.{shared_of}
use Rattle.ladder_tests.proofs.Good.{one-made, two-rows, good-front, good-rest, halves}
use Rattle.ladder_tests.proofs.objects.rising_of.Goals as goal

pub returns : goal.returns
returns c =
    let half = halves c.args.parts.now c.args.n c.if-parts-n.false in
    let rows = two-rows (shared_of c.args.rolls.now) c.args.names.now c.args.room.now c.args.mem.now _ _
    (good-front _ _ _ _ c.args.parts.now c.args.n c.requires.good)
    (good-rest _ _ _ _ c.args.parts.now c.args.n (length c.args.parts.now - c.args.n) c.requires.good) (half.1 ∙ sym half.0) in
    one-made (4 + 2 * length (take c.args.n c.args.parts.now)) (shared_of c.args.rolls.now) c.args.names.now c.args.room.now c.map_in_order.new.room _ _ _ (Map rows.given) c.map_in_order.ensures.uses
    c.requires.place
    (omega (arith, c.requires.spare, c.if-n-gt32.false, half.0)) c.map_in_order.ensures.kept_clear (c.map_in_order.ensures.made_clear _ rows.given rows.keys rows.values) rows.named
