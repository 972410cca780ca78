use Rattle.std.proofs.Common.{arith, refl}
use Rattle.plain_term.specs.Tree.Tree.{Shared, Part}
use Rattle.ladder_tests.specs.Bench.{shared_of}
use Rattle.ladder_tests.proofs.Good.{one-made, made-after}
use Rattle.ladder_tests.proofs.Rolls.{roll-size}
use Rattle.ladder_tests.proofs.binaries.piece_of.Goals as goal

pub returns : goal.returns
returns c =
    made-after (shared_of c.args.rolls.now) c.args.names.now _ _ _ _ _ _ _ c.hold-base.ensures.kept
    (one-made 5 (shared_of c.args.rolls.now) c.args.names.now _ _ _ _ _ (Part (Shared c.args.id) c.args.off c.args.len) c.sub_bin.ensures.uses
    c.hold-base.ensures.place (omega (arith, c.hold-base.ensures.spare))
    c.sub_bin.ensures.kept_clear
    (c.sub_bin.ensures.made_clear _ (Shared c.args.id) tt (omega (arith, c.is_part.ensures c.if-not-is_part.false, roll-size _ _ _ _ c.in_ok-whole.ensures)) c.hold-base.ensures.made) refl)
