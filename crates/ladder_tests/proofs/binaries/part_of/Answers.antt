use Rattle.std.proofs.Common.{◌+◌, length, arith, refl}
use Rattle.plain_term.specs.Tree.Tree.{Bin, Part}
use Rattle.plain_term.specs.Measures.{bin_words}
use Rattle.term_build.proofs.Rooms.{room-after}
use Rattle.ladder_tests.specs.Bench.{shared_of}
use Rattle.ladder_tests.proofs.Good.{one-made, made-after}
use Rattle.ladder_tests.proofs.binaries.part_of.Goals as goal

pub sub_bin-requires-clause-places : goal.sub_bin-requires-clause-places
sub_bin-requires-clause-places c = room-after (2 + bin_words (length c.args.bytes.now)) _ _ _ _ c.heap_bin-base.ensures.uses c.requires.place (omega (arith, c.requires.spare))

pub returns : goal.returns
returns c =
    made-after (shared_of c.args.rolls.now) c.args.names.now _ _ _ _ _ _ _ c.heap_bin-base.ensures.kept_clear
    (one-made 5 (shared_of c.args.rolls.now) c.args.names.now _ _ _ _ _ (Part (Bin c.args.bytes.now) c.args.off c.args.len) c.sub_bin.ensures.uses
    (room-after (2 + bin_words (length c.args.bytes.now)) _ _ _ _ c.heap_bin-base.ensures.uses c.requires.place (omega (arith, c.requires.spare)))
    (omega (arith, c.requires.spare, c.heap_bin-base.ensures.uses.moved, c.heap_bin-base.ensures.uses.same_end)) c.sub_bin.ensures.kept_clear
    (c.sub_bin.ensures.made_clear _ (Bin c.args.bytes.now) tt (c.is_part.ensures c.if-not-is_part.false) (c.heap_bin-base.ensures.made_clear _)) refl)
