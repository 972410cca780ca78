use Rattle.std.proofs.Common.{arith}
use Rattle.term_build.proofs.Rooms.{room-after, keeps-clear-then}
use Rattle.ladder_tests.proofs.Rolls.{named-roll}
use Rattle.ladder_tests.proofs.binaries.hold.Goals as goal

pub returns : goal.returns
returns c = record {
  place = room-after 6 _ _ _ _ c.holder.ensures.uses c.put_roll-rec.ensures.place (omega (arith, c.put_roll-rec.ensures.spare));
  spare = omega (arith, c.put_roll-rec.ensures.spare, c.holder.ensures.uses.moved, c.holder.ensures.uses.same_end);
  kept = keeps-clear-then c.args.room.now c.put_roll-rec.new.room c.holder.new.room _ _ _ c.put_roll-rec.ensures.kept c.holder.ensures.kept_clear;
  made = c.holder.ensures.made_clear _ c.args.id (named-roll _ _ _ _ c.args.id c.args.len c.args.byte c.requires.roll c.put_roll-rec.ensures.record_is);
}
