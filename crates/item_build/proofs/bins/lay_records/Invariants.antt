use Rattle.item_build.proofs.Laid.Recording.{RecordedTo}
use Rattle.item_build.proofs.bins.lay_records.Given as goal

abbrev pub invariant-loop-i : goal.invariant-loop-i
invariant-loop-i l = RecordedTo l.i l.count l.code l.serial l.initial.room l.room l.initial.mem l.mem l.initial.row l.row
