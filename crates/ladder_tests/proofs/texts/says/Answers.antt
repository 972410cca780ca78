use Rattle.ladder_tests.specs.declared.rungs.TheConstants.{ROLLS}
use Rattle.ladder_tests.specs.Bench.{shared_of}
use Rattle.ladder_tests.proofs.Good.{bench-begins, terms-of}
use Rattle.ladder_tests.proofs.texts.says.Goals as goal

pub put_all-requires : goal.put_all-requires
put_all-requires c =
    bench-begins 16384 (shared_of ROLLS) c.in_ok-names.names c.whole-room.result c.in_ok-mem.mem c.new-words.result.items
    c.whole-room.ensures c.in_ok-mem.ensures c.new-words.ensures

pub is_written-requires : goal.is_written-requires
is_written-requires c = terms-of (shared_of ROLLS) _ c.put_times.new.room _ _ _ c.as_slice.ensures.value c.put_times.ensures.good
