use Rattle.ladder_tests.specs.declared.rungs.TheConstants.{ROLLS}
use Rattle.ladder_tests.specs.Bench.{shared_of}
use Rattle.ladder_tests.proofs.Good.{bench-begins, terms-of}
use Rattle.ladder_tests.proofs.limits.holds.Goals as goal

pub put_times-requires : goal.put_times-requires
put_times-requires c =
    bench-begins 16384 (shared_of ROLLS) c.in_ok-names.names c.whole-room.result c.in_ok-mem.mem c.new-words.result.items
    c.whole-room.ensures c.in_ok-mem.ensures c.new-words.ensures

pub is_found-requires : goal.is_found-requires
is_found-requires c = terms-of (shared_of ROLLS) _ c.put_times-2.new.room _ _ _ c.as_slice.ensures.value c.put_times-2.ensures.good
