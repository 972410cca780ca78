use Rattle.ladder_tests.specs.declared.rungs.TheConstants.{ROLLS}
use Rattle.ladder_tests.specs.Bench.{shared_of}
use Rattle.ladder_tests.proofs.Good.{bench-begins, terms-of}
use Rattle.ladder_tests.proofs.ladder.stands.Goals as goal

pub raise-requires : goal.raise-requires
raise-requires c =
    bench-begins 16384 (shared_of ROLLS) c.in_ok-names.names c.whole-room.result c.in_ok-mem.mem c.new-words.result.items
    c.whole-room.ensures c.in_ok-mem.ensures c.new-words.ensures

pub measures-requires : goal.measures-requires
measures-requires c = terms-of (shared_of ROLLS) _ c.raise.new.room _ _ _ c.as_slice-words.ensures.value c.raise.ensures.good

pub are_in_order-requires : goal.are_in_order-requires
are_in_order-requires c = terms-of (shared_of ROLLS) _ c.raise.new.room _ _ _ c.as_slice-words.ensures.value c.raise.ensures.good
