use Rattle.std.proofs.Common.{ℕ, List, sym, subst}
use Rattle.ladder_tests.specs.declared.rungs.TheConstants.{ROLLS}
use Rattle.ladder_tests.specs.Bench.{AreGood, shared_of}
use Rattle.ladder_tests.proofs.Good.{bench-begins}
use Rattle.ladder_tests.proofs.wide.wide.Goals as goal

pub put_pairs-requires : goal.put_pairs-requires
put_pairs-requires c =
    bench-begins 16384 (shared_of ROLLS) c.in_ok-names.names c.whole-room.result c.in_ok-mem.mem c.new-words.result.items
    c.whole-room.ensures c.in_ok-mem.ensures c.new-words.ensures

pub map_of-made-requires-clause-good : goal.map_of-made-requires-clause-good
map_of-made-requires-clause-good c =
    let P : List ℕ → Type 0 = λ x. AreGood (shared_of ROLLS) c.in_ok-names.names c.put_pairs.new.room c.put_pairs.new.mem x in
    subst P (sym c.as_slice.ensures.value) c.put_pairs.ensures.good
