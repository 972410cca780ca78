use Rattle.std.proofs.Common.{arith}
use Rattle.plain_term.specs.Tree.{keys_of}
use Rattle.term_words.proofs.ByKind.Makes.{all-length}
use Rattle.term_words.proofs.Totals.Members.{in-at}
use Rattle.term_maps.proofs.Compares.{order-told, is-less, is-equal, is-greater, above-more}
use Rattle.term_maps.proofs.sorted.spot_of.Goals as goal

pub compare-requires : goal.compare-requires
compare-requires c = c.requires _ (in-at c.args.keys.now c.loop-i.i (omega (arith, c.loop-i-test.true)))

pub returns-in-Same-clause-finds : goal.returns-in-Same-clause-finds
returns-in-Same-clause-finds c = λ k shared ps t all s within small. (
  omega (arith, c.loop-i-test.true, all-length k shared c.args.mem.now c.args.keys.now (keys_of ps) all),
  (
    c.loop-i.invariant.above k shared ps t all s within small,
    is-equal _ c.compare.result c.in-Same.is
        (order-told k _ shared c.args.mem.now c.args.key c.args.keys.now ps t c.loop-i.i c.compare.result c.compare.ensures (omega (arith, c.loop-i-test.true)) all s within small),
  ),
)

pub returns-in-Less-clause-finds : goal.returns-in-Less-clause-finds
returns-in-Less-clause-finds c = λ k shared ps t all s within small. (
  omega (arith, c.loop-i-test.true, all-length k shared c.args.mem.now c.args.keys.now (keys_of ps) all),
  (
    c.loop-i.invariant.above k shared ps t all s within small,
    λ below. is-less _ c.compare.result c.in-Less.is
        (order-told k _ shared c.args.mem.now c.args.key c.args.keys.now ps t c.loop-i.i c.compare.result c.compare.ensures (omega (arith, c.loop-i-test.true)) all s within small),
  ),
)

pub loop-i-preserved : goal.loop-i-preserved
loop-i-preserved c = record {
  above = λ k shared ps t all s within small.
      above-more _ shared (keys_of ps) t c.loop-i.i (c.loop-i.invariant.above k shared ps t all s within small)
      (is-greater _ c.compare.result c.in-More.is
      (order-told k _ shared c.args.mem.now c.args.key c.args.keys.now ps t c.loop-i.i c.compare.result c.compare.ensures (omega (arith, c.loop-i-test.true)) all s within small));
}

pub returns-clause-finds : goal.returns-clause-finds
returns-clause-finds c = λ k shared ps t all s within small. (
  omega (arith, all-length k shared c.args.mem.now c.args.keys.now (keys_of ps) all),
  (
    λ j below. c.loop-i.invariant.above k shared ps t all s within small j (omega (arith, c.loop-i-test.false)),
    λ below. absurd (omega (arith, all-length k shared c.args.mem.now c.args.keys.now (keys_of ps) all)),
  ),
)
