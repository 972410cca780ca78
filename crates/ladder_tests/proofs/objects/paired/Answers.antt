use Rattle.std.proofs.Common.{ℕ, List, length, sym, subst, arith, ap}
use Rattle.ladder_tests.specs.Bench.{ArePairs}
use Rattle.ladder_tests.proofs.Good.{pairs-none, pairs-more}
use Rattle.ladder_tests.proofs.objects.paired.Goals as goal

pub loop-i-init : goal.loop-i-init
loop-i-init c = record {
  many = ap length c.new-pairs.ensures;
  good = λ shared names room mem g h.
      let P : List (ℕ × ℕ) → Type 0 = λ x. ArePairs shared names room mem x in
      subst P (sym c.new-pairs.ensures) (pairs-none shared names room mem);
}

pub loop-i-preserved : goal.loop-i-preserved
loop-i-preserved c = record {
  many = omega (arith, c.push.ensures.len, c.loop-i.invariant.many);
  good = λ shared names room mem g h.
      let P : List (ℕ × ℕ) → Type 0 = λ x. ArePairs shared names room mem x in
      subst P (sym c.push.ensures.items)
      (pairs-more shared names room mem _ _ _ (c.loop-i.invariant.good shared names room mem g h) (g.each c.loop-i.i c.loop-i-test.true)
      (h.each c.loop-i.i (omega (arith, c.loop-i-test.true, c.requires.same))));
}

pub push-requires : goal.push-requires
push-requires c = omega (arith, c.loop-i.invariant.many, c.loop-i-test.true, c.requires.few)

pub returns : goal.returns
returns c = c.loop-i.invariant.good
