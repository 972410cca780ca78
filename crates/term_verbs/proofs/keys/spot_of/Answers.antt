use Rattle.std.proofs.Common.{ℕ, ◌+◌, ◌-◌, ◌/◌, sym, ◌∙◌, subst, arith}
use Rattle.term_order.specs.Compared.{AreNamed, Compares}
use Rattle.term_verbs.proofs.Seeking.{above-found, below-found, can-compare, finds-new, finds-same}
use Rattle.term_verbs.proofs.keys.spot_of.Goals as goal

pub compare-requires : goal.compare-requires
compare-requires c =
    let P : ℕ → Type 0 = λ z. AreNamed c.args.mem.now c.args.names.now c.args.key z in
    subst P (sym c.get.ensures) (can-compare c.args.mem.now c.args.names.now c.args.rows c.args.key (c.loop-low.low + (c.loop-low.high - c.loop-low.low) / 2) c.requires
    (omega (arith, c.loop-low.invariant.within, c.loop-low-test.true)))

pub returns-in-Same-clause-finds : goal.returns-in-Same-clause-finds
returns-in-Same-clause-finds c = λ k shared ps t a sorted s.
    let P : ℕ → Type 0 = λ z. Compares c.args.mem.now c.args.names.now c.args.key z c.compare.result in
    finds-same k c.args.names.now shared c.args.mem.now c.args.rows c.args.key (c.loop-low.low + (c.loop-low.high - c.loop-low.low) / 2) ps t c.compare.result (subst P c.get.ensures c.compare.ensures)
    (omega (arith, c.loop-low.invariant.within, c.loop-low-test.true)) a sorted s (sym (c.is_beyond.ensures k shared t s) ∙ c.if-is_beyond.false) c.in-Same.is

pub loop-low-preserved-in-Less : goal.loop-low-preserved-in-Less
loop-low-preserved-in-Less c =
    let P : ℕ → Type 0 = λ z. Compares c.args.mem.now c.args.names.now c.args.key z c.compare.result in
    record {
      order = omega (arith, c.loop-low-test.true);
      within = omega (arith, c.loop-low-test.true, c.loop-low.invariant.within);
      between = λ k shared ps t a sorted s small.
          below-found k c.args.names.now shared c.args.mem.now c.args.rows c.args.key (c.loop-low.low + (c.loop-low.high - c.loop-low.low) / 2) ps t c.compare.result
          (subst P c.get.ensures c.compare.ensures) (omega (arith, c.loop-low.invariant.within, c.loop-low-test.true)) a sorted s small c.in-Less.is c.loop-low.low c.loop-low.high
          (c.loop-low.invariant.between k shared ps t a sorted s small);
    }

pub loop-low-preserved : goal.loop-low-preserved
loop-low-preserved c =
    let P : ℕ → Type 0 = λ z. Compares c.args.mem.now c.args.names.now c.args.key z c.compare.result in
    record {
      order = omega (arith, c.loop-low-test.true);
      within = c.loop-low.invariant.within;
      between = λ k shared ps t a sorted s small.
          above-found k c.args.names.now shared c.args.mem.now c.args.rows c.args.key (c.loop-low.low + (c.loop-low.high - c.loop-low.low) / 2) ps t c.compare.result
          (subst P c.get.ensures c.compare.ensures) (omega (arith, c.loop-low.invariant.within, c.loop-low-test.true)) a sorted s small c.in-More.is c.loop-low.low c.loop-low.high
          (c.loop-low.invariant.between k shared ps t a sorted s small);
    }

pub returns-clause-finds : goal.returns-clause-finds
returns-clause-finds c = λ k shared ps t a sorted s.
    finds-new k c.args.names.now shared c.args.mem.now c.args.rows ps t c.loop-low.low c.loop-low.high c.loop-low.invariant.order c.loop-low.invariant.within c.loop-low-test.false a
    (c.loop-low.invariant.between k shared ps t a sorted s (sym (c.is_beyond.ensures k shared t s) ∙ c.if-is_beyond.false))
