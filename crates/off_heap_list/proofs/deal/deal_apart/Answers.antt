use Rattle.std.proofs.Common.{ℕ, List, ◌+◌, arith, inl, inr}
use Rattle.std.proofs.lemmas.Bool.{cases_Bool}
use Rattle.off_heap_list.specs.Dealt.{lies_within}
use Rattle.off_heap_list.proofs.Walked.Parted.{Deals, deals-begin, deals-done, deals-held, deals-inside, deals-object, deals-outside, deals-words}
use Rattle.off_heap_list.proofs.deal.deal_apart.Goals as goal

pub loop-i-init : goal.loop-i-init
loop-i-init c = record { each = λ k os rest further single number f. deals-begin k c.args.mem.now c.args.head c.args.to os rest further c.args.span f }

pub deal_next-deal-requires-clause-object : goal.deal_next-deal-requires-clause-object
deal_next-deal-requires-clause-object c =
    deals-object c.requires.test c.args.mem.now c.loop-i.mem c.loop-i.deal c.loop-i.i c.requires.os c.requires.rest c.requires.further c.args.span
    (c.loop-i.invariant.each c.requires.test c.requires.os c.requires.rest c.requires.further c.requires.single c.requires.number c.requires.links)
    (omega (arith, c.loop-i-test.true, c.requires.number))

pub deal_next-deal-requires-clause-count : goal.deal_next-deal-requires-clause-count
deal_next-deal-requires-clause-count c =
    let s = c.loop-i.invariant.each c.requires.test c.requires.os c.requires.rest c.requires.further c.requires.single c.requires.number c.requires.links in
    omega (arith, s.few, c.loop-i-test.true, c.ranges.len.fits)

pub deal_next-deal-requires-clause-words : goal.deal_next-deal-requires-clause-words
deal_next-deal-requires-clause-words c =
    let s = c.loop-i.invariant.each c.requires.test c.requires.os c.requires.rest c.requires.further c.requires.single c.requires.number c.requires.links in
    let so_far = deals-words c.requires.test c.args.mem.now c.loop-i.mem c.loop-i.deal c.loop-i.i c.requires.os c.requires.rest c.requires.further c.args.span s c.bounded.ensures in
    let held = deals-held c.requires.test c.args.mem.now c.loop-i.mem c.loop-i.deal c.loop-i.i c.requires.os c.requires.rest c.requires.further c.args.span s
    (omega (arith, c.loop-i-test.true, c.requires.number)) c.bounded.ensures in
    omega (arith, so_far, held)

pub loop-i-preserved : goal.loop-i-preserved
loop-i-preserved c = record {
  each = λ k os rest further single number f.
      let s = c.loop-i.invariant.each k os rest further single number f in
      let P : List ℕ → Type 0 = λ m. Deals k c.args.mem.now m c.deal_next-deal.result (c.loop-i.i + 1) os rest further c.args.span in
      elim (cases_Bool (lies_within c.args.span c.loop-i.deal.rest)) [
        | inl is ↦
            let (writes, told) = c.deal_next-deal.ensures.inside is in
            rw (writes, told) (deals-inside k c.args.mem.now c.loop-i.mem c.loop-i.deal c.loop-i.i os rest further c.args.span s (omega (arith, c.loop-i-test.true, number)) single is)
        | inr is ↦
            let (writes, told) = c.deal_next-deal.ensures.outside is in
            rw (writes, told) (deals-outside k c.args.mem.now c.loop-i.mem c.loop-i.deal c.loop-i.i os rest further c.args.span s (omega (arith, c.loop-i-test.true, number)) single is)
      ];
}

pub returns : goal.returns
returns c = λ k os rest further single number f.
    deals-done k c.args.mem.now c.loop-i.mem c.loop-i.deal c.loop-i.i os rest further c.args.span single
    (c.loop-i.invariant.each k os rest further single number f) (omega (arith, c.loop-i-test.false, number))
