use Rattle.std.proofs.Common.{arith}
use Rattle.off_heap_list.proofs.Walked.Tallied.{Tells, sweeps-begin, sweeps-old, sweeps-moved, sweeps-record, sweeps-counted, sweeps-len, sweeps-words, more-few, sweeps-more, sweeps-done}
use Rattle.off_heap_list.proofs.Walked.Sweeping.{next-still}
use Rattle.off_heap_list.proofs.whole.sweep_front.Goals as goal

pub loop-i-init : goal.loop-i-init
loop-i-init c = record { each = λ k os to further single number s. sweeps-begin k c.args.mem.now c.args.head to os further s }

pub sweep_next-swept-requires-clause-object : goal.sweep_next-swept-requires-clause-object
sweep_next-swept-requires-clause-object c =
    (sweeps-old c.requires.test c.args.mem.now c.loop-i.mem c.loop-i.sweep.rest c.requires.to c.loop-i.sweep.first c.loop-i.sweep.last c.loop-i.tally.len c.loop-i.tally.words
    c.loop-i.tally.freed c.loop-i.i c.requires.os c.requires.further
    (c.loop-i.invariant.each c.requires.test c.requires.os c.requires.to c.requires.further c.requires.single c.requires.number c.requires.begins)
    (omega (arith, c.loop-i-test.true, c.requires.number))).within

pub sweep_next-swept-requires-clause-moved : goal.sweep_next-swept-requires-clause-moved
sweep_next-swept-requires-clause-moved c =
    sweeps-moved c.requires.test c.args.mem.now c.loop-i.mem c.loop-i.sweep.rest c.requires.to c.loop-i.sweep.first c.loop-i.sweep.last c.loop-i.tally.len c.loop-i.tally.words
    c.loop-i.tally.freed c.loop-i.i c.requires.os c.requires.further
    (c.loop-i.invariant.each c.requires.test c.requires.os c.requires.to c.requires.further c.requires.single c.requires.number c.requires.begins)
    (omega (arith, c.loop-i-test.true, c.requires.number))

pub sweep_next-swept-requires-clause-of_record : goal.sweep_next-swept-requires-clause-of_record
sweep_next-swept-requires-clause-of_record c =
    sweeps-record c.requires.test c.args.mem.now c.loop-i.mem c.loop-i.sweep.rest c.requires.to c.loop-i.sweep.first c.loop-i.sweep.last c.loop-i.tally.len c.loop-i.tally.words
    c.loop-i.tally.freed c.loop-i.i c.requires.os c.requires.further
    (c.loop-i.invariant.each c.requires.test c.requires.os c.requires.to c.requires.further c.requires.single c.requires.number c.requires.begins)
    (omega (arith, c.loop-i-test.true, c.requires.number))

pub sweep_next-swept-requires-clause-count : goal.sweep_next-swept-requires-clause-count
sweep_next-swept-requires-clause-count c =
    sweeps-counted c.requires.test c.args.mem.now c.loop-i.mem c.loop-i.sweep.rest c.requires.to c.loop-i.sweep.first c.loop-i.sweep.last c.loop-i.tally.len c.loop-i.tally.words
    c.loop-i.tally.freed c.loop-i.i c.requires.os c.requires.further
    (c.loop-i.invariant.each c.requires.test c.requires.os c.requires.to c.requires.further c.requires.single c.requires.number c.requires.begins)
    (omega (arith, c.loop-i-test.true, c.requires.number))

pub counted-tally-requires-clause-len : goal.counted-tally-requires-clause-len
counted-tally-requires-clause-len c =
    let few = sweeps-len c.requires.test c.args.mem.now c.loop-i.mem c.loop-i.sweep.rest c.requires.to c.loop-i.sweep.first c.loop-i.sweep.last c.loop-i.tally.len c.loop-i.tally.words
    c.loop-i.tally.freed c.loop-i.i c.requires.os c.requires.further
    (c.loop-i.invariant.each c.requires.test c.requires.os c.requires.to c.requires.further c.requires.single c.requires.number c.requires.begins) c.bounded.ensures in
    omega (arith, few)

pub counted-tally-requires-clause-words : goal.counted-tally-requires-clause-words
counted-tally-requires-clause-words c =
    let so_far = c.loop-i.invariant.each c.requires.test c.requires.os c.requires.to c.requires.further c.requires.single c.requires.number c.requires.begins in
    let o = sweeps-old c.requires.test
    c.args.mem.now c.loop-i.mem c.loop-i.sweep.rest c.requires.to c.loop-i.sweep.first c.loop-i.sweep.last c.loop-i.tally.len c.loop-i.tally.words
    c.loop-i.tally.freed c.loop-i.i c.requires.os c.requires.further so_far
    (omega (arith, c.loop-i-test.true, c.requires.number)) in
    let few = sweeps-words c.requires.test
    c.args.mem.now c.loop-i.mem c.loop-i.sweep.rest c.requires.to c.loop-i.sweep.first c.loop-i.sweep.last c.loop-i.tally.len c.loop-i.tally.words
    c.loop-i.tally.freed c.loop-i.i c.requires.os c.requires.further so_far c.bounded.ensures in
    let t : Tells c.loop-i.mem c.loop-i.sweep.rest c.sweep_next-swept.result.moved c.sweep_next-swept.result.freed c.sweep_next-swept.result.words = record {
      if_moved = λ is. let m = c.sweep_next-swept.ensures.moved is in (m.0, m.1, m.2);
      if_left = λ is. let m = c.sweep_next-swept.ensures.left is in (m.0, m.1, m.2);
    } in
    let more = more-few c.loop-i.mem c.loop-i.sweep.rest c.sweep_next-swept.result.moved c.sweep_next-swept.result.freed c.sweep_next-swept.result.words t c.requires.test o c.bounded.ensures in
    omega (arith, few, more)

pub counted-tally-requires-clause-freed : goal.counted-tally-requires-clause-freed
counted-tally-requires-clause-freed c =
    let so_far = c.loop-i.invariant.each c.requires.test c.requires.os c.requires.to c.requires.further c.requires.single c.requires.number c.requires.begins in
    omega (arith, so_far.few_freed, c.loop-i-test.true, c.ranges.len.fits)

pub loop-i-preserved : goal.loop-i-preserved
loop-i-preserved c = record {
  each = λ k os to further single number s.
      let t : Tells c.loop-i.mem c.loop-i.sweep.rest c.sweep_next-swept.result.moved c.sweep_next-swept.result.freed c.sweep_next-swept.result.words = record {
        if_moved = λ is. let m = c.sweep_next-swept.ensures.moved is in (m.0, m.1, m.2);
        if_left = λ is. let m = c.sweep_next-swept.ensures.left is in (m.0, m.1, m.2);
      } in
      rw (c.counted-tally.ensures.len, c.counted-tally.ensures.words, c.counted-tally.ensures.freed)
      (sweeps-more k c.args.mem.now c.loop-i.mem c.sweep_next-swept.new.mem c.loop-i.sweep.rest c.sweep_next-swept.new.sweep.rest to c.loop-i.sweep.first c.sweep_next-swept.new.sweep.first
      c.loop-i.sweep.last c.sweep_next-swept.new.sweep.last c.loop-i.tally.len c.loop-i.tally.words c.loop-i.tally.freed
      c.loop-i.i os further c.sweep_next-swept.result.moved
      c.sweep_next-swept.result.freed c.sweep_next-swept.result.words (c.loop-i.invariant.each k os to further single number s) (omega (arith, c.loop-i-test.true, number)) single t
      (λ p rest kept ends now. c.sweep_next-swept.ensures.goes_on k p rest to kept ends further single now)
      (λ p rest kept ends now b. c.sweep_next-swept.ensures.since k p rest to kept ends further c.args.mem.now single now b) (λ o. c.sweep_next-swept.ensures.writes k o)
      (λ o. next-still k c.loop-i.mem c.sweep_next-swept.new.mem c.loop-i.sweep.rest c.loop-i.sweep.first c.loop-i.sweep.last single o
      (λ is. (c.sweep_next-swept.ensures.moved is).5) (λ is. (c.sweep_next-swept.ensures.left is).5)));
}

pub returns : goal.returns
returns c = λ k os to further single number s.
    sweeps-done k c.args.mem.now c.loop-i.mem c.loop-i.sweep.rest to c.loop-i.sweep.first c.loop-i.sweep.last c.loop-i.tally.len c.loop-i.tally.words c.loop-i.tally.freed
    c.loop-i.i os further (c.loop-i.invariant.each k os to further single number s)
    (omega (arith, c.loop-i-test.false, number))
