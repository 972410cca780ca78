use Rattle.std.proofs.Common.{sym, ◌∙◌, ap, arith}
use Rattle.term_maps.specs.Stops.{has_beyond}
use Rattle.term_maps.proofs.Members.{key-in}
use Rattle.term_maps.proofs.Left.{next-pair, none-left, beyond-now, beyond-later}
use Rattle.term_maps.proofs.maps.has_big_key.Goals as goal

pub is_beyond-requires : goal.is_beyond-requires
is_beyond-requires c = c.requires.each _ (key-in c.args.pairs.now c.loop-i.i _ (omega (arith, c.loop-i-test.true)))

pub returns-then-is_beyond : goal.returns-then-is_beyond
returns-then-is_beyond c = λ k shared given stand.
    let next = next-pair k shared c.args.mem.now c.args.pairs.now given c.loop-i.i (0, 0) stand (omega (arith, c.loop-i-test.true)) in
    sym (c.loop-i.invariant.left k shared given stand
    ∙ beyond-now k shared c.args.mem.now _ c.loop-i.i given next (sym (c.is_beyond.ensures k shared next.key next.key_stands) ∙ c.if-is_beyond.true))

pub loop-i-preserved : goal.loop-i-preserved
loop-i-preserved c = record {
  left = λ k shared given stand.
      let next = next-pair k shared c.args.mem.now c.args.pairs.now given c.loop-i.i (0, 0) stand (omega (arith, c.loop-i-test.true)) in
      c.loop-i.invariant.left k shared given stand
      ∙ beyond-later k shared c.args.mem.now _ c.loop-i.i given next (sym (c.is_beyond.ensures k shared next.key next.key_stands) ∙ c.if-is_beyond.false);
}

pub returns : goal.returns
returns c = λ k shared given stand.
    sym (c.loop-i.invariant.left k shared given stand
    ∙ ap (has_beyond shared) (none-left k shared c.args.mem.now c.args.pairs.now given c.loop-i.i stand (omega (arith, c.loop-i-test.false))))
