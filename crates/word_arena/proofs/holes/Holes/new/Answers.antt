use Rattle.std.proofs.Common.{arith}
use Rattle.word_arena.proofs.holes.Holes.new.Goals as goal

pub returns : goal.returns
returns c = λ mem len.
    let i = c.in_ok-firsts.ensures.len in
    let t = c.in_ok-tops.ensures in
    record {
      stretches = omega (arith, i, t, c.len.ensures, c.stretch_of.ensures, c.requires);
      tops = omega (arith, i, c.len.ensures);
      few = omega (arith, i, t, c.len.ensures, c.stretch_of.ensures, c.requires);
    }
