use Rattle.std.proofs.Common.{rules, length, ap, ◌∙◌, arith}
use Rattle.std.proofs.lemmas.List.{length-replicate}
use Rattle.word_arena.proofs.Side.Facts.{stop-zero}
use Rattle.word_arena.proofs.holes.Holes.take_up.Goals as goal

pub loop-stretch-init : goal.loop-stretch-init
loop-stretch-init c =
    record {
      room = record { stretches = c.requires.room.stretches; tops = ap length c.clear.ensures ∙ (length-replicate (length c.args.self.now.tops) 0 ∙ c.requires.room.tops); few = c.requires.room.few };
      same_len = search rules;
      start = record { stop = stop-zero _ c.requires.blocked; low = λ _. omega arith; least = λ p begins low. omega arith };
      free = search rules;
      right = λ i below. absurd (omega (arith, below));
    }
