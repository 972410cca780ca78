use Rattle.std.proofs.Common.{◌∙◌}
use Rattle.word_arena.proofs.Laid.Lent.{lent, lent-free}
use Rattle.block_slide.proofs.passes.slide.Goals as goal

pub pack-requires : goal.pack-requires
pack-requires c = lent c.args.arena.now c.relocate_parts.new.mem c.requires.sound c.relocate_parts.ensures.headers

pub returns-clause-free : goal.returns-clause-free
returns-clause-free c =
    c.pack.ensures.free ∙ lent-free c.args.arena.now.mem c.relocate_parts.new.mem c.requires.sound.blocked c.relocate_parts.ensures.headers
