use Rattle.word_arena.proofs.Laid.Turning.{turned-sound}
use Rattle.word_arena.proofs.arena.Arena.turn.Goals as goal

pub returns-clause-sound : goal.returns-clause-sound
returns-clause-sound c = turned-sound c.args.self.now c.set_kind.new.mem c.args.at c.args.kind c.requires.sound c.requires.block c.requires.kind.0 c.set_kind.ensures
