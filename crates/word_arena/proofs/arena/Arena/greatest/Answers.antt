use Rattle.word_arena.proofs.Found.Searching.{greatest-is}
use Rattle.word_arena.proofs.arena.Arena.greatest.Goals as goal

pub returns : goal.returns
returns c = greatest-is c.args.self.now.mem c.args.self.now.holes c.greatest.result c.requires.blocked c.requires.agrees c.greatest.ensures.above c.greatest.ensures.met
