use Rattle.std.proofs.Common.{rules}
use Rattle.word_mem.proofs.mem.WordMem.set.Goals as goal

pub returns : goal.returns
returns c = search rules
