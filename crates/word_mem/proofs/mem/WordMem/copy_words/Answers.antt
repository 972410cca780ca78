use Rattle.std.proofs.Common.{arith}
use Rattle.std.proofs.lemmas.Grind.{common_steps}
use Rattle.word_mem.proofs.Copies.{copied}
use Rattle.word_mem.proofs.mem.WordMem.copy_words.Goals as goal

pub copy_up-requires-clause-order : goal.copy_up-requires-clause-order
copy_up-requires-clause-order c = grind (arith, common_steps)

pub returns-then-dst-src-clause-list : goal.returns-then-dst-src-clause-list
returns-then-dst-src-clause-list c =
    copied c.args.self.now c.copy_up.new.self c.args.src c.args.dst c.args.n c.requires.source c.requires.target c.copy_up.ensures.same_len c.copy_up.ensures.moved c.copy_up.ensures.kept

pub returns-else-dst-src-clause-list : goal.returns-else-dst-src-clause-list
returns-else-dst-src-clause-list c =
    copied c.args.self.now c.copy_down.new.self c.args.src c.args.dst c.args.n c.requires.source c.requires.target c.copy_down.ensures.same_len c.copy_down.ensures.moved c.copy_down.ensures.kept
