use Rattle.std.proofs.Common.{rules}
use Rattle.engine.proofs.reply.compared_word.Goals as goal

pub returns-in-Less : goal.returns-in-Less
returns-in-Less c = search rules
