use Rattle.std.proofs.Common.{length}
use Rattle.script_parse.proofs.verbs.+numbers.Given as goal

abbrev pub decreases-numbers : goal.decreases-numbers
decreases-numbers l = length l.kinds.now
