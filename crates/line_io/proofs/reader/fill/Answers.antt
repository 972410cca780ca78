use Rattle.std.proofs.Common.{arith}
use Rattle.std.proofs.lemmas.Grind.{common_steps}
use Rattle.line_io.proofs.Loop.{Gave-same}
use Rattle.line_io.proofs.reader.fill.Goals as goal

pub returns-clause-told : goal.returns-clause-told
returns-clause-told g c = c.read.ensures.told

pub returns-clause-failed : goal.returns-clause-failed
returns-clause-failed g c = c.read.ensures.failed

pub returns-clause-later : goal.returns-clause-later
returns-clause-later g c = c.read.ensures.later

pub returns-clause-bytes : goal.returns-clause-bytes
returns-clause-bytes g c = Gave-same _ _ _ (c.read.new.buf) _ c.read.ensures.bytes (grind (arith, common_steps))
