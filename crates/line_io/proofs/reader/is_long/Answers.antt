use Rattle.std.proofs.Common.{refl}
use Rattle.line_io.proofs.reader.is_long.Goals as goal

pub returns-then-long : goal.returns-then-long
returns-then-long c = rw c.if-long.true refl

pub returns-else-long : goal.returns-else-long
returns-else-long c = rw c.if-long.false refl
