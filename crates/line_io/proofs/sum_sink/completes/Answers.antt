use Rattle.std.proofs.Common.{refl}
use Rattle.line_io.proofs.sum_sink.completes.Goals as goal

pub returns-in-None : goal.returns-in-None
returns-in-None c = rw c.in-None.is refl
