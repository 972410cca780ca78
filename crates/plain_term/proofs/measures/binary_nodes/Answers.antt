use Rattle.std.proofs.Common.{arith}
use Rattle.plain_term.proofs.measures.binary_nodes.Goals as goal

pub returns : goal.returns
returns c = omega arith
