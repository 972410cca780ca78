use Rattle.plain_term.proofs.LawLemmas.{depth-within}
use Rattle.plain_term.proofs.laws.depth_is_within_nodes.Goals as goal

pub returns : goal.returns
returns c = λ s t. depth-within s t
