use Rattle.plain_term.proofs.LawLemmas.{part-length}
use Rattle.plain_term.proofs.laws.parts_have_their_length.Goals as goal

pub returns : goal.returns
returns c = λ names s base offset len h. part-length names s base offset len h
