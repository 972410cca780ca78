use Rattle.plain_term.proofs.LawLemmas.{reads-back}
use Rattle.plain_term.proofs.laws.integers_read_back.Goals as goal

pub returns : goal.returns
returns c = λ names s i h. reads-back i h
