use Rattle.plain_term.proofs.LawLemmas.{alike}
use Rattle.plain_term.proofs.laws.equal_terms_measure_alike.Goals as goal

pub returns : goal.returns
returns c = λ names s a b e. alike names s a b e
