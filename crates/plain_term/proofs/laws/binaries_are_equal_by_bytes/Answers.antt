use Rattle.plain_term.proofs.LawLemmas.{equal-binaries}
use Rattle.plain_term.proofs.laws.binaries_are_equal_by_bytes.Goals as goal

pub returns : goal.returns
returns c = λ names s a b p q. equal-binaries names s a b p q
