use Rattle.cheney.proofs.Rooted.Begins.{free-aside, other-aside, stay-aside}
use Rattle.cheney.proofs.laws.calls_change_no_other_words.Goals as goal

pub returns-clause-free : goal.returns-clause-free
returns-clause-free c = λ p s a b q y later past out none. free-aside p s a b later q past y out none

pub returns-clause-other : goal.returns-clause-other
returns-clause-other c = λ p s a b q k y later past h three four. other-aside p s a b later q k past y h three four

pub returns-clause-stays : goal.returns-clause-stays
returns-clause-stays c = λ p s a b q later past out stay whole. stay-aside p s a b later q past out stay whole
