use Rattle.cheney.proofs.Rooted.Begins.{has-collected}
use Rattle.cheney.proofs.After.Next.{fits-again, lies-again, ready-again}
use Rattle.cheney.proofs.laws.collections_can_follow.Goals as goal

pub returns-clause-lies : goal.returns-clause-lies
returns-clause-lies c = λ p q m mv run roots n. lies-again p q m mv run roots (has-collected p m mv run roots) n

pub returns-clause-fits : goal.returns-clause-fits
returns-clause-fits c = λ p q m mv run roots n. fits-again p q m mv run roots (has-collected p m mv run roots) n

pub returns-clause-ready : goal.returns-clause-ready
returns-clause-ready c = λ p q m mv s run roots r g. ready-again p q m mv run roots (has-collected p m mv run roots) g.succeeds s r g
