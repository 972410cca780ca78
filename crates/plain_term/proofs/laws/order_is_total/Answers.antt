use Rattle.plain_term.specs.Order.{order}
use Rattle.plain_term.proofs.TokenLemmas.{order-total}
use Rattle.plain_term.proofs.LawLemmas.{neither}
use Rattle.plain_term.proofs.laws.order_is_total.Goals as goal

pub returns-clause-total : goal.returns-clause-total
returns-clause-total c = λ names s. order-total names s

pub returns-clause-equal : goal.returns-clause-equal
returns-clause-equal c = λ names s a b. neither (order names s a b) (order names s b a) ((order-total names s).antisymm a b)
