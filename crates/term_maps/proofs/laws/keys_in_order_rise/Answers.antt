use Rattle.plain_term.proofs.Putting.{in-order-rises}
use Rattle.term_maps.proofs.Putting.{in-order-within}
use Rattle.term_maps.proofs.laws.keys_in_order_rise.Goals as goal

pub returns-clause-rise : goal.returns-clause-rise
returns-clause-rise c = in-order-rises

pub returns-clause-within : goal.returns-clause-within
returns-clause-within c = in-order-within
