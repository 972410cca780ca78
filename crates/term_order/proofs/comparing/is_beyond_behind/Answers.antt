use Rattle.term_order.proofs.Passing.{after-within, after-beyond}
use Rattle.term_order.proofs.comparing.is_beyond_behind.Goals as goal

pub returns-in-Within : goal.returns-in-Within
returns-in-Within c = λ r shared t s. after-within shared c.args.cells c.in-Within.found t c.requires.few (c.in-Within.ensures.each r shared t s)

pub returns-in-Beyond : goal.returns-in-Beyond
returns-in-Beyond c = λ r shared t s. after-beyond shared c.args.cells t (c.in-Beyond.ensures.each r shared t s)
