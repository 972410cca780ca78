use Rattle.std.proofs.Common.{arith}
use Rattle.term_print.proofs.Shortly.{few-within}
use Rattle.term_print.proofs.short.print_short.Goals as goal

pub returns-clause-within : goal.returns-clause-within
returns-clause-within g c = λ k shared t s.
    few-within shared t c.gather_term-left.result ((c.gather_term-left.ensures.gathers (omega (arith, c.if-left-eq0.false))).few k shared t s)
