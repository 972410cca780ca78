use Rattle.cheney.proofs.Before.Spans.{Carrying}
use Rattle.cheney.proofs.stay.Stay.with.Given as goal

abbrev pub invariant-loop-next : goal.invariant-loop-next
invariant-loop-next l = Carrying l.self.spans.items l.fn.span l.stay.spans.items l.carried l.next-index
