use Rattle.off_heap_list.proofs.Walked.Turning.{turned-one}
use Rattle.off_heap_list.proofs.turn.turn_next.Goals as goal

pub returns-clause-goes_on : goal.returns-clause-goes_on
returns-clause-goes_on c = λ k p os kept further single s.
    rw (c.set_next.ensures.writes, c.next_of-next.ensures) (turned-one k c.args.mem.now c.args.turn.now.rest p os c.args.turn.now.first kept further single s)
