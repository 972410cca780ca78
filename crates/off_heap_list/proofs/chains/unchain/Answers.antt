use Rattle.off_heap_list.proofs.Chaining.Chained.{unchain-written}
use Rattle.off_heap_list.proofs.chains.unchain.Goals as goal

pub returns-clause-links : goal.returns-clause-links
returns-clause-links c = λ k p os further single l.
    rw (c.drop_one.ensures.writes, c.next_of-next.ensures)
    (unchain-written k c.args.mem.now c.args.head p c.record_of-record.result os further single c.record_of-record.ensures l)
