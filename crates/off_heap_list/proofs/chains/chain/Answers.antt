use Rattle.off_heap_list.proofs.Chaining.Chained.{chain-written}
use Rattle.off_heap_list.proofs.chains.chain.Goals as goal

pub returns-clause-kept : goal.returns-clause-kept
returns-clause-kept c = λ k lead count. record {
  each = λ shared w t s. (c.set_next.ensures.kept k lead).each shared w t ((c.add.ensures.kept k (rw c.record_of-record.ensures count)).each shared w t s);
}

pub returns-clause-links : goal.returns-clause-links
returns-clause-links c = λ k os further single l o fresh.
    rw (c.set_next.ensures.writes, c.add.ensures.writes)
    (chain-written k c.args.mem.now c.args.head c.args.object c.record_of-record.result os further single c.record_of-record.ensures l o fresh)
