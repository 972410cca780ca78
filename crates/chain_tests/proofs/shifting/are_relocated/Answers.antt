use Rattle.chain_tests.proofs.SampleShift.{is-row, still-inside}
use Rattle.chain_tests.proofs.shifting.are_relocated.Goals as goal

pub relocate_row-requires-clause-row : goal.relocate_row-requires-clause-row
relocate_row-requires-clause-row c = is-row c.laid.result c.in_ok-mem.mem c.in_ok-mem.was c.laid.ensures

pub relocate_words-requires-clause-inside : goal.relocate_words-requires-clause-inside
relocate_words-requires-clause-inside c =
    let row = is-row c.laid.result c.in_ok-mem.mem c.in_ok-mem.was c.laid.ensures in
    still-inside c.laid.result c.in_ok-mem.mem c.relocate_row.new.mem c.in_ok-mem.was c.laid.ensures (c.relocate_row.ensures row.ws row.are).beside.same_len
