use Rattle.std.proofs.Common.{◌+◌, ◌-◌, ◌*◌, ◌≤◌, length, reverse}
use Rattle.plain_term.specs.Beyond.{node_limit}
use Rattle.term_print.specs.Going.{Continues}
use Rattle.term_print.proofs.printing.print_left.Given as goal

abbrev pub invariant-loop-text : goal.invariant-loop-text
invariant-loop-text g l = record {
  on : Continues l.mem l.names (reverse l.fn.levels.items) l.before (reverse l.levels.items) l.seen g.K.Sink.wrote g.K.Sink.faults l.fn.sink l.sink;
  few : l.seen ≤ node_limit;
}

abbrev pub decreases-loop-text : goal.decreases-loop-text
decreases-loop-text g l = 2 * (node_limit - l.seen) + length l.levels.items
