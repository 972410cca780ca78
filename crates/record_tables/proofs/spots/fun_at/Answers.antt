use Rattle.std.proofs.Common.{get_or}
use Rattle.term_words.proofs.Totals.Members.{in-at}
use Rattle.record_tables.proofs.spots.fun_at.Goals as goal

pub serial_of-requires : goal.serial_of-requires
serial_of-requires c = c.requires (get_or c.args.funs.now c.args.i 0) (in-at c.args.funs.now c.args.i c.if-i-funs.false)
