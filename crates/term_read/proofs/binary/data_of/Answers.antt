use Rattle.std.proofs.Common.{None, ap}
use Rattle.term_read.specs.Look.{data_in}
use Rattle.term_read.proofs.Seen.{has-data, no-data}
use Rattle.term_read.proofs.binary.data_of.Goals as goal

pub returns-in-Heap : goal.returns-in-Heap
returns-in-Heap c = has-data c.args.mem.now c.args.w c.look_at.result _ c.look_at.ensures.tree (ap data_in c.in-Heap.is)

pub returns-in-Holder : goal.returns-in-Holder
returns-in-Holder c = has-data c.args.mem.now c.args.w c.look_at.result _ c.look_at.ensures.tree (ap data_in c.in-Holder.is)

pub returns-in-Part : goal.returns-in-Part
returns-in-Part c = has-data c.args.mem.now c.args.w c.look_at.result _ c.look_at.ensures.tree (ap data_in c.in-Part.is)

pub returns-in_default : goal.returns-in_default
returns-in_default c = has-data c.args.mem.now c.args.w c.look_at.result None c.look_at.ensures.tree (no-data c.look_at.result c.in_default.not-Heap c.in_default.not-Holder c.in_default.not-Part)
