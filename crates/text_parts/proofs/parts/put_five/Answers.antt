use Rattle.std.proofs.Common.{◌++◌}
use Rattle.text_parts.proofs.Writing.{written-after}
use Rattle.text_parts.proofs.parts.put_five.Goals as goal

pub returns : goal.returns
returns g c =
    written-after g.K.Sink.wrote g.K.Sink.faults c.args.sink.now c.put.new.sink c.put_four.new.sink c.args.a.now (c.args.b.now ++ (c.args.c.now ++ (c.args.d.now ++ c.args.e.now)))
    c.put_four.result c.in_ok-put.ensures.all c.in_ok-put.ensures.told c.put_four.ensures
