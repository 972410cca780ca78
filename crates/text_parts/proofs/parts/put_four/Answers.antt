use Rattle.std.proofs.Common.{◌++◌}
use Rattle.text_parts.proofs.Writing.{written-after}
use Rattle.text_parts.proofs.parts.put_four.Goals as goal

pub returns : goal.returns
returns g c =
    written-after g.K.Sink.wrote g.K.Sink.faults c.args.sink.now c.put.new.sink c.put_three.new.sink c.args.a.now (c.args.b.now ++ (c.args.c.now ++ c.args.d.now)) c.put_three.result
    c.in_ok-put.ensures.all c.in_ok-put.ensures.told c.put_three.ensures
