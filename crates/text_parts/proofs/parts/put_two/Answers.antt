use Rattle.text_parts.proofs.Writing.{written-after}
use Rattle.text_parts.proofs.parts.put_two.Goals as goal

pub returns : goal.returns
returns g c =
    written-after g.K.Sink.wrote g.K.Sink.faults c.args.sink.now c.put.new.sink c.put-2.new.sink c.args.a.now (c.args.b.now) c.put-2.result c.in_ok-put.ensures.all c.in_ok-put.ensures.told
    c.put-2.ensures
