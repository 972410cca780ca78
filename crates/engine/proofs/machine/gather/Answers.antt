use Rattle.std.proofs.Common.{sym, ◌∙◌}
use Rattle.line_io.proofs.Collects.{same-sink, finished, given-up}
use Rattle.engine.proofs.machine.gather.Goals as goal

pub returns-in_err-put_reply : goal.returns-in_err-put_reply
returns-in_err-put_reply g c = record {
  sent = λ s h.
      let old = c.new-gathered.result in
      let new = c.put_reply.new.sink in
      let made = c.new-gathered.ensures in
      let w = c.in_err-put_reply.ensures.sent s h in
      let names = sym made.same_reference ∙ same-sink g.K.Sink.wrote old new w.part.part made.empty w.part.grew in
      given-up g.K.Sink.wrote old new g.K.Sink.faults _ _ _ c.from_residual.result c.from_residual.ensures.0 made.sink made.empty w.part w.later w.rose (c.in_err-put_reply.sink-1-own.given.1 names);
  allowed = c.in_err-put_reply.ensures.allowed;
}

pub returns : goal.returns
returns g c = record {
  sent = λ s h.
      let old = c.new-gathered.result in
      let new = c.put_reply.new.sink in
      let made = c.new-gathered.ensures in
      let w = c.in_ok-put_reply.ensures.sent s h in
      let f = c.finish.ensures in
      let names = sym made.same_reference ∙ same-sink g.K.Sink.wrote old new _ made.empty w.all ∙ sym f.same_reference in
      finished g.K.Sink.wrote old new g.K.Sink.faults _ _ _ _ c.finish.result made.sink made.empty w.all w.later w.told
      (record { all = f.all; part = f.part; later = f.later; rose = f.rose; told = f.told }) (c.sink-2-1.given.1 names);
  allowed = c.in_ok-put_reply.ensures.allowed;
}
