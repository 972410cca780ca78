use Rattle.std.proofs.Common.{arith, refl}
use Rattle.line_io.proofs.Growth.{Grew-nil}
use Rattle.engine.proofs.Replies.{reply-same, allows-same}
use Rattle.engine.proofs.reply.put_reply.Goals as goal

pub returns-in-Nothing : goal.returns-in-Nothing
returns-in-Nothing g c = record {
  sent = λ s h. reply-same g.K.Sink.wrote g.K.Sink.faults _ _ _ _ _ _ c.in-Nothing.is
      (record { all = Grew-nil g.K.Sink.wrote c.args.sink.now; part = tt; later = omega arith; rose = tt; told = refl });
  allowed = λ s h e. allows-same _ _ _ c.in-Nothing.is tt;
}

pub returns-in-Done : goal.returns-in-Done
returns-in-Done g c = record {
  sent = λ s h. reply-same g.K.Sink.wrote g.K.Sink.faults _ _ _ _ _ _ c.in-Done.is c.put.ensures;
  allowed = λ s h e. allows-same _ _ _ c.in-Done.is tt;
}

pub returns-in-Quit : goal.returns-in-Quit
returns-in-Quit g c = record {
  sent = λ s h. reply-same g.K.Sink.wrote g.K.Sink.faults _ _ _ _ _ _ c.in-Quit.is c.put-in-Quit.ensures;
  allowed = λ s h e. allows-same _ _ _ c.in-Quit.is tt;
}

pub returns-in-Spawned : goal.returns-in-Spawned
returns-in-Spawned g c = record {
  sent = λ s h. reply-same g.K.Sink.wrote g.K.Sink.faults _ _ _ _ _ _ c.in-Spawned.is c.put_counted.ensures;
  allowed = λ s h e. allows-same _ _ _ c.in-Spawned.is tt;
}

pub returns-in-Numbers : goal.returns-in-Numbers
returns-in-Numbers g c = record {
  sent = λ s h. reply-same g.K.Sink.wrote g.K.Sink.faults _ _ _ _ _ _ c.in-Numbers.is (c.put_numbers.ensures s h);
  allowed = λ s h e. allows-same _ _ _ c.in-Numbers.is tt;
}

pub returns-in-Map : goal.returns-in-Map
returns-in-Map g c = record {
  sent = λ s h. reply-same g.K.Sink.wrote g.K.Sink.faults _ _ _ _ _ _ c.in-Map.is c.put_map.ensures.sent;
  allowed = λ s h e. allows-same _ _ _ c.in-Map.is (c.put_map.ensures.allowed s h e);
}

pub returns-in-Told : goal.returns-in-Told
returns-in-Told g c = record {
  sent = λ s h. reply-same g.K.Sink.wrote g.K.Sink.faults _ _ _ _ _ _ c.in-Told.is (c.put_told.ensures s h);
  allowed = λ s h e. allows-same _ _ _ c.in-Told.is tt;
}

pub returns-in-Refused : goal.returns-in-Refused
returns-in-Refused g c = record {
  sent = λ s h. reply-same g.K.Sink.wrote g.K.Sink.faults _ _ _ _ _ _ c.in-Refused.is c.put_refusal.ensures;
  allowed = λ s h e. allows-same _ _ _ c.in-Refused.is tt;
}
