use Rattle.std.proofs.Common.{arith, refl, sym}
use Rattle.line_io.proofs.Growth.{Grew-nil}
use Rattle.text_parts.proofs.Writing.{written-as}
use Rattle.engine.proofs.Replies.{plain-allows, reply-same, allows-same}
use Rattle.engine.proofs.machine.send.Goals as goal

pub returns-in-Nothing : goal.returns-in-Nothing
returns-in-Nothing g c = record {
  sent = λ s h. reply-same g.K.Sink.wrote g.K.Sink.faults _ _ _ _ _ _ c.in-Nothing.is
      (record { all = Grew-nil g.K.Sink.wrote c.args.sink.now; part = tt; later = omega arith; rose = tt; told = refl });
  allowed = λ s h e. allows-same _ _ _ c.in-Nothing.is tt;
}

pub returns-in-Some : goal.returns-in-Some
returns-in-Some g c = record {
  sent = λ s h. written-as g.K.Sink.wrote g.K.Sink.faults _ _ _ _ c.put.result (sym (c.in-Some.ensures.text _)) c.put.ensures;
  allowed = λ s h e. plain-allows c.args.reply _ c.in-Some.ensures.plain;
}

pub returns : goal.returns
returns g c = record { sent = c.gather.ensures.sent; allowed = c.gather.ensures.allowed }
