use Rattle.std.proofs.Common.{ap}
use Rattle.engine.specs.Replies.{ends_script}
use Rattle.engine.proofs.Replies.{goes-on}
use Rattle.engine.proofs.machine.answer.Goals as goal

pub returns-in-Err : goal.returns-in-Err
returns-in-Err g c = record {
  tells = tt;
  writes = λ s h. let e = c.in-Err.ensures.sent s h in (e.part, e.rose);
  allowed = c.send.ensures.allowed;
  later = λ s h. (c.in-Err.ensures.sent s h).later;
}

pub returns-in-Quit : goal.returns-in-Quit
returns-in-Quit g c = record {
  tells = ap ends_script c.in-Quit.is;
  writes = λ s h. let e = c.in_default.ensures.sent s h in (e.all, e.told);
  allowed = c.send.ensures.allowed;
  later = λ s h. (c.in_default.ensures.sent s h).later;
}

pub returns : goal.returns
returns g c = record {
  tells = goes-on c.args.reply c.in_default-reply.not-Quit;
  writes = λ s h. let e = c.in_default.ensures.sent s h in (e.all, e.told);
  allowed = c.send.ensures.allowed;
  later = λ s h. (c.in_default.ensures.sent s h).later;
}
