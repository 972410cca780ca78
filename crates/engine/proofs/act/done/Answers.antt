use Rattle.std.proofs.Common.{sym, ap}
use Rattle.engine.specs.declared.reply.Reply.TheVariants.{Done}
use Rattle.engine.specs.Replies.{reply_of}
use Rattle.engine.proofs.act.done.Goals as goal

pub returns-in-Ok : goal.returns-in-Ok
returns-in-Ok c = ap (reply_of (λ _. Done)) (sym c.in-Ok.is)

pub returns-in-Err : goal.returns-in-Err
returns-in-Err c = ap (reply_of (λ _. Done)) (sym c.in-Err.is)
