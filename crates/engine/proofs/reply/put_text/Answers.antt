use Rattle.std.proofs.Common.{Err, ap}
use Rattle.script_grammar.specs.Written.Terms.{end}
use Rattle.engine.proofs.Replies.{text-line, big-line, text-stopped}
use Rattle.engine.proofs.reply.put_text.Goals as goal

pub print-requires : goal.print-requires
print-requires g c = record { sits = c.requires.can.0; register = c.requires.can.1; named = c.requires.can.2 }

pub returns-in-Ok : goal.returns-in-Ok
returns-in-Ok g c = λ s h.
    text-line g.K.Sink.wrote g.K.Sink.faults c.args.sink.now c.print.new.sink c.put.new.sink _ c.in-Ok.field-0 c.put.result (c.in-Ok.ensures.prints s _ h) c.in-Ok.ensures.told c.put.ensures

pub returns-in-Err-Big : goal.returns-in-Err-Big
returns-in-Err-Big g c = λ s h.
    big-line _ g.K.Sink.wrote g.K.Sink.faults c.args.sink.now c.print.new.sink c.put_refusal.new.sink _ c.in-Err-Big.field-0 c.put_refusal.result c.in-Err-Big.field-0-is
    (c.in-Err-Big.ensures.big (ap (λ x. Err x) c.in-Err-Big.field-0-is)) (c.in-Err-Big.ensures.prints s end h) c.put_refusal.ensures

pub returns-in-Err-Fault : goal.returns-in-Err-Fault
returns-in-Err-Fault g c = λ s h. record {
  all = tt;
  part = text-stopped _ g.K.Sink.wrote c.args.sink.now c.print.new.sink _ c.in-Err-Fault.field-0 c.in-Err-Fault.field-0-is (c.in-Err-Fault.ensures.prints s end h);
  later = c.print.ensures.later;
  rose = c.in-Err-Fault.ensures.rose (ap (λ x. Err x) c.in-Err-Fault.field-0-is);
  told = tt;
}
