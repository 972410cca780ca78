use Rattle.std.proofs.Common.{decimal, refl}
use Rattle.script_grammar.specs.Written.Terms.{end}
use Rattle.engine.proofs.Replies.{told-line, refused-line}
use Rattle.engine.proofs.reply.put_flat.Goals as goal

pub measure-requires : goal.measure-requires
measure-requires g c = record { sits = c.requires.can.0; register = c.requires.can.1 }

pub returns-in-Ok : goal.returns-in-Ok
returns-in-Ok g c = λ s h.
    told-line g.K.Sink.wrote g.K.Sink.faults c.args.sink.now c.put_counted.new.sink _ (λ m. decimal m.flat) c.in-Ok.measure (decimal c.in-Ok.measure.flat) c.put_counted.result
    (c.in-Ok.ensures.flat s end c.args.names.now h) refl c.put_counted.ensures

pub returns-in-Err : goal.returns-in-Err
returns-in-Err g c = λ s h.
    refused-line g.K.Sink.wrote g.K.Sink.faults c.args.sink.now c.put_refusal.new.sink _ (λ m. decimal m.flat) c.in-Err.refusal c.put_refusal.result
    (c.in-Err.ensures.flat s end c.args.names.now h) c.put_refusal.ensures
