use Rattle.script_grammar.specs.Written.Terms.{end}
use Rattle.engine.specs.Writing.{compared_text}
use Rattle.engine.proofs.Replies.{told-line, refused-line, compared-registers, compared-tells}
use Rattle.engine.proofs.reply.put_compared.Goals as goal

pub compare-requires : goal.compare-requires
compare-requires g c =
    let two = compared-registers c.args.asked c.args.a c.args.b c.requires.can.1 in record {
      sits = c.requires.can.0;
      register = two.0;
      other = two.1;
      named = c.requires.can.2;
    }

pub returns-in-Ok : goal.returns-in-Ok
returns-in-Ok g c = λ s h.
    told-line g.K.Sink.wrote g.K.Sink.faults c.args.sink.now c.put_two.new.sink _ (compared_text c.args.asked) c.in-Ok.order c.compared_word.result.now c.put_two.result
    (compared-tells s c.args.seat.pid c.args.names.now c.args.asked c.args.a c.args.b _ (c.in-Ok.ensures.equal s end h) (c.in-Ok.ensures.order s end h)) c.compared_word.ensures c.put_two.ensures

pub returns-in-Err : goal.returns-in-Err
returns-in-Err g c = λ s h.
    refused-line g.K.Sink.wrote g.K.Sink.faults c.args.sink.now c.put_refusal.new.sink _ (compared_text c.args.asked) c.in-Err.refusal c.put_refusal.result
    (compared-tells s c.args.seat.pid c.args.names.now c.args.asked c.args.a c.args.b _ (c.in-Err.ensures.equal s end h) (c.in-Err.ensures.order s end h)) c.put_refusal.ensures
