use Rattle.std.proofs.Common.{ℕ, List, ◌++◌, codes, sym}
use Rattle.text_parts.proofs.Writing.{written-after, written-as, written-short}
use Rattle.counts_text.proofs.Whole.{come-first, come-more, come-short}
use Rattle.process_verbs.specs.Queued.{messages_text, whole_text}
use Rattle.process_verbs.proofs.queue.put_queue.Goals as goal

pub returns-in_err-put : goal.returns-in_err-put
returns-in_err-put g c = λ shared ts a.
    written-short g.K.Sink.wrote g.K.Sink.faults c.args.sink.now c.put.new.sink (codes "[") (messages_text c.args.names.now shared ts ++ codes "]") c.in_err-put.field-0.0 c.from_residual.result
    c.from_residual.ensures.0 c.in_err-put.ensures

pub returns-in_err-put_messages : goal.returns-in_err-put_messages
returns-in_err-put_messages g c = λ shared ts a.
    let all : List ℕ = messages_text c.args.names.now shared ts in
    let one = come-first g.K.Sink.wrote g.K.Sink.faults c.args.sink.now c.put.new.sink (codes "[") (all ++ codes "]") c.in_ok-put.ensures.all c.in_ok-put.ensures.told in
    come-short g.K.Sink.wrote g.K.Sink.faults c.args.sink.now c.put.new.sink c.put_messages.new.sink (whole_text c.args.names.now shared ts) (codes "[") all (codes "]")
    c.in_err-put_messages.field-0.0 c.from_residual-in_err-put_messages.result c.from_residual-in_err-put_messages.ensures.0 one (c.in_err-put_messages.ensures shared ts a)

pub returns : goal.returns
returns g c = λ shared ts a.
    let all : List ℕ = messages_text c.args.names.now shared ts in
    let whole : List ℕ = whole_text c.args.names.now shared ts in
    let one = come-first g.K.Sink.wrote g.K.Sink.faults c.args.sink.now c.put.new.sink (codes "[") (all ++ codes "]") c.in_ok-put.ensures.all c.in_ok-put.ensures.told in
    let came = c.in_ok-put_messages.ensures shared ts a in
    let two = come-more g.K.Sink.wrote g.K.Sink.faults c.args.sink.now c.put.new.sink c.put_messages.new.sink whole (codes "[") all (codes "]") one came.all came.told in
    written-as g.K.Sink.wrote g.K.Sink.faults c.args.sink.now c.put-2.new.sink ((codes "[" ++ all) ++ codes "]") whole c.put-2.result (sym two.parts)
    (written-after g.K.Sink.wrote g.K.Sink.faults c.args.sink.now c.put_messages.new.sink c.put-2.new.sink (codes "[" ++ all) (codes "]") c.put-2.result two.grew two.told c.put-2.ensures)
