use Rattle.std.proofs.Common.{subst}
use Rattle.line_io.specs.Sink.{Grew}
use Rattle.plain_term.specs.Text.{text}
use Rattle.reply_text.specs.Texts.{divider}
use Rattle.term_words.specs.Role.{always}
use Rattle.text_parts.proofs.Writing.{written-after}
use Rattle.process_verbs.proofs.Telling.{said-at-once}
use Rattle.process_verbs.proofs.queue.put_message.Goals as goal

pub returns : goal.returns
returns g c = λ shared t standing.
    written-after g.K.Sink.wrote g.K.Sink.faults c.args.sink.now c.put.new.sink c.print.new.sink (divider c.args.first) (text c.args.names.now shared t) c.print.result
    (subst (Grew g.K.Sink.wrote c.args.sink.now c.put.new.sink) c.divider_bytes.ensures c.in_ok-put.ensures.all) c.in_ok-put.ensures.told
    (said-at-once g.K.Sink.wrote g.K.Sink.faults c.put.new.sink c.print.new.sink (text c.args.names.now shared t) c.print.result (c.print.ensures.puts always shared t standing)
    c.print.ensures.later c.print.ensures.rose c.print.ensures.told)
