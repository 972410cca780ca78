use Rattle.std.proofs.Common.{length, ap, arith}
use Rattle.process_verbs.proofs.Telling.{come-more, come-none, come-short, here-printable}
use Rattle.process_verbs.proofs.queue.put_messages.Goals as goal

pub loop-i-init : goal.loop-i-init
loop-i-init g c =
    let m = g.H.Heaps.meaning in (
      c.requires.waits,
      (c.requires.count, (omega arith, come-none g.K.Sink.wrote g.K.Sink.faults c.args.names.now (m.mem c.args.heaps.now) (m.messages c.args.heaps.now c.args.at) c.args.sink.now)),
    )

pub put_message-requires : goal.put_message-requires
put_message-requires g c =
    let m = g.H.Heaps.meaning in
    rw c.mem.ensures (here-printable g.K.Sink.wrote g.K.Sink.faults c.args.names.now (m.mem c.args.heaps.now) (m.messages c.args.heaps.now c.args.at) c.args.sink.now c.loop-i.sink c.loop-i.i
    (m.messages c.args.heaps.now c.loop-i.rest) c.loop-i.invariant.1.1.1 c.message-next.result.word (m.messages c.args.heaps.now c.message-next.result.rest) c.message-next.ensures.words
    c.requires.have)

pub returns-in_err-put_message : goal.returns-in_err-put_message
returns-in_err-put_message g c =
    let m = g.H.Heaps.meaning in
    come-short g.K.Sink.wrote g.K.Sink.faults c.args.names.now (m.mem c.args.heaps.now) (m.messages c.args.heaps.now c.args.at) c.args.sink.now c.loop-i.sink c.loop-i.i
    (m.messages c.args.heaps.now c.loop-i.rest) c.loop-i.invariant.1.1.1 c.message-next.result.word (m.messages c.args.heaps.now c.message-next.result.rest) c.message-next.ensures.words
    c.put_message.new.sink c.in_err-put_message.field-0.0 c.from_residual.result c.from_residual.ensures.0
    (λ shared t standing. c.in_err-put_message.ensures shared t (rw c.mem.ensures standing))

pub loop-i-preserved : goal.loop-i-preserved
loop-i-preserved g c =
    let m = g.H.Heaps.meaning in
    let i = c.loop-i.invariant in
    let k = here-printable g.K.Sink.wrote g.K.Sink.faults c.args.names.now (m.mem c.args.heaps.now) (m.messages c.args.heaps.now c.args.at) c.args.sink.now c.loop-i.sink c.loop-i.i
    (m.messages c.args.heaps.now c.loop-i.rest) i.1.1.1 c.message-next.result.word (m.messages c.args.heaps.now c.message-next.result.rest) c.message-next.ensures.words c.requires.have in (
      c.message-next.ensures.waits,
      (
        omega (arith, ap length c.message-next.ensures.words, i.1.0, c.message-next.ensures.count),
        (
          omega (arith, i.1.1.0, c.message-next.ensures.count),
          come-more g.K.Sink.wrote g.K.Sink.faults c.args.names.now (m.mem c.args.heaps.now) (m.messages c.args.heaps.now c.args.at) c.args.sink.now c.loop-i.sink c.loop-i.i
              (m.messages c.args.heaps.now c.loop-i.rest) i.1.1.1 c.message-next.result.word (m.messages c.args.heaps.now c.message-next.result.rest) c.message-next.ensures.words
              c.put_message.new.sink (λ shared t standing. (c.in_ok-put_message.ensures shared t (rw c.mem.ensures standing)).all)
              (c.in_ok-put_message.ensures k.shared k.tree (rw c.mem.ensures k.standing)).told,
        ),
      ),
    )
