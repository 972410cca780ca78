use Rattle.std.proofs.Common.{subst}
use Rattle.engine.specs.Replies.{CanReply}
use Rattle.engine.specs.declared.reply.Reply.TheVariants.{Told}
use Rattle.script_grammar.specs.Written.Terms.{end}
use Rattle.engine.proofs.Replies.{told-verb, queue-line, queue-stopped}
use Rattle.engine.proofs.Writing.{stopped}
use Rattle.engine.proofs.reply.put_told.Goals as goal

pub put_text-requires : goal.put_text-requires
put_text-requires g c =
    record { can = subst (λ v. CanReply g.S.Space.sits g.S.Space.named c.args.space.now c.args.names.now (Told c.args.seat v)) c.in-Text.is c.requires.can }

pub returns-in-Text : goal.returns-in-Text
returns-in-Text g c = λ s h. told-verb g.K.Sink.wrote g.K.Sink.faults _ _ c.put_text.result c.args.seat _ _
    (record { state = s; names = c.args.names.now; text = g.S.Space.text c.args.space.now c.args.names.now }) c.in-Text.is (c.put_text.ensures s h)

pub put_compared-requires : goal.put_compared-requires
put_compared-requires g c =
    record { can = subst (λ v. CanReply g.S.Space.sits g.S.Space.named c.args.space.now c.args.names.now (Told c.args.seat v)) c.in-Compared.is c.requires.can }

pub returns-in-Compared : goal.returns-in-Compared
returns-in-Compared g c = λ s h. told-verb g.K.Sink.wrote g.K.Sink.faults _ _ c.put_compared.result c.args.seat _ _
    (record { state = s; names = c.args.names.now; text = g.S.Space.text c.args.space.now c.args.names.now }) c.in-Compared.is (c.put_compared.ensures s h)

pub put_flat-requires : goal.put_flat-requires
put_flat-requires g c =
    record { can = subst (λ v. CanReply g.S.Space.sits g.S.Space.named c.args.space.now c.args.names.now (Told c.args.seat v)) c.in-Flat.is c.requires.can }

pub returns-in-Flat : goal.returns-in-Flat
returns-in-Flat g c = λ s h. told-verb g.K.Sink.wrote g.K.Sink.faults _ _ c.put_flat.result c.args.seat _ _
    (record { state = s; names = c.args.names.now; text = g.S.Space.text c.args.space.now c.args.names.now }) c.in-Flat.is (c.put_flat.ensures s h)

pub returns-in_err-queue-in-Queue : goal.returns-in_err-queue-in-Queue
returns-in_err-queue-in-Queue g c = λ s h.
    let e = c.in_err-queue-in-Queue.ensures in
    told-verb g.K.Sink.wrote g.K.Sink.faults _ _ c.from_residual.result c.args.seat _ _
    (record { state = s; names = c.args.names.now; text = g.S.Space.text c.args.space.now c.args.names.now }) c.in-Queue.is
    (stopped g.K.Sink.wrote g.K.Sink.faults _ _ _ _ (c.from_residual.ensures.0) (queue-stopped _ _ g.K.Sink.wrote c.args.sink.now c.queue.new.sink _ _ (e.writes s end h)) e.later e.rose)

pub returns-in_ok-queue-in-Queue : goal.returns-in_ok-queue-in-Queue
returns-in_ok-queue-in-Queue g c = λ s h.
    told-verb g.K.Sink.wrote g.K.Sink.faults _ _ c.put.result c.args.seat _ _
    (record { state = s; names = c.args.names.now; text = g.S.Space.text c.args.space.now c.args.names.now }) c.in-Queue.is
    (queue-line _ g.K.Sink.wrote g.K.Sink.faults c.args.sink.now c.queue.new.sink c.put.new.sink _ c.in_ok-queue-in-Queue.field-0 c.put.result (c.in_ok-queue-in-Queue.ensures.writes s end h)
    c.in_ok-queue-in-Queue.ensures.told c.put.ensures)
