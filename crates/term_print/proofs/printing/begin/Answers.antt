use Rattle.std.proofs.Common.{reverse}
use Rattle.plain_term.specs.Bytes.{bytes_of}
use Rattle.term_order.proofs.Owning.{own-bytes}
use Rattle.term_print.specs.Left.{mark_text}
use Rattle.term_print.proofs.Opening.{begins, begins-badly, begins-readable}
use Rattle.term_print.proofs.printing.begin.Goals as goal

pub returns-in_err-put : goal.returns-in_err-put
returns-in_err-put g c = λ r shared now s.
    begins-badly r shared c.args.mem.now c.args.names.now (mark_text c.args.mark) c.mark_bytes.result.now c.args.tail now c.args.word c.look_at-look.result (reverse c.args.levels.now.items)
    (reverse c.keep.new.levels.items)
    c.level_of.result g.K.Sink.wrote g.K.Sink.faults c.args.sink.now c.put.new.sink c.in_err-put.field-0.0 c.from_residual.result c.from_residual.ensures.0
    (c.look_at-look.ensures.tree.each r shared now s)
    c.level_of.ensures c.keep.ensures c.mark_bytes.ensures c.in_err-put.ensures

pub put_own-requires : goal.put_own-requires
put_own-requires g c =
    begins-readable c.args.mem.now c.args.names.now c.args.word c.look_at-look.result c.requires.can c.look_at-look.ensures.tree c.look_at-look.ensures.places

pub returns : goal.returns
returns g c = λ r shared now s.
    let seen = c.look_at-look.ensures.tree.each r shared now s in
    begins r shared c.args.mem.now c.args.names.now (mark_text c.args.mark) c.mark_bytes.result.now c.args.tail now c.args.word c.look_at-look.result (reverse c.args.levels.now.items)
    (reverse c.keep.new.levels.items)
    c.level_of.result g.K.Sink.wrote g.K.Sink.faults c.args.sink.now c.put.new.sink c.put_own.new.sink c.put_own.result seen c.level_of.ensures c.keep.ensures c.mark_bytes.ensures
    c.in_ok-put.ensures.all c.in_ok-put.ensures.told
    (c.put_own.ensures (bytes_of shared now) (own-bytes r shared c.args.mem.now c.args.word now c.look_at-look.result seen))
