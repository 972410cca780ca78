use Rattle.std.proofs.Common.{◌++◌, ap, ◌∙◌, subst, decimal, Err}
use Rattle.line_io.specs.Sink.{Grew}
use Rattle.term_print.specs.Own.{comma_before}
use Rattle.text_parts.proofs.Writing.{written-as}
use Rattle.term_print.proofs.Numbers.{bytes-begin-badly, bytes-first, bytes-more, bytes-stop, bytes-end}
use Rattle.term_print.proofs.binary.put_binary.Goals as goal

pub returns-in_err-put : goal.returns-in_err-put
returns-in_err-put g c = λ xs h.
    bytes-begin-badly xs g.K.Sink.wrote g.K.Sink.faults c.args.sink.now c.put.new.sink c.in_err-put.field-0.0 c.from_residual.result c.from_residual.ensures.0 c.in_err-put.ensures

pub loop-i-init : goal.loop-i-init
loop-i-init g c = record { come = λ xs h. bytes-first xs g.K.Sink.wrote c.args.sink.now c.put.new.sink c.in_ok-put.ensures.all; told = c.in_ok-put.ensures.told }

pub returns-in_err-put_byte : goal.returns-in_err-put_byte
returns-in_err-put_byte g c = λ xs h.
    bytes-stop c.args.mem.now c.args.bytes xs c.loop-i.i c.byte.result g.K.Sink.wrote g.K.Sink.faults c.args.sink.now c.loop-i.sink c.put_byte.new.sink c.in_err-put_byte.field-0.0
    c.from_residual-in_err-put_byte.result c.from_residual-in_err-put_byte.ensures.0 c.loop-i.invariant.told h c.loop-i-test.true c.byte.ensures (c.loop-i.invariant.come xs h)
    (written-as g.K.Sink.wrote g.K.Sink.faults c.loop-i.sink c.put_byte.new.sink (c.comma.result.now ++ decimal c.byte.result) (comma_before c.loop-i.i ++ decimal c.byte.result)
    (Err c.in_err-put_byte.field-0.0) (ap (λ z. z ++ decimal c.byte.result) c.comma.ensures) c.in_err-put_byte.ensures)

pub loop-i-preserved : goal.loop-i-preserved
loop-i-preserved g c = record {
  come = λ xs h. bytes-more c.args.mem.now c.args.bytes xs c.loop-i.i c.byte.result g.K.Sink.wrote c.args.sink.now c.loop-i.sink c.put_byte.new.sink h c.loop-i-test.true c.byte.ensures
      (c.loop-i.invariant.come xs h) (subst (Grew g.K.Sink.wrote c.loop-i.sink c.put_byte.new.sink) (ap (λ z. z ++ decimal c.byte.result) c.comma.ensures) c.in_ok-put_byte.ensures.all);
  told = c.in_ok-put_byte.ensures.told ∙ c.loop-i.invariant.told;
}

pub returns : goal.returns
returns g c = λ xs h.
    bytes-end c.args.mem.now c.args.bytes xs c.loop-i.i g.K.Sink.wrote g.K.Sink.faults c.args.sink.now c.loop-i.sink c.put-2.new.sink c.put-2.result c.loop-i.invariant.told h c.loop-i-test.false
    (c.loop-i.invariant.come xs h) c.put-2.ensures
