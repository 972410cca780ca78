use Rattle.std.proofs.Common.{◌∙◌}
use Rattle.reply_text.proofs.Listed.{fields-begin, fields-more, fields-stop, fields-done}
use Rattle.reply_text.proofs.fields.put_fields.Goals as goal

pub loop-n-init : goal.loop-n-init
loop-n-init g c = record {
  grew = fields-begin g.K.Sink.wrote c.args.sink.now c.put.new.sink c.args.text.now c.args.numbers.now c.in_ok-put.ensures.all;
  told = c.in_ok-put.ensures.told;
}

pub returns-in_err-put_field : goal.returns-in_err-put_field
returns-in_err-put_field g c =
    fields-stop g.K.Sink.wrote g.K.Sink.faults c.args.sink.now c.loop-n.sink c.put_field.new.sink c.args.text.now c.args.numbers.now c.loop-n.n-index c.in_err-put_field.field-0.0
    c.from_residual-in_err-put_field.result c.from_residual-in_err-put_field.ensures.0 c.loop-n-test.true c.loop-n.invariant.grew c.loop-n.invariant.told c.in_err-put_field.ensures

pub loop-n-preserved : goal.loop-n-preserved
loop-n-preserved g c = record {
  grew = fields-more g.K.Sink.wrote c.args.sink.now c.loop-n.sink c.put_field.new.sink c.args.text.now c.args.numbers.now c.loop-n.n-index c.loop-n-test.true c.loop-n.invariant.grew
      c.in_ok-put_field.ensures.all;
  told = c.in_ok-put_field.ensures.told ∙ c.loop-n.invariant.told;
}

pub returns : goal.returns
returns g c =
    fields-done g.K.Sink.wrote g.K.Sink.faults c.args.sink.now c.loop-n.sink c.args.text.now c.args.numbers.now c.loop-n.n-index c.loop-n-test.false c.loop-n.invariant.grew
    c.loop-n.invariant.told
