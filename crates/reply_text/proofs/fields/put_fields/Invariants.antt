use Rattle.std.proofs.Common.{◌≡◌}
use Rattle.line_io.specs.Sink.{Grew}
use Rattle.reply_text.proofs.Listed.{came}
use Rattle.reply_text.proofs.fields.put_fields.Given as goal

abbrev pub invariant-loop-n : goal.invariant-loop-n
invariant-loop-n g l = record {
  grew : Grew g.K.Sink.wrote l.fn.sink l.sink (came l.fn.text l.fn.numbers l.n-index);
  told : g.K.Sink.faults l.sink ≡ g.K.Sink.faults l.fn.sink;
}
