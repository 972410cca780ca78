use Rattle.std.proofs.Common.{◌≡◌, map, take}
use Rattle.line_io.specs.Sink.{Grew}
use Rattle.plain_machine.specs.Maps.{bin_text}
use Rattle.plain_machine.specs.Texts.{divided}
use Rattle.counts_text.specs.Told.{bin_of}
use Rattle.counts_text.proofs.listing.put_bins.Given as goal

abbrev pub invariant-loop-i : goal.invariant-loop-i
invariant-loop-i g l = record {
  grew : Grew g.K.Sink.wrote l.fn.sink l.sink (divided (take l.i (map bin_text (map (bin_of l.mem) l.bins))));
  told : g.K.Sink.faults l.sink ≡ g.K.Sink.faults l.fn.sink;
}
