use Rattle.std.proofs.Common.{◌≡◌, map, take}
use Rattle.line_io.specs.Sink.{Grew}
use Rattle.plain_machine.specs.Maps.{fun_text}
use Rattle.plain_machine.specs.Texts.{divided}
use Rattle.counts_text.specs.Told.{fun_of, by_name, CanReadSome}
use Rattle.counts_text.proofs.Ordered.{LastIs}
use Rattle.counts_text.proofs.listing.put_funs.Given as goal

abbrev pub invariant-loop-i : goal.invariant-loop-i
invariant-loop-i g l = record {
  grew : Grew g.K.Sink.wrote l.fn.sink l.sink (divided (take l.i (map (fun_text l.names) (map (fun_of l.mem) (by_name l.mem l.names l.funs)))));
  told : g.K.Sink.faults l.sink ≡ g.K.Sink.faults l.fn.sink;
  last : LastIs l.mem l.names (by_name l.mem l.names l.funs) l.i l.last;
  read : CanReadSome l.mem l.names l.last;
}
