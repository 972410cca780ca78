use Rattle.std.proofs.Common.{◌++◌, ◌==◌, ◌<◌, length, map, get_or, Err, refl, ◌∙◌, subst, arith}
use Rattle.line_io.specs.Sink.{Grew}
use Rattle.plain_machine.specs.Maps.{bin_text}
use Rattle.text_parts.proofs.Writing.{written-as}
use Rattle.reply_text.specs.Texts.{divider, bin_entry}
use Rattle.record_move.proofs.Renewing.{member-at}
use Rattle.counts_text.specs.Told.{bin_of}
use Rattle.counts_text.proofs.Listed.{bin-entry, entry_at, entries-begin, entries-more, entries-stop, entries-done, entries-length}
use Rattle.counts_text.proofs.listing.put_bins.Goals as goal

pub serial_of-requires : goal.serial_of-requires
serial_of-requires g c =
    c.requires (get_or c.args.bins.now c.loop-i.i 0) (member-at c.args.bins.now c.loop-i.i (omega (arith, c.loop-i-test.true, c.loop-i.auto.i-end)))

pub count_of-requires : goal.count_of-requires
count_of-requires g c =
    c.requires (get_or c.args.bins.now c.loop-i.i 0) (member-at c.args.bins.now c.loop-i.i (omega (arith, c.loop-i-test.true, c.loop-i.auto.i-end)))

pub returns-in_err-put_bin : goal.returns-in_err-put_bin
returns-in_err-put_bin g c =
    let below : c.loop-i.i < length c.args.bins.now = omega (arith, c.loop-i-test.true, c.loop-i.auto.i-end) in
    entries-stop g.K.Sink.wrote g.K.Sink.faults c.args.sink.now c.loop-i.sink c.put_bin.new.sink (map bin_text (map (bin_of c.args.mem.now) c.args.bins.now)) c.loop-i.i
    c.in_err-put_bin.field-0.0 c.from_residual.result c.from_residual.ensures.0 (omega (arith, below, entries-length bin_text (bin_of c.args.mem.now) c.args.bins.now)) c.loop-i.invariant.grew
    c.loop-i.invariant.told
    (written-as g.K.Sink.wrote g.K.Sink.faults c.loop-i.sink c.put_bin.new.sink (divider (c.loop-i.i == 0) ++ bin_entry c.serial_of.result c.count_of.result)
    (entry_at (map bin_text (map (bin_of c.args.mem.now) c.args.bins.now)) c.loop-i.i) (Err c.in_err-put_bin.field-0.0)
    (bin-entry c.args.mem.now c.args.bins.now c.loop-i.i c.serial_of.result c.count_of.result below c.serial_of.ensures.word c.count_of.ensures) c.in_err-put_bin.ensures)

pub loop-i-preserved : goal.loop-i-preserved
loop-i-preserved g c =
    let below : c.loop-i.i < length c.args.bins.now = omega (arith, c.loop-i-test.true, c.loop-i.auto.i-end) in
    record {
      grew = entries-more g.K.Sink.wrote c.args.sink.now c.loop-i.sink c.put_bin.new.sink (map bin_text (map (bin_of c.args.mem.now) c.args.bins.now)) c.loop-i.i
          (omega (arith, below, entries-length bin_text (bin_of c.args.mem.now) c.args.bins.now)) c.loop-i.invariant.grew
          (subst (Grew g.K.Sink.wrote c.loop-i.sink c.put_bin.new.sink)
          (bin-entry c.args.mem.now c.args.bins.now c.loop-i.i c.serial_of.result c.count_of.result below c.serial_of.ensures.word c.count_of.ensures) c.in_ok-put_bin.ensures.all);
      told = c.in_ok-put_bin.ensures.told ∙ c.loop-i.invariant.told;
    }

pub loop-i-init : goal.loop-i-init
loop-i-init g c = record { grew = entries-begin g.K.Sink.wrote c.args.sink.now (map bin_text (map (bin_of c.args.mem.now) c.args.bins.now)); told = refl }

pub returns : goal.returns
returns g c =
    entries-done g.K.Sink.wrote g.K.Sink.faults c.args.sink.now c.loop-i.sink (map bin_text (map (bin_of c.args.mem.now) c.args.bins.now)) c.loop-i.i
    (omega (arith, c.loop-i-test.false, entries-length bin_text (bin_of c.args.mem.now) c.args.bins.now)) c.loop-i.invariant.grew c.loop-i.invariant.told
