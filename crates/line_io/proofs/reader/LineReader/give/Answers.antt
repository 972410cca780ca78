use Rattle.std.proofs.Common.{◌-◌, refl, sym, ◌∙◌, arith}
use Rattle.line_io.proofs.Ranges.{length-range}
use Rattle.line_io.proofs.Steps.{given-long, given-short}
use Rattle.line_io.proofs.reader.LineReader.give.Goals as goal

pub returns-then-long : goal.returns-then-long
returns-then-long c =
    let w = c.args.self.now in
    let len = length-range w.buf.items c.args.from c.args.to c.requires.in_order (omega (arith, c.requires.within, w.in_buffer, w.size)) in
    record {
      line = given-long w.long _ (c.args.to - c.args.from) len (sym c.is_long-long.ensures ∙ c.if-long.true);
      one = refl;
      buf = refl;
      start = refl;
      end = refl;
      counted = omega (arith, c.requires.line);
      bytes = refl;
      long = refl;
      stop = refl;
      limits = refl;
    }

pub returns : goal.returns
returns c =
    let w = c.args.self.now in
    let len = length-range w.buf.items c.args.from c.args.to c.requires.in_order (omega (arith, c.requires.within, w.in_buffer, w.size)) in
    record {
      line = given-short w.long _ (c.args.to - c.args.from) len (sym c.is_long-long.ensures ∙ c.if-long.false);
      one = refl;
      buf = refl;
      start = refl;
      end = refl;
      counted = omega (arith, c.requires.line);
      bytes = refl;
      long = refl;
      stop = refl;
      limits = refl;
    }
