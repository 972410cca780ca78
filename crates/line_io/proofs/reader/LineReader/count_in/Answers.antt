use Rattle.std.proofs.Common.{◌≡◌, ◌+◌, ◌-◌, ◌++◌, length, slice_range, refl, sym, ap, ◌∙◌, arith}
use Rattle.line_io.specs.Reader.{answer_at, held}
use Rattle.line_io.proofs.Found.{range-joins, range-take}
use Rattle.line_io.proofs.Ranges.{length-range}
use Rattle.line_io.proofs.Steps.{takes-by, takes-past}
use Rattle.line_io.proofs.reader.LineReader.count_in.Goals as goal

pub returns-then-n64-self : goal.returns-then-n64-self
returns-then-n64-self c =
    let w = c.args.self.now in
    let n = c.args.n in
    let b = w.buf.items in
    let x = slice_range b w.end (w.end + n) in
    let whole : length x ≡ n = omega (arith, length-range b w.end (w.end + n) (omega arith) (omega (arith, c.requires.fits, w.size))) in
    record {
      cuts = λ bytes given cuts. takes-past w.stop w.limits w.long w.lines_left w.bytes_left (held w) (slice_range b w.start (w.end + w.bytes_left)) bytes x given c.requires.open
          (omega (arith, whole, c.if-n64-self.true))
          (range-joins b w.start w.end (w.end + w.bytes_left) w.in_order (omega arith)
          ∙ ap (λ l. held w ++ l) (sym (range-take b w.end (w.end + n) w.bytes_left (omega (arith, c.if-n64-self.true))))) cuts;
      buf = refl;
      start = refl;
      end = omega arith;
      going = refl;
      fewer = rw c.requires.open (omega arith);
      lines = refl;
      limits = refl;
    }

pub returns-else-n64-self : goal.returns-else-n64-self
returns-else-n64-self c =
    let w = c.args.self.now in
    let n = c.args.n in
    let b = w.buf.items in
    let x = slice_range b w.end (w.end + n) in
    let whole : length x ≡ n = omega (arith, length-range b w.end (w.end + n) (omega arith) (omega (arith, c.requires.fits, w.size))) in
    record {
      cuts = λ bytes given cuts. takes-by w.stop w.limits w.long w.lines_left w.bytes_left (w.bytes_left - n) (held w) (slice_range b w.start (w.end + n)) bytes x given c.requires.open
          (range-joins b w.start w.end (w.end + n) w.in_order (omega arith)) (omega (arith, whole, c.if-n64-self.false)) cuts;
      buf = refl;
      start = refl;
      end = omega arith;
      going = ap answer_at c.requires.open;
      fewer = rw c.requires.open (omega (arith, c.requires.some, c.if-n64-self.false));
      lines = refl;
      limits = refl;
    }
