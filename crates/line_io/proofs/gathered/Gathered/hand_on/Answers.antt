use Rattle.std.proofs.Common.{◌+◌, ◌-◌, take, take_all, drop, length-take, slice_range, refl, sym, ◌∙◌, append-nil, arith}
use Rattle.line_io.proofs.Apart.{no-yes, yes-no}
use Rattle.line_io.proofs.Ranges.{length-range, range-splits}
use Rattle.line_io.proofs.gathered.Gathered.hand_on.Goals as goal

pub returns-then-self : goal.returns-then-self
returns-then-self g c =
    let w = c.args.self.now in
    let n = c.put_part-out.result in
    let e = c.put_part-out.ensures in
    record {
      same_reference = refl;
      handed = record {
        out = take n (slice_range w.buf w.from w.to);
        parts = range-splits w.buf w.from n w.to (omega (arith, c.if-self.true));
        grew = e.grew;
      };
      emptied = λ f. no-yes f;
      left = λ f. omega (arith, c.if-self.true, length-range w.buf (w.from + n) w.to (omega (arith, c.if-self.true)) (omega (arith, w.in_buffer)));
      later = e.later;
      rose = λ f. e.rose (omega (arith, c.if-self.true));
      told = λ f. no-yes f;
    }

pub returns : goal.returns
returns g c =
    let w = c.args.self.now in
    let n = c.put_part-out.result in
    let e = c.put_part-out.ensures in
    record {
      same_reference = refl;
      handed = record {
        out = take n (slice_range w.buf w.from w.to);
        parts = sym (append-nil _ ∙ take_all n _ (omega (arith, c.if-self.false, length-take (w.to - w.from) (drop w.from w.buf))));
        grew = e.grew;
      };
      emptied = λ f. refl;
      left = λ f. yes-no f;
      later = e.later;
      rose = λ f. yes-no f;
      told = λ f. e.told (omega (arith, c.if-self.false));
    }
