use Rattle.std.proofs.Common.{refl, ◌≡◌, ◌⊎◌, inl, inr, ◌<◌, [], true, length, arith}
use Rattle.line_io.specs.Reader.{held}
use Rattle.line_io.proofs.Apart.{end-fault}
use Rattle.line_io.proofs.Ranges.{nothing-held}
use Rattle.line_io.proofs.Steps.{settles-line, line-not-fault, ends-empty, ends-last, read-of-end, length-held}
use Rattle.line_io.proofs.reader.LineReader.last_line.Goals as goal
use Rattle.line_io.proofs.reader.LineReader.last_line.Goals.{else-self-via-then-self+else-not-self, else-self-via-else-self}

pub returns-then-not-self : goal.returns-then-not-self
returns-then-not-self c =
    let w = c.args.self.now in
    let empty : held w ≡ [] = nothing-held (held w) (omega (arith, length-held w, c.if-self.true)) in
    record {
      reads = λ left bytes given at_end cuts.
          let e = ends-empty w.stop w.limits w.long w.lines_left w.bytes_left (held w) bytes given c.requires.going c.if-not-self.true empty cuts in
          record { here = (e.0, e.1, at_end) };
      settles = refl;
      counted = omega arith;
      limits = refl;
      ended = refl;
      no_fault = λ f. end-fault f;
    }

pub returns : goal.returns
returns c =
    let w = c.args.self.now in
    let new = c.give.new.self in
    let e = c.give.ensures in
    let begun : (0 < length (held w)) ⊎ (w.long ≡ true) =
    elim c.else-self.branch [ else-self-via-then-self+else-not-self v ↦ inr v.if-not-self.false | else-self-via-else-self v ↦ inl (omega (arith, length-held w)) ] in
    let line : 0 < w.lines_left = omega (arith, e.counted) in
    record {
      reads = λ left bytes given at_end cuts. record {
        here = rw e.line
            (read-of-end new.stop new w.limits left bytes _ e.stop e.limits
            (ends-last w.stop w.limits w.long w.lines_left w.bytes_left (held w) bytes given c.requires.going line c.requires.open begun cuts) at_end);
      };
      settles = settles-line c.give.result _ e.one;
      counted = omega (arith, e.counted, e.one);
      limits = e.limits;
      ended = e.stop;
      no_fault = line-not-fault c.give.result e.one;
    }
