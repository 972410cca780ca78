use Rattle.std.proofs.Common.{◌≡◌, ◌≤◌, ◌-◌, ◌++◌, [], length, take, drop, slice_range, refl, sym, ap, subst, ◌∙◌, arith, length-take}
use Rattle.line_io.specs.Reader.{CutBy, IsOpen, held}
use Rattle.line_io.specs.declared.reader.TheConstants.{SIZE}
use Rattle.line_io.proofs.Ranges.{nothing-held, written-over}
use Rattle.line_io.proofs.Steps.{lets-go-by, length-held}
use Rattle.line_io.proofs.reader.LineReader.make_room.Goals as goal

pub returns-then-self-lt-SIZE : goal.returns-then-self-lt-SIZE
returns-then-self-lt-SIZE c = record {
  room = c.if-self-lt-SIZE.true;
  «open» = c.requires.open;
  line = c.requires.line;
  cuts = λ bytes given cuts. cuts;
  stop = refl;
  lines = refl;
  bytes = refl;
  limits = refl;
}

pub returns-then-self-eq0 : goal.returns-then-self-eq0
returns-then-self-eq0 c =
    let w = c.args.self.now in
    let full : SIZE ≤ length (held w) = omega (arith, c.if-self-lt-SIZE.false, c.if-self-eq0.true, length-held w) in
    let empty : slice_range w.buf.items w.start 0 ≡ [] = nothing-held _ (omega (arith, length-take (0 - w.start) (drop w.start w.buf.items))) in
    record {
      room = omega arith;
      «open» = rw empty refl;
      line = λ some. absurd (omega arith);
      cuts = λ bytes given cuts. rw empty
          (lets-go-by w.stop w.limits w.long w.lines_left w.bytes_left (held w) bytes given full c.requires.open (c.requires.line (omega (arith, c.if-self-lt-SIZE.false, c.if-self-eq0.true))) cuts);
      stop = refl;
      lines = refl;
      bytes = refl;
      limits = refl;
    }

pub returns : goal.returns
returns c =
    let w = c.args.self.now in
    let buf = c.move_down.new.buf in
    let over : take w.buf.len (buf ++ drop (length buf) w.buf.items) ≡ buf = written-over w.buf.len buf w.buf.items (omega (arith, c.move_down.auto.buf, c.deref_mut.ensures.len)) in
    let count : w.end - w.start - 0 ≡ w.end - w.start = omega arith in
    let kept : slice_range (take w.buf.len (buf ++ drop (length buf) w.buf.items)) 0 (w.end - w.start) ≡ held w =
    ap (λ l. slice_range l 0 (w.end - w.start)) over ∙ ap (λ n. take n buf) count ∙ c.move_down.ensures.moved ∙ ap (λ l. slice_range l w.start w.end) c.deref_mut.ensures.value in
    record {
      room = omega (arith, w.in_buffer, c.if-self-eq0.false);
      «open» = subst IsOpen (sym kept) c.requires.open;
      line = λ some. c.requires.line (omega arith);
      cuts = λ bytes given cuts. subst (λ l. CutBy w.stop w.limits w.long w.lines_left w.bytes_left l bytes given) (sym kept) cuts;
      stop = refl;
      lines = refl;
      bytes = refl;
      limits = refl;
    }
