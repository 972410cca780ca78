use Rattle.std.proofs.Common.{inl, inr, ◌≡◌, ◌+◌, ◌-◌, ◌<◌, ◌++◌, length, take, drop, slice_range, refl, sym, ap, subst, ◌∙◌, arith, append_assoc}
use Rattle.line_io.specs.Faults.{Rose}
use Rattle.line_io.specs.Reader.{answer_at, CutBy, HasCut, IsOpen, held}
use Rattle.line_io.proofs.Apart.{end-failed, ended-faulted, got-failed}
use Rattle.line_io.proofs.Ranges.{length-short, range-kept, written-over}
use Rattle.line_io.proofs.Steps.{faults-by, length-held}
use Rattle.line_io.proofs.Loop.{Gave-append, Gave-end, reads-of, reads-again, stays}
use Rattle.line_io.proofs.reader.LineReader.next.Goals as goal

pub returns-in-Some : goal.returns-in-Some
returns-in-Some g c =
    let w = c.args.self.now in
    let s = stays w.stop c.in-Some.answer (sym c.in-Some.ensures) in
    record {
      reads = λ bytes given h. reads-again c.in-Some.answer w (g.S.Source.left c.args.source.now) bytes given (sym c.in-Some.ensures) h;
      fault = λ e. inr (s.fault e);
      told = λ e. refl;
      faulted = s.faulted;
      later = omega arith;
      again = rw (sym c.in-Some.ensures) (refl, refl, refl);
      settles = s.settles;
      counted = omega (arith, s.none);
      limits = refl;
      short = length-short w.buf.items w.from w.to _ w.line_is_short;
    }

pub ready-requires : goal.ready-requires
ready-requires g c =
    let inv = c.reading.invariant in
    record { going = inv.going; behind = inv.behind; within = inv.within; «open» = inv.no_end }

pub returns-in-Some-ready : goal.returns-in-Some-ready
returns-in-Some-ready g c =
    let inv = c.reading.invariant in
    let a = c.in-Some-ready.ensures.some in
    let new = c.ready.new.self in
    record {
      reads = λ bytes given h.
          let t = inv.took bytes given h in
          reads-of c.in-Some-ready.answer new (g.S.Source.left c.args.source.now) (g.S.Source.left c.reading.source) _ bytes t.0 given
          (a.limits ∙ inv.limits) t.1 (a.reads _ (bytes ++ t.0) given t.2) a.settles;
      fault = λ e. absurd (a.no_fault_now e);
      told = λ e. inv.no_fault;
      faulted = λ e. absurd (a.no_fault (ap answer_at e));
      later = omega (arith, inv.no_fault);
      again = rw (sym c.in_default.ensures) tt;
      settles = a.settles;
      counted = omega (arith, a.counted, inv.lines);
      limits = a.limits ∙ inv.limits;
      short = length-short new.buf.items new.from new.to _ new.line_is_short;
    }

pub make_room-requires : goal.make_room-requires
make_room-requires g c =
    let r = c.in_default-ready.ensures in
    record { «open» = subst (λ w. IsOpen (held w)) (sym r.same) r.open; line = subst (λ w. w.start < w.end → 0 < w.lines_left) (sym r.same) r.line }

pub count_in-requires : goal.count_in-requires
count_in-requires g c =
    let m = c.make_room.new.self in
    let count = c.in-Got.ensures.count in
    record {
      «open» = c.make_room.ensures.stop ∙ ap (λ w. w.stop) c.in_default-ready.ensures.same ∙ c.in_default-ready.ensures.going;
      some = count.0;
      fits = omega (arith, count.1, c.make_room.ensures.room, c.fill.auto.buf, c.deref_mut.ensures.len, m.size);
    }

pub reading-preserved : goal.reading-preserved
reading-preserved g c =
    let inv = c.reading.invariant in
    let r = c.in_default-ready.ensures in
    let m = c.make_room.new.self in
    let me = c.make_room.ensures in
    let n = c.in-Got.n in
    let k = c.count_in.ensures in
    let new = c.count_in.new.self in
    let buf = c.fill.new.buf in
    let items = take m.buf.len (buf ++ drop (length buf) m.buf.items) in
    let over : items ≡ buf = written-over m.buf.len buf m.buf.items (omega (arith, c.fill.auto.buf, c.deref_mut.ensures.len)) in
    let kept : slice_range items m.start m.end ≡ held m =
    range-kept m.buf.items items m.start m.end m.in_order (ap (take m.end) over ∙ c.fill.ensures.front ∙ ap (take m.end) c.deref_mut.ensures.value) in
    let count : m.end + n - m.end ≡ n = omega arith in
    let x : slice_range items m.end (m.end + n) ≡ take n (drop m.end buf) = ap (λ l. take (m.end + n - m.end) (drop m.end l)) over ∙ ap (λ z. take z (drop m.end buf)) count in
    let no_end : IsOpen (slice_range new.buf.items new.start m.end) =
    subst IsOpen (sym (ap (λ b. slice_range b.items new.start m.end) k.buf ∙ ap (λ s. slice_range items s m.end) k.start ∙ kept)) me.open in
    record {
      behind = omega (arith, k.start, m.in_order);
      within = k.end;
      no_end = no_end;
      going = k.going;
      limits = k.limits ∙ me.limits ∙ ap (λ w. w.limits) r.same ∙ inv.limits;
      lines = k.lines ∙ me.lines ∙ ap (λ w. w.lines_left) r.same ∙ inv.lines;
      no_fault = c.in-Got.ensures.told (λ e. got-failed e) ∙ inv.no_fault;
      took = λ bytes given h.
          let t = inv.took bytes given h in
          let at_start = me.cuts (bytes ++ t.0) given (subst (λ w. HasCut w (bytes ++ t.0) given) (sym r.same) t.2) in
          let read = k.cuts (bytes ++ t.0) given (subst (λ l. CutBy m.stop m.limits m.long m.lines_left m.bytes_left l (bytes ++ t.0) given) (sym kept) at_start) in
          let all : (bytes ++ t.0) ++ slice_range items m.end (m.end + n) ≡ bytes ++ (t.0 ++ take n (drop m.end buf)) = ap (λ l. (bytes ++ t.0) ++ l) x
          ∙ append_assoc bytes t.0 (take n (drop m.end buf)) in
          (t.0 ++ take n (drop m.end buf), Gave-append _ _ _ t.0 _ t.1 c.in-Got.ensures.bytes, subst (λ b. HasCut new b given) all read);
    }

pub last_line-requires : goal.last_line-requires
last_line-requires g c =
    let m = c.make_room.new.self in
    let buf = c.fill.new.buf in
    let items = take m.buf.len (buf ++ drop (length buf) m.buf.items) in
    let over : items ≡ buf = written-over m.buf.len buf m.buf.items (omega (arith, c.fill.auto.buf, c.deref_mut.ensures.len)) in
    let kept : slice_range items m.start m.end ≡ held m =
    range-kept m.buf.items items m.start m.end m.in_order (ap (take m.end) over ∙ c.fill.ensures.front ∙ ap (take m.end) c.deref_mut.ensures.value) in
    record {
      «open» = subst IsOpen (sym kept) c.make_room.ensures.open;
      going = c.make_room.ensures.stop ∙ ap (λ w. w.stop) c.in_default-ready.ensures.same ∙ c.in_default-ready.ensures.going;
      line = c.make_room.ensures.line;
    }

pub returns-in-End : goal.returns-in-End
returns-in-End g c =
    let inv = c.reading.invariant in
    let r = c.in_default-ready.ensures in
    let m = c.make_room.new.self in
    let me = c.make_room.ensures in
    let l = c.last_line.ensures in
    let new = c.last_line.new.self in
    let buf = c.fill.new.buf in
    let items = take m.buf.len (buf ++ drop (length buf) m.buf.items) in
    let over : items ≡ buf = written-over m.buf.len buf m.buf.items (omega (arith, c.fill.auto.buf, c.deref_mut.ensures.len)) in
    let kept : slice_range items m.start m.end ≡ held m =
    range-kept m.buf.items items m.start m.end m.in_order (ap (take m.end) over ∙ c.fill.ensures.front ∙ ap (take m.end) c.deref_mut.ensures.value) in
    let limits = l.limits ∙ me.limits ∙ ap (λ w. w.limits) r.same ∙ inv.limits in
    record {
      reads = λ bytes given h.
          let t = inv.took bytes given h in
          let at_start = me.cuts (bytes ++ t.0) given (subst (λ w. HasCut w (bytes ++ t.0) given) (sym r.same) t.2) in
          let cuts = subst (λ x. CutBy m.stop m.limits m.long m.lines_left m.bytes_left x (bytes ++ t.0) given) (sym kept) at_start in
          reads-of c.last_line.result new _ (g.S.Source.left c.fill.new.source) _ bytes t.0 given limits (Gave-end _ _ _ t.0 t.1 c.in-End.ensures.bytes)
          (l.reads (g.S.Source.left c.fill.new.source) (bytes ++ t.0) given c.in-End.ensures.end cuts) l.settles;
      fault = λ e. absurd (l.no_fault e);
      told = λ e. c.in-End.ensures.told (λ f. end-failed f) ∙ inv.no_fault;
      faulted = λ e. ended-faulted (sym l.ended ∙ e);
      later = omega (arith, c.in-End.ensures.later, inv.no_fault);
      again = rw (sym c.in_default.ensures) tt;
      settles = l.settles;
      counted = omega (arith, l.counted, me.lines, ap (λ w. w.lines_left) r.same, inv.lines);
      limits = limits;
      short = length-short new.buf.items new.from new.to _ new.line_is_short;
    }

pub returns-in-Failed : goal.returns-in-Failed
returns-in-Failed g c =
    let inv = c.reading.invariant in
    let r = c.in_default-ready.ensures in
    let m = c.make_room.new.self in
    let me = c.make_room.ensures in
    let going = me.stop ∙ ap (λ w. w.stop) r.same ∙ r.going in
    let limits = me.limits ∙ ap (λ w. w.limits) r.same ∙ inv.limits in
    let line : 0 < length (held m) → 0 < m.lines_left = λ some. me.line (omega (arith, some, length-held m)) in
    record {
      reads = λ bytes given h.
          let t = inv.took bytes given h in
          let at_start = me.cuts (bytes ++ t.0) given (subst (λ w. HasCut w (bytes ++ t.0) given) (sym r.same) t.2) in
          reads-of _ _ _ (g.S.Source.left c.fill.new.source) _ bytes t.0 given limits (Gave-end _ _ _ t.0 t.1 c.in-Failed.ensures.bytes)
          (record { here = faults-by m.stop m.limits m.long m.lines_left m.bytes_left (held m) (bytes ++ t.0) given going me.open line at_start }) refl;
      fault = λ e. inl (subst (λ f. Rose f (g.S.Source.faults c.fill.new.source)) inv.no_fault (c.in-Failed.ensures.failed refl));
      told = λ e. absurd (e refl);
      faulted = λ e. refl;
      later = omega (arith, c.in-Failed.ensures.later, inv.no_fault);
      again = rw (sym c.in_default.ensures) tt;
      settles = refl;
      counted = omega (arith, me.lines, ap (λ w. w.lines_left) r.same, inv.lines);
      limits = limits;
      short = length-short _ m.from m.to _ m.line_is_short;
    }
