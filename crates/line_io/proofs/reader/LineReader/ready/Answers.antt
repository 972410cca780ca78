use Rattle.std.proofs.Common.{◌≡◌, ◌+◌, ◌<◌, ◌++◌, ◌∷◌, [], Some, None, length, slice_range, refl, arith, sym, ap, ◌∙◌}
use Rattle.std.specs.List.{position}
use Rattle.std.specs.Str.Lines.{strip_carriage_return}
use Rattle.line_io.specs.Lines.{is_end}
use Rattle.line_io.specs.Reader.{answer_at, held, line_given}
use Rattle.line_io.proofs.Apart.{much-fault, stays-fault}
use Rattle.line_io.proofs.Found.{found-line, found-within, none-held}
use Rattle.line_io.proofs.Steps.{passes-many, passes-cut, open-left, gives-by, read-of-cut, settles-line, line-not-fault, none-not-fault, length-held}
use Rattle.line_io.proofs.reader.LineReader.ready.Goals as goal
use Rattle.line_io.proofs.reader.LineReader.ready.Goals.{else-self-eq0-via-then-self-eq0+else-self, else-self-eq0-via-else-self-eq0}

pub returns-then-self : goal.returns-then-self
returns-then-self c =
    let w = c.args.self.now in
    let some : 0 < length (held w) = omega (arith, length-held w, c.if-self.true) in
    record {
      some = record {
        reads = λ left bytes given cuts. record { here = passes-many w.stop w.limits w.long w.lines_left w.bytes_left (held w) bytes given c.if-self-eq0.true some cuts };
        settles = refl;
        counted = omega arith;
        limits = refl;
        no_fault = λ e. stays-fault e;
        no_fault_now = λ e. much-fault e;
      };
      same = tt;
      «open» = tt;
      going = tt;
      line = tt;
    }

pub end_of_text-to-requires : goal.end_of_text-to-requires
end_of_text-to-requires c =
    let w = c.args.self.now in
    let some = ap (λ l. position is_end (slice_range l c.args.looked w.end)) (sym c.deref.ensures.value) ∙ sym c.end_at.ensures ∙ c.in-Some.is in
    let within = found-within w.buf.items c.args.looked w.end c.in-Some.i some in
    record { in_order = omega (arith, c.requires.behind); within = omega (arith, within, c.deref-in-Some.ensures.len, w.in_buffer, w.size) }

pub give-requires : goal.give-requires
give-requires c =
    let w = c.args.self.now in
    let some = ap (λ l. position is_end (slice_range l c.args.looked w.end)) (sym c.deref.ensures.value) ∙ sym c.end_at.ensures ∙ c.in-Some.is in
    let within = found-within w.buf.items c.args.looked w.end c.in-Some.i some in
    record {
      in_order = c.end_of_text-to.ensures.in_order;
      within = omega (arith, c.end_of_text-to.ensures.before, within);
      next_within = omega (arith, within);
      line = elim c.else-self-eq0.branch [
        | else-self-eq0-via-then-self-eq0+else-self v ↦ absurd (omega (arith, within, c.requires.behind, v.if-self.false))
        | else-self-eq0-via-else-self-eq0 v ↦ omega (arith, v.if-self-eq0.false)
      ];
    }

pub returns-in-Some : goal.returns-in-Some
returns-in-Some c =
    let w = c.args.self.now in
    let new = c.give.new.self in
    let i = c.in-Some.i in
    let at = c.args.looked + i in
    let items = w.buf.items in
    let t = slice_range items w.start at in
    let some : position is_end (slice_range items c.args.looked w.end) ≡ Some i =
    ap (λ l. position is_end (slice_range l c.args.looked w.end)) (sym c.deref.ensures.value) ∙ sym c.end_at.ensures ∙ c.in-Some.is in
    let f = found-line items w.start c.args.looked w.end i c.requires.behind c.requires.within c.requires.open some in
    let d = c.deref-in-Some.ensures.value in
    let e = c.give.ensures in
    let rest : held new ≡ slice_range items (at + 1) w.end =
    ap (λ b. slice_range b.items new.start new.end) e.buf ∙ ap (λ s. slice_range items s new.end) e.start ∙ ap (λ z. slice_range items (at + 1) z) e.end in
    let text : slice_range items w.start c.end_of_text-to.result ≡ strip_carriage_return t =
    ap (λ l. slice_range l w.start c.end_of_text-to.result) (sym d) ∙ c.end_of_text-to.ensures.text ∙ ap (λ l. strip_carriage_return (slice_range l w.start at)) d in
    let line = e.line ∙ ap (λ l. line_given w.long l ∷ []) text in
    let going : answer_at new.stop ≡ None = ap answer_at e.stop ∙ c.requires.going in
    record {
      some = record {
        reads = λ left bytes given cuts. record {
          here = read-of-cut new.stop new left bytes _
              (gives-by w.stop new.stop w.limits new.limits w.long new.long w.lines_left new.lines_left w.bytes_left new.bytes_left (held w) (held new) bytes t given _
              e.stop e.limits e.long e.bytes e.counted (f.1 ∙ ap (λ l. t ++ (10 ∷ l)) (sym rest)) f.2 line cuts);
        };
        settles = settles-line c.give.result _ e.one;
        counted = omega (arith, e.counted, e.one);
        limits = e.limits;
        no_fault = none-not-fault _ going;
        no_fault_now = line-not-fault c.give.result e.one;
      };
      same = tt;
      «open» = tt;
      going = tt;
      line = tt;
    }

pub returns-in-Cut : goal.returns-in-Cut
returns-in-Cut c =
    let w = c.args.self.now in
    let none : position is_end (slice_range w.buf.items c.args.looked w.end) ≡ None =
    ap (λ l. position is_end (slice_range l c.args.looked w.end)) (sym c.deref.ensures.value) ∙ sym c.end_at.ensures ∙ c.in-None.is in
    let no_end = none-held w.buf.items w.start c.args.looked w.end c.requires.behind c.requires.within c.requires.open none in
    record {
      some = record {
        reads = λ left bytes given cuts. record { here = passes-cut w.stop w.limits w.long w.lines_left w.bytes_left (held w) bytes given c.in-Cut.is no_end cuts };
        settles = refl;
        counted = omega arith;
        limits = refl;
        no_fault = λ e. stays-fault e;
        no_fault_now = λ e. much-fault e;
      };
      same = tt;
      «open» = tt;
      going = tt;
      line = tt;
    }

pub returns-in_default-clause-open : goal.returns-in_default-clause-open
returns-in_default-clause-open c =
    let w = c.args.self.now in
    let none : position is_end (slice_range w.buf.items c.args.looked w.end) ≡ None =
    ap (λ l. position is_end (slice_range l c.args.looked w.end)) (sym c.deref.ensures.value) ∙ sym c.end_at.ensures ∙ c.in-None.is in
    none-held w.buf.items w.start c.args.looked w.end c.requires.behind c.requires.within c.requires.open none

pub returns-in_default-clause-going : goal.returns-in_default-clause-going
returns-in_default-clause-going c = open-left c.args.self.now.stop c.requires.going c.in_default.not-Cut

pub returns-in_default-clause-line : goal.returns-in_default-clause-line
returns-in_default-clause-line c = λ some. elim c.else-self-eq0.branch [
  | else-self-eq0-via-then-self-eq0+else-self v ↦ absurd (omega (arith, some, v.if-self.false))
  | else-self-eq0-via-else-self-eq0 v ↦ omega (arith, v.if-self-eq0.false)
]
