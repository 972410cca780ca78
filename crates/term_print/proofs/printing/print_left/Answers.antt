use Rattle.std.proofs.Common.{reverse, sym, ap, ◌∙◌, subst, length, Err, arith}
use Rattle.std.proofs.lemmas.List.{length-reverse}
use Rattle.line_io.specs.Sink.{Grew}
use Rattle.term_words.specs.Role.{always}
use Rattle.term_words.specs.Stands.{Stands}
use Rattle.term_print.specs.Left.{closing_text}
use Rattle.term_print.specs.Going.{PrintBegun}
use Rattle.term_walk.proofs.Steps.{differs}
use Rattle.text_parts.proofs.Writing.{written-as}
use Rattle.term_print.proofs.Going.{prints-gathered, prints-gathered-stops, keeps-room, prints-popped, prints-end, prints-end-stops, prints-part, prints-part-stops, part-asks, stops, begins-kept, level-counts, level-gathers, levels-grow}
use Rattle.term_print.proofs.printing.print_left.Goals as goal

pub loop-text-init : goal.loop-text-init
loop-text-init g c = record { on = λ first start b. b; few = c.requires.few }

pub returns-in_err-put-in-End-clause-on : goal.returns-in_err-put-in-End-clause-on
returns-in_err-put-in-End-clause-on g c = λ first start b.
    stops c.args.mem.now c.args.names.now first (reverse c.pop.new.self.items) g.K.Sink.wrote g.K.Sink.faults start c.put-in-End.new.sink c.from_residual-in_err-put-in-End.result
    c.from_residual-in_err-put-in-End.ensures.0 (λ q failed.
    prints-end-stops c.args.mem.now c.args.names.now first c.gather-level.result (reverse c.pop.new.self.items) c.in-End.last c.loop-text.seen g.K.Sink.wrote g.K.Sink.faults start
    c.put.new.sink c.put-in-End.new.sink
    c.in_err-put-in-End.field-0.0 q failed (c.in_ok-put.ensures.told ∙ (c.loop-text.invariant.on first start b).told)
    (sym c.next.ensures ∙ c.in-End.is)
    (prints-gathered c.args.mem.now c.args.names.now first c.loop-text.levels.items c.pop.new.self.items c.in-Some.top c.gather-level.result c.gather-level.new.text.items c.as_slice.result.now
    c.loop-text.seen g.K.Sink.wrote start c.loop-text.sink c.put.new.sink c.in-Some.ensures.items c.as_slice.ensures.value (c.loop-text.invariant.on first start b).prints c.gather-level.ensures
    c.in_ok-put.ensures.all)
    (written-as g.K.Sink.wrote g.K.Sink.faults c.put.new.sink c.put-in-End.new.sink c.end_bytes.result.now (closing_text c.in-End.last) (Err c.in_err-put-in-End.field-0.0) c.end_bytes.ensures
    c.in_err-put-in-End.ensures))

pub get-word-requires : goal.get-word-requires
get-word-requires g c =
    let h = c.requires.begun in
    let first = h.first in
    let start = h.start in
    let b = h.begun in
    (part-asks c.args.mem.now c.args.names.now first c.gather-level.result (reverse c.pop.new.self.items) c.in-Part.part c.loop-text.seen g.K.Sink.wrote start c.put.new.sink h.can
    (sym c.next.ensures ∙ c.in-Part.is)
    (prints-gathered c.args.mem.now c.args.names.now first c.loop-text.levels.items c.pop.new.self.items c.in-Some.top c.gather-level.result c.gather-level.new.text.items c.as_slice.result.now
    c.loop-text.seen g.K.Sink.wrote start c.loop-text.sink c.put.new.sink c.in-Some.ensures.items c.as_slice.ensures.value (c.loop-text.invariant.on first start b).prints c.gather-level.ensures
    c.in_ok-put.ensures.all)).within

pub begin-requires : goal.begin-requires
begin-requires g c =
    let h = c.requires.begun in
    let first = h.first in
    let start = h.start in
    let b = h.begun in (
      search,
      (
        begins-kept c.args.mem.now c.args.names.now c.in-Part.part c.loop-text.seen c.get-word.result c.get-word.ensures
            (part-asks c.args.mem.now c.args.names.now first c.gather-level.result (reverse c.pop.new.self.items) c.in-Part.part c.loop-text.seen g.K.Sink.wrote start c.put.new.sink h.can
            (sym c.next.ensures ∙ c.in-Part.is)
            (prints-gathered c.args.mem.now c.args.names.now first c.loop-text.levels.items c.pop.new.self.items c.in-Some.top c.gather-level.result c.gather-level.new.text.items c.as_slice.result.now
            c.loop-text.seen g.K.Sink.wrote start c.loop-text.sink c.put.new.sink c.in-Some.ensures.items c.as_slice.ensures.value (c.loop-text.invariant.on first start b).prints
            c.gather-level.ensures c.in_ok-put.ensures.all)),
        keeps-room g.row.N c.in-Part.part.more c.loop-text.levels.items c.pop.new.self.items c.keep.new.levels.items (sym c.in-Some.ensures.len) c.keep.ensures
            (differs (length c.loop-text.levels.items) g.row.N c.loop-text-test.ensures.value c.loop-text-test.ensures.fits),
      ),
    )

pub returns-in_err-begin-in-Part-clause-on : goal.returns-in_err-begin-in-Part-clause-on
returns-in_err-begin-in-Part-clause-on g c = λ first start b.
    stops c.args.mem.now c.args.names.now first (reverse c.begin.new.levels.items) g.K.Sink.wrote g.K.Sink.faults start c.begin.new.sink c.from_residual-in_err-begin-in-Part.result
    c.from_residual-in_err-begin-in-Part.ensures.0 (λ q failed.
    prints-part-stops c.args.mem.now c.args.names.now first c.gather-level.result (reverse c.pop.new.self.items) c.in-Part.part c.get-word.result (reverse c.keep.new.levels.items)
    (reverse c.begin.new.levels.items)
    c.loop-text.seen g.K.Sink.wrote g.K.Sink.faults start c.put.new.sink c.begin.new.sink
    c.in_err-begin-in-Part.field-0.0 q failed (c.in_ok-put.ensures.told ∙ (c.loop-text.invariant.on first start b).told)
    (sym c.next.ensures ∙ c.in-Part.is)
    c.get-word.ensures c.keep.ensures
    (prints-gathered c.args.mem.now c.args.names.now first c.loop-text.levels.items c.pop.new.self.items c.in-Some.top c.gather-level.result c.gather-level.new.text.items c.as_slice.result.now
    c.loop-text.seen g.K.Sink.wrote start c.loop-text.sink c.put.new.sink c.in-Some.ensures.items c.as_slice.ensures.value (c.loop-text.invariant.on first start b).prints c.gather-level.ensures
    c.in_ok-put.ensures.all)
    c.in_err-begin-in-Part.ensures)

pub loop-text-smaller : goal.loop-text-smaller
loop-text-smaller g c =
    let h = c.requires.begun in
    let first = h.first in
    let start = h.start in
    let b = h.begun in
    let asks = part-asks c.args.mem.now c.args.names.now first c.gather-level.result (reverse c.pop.new.self.items) c.in-Part.part c.loop-text.seen g.K.Sink.wrote start c.put.new.sink
    h.can
    (sym c.next.ensures ∙ c.in-Part.is)
    (prints-gathered c.args.mem.now c.args.names.now first c.loop-text.levels.items c.pop.new.self.items c.in-Some.top c.gather-level.result c.gather-level.new.text.items c.as_slice.result.now
    c.loop-text.seen g.K.Sink.wrote start c.loop-text.sink c.put.new.sink c.in-Some.ensures.items c.as_slice.ensures.value (c.loop-text.invariant.on first start b).prints c.gather-level.ensures
    c.in_ok-put.ensures.all) in
    let began = c.in_ok-begin-in-Part.ensures always asks.begins.shared asks.begins.now (subst (λ z. Stands always asks.begins.shared c.args.mem.now z asks.begins.now) (sym c.get-word.ensures)
    asks.begins.standing) in
    let grown = levels-grow began.parts c.in-Part.part.more (reverse c.pop.new.self.items) (reverse c.keep.new.levels.items) (reverse c.begin.new.levels.items) c.keep.ensures began.levels in
    omega (arith, grown, asks.few, c.in-Some.ensures.len, length-reverse c.pop.new.self.items, length-reverse c.begin.new.levels.items)

pub loop-text-preserved : goal.loop-text-preserved
loop-text-preserved g c =
    let h = c.requires.begun in
    let first = h.first in
    let start = h.start in
    let b = h.begun in
    let asks = part-asks c.args.mem.now c.args.names.now first c.gather-level.result (reverse c.pop.new.self.items) c.in-Part.part c.loop-text.seen g.K.Sink.wrote start c.put.new.sink
    h.can
    (sym c.next.ensures ∙ c.in-Part.is)
    (prints-gathered c.args.mem.now c.args.names.now first c.loop-text.levels.items c.pop.new.self.items c.in-Some.top c.gather-level.result c.gather-level.new.text.items c.as_slice.result.now
    c.loop-text.seen g.K.Sink.wrote start c.loop-text.sink c.put.new.sink c.in-Some.ensures.items c.as_slice.ensures.value (c.loop-text.invariant.on first start b).prints c.gather-level.ensures
    c.in_ok-put.ensures.all) in
    let began = c.in_ok-begin-in-Part.ensures always asks.begins.shared asks.begins.now (subst (λ z. Stands always asks.begins.shared c.args.mem.now z asks.begins.now) (sym c.get-word.ensures)
    asks.begins.standing) in
    record {
      on = λ first start b. record {
        prints = prints-part c.args.mem.now c.args.names.now first c.gather-level.result (reverse c.pop.new.self.items) c.in-Part.part c.get-word.result (reverse c.keep.new.levels.items)
            (reverse c.begin.new.levels.items) c.loop-text.seen g.K.Sink.wrote g.K.Sink.faults start c.put.new.sink c.begin.new.sink c.in_ok-begin-in-Part.field-0
            (sym c.next.ensures ∙ c.in-Part.is) c.get-word.ensures c.keep.ensures
            (prints-gathered c.args.mem.now c.args.names.now first c.loop-text.levels.items c.pop.new.self.items c.in-Some.top c.gather-level.result c.gather-level.new.text.items c.as_slice.result.now
            c.loop-text.seen g.K.Sink.wrote start c.loop-text.sink c.put.new.sink c.in-Some.ensures.items c.as_slice.ensures.value (c.loop-text.invariant.on first start b).prints
            c.gather-level.ensures c.in_ok-put.ensures.all)
            c.in_ok-begin-in-Part.ensures;
        told = began.written.told ∙ (c.in_ok-put.ensures.told ∙ (c.loop-text.invariant.on first start b).told);
      };
      few = asks.few;
    }

pub gather-level-requires : goal.gather-level-requires
gather-level-requires g c =
    let h = c.requires.begun in
    let first = h.first in
    let start = h.start in
    let b = h.begun in
    level-gathers c.args.mem.now c.args.names.now first c.in-Some.top (reverse c.pop.new.self.items) c.loop-text.seen g.K.Sink.wrote start c.loop-text.sink h.can
    (prints-popped c.args.mem.now c.args.names.now first c.loop-text.levels.items c.pop.new.self.items c.in-Some.top c.loop-text.seen g.K.Sink.wrote start c.loop-text.sink
    c.in-Some.ensures.items (c.loop-text.invariant.on first start b).prints)

pub returns-in_err-put-clause-on : goal.returns-in_err-put-clause-on
returns-in_err-put-clause-on g c = λ first start b.
    stops c.args.mem.now c.args.names.now first (reverse c.pop.new.self.items) g.K.Sink.wrote g.K.Sink.faults start c.put.new.sink c.from_residual.result c.from_residual.ensures.0 (λ q failed.
    prints-gathered-stops c.args.mem.now c.args.names.now first c.loop-text.levels.items c.pop.new.self.items c.in-Some.top c.gather-level.result c.gather-level.new.text.items
    c.as_slice.result.now c.loop-text.seen g.K.Sink.wrote g.K.Sink.faults start c.loop-text.sink c.put.new.sink c.in_err-put.field-0.0 q
    failed (c.loop-text.invariant.on first start b).told c.in-Some.ensures.items c.as_slice.ensures.value (c.loop-text.invariant.on first start b).prints c.gather-level.ensures c.in_err-put.ensures)

pub loop-text-preserved-in-Continue-branch-2 : goal.loop-text-preserved-in-Continue-branch-2
loop-text-preserved-in-Continue-branch-2 g c = record {
  on = λ first start b. record {
    prints = prints-end c.args.mem.now c.args.names.now first c.gather-level.result (reverse c.pop.new.self.items) c.in-End.last c.loop-text.seen g.K.Sink.wrote start c.put.new.sink
        c.put-in-End.new.sink (sym c.next.ensures ∙ c.in-End.is)
        (prints-gathered c.args.mem.now c.args.names.now first c.loop-text.levels.items c.pop.new.self.items c.in-Some.top c.gather-level.result c.gather-level.new.text.items c.as_slice.result.now
        c.loop-text.seen g.K.Sink.wrote start c.loop-text.sink c.put.new.sink c.in-Some.ensures.items c.as_slice.ensures.value (c.loop-text.invariant.on first start b).prints c.gather-level.ensures
        c.in_ok-put.ensures.all)
        (subst (Grew g.K.Sink.wrote c.put.new.sink c.put-in-End.new.sink) c.end_bytes.ensures c.in_ok-put-in-End.ensures.all);
    told = c.in_ok-put-in-End.ensures.told ∙ (c.in_ok-put.ensures.told ∙ (c.loop-text.invariant.on first start b).told);
  };
  few = c.loop-text.invariant.few;
}

pub next-requires : goal.next-requires
next-requires g c =
    let h = c.requires.begun in
    let first = h.first in
    let start = h.start in
    let b = h.begun in
    level-counts c.args.mem.now c.args.names.now first c.gather-level.result (reverse c.pop.new.self.items) c.loop-text.seen g.K.Sink.wrote start c.put.new.sink h.can
    c.bounded.ensures
    (prints-gathered c.args.mem.now c.args.names.now first c.loop-text.levels.items c.pop.new.self.items c.in-Some.top c.gather-level.result c.gather-level.new.text.items
    c.as_slice.result.now c.loop-text.seen g.K.Sink.wrote start c.loop-text.sink c.put.new.sink c.in-Some.ensures.items c.as_slice.ensures.value (c.loop-text.invariant.on first start b).prints
    c.gather-level.ensures c.in_ok-put.ensures.all)

pub returns-in_default-clause-on : goal.returns-in_default-clause-on
returns-in_default-clause-on g c = λ first start b.
    subst (λ z. PrintBegun c.args.mem.now c.args.names.now first (reverse z) c.loop-text.seen g.K.Sink.wrote g.K.Sink.faults start c.loop-text.sink)
    (sym (ap (λ z. z.items) c.in_default.ensures.empty))
    (c.loop-text.invariant.on first start b)
