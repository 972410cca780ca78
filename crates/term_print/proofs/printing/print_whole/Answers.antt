use Rattle.std.proofs.Common.{◌<◌, length, reverse, sym, ap, subst, arith}
use Rattle.term_print.proofs.Going.{begun-first, first-begins, first-stops, prints-all, length-none, unwritten}
use Rattle.term_print.proofs.printing.print_whole.Goals as goal

pub begin-requires : goal.begin-requires
begin-requires g c = (omega arith, (first-begins c.args.mem.now c.args.names.now c.args.w c.requires, subst (λ z. length z < 16) (sym c.new-levels.ensures) (omega arith)))

pub returns-in_err-begin : goal.returns-in_err-begin
returns-in_err-begin g c =
    first-stops c.args.mem.now c.args.names.now c.args.w (reverse c.new-levels.result.items) (reverse c.begin.new.levels.items) g.K.Sink.wrote g.K.Sink.faults c.args.sink.now c.begin.new.sink
    c.in_err-begin.field-0.0 c.from_residual.result c.from_residual.ensures.0 (ap reverse c.new-levels.ensures) c.in_err-begin.ensures

pub print_left-requires : goal.print_left-requires
print_left-requires g c = (
  omega arith,
  (
    record {
      first = c.args.w;
      start = c.args.sink.now;
      can = c.requires;
      begun = begun-first c.args.mem.now c.args.names.now c.args.w (reverse c.new-levels.result.items) (reverse c.begin.new.levels.items) g.K.Sink.wrote g.K.Sink.faults c.args.sink.now
          c.begin.new.sink c.in_ok-begin.field-0 (ap reverse c.new-levels.ensures) c.requires c.in_ok-begin.ensures;
    },
    omega arith,
  ),
)

pub returns-in_err-seen : goal.returns-in_err-seen
returns-in_err-seen g c = λ k shared t s.
    unwritten g.K.Sink.wrote g.K.Sink.faults c.args.sink.now c.print_left.new.sink _ c.in_err-seen.field-0.0 c.from_residual-in_err-seen.result c.from_residual-in_err-seen.ensures.0
    (c.in_err-seen.ensures.on c.args.w c.args.sink.now (begun-first c.args.mem.now c.args.names.now c.args.w (reverse c.new-levels.result.items) (reverse c.begin.new.levels.items) g.K.Sink.wrote
    g.K.Sink.faults c.args.sink.now c.begin.new.sink c.in_ok-begin.field-0 (ap reverse c.new-levels.ensures) c.requires c.in_ok-begin.ensures) k shared t s)

pub returns-then-is_empty : goal.returns-then-is_empty
returns-then-is_empty g c =
    let this = c.in_ok-seen.ensures.on c.args.w c.args.sink.now (begun-first c.args.mem.now c.args.names.now c.args.w (reverse c.new-levels.result.items) (reverse c.begin.new.levels.items)
    g.K.Sink.wrote g.K.Sink.faults c.args.sink.now c.begin.new.sink
    c.in_ok-begin.field-0 (ap reverse c.new-levels.ensures) c.requires c.in_ok-begin.ensures) in
    prints-all c.args.mem.now c.args.names.now c.args.w (reverse c.print_left.new.levels.items) c.in_ok-seen.seen g.K.Sink.wrote g.K.Sink.faults c.args.sink.now c.print_left.new.sink tt
    (ap reverse (length-none c.print_left.new.levels.items c.if-is_empty.ensures)) this.told this.prints

pub print_deep-requires : goal.print_deep-requires
print_deep-requires g c = record {
  begun = record {
    first = c.args.w;
    start = c.args.sink.now;
    can = c.requires;
    begun = c.in_ok-seen.ensures.on c.args.w c.args.sink.now (begun-first c.args.mem.now c.args.names.now c.args.w (reverse c.new-levels.result.items) (reverse c.begin.new.levels.items) g.K.Sink.wrote
        g.K.Sink.faults c.args.sink.now c.begin.new.sink c.in_ok-begin.field-0 (ap reverse c.new-levels.ensures) c.requires c.in_ok-begin.ensures);
  };
  few = c.in_ok-seen.ensures.few;
}

pub returns : goal.returns
returns g c = c.print_deep.ensures c.args.w c.args.sink.now (c.in_ok-seen.ensures.on c.args.w c.args.sink.now
    (begun-first c.args.mem.now c.args.names.now c.args.w (reverse c.new-levels.result.items) (reverse c.begin.new.levels.items) g.K.Sink.wrote g.K.Sink.faults c.args.sink.now c.begin.new.sink
    c.in_ok-begin.field-0 (ap reverse c.new-levels.ensures) c.requires c.in_ok-begin.ensures))
