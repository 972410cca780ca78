use Rattle.std.proofs.Common.{◌++◌, reverse, sym, ◌∙◌, ap₂, subst, arith}
use Rattle.term_print.specs.Going.{PrintBegun, CanGoOn}
use Rattle.term_print.proofs.Going.{none-left, prints-all, unwritten}
use Rattle.term_print.proofs.printing.print_deep.Goals as goal

pub print_left-requires : goal.print_left-requires
print_left-requires g c =
    let same = c.in-Ok.ensures.ok ∙ ap₂ (λ a b. a ++ b) c.new-levels.ensures c.as_slice.ensures.value in
    (omega arith, (subst (λ z. CanGoOn c.args.mem.now c.args.names.now (reverse z) c.args.seen g.K.Sink.wrote g.K.Sink.faults c.args.sink.now) (sym same) c.requires.begun, c.requires.few))

pub returns-in_err-print_left : goal.returns-in_err-print_left
returns-in_err-print_left g c = λ first start b k shared t s.
    let same = c.in-Ok.ensures.ok ∙ ap₂ (λ a b. a ++ b) c.new-levels.ensures c.as_slice.ensures.value in
    unwritten g.K.Sink.wrote g.K.Sink.faults start c.print_left.new.sink _ c.in_err-print_left.field-0.0 c.from_residual.result c.from_residual.ensures.0
    (c.in_err-print_left.ensures.on first start
    (subst (λ z. PrintBegun c.args.mem.now c.args.names.now first (reverse z) c.args.seen g.K.Sink.wrote g.K.Sink.faults start c.args.sink.now) (sym same) b) k shared t s)

pub returns : goal.returns
returns g c = λ first start b.
    let same = c.in-Ok.ensures.ok ∙ ap₂ (λ a b. a ++ b) c.new-levels.ensures c.as_slice.ensures.value in
    let h = c.requires.begun in
    let mine = c.in_ok-print_left.ensures.on h.first h.start
    (subst (λ z. PrintBegun c.args.mem.now c.args.names.now h.first (reverse z) c.args.seen g.K.Sink.wrote g.K.Sink.faults h.start c.args.sink.now) (sym same) h.begun) in
    let this = c.in_ok-print_left.ensures.on first start
    (subst (λ z. PrintBegun c.args.mem.now c.args.names.now first (reverse z) c.args.seen g.K.Sink.wrote g.K.Sink.faults start c.args.sink.now) (sym same) b) in
    prints-all c.args.mem.now c.args.names.now first (reverse c.print_left.new.levels.items) c.in_ok-print_left.field-0 g.K.Sink.wrote g.K.Sink.faults start c.print_left.new.sink tt
    (none-left c.args.mem.now c.args.names.now h.first c.print_left.new.levels.items c.in_ok-print_left.field-0 g.K.Sink.wrote h.start c.print_left.new.sink h.can mine.prints
    c.in_ok-print_left.ensures.all) this.told this.prints
