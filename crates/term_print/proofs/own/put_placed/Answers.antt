use Rattle.std.proofs.Common.{true, ap, sym, codes, ◌++◌}
use Rattle.plain_term.specs.Text.{placed}
use Rattle.term_print.specs.Own.{leaf_text}
use Rattle.text_parts.proofs.Writing.{written-as, written-after, written-short}
use Rattle.term_print.proofs.own.put_placed.Goals as goal

pub returns-in_err-put : goal.returns-in_err-put
returns-in_err-put g c = λ xs h.
    let x = leaf_text c.args.names.now xs c.args.look in
    written-as g.K.Sink.wrote g.K.Sink.faults c.args.sink.now c.put.new.sink (placed true x) (placed c.args.tail x) c.from_residual.result (ap (λ z. placed z x) (sym c.if-tail.true))
    (written-short g.K.Sink.wrote g.K.Sink.faults c.args.sink.now c.put.new.sink (codes "|") (x ++ codes "]") c.in_err-put.field-0.0 c.from_residual.result c.from_residual.ensures.0
    c.in_err-put.ensures)

pub returns-in_err-put_leaf : goal.returns-in_err-put_leaf
returns-in_err-put_leaf g c = λ xs h.
    let x = leaf_text c.args.names.now xs c.args.look in
    written-as g.K.Sink.wrote g.K.Sink.faults c.args.sink.now c.put_leaf.new.sink (placed true x) (placed c.args.tail x) c.from_residual-in_err-put_leaf.result
    (ap (λ z. placed z x) (sym c.if-tail.true))
    (written-after g.K.Sink.wrote g.K.Sink.faults c.args.sink.now c.put.new.sink c.put_leaf.new.sink (codes "|") (x ++ codes "]") c.from_residual-in_err-put_leaf.result c.in_ok-put.ensures.all
    c.in_ok-put.ensures.told
    (written-short g.K.Sink.wrote g.K.Sink.faults c.put.new.sink c.put_leaf.new.sink x (codes "]") c.in_err-put_leaf.field-0.0 c.from_residual-in_err-put_leaf.result
    c.from_residual-in_err-put_leaf.ensures.0 (c.in_err-put_leaf.ensures xs h)))

pub returns-then-tail : goal.returns-then-tail
returns-then-tail g c = λ xs h.
    let x = leaf_text c.args.names.now xs c.args.look in
    let leaf = c.in_ok-put_leaf.ensures xs h in
    written-as g.K.Sink.wrote g.K.Sink.faults c.args.sink.now c.put-then-tail.new.sink (placed true x) (placed c.args.tail x) c.put-then-tail.result (ap (λ z. placed z x) (sym c.if-tail.true))
    (written-after g.K.Sink.wrote g.K.Sink.faults c.args.sink.now c.put.new.sink c.put-then-tail.new.sink (codes "|") (x ++ codes "]") c.put-then-tail.result c.in_ok-put.ensures.all
    c.in_ok-put.ensures.told
    (written-after g.K.Sink.wrote g.K.Sink.faults c.put.new.sink c.put_leaf.new.sink c.put-then-tail.new.sink x (codes "]") c.put-then-tail.result leaf.all leaf.told c.put-then-tail.ensures))
