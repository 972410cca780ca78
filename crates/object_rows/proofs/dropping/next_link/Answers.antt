use Rattle.std.proofs.Common.{sym, ◌∙◌}
use Rattle.object_rows.proofs.Passed.{passing-begins, passing-ends, passing-found, passing-large, passing-small}
use Rattle.object_rows.proofs.dropping.next_link.Goals as goal

pub loop-at-init : goal.loop-at-init
loop-at-init c = λ ws are. passing-begins c.args.mem.now c.args.from c.args.to ws are

pub loop-at-preserved-then-word-ne0 : goal.loop-at-preserved-then-word-ne0
loop-at-preserved-then-word-ne0 c = λ ws are.
    passing-small c.args.mem.now c.loop-at.at c.args.to ws (c.loop-at.invariant ws are) c.loop-at-test.true c.get-word.result c.get-word.ensures c.if-word-ne0.true

pub returns-then-is_link_word : goal.returns-then-is_link_word
returns-then-is_link_word c = λ ws are.
    passing-found c.args.mem.now c.loop-at.at c.args.to ws (c.loop-at.invariant ws are) c.loop-at-test.true c.get-word.result c.get-word.ensures c.if-word-ne0.false
    (sym c.is_link_word.ensures ∙ c.if-is_link_word.true)

pub loop-at-preserved : goal.loop-at-preserved
loop-at-preserved c = λ ws are.
    passing-large c.args.mem.now c.loop-at.at c.args.to ws (c.loop-at.invariant ws are) c.loop-at-test.true c.get-word.result c.get-word.ensures c.if-word-ne0.false
    (sym c.is_link_word.ensures ∙ c.if-is_link_word.false)

pub returns : goal.returns
returns c = λ ws are. passing-ends c.args.mem.now c.loop-at.at c.args.to ws (c.loop-at.invariant ws are) c.loop-at-test.false
