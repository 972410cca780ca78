use Rattle.std.proofs.Common.{◌+◌, ◌%◌, sym, ap, ◌∙◌}
use Rattle.object_rows.proofs.Rows.{chaining-ends, joins-at, passes-at, link-inside, small-skips}
use Rattle.object_rows.proofs.chaining.chain_row.Goals.{then-is_link_word, else-is_link_word}
use Rattle.object_rows.proofs.chaining.chain_row.Goals as goal

pub loop-at-preserved-then-word-ne0 : goal.loop-at-preserved-then-word-ne0
loop-at-preserved-then-word-ne0 c = λ ws are.
    small-skips c.args.mem.now c.loop-at.mem c.loop-at.at c.args.to c.args.head ws c.loop-at.chained (c.loop-at.invariant ws are) c.loop-at-test.true
    (λ e. c.if-word-ne0.true (ap (λ w. w % 4) c.get-word.ensures ∙ e))

pub held_in-held-requires : goal.held_in-held-requires
held_in-held-requires c =
    link-inside c.args.mem.now c.loop-at.mem c.loop-at.at c.args.to c.args.head c.requires.ws c.loop-at.chained (c.loop-at.invariant c.requires.ws c.requires.are) c.loop-at-test.true
    c.get-word.result c.get-word.ensures c.if-word-ne0.false (sym c.is_link_word.ensures ∙ c.if-is_link_word.true) c.requires.inside

pub set_next-requires : goal.set_next-requires
set_next-requires c =
    link-inside c.args.mem.now c.loop-at.mem c.loop-at.at c.args.to c.args.head c.requires.ws c.loop-at.chained (c.loop-at.invariant c.requires.ws c.requires.are) c.loop-at-test.true
    c.get-word.result c.get-word.ensures c.if-word-ne0.false (sym c.is_link_word.ensures ∙ c.if-is_link_word.true) c.requires.inside

pub loop-at-preserved : goal.loop-at-preserved
loop-at-preserved c = λ ws are.
    elim c.if-is_link_word.branch [
      | then-is_link_word w ↦
          joins-at c.args.mem.now c.loop-at.mem c.loop-at.at c.args.to c.args.head ws c.loop-at.chained (c.loop-at.invariant ws are) c.loop-at-test.true c.get-word.result c.get-word.ensures
          c.if-word-ne0.false (sym c.is_link_word.ensures ∙ w.if-is_link_word.true) c.requires.inside c.bounded.ensures
          c.if-is_link_word.mem c.if-is_link_word.chained (w.mem-is ∙ w.set_next.ensures.writes)
          (ap (λ k. k.head) w.chained-is) (ap (λ k. k.count) w.chained-is)
          (ap (λ k. k.words) w.chained-is ∙ ap (λ n. (c.loop-at.chained.words + n) % 18446744073709551616) w.held_in-held.ensures)
      | else-is_link_word w ↦
          passes-at c.args.mem.now c.loop-at.mem c.loop-at.at c.args.to c.args.head ws c.loop-at.chained (c.loop-at.invariant ws are) c.loop-at-test.true c.get-word.result c.get-word.ensures
          c.if-word-ne0.false (sym c.is_link_word.ensures ∙ w.if-is_link_word.false) c.if-is_link_word.mem c.if-is_link_word.chained w.mem-is w.chained-is
    ]

pub returns : goal.returns
returns c = λ ws are.
    chaining-ends c.args.mem.now c.loop-at.mem c.args.from c.loop-at.at c.args.to c.args.head ws c.loop-at.chained are (c.loop-at.invariant ws are) c.loop-at-test.false
