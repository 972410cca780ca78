use Rattle.std.proofs.Common.{get_or, sym, ◌∙◌}
use Rattle.std.proofs.lemmas.List.{take_all}
use Rattle.record_move.proofs.Renewing.{member-at}
use Rattle.counts_text.proofs.Ordered.{best-same, best-more, better-read}
use Rattle.counts_text.proofs.next.next_fun.Goals as goal
use Rattle.counts_text.proofs.next.next_fun.Goals.{then-comes_after, else-comes_after}

pub loop-v-init : goal.loop-v-init
loop-v-init c = record { best = λ w i. absurd i; read = tt }

pub comes_after-requires-clause-record : goal.comes_after-requires-clause-record
comes_after-requires-clause-record c = c.requires.each (get_or c.args.funs.now c.loop-v.v-index 0) (member-at c.args.funs.now c.loop-v.v-index c.loop-v-test.true)

pub nearer-best-requires-clause-record : goal.nearer-best-requires-clause-record
nearer-best-requires-clause-record c = c.requires.each (get_or c.args.funs.now c.loop-v.v-index 0) (member-at c.args.funs.now c.loop-v.v-index c.loop-v-test.true)

pub loop-v-preserved : goal.loop-v-preserved
loop-v-preserved c =
    elim c.if-comes_after.branch [
      | then-comes_after w ↦ record {
        best = rw (w.best-is, w.nearer-best.ensures)
            (best-more c.args.mem.now c.args.names.now c.args.last c.args.funs.now c.loop-v.v-index c.loop-v.best c.loop-v-test.true (sym c.comes_after.ensures ∙ w.if-comes_after.true)
            c.loop-v.invariant.best);
        read = rw (w.best-is, w.nearer-best.ensures)
            (better-read c.args.mem.now c.args.names.now c.args.last (get_or c.args.funs.now c.loop-v.v-index 0) c.loop-v.best
            (c.requires.each (get_or c.args.funs.now c.loop-v.v-index 0) (member-at c.args.funs.now c.loop-v.v-index c.loop-v-test.true)) c.loop-v.invariant.read);
      }
      | else-comes_after w ↦ record {
        best = rw w.best-is
            (best-same c.args.mem.now c.args.names.now c.args.last c.args.funs.now c.loop-v.v-index c.loop-v.best c.loop-v-test.true (sym c.comes_after.ensures ∙ w.if-comes_after.false)
            c.loop-v.invariant.best);
        read = rw w.best-is c.loop-v.invariant.read;
      }
    ]

pub returns : goal.returns
returns c = rw (sym (take_all c.loop-v.v-index c.args.funs.now c.loop-v-test.false)) c.loop-v.invariant.best
