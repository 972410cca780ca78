use Rattle.std.proofs.Common.{sym, ◌∙◌, ap, Some, arith}
use Rattle.numbered_rows.proofs.Rising.{find-above, find-no-above}
use Rattle.process_verbs.specs.Verbs.{VerbsStand}
use Rattle.process_verbs.proofs.over.OverSpace.live_after.Goals as goal

pub returns-then-above-count-clause-means : goal.returns-then-above-count-clause-means
returns-then-above-count-clause-means g c = λ s h.
    let m = g.H.Heaps.meaning in
    let o : VerbsStand m c.self.inside.verbs s = rw c.self.view_is h.0 in
    let a = c.first_above-above.result in
    rw (sym o.processes.rows) (ap Some c.number.ensures
    ∙ sym (find-above (m.numbers c.self.inside.verbs.heaps) a c.args.pid (omega (arith, c.if-above-count.true, c.count.ensures)) c.first_above-above.ensures.low
    (c.first_above-above.ensures.high a (omega arith) (omega (arith, c.if-above-count.true, c.count.ensures)))))

pub returns-else-above-count-clause-means : goal.returns-else-above-count-clause-means
returns-else-above-count-clause-means g c = λ s h.
    let m = g.H.Heaps.meaning in
    let o : VerbsStand m c.self.inside.verbs s = rw c.self.view_is h.0 in
    rw (sym o.processes.rows) (sym (find-no-above (m.numbers c.self.inside.verbs.heaps) c.args.pid
    (λ k less. c.first_above-above.ensures.low k (omega (arith, less, c.if-above-count.false, c.count.ensures)))))
