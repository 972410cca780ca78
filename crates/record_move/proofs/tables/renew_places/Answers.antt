use Rattle.std.proofs.Common.{◌≡◌, ◌-◌, ◌<◌, length, get_or, arith, ap, ◌∙◌, length-set}
use Rattle.std.proofs.Common.{get_or-set_other}
use Rattle.shared_rec.specs.Record.{count_in}
use Rattle.record_move.specs.declared.moves.TheConstants.{MOVED}
use Rattle.record_move.proofs.Renewing.{front-moved, front-stayed}
use Rattle.record_move.proofs.tables.renew_places.Goals as goal
use Rattle.record_move.proofs.tables.renew_places.Goals.{then-count-ge-MOVED, else-count-ge-MOVED}
use Rattle.term_words.proofs.Totals.Members.{in-at}

pub count_of-count-requires : goal.count_of-count-requires
count_of-count-requires c =
    let below : c.loop-i.i < length c.args.places.now = omega (arith, c.loop-i-test.true, c.loop-i.auto.i-end) in
    let same : get_or c.loop-i.places c.loop-i.i 0 ≡ get_or c.args.places.now c.loop-i.i 0 = c.loop-i.invariant.rest c.loop-i.i (omega arith) below in
    omega (arith, same, c.requires (get_or c.args.places.now c.loop-i.i 0) (in-at c.args.places.now c.loop-i.i below))

pub loop-i-preserved : goal.loop-i-preserved
loop-i-preserved c =
    let below : c.loop-i.i < length c.args.places.now = omega (arith, c.loop-i-test.true, c.loop-i.auto.i-end) in
    let room : c.loop-i.kept < length c.loop-i.places = omega (arith, below, c.loop-i.invariant.within, c.loop-i.invariant.same_len) in
    let same : get_or c.loop-i.places c.loop-i.i 0 ≡ get_or c.args.places.now c.loop-i.i 0 = c.loop-i.invariant.rest c.loop-i.i (omega arith) below in
    let is : c.count_of-count.result ≡ count_in c.args.mem.now (get_or c.args.places.now c.loop-i.i 0) = c.count_of-count.ensures ∙ ap (λ z. count_in c.args.mem.now z) same in
    elim c.if-count-ge-MOVED.branch [
      | then-count-ge-MOVED w ↦ record {
        within = omega (arith, w.kept-is, c.loop-i.invariant.within);
        same_len = ap length w.places-is ∙ (length-set c.loop-i.places c.loop-i.kept (c.count_of-count.result - MOVED) ∙ c.loop-i.invariant.same_len);
        front = rw (w.kept-is, w.places-is)
            (front-moved c.args.mem.now c.args.places.now c.loop-i.places c.loop-i.i c.loop-i.kept c.count_of-count.result below room c.loop-i.invariant.front is
            (omega (arith, w.if-count-ge-MOVED.true)));
        rest = λ j from under.
            ap (λ z. get_or z j 0) w.places-is
            ∙ (get_or-set_other c.loop-i.places c.loop-i.kept j (c.count_of-count.result - MOVED) 0 (λ e. omega (arith, e, from, c.loop-i.invariant.within))
            ∙ c.loop-i.invariant.rest j (omega (arith, from)) under);
      }
      | else-count-ge-MOVED w ↦ record {
        within = omega (arith, w.kept-is, c.loop-i.invariant.within);
        same_len = ap length w.places-is ∙ c.loop-i.invariant.same_len;
        front = rw (w.kept-is, w.places-is)
            (front-stayed c.args.mem.now c.args.places.now c.loop-i.places c.loop-i.i c.loop-i.kept c.count_of-count.result below c.loop-i.invariant.front is
            (omega (arith, w.if-count-ge-MOVED.false)));
        rest = λ j from under. ap (λ z. get_or z j 0) w.places-is ∙ c.loop-i.invariant.rest j (omega (arith, from)) under;
      }
    ]
