use Rattle.std.proofs.Common.{refl, ◌+◌, ◌-◌, ◌≤◌, length, drop, arith, subst, ◌∙◌, append-nil, length-take}
use Rattle.line_io.specs.Faults.{Rose}
use Rattle.line_io.specs.Sink.{Grew}
use Rattle.line_io.proofs.Apart.{took-failed}
use Rattle.line_io.proofs.Growth.{Grew-append, Grew-more}
use Rattle.line_io.proofs.sink.put_most.Goals as goal

pub loop-at-preserved : goal.loop-at-preserved
loop-at-preserved g c =
    let xs = c.args.bytes.now in
    let at = c.loop-at.at in
    let n = c.in-Took.n in
    let before = c.loop-at.invariant in
    let most = length-take (length xs - at) (drop at xs) in
    let fits : at + n ≤ length xs = omega (arith, c.in-Took.ensures.count.1, most, before.0) in
    (fits, Grew-more g.K.Sink.wrote _ _ _ xs at n fits before.1 c.in-Took.ensures.grew, c.in-Took.ensures.told (λ e. took-failed e) ∙ before.2)

pub returns-in-Failed : goal.returns-in-Failed
returns-in-Failed g c =
    let inv = c.loop-at.invariant in
    let e = c.in-Failed.ensures in
    record {
      most = inv.0;
      grew = subst (Grew g.K.Sink.wrote _ _) (append-nil _) (Grew-append g.K.Sink.wrote _ _ _ _ _ inv.1 e.grew);
      later = omega (arith, inv.2, e.later);
      rose = λ f. subst (λ k. Rose k (g.K.Sink.faults c.write.new.self)) inv.2 (e.failed refl);
      told = λ f. absurd (omega (arith, f, c.loop-at-test.true));
    }

pub returns : goal.returns
returns g c =
    let inv = c.loop-at.invariant in
    record { most = inv.0; grew = inv.1; later = omega (arith, inv.2); rose = λ f. absurd (omega (arith, f, c.loop-at-test.false)); told = λ f. inv.2 }
