use Rattle.std.proofs.Common.{refl, arith}
use Rattle.plain_term.specs.Tree.Tree.{Cons}
use Rattle.ladder_tests.specs.Bench.{shared_of}
use Rattle.ladder_tests.proofs.Good.{one-made}
use Rattle.ladder_tests.proofs.objects.cons_of.Goals as goal

pub returns : goal.returns
returns c =
    let h = c.requires.good.each 0 (omega arith) in
    let t = c.requires.good.each 1 (omega arith) in
    one-made 2 (shared_of c.args.rolls.now) c.args.names.now _ _ _ _ _ (Cons h.tree t.tree) c.cons.ensures.uses c.requires.place (omega (arith, c.requires.spare)) c.cons.ensures.kept_clear
    (c.cons.ensures.made_clear _ _ _ h.clear t.clear) (rw (h.named, t.named) refl)
