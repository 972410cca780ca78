use Rattle.std.proofs.Common.{arith, refl}
use Rattle.plain_term.specs.Tree.Tree.{Ref}
use Rattle.ladder_tests.specs.Bench.{shared_of}
use Rattle.ladder_tests.proofs.Good.{one-made}
use Rattle.ladder_tests.proofs.objects.reference_of.Goals as goal

pub returns : goal.returns
returns c =
    one-made 3 (shared_of c.args.rolls.now) c.args.names.now _ _ _ _ _ (Ref c.args.n c.args.k) c.reference.ensures.uses
    c.requires.place (omega (arith, c.requires.spare)) c.reference.ensures.kept_clear
    (c.reference.ensures.made_clear _) refl
