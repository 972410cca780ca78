use Rattle.std.proofs.Common.{ℤ, to_z, of_z, arith, refl}
use Rattle.std.specs.Int.{w128}
use Rattle.plain_term.specs.Tree.Tree.{Int}
use Rattle.plain_term.specs.Measures.{int_flat}
use Rattle.ladder_tests.specs.Bench.{shared_of}
use Rattle.ladder_tests.proofs.Good.{one-made, int-few, int-magnitude}
use Rattle.ladder_tests.proofs.objects.integer_of.Goals as goal

pub integer-requires-clause-range : goal.integer-requires-clause-range
integer-requires-clause-range c = omega (arith, int-magnitude (to_z w128 (of_z w128 c.args.i)), c.unsigned_abs.ensures.value, c.if-unsigned_abs.false)

pub integer-requires-clause-words : goal.integer-requires-clause-words
integer-requires-clause-words c = omega (arith, int-few (to_z w128 (of_z w128 c.args.i)), c.requires.spare)

pub returns : goal.returns
returns c =
    let i : ℤ = to_z w128 (of_z w128 c.args.i) in
    one-made (int_flat i) (shared_of c.args.rolls.now) c.args.names.now _ _ _ _ _ (Int i) c.integer.ensures.uses
    c.requires.place (omega (arith, int-few i, c.requires.spare)) c.integer.ensures.kept_clear
    (c.integer.ensures.made_clear _) refl
