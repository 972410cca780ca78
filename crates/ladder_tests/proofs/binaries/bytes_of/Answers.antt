use Rattle.std.proofs.Common.{◌+◌, length, arith, refl}
use Rattle.plain_term.specs.Tree.Tree.{Bin}
use Rattle.plain_term.specs.Measures.{bin_words}
use Rattle.ladder_tests.specs.Bench.{shared_of}
use Rattle.ladder_tests.proofs.Good.{one-made}
use Rattle.ladder_tests.proofs.binaries.bytes_of.Goals as goal

pub returns : goal.returns
returns c =
    one-made (2 + bin_words (length c.args.bytes.now)) (shared_of c.args.rolls.now) c.args.names.now _ _ _ _ _ (Bin c.args.bytes.now) c.heap_bin.ensures.uses
    c.requires.place (omega (arith, c.requires.spare))
    c.heap_bin.ensures.kept_clear (c.heap_bin.ensures.made_clear _) refl
