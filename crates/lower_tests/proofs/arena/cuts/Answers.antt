use Rattle.std.proofs.Common.{◌≡◌, ◌≤◌, arith}
use Rattle.std.proofs.lemmas.Bool.Decides.{nat_tests}
use Rattle.word_arena.specs.Blocks.{size_at}
use Rattle.word_arena.proofs.Side.Facts.{block-within}
use Rattle.lower_tests.proofs.arena.cuts.Goals as goal

pub cut-requires-clause-most : goal.cut-requires-clause-most
cut-requires-clause-most c =
    let used = c.in-Some.ensures in
    let two : 2 ≤ size_at c.args.arena.now.mem c.in-Some.at =
    (block-within c.args.arena.now.mem c.in-Some.at c.requires.blocked used.begins).header.owned used.kind in
    grind (arith, nat_tests, c.max-words.ensures, c.saturating_sub.ensures, c.get-size.ensures, two)
