use Rattle.std.proofs.Common.{refl}
use Rattle.plain_term.specs.Tree.Tree.{Shared}
use Rattle.ladder_tests.proofs.binaries.holder_of.Goals as goal

pub returns : goal.returns
returns c = record {
  place = c.hold.ensures.place;
  kept = c.hold.ensures.kept;
  good = record { tree = Shared c.args.id; clear = c.hold.ensures.made; named = refl };
}
