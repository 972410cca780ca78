use Rattle.std.proofs.Common.{length, ap, arith}
use Rattle.std.proofs.lemmas.List.{length-append}
use Rattle.one_space.specs.Entered.{records_from}
use Rattle.one_space.proofs.Memory.Tabled.{entered-len}
use Rattle.one_space.proofs.entering.enter_bins.Goals as goal

pub push_reserved-requires : goal.push_reserved-requires
push_reserved-requires c =
    omega (
      arith,
      c.requires.room,
      c.loop-i-test.true,
      c.loop-i.bins.ok.0,
      c.args.bins.now.ok.0,
      c.loop-i.invariant.1,
      ap length c.loop-i.invariant.0,
      length-append c.args.bins.now.items (records_from c.args.mem.now c.args.first c.loop-i.i),
      entered-len c.args.mem.now c.args.first c.loop-i.i,
    )
