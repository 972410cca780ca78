use Rattle.std.proofs.Common.{◌/◌, refl}
use Rattle.cheney.proofs.Stepping.Copying.{boxed-copies}
use Rattle.cheney.proofs.objects.boxed_to.Goals as goal

pub returns-clause-copies : goal.returns-clause-copies
returns-clause-copies c =
    boxed-copies c.args.mem.now c.copy_apart.new.self c.set.new.self c.set-2.new.self c.args.w c.args.room.now.top c.args.header (c.args.header / 64)
    c.requires.tag c.requires.header refl c.requires.within c.requires.fits c.requires.apart c.copy_apart.ensures.same_len c.copy_apart.ensures.moved c.copy_apart.ensures.kept c.set.ensures
    c.set-2.ensures
