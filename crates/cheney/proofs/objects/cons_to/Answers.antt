use Rattle.cheney.proofs.Stepping.Copying.{cons-copies}
use Rattle.cheney.proofs.objects.cons_to.Goals as goal

pub returns-clause-copies : goal.returns-clause-copies
returns-clause-copies c =
    cons-copies c.args.mem.now c.set.new.self c.set-2.new.self c.set-3.new.self c.set-4.new.self c.args.w c.args.room.now.top c.args.head c.args.tail
    c.requires.tag c.requires.head c.requires.tail c.requires.within c.requires.fits c.requires.apart c.set.ensures c.set-2.ensures c.set-3.ensures c.set-4.ensures
