use Rattle.term_build.proofs.Rooms.{keeps-none}
use Rattle.ladder_tests.proofs.steps.make.Goals as goal

pub returns-in-Atom : goal.returns-in-Atom
returns-in-Atom c = record { place = c.requires.place; kept = keeps-none c.args.room.now c.args.mem.now; good = c.immediate_of.ensures _ }
