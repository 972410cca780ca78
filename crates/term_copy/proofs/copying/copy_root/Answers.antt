use Rattle.std.proofs.Common.{[], refl}
use Rattle.cheney.specs.Ranges.{stays}
use Rattle.term_copy.proofs.Stepping.{begins, begins-copied, begins-same, can-begin, can-room, goes-by, goes-not, stands-root, task_of}
use Rattle.term_copy.proofs.copying.copy_root.Goals as goal

pub copy_part-requires : goal.copy_part-requires
copy_part-requires c = record {
  task = task_of c.args.mem.now c.args.room.now (stays c.args.stay.now) c.requires.can.test c.requires.can.shared c.args.w c.requires.can.tree;
  known = [];
  mark = c.args.room.now.top;
  at = c.args.room.now.top;
  owed = 0;
  tree = c.requires.can.tree;
  on = (begins (task_of c.args.mem.now c.args.room.now (stays c.args.stay.now) c.requires.can.test c.requires.can.shared c.args.w c.requires.can.tree) c.args.mem.now c.args.room.now.top
      (can-begin c.args.mem.now c.args.room.now (stays c.args.stay.now) c.args.w c.requires.can) refl refl).on;
  standing = c.requires.can.standing;
  goes = goes-by (task_of c.args.mem.now c.args.room.now (stays c.args.stay.now) c.requires.can.test c.requires.can.shared c.args.w c.requires.can.tree) (stays c.args.stay.now) c.args.w (λ q. refl)
      (c.goes.ensures.yes c.if-goes.true);
  has = can-room c.args.mem.now c.args.room.now (stays c.args.stay.now) c.args.w c.requires.can c.requires.places.inside;
}

pub returns-then-goes-clause-begins : goal.returns-then-goes-clause-begins
returns-then-goes-clause-begins c = λ p stay r start top word.
    begins-copied p c.copy_part.new.mem c.args.room.now.top c.copy_part.new.room.top c.args.w c.copy_part.result word top
    (goes-by p (stays c.args.stay.now) c.args.w stay (c.goes.ensures.yes c.if-goes.true)) c.copy_part.ensures.place
    (c.copy_part.ensures.each p [] c.args.room.now.top c.args.room.now.top 0 p.tree (begins p c.args.mem.now c.args.room.now.top r start top) (stands-root p c.args.w r word)
    (goes-by p (stays c.args.stay.now) c.args.w stay (c.goes.ensures.yes c.if-goes.true)))

pub returns-clause-begins : goal.returns-clause-begins
returns-clause-begins c = λ p stay r start top word.
    begins-same p c.args.mem.now c.args.room.now.top c.args.w r start top word (goes-not p (stays c.args.stay.now) c.args.w stay (c.goes.ensures.no c.if-goes.false))
