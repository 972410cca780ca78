use Rattle.std.proofs.Common.{ℕ, ◌∷◌, subst}
use Rattle.plain_term.specs.Measures.{flat_of_all}
use Rattle.cheney.specs.Ranges.{stays}
use Rattle.term_copy.specs.Going.{Goes}
use Rattle.term_copy.proofs.Stepping.{gone-same, mark-memory, owed-known, stands-at, goes-by, goes-not, image-memory, image-at}
use Rattle.term_copy.proofs.scanning.scan_word.Goals as goal

pub get-w-requires : goal.get-w-requires
get-w-requires c =
    mark-memory c.requires.can.task c.requires.can.known c.args.mem.now c.args.at c.requires.at c.args.room.now.top c.requires.tree c.requires.rest c.requires.can.on c.requires.can.has.inside

pub copy_part-new-requires : goal.copy_part-new-requires
copy_part-new-requires c = record {
  task = c.requires.can.task;
  known = c.requires.can.known;
  mark = c.args.at;
  at = c.requires.at;
  owed = flat_of_all c.requires.rest;
  tree = c.requires.tree;
  on = c.requires.can.on.on;
  standing = stands-at c.requires.can.task c.requires.can.known c.args.mem.now c.args.at c.requires.at c.args.room.now.top c.requires.tree c.requires.rest c.requires.can.on
      c.get-w.result c.get-w.ensures;
  goes = goes-by c.requires.can.task (stays c.args.stay.now) c.get-w.result c.requires.can.same_stay (c.goes.ensures.yes c.if-goes.true);
  has = c.requires.can.has;
}

pub set-requires : goal.set-requires
set-requires c =
    image-memory c.requires.can.task c.requires.can.known c.args.mem.now c.args.at c.requires.at c.args.room.now.top c.requires.tree c.requires.rest c.requires.can.on
    c.copy_part-new.new.mem c.copy_part-new.new.room.top c.get-w.result c.copy_part-new.result
    (c.copy_part-new.ensures.each c.requires.can.task (c.requires.can.on.item ∷ c.requires.can.known) c.args.at c.requires.at (flat_of_all c.requires.rest) c.requires.tree
    (owed-known c.requires.can.task c.requires.can.known c.args.mem.now c.args.at c.requires.at c.args.room.now.top c.requires.tree c.requires.rest c.requires.can.on)
    (stands-at c.requires.can.task c.requires.can.known c.args.mem.now c.args.at c.requires.at c.args.room.now.top c.requires.tree c.requires.rest c.requires.can.on c.get-w.result c.get-w.ensures)
    (goes-by c.requires.can.task (stays c.args.stay.now) c.get-w.result c.requires.can.same_stay (c.goes.ensures.yes c.if-goes.true)))
    c.requires.can.has.inside

pub returns-then-goes-clause-each : goal.returns-then-goes-clause-each
returns-then-goes-clause-each c = λ p known to u rest stay s.
    image-at p known c.args.mem.now c.args.at to c.args.room.now.top u rest s c.copy_part-new.new.mem c.set.new.self c.copy_part-new.new.room.top c.get-w.result c.copy_part-new.result
    c.get-w.ensures
    (c.copy_part-new.ensures.each p (s.item ∷ known) c.args.at to (flat_of_all rest) u (owed-known p known c.args.mem.now c.args.at to c.args.room.now.top u rest s)
    (stands-at p known c.args.mem.now c.args.at to c.args.room.now.top u rest s c.get-w.result c.get-w.ensures)
    (goes-by p (stays c.args.stay.now) c.get-w.result stay (c.goes.ensures.yes c.if-goes.true)))
    (mark-memory c.requires.can.task c.requires.can.known c.args.mem.now c.args.at c.requires.at c.args.room.now.top c.requires.tree c.requires.rest c.requires.can.on c.requires.can.has.inside)
    c.set.ensures c.copy_part-new.ensures.place (goes-by p (stays c.args.stay.now) c.get-w.result stay (c.goes.ensures.yes c.if-goes.true))

pub returns-else-goes-clause-each : goal.returns-else-goes-clause-each
returns-else-goes-clause-each c = λ p known to u rest stay s.
    let P : ℕ → Type 0 = λ w. Goes p w → ⊥ in
    gone-same p known c.args.mem.now c.args.at to c.args.room.now.top u rest s (subst P c.get-w.ensures (goes-not p (stays c.args.stay.now) c.get-w.result stay (c.goes.ensures.no c.if-goes.false)))
