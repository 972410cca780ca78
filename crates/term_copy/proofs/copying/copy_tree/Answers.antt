use Rattle.std.proofs.Common.{◌≡◌, ◌+◌, ◌≤◌, arith, subst, refl}
use Rattle.plain_term.specs.Tree.{Tree}
use Rattle.plain_term.specs.Measures.{flat}
use Rattle.cheney.specs.Ranges.{stays}
use Rattle.term_words.proofs.Placing.Single.{single}
use Rattle.term_copy.specs.Copied.{Task}
use Rattle.term_copy.specs.Going.{Begun, Leading, ReadyToCopy}
use Rattle.term_copy.proofs.Stepping.{can-begin, can-room, room-has, room-then, task_of}
use Rattle.term_copy.proofs.Whole.{ended}
use Rattle.term_copy.proofs.copying.copy_tree.Goals as goal

pub loop-at-init : goal.loop-at-init
loop-at-init c = record { room = c.copy_root-result.ensures.room; each = c.copy_root-result.ensures.begins }

pub scan_object-at-requires : goal.scan_object-at-requires
scan_object-at-requires c =
    let p : Task = task_of c.args.mem.now c.args.room.now (stays c.args.stay.now) c.requires.can.test c.requires.can.shared c.args.w c.requires.can.tree in
    let b : Begun (task_of c.args.mem.now c.args.room.now (stays c.args.stay.now) c.requires.can.test c.requires.can.shared c.args.w c.requires.can.tree)
    c.loop-at.mem c.loop-at.at c.loop-at.room.top c.copy_root-result.result =
    c.loop-at.invariant.each (task_of c.args.mem.now c.args.room.now (stays c.args.stay.now) c.requires.can.test c.requires.can.shared c.args.w c.requires.can.tree) (λ q. refl)
    (can-begin c.args.mem.now c.args.room.now (stays c.args.stay.now) c.args.w c.requires.can) refl refl refl in
    record {
      task = task_of c.args.mem.now c.args.room.now (stays c.args.stay.now) c.requires.can.test c.requires.can.shared c.args.w c.requires.can.tree;
      known = b.known;
      on = record { on = b.on; led = b.led };
      some = c.loop-at-test.true;
      has = room-has (task_of c.args.mem.now c.args.room.now (stays c.args.stay.now) c.requires.can.test c.requires.can.shared c.args.w c.requires.can.tree) c.args.room.now c.loop-at.room
          (can-room c.args.mem.now c.args.room.now (stays c.args.stay.now) c.args.w c.requires.can c.requires.places.inside) c.loop-at.invariant.room;
      same_stay = λ q. refl;
    }

pub loop-at-preserved : goal.loop-at-preserved
loop-at-preserved c = record {
  room = room-then c.args.room.now c.loop-at.room c.scan_object-at.new.room c.loop-at.invariant.room c.scan_object-at.ensures.room;
  each = λ p stay r start top word.
      let b : Begun p c.loop-at.mem c.loop-at.at c.loop-at.room.top c.copy_root-result.result = c.loop-at.invariant.each p stay r start top word in
      let l : Leading p b.known c.scan_object-at.new.mem c.scan_object-at.result c.scan_object-at.result c.scan_object-at.new.room.top 0 =
      c.scan_object-at.ensures.each p b.known stay (record { on = b.on; led = b.led }) in
      record {
        known = b.known;
        image = b.image;
        first = b.first;
        on = l.on;
        led = l.led;
        past = omega (arith, b.past, c.scan_object-at.ensures.further);
        none = λ n. absurd (omega (arith, b.none n, b.past, c.loop-at-test.true));
      };
}

pub returns-clause-places : goal.returns-clause-places
returns-clause-places c =
    let b : Begun (task_of c.args.mem.now c.args.room.now (stays c.args.stay.now) c.requires.can.test c.requires.can.shared c.args.w c.requires.can.tree)
    c.loop-at.mem c.loop-at.at c.loop-at.room.top c.copy_root-result.result =
    c.loop-at.invariant.each (task_of c.args.mem.now c.args.room.now (stays c.args.stay.now) c.requires.can.test c.requires.can.shared c.args.w c.requires.can.tree) (λ q. refl)
    (can-begin c.args.mem.now c.args.room.now (stays c.args.stay.now) c.args.w c.requires.can) refl refl refl in
    record {
      start_first = omega (arith, c.requires.places.start_first, c.loop-at.invariant.room.top, c.loop-at.invariant.room.start);
      top_next = c.loop-at.invariant.room.inside;
      inside = omega (arith, c.requires.places.inside, c.loop-at.invariant.room.end, b.on.same_len);
    }

pub returns-clause-start : goal.returns-clause-start
returns-clause-start c = c.loop-at.invariant.room.start

pub returns-clause-end : goal.returns-clause-end
returns-clause-end c = c.loop-at.invariant.room.end

pub returns-clause-copies : goal.returns-clause-copies
returns-clause-copies c = λ test shared t one s free.
    let same : c.requires.can.tree ≡ t = single c.requires.can.test test c.requires.can.shared shared c.args.mem.now c.args.w c.requires.can.tree t c.requires.can.standing s in
    let P : Tree → Type 0 = λ u. c.args.room.now.top + flat u ≤ c.args.room.now.end in
    let r : ReadyToCopy (task_of c.args.mem.now c.args.room.now (stays c.args.stay.now) test shared c.args.w t) =
    record { single = one; standing = s; clear = free; fits = subst P same c.requires.can.fits } in
    ended (task_of c.args.mem.now c.args.room.now (stays c.args.stay.now) test shared c.args.w t) c.loop-at.mem c.loop-at.at c.loop-at.room.top c.copy_root-result.result
    (c.loop-at.invariant.each (task_of c.args.mem.now c.args.room.now (stays c.args.stay.now) test shared c.args.w t) (λ q. refl) r refl refl refl)
    c.loop-at-test.false c.requires.places.inside
