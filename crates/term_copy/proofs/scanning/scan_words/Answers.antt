use Rattle.plain_term.specs.Measures.{flat_of_all}
use Rattle.term_copy.proofs.Stepping.{Further, Still, closed, further, room-has, room-same, room-then}
use Rattle.term_copy.proofs.scanning.scan_words.Goals as goal

pub loop-at-init : goal.loop-at-init
loop-at-init c = record {
  room = room-same c.requires.can.task c.requires.can.known c.args.mem.now c.args.from c.args.to c.args.room.now (flat_of_all c.requires.rest) c.requires.can.on.on c.requires.can.has;
  each = λ p known rest stay s. record { rest = rest; on = s };
}

pub scan_word-requires : goal.scan_word-requires
scan_word-requires c =
    let f : Further c.requires.can.task c.requires.can.known c.loop-at.mem c.loop-at.at c.args.to c.loop-at.room.top =
    further c.requires.can.task c.requires.can.known c.loop-at.mem c.loop-at.at c.args.to c.loop-at.room.top
    (c.loop-at.invariant.each c.requires.can.task c.requires.can.known c.requires.rest c.requires.can.same_stay c.requires.can.on) c.loop-at-test.true in
    record {
      at = c.args.to;
      tree = f.tree;
      rest = f.later;
      can = record {
        task = c.requires.can.task;
        known = c.requires.can.known;
        on = f.on;
        has = room-has c.requires.can.task c.args.room.now c.loop-at.room c.requires.can.has c.loop-at.invariant.room;
        same_stay = c.requires.can.same_stay;
      };
    }

pub loop-at-preserved : goal.loop-at-preserved
loop-at-preserved c = record {
  room = room-then c.args.room.now c.loop-at.room c.scan_word.new.room c.loop-at.invariant.room c.scan_word.ensures.room;
  each = λ p known rest stay s.
      let f : Further p known c.loop-at.mem c.loop-at.at c.args.to c.loop-at.room.top =
      further p known c.loop-at.mem c.loop-at.at c.args.to c.loop-at.room.top (c.loop-at.invariant.each p known rest stay s) c.loop-at-test.true in
      record { rest = f.later; on = c.scan_word.ensures.each p known c.args.to f.tree f.later stay f.on };
}

pub returns-clause-room : goal.returns-clause-room
returns-clause-room c = c.loop-at.invariant.room

pub returns-clause-each : goal.returns-clause-each
returns-clause-each c = λ p known rest stay s.
    let t : Still p known c.loop-at.mem c.loop-at.at c.args.to c.loop-at.room.top = c.loop-at.invariant.each p known rest stay s in
    closed p known c.loop-at.mem c.loop-at.at c.args.to c.loop-at.room.top t.rest t.on c.loop-at-test.false
