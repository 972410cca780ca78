use Rattle.std.proofs.Common.{◌+◌, ◌/◌, get_or, arith}
use Rattle.term_copy.proofs.Stepping.{at-memory, opens-at, traced-boxed, traced-cons}
use Rattle.term_copy.proofs.scanning.scan_object.Goals as goal

pub get-word-requires : goal.get-word-requires
get-word-requires c = at-memory c.requires.task c.requires.known c.args.mem.now c.args.at c.args.room.now.top c.requires.on.on c.requires.some c.requires.has.inside

pub scan_words-requires : goal.scan_words-requires
scan_words-requires c =
    let o = opens-at c.requires.task c.requires.known c.args.mem.now c.args.at c.args.room.now.top c.requires.on.on c.args.at (c.args.at + 2) c.requires.some
    (traced-cons (get_or c.args.mem.now c.args.at 0) c.get-word.result c.args.at c.get-word.ensures (c.is_header.ensures.no c.if-not-is_header.true)) c.requires.on.led in
    record {
      rest = o.0;
      can = record { task = c.requires.task; known = c.requires.known; on = o.1.0; has = c.requires.has; same_stay = c.requires.same_stay };
    }

pub returns-then-not-is_header-clause-each : goal.returns-then-not-is_header-clause-each
returns-then-not-is_header-clause-each c = λ p known stay g.
    let o = opens-at p known c.args.mem.now c.args.at c.args.room.now.top g.on c.args.at (c.args.at + 2) c.requires.some
    (traced-cons (get_or c.args.mem.now c.args.at 0) c.get-word.result c.args.at c.get-word.ensures (c.is_header.ensures.no c.if-not-is_header.true)) g.led in
    c.scan_words.ensures.each p known o.0 stay o.1.0

pub scan_words-requires-2 : goal.scan_words-requires-2
scan_words-requires-2 c =
    let o = opens-at c.requires.task c.requires.known c.args.mem.now c.args.at c.args.room.now.top c.requires.on.on
    (c.args.at + c.traced_from.result) (c.args.at + (1 + c.arity_of.result)) c.requires.some
    (rw c.arity_of.ensures (traced-boxed (get_or c.args.mem.now c.args.at 0) c.get-word.result c.args.at c.traced_from.result c.get-word.ensures
    (c.is_header.ensures.yes c.if-not-is_header.false) c.traced_from.ensures.first)) c.requires.on.led in
    record {
      rest = o.0;
      can = record { task = c.requires.task; known = c.requires.known; on = o.1.0; has = c.requires.has; same_stay = c.requires.same_stay };
    }

pub returns-clause-further : goal.returns-clause-further
returns-clause-further c = omega arith

pub returns-clause-each : goal.returns-clause-each
returns-clause-each c = λ p known stay g.
    let o = opens-at p known c.args.mem.now c.args.at c.args.room.now.top g.on (c.args.at + c.traced_from.result) (c.args.at + (1 + c.arity_of.result)) c.requires.some
    (rw c.arity_of.ensures (traced-boxed (get_or c.args.mem.now c.args.at 0) c.get-word.result c.args.at c.traced_from.result c.get-word.ensures
    (c.is_header.ensures.yes c.if-not-is_header.false) c.traced_from.ensures.first)) g.led in
    c.scan_words-2.ensures.each p known o.0 stay o.1.0
