use Rattle.std.proofs.Common.{◌/◌, ap, arith}
use Rattle.record_move.proofs.Moving.{object-in, record-in, fits-of, apart-here, moved-found, moved-now}
use Rattle.record_move.proofs.moves.move_record.Goals as goal

pub record_of-from-requires : goal.record_of-from-requires
record_of-from-requires c =
    object-in c.requires.test c.requires.start c.args.mem.now c.requires.head c.args.object c.requires.os c.requires.rest
    c.requires.low c.args.now c.requires.top c.requires.can c.requires.few c.requires.moves

pub count_of-count-requires : goal.count_of-count-requires
count_of-count-requires c =
    record-in c.requires.test c.requires.start c.args.mem.now c.requires.head c.args.object c.requires.os c.requires.rest
    c.requires.low c.args.now c.requires.top c.requires.can c.requires.few c.requires.moves
    c.record_of-from.result c.record_of-from.ensures

pub set_record-requires : goal.set_record-requires
set_record-requires c =
    object-in c.requires.test c.requires.start c.args.mem.now c.requires.head c.args.object c.requires.os c.requires.rest
    c.requires.low c.args.now c.requires.top c.requires.can c.requires.few c.requires.moves

pub returns-then-count-ge-MOVED : goal.returns-then-count-ge-MOVED
returns-then-count-ge-MOVED c = λ k start head os rest low top can few s.
    moved-found k start c.args.mem.now c.set_record.new.mem head c.args.object os rest low c.args.now top c.record_of-from.result c.count_of-count.result can few s c.record_of-from.ensures
    c.count_of-count.ensures c.if-count-ge-MOVED.true c.set_record.ensures.writes c.set_record.ensures.kept

pub get-words-requires : goal.get-words-requires
get-words-requires c =
    omega (
      arith,
      record-in c.requires.test c.requires.start c.args.mem.now c.requires.head c.args.object c.requires.os c.requires.rest
          c.requires.low c.args.now c.requires.top c.requires.can c.requires.few c.requires.moves
          c.record_of-from.result c.record_of-from.ensures,
    )

pub overflow_sub-place : goal.overflow_sub-place
overflow_sub-place c =
    (fits-of c.requires.test c.requires.start c.args.mem.now c.requires.head c.args.object c.requires.os c.requires.rest
    c.requires.low c.args.now c.requires.top c.requires.can c.requires.few c.requires.moves
    c.record_of-from.result c.count_of-count.result (c.get-words.result / 16) c.record_of-from.ensures c.count_of-count.ensures (omega (arith, c.if-count-ge-MOVED.false))
    (ap (λ x. x / 16) c.get-words.ensures)).0

pub copy_record-requires-clause-source : goal.copy_record-requires-clause-source
copy_record-requires-clause-source c =
    (fits-of c.requires.test c.requires.start c.args.mem.now c.requires.head c.args.object c.requires.os c.requires.rest
    c.requires.low c.args.now c.requires.top c.requires.can c.requires.few c.requires.moves
    c.record_of-from.result c.count_of-count.result (c.get-words.result / 16) c.record_of-from.ensures c.count_of-count.ensures (omega (arith, c.if-count-ge-MOVED.false))
    (ap (λ x. x / 16) c.get-words.ensures)).1.0

pub copy_record-requires-clause-target : goal.copy_record-requires-clause-target
copy_record-requires-clause-target c =
    let fits = fits-of c.requires.test c.requires.start c.args.mem.now c.requires.head c.args.object c.requires.os c.requires.rest
    c.requires.low c.args.now c.requires.top c.requires.can c.requires.few c.requires.moves
    c.record_of-from.result c.count_of-count.result (c.get-words.result / 16) c.record_of-from.ensures c.count_of-count.ensures (omega (arith, c.if-count-ge-MOVED.false))
    (ap (λ x. x / 16) c.get-words.ensures) in
    omega (arith, fits.0, fits.1.1.0)

pub copy_record-requires-clause-apart : goal.copy_record-requires-clause-apart
copy_record-requires-clause-apart c =
    apart-here c.requires.test c.requires.start c.args.mem.now c.requires.head c.args.object c.requires.os c.requires.rest
    c.requires.low c.args.now c.requires.top c.requires.can c.requires.few c.requires.moves
    c.record_of-from.result c.count_of-count.result (c.get-words.result / 16) c.record_of-from.ensures c.count_of-count.ensures (omega (arith, c.if-count-ge-MOVED.false))
    (ap (λ x. x / 16) c.get-words.ensures)

pub copy_record-requires-clause-some : goal.copy_record-requires-clause-some
copy_record-requires-clause-some c =
    (fits-of c.requires.test c.requires.start c.args.mem.now c.requires.head c.args.object c.requires.os c.requires.rest
    c.requires.low c.args.now c.requires.top c.requires.can c.requires.few c.requires.moves
    c.record_of-from.result c.count_of-count.result (c.get-words.result / 16) c.record_of-from.ensures c.count_of-count.ensures (omega (arith, c.if-count-ge-MOVED.false))
    (ap (λ x. x / 16) c.get-words.ensures)).1.1.1

pub set_record-requires-2 : goal.set_record-requires-2
set_record-requires-2 c =
    omega (
      arith,
      c.copy_record.ensures.same_len,
      object-in c.requires.test c.requires.start c.args.mem.now c.requires.head c.args.object c.requires.os c.requires.rest
          c.requires.low c.args.now c.requires.top c.requires.can c.requires.few c.requires.moves,
    )

pub returns : goal.returns
returns c = λ k start head os rest low top can few s.
    moved-now k start c.args.mem.now c.copy_record.new.mem c.set_record-2.new.mem head c.args.object os rest low c.args.now top c.record_of-from.result c.count_of-count.result
    (c.get-words.result / 16) can few s c.record_of-from.ensures c.count_of-count.ensures (omega (arith, c.if-count-ge-MOVED.false)) (ap (λ x. x / 16) c.get-words.ensures)
    c.copy_record.ensures.same_len c.copy_record.ensures.copied c.copy_record.ensures.mark c.copy_record.ensures.others c.set_record-2.ensures.writes c.set_record-2.ensures.kept
