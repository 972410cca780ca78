use Rattle.std.proofs.Common.{◌+◌, ap, arith}
use Rattle.plain_term.specs.Measures.{bin_words}
use Rattle.term_words.specs.Role.{outside}
use Rattle.term_build.proofs.Rooms.{room-taken}
use Rattle.shared_rec.specs.Record.{record_roles, length_in}
use Rattle.ladder_tests.proofs.Rolls.{size-in, filled, twice-kept}
use Rattle.ladder_tests.proofs.records.put_roll.Goals as goal

pub fill-requires-clause-bytes : goal.fill-requires-clause-bytes
fill-requires-clause-bytes c =
    omega (arith, size-in _ c.args.room.now.top _ _ c.args.len _ c.write_bin.ensures.words, c.requires.spare, c.requires.few, c.requires.place.inside, c.write_bin.ensures.writes.same_len)

pub returns-clause-kept : goal.returns-clause-kept
returns-clause-kept c =
    twice-kept c.args.room.now.top (bin_words c.args.len) (bin_words (length_in c.write_bin.new.mem c.args.room.now.top)) c.args.room.now.end _ _ _ c.write_bin.ensures.writes
    c.fill.ensures.writes (ap bin_words (size-in _ c.args.room.now.top _ _ c.args.len _ c.write_bin.ensures.words)) (omega (arith, c.requires.spare, c.requires.few))

pub returns-clause-record_is : goal.returns-clause-record_is
returns-clause-record_is c =
    filled (outside (c.args.room.now.top + (4 + bin_words c.args.len)) c.args.room.now.end) _ _ c.args.room.now.top c.args.id c.args.len c.args.byte
    (λ d serial bytes m. c.fill.ensures.made d serial bytes m)
    (c.write_bin.ensures.made (outside c.args.room.now.top c.args.room.now.end) (outside (c.args.room.now.top + (4 + bin_words c.args.len)) c.args.room.now.end)
    (room-taken record_roles (4 + bin_words c.args.len) c.args.room.now.top c.args.room.now.end (omega (arith, c.requires.spare, c.requires.few))))
