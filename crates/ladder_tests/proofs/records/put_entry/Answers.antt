use Rattle.std.proofs.Common.{◌+◌, arith}
use Rattle.term_words.specs.Role.{outside}
use Rattle.term_build.proofs.Rooms.{room-taken}
use Rattle.shared_rec.specs.Record.{record_roles}
use Rattle.ladder_tests.proofs.records.put_entry.Goals as goal

pub returns-clause-kept : goal.returns-clause-kept
returns-clause-kept c =
    c.write_fun.ensures.kept (outside c.args.room.now.top c.args.room.now.end) (outside (c.args.room.now.top + 4) c.args.room.now.end)
    (room-taken record_roles 4 c.args.room.now.top c.args.room.now.end (omega (arith, c.requires.spare)))

pub returns-clause-record_is : goal.returns-clause-record_is
returns-clause-record_is c =
    c.write_fun.ensures.made (outside c.args.room.now.top c.args.room.now.end) (outside (c.args.room.now.top + 4) c.args.room.now.end)
    (room-taken record_roles 4 c.args.room.now.top c.args.room.now.end (omega (arith, c.requires.spare)))
