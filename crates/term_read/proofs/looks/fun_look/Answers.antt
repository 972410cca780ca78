use Rattle.std.proofs.Common.{arith}
use Rattle.term_words.proofs.ByKind.Inside.{fun-inside}
use Rattle.term_read.proofs.Seen.{object-within, fun-record-inside, sees-fun}
use Rattle.term_read.proofs.looks.fun_look.Goals as goal

pub get-record-requires : goal.get-record-requires
get-record-requires c =
    omega (
      arith,
      object-within c.args.mem.now c.args.w c.args.place c.requires.term c.requires.pointer.0 c.requires.pointer.1,
      fun-inside c.args.mem.now c.args.w c.args.place c.requires.term c.requires.pointer.0 c.requires.pointer.1 c.requires.subtag,
    )

pub overflow_add-record : goal.overflow_add-record
overflow_add-record c =
    omega (arith, fun-record-inside c.args.mem.now c.args.w c.args.place c.requires.term c.requires.pointer.0 c.requires.pointer.1 c.requires.subtag, c.get-record.ensures, c.bounded.ensures)

pub get-requires : goal.get-requires
get-requires c = omega (arith, fun-record-inside c.args.mem.now c.args.w c.args.place c.requires.term c.requires.pointer.0 c.requires.pointer.1 c.requires.subtag, c.get-record.ensures)

pub get-requires-2 : goal.get-requires-2
get-requires-2 c =
    omega (
      arith,
      object-within c.args.mem.now c.args.w c.args.place c.requires.term c.requires.pointer.0 c.requires.pointer.1,
      fun-inside c.args.mem.now c.args.w c.args.place c.requires.term c.requires.pointer.0 c.requires.pointer.1 c.requires.subtag,
    )

pub get-requires-3 : goal.get-requires-3
get-requires-3 c =
    omega (
      arith,
      object-within c.args.mem.now c.args.w c.args.place c.requires.term c.requires.pointer.0 c.requires.pointer.1,
      fun-inside c.args.mem.now c.args.w c.args.place c.requires.term c.requires.pointer.0 c.requires.pointer.1 c.requires.subtag,
    )

pub get-requires-4 : goal.get-requires-4
get-requires-4 c =
    omega (
      arith,
      object-within c.args.mem.now c.args.w c.args.place c.requires.term c.requires.pointer.0 c.requires.pointer.1,
      fun-inside c.args.mem.now c.args.w c.args.place c.requires.term c.requires.pointer.0 c.requires.pointer.1 c.requires.subtag,
    )

pub returns : goal.returns
returns c =
    rw (
      c.get.ensures,
      c.get-record.ensures,
      c.get-2.ensures,
      c.get-3.ensures,
      c.get-4.ensures,
    ) (sees-fun c.args.mem.now c.args.w c.args.place c.requires.pointer.0 c.requires.pointer.1 c.requires.subtag)
