use Rattle.std.proofs.Common.{◌≡◌, ◌/◌, get_or, arith}
use Rattle.term_words.proofs.ByKind.Inside.{binary-inside}
use Rattle.term_read.proofs.Binaries.{base-term}
use Rattle.term_read.proofs.Seen.{object-within, sees-part, whole-there}
use Rattle.term_read.proofs.looks.part_look.Goals as goal

pub get-base-requires : goal.get-base-requires
get-base-requires c =
    let (some, holder, part) = binary-inside c.args.mem.now c.args.w c.args.place 10 c.requires.term c.requires.pointer.0 c.requires.pointer.1 c.requires.subtag (omega arith) (omega arith) in
    let words : get_or c.args.mem.now c.args.place 0 / 64 ≡ 4 = part (omega arith) in
    omega (arith, object-within c.args.mem.now c.args.w c.args.place c.requires.term c.requires.pointer.0 c.requires.pointer.1, words)

pub first_word-requires : goal.first_word-requires
first_word-requires c = rw c.get-base.ensures (base-term c.args.mem.now c.args.w c.args.place c.requires.term c.requires.pointer.0 c.requires.pointer.1 c.requires.subtag)

pub unreachable-requires : goal.unreachable-requires
unreachable-requires c = whole-there c.args.mem.now c.args.w c.args.place c.requires.term c.requires.pointer.0 c.requires.pointer.1 c.requires.subtag (rw (← c.get-base.ensures) c.in_default.ensures)

pub get-requires : goal.get-requires
get-requires c =
    let (some, holder, part) = binary-inside c.args.mem.now c.args.w c.args.place 10 c.requires.term c.requires.pointer.0 c.requires.pointer.1 c.requires.subtag (omega arith) (omega arith) in
    let words : get_or c.args.mem.now c.args.place 0 / 64 ≡ 4 = part (omega arith) in
    omega (arith, object-within c.args.mem.now c.args.w c.args.place c.requires.term c.requires.pointer.0 c.requires.pointer.1, words)

pub get-requires-2 : goal.get-requires-2
get-requires-2 c =
    let (some, holder, part) = binary-inside c.args.mem.now c.args.w c.args.place 10 c.requires.term c.requires.pointer.0 c.requires.pointer.1 c.requires.subtag (omega arith) (omega arith) in
    omega (arith, object-within c.args.mem.now c.args.w c.args.place c.requires.term c.requires.pointer.0 c.requires.pointer.1, some)

pub returns : goal.returns
returns c =
    rw (c.get.ensures, c.get-2.ensures, c.get-base.ensures) (sees-part c.args.mem.now c.args.w c.args.place c.in-Some.first c.requires.pointer.0 c.requires.pointer.1 c.requires.subtag
    (rw (← c.get-base.ensures) c.in-Some.ensures))
