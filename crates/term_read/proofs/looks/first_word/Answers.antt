use Rattle.std.proofs.Common.{◌≡◌, ◌/◌, get_or, arith}
use Rattle.std.proofs.lemmas.Grind.{common_steps}
use Rattle.term_read.proofs.Binaries.{has-heap_first, has-holder_first, record-inside, has-no_first}
use Rattle.term_words.proofs.ByKind.Inside.{binary-inside}
use Rattle.term_read.proofs.looks.first_word.Goals as goal

pub returns-in-Some : goal.returns-in-Some
returns-in-Some c =
    let (tag, place, sub, inside) = c.in-Some.ensures.some in
    has-heap_first c.args.mem.now c.args.w c.in-Some.place tag place sub

pub returns-in_err-place : goal.returns-in_err-place
returns-in_err-place c = rw c.from_residual.ensures (has-no_first c.args.mem.now c.args.w c.in_default.ensures.none c.in_err-place.ensures.none)

pub get-requires : goal.get-requires
get-requires c =
    let (tag, place, sub, inside) = c.in_ok-place.ensures.some in
    let (some, holder, part) = binary-inside c.args.mem.now c.args.w c.in_ok-place.place 8 c.requires tag place sub (omega arith) (omega arith) in
    let words : get_or c.args.mem.now c.in_ok-place.place 0 / 64 ≡ 5 = holder (omega arith) in
    omega (arith, inside, words)

pub overflow_add-result-2 : goal.overflow_add-result-2
overflow_add-result-2 c =
    let (tag, place, sub, inside) = c.in_ok-place.ensures.some in
    omega (arith, record-inside c.args.mem.now c.args.w c.in_ok-place.place c.requires tag place sub, c.get.ensures, c.bounded.ensures)

pub returns : goal.returns
returns c =
    let (tag, place, sub, inside) = c.in_ok-place.ensures.some in
    rw c.get.ensures (has-holder_first c.args.mem.now c.args.w c.in_ok-place.place tag place sub)

pub object_at-requires : goal.object_at-requires
object_at-requires c = grind (arith, common_steps)

pub overflow_add-result : goal.overflow_add-result
overflow_add-result c = grind (arith, common_steps)

pub object_at-requires-2 : goal.object_at-requires-2
object_at-requires-2 c = grind (arith, common_steps)

pub overflow_add-place : goal.overflow_add-place
overflow_add-place c = grind (arith, common_steps)
