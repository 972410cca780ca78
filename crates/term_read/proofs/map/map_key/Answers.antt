use Rattle.std.proofs.Common.{arith}
use Rattle.std.proofs.lemmas.Grind.{common_steps}
use Rattle.term_words.proofs.ByKind.Inside.{map-inside}
use Rattle.term_read.proofs.Reading.{reads-key, past-key, no-key}
use Rattle.term_read.proofs.map.map_key.Goals as goal

pub returns-in_err-place-clause-reads : goal.returns-in_err-place-clause-reads
returns-in_err-place-clause-reads c = rw c.from_residual.ensures (no-key c.args.mem.now c.args.w c.args.i c.in_err-place.ensures.none)

pub get-requires : goal.get-requires
get-requires c =
    let (tag, place, sub, inside) = c.in_ok-place.ensures.some in
    let (words, keys) = map-inside c.args.mem.now c.args.w c.in_ok-place.place c.requires tag place sub in
    omega (arith, inside, words)

pub get-requires-then-i-get : goal.get-requires-then-i-get
get-requires-then-i-get c =
    let (tag, place, sub, inside) = c.in_ok-place.ensures.some in
    let (words, keys) = map-inside c.args.mem.now c.args.w c.in_ok-place.place c.requires tag place sub in
    omega (arith, keys, c.place_of.ensures, c.get-keys.ensures, c.get.ensures, c.if-i-get.true)

pub returns-then-i-get-clause-reads : goal.returns-then-i-get-clause-reads
returns-then-i-get-clause-reads c =
    let (tag, place, sub, inside) = c.in_ok-place.ensures.some in
    rw c.get-then-i-get.ensures (rw c.place_of.ensures (rw c.get-keys.ensures
    (reads-key c.args.mem.now c.args.w c.in_ok-place.place c.args.i tag place sub (omega (arith, c.get.ensures, c.if-i-get.true)))))

pub returns-else-i-get-clause-reads : goal.returns-else-i-get-clause-reads
returns-else-i-get-clause-reads c =
    let (tag, place, sub, inside) = c.in_ok-place.ensures.some in
    past-key c.args.mem.now c.args.w c.in_ok-place.place c.args.i place (omega (arith, c.get.ensures, c.if-i-get.false))

pub get-keys-requires : goal.get-keys-requires
get-keys-requires c =
    let (tag, place, sub, inside) = c.in_ok-place.ensures.some in
    let (words, keys) = map-inside c.args.mem.now c.args.w c.in_ok-place.place c.requires tag place sub in
    omega (arith, inside, words)

pub overflow_add-place_of-then-i-get : goal.overflow_add-place_of-then-i-get
overflow_add-place_of-then-i-get c =
    let (tag, place, sub, inside) = c.in_ok-place.ensures.some in
    let (words, keys) = map-inside c.args.mem.now c.args.w c.in_ok-place.place c.requires tag place sub in
    omega (arith, keys, c.place_of.ensures, c.get-keys.ensures, c.get.ensures, c.if-i-get.true, c.bounded.ensures)

pub object_at-requires : goal.object_at-requires
object_at-requires c = grind (arith, common_steps)

pub returns-in_err-place-clause-word : goal.returns-in_err-place-clause-word
returns-in_err-place-clause-word c = grind (arith, common_steps)

pub overflow_add-place : goal.overflow_add-place
overflow_add-place c = grind (arith, common_steps)

pub overflow_add-place-then-i-get : goal.overflow_add-place-then-i-get
overflow_add-place-then-i-get c = grind (arith, common_steps)

pub overflow_add-place_of : goal.overflow_add-place_of
overflow_add-place_of c = grind (arith, common_steps)

pub returns-then-i-get-clause-word : goal.returns-then-i-get-clause-word
returns-then-i-get-clause-word c = grind (arith, common_steps)

pub returns-else-i-get-clause-word : goal.returns-else-i-get-clause-word
returns-else-i-get-clause-word c = grind (arith, common_steps)
