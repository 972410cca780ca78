use Rattle.std.proofs.Common.{arith}
use Rattle.std.proofs.lemmas.Grind.{common_steps}
use Rattle.term_words.proofs.ByKind.Inside.{fun-inside}
use Rattle.term_read.proofs.Reading.{reads-env, past-env, no-env}
use Rattle.term_read.proofs.fun_thing.fun_env.Goals as goal

pub returns-in_err-place-clause-reads : goal.returns-in_err-place-clause-reads
returns-in_err-place-clause-reads c = rw c.from_residual.ensures (no-env c.args.mem.now c.args.w c.args.i c.in_err-place.ensures.none)

pub get-places-requires : goal.get-places-requires
get-places-requires c =
    let (tag, place, sub, inside) = c.in_ok-place.ensures.some in
    omega (arith, inside, fun-inside c.args.mem.now c.args.w c.in_ok-place.place c.requires tag place sub)

pub overflow_add-place-then-i-places-2 : goal.overflow_add-place-then-i-places-2
overflow_add-place-then-i-places-2 c =
    let (tag, place, sub, inside) = c.in_ok-place.ensures.some in
    omega (arith, inside, fun-inside c.args.mem.now c.args.w c.in_ok-place.place c.requires tag place sub, c.get-places.ensures, c.if-i-places.true, c.bounded.ensures)

pub get-requires : goal.get-requires
get-requires c =
    let (tag, place, sub, inside) = c.in_ok-place.ensures.some in
    omega (arith, inside, fun-inside c.args.mem.now c.args.w c.in_ok-place.place c.requires tag place sub, c.get-places.ensures, c.if-i-places.true)

pub returns-then-i-places-clause-reads : goal.returns-then-i-places-clause-reads
returns-then-i-places-clause-reads c =
    let (tag, place, sub, inside) = c.in_ok-place.ensures.some in
    rw c.get.ensures (reads-env c.args.mem.now c.args.w c.in_ok-place.place c.args.i tag place sub c.if-i-ge1.true (omega (arith, c.get-places.ensures, c.if-i-places.true)))

pub returns-else-i-ge1-clause-reads : goal.returns-else-i-ge1-clause-reads
returns-else-i-ge1-clause-reads c =
    let (tag, place, sub, inside) = c.in_ok-place.ensures.some in
    past-env c.args.mem.now c.args.w c.in_ok-place.place c.args.i place (λ low. omega (arith, c.get-places.ensures, c.else-i-ge1.either))

pub object_at-requires : goal.object_at-requires
object_at-requires c = grind (arith, common_steps)

pub returns-in_err-place-clause-word : goal.returns-in_err-place-clause-word
returns-in_err-place-clause-word c = grind (arith, common_steps)

pub overflow_add-place : goal.overflow_add-place
overflow_add-place c = grind (arith, common_steps)

pub overflow_add-place-then-i-places : goal.overflow_add-place-then-i-places
overflow_add-place-then-i-places c = grind (arith, common_steps)

pub returns-then-i-places-clause-word : goal.returns-then-i-places-clause-word
returns-then-i-places-clause-word c = grind (arith, common_steps)

pub returns-else-i-ge1-clause-word : goal.returns-else-i-ge1-clause-word
returns-else-i-ge1-clause-word c = grind (arith, common_steps)
