use Rattle.std.proofs.Common.{arith}
use Rattle.std.proofs.lemmas.Grind.{common_steps}
use Rattle.term_read.proofs.Reading.{reads-element, past-element, no-element}
use Rattle.term_read.proofs.tuple.element.Goals as goal

pub returns-in_err-place-clause-reads : goal.returns-in_err-place-clause-reads
returns-in_err-place-clause-reads c = rw c.from_residual.ensures (no-element c.args.mem.now c.args.w c.args.i c.in_err-place.ensures.none)

pub returns-then-i-parts-clause-reads : goal.returns-then-i-parts-clause-reads
returns-then-i-parts-clause-reads c =
    let (tag, place, sub, inside) = c.in_ok-place.ensures.some in
    rw c.get.ensures (reads-element c.args.mem.now c.args.w c.in_ok-place.place c.args.i tag place sub c.if-i-ge1.true
    (omega (arith, c.arity_of-parts.ensures, c.get-header.ensures, c.if-i-parts.true)))

pub returns-else-i-ge1-clause-reads : goal.returns-else-i-ge1-clause-reads
returns-else-i-ge1-clause-reads c =
    let (tag, place, sub, inside) = c.in_ok-place.ensures.some in
    past-element c.args.mem.now c.args.w c.in_ok-place.place c.args.i place (λ low. omega (arith, c.arity_of-parts.ensures, c.get-header.ensures, c.else-i-ge1.either))

pub object_at-requires : goal.object_at-requires
object_at-requires c = grind (arith, common_steps)

pub returns-in_err-place-clause-word : goal.returns-in_err-place-clause-word
returns-in_err-place-clause-word c = grind (arith, common_steps)

pub get-header-requires : goal.get-header-requires
get-header-requires c = grind (arith, common_steps)

pub overflow_add-place : goal.overflow_add-place
overflow_add-place c = grind (arith, common_steps)

pub get-requires : goal.get-requires
get-requires c = grind (arith, common_steps)

pub returns-then-i-parts-clause-word : goal.returns-then-i-parts-clause-word
returns-then-i-parts-clause-word c = grind (arith, common_steps)

pub returns-else-i-ge1-clause-word : goal.returns-else-i-ge1-clause-word
returns-else-i-ge1-clause-word c = grind (arith, common_steps)
