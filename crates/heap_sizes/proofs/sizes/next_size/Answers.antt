use Rattle.std.proofs.Common.{ℕ, ◌+◌, ◌*◌, ◌<◌, ◌≤◌, refl, sym, arith, below_more, subst}
use Rattle.std.proofs.lemmas.Bool.{false≢true}
use Rattle.heap_sizes.specs.Sizes.{heap_size, IsNextSize}
use Rattle.heap_sizes.proofs.Table.{table-at, rising-to, next-is, next-double, first, last}
use Rattle.heap_sizes.proofs.sizes.next_size.Goals as goal

pub returns-then-n-size-clause-next : goal.returns-then-n-size-clause-next
returns-then-n-size-clause-next c =
    let at = table-at c.loop-size.size-index c.loop-size-test.true in
    let enough : c.args.n ≤ heap_size c.loop-size.size-index = omega (arith, at, c.if-n-size.true) in
    let P : ℕ → Type 0 = λ s. IsNextSize c.args.n s in
    subst P (sym at) (next-is c.args.n c.loop-size.size-index c.loop-size-test.true c.loop-size.invariant enough)

pub returns-then-n-size-clause-none : goal.returns-then-n-size-clause-none
returns-then-n-size-clause-none c =
    let at = table-at c.loop-size.size-index c.loop-size-test.true in
    let up = rising-to c.loop-size.size-index 38 (omega (arith, c.loop-size-test.true)) (omega arith) in
    (λ _. omega (arith, at, c.if-n-size.true, up, last), λ _. refl)

pub returns-then-n-size-clause-bounds : goal.returns-then-n-size-clause-bounds
returns-then-n-size-clause-bounds c =
    let at = table-at c.loop-size.size-index c.loop-size-test.true in
    let up = rising-to c.loop-size.size-index 38 (omega (arith, c.loop-size-test.true)) (omega arith) in
    let down = rising-to 0 c.loop-size.size-index (omega arith) c.loop-size-test.true in
    (omega (arith, at, down, first), omega (arith, at, up, last))

pub returns-then-n-size-clause-double : goal.returns-then-n-size-clause-double
returns-then-n-size-clause-double c =
    let at = table-at c.loop-size.size-index c.loop-size-test.true in
    let P : ℕ → Type 0 = λ s. s ≤ 2 * c.args.n + 12 in
    subst P (sym at) (next-double c.args.n c.loop-size.size-index c.loop-size-test.true c.loop-size.invariant)

pub loop-size-preserved : goal.loop-size-preserved
loop-size-preserved c =
    let at = table-at c.loop-size.size-index c.loop-size-test.true in
    below_more (λ k. heap_size k < c.args.n) c.loop-size.size-index c.loop-size.invariant (omega (arith, at, c.if-n-size.false))

pub returns-clause-none : goal.returns-clause-none
returns-clause-none c =
    let end : heap_size 38 < c.args.n = c.loop-size.invariant 38 (omega (arith, c.loop-size-test.false)) in
    (λ e. absurd (false≢true e), λ h. absurd (omega (arith, end, last, h)))
