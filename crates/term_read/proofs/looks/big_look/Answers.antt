use Rattle.std.proofs.Common.{◌/◌, ◌%◌, get_or, ap, sym, ◌∙◌, arith}
use Rattle.std.proofs.lemmas.Grind.{common_steps}
use Rattle.term_read.proofs.Seen.{object-within, big-words, range-of, sees-one-digit, sees-two-digits}
use Rattle.term_read.proofs.looks.big_look.Goals as goal

pub get-low-requires : goal.get-low-requires
get-low-requires c =
    let (low, high) = range-of c.args.negative (get_or c.args.mem.now c.args.place 0 / 4 % 16) c.requires.subtag in
    omega (
      arith,
      object-within c.args.mem.now c.args.w c.args.place c.requires.term c.requires.pointer.0 c.requires.pointer.1,
      big-words c.args.mem.now c.args.w c.args.place c.requires.term c.requires.pointer.0 c.requires.pointer.1 low high,
    )

pub get-high-requires : goal.get-high-requires
get-high-requires c = omega (
  arith,
  object-within c.args.mem.now c.args.w c.args.place c.requires.term c.requires.pointer.0 c.requires.pointer.1,
  c.get.ensures,
  c.arity_of.ensures,
  c.if-arity_of-eq2.true,
)

pub returns-then-arity_of-eq2 : goal.returns-then-arity_of-eq2
returns-then-arity_of-eq2 c =
    rw (c.get-low.ensures, c.get-high.ensures) (sees-two-digits c.args.mem.now c.args.w c.args.place c.args.negative c.requires.pointer.0 c.requires.pointer.1 c.requires.subtag
    (ap (λ x. x / 64) (sym c.get.ensures) ∙ (sym c.arity_of.ensures ∙ c.if-arity_of-eq2.true)))

pub returns-else-arity_of-eq2 : goal.returns-else-arity_of-eq2
returns-else-arity_of-eq2 c =
    rw c.get-low.ensures (sees-one-digit c.args.mem.now c.args.w c.args.place c.args.negative c.requires.pointer.0 c.requires.pointer.1 c.requires.subtag
    (λ e. c.if-arity_of-eq2.false (c.arity_of.ensures ∙ (ap (λ x. x / 64) c.get.ensures ∙ e))))

pub overflow_add-place : goal.overflow_add-place
overflow_add-place c = grind (arith, common_steps)

pub get-requires : goal.get-requires
get-requires c = grind (arith, common_steps)

pub overflow_add-place-then-arity_of-eq2 : goal.overflow_add-place-then-arity_of-eq2
overflow_add-place-then-arity_of-eq2 c = grind (arith, common_steps)
