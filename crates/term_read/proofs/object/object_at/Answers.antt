use Rattle.std.proofs.Common.{arith, ◌+◌, ◌/◌, ◌≤◌, ℕ, length, get_or, subst, sym, ◌∙◌, ap, ◌%◌}
use Rattle.term_words.proofs.ByKind.Inside.{boxed-inside}
use Rattle.term_read.proofs.Pointers.{boxed-kind, boxed-near}
use Rattle.term_read.proofs.object.object_at.Goals as goal

pub get-requires : goal.get-requires
get-requires c =
    let (tag, place) = boxed-kind c.args.w c.in-BoxedAt.place c.kind_of.result c.kind_of.ensures.exact c.in-BoxedAt.is in
    omega (arith, boxed-inside c.args.mem.now c.args.w c.requires tag)

pub returns-then-subtag_of-subtag-clause-some : goal.returns-then-subtag_of-subtag-clause-some
returns-then-subtag_of-subtag-clause-some c =
    let (tag, place) = boxed-kind c.args.w c.in-BoxedAt.place c.kind_of.result c.kind_of.ensures.exact c.in-BoxedAt.is in
    let P : ℕ → Type 0 = λ x. x + (1 + get_or c.args.mem.now x 0 / 64) ≤ length c.args.mem.now in
    (tag, place, ap (λ x. x / 4 % 16) (sym c.get.ensures) ∙ (sym c.subtag_of.ensures ∙ c.if-subtag_of-subtag.true), subst P (sym place) (boxed-inside c.args.mem.now c.args.w c.requires tag))

pub returns-in_default : goal.returns-in_default
returns-in_default c = record {
  some = tt;
  none = λ tag sub. c.in_default.not-BoxedAt _ (c.kind_of.ensures.boxed tag (boxed-near c.args.mem.now c.args.w c.requires c.bounded.ensures tag));
}
