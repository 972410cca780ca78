use Rattle.std.proofs.Common.{arith}
use Rattle.term_words.proofs.ByKind.Inside.{cons-inside}
use Rattle.term_read.proofs.Pointers.{list-kind, list-near}
use Rattle.term_read.proofs.object.cons_at.Goals as goal

pub returns-in-ListAt-clause-some : goal.returns-in-ListAt-clause-some
returns-in-ListAt-clause-some c =
    let (tag, place) = list-kind c.args.w c.in-ListAt.place c.kind_of.result c.kind_of.ensures.exact c.in-ListAt.is in
    (tag, place, omega (arith, cons-inside c.args.mem.now c.args.w c.requires tag))

pub returns-in_default : goal.returns-in_default
returns-in_default c = record {
  some = tt;
  none = λ tag. c.in_default.not-ListAt _ (c.kind_of.ensures.list tag (list-near c.args.mem.now c.args.w c.requires c.bounded.ensures tag));
}
