use Rattle.std.proofs.Common.{Option, ap, subst}
use Rattle.term_verbs.specs.Cut.{IsCut}
use Rattle.term_verbs.specs.declared.cut.Cut.{Cut}
use Rattle.term_verbs.proofs.Cutting.{cut-seen, cut_in}
use Rattle.term_verbs.proofs.cut.cut_of.Goals as goal

pub returns-in-Part-clause-cut : goal.returns-in-Part-clause-cut
returns-in-Part-clause-cut c = λ k shared t s.
    let P : Option Cut → Type 0 = λ z. IsCut k shared c.args.mem.now t z in
    subst P (ap (cut_in c.args.w) c.in-Part.is) (cut-seen k shared c.args.mem.now c.args.w t c.look_at.result s (c.look_at.ensures.tree.each k shared t s))
