use Rattle.std.proofs.Common.{◌+◌, List, subst, arith}
use Rattle.plain_term.specs.Tree.{Tree}
use Rattle.term_words.specs.Role.{always}
use Rattle.term_build.specs.Grows.{Built}
use Rattle.term_verbs.proofs.Cutting.{part-fits, part-there}
use Rattle.term_verbs.proofs.cut.sub_part.Goals as goal

pub overflow_add-cut : goal.overflow_add-cut
overflow_add-cut c =
    let fits = part-fits always c.requires.part.shared c.args.mem.now c.requires.part.tree c.in-Some.cut c.args.offset c.args.len
    (c.in-Some.ensures.cut always c.requires.part.shared c.requires.part.tree c.requires.part.standing) c.requires.part.has in
    omega (arith, c.in-Some.ensures.small c.args.offset (omega (arith, fits)))

pub returns-clause-built : goal.returns-clause-built
returns-clause-built c = λ k shared t u free s e.
    let p = part-there k shared c.args.mem.now t u c.in-Some.cut c.args.offset c.args.len (c.in-Some.ensures.cut k shared t s) e in
    let P : Tree → Type 0 = λ z. Built k c.args.room.now.top 5 c.args.mem.now c.sub_bin.new.mem shared c.sub_bin.result z in
    subst P p.is (c.sub_bin.ensures.built k shared p.base free p.whole p.inside p.standing)
