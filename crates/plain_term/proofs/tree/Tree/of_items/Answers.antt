use Rattle.plain_term.proofs.WrittenLemmas.{no-more, no-front}
use Rattle.plain_term.proofs.tree.Tree.of_items.Goals as goal

pub returns-else-is_empty : goal.returns-else-is_empty
returns-else-is_empty c =
    let read = c.in-Some.ensures in
    λ t spells. no-more c.args.items.now read.term t c.in-Some.rest.now read.begins spells c.if-is_empty.ensures

pub returns-in-None : goal.returns-in-None
returns-in-None c = no-front c.args.items.now c.in-None.ensures
