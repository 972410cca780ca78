use Rattle.off_heap_list.proofs.Chaining.Chained.{holder-link, fun-link}
use Rattle.off_heap_list.proofs.laws.holders_and_funs_are_links.Goals as goal

pub returns-clause-holder : goal.returns-clause-holder
returns-clause-holder c = holder-link

pub returns-clause-fun : goal.returns-clause-fun
returns-clause-fun c = fun-link
