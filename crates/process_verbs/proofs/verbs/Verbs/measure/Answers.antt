use Rattle.process_verbs.proofs.Telling.{flat-told, is-term, nodes-told}
use Rattle.process_verbs.proofs.verbs.Verbs.measure.Goals as goal

pub measure-requires : goal.measure-requires
measure-requires g c = let h = c.requires.holds in is-term _ _ h.state h.stands _ _ _ (c.word.ensures h.state h.stands) _ c.mem.ensures

pub returns-clause-flat : goal.returns-clause-flat
returns-clause-flat g c = λ s terms names o. flat-told _ _ s o _ _ _ (c.word.ensures s o) _ c.mem.ensures terms names _ _ c.measure.ensures c.told_measure.ensures

pub returns-clause-nodes : goal.returns-clause-nodes
returns-clause-nodes g c = λ s q o e. nodes-told _ _ s o _ _ _ (c.word.ensures s o) _ c.mem.ensures q _ _ e c.measure.ensures c.told_measure.ensures
