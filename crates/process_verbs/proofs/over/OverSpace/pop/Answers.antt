use Rattle.process_verbs.proofs.Spaces.{at-once-so}
use Rattle.process_verbs.proofs.over.OverSpace.pop.Goals as goal

pub returns-clause-follows : goal.returns-clause-follows
returns-clause-follows g c = at-once-so c.self.view_is (λ terms names. tt) c.pop.ensures.does
