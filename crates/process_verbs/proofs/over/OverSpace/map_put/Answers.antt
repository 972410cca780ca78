use Rattle.process_verbs.proofs.Spaces.{does-by-so}
use Rattle.process_verbs.proofs.over.OverSpace.map_put.Goals as goal

pub returns-clause-becomes : goal.returns-clause-becomes
returns-clause-becomes g c = does-by-so c.self.view_is (λ terms names. tt) c.map_put.ensures.does
