use Rattle.process_verbs.proofs.Spaces.{does-so}
use Rattle.process_verbs.proofs.over.OverSpace.spawn.Goals as goal

pub returns-clause-becomes : goal.returns-clause-becomes
returns-clause-becomes g c = does-so c.self.view_is (λ terms names. tt) c.spawn.ensures.does
