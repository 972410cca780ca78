use Rattle.process_verbs.proofs.Spaces.{always-so}
use Rattle.process_verbs.proofs.over.OverSpace.own_pid.Goals as goal

pub returns-clause-passes : goal.returns-clause-passes
returns-clause-passes g c = always-so c.self.view_is (λ terms names. tt) c.own_pid.ensures.does
