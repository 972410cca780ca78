use Rattle.std.proofs.Common.{◌∙◌}
use Rattle.process_verbs.proofs.Processes.{lives}
use Rattle.process_verbs.proofs.over.OverSpace.find.Goals as goal

pub returns-in-Some-clause-lives : goal.returns-in-Some-clause-lives
returns-in-Some-clause-lives g c = λ s h. c.in-Some.ensures.among ∙ lives g.H.Heaps.meaning c.self.inside.verbs s (rw c.self.view_is h.0) c.args.pid

pub returns-in-None-clause-lives : goal.returns-in-None-clause-lives
returns-in-None-clause-lives g c = λ s h. c.in-None.ensures.among ∙ lives g.H.Heaps.meaning c.self.inside.verbs s (rw c.self.view_is h.0) c.args.pid
