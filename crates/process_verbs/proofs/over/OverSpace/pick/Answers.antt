use Rattle.process_verbs.proofs.Spaces.{does-by-so, does-so}
use Rattle.process_verbs.proofs.over.OverSpace.pick.Goals as goal

pub returns-in-Part-clause-becomes : goal.returns-in-Part-clause-becomes
returns-in-Part-clause-becomes g c = rw c.in-Part.is (λ s terms h has. does-so c.self.view_is (λ terms names. tt) c.cut.ensures.does s terms c.args.names.now h has)

pub returns-in_default-clause-becomes : goal.returns-in_default-clause-becomes
returns-in_default-clause-becomes g c = does-by-so c.self.view_is (λ terms names. tt) c.pick.ensures.does
