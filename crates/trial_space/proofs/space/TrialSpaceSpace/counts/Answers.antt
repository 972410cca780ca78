use Rattle.trial_space.proofs.States.{none-counted}
use Rattle.trial_space.proofs.space.TrialSpaceSpace.counts.Goals as goal

pub returns-clause-allowed : goal.returns-clause-allowed
returns-clause-allowed g c = λ s h e. none-counted c.args.self.now.alive c.args.self.now.registers s h.0
