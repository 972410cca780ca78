use Rattle.script_grammar.specs.declared.command.Command.TheVariants.{Process}
use Rattle.script_grammar.specs.declared.command.Verb.TheVariants.{Gc}
use Rattle.space_api.proofs.Proper.{passes-proper}
use Rattle.trial_space.proofs.States.{gc-passes}
use Rattle.trial_space.proofs.space.TrialSpaceSpace.collect.Goals as goal

pub returns-clause-passes : goal.returns-clause-passes
returns-clause-passes c = λ s terms names h has.
    passes-proper s (Process c.args.seat.pid (Gc c.args.depth)) terms names h.1 has tt _
    (gc-passes c.args.self.now.alive c.args.self.now.registers s c.args.seat h.0 c.requires.sits c.args.depth terms names)
