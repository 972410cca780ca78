use Rattle.script_grammar.specs.declared.command.Command.TheVariants.{Process}
use Rattle.script_grammar.specs.declared.command.Verb.TheVariants.{Own}
use Rattle.space_api.proofs.Proper.{passes-proper}
use Rattle.trial_space.proofs.States.{own-passes}
use Rattle.trial_space.proofs.space.TrialSpaceSpace.own_pid.Goals as goal

pub returns-clause-passes : goal.returns-clause-passes
returns-clause-passes c = λ s terms names h has.
    passes-proper s (Process c.args.seat.pid (Own c.args.r)) terms names h.1 has tt _
    (own-passes c.args.self.now.alive c.args.self.now.registers s c.args.seat h.0 c.requires.sits c.args.r terms names)
