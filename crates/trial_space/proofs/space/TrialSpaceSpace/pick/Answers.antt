use Rattle.std.proofs.Common.{inl}
use Rattle.script_grammar.specs.declared.command.Command.TheVariants.{Process}
use Rattle.script_grammar.specs.declared.command.Verb.TheVariants.{Choose}
use Rattle.space_api.proofs.Proper.{follows-proper}
use Rattle.trial_space.proofs.States.{pick-refused}
use Rattle.trial_space.proofs.space.TrialSpaceSpace.pick.Goals as goal

pub returns-clause-becomes : goal.returns-clause-becomes
returns-clause-becomes c = λ s terms h has.
    inl (follows-proper s (Process c.args.seat.pid (Choose c.args.r c.args.s c.args.how)) terms c.args.names.now h.1 has tt _ _
    (pick-refused c.args.self.now.alive c.args.self.now.registers s c.args.seat h.0 c.requires.sits c.args.r c.args.s c.args.how terms c.args.names.now))
