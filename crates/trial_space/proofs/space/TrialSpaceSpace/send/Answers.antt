use Rattle.std.proofs.Common.{inl, sym, ◌∙◌}
use Rattle.script_grammar.specs.declared.command.Command.TheVariants.{Process}
use Rattle.script_grammar.specs.declared.command.Verb.TheVariants.{Send}
use Rattle.space_api.proofs.Proper.{follows-proper}
use Rattle.trial_space.proofs.States.{send-lost}
use Rattle.trial_space.proofs.space.TrialSpaceSpace.send.Goals as goal

pub returns-clause-becomes : goal.returns-clause-becomes
returns-clause-becomes c = λ s terms names h has.
    inl (follows-proper s (Process c.args.seat.pid (Send c.args.s c.args.to)) terms names h.1 has tt _ _
    (send-lost c.args.self.now.alive c.args.self.now.registers s c.args.seat h.0 c.requires.sits c.args.s c.args.to c.in-Some.n terms names
    (sym c.receiver.ensures ∙ c.in-Some.is) c.if-n-seat.false))
