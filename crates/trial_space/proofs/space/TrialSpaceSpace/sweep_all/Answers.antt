use Rattle.script_grammar.specs.declared.command.Command.TheVariants.{System}
use Rattle.script_grammar.specs.declared.command.SysVerb.TheVariants.{Sweep}
use Rattle.space_api.proofs.Proper.{passes-proper}
use Rattle.trial_space.specs.Items.{TrialStands}
use Rattle.trial_space.proofs.space.TrialSpaceSpace.sweep_all.Goals as goal

pub returns-clause-passes : goal.returns-clause-passes
returns-clause-passes c = λ s terms names h has.
    passes-proper s (System Sweep) terms names h.1 has tt (TrialStands c.args.self.now.alive c.args.self.now.registers)
    (record { processes = h.0.processes; next = h.0.next; shared = h.0.shared; areas = h.0.areas })
