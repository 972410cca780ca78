use Rattle.process_verbs.proofs.Steps.{ready}
use Rattle.process_verbs.proofs.Moving.Living.{sweep-does}
use Rattle.process_verbs.proofs.verbs.Verbs.sweep_all.Goals as goal

pub sweep_all-requires : goal.sweep_all-requires
sweep_all-requires g c = record { ready = ready _ c.args.self.now c.requires.holds c.requires.calls }

pub returns-clause-does : goal.returns-clause-does
returns-clause-does g c = sweep-does _ c.args.self.now c.requires.holds c.sweep_all.new.self c.sweep_all.ensures.rows
