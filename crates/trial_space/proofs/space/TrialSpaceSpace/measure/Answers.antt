use Rattle.std.proofs.Common.{ap, ◌∙◌}
use Rattle.plain_term.specs.Measures.{flat}
use Rattle.trial_space.specs.Items.{alone}
use Rattle.trial_space.proofs.States.{flat-told, nodes-told}
use Rattle.trial_space.proofs.space.TrialSpaceSpace.measure.Goals as goal

pub returns-clause-flat : goal.returns-clause-flat
returns-clause-flat c = λ s terms names h.
    flat-told c.args.self.now.alive c.args.self.now.registers s c.args.seat h.0 c.requires.sits c.args.s terms names c.flat_alone-flat.result
    (c.flat_alone-flat.ensures ∙ ap (λ x. flat (alone x)) c.item.ensures)

pub returns-clause-nodes : goal.returns-clause-nodes
returns-clause-nodes c = λ s q h e. nodes-told c.args.self.now.alive c.args.self.now.registers s c.args.seat h.0 c.requires.sits c.args.s q e
