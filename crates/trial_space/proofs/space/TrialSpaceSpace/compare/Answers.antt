use Rattle.std.proofs.Common.{refl}
use Rattle.script_grammar.specs.declared.command.Verb.TheVariants.{Eq, Cmp}
use Rattle.plain_machine.specs.Step.{eq_text, cmp_text}
use Rattle.trial_space.proofs.States.{order-told}
use Rattle.trial_space.proofs.space.TrialSpaceSpace.compare.Goals as goal

pub returns-clause-equal : goal.returns-clause-equal
returns-clause-equal c = λ s terms h. order-told c.args.self.now.alive c.args.self.now.registers s c.args.seat h.0 c.requires.sits c.args.a c.args.b (Eq c.args.a c.args.b) eq_text terms
    c.args.names.now c.item.result c.item-2.result c.item_order.result refl c.item.ensures c.item-2.ensures c.item_order.ensures

pub returns-clause-order : goal.returns-clause-order
returns-clause-order c = λ s terms h. order-told c.args.self.now.alive c.args.self.now.registers s c.args.seat h.0 c.requires.sits c.args.a c.args.b (Cmp c.args.a c.args.b) cmp_text terms
    c.args.names.now c.item.result c.item-2.result c.item_order.result refl c.item.ensures c.item-2.ensures c.item_order.ensures
