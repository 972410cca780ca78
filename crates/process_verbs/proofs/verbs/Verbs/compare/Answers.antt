use Rattle.std.proofs.Common.{refl}
use Rattle.script_grammar.specs.declared.command.Verb.TheVariants as verb
use Rattle.plain_machine.specs.Step.{eq_text, cmp_text}
use Rattle.process_verbs.proofs.Telling.{are-named, order-told}
use Rattle.process_verbs.proofs.verbs.Verbs.compare.Goals as goal

pub compare-requires : goal.compare-requires
compare-requires g c =
    let h = c.requires.holds in
    are-named _ _ h.state h.stands _ _ _ _ _ (c.word-first.ensures h.state h.stands) (c.word-second.ensures h.state h.stands) _ c.mem.ensures c.args.names.now c.requires.named

pub returns-clause-equal : goal.returns-clause-equal
returns-clause-equal g c = λ s terms o.
    order-told _ _ s o _ _ _ _ _ (c.word-first.ensures s o) (c.word-second.ensures s o) _ c.mem.ensures (verb.Eq c.args.a c.args.b) eq_text terms _ _ _ refl c.compare.ensures c.told_order.ensures

pub returns-clause-order : goal.returns-clause-order
returns-clause-order g c = λ s terms o.
    order-told _ _ s o _ _ _ _ _ (c.word-first.ensures s o) (c.word-second.ensures s o) _ c.mem.ensures (verb.Cmp c.args.a c.args.b) cmp_text terms _ _ _ refl c.compare.ensures c.told_order.ensures
