use Rattle.std.proofs.Common.{[]}
use Rattle.script_grammar.specs.Written.Terms.{end}
use Rattle.process_verbs.proofs.Bringing.Gaining.{has-made, made-does, made-unless, repeat-makes, repeat-refused}
use Rattle.process_verbs.proofs.verbs.Verbs.repeat.Goals as goal

pub returns-then-n-gt-MOST_PLACES-clause-does : goal.returns-then-n-gt-MOST_PLACES-clause-does
returns-then-n-gt-MOST_PLACES-clause-does g c = repeat-refused _ _ c.requires.holds _ c.requires.sits c.args.r c.args.shape c.args.n c.args.s c.if-n-gt-MOST_PLACES.true

pub make-requires-clause-can : goal.make-requires-clause-can
make-requires-clause-can g c =
    λ s o. has-made s _ _ _ _ _ _ (repeat-makes _ _ c.requires.holds _ c.requires.sits c.args.r c.args.shape c.args.n c.args.s c.requires.other c.if-n-gt-MOST_PLACES.false s end [] o)

pub returns-clause-does : goal.returns-clause-does
returns-clause-does g c =
    made-does _ _ c.requires.holds _ c.requires.sits _ _ _ _ c.make.ensures _
    (repeat-makes _ _ c.requires.holds _ c.requires.sits c.args.r c.args.shape c.args.n c.args.s c.requires.other c.if-n-gt-MOST_PLACES.false)

pub returns-clause-asks : goal.returns-clause-asks
returns-clause-asks g c = made-unless _ _ c.requires.holds _ c.requires.sits _ _ _ _ c.make.ensures
