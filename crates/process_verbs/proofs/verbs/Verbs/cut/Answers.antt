use Rattle.std.proofs.Common.{[]}
use Rattle.script_grammar.specs.Written.Terms.{end}
use Rattle.process_verbs.proofs.Bringing.Gaining.{cut-makes, cut-refused, has-made, made-does, made-unless, word-term}
use Rattle.process_verbs.proofs.verbs.Verbs.cut.Goals as goal

pub has_part-requires : goal.has_part-requires
has_part-requires g c = word-term _ _ c.requires.holds _ c.requires.sits c.args.s _ c.word.ensures _ c.mem.ensures

pub returns-then-not-has_part-clause-does : goal.returns-then-not-has_part-clause-does
returns-then-not-has_part-clause-does g c =
    cut-refused _ _ c.requires.holds _ c.requires.sits c.args.s _ c.word.ensures _ c.mem.ensures c.args.r c.args.offset c.args.len _ c.has_part.ensures c.if-not-has_part.true

pub make-requires-clause-can : goal.make-requires-clause-can
make-requires-clause-can g c = λ s o.
    has-made s _ _ _ _ _ _
    (cut-makes _ _ c.requires.holds _ c.requires.sits c.args.s _ c.word.ensures _ c.mem.ensures c.args.r c.args.offset c.args.len _ c.has_part.ensures c.requires.other c.if-not-has_part.false s end []
    o)

pub returns-clause-does : goal.returns-clause-does
returns-clause-does g c =
    made-does _ _ c.requires.holds _ c.requires.sits _ _ _ _ c.make.ensures _
    (cut-makes _ _ c.requires.holds _ c.requires.sits c.args.s _ c.word.ensures _ c.mem.ensures c.args.r c.args.offset c.args.len _ c.has_part.ensures c.requires.other c.if-not-has_part.false)

pub returns-clause-asks : goal.returns-clause-asks
returns-clause-asks g c = made-unless _ _ c.requires.holds _ c.requires.sits _ _ _ _ c.make.ensures
