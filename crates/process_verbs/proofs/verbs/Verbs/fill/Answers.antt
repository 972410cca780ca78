use Rattle.std.proofs.Common.{[]}
use Rattle.script_grammar.specs.Written.Terms.{end}
use Rattle.process_verbs.proofs.Bringing.Gaining.{fill-byte-refused, fill-long-refused, fill-makes, has-made, made-does, made-unless, want-short}
use Rattle.process_verbs.proofs.verbs.Verbs.fill.Goals as goal

pub returns-then-len-gt-MOST_FILL-clause-does : goal.returns-then-len-gt-MOST_FILL-clause-does
returns-then-len-gt-MOST_FILL-clause-does g c = fill-long-refused _ _ c.requires.holds _ c.requires.sits c.args.r c.args.len c.args.byte c.if-len-gt-MOST_FILL.true

pub returns-then-byte-gt-MOST_BYTE-clause-does : goal.returns-then-byte-gt-MOST_BYTE-clause-does
returns-then-byte-gt-MOST_BYTE-clause-does g c = fill-byte-refused _ _ c.requires.holds _ c.requires.sits c.args.r c.args.len c.args.byte c.if-byte-gt-MOST_BYTE.true

pub make-requires-clause-can : goal.make-requires-clause-can
make-requires-clause-can g c = λ s o.
    has-made s _ _ _ _ _ _ (fill-makes _ _ c.requires.holds _ c.requires.sits c.args.r c.args.len c.args.byte c.if-len-le-MOST_HEAP_BYTES.true c.if-byte-gt-MOST_BYTE.false s end [] o)

pub returns-then-len-le-MOST_HEAP_BYTES-clause-does : goal.returns-then-len-le-MOST_HEAP_BYTES-clause-does
returns-then-len-le-MOST_HEAP_BYTES-clause-does g c =
    made-does _ _ c.requires.holds _ c.requires.sits _ _ _ _ c.make.ensures _
    (fill-makes _ _ c.requires.holds _ c.requires.sits c.args.r c.args.len c.args.byte c.if-len-le-MOST_HEAP_BYTES.true c.if-byte-gt-MOST_BYTE.false)

pub returns-then-len-le-MOST_HEAP_BYTES-clause-asks : goal.returns-then-len-le-MOST_HEAP_BYTES-clause-asks
returns-then-len-le-MOST_HEAP_BYTES-clause-asks g c =
    rw (want-short _ _ c.requires.holds _ c.requires.sits c.args.r c.args.seat.row c.args.len c.if-len-le-MOST_HEAP_BYTES.true)
    (made-unless _ _ c.requires.holds _ c.requires.sits _ _ _ _ c.make.ensures)
