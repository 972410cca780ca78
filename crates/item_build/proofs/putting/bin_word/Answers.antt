use Rattle.std.proofs.Common.{take, lt-ltb}
use Rattle.item_build.proofs.Turned.Makes.{long-word, short-word}
use Rattle.item_build.proofs.putting.bin_word.Goals as goal

pub boxed_at-requires : goal.boxed_at-requires
boxed_at-requires c = c.requires.holder (lt-ltb 64 c.args.n c.if-n-gt-MOST_HEAP_BYTES.true)

pub returns-then-n-gt-MOST_HEAP_BYTES-clause-built : goal.returns-then-n-gt-MOST_HEAP_BYTES-clause-built
returns-then-n-gt-MOST_HEAP_BYTES-clause-built c = λ k shared free holder.
    long-word k c.args.room.now c.args.mem.now shared c.boxed_at.result c.args.bin c.args.n c.args.rest.now c.if-n-gt-MOST_HEAP_BYTES.true c.boxed_at.ensures holder

pub returns-clause-built : goal.returns-clause-built
returns-clause-built c = λ k shared free holder.
    short-word k c.args.room.now c.heap_bin.new.room c.args.mem.now c.heap_bin.new.mem shared c.heap_bin.result c.args.n c.args.rest.now (take c.args.n c.first_bytes-bytes.result)
    c.if-n-gt-MOST_HEAP_BYTES.false c.requires.bytes c.first_bytes-bytes.ensures c.heap_bin.ensures.uses (λ f. c.heap_bin.ensures.built k shared f) free
