use Rattle.std.proofs.Common.{◌≡◌, ◌∙◌, sym}
use Rattle.off_heap_list.specs.Links.{named}
use Rattle.off_heap_list.specs.Swept.{count_less}
use Rattle.off_heap_list.proofs.Walked.Sweeping.{moved-by, left-by, freed-zero, freed-more, last-keeps, last-relinked, next-step-moved, next-step-left, next-step-last, next-since-moved, next-since-left, next-since-last}
use Rattle.off_heap_list.proofs.sweep.sweep_next.Goals as goal

pub returns-then-is_boxed-clause-goes_on : goal.returns-then-is_boxed-clause-goes_on
returns-then-is_boxed-clause-goes_on c = λ k p os to kept ends further single s.
    let is = moved-by c.args.mem.now c.args.sweep.now.rest c.get-word.result c.get-word.ensures (c.is_boxed.ensures.yes c.if-is_boxed.true) in
    let same : c.sweep_one-swept.new.mem ≡ c.args.mem.now = (c.sweep_one-swept.ensures.moved is).3 in
    rw (c.set_next.ensures.writes, c.place_of-place.ensures, same, c.sweep_one-swept.ensures.next, c.get-word.ensures)
    (next-step-moved k c.args.mem.now c.args.sweep.now.rest p os to c.args.sweep.now.first kept c.args.sweep.now.last ends further s single is)

pub returns-then-is_boxed-clause-since : goal.returns-then-is_boxed-clause-since
returns-then-is_boxed-clause-since c = λ k p os to kept ends further start single s b.
    let is = moved-by c.args.mem.now c.args.sweep.now.rest c.get-word.result c.get-word.ensures (c.is_boxed.ensures.yes c.if-is_boxed.true) in
    let same : c.sweep_one-swept.new.mem ≡ c.args.mem.now = (c.sweep_one-swept.ensures.moved is).3 in
    rw (c.set_next.ensures.writes, c.place_of-place.ensures, same, c.get-word.ensures)
    (next-since-moved k c.args.mem.now c.args.sweep.now.rest p os to c.args.sweep.now.first kept c.args.sweep.now.last ends further s single is start b)

pub returns-then-is_some-clause-writes : goal.returns-then-is_some-clause-writes
returns-then-is_some-clause-writes c = λ k o.
    let is = left-by c.args.mem.now c.args.sweep.now.rest c.get-word.result c.get-word.ensures (c.is_boxed.ensures.no c.if-is_boxed.false) in
    rw (c.set_next-then-is_some.ensures.writes, (c.sweep_one-swept.ensures.left is).3) (last-relinked k c.args.mem.now c.args.sweep.now.rest c.args.sweep.now.last is o)

pub returns-then-is_some-clause-kept : goal.returns-then-is_some-clause-kept
returns-then-is_some-clause-kept c = λ k single o.
    let is = left-by c.args.mem.now c.args.sweep.now.rest c.get-word.result c.get-word.ensures (c.is_boxed.ensures.no c.if-is_boxed.false) in
    rw (c.set_next-then-is_some.ensures.writes, (c.sweep_one-swept.ensures.left is).3) (last-keeps k c.args.mem.now c.args.sweep.now.rest c.args.sweep.now.last single is o)

pub returns-then-is_some-clause-goes_on : goal.returns-then-is_some-clause-goes_on
returns-then-is_some-clause-goes_on c = λ k p os to kept ends further single s.
    let is = left-by c.args.mem.now c.args.sweep.now.rest c.get-word.result c.get-word.ensures (c.is_boxed.ensures.no c.if-is_boxed.false) in
    let zero = freed-zero c.sweep_one-swept.result.freed (named c.args.mem.now c.args.sweep.now.rest) (count_less c.args.mem.now c.args.sweep.now.rest) (c.sweep_one-swept.ensures.left is).1
    (sym c.is_some.ensures ∙ c.if-is_some.true) in
    rw (c.set_next-then-is_some.ensures.writes, (c.sweep_one-swept.ensures.left is).3, c.sweep_one-swept.ensures.next)
    (next-step-last k c.args.mem.now c.args.sweep.now.rest p os to c.args.sweep.now.first kept c.args.sweep.now.last ends further s single is zero)

pub returns-then-is_some-clause-since : goal.returns-then-is_some-clause-since
returns-then-is_some-clause-since c = λ k p os to kept ends further start single s b.
    let is = left-by c.args.mem.now c.args.sweep.now.rest c.get-word.result c.get-word.ensures (c.is_boxed.ensures.no c.if-is_boxed.false) in
    let zero = freed-zero c.sweep_one-swept.result.freed (named c.args.mem.now c.args.sweep.now.rest) (count_less c.args.mem.now c.args.sweep.now.rest) (c.sweep_one-swept.ensures.left is).1
    (sym c.is_some.ensures ∙ c.if-is_some.true) in
    rw (c.set_next-then-is_some.ensures.writes, (c.sweep_one-swept.ensures.left is).3)
    (next-since-last k c.args.mem.now c.args.sweep.now.rest p os to c.args.sweep.now.first kept c.args.sweep.now.last ends further s single is zero start b)

pub returns-else-is_some-clause-goes_on : goal.returns-else-is_some-clause-goes_on
returns-else-is_some-clause-goes_on c = λ k p os to kept ends further single s.
    let is = left-by c.args.mem.now c.args.sweep.now.rest c.get-word.result c.get-word.ensures (c.is_boxed.ensures.no c.if-is_boxed.false) in
    let some = freed-more c.sweep_one-swept.result.freed (named c.args.mem.now c.args.sweep.now.rest) (count_less c.args.mem.now c.args.sweep.now.rest) (c.sweep_one-swept.ensures.left is).1
    (sym c.is_some.ensures ∙ c.if-is_some.false) in
    rw ((c.sweep_one-swept.ensures.left is).3, c.sweep_one-swept.ensures.next)
    (next-step-left k c.args.mem.now c.args.sweep.now.rest p os to c.args.sweep.now.first kept c.args.sweep.now.last ends further s single is some)

pub returns-else-is_some-clause-since : goal.returns-else-is_some-clause-since
returns-else-is_some-clause-since c = λ k p os to kept ends further start single s b.
    let is = left-by c.args.mem.now c.args.sweep.now.rest c.get-word.result c.get-word.ensures (c.is_boxed.ensures.no c.if-is_boxed.false) in
    let some = freed-more c.sweep_one-swept.result.freed (named c.args.mem.now c.args.sweep.now.rest) (count_less c.args.mem.now c.args.sweep.now.rest) (c.sweep_one-swept.ensures.left is).1
    (sym c.is_some.ensures ∙ c.if-is_some.false) in
    rw ((c.sweep_one-swept.ensures.left is).3)
    (next-since-left k c.args.mem.now c.args.sweep.now.rest p os to c.args.sweep.now.first kept c.args.sweep.now.last ends further s single is some start b)
