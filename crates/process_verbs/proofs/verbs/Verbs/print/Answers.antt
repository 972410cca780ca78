use Rattle.std.proofs.Common.{refl, sym, false}
use Rattle.term_words.specs.Role.{always}
use Rattle.process_verbs.proofs.Telling.{can-begin, can-print, is-term, prints-all, prints-big, prints-part, standing}
use Rattle.process_verbs.proofs.verbs.Verbs.print.Goals as goal

pub print_short-requires : goal.print_short-requires
print_short-requires g c = can-begin _ _ c.requires.holds.state c.requires.holds.stands _ _ _ (c.word-w.ensures c.requires.holds.state c.requires.holds.stands) _ c.mem-mem.ensures
    c.args.names.now c.requires.named

pub returns-in-Ok-clause-prints : goal.returns-in-Ok-clause-prints
returns-in-Ok-clause-prints g c = λ s terms o.
    prints-all _ _ s o _ _ _ (c.word-w.ensures s o) _ c.mem-mem.ensures false (λ k shared t st. sym (c.in-Some.ensures.within k shared t st)) g.K.Sink.wrote _ _ terms _ refl
    (λ k shared t st. (rw c.in-Ok.is at (c.in-Some.ensures.puts k shared t st)).all)

pub returns-in-Err-clause-prints : goal.returns-in-Err-clause-prints
returns-in-Err-clause-prints g c = λ s terms o.
    prints-part _ _ s o _ _ _ (c.word-w.ensures s o) _ c.mem-mem.ensures false (λ k shared t st. sym (c.in-Some.ensures.within k shared t st)) g.K.Sink.wrote _ _ terms _ refl
    (λ k shared t st. (rw c.in-Err.is at (c.in-Some.ensures.puts k shared t st)).part)

pub returns-in-Ok-clause-later : goal.returns-in-Ok-clause-later
returns-in-Ok-clause-later g c = (rw c.in-Ok.is at (c.in-Some.ensures.puts always _ _
    (standing _ _ c.requires.holds.state c.requires.holds.stands _ _ _ (c.word-w.ensures c.requires.holds.state c.requires.holds.stands) _ c.mem-mem.ensures))).later

pub returns-in-Ok-clause-told : goal.returns-in-Ok-clause-told
returns-in-Ok-clause-told g c = (rw c.in-Ok.is at (c.in-Some.ensures.puts always _ _
    (standing _ _ c.requires.holds.state c.requires.holds.stands _ _ _ (c.word-w.ensures c.requires.holds.state c.requires.holds.stands) _ c.mem-mem.ensures))).told

pub returns-in-Err-clause-later : goal.returns-in-Err-clause-later
returns-in-Err-clause-later g c = (rw c.in-Err.is at (c.in-Some.ensures.puts always _ _
    (standing _ _ c.requires.holds.state c.requires.holds.stands _ _ _ (c.word-w.ensures c.requires.holds.state c.requires.holds.stands) _ c.mem-mem.ensures))).later

pub returns-in-Err-clause-rose : goal.returns-in-Err-clause-rose
returns-in-Err-clause-rose g c = λ e. (rw c.in-Err.is at (c.in-Some.ensures.puts always _ _
    (standing _ _ c.requires.holds.state c.requires.holds.stands _ _ _ (c.word-w.ensures c.requires.holds.state c.requires.holds.stands) _ c.mem-mem.ensures))).rose

pub is_beyond-requires : goal.is_beyond-requires
is_beyond-requires g c = is-term _ _ c.requires.holds.state c.requires.holds.stands _ _ _ (c.word-w.ensures c.requires.holds.state c.requires.holds.stands) _ c.mem-mem.ensures

pub returns-then-is_beyond-clause-prints : goal.returns-then-is_beyond-clause-prints
returns-then-is_beyond-clause-prints g c = λ s terms o. rw c.in_default.ensures.none
    (prints-big _ _ s o _ _ _ (c.word-w.ensures s o) _ c.mem-mem.ensures _ c.is_beyond.ensures g.K.Sink.wrote c.args.sink.now c.args.sink.now terms c.args.names.now c.if-is_beyond.true)

pub print-requires : goal.print-requires
print-requires g c =
    can-print _ _ c.requires.holds.state c.requires.holds.stands _ _ _ (c.word-w.ensures c.requires.holds.state c.requires.holds.stands) _ c.mem-mem.ensures _ c.is_beyond.ensures
    c.args.names.now c.requires.named c.if-is_beyond.false

pub returns-in-Ok-print-clause-prints : goal.returns-in-Ok-print-clause-prints
returns-in-Ok-print-clause-prints g c = λ s terms o.
    prints-all _ _ s o _ _ _ (c.word-w.ensures s o) _ c.mem-mem.ensures _ c.is_beyond.ensures g.K.Sink.wrote _ _ terms _ c.if-is_beyond.false
    (λ k shared t st. rw c.in_default.ensures.none at (c.in-Ok-print.ensures.puts k shared t st))

pub returns-in-Err-print-clause-prints : goal.returns-in-Err-print-clause-prints
returns-in-Err-print-clause-prints g c = λ s terms o.
    prints-part _ _ s o _ _ _ (c.word-w.ensures s o) _ c.mem-mem.ensures _ c.is_beyond.ensures g.K.Sink.wrote _ _ terms _ c.if-is_beyond.false
    (λ k shared t st. rw c.in_default.ensures.none at (c.in-Err-print.ensures.puts k shared t st))
