use Rattle.std.proofs.Common.{arith}
use Rattle.std.proofs.lemmas.Result.{err_from_is_err_and}
use Rattle.process_verbs.proofs.Telling.{is-term}
use Rattle.process_verbs.proofs.Steps.{ready-after}
use Rattle.process_verbs.proofs.Moving.Sending.{Heard, big-asks, can-send, dead-asks, dead-does, deaf-asks, lacks-asks, send-big, send-deaf, send-lacks, sent-asks, sent-does, size-few}
use Rattle.process_verbs.proofs.verbs.Verbs.send.Goals as goal
use Rattle.process_verbs.proofs.verbs.Verbs.send.Goals.{After-word}
use Rattle.process_verbs.proofs.verbs.Verbs.send.Given.{Over}

-- The number that the operand names, and the word that was read.
abbrev heard-of : (g : Over) (c : After-word g) → Heard g.H.Heaps.meaning c.args.self.now c.requires.holds c.args.seat c.requires.sits c.args.s c.args.to
heard-of g c = record { number = c.in-Some.number; hears = c.in-Some.ensures; word = c.word.result; held = c.word.ensures; mem = c.mem.result.now; same = c.mem.ensures }

pub returns-in_default-clause-does : goal.returns-in_default-clause-does
returns-in_default-clause-does g c = send-deaf _ _ c.requires.holds _ c.requires.sits c.args.s c.args.to c.in_default.ensures

pub returns-in_default-clause-asks : goal.returns-in_default-clause-asks
returns-in_default-clause-asks g c = deaf-asks _ _ c.requires.holds _ c.requires.sits c.args.s c.args.to c.in_default.ensures

pub measure-requires : goal.measure-requires
measure-requires g c = let h = c.requires.holds in is-term _ _ h.state h.stands _ _ _ (c.word.ensures h.state h.stands) _ c.mem.ensures

pub returns-in_default-measure-clause-does : goal.returns-in_default-measure-clause-does
returns-in_default-measure-clause-does g c = send-big _ _ _ _ _ _ _ (heard-of g (goal.at.returns-in_default-measure-clause-does g c).After-word) c.in_default-measure.ensures

pub returns-in_default-measure-clause-asks : goal.returns-in_default-measure-clause-asks
returns-in_default-measure-clause-asks g c = big-asks _ _ _ _ _ _ _ (heard-of g (goal.at.returns-in_default-measure-clause-asks g c).After-word) c.in_default-measure.ensures

pub returns-in_default-find-clause-does : goal.returns-in_default-find-clause-does
returns-in_default-find-clause-does g c =
    dead-does _ _ _ _ _ _ _ (heard-of g (goal.at.returns-in_default-find-clause-does g c).After-word) c.in-Within.size c.in-Within.ensures c.in_default-find.ensures.among

pub returns-in_default-find-clause-asks : goal.returns-in_default-find-clause-asks
returns-in_default-find-clause-asks g c =
    dead-asks _ _ _ _ _ _ _ (heard-of g (goal.at.returns-in_default-find-clause-asks g c).After-word) c.in-Within.size c.in-Within.ensures c.in_default-find.ensures.among

pub ask-requires-clause-few : goal.ask-requires-clause-few
ask-requires-clause-few g c = omega (arith, size-few _ _ _ _ _ _ _ (heard-of g (goal.at.ask-requires-clause-few g c).After-word) c.in-Within.size c.in-Within.ensures)

pub returns-in_err-ask-clause-does : goal.returns-in_err-ask-clause-does
returns-in_err-ask-clause-does g c =
    let p = err_from_is_err_and c.from_residual.result c.from_residual.ensures.1 in
    rw (p.1, p.2) (send-lacks _ _ _ _ _ _ _ (heard-of g (goal.at.returns-in_err-ask-clause-does g c).After-word) c.in-Within.size c.in-Within.ensures c.in-Some-find.row c.in-Some-find.ensures.place
    c.in-Some-find.ensures.among _ _ c.ask.ensures c.in_err-ask.field-0.0 c.in_err-ask.was)

pub returns-in_err-ask-clause-asks : goal.returns-in_err-ask-clause-asks
returns-in_err-ask-clause-asks g c = λ s q o found.
    let p = err_from_is_err_and c.from_residual.result c.from_residual.ensures.1 in
    rw (p.1, p.2) (lacks-asks _ _ _ _ _ _ _ (heard-of g (goal.at.returns-in_err-ask-clause-asks g c).After-word) c.in-Within.size c.in-Within.ensures c.in-Some-find.row c.in-Some-find.ensures.place
    c.in-Some-find.ensures.among _ _ c.ask.ensures c.in_err-ask.field-0.0 c.in_err-ask.was s q o found)

pub send-requires-clause-ready : goal.send-requires-clause-ready
send-requires-clause-ready g c = ready-after _ _ _ _ _ c.ask.ensures c.requires.holds c.requires.calls

pub send-requires-clause-can : goal.send-requires-clause-can
send-requires-clause-can g c =
    can-send _ _ _ _ _ _ _ (heard-of g (goal.at.send-requires-clause-can g c).After-word) c.in-Within.size c.in-Within.ensures c.in-Some-find.row c.in-Some-find.ensures.place
    c.in-Some-find.ensures.among _ _ c.ask.ensures c.in_ok-ask.field-0 c.in_ok-ask.was _ c.word-w.ensures

pub returns-clause-does : goal.returns-clause-does
returns-clause-does g c = sent-does _ _ _ _ _ _ _ (heard-of g (goal.at.returns-clause-does g c).After-word) c.in-Within.size c.in-Within.ensures c.in-Some-find.row c.in-Some-find.ensures.place
    c.in-Some-find.ensures.among _ _ c.ask.ensures c.in_ok-ask.field-0 c.in_ok-ask.was _ c.word-w.ensures c.send.new.self c.send.ensures

pub returns-clause-asks : goal.returns-clause-asks
returns-clause-asks g c = sent-asks _ _ _ _ _ _ _ (heard-of g (goal.at.returns-clause-asks g c).After-word) c.in-Within.size c.in-Within.ensures c.in-Some-find.row c.in-Some-find.ensures.place
    c.in-Some-find.ensures.among _ _ c.ask.ensures c.in_ok-ask.field-0 c.in_ok-ask.was _ c.word-w.ensures c.send.new.self c.send.ensures
