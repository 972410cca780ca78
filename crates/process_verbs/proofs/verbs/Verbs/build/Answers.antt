use Rattle.std.proofs.Common.{refl}
use Rattle.std.specs.Vec.{with_items}
use Rattle.process_verbs.proofs.Steps.{ready-after}
use Rattle.process_verbs.proofs.Bringing.Setting.{both-few, none-asks, none-builds, some-asks, some-builds, some-room, stop-asks, stop-builds}
use Rattle.process_verbs.proofs.verbs.Verbs.build.Goals as goal

pub ask-requires-clause-few : goal.ask-requires-clause-few
ask-requires-clause-few g c = both-few _ _ c.requires.term c.count-named.ensures.names.few _ _ c.term_needs-words.ensures.heap c.term_needs-words.ensures.far

pub returns-in_err-ask-clause-builds : goal.returns-in_err-ask-clause-builds
returns-in_err-ask-clause-builds g c =
    none-builds _ _ c.requires.holds _ c.requires.sits c.args.r _ _ c.requires.term c.requires.named c.count-named.ensures.names.few _ _ c.term_needs-words.ensures.heap
    c.term_needs-words.ensures.far _ _ c.ask.ensures c.in_err-ask.field-0.0 c.in_err-ask.was c.from_residual.result c.from_residual.ensures.1

pub returns-in_err-ask-clause-asks : goal.returns-in_err-ask-clause-asks
returns-in_err-ask-clause-asks g c = none-asks _ _ c.requires.holds _ c.requires.sits c.args.r _ _ c.requires.term c.requires.named c.count-named.ensures.names.few _ _ c.term_needs-words.ensures.heap
    c.term_needs-words.ensures.far _ _ c.ask.ensures c.in_err-ask.field-0.0 c.in_err-ask.was c.from_residual.result c.from_residual.ensures.1

pub gain_term-requires-clause-ready : goal.gain_term-requires-clause-ready
gain_term-requires-clause-ready g c = ready-after _ _ _ _ _ c.ask.ensures c.requires.holds c.requires.calls

pub gain_term-requires-clause-room : goal.gain_term-requires-clause-room
gain_term-requires-clause-room g c = some-room _ _ c.requires.holds _ c.requires.sits c.args.r _ _ c.requires.term c.requires.named c.count-named.ensures.names.few _ _ c.term_needs-words.ensures.heap
    c.term_needs-words.ensures.far _ _ c.ask.ensures c.in_ok-ask.field-0 c.in_ok-ask.was

pub returns-in-Ok-clause-builds : goal.returns-in-Ok-clause-builds
returns-in-Ok-clause-builds g c = some-builds _ _ c.requires.holds _ c.requires.sits c.args.r _ _ c.requires.term c.requires.named c.count-named.ensures.names.few _ _ c.term_needs-words.ensures.heap
    c.term_needs-words.ensures.far _ _ c.ask.ensures c.in_ok-ask.field-0 c.in_ok-ask.was c.gain_term.new.self (with_items c.ask.new.self.scratch c.gain_term.new.scratch) refl
    c.in-Ok.bins _ c.count-named.ensures.value c.in-Ok.ensures.gains

pub returns-in-Ok-clause-asks : goal.returns-in-Ok-clause-asks
returns-in-Ok-clause-asks g c = some-asks _ _ c.requires.holds _ c.requires.sits c.args.r _ _ c.requires.term c.requires.named c.count-named.ensures.names.few _ _ c.term_needs-words.ensures.heap
    c.term_needs-words.ensures.far _ _ c.ask.ensures c.in_ok-ask.field-0 c.in_ok-ask.was c.gain_term.new.self (with_items c.ask.new.self.scratch c.gain_term.new.scratch) refl
    c.in-Ok.bins _ c.count-named.ensures.value c.in-Ok.ensures.gains

pub returns-in-Err-clause-builds : goal.returns-in-Err-clause-builds
returns-in-Err-clause-builds g c = stop-builds _ _ c.requires.holds _ c.requires.sits c.args.r _ _ c.requires.term c.requires.named c.count-named.ensures.names.few _ _ c.term_needs-words.ensures.heap
    c.term_needs-words.ensures.far _ _ c.ask.ensures c.in_ok-ask.field-0 c.in_ok-ask.was c.gain_term.new.self (with_items c.ask.new.self.scratch c.gain_term.new.scratch) refl
    c.in-Err.stop c.in-Err.ensures.gains _ c.refusal_of.ensures

pub returns-in-Err-clause-asks : goal.returns-in-Err-clause-asks
returns-in-Err-clause-asks g c = stop-asks _ _ c.requires.holds _ c.requires.sits c.args.r _ _ c.requires.term c.requires.named c.count-named.ensures.names.few _ _ c.term_needs-words.ensures.heap
    c.term_needs-words.ensures.far _ _ c.ask.ensures c.in_ok-ask.field-0 c.in_ok-ask.was c.gain_term.new.self (with_items c.ask.new.self.scratch c.gain_term.new.scratch) refl
    c.in-Err.stop c.in-Err.ensures.gains _ c.refusal_of.ensures
