use Rattle.process_verbs.proofs.Steps.{ready-after}
use Rattle.process_verbs.proofs.Bringing.Gaining.{make-can, make-done, make-refused}
use Rattle.process_verbs.proofs.verbs.Verbs.make.Goals as goal

pub returns-in_err-ask : goal.returns-in_err-ask
returns-in_err-ask g c = make-refused _ _ c.requires.holds _ c.requires.sits c.args.r c.args.make c.requires.can _ c.words_to_make.ensures _ _ c.ask.ensures
    c.in_err-ask.field-0.0 c.in_err-ask.was c.from_residual.result c.from_residual.ensures.1

pub gain-requires-clause-ready : goal.gain-requires-clause-ready
gain-requires-clause-ready g c = ready-after _ _ _ _ _ c.ask.ensures c.requires.holds c.requires.calls

pub gain-requires-clause-can : goal.gain-requires-clause-can
gain-requires-clause-can g c = make-can _ _ c.requires.holds _ c.requires.sits c.args.r c.args.make c.requires.can _ c.words_to_make.ensures _ _ c.ask.ensures

pub returns : goal.returns
returns g c =
    make-done _ _ c.requires.holds _ c.requires.sits c.args.r c.args.make c.requires.can _ c.words_to_make.ensures _ _ c.ask.ensures c.in_ok-ask.field-0 c.in_ok-ask.was c.gain.new.self c.gain.ensures
