use Rattle.std.proofs.lemmas.Result.{err_from_is_err_and}
use Rattle.process_verbs.proofs.Moving.Living.{push-does, push-lacks}
use Rattle.process_verbs.proofs.Steps.{ready-after}
use Rattle.process_verbs.proofs.verbs.Verbs.push.Goals as goal

pub returns-in_err-ask-clause-does : goal.returns-in_err-ask-clause-does
returns-in_err-ask-clause-does g c =
    let p = err_from_is_err_and c.from_residual.result c.from_residual.ensures.1 in
    rw (p.1, p.2) (push-lacks _ _ c.requires.holds _ c.requires.sits c.args.s _ _ c.ask.ensures c.in_err-ask.field-0.0 c.in_err-ask.was)

pub push-requires-clause-ready : goal.push-requires-clause-ready
push-requires-clause-ready g c = ready-after _ _ _ _ _ c.ask.ensures c.requires.holds c.requires.calls

pub returns-clause-does : goal.returns-clause-does
returns-clause-does g c = push-does _ _ c.requires.holds _ c.requires.sits c.args.s _ _ c.ask.ensures c.in_ok-ask.field-0 c.in_ok-ask.was c.push.new.self c.push.ensures
