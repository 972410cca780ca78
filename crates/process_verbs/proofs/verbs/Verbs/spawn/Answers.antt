use Rattle.std.proofs.Common.{arith}
use Rattle.std.proofs.lemmas.Result.{err_from_is_err_and}
use Rattle.process_verbs.proofs.Steps.{ready-after}
use Rattle.process_verbs.proofs.Moving.Living.{spawn-does, spawn-full, spawn-lacks}
use Rattle.process_verbs.proofs.verbs.Verbs.spawn.Goals as goal

pub spawn-requires-clause-ready : goal.spawn-requires-clause-ready
spawn-requires-clause-ready g c = ready-after _ _ _ _ _ c.ask.ensures c.requires.holds c.requires.calls

pub returns-clause-does : goal.returns-clause-does
returns-clause-does g c =
    spawn-does _ _ c.requires.holds (omega (arith, c.count.ensures, c.if-count-ge-MOST_PROCESSES.false)) _ _ c.ask.ensures c.in_ok-ask.field-0 c.in_ok-ask.was c.spawn.new.self c.spawn.ensures

pub returns-then-count-ge-MOST_PROCESSES-clause-does : goal.returns-then-count-ge-MOST_PROCESSES-clause-does
returns-then-count-ge-MOST_PROCESSES-clause-does g c = spawn-full _ _ c.requires.holds (omega (arith, c.count.ensures, c.if-count-ge-MOST_PROCESSES.true))

pub returns-in_err-ask-clause-does : goal.returns-in_err-ask-clause-does
returns-in_err-ask-clause-does g c =
    let p = err_from_is_err_and c.from_residual.result c.from_residual.ensures.1 in
    rw (p.1, p.2) (spawn-lacks _ _ c.requires.holds (omega (arith, c.count.ensures, c.if-count-ge-MOST_PROCESSES.false)) _ _ c.ask.ensures c.in_err-ask.field-0.0 c.in_err-ask.was)
