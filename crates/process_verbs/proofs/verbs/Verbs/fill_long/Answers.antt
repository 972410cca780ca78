use Rattle.std.proofs.Common.{arith}
use Rattle.process_verbs.proofs.Steps.{ready-after}
use Rattle.process_verbs.proofs.Bringing.Gaining.{long-does, long-lacks}
use Rattle.process_verbs.proofs.verbs.Verbs.fill_long.Goals as goal

pub returns-in_err-ask-clause-does : goal.returns-in_err-ask-clause-does
returns-in_err-ask-clause-does g c = long-lacks _ _ c.requires.holds _ c.requires.sits c.args.r c.args.len c.args.byte c.requires.long c.requires.most (omega (arith, c.ranges.byte)) _ _ c.ask.ensures
    c.in_err-ask.field-0.0 c.in_err-ask.was c.from_residual.result c.from_residual.ensures.1

pub gain_bin-requires-clause-ready : goal.gain_bin-requires-clause-ready
gain_bin-requires-clause-ready g c = ready-after _ _ _ _ _ c.ask.ensures c.requires.holds c.requires.calls

pub returns-clause-does : goal.returns-clause-does
returns-clause-does g c = long-does _ _ c.requires.holds _ c.requires.sits c.args.r c.args.len c.args.byte c.requires.long c.requires.most (omega (arith, c.ranges.byte)) _ _ c.ask.ensures
    c.in_ok-ask.field-0 c.in_ok-ask.was c.gain_bin.new.self c.gain_bin.ensures
