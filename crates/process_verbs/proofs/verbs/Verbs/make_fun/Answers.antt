use Rattle.std.proofs.Common.{refl, ap, arith}
use Rattle.std.specs.Vec.{with_items}
use Rattle.std.specs.Prelude.{slice_index}
use Rattle.process_verbs.proofs.Steps.{ready-after}
use Rattle.process_verbs.proofs.Bringing.Gaining.{pid-below}
use Rattle.process_verbs.proofs.Bringing.Setting.{fun-done, fun-holds, fun-lacks, fun-refused}
use Rattle.process_verbs.proofs.verbs.Verbs.make_fun.Goals as goal

pub returns-then-arity-gt-MOST_ARITY-clause-becomes : goal.returns-then-arity-gt-MOST_ARITY-clause-becomes
returns-then-arity-gt-MOST_ARITY-clause-becomes g c = fun-refused _ _ c.requires.holds _ c.requires.sits c.args.r c.args.name c.args.arity c.args.env.now c.if-arity-gt-MOST_ARITY.true

pub returns-in_err-ask-clause-becomes : goal.returns-in_err-ask-clause-becomes
returns-in_err-ask-clause-becomes g c = fun-lacks _ _ c.requires.holds _ c.requires.sits c.args.r c.args.name c.args.arity c.args.env.now c.if-arity-gt-MOST_ARITY.false _ _ c.ask.ensures
    c.in_err-ask.field-0.0 c.in_err-ask.was c.from_residual.result c.from_residual.ensures.1

pub gain_fun-requires-clause-ready : goal.gain_fun-requires-clause-ready
gain_fun-requires-clause-ready g c = ready-after _ _ _ _ _ c.ask.ensures c.requires.holds c.requires.calls

pub gain_fun-requires-clause-number : goal.gain_fun-requires-clause-number
gain_fun-requires-clause-number g c =
    let old = ap (λ b. slice_index (g.H.Heaps.meaning.numbers b.heaps) c.args.seat.row) c.ask.ensures.same in
    let rows = ap (λ ns. slice_index ns c.args.seat.row) c.ask.ensures.looks.stays.rows in
    omega (arith, old, rows, c.requires.sits.number, pid-below _ _ c.requires.holds _ c.requires.sits c.args.r, c.requires.calls)

pub returns-clause-becomes : goal.returns-clause-becomes
returns-clause-becomes g c = fun-done _ _ c.requires.holds _ c.requires.sits c.args.r c.args.name c.args.arity c.args.env.now c.if-arity-gt-MOST_ARITY.false _ _ c.ask.ensures
    c.in_ok-ask.field-0 c.in_ok-ask.was c.gain_fun.new.self c.gain_fun.ensures.gains (with_items c.ask.new.self.scratch c.gain_fun.new.scratch) refl _ c.above-self.ensures

pub returns-clause-holds : goal.returns-clause-holds
returns-clause-holds g c = fun-holds _ _ c.requires.holds _ c.requires.sits c.args.r c.args.name c.args.arity c.args.env.now c.if-arity-gt-MOST_ARITY.false _ _ c.ask.ensures
    c.in_ok-ask.field-0 c.in_ok-ask.was c.gain_fun.new.self c.gain_fun.ensures.gains (with_items c.ask.new.self.scratch c.gain_fun.new.scratch) refl _ c.above-self.ensures c.requires.env
