use Rattle.std.proofs.Common.{refl, sym, ◌∙◌, arith, subst}
use Rattle.engine.specs.Acts.{leaving}
use Rattle.engine.specs.Rules.{Rules}
use Rattle.engine.specs.Serving.{Going, Served, TellsRead}
use Rattle.engine.proofs.Turns.{going-none, same-rules, source_from, sink_from}
use Rattle.engine.proofs.serving.serve.Goals as goal

pub loop-status-init : goal.loop-status-init
loop-status-init g c = record {
  going = λ first h. going-none g.K.Sink.wrote g.K.Sink.faults _ _ _ _ _ (c.requires.new.fresh _) h;
  no_fault = c.requires.new.no_fault;
  read_told = refl;
  words = refl;
  calls = omega (arith, c.requires.new.whole);
  named = c.requires.named;
  limits = refl;
}

pub returns-in-Stop-clause-served : goal.returns-in-Stop-clause-served
returns-in-Stop-clause-served g c = λ first h.
    let kept = c.loop-status.invariant in
    let past : Rules → Type 0 = λ r. Going r (source_from (g.T.Source.left c.args.source.now) (g.T.Source.left c.loop-status.source))
    (sink_from g.K.Sink.wrote g.K.Sink.faults c.args.sink.now c.loop-status.sink) c.loop-status.reader
    (leaving (g.S.Space.stands c.loop-status.m.space) (g.S.Space.text c.loop-status.m.space) c.loop-status.m.names) in
    let ends : Rules → Type 0 = λ r. Served r (source_from (g.T.Source.left c.args.source.now) (g.T.Source.left c.take_turn.new.source))
    (sink_from g.K.Sink.wrote g.K.Sink.faults c.args.sink.now c.take_turn.new.sink)
    (leaving (g.S.Space.stands c.take_turn.new.m.space) (g.S.Space.text c.take_turn.new.m.space) c.take_turn.new.m.names) c.in-Stop.status in
    same-rules ends _ _ first _ _ kept.words kept.limits
    (c.in-Stop.ensures.turns first _ _ (same-rules past _ _ first _ _ (sym kept.words) (sym kept.limits) (kept.going first h)))

pub take_turn-requires : goal.take_turn-requires
take_turn-requires g c = record {
  calls = omega (arith, c.loop-status.invariant.calls, c.requires.calls);
  named = c.loop-status.invariant.named;
  no_fault = c.loop-status.invariant.no_fault;
}

pub returns-in-Stop-clause-calls : goal.returns-in-Stop-clause-calls
returns-in-Stop-clause-calls g c = omega (arith, c.loop-status.invariant.calls, c.take_turn.ensures.calls)

pub returns-in-Stop-clause-told : goal.returns-in-Stop-clause-told
returns-in-Stop-clause-told g c = subst (λ n. TellsRead c.in-Stop.status n (g.T.Source.faults c.take_turn.new.source)) c.loop-status.invariant.read_told c.in-Stop.ensures.told

pub returns-in-Stop-clause-read_later : goal.returns-in-Stop-clause-read_later
returns-in-Stop-clause-read_later g c = omega (arith, c.loop-status.invariant.read_told, c.take_turn.ensures.read_later)

pub loop-status-preserved : goal.loop-status-preserved
loop-status-preserved g c =
    let kept = c.loop-status.invariant in
    let past : Rules → Type 0 = λ r. Going r (source_from (g.T.Source.left c.args.source.now) (g.T.Source.left c.loop-status.source))
    (sink_from g.K.Sink.wrote g.K.Sink.faults c.args.sink.now c.loop-status.sink) c.loop-status.reader
    (leaving (g.S.Space.stands c.loop-status.m.space) (g.S.Space.text c.loop-status.m.space) c.loop-status.m.names) in
    let next : Rules → Type 0 = λ r. Going r (source_from (g.T.Source.left c.args.source.now) (g.T.Source.left c.take_turn.new.source))
    (sink_from g.K.Sink.wrote g.K.Sink.faults c.args.sink.now c.take_turn.new.sink) c.take_turn.new.reader
    (leaving (g.S.Space.stands c.take_turn.new.m.space) (g.S.Space.text c.take_turn.new.m.space) c.take_turn.new.m.names) in
    record {
      going = λ first h. same-rules next _ _ first _ _ kept.words kept.limits
          (c.in_default.ensures.turns first _ _ (same-rules past _ _ first _ _ (sym kept.words) (sym kept.limits) (kept.going first h)));
      no_fault = (c.take_turn.ensures.going c.in_default.is).0;
      read_told = c.in_default.ensures.told ∙ kept.read_told;
      words = c.take_turn.ensures.words ∙ kept.words;
      calls = omega (arith, kept.calls, c.take_turn.ensures.calls);
      named = c.take_turn.ensures.named;
      limits = c.take_turn.ensures.limits ∙ kept.limits;
    }
