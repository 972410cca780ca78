use Rattle.std.proofs.Common.{sym, ap, refl, subst, arith, [], ◌∷◌}
use Rattle.line_io.specs.Lines.{text, long}
use Rattle.line_io.specs.declared.reader.LineGot.TheVariants.{Line as GotLine, Long as GotLong, End, TooMuch}
use Rattle.line_io.specs.Reader.{lines_in}
use Rattle.script_grammar.specs.ReadAs.{IsRead}
use Rattle.engine.specs.Last.{SaysNothing}
use Rattle.engine.proofs.Lasting.{quits-print}
use Rattle.engine.proofs.Turns.{text-same, turn-line, turn-end, turn-too-much, turn-fault, told-after, is-no-fault, rose-now}
use Rattle.engine.proofs.serving.take_turn.Goals as goal

pub step-requires : goal.step-requires
step-requires g c = record {
  short = c.line.ensures.short;
  calls = omega (arith, c.requires.calls, c.next.ensures.counted, ap lines_in c.in-Line.is);
  named = c.requires.named;
}

pub returns-in-Line : goal.returns-in-Line
returns-in-Line g c = record {
  turns = λ first left start so.
      turn-line g.K.Sink.wrote g.K.Sink.faults _ _ _ _ _ _ _ c.next.new.self _ so GotLine (text c.line.result.now) _ _ c.step.result c.after.result
      c.after.ensures (ap (λ z. text z ∷ []) (sym c.line.ensures.line)) (c.in-Line.ensures.reads so.bytes so.given so.has) (c.step.ensures.steps so.state so.stands)
      (λ i. text-same g.S.Space.text _ _ _ _ (c.step.ensures.idle (subst (λ ns. SaysNothing ns (text c.line.result.now)) (sym (so.stands.1)) i)))
      (λ q. text-same g.S.Space.text _ _ _ _ (
      let p = c.step.ensures.steps so.state so.stands in
      let k = quits-print _ so.state p.new c.line.result.now p.quits p.replies p.follows q in
      c.step.ensures.leaves (k.0) (subst (λ ns. IsRead ns c.line.result.now (k.0)) (sym (so.stands.1)) (k.1)) (k.2)
      ));
  told = told-after _ _ c.step.result c.after.result c.after.ensures (c.next.ensures.told (is-no-fault _ GotLine c.in-Line.is refl));
  read_later = c.next.ensures.later;
  going = λ e. (λ f. is-no-fault _ GotLine c.in-Line.is refl (c.next.ensures.faulted f), omega (arith, c.next.ensures.counted, ap lines_in c.in-Line.is));
  words = c.step.ensures.books.same_words;
  calls = omega (arith, c.step.ensures.books.one_call, c.next.ensures.counted, ap lines_in c.in-Line.is);
  named = c.step.ensures.books.few_names;
  limits = c.next.ensures.limits;
}

pub returns-in-Long : goal.returns-in-Long
returns-in-Long g c = record {
  turns = λ first left start so.
      turn-line g.K.Sink.wrote g.K.Sink.faults _ _ _ _ _ _ _ c.next.new.self _ so GotLong long _ _ c.refuse_long.result c.after-in-Long.result
      c.after-in-Long.ensures refl (c.in-Long.ensures.reads so.bytes so.given so.has) (c.refuse_long.ensures.steps so.state so.stands)
      (λ i. refl) (λ q. refl);
  told = told-after _ _ c.refuse_long.result c.after-in-Long.result c.after-in-Long.ensures (c.next.ensures.told (is-no-fault _ GotLong c.in-Long.is refl));
  read_later = c.next.ensures.later;
  going = λ e. (λ f. is-no-fault _ GotLong c.in-Long.is refl (c.next.ensures.faulted f), omega (arith, c.next.ensures.counted, ap lines_in c.in-Long.is));
  words = refl;
  calls = omega (arith, c.next.ensures.counted);
  named = c.requires.named;
  limits = c.next.ensures.limits;
}

pub returns-in-End : goal.returns-in-End
returns-in-End g c = record {
  turns = λ first left start so. turn-end g.K.Sink.wrote g.K.Sink.faults _ _ _ _ _ _ _ c.next.new.self _ so (c.in-End.ensures.reads so.bytes so.given so.has);
  told = c.next.ensures.told (is-no-fault _ End c.in-End.is refl);
  read_later = c.next.ensures.later;
  going = λ e. absurd (cc);
  words = refl;
  calls = omega (arith, c.next.ensures.counted);
  named = c.requires.named;
  limits = c.next.ensures.limits;
}

pub returns-in-Fault : goal.returns-in-Fault
returns-in-Fault g c = record {
  turns = λ first left start so. turn-fault g.K.Sink.wrote g.K.Sink.faults _ _ _ _ _ _ _ c.next.new.self _ so (c.in-Fault.ensures.reads so.bytes so.given so.has);
  told = rose-now (g.T.Source.faults c.args.source.now) (g.T.Source.faults c.next.new.source) c.args.reader.now (c.next.ensures.fault c.in-Fault.is) c.requires.no_fault;
  read_later = c.next.ensures.later;
  going = λ e. absurd (cc);
  words = refl;
  calls = omega (arith, c.next.ensures.counted);
  named = c.requires.named;
  limits = c.next.ensures.limits;
}

pub returns-in-TooMuch : goal.returns-in-TooMuch
returns-in-TooMuch g c = record {
  turns = λ first left start so. turn-too-much g.K.Sink.wrote g.K.Sink.faults _ _ _ _ _ _ _ c.next.new.self _ so (c.in-TooMuch.ensures.reads so.bytes so.given so.has);
  told = c.next.ensures.told (is-no-fault _ TooMuch c.in-TooMuch.is refl);
  read_later = c.next.ensures.later;
  going = λ e. absurd (cc);
  words = refl;
  calls = omega (arith, c.next.ensures.counted);
  named = c.requires.named;
  limits = c.next.ensures.limits;
}
