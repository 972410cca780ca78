use Rattle.std.proofs.Common.{refl, arith, [], sym, ap, ◌∙◌, append-nil}
use Rattle.line_io.proofs.Apart.{took-failed}
use Rattle.line_io.proofs.Collects.{gathers, gathered-grew, hands-none}
use Rattle.line_io.proofs.gathered.GatheredSink.write.Goals as goal

pub gather-requires : goal.gather-requires
gather-requires g c = record { room = c.if-self-lt-ROOM.true; some = c.requires }

pub returns-then-self-lt-ROOM : goal.returns-then-self-lt-ROOM
returns-then-self-lt-ROOM g c =
    let w = c.args.self.now in
    let e = c.gather.ensures in
    let same = ap (λ s. g.K.Sink.faults s.now) e.sink in
    record {
      count = (e.some, e.most);
      grew = gathers g.K.Sink.wrote w c.gather.new.self w _ refl (hands-none g.K.Sink.wrote w) e.sink e.gathered;
      later = omega (arith, same);
      failed = λ f. took-failed f;
      told = λ f. same;
    }

pub gather-requires-then-hand_on : goal.gather-requires-then-hand_on
gather-requires-then-hand_on g c = record { room = omega (arith, c.hand_on.ensures.emptied c.if-hand_on.true); some = c.requires }

pub returns-then-hand_on : goal.returns-then-hand_on
returns-then-hand_on g c =
    let on = c.hand_on.ensures in
    let e = c.gather-then-hand_on.ensures in
    let same = ap (λ s. g.K.Sink.faults s.now) e.sink in
    record {
      count = (e.some, e.most);
      grew = gathers g.K.Sink.wrote c.args.self.now c.gather-then-hand_on.new.self c.hand_on.new.self _ on.same_reference on.handed e.sink e.gathered;
      later = omega (arith, on.later, same);
      failed = λ f. took-failed f;
      told = λ f. same ∙ on.told c.if-hand_on.true;
    }

pub returns : goal.returns
returns g c =
    let on = c.hand_on.ensures in
    record {
      count = tt;
      grew = gathered-grew g.K.Sink.wrote c.args.self.now c.hand_on.new.self [] on.handed.out (sym on.same_reference) (append-nil _ ∙ on.handed.parts) on.handed.grew;
      later = on.later;
      failed = λ f. on.rose c.if-hand_on.false;
      told = λ f. absurd (f refl);
    }
