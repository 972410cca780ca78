use Rattle.line_io.specs.Gathered.{pending}
use Rattle.line_io.proofs.Collects.{handed-all, none-pending}
use Rattle.line_io.proofs.gathered.Gathered.finish.Goals as goal

pub returns-then-hand_on : goal.returns-then-hand_on
returns-then-hand_on g c =
    let on = c.hand_on.ensures in
    let new = c.hand_on.new.self in
    record {
      same_reference = on.same_reference;
      all = handed-all g.K.Sink.wrote c.args.self.now new on.handed (on.emptied c.if-hand_on.true);
      part = tt;
      later = on.later;
      rose = tt;
      told = on.told c.if-hand_on.true;
      emptied = none-pending new (on.emptied c.if-hand_on.true);
    }

pub returns : goal.returns
returns g c =
    let on = c.hand_on.ensures in
    record {
      same_reference = on.same_reference;
      all = tt;
      part = record {
        part = on.handed.out;
        missing = pending c.hand_on.new.self;
        whole = on.handed.parts;
        some = on.left c.if-hand_on.false;
        grew = on.handed.grew;
      };
      later = on.later;
      rose = on.rose c.if-hand_on.false;
      told = tt;
      emptied = tt;
    }
