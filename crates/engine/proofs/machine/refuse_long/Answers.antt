use Rattle.std.proofs.Common.{refl}
use Rattle.engine.proofs.machine.refuse_long.Goals as goal

pub returns : goal.returns
returns g c = record {
  steps = λ s h.
      let told = c.answer.ensures in record {
        quits = _;
        replies = _;
        new = s;
        follows = record { goes_on = refl; said = refl; same = refl };
        stands = h;
        maps = λ p r. absurd r;
        writes = told.writes s h.0;
        tells = told.tells;
        later = told.later s h.0;
      };
}
