use Rattle.cheney.proofs.Before.Lengths.{spans-most, spans-whole}
use Rattle.cheney.proofs.laws.spans_are_counted.Goals as goal

pub returns-clause-most : goal.returns-clause-most
returns-clause-most c = spans-most

pub returns-clause-whole : goal.returns-clause-whole
returns-clause-whole c = spans-whole
