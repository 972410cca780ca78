use Rattle.isolation.proofs.Alone.{same-views}
use Rattle.isolation.proofs.laws.same_views_are_answered_alike.Goals as goal

pub returns : goal.returns
returns c = same-views
