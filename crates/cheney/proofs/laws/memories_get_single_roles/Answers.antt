use Rattle.cheney.proofs.After.Next.{has-roles}
use Rattle.cheney.proofs.laws.memories_get_single_roles.Goals as goal

pub returns : goal.returns
returns c = λ p m top s y o z. has-roles p y m top o s z
