use Rattle.cheney.proofs.Rooted.Begins.{has-collected}
use Rattle.cheney.proofs.After.Next.{is-tiled}
use Rattle.cheney.proofs.laws.rooms_are_tiled.Goals as goal

pub returns : goal.returns
returns c = λ p m mv b run roots. is-tiled p m mv run roots (has-collected p m mv run roots) b
