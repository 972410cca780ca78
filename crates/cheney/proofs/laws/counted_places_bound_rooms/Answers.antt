use Rattle.cheney.proofs.After.Fitting.{fits-by-places, fits-by-range, fits-further}
use Rattle.cheney.proofs.laws.counted_places_bound_rooms.Goals as goal

pub returns-clause-range : goal.returns-clause-range
returns-clause-range c = fits-by-range

pub returns-clause-places : goal.returns-clause-places
returns-clause-places c = λ p b from to s standing single order lies passes room. fits-by-places p b from to standing single order lies s passes room

pub returns-clause-further : goal.returns-clause-further
returns-clause-further c = λ p b from to s others standing single order lies room. fits-further p b from to standing single order others s lies room
