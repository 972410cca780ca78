use Rattle.word_shift.proofs.Sliding.{single-moved}
use Rattle.block_slide.specs.Down.{packed_place, is_in_use, packed_test}
use Rattle.block_slide.proofs.Placed.{places-differ, roles-moved}
use Rattle.block_slide.proofs.laws.packed_places_differ.Goals as goal

pub returns-clause-places : goal.returns-clause-places
returns-clause-places k = λ mem a b blocked s t e. places-differ mem blocked a b s t e

pub returns-clause-roles : goal.returns-clause-roles
returns-clause-roles k = roles-moved

pub returns-clause-single : goal.returns-clause-single
returns-clause-single k = λ c mem blocked single. single-moved (packed_place mem) (is_in_use mem) c (packed_test c mem) single (roles-moved c mem blocked)
