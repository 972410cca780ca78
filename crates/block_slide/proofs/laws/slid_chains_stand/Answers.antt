use Rattle.std.proofs.Common.{◌++◌}
use Rattle.off_heap_list.specs.Exact.{objects_of}
use Rattle.off_heap_list.proofs.Chaining.Relocated.{links-moved, many-moved}
use Rattle.block_slide.specs.Down.{packed_place, packed_test}
use Rattle.block_slide.proofs.Linking.{links-slid}
use Rattle.block_slide.proofs.laws.slid_chains_stand.Goals as goal

pub returns-clause-moved : goal.returns-clause-moved
returns-clause-moved k = λ c old new ps xs s blocked parts single held l. links-slid c old new xs blocked parts s single held ps l

pub returns-clause-one : goal.returns-clause-one
returns-clause-one k = λ c old new head os further xs s blocked parts single held l chain.
    links-moved (packed_place old) c (packed_test c old) old new head os further (links-slid c old new xs blocked parts s single held (os ++ further) l) chain

pub returns-clause-several : goal.returns-clause-several
returns-clause-several k = λ c old new chains slid further xs s blocked parts single held l many are.
    many-moved (packed_place old) c (packed_test c old) old new chains slid further
    (links-slid c old new xs blocked parts s single held (objects_of chains ++ further) l) many are
