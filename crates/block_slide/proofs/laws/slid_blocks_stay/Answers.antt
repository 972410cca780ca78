use Rattle.block_slide.proofs.Standing.{blocks-slid}
use Rattle.block_slide.proofs.laws.slid_blocks_stay.Goals as goal

pub returns : goal.returns
returns k = λ old new xs blocked parts s. blocks-slid old new xs blocked parts s
