use Rattle.block_slide.proofs.Parting.{fits-inside}
use Rattle.block_slide.proofs.laws.sums_fit_inside_blocks.Goals as goal

pub returns : goal.returns
returns k = fits-inside
