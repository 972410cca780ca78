use Rattle.block_slide.proofs.Rowing.{links-in-slid, row-slid}
use Rattle.block_slide.proofs.Standing.{links-lie, others-lie, part-shift, words-lie}
use Rattle.block_slide.proofs.laws.slid_words_lie.Goals as goal

pub returns-clause-words : goal.returns-clause-words
returns-clause-words k = λ old new xs i span s blocked parts listed is q low high. words-lie old new xs blocked parts s i listed span is q low high

pub returns-clause-links : goal.returns-clause-links
returns-clause-links k = λ old new xs i span s blocked parts listed is q low high. links-lie old new xs blocked parts s i listed span is q low high

pub returns-clause-rows : goal.returns-clause-rows
returns-clause-rows k = λ old new xs i span ws s blocked parts listed is are. row-slid old new xs blocked parts s i listed span is ws are

pub returns-clause-held : goal.returns-clause-held
returns-clause-held k = λ old new xs i span ws s blocked parts listed is are. links-in-slid old new xs blocked parts s i listed span is ws are

pub returns-clause-others : goal.returns-clause-others
returns-clause-others k = λ old new xs q s blocked parts used out. others-lie old new xs blocked parts s q used out

pub returns-clause-shift : goal.returns-clause-shift
returns-clause-shift k = part-shift
