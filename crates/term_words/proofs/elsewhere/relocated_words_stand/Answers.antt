use Rattle.term_words.proofs.Reaching.Relocating.{settled, settled-roots, reach-moved, moved-reach}
use Rattle.term_words.proofs.elsewhere.relocated_words_stand.Goals as goal

pub returns-clause-word : goal.returns-clause-word
returns-clause-word c = settled

pub returns-clause-roots : goal.returns-clause-roots
returns-clause-roots c = settled-roots

pub returns-clause-reached : goal.returns-clause-reached
returns-clause-reached c = reach-moved

pub returns-clause-no_more : goal.returns-clause-no_more
returns-clause-no_more c = moved-reach
