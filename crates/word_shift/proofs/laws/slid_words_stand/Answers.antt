use Rattle.term_words.proofs.Reaching.Relocating.{settled, settled-roots, reach-moved, moved-reach}
use Rattle.word_shift.specs.Shifted.{word_image}
use Rattle.word_shift.proofs.Sliding.{slid}
use Rattle.word_shift.proofs.laws.slid_words_stand.Goals as goal

pub returns-clause-lies : goal.returns-clause-lies
returns-clause-lies c = slid

pub returns-clause-word : goal.returns-clause-word
returns-clause-word x = λ g used c d shared old mid new roots ts single stand s.
    settled c d shared old new roots (word_image g) g (slid g used c d shared old mid new roots ts single stand s)

pub returns-clause-roots : goal.returns-clause-roots
returns-clause-roots x = λ g used c d shared old mid new roots ts single stand s.
    settled-roots c d shared old new roots (word_image g) g (slid g used c d shared old mid new roots ts single stand s) ts stand

pub returns-clause-reached : goal.returns-clause-reached
returns-clause-reached x = λ g used c d shared old mid new roots ts single stand s.
    reach-moved c d shared old new roots (word_image g) g (slid g used c d shared old mid new roots ts single stand s) ts stand

pub returns-clause-no_more : goal.returns-clause-no_more
returns-clause-no_more x = λ g used c d shared old mid new roots ts single stand s.
    moved-reach c d shared old new roots (word_image g) g (slid g used c d shared old mid new roots ts single stand s) ts stand
