use Rattle.term_words.proofs.Reaching.Relocating.{settled-roots}
use Rattle.word_shift.specs.Shifted.{word_image}
use Rattle.word_shift.proofs.Sliding.{slid}
use Rattle.block_slide.specs.Down.{packed_place, is_in_use, packed_test}
use Rattle.block_slide.proofs.Standing.{slides}
use Rattle.block_slide.proofs.laws.slid_parts_stand.Goals as goal

pub returns-clause-slides : goal.returns-clause-slides
returns-clause-slides k = λ c old new roots xs s blocked parts held reach. slides old new xs blocked parts s c held roots reach

pub returns-clause-lies : goal.returns-clause-lies
returns-clause-lies k = λ c shared old new roots ts xs s blocked parts held reach single stand.
    slid (packed_place old) (is_in_use old) c (packed_test c old) shared old s.mid new roots ts single stand (slides old new xs blocked parts s c held roots reach)

pub returns-clause-roots : goal.returns-clause-roots
returns-clause-roots k = λ c shared old new roots ts xs s blocked parts held reach single stand.
    settled-roots c (packed_test c old) shared old new roots (word_image (packed_place old)) (packed_place old)
    (slid (packed_place old) (is_in_use old) c (packed_test c old) shared old s.mid new roots ts single stand (slides old new xs blocked parts s c held roots reach))
    ts stand
