use Rattle.term_words.proofs.Framing.Rooms.{room-kept}
use Rattle.term_words.proofs.standing.rooms_keep_what_is_clear.Goals as goal

pub returns : goal.returns
returns c = λ top more limit old new longer up below same. room-kept top more limit old new longer up below same
