use Rattle.term_words.proofs.Reaching.Carrying.{reach-carried, carried-reach}
use Rattle.term_words.proofs.standing.carried_objects_keep_reach.Goals as goal

pub returns : goal.returns
returns c = λ k d shared old new roots ts w h all. (reach-carried k d old new h shared roots ts all w, carried-reach k d old new h shared roots ts all w)
