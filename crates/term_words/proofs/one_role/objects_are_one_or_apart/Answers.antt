use Rattle.term_words.proofs.Placing.Apart.{objects-apart}
use Rattle.term_words.proofs.one_role.objects_are_one_or_apart.Goals as goal

pub returns : goal.returns
returns c = λ k shared mem w v t u one s r p q. objects-apart k shared mem w v t u one s r p q
