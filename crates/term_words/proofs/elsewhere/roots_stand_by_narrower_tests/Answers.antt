use Rattle.term_words.proofs.Framing.Narrowing.{narrowed, narrowed-word}
use Rattle.term_words.proofs.elsewhere.roots_stand_by_narrower_tests.Goals as goal

pub returns-clause-roots : goal.returns-clause-roots
returns-clause-roots c = narrowed

pub returns-clause-word : goal.returns-clause-word
returns-clause-word c = narrowed-word
