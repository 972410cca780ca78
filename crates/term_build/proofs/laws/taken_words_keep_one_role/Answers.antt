use Rattle.term_build.proofs.Taking.{with-object-taken, with-object-single, with-object-within}
use Rattle.term_build.proofs.laws.taken_words_keep_one_role.Goals as goal

pub returns-clause-fits : goal.returns-clause-fits
returns-clause-fits c = with-object-taken

pub returns-clause-single : goal.returns-clause-single
returns-clause-single c = with-object-single

pub returns-clause-within : goal.returns-clause-within
returns-clause-within c = with-object-within
