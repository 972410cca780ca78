use Rattle.term_words.proofs.Framing.Sight.{by-is, by-kept, by-keeps, by-single, by-told, by-wide, by-wider, sight-is, sight-told}
use Rattle.term_words.proofs.narrowed.narrowed_tests_keep_trees.Goals as goal

pub returns-clause-sight : goal.returns-clause-sight
returns-clause-sight c = λ own common a k. (sight-told own common a k, sight-is own common a k)

pub returns-clause-allows : goal.returns-clause-allows
returns-clause-allows c = λ d own common a k. (by-told d own common a k, λ h. by-is d own common a k h.0 h.1)

pub returns-clause-single : goal.returns-clause-single
returns-clause-single c = by-single

pub returns-clause-wide : goal.returns-clause-wide
returns-clause-wide c = by-wide

pub returns-clause-wider : goal.returns-clause-wider
returns-clause-wider c = by-wider

pub returns-clause-kept : goal.returns-clause-kept
returns-clause-kept c = by-kept

pub returns-clause-trees : goal.returns-clause-trees
returns-clause-trees c = by-keeps
