use Rattle.term_words.proofs.Framing.Lists.{all-at-each, all-of-members, member-stands, all-row}
use Rattle.term_words.proofs.ByKind.Makes.{all-length, row-of-all}
use Rattle.term_words.proofs.ByKind.Shapes.{all-at}
use Rattle.term_words.proofs.side_by_side.lists_stand_word_by_word.Goals as goal

pub returns-clause-each : goal.returns-clause-each
returns-clause-each c = λ k shared mem ws ts all. (all-length k shared mem ws ts all, λ i below. all-at k shared mem ws ts i all below)

pub returns-clause-all : goal.returns-clause-all
returns-clause-all c = all-at-each

pub returns-clause-some : goal.returns-clause-some
returns-clause-some c = all-of-members

pub returns-clause-member : goal.returns-clause-member
returns-clause-member c = member-stands

pub returns-clause-row : goal.returns-clause-row
returns-clause-row c = row-of-all

pub returns-clause-list : goal.returns-clause-list
returns-clause-list c = all-row
