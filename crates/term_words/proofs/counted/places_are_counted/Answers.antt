use Rattle.term_words.proofs.Totals.Counts.{count-empty, count-join, count-most, count-all, count-none, count-wider, count-either, count-apart}
use Rattle.term_words.proofs.counted.places_are_counted.Goals as goal

pub returns-clause-empty : goal.returns-clause-empty
returns-clause-empty c = count-empty

pub returns-clause-join : goal.returns-clause-join
returns-clause-join c = count-join

pub returns-clause-most : goal.returns-clause-most
returns-clause-most c = count-most

pub returns-clause-all : goal.returns-clause-all
returns-clause-all c = count-all

pub returns-clause-none : goal.returns-clause-none
returns-clause-none c = count-none

pub returns-clause-wider : goal.returns-clause-wider
returns-clause-wider c = count-wider

pub returns-clause-either : goal.returns-clause-either
returns-clause-either c = count-either

pub returns-clause-apart : goal.returns-clause-apart
returns-clause-apart c = count-apart
