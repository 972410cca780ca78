use Rattle.cheney.proofs.Rooted.Rows.{images-all, images-beside, images-join, images-later, images-of, in-joined, root-in, roots-in}
use Rattle.cheney.proofs.Rooted.Places.{places-aside, word-at}
use Rattle.cheney.proofs.laws.roots_become_images.Goals as goal
use Rattle.term_words.proofs.Totals.Members.{in-at}

pub returns-clause-at : goal.returns-clause-at
returns-clause-at c = in-at

pub returns-clause-within : goal.returns-clause-within
returns-clause-within c = in-joined

pub returns-clause-reached : goal.returns-clause-reached
returns-clause-reached c = root-in

pub returns-clause-moved : goal.returns-clause-moved
returns-clause-moved c = roots-in

pub returns-clause-join : goal.returns-clause-join
returns-clause-join c = images-join

pub returns-clause-later : goal.returns-clause-later
returns-clause-later c = images-later

pub returns-clause-beside : goal.returns-clause-beside
returns-clause-beside c = images-beside

pub returns-clause-all : goal.returns-clause-all
returns-clause-all c = images-all

pub returns-clause-back : goal.returns-clause-back
returns-clause-back c = images-of

pub returns-clause-elsewhere : goal.returns-clause-elsewhere
returns-clause-elsewhere c = places-aside

pub returns-clause-places : goal.returns-clause-places
returns-clause-places c = word-at
