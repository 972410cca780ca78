-- Pairs put in the order of their keys.
use Rattle.std.specs.Prelude.{ℕ, List}
use Rattle.std.specs.Ordering.{match_ordering}
use Rattle.plain_term.specs.Tree.{Tree, Pairs}
use Rattle.plain_term.specs.Tree.Pairs.{stop, pair}
use Rattle.plain_term.specs.Order.{order}

-- A pair among pairs whose keys rise: it takes the place of one with an equal key.
abbrev pub put_pair : (names shared : List (List ℕ)) (key value : Tree) → Pairs → Pairs
put_pair names shared k v stop = pair k v stop
put_pair names shared k v (pair j w ps) =
    match_ordering (order names shared k j) (pair k v (pair j w ps)) (pair k v ps) (pair j w (put_pair names shared k v ps))

-- Pairs are put among others one after the other, so that the later of two with equal keys stands.
abbrev pub put_all : (names shared : List (List ℕ)) → Pairs → Pairs → Pairs
put_all names shared ps stop = ps
put_all names shared ps (pair k v given) = put_all names shared (put_pair names shared k v ps) given

-- The pairs of a map that is made of these, in the order of their keys: where two keys are equal, the later pair
-- stands, with its own key.
abbrev pub in_order : (names shared : List (List ℕ)) → Pairs → Pairs
in_order names shared given = put_all names shared stop given
