-- Lists of trees, one after another and from plain lists.
use Rattle.std.proofs.Common.{◌≡◌, ◌+◌, List, [], ◌∷◌, ◌++◌, length, refl, ap, arith}
use Rattle.std.specs.List.{sum_by}
use Rattle.std.proofs.lemmas.List.Sums.{sum_by-cons}
use Rattle.plain_term.specs.Tree.{Tree, Trees, trees_len, trees_append}
use Rattle.plain_term.specs.Tree.Trees.{end, ◌▹◌}
use Rattle.plain_term.specs.Measures.{flat, flat_of_all}
use Rattle.plain_term.specs.View.{trees_of}

pub trees_len-append : (ts us : Trees) → trees_len (trees_append ts us) ≡ trees_len ts + trees_len us
trees_len-append end us = omega arith
trees_len-append (t ▹ ts) us = omega (arith, trees_len-append ts us)

pub flat_of_all-append : (ts us : Trees) → flat_of_all (trees_append ts us) ≡ flat_of_all ts + flat_of_all us
flat_of_all-append end us = omega arith
flat_of_all-append (t ▹ ts) us = omega (arith, flat_of_all-append ts us)

pub trees_len-trees_of : (ts : List Tree) → trees_len (trees_of ts) ≡ length ts
trees_len-trees_of [] = refl
trees_len-trees_of (t ∷ ts) = omega (arith, trees_len-trees_of ts)

pub trees_of-append : (ts us : List Tree) → trees_of (ts ++ us) ≡ trees_append (trees_of ts) (trees_of us)
trees_of-append [] us = refl
trees_of-append (t ∷ ts) us = ap (λ x. t ▹ x) (trees_of-append ts us)

-- The flat words of a list are the sum of those of its trees.
pub flat_of_all-trees_of : (ts : List Tree) → flat_of_all (trees_of ts) ≡ sum_by flat ts
flat_of_all-trees_of [] = refl
flat_of_all-trees_of (t ∷ ts) = omega (arith, flat_of_all-trees_of ts, sum_by-cons flat t ts)
