use Rattle.std.proofs.Common.{◌≤◌, ◌/◌, true, refl, arith}
use Rattle.lower_tests.proofs.laws.what_lies_in_some_words_takes_no_more.Goals as goal
use Rattle.term_words.specs.Counted.{total, count}
use Rattle.term_words.specs.Tiled.{tile_words}

pub returns : goal.returns
returns c = λ d shared mem from n ws single once laid inside.
    let packed = c.packed_words_are_counted.ensures.tiles d shared mem (λ q. true) from n ws single once laid inside (λ w q has low high. refl) in
    let fits : total (tile_words mem) ws ≤ count (λ q. true) from n = c.packed_words_are_counted.ensures.words (λ w. w / 4) (tile_words mem) (λ q. true) from n ws packed in
    let most : count (λ q. true) from n ≤ n = c.places_are_counted.ensures.most (λ q. true) from n in
    omega (arith, fits, most)
