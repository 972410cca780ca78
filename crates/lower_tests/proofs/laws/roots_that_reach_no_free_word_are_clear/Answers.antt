use Rattle.std.proofs.lemmas.Bool.{and_parts}
use Rattle.std.specs.Prelude.{slice_index}
use Rattle.term_words.specs.Role.{outside, both}
use Rattle.term_words.specs.Stands.{tree_at}
use Rattle.lower_tests.proofs.laws.roots_that_reach_no_free_word_are_clear.Goals as goal

pub returns : goal.returns
returns c = λ d shared mem roots ts top limit all passes.
    let narrowed = c.roots_stand_by_narrower_tests.ensures.roots d (outside top limit) shared mem roots ts all passes in
    let each = c.lists_stand_word_by_word.ensures.each (both d (outside top limit)) shared mem roots ts narrowed in
    let kept = c.weaker_tests_keep_trees.ensures (both d (outside top limit)) (outside top limit) mem (λ a k e. (and_parts (d a k) (outside top limit a k) e).1) in
    c.lists_stand_word_by_word.ensures.all (outside top limit) shared mem roots ts (each.0) (λ i below. kept.each shared (slice_index roots i) (tree_at ts i) (each.1 i below))
