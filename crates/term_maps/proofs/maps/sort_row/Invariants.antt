use Rattle.std.proofs.Common.{◌≡◌, ℕ, ◌≤◌, Bool, List, length}
use Rattle.plain_term.specs.Tree.{Pairs}
use Rattle.term_tags.specs.declared.layouts.TheConstants.{MOST_KEYS}
use Rattle.term_words.specs.Counted.{In}
use Rattle.term_maps.specs.Given.{PairsStand, keys_in, word_pairs}
use Rattle.term_maps.proofs.Sorting.{Sorting}
use Rattle.term_maps.proofs.maps.sort_row.Given as goal

abbrev pub invariant-loop-i : goal.invariant-loop-i
invariant-loop-i l = record {
  keys : (w : ℕ) → In w l.sorted.keys.items → In w (keys_in (word_pairs l.row));
  few : length l.sorted.keys.items ≤ MOST_KEYS;
  same_len : length l.sorted.values.items ≡ length l.sorted.keys.items;
  sorting : (c : ℕ → ℕ → Bool) (shared : List (List ℕ)) (given : Pairs) → PairsStand c shared l.mem (word_pairs l.row) given → Sorting c l.names shared l.mem given l.i l.sorted;
}
