-- The keys of a proper map can be searched.
use Rattle.std.proofs.Common.{◌≡◌, ◌&&◌, ◌||◌, ℕ, not, Bool, true, false, nat_le, List, refl}
use Rattle.std.proofs.lemmas.Bool.{and_parts}
use Rattle.plain_term.specs.Tree.{Tree, Pairs, pairs_len}
use Rattle.plain_term.specs.Tree.Tree.{Map}
use Rattle.plain_term.specs.Tree.Pairs.{stop, pair}
use Rattle.plain_term.specs.Beyond.{is_beyond}
use Rattle.plain_term.specs.Proper.{is_proper, are_proper_pairs, keys_rise}
use Rattle.term_maps.specs.Stops.{has_beyond}
use Rattle.term_verbs.specs.Picked.{HasSorted}

none-beyond : (names shared : List (List ℕ)) (ps : Pairs) → are_proper_pairs names shared ps ≡ true → has_beyond shared ps ≡ false
none-beyond names shared stop h = refl
none-beyond names shared (pair k v ps) h =
    let front = (and_parts (is_proper names shared k && not (is_beyond shared k) && is_proper names shared v) (are_proper_pairs names shared ps) h).0 in
    let two = (and_parts (is_proper names shared k && not (is_beyond shared k)) (is_proper names shared v) front).0 in
    neither (is_beyond shared k) (has_beyond shared ps) (and_parts (is_proper names shared k) (not (is_beyond shared k)) two).1
    (none-beyond names shared ps (and_parts (is_proper names shared k && not (is_beyond shared k) && is_proper names shared v) (are_proper_pairs names shared ps) h).1)
  where
    neither : (a b : Bool) → not a ≡ true → b ≡ false → a || b ≡ false
    neither true b x y = absurd cc
    neither false b x y = y

pub proper-sorted : (names shared : List (List ℕ)) (t : Tree) → is_proper names shared t ≡ true → HasSorted names shared t
proper-sorted names shared (Map ps) h =
    let front = (and_parts (nat_le (pairs_len ps) 32 && keys_rise names shared ps) (are_proper_pairs names shared ps) h).0 in
    record {
      rise = (and_parts (nat_le (pairs_len ps) 32) (keys_rise names shared ps) front).1;
      within = none-beyond names shared ps (and_parts (nat_le (pairs_len ps) 32 && keys_rise names shared ps) (are_proper_pairs names shared ps) h).1;
    }
proper-sorted names shared _ h = tt
