-- Why no map is made of pairs.
use Rattle.std.specs.Prelude.{ℕ, Bool, false, ◌||◌, nat_lt, if◌then◌else◌, List, Option, Some, None}
use Rattle.plain_term.specs.Tree.{Pairs, pairs_len}
use Rattle.plain_term.specs.Tree.Pairs.{stop, pair}
use Rattle.plain_term.specs.Beyond.{is_beyond}
use Rattle.plain_term.specs.InOrder.{in_order}
use Rattle.term_tags.specs.declared.layouts.TheConstants.{MOST_KEYS}
use Rattle.term_maps.specs.declared.maps.MapStop.{MapStop}
use Rattle.term_maps.specs.declared.maps.MapStop.TheVariants as why

-- Some key is beyond the walk limit.
abbrev pub has_beyond : (shared : List (List ℕ)) → Pairs → Bool
has_beyond shared stop = false
has_beyond shared (pair k v ps) = is_beyond shared k || has_beyond shared ps

-- Why no map is made of these pairs, if none is.
abbrev pub why_not : (names shared : List (List ℕ)) → Pairs → Option MapStop
why_not names shared given = if has_beyond shared given then Some why.Big
    else (if nat_lt MOST_KEYS (pairs_len (in_order names shared given)) then Some why.Size else None)
