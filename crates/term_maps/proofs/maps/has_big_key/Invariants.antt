use Rattle.std.proofs.Common.{◌≡◌, ℕ, Bool, List}
use Rattle.plain_term.specs.Tree.{Pairs}
use Rattle.term_maps.specs.Stops.{has_beyond}
use Rattle.term_maps.specs.Given.{PairsStand}
use Rattle.term_maps.proofs.Left.{pairs_drop}
use Rattle.term_maps.proofs.maps.has_big_key.Given as goal

abbrev pub invariant-loop-i : goal.invariant-loop-i
invariant-loop-i l = record {
  left : (c : ℕ → ℕ → Bool) (shared : List (List ℕ)) (given : Pairs) → PairsStand c shared l.mem l.pairs given → has_beyond shared given ≡ has_beyond shared (pairs_drop l.i given);
}
