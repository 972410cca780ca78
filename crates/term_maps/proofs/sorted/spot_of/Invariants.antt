use Rattle.std.proofs.Common.{◌≡◌, ℕ, Bool, false, List}
use Rattle.plain_term.specs.Tree.{Tree, Pairs, keys_of}
use Rattle.plain_term.specs.Beyond.{is_beyond}
use Rattle.term_words.specs.Stands.{Stands, AllStand}
use Rattle.term_maps.specs.Stops.{has_beyond}
use Rattle.term_maps.specs.Spots.{IsAbove}
use Rattle.term_maps.proofs.sorted.spot_of.Given as goal

abbrev pub invariant-loop-i : goal.invariant-loop-i
invariant-loop-i l = record {
  above : (c : ℕ → ℕ → Bool) (shared : List (List ℕ)) (ps : Pairs) (k : Tree) → AllStand c shared l.mem l.keys (keys_of ps) → Stands c shared l.mem l.key k
      → has_beyond shared ps ≡ false → is_beyond shared k ≡ false → IsAbove l.names shared (keys_of ps) k l.i;
}
