use Rattle.std.proofs.Common.{◌≡◌, ℕ, ◌*◌, Bool, List, drop, Option}
use Rattle.plain_term.specs.Tree.{Tree}
use Rattle.item_build.specs.Reading.{has_big_key as has_big}
use Rattle.item_build.specs.Building.{AreMarks}
use Rattle.item_build.proofs.putting.has_big_key.Given as goal

abbrev pub invariant-loop-i : goal.invariant-loop-i
invariant-loop-i l = record {
  left : (c : ℕ → ℕ → Bool) (shared : List (List ℕ)) (ms : List (Option Tree)) → AreMarks c shared l.mem l.row ms → has_big shared ms ≡ has_big shared (drop (2 * l.i) ms);
}
