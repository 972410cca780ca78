use Rattle.std.proofs.Common.{◌≡◌, ℕ, ◌-◌, ◌≤◌, Bool, false, List}
use Rattle.plain_term.specs.Tree.{Tree, Pairs, keys_of}
use Rattle.plain_term.specs.Beyond.{is_beyond}
use Rattle.term_words.specs.Stands.{Stands}
use Rattle.term_verbs.specs.Found.{AreKeys, AreSorted}
use Rattle.term_verbs.proofs.Seeking.{Between}
use Rattle.term_verbs.proofs.keys.spot_of.Given as goal

abbrev pub invariant-loop-low : goal.invariant-loop-low
invariant-loop-low l = record {
  order : l.low ≤ l.high;
  within : l.high ≤ l.rows.len;
  between : (c : ℕ → ℕ → Bool) (shared : List (List ℕ)) (ps : Pairs) (k : Tree) → AreKeys c shared l.mem l.rows ps → AreSorted l.names shared ps → Stands c shared l.mem l.key k
      → is_beyond shared k ≡ false → Between l.names shared (keys_of ps) k l.low l.high l.rows.len;
}

abbrev pub decreases-loop-low : goal.decreases-loop-low
decreases-loop-low l = l.high - l.low
