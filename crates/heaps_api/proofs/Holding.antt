-- What rows of words hold: at a place, with another in its place, and as terms by any test.
use Rattle.std.proofs.Common.{◌≡◌, ℕ, zero, suc, ◌<◌, Bool, true, List, [], ◌∷◌, length, get_or, set, arith, refl}
use Rattle.plain_term.specs.Tree.{Tree}
use Rattle.plain_term.specs.Tree.Tree.{Nil}
use Rattle.term_words.specs.Role.{always}
use Rattle.term_words.specs.Stands.{Stands}
use Rattle.term_words.proofs.Framing.Rooms.{weaken}
use Rattle.term_order.specs.Held.{HoldTrees, HoldsTree}

module _ (c : ℕ → ℕ → Bool) (shared : List (List ℕ)) (mem : List ℕ) (named : ℕ) where
  pub held-at : (ws : List ℕ) (ts : List Tree) (r : ℕ) → r < length ws → HoldTrees c shared mem named ws ts → HoldsTree c shared mem named (get_or ws r 0) (get_or ts r Nil)
  held-at [] ts r less h = absurd (omega arith)
  held-at (w ∷ ws) [] r less h = absurd h
  held-at (w ∷ ws) (t ∷ ts) zero less h = h.0
  held-at (w ∷ ws) (t ∷ ts) (suc r) less h = held-at ws ts r (omega arith) h.1

  pub held-set : (ws : List ℕ) (ts : List Tree) (r w : ℕ) (t : Tree) → HoldTrees c shared mem named ws ts → HoldsTree c shared mem named w t → HoldTrees c shared mem named (set ws r w) (set ts r t)
  held-set [] [] r w t h x = tt
  held-set [] (u ∷ ts) r w t h x = absurd h
  held-set (v ∷ ws) [] r w t h x = absurd h
  held-set (v ∷ ws) (u ∷ ts) zero w t h x = (x, h.1)
  held-set (v ∷ ws) (u ∷ ts) (suc r) w t h x = (h.0, held-set ws ts r w t h.1 x)

  -- A word that holds a tree stands for it by any test.
  pub stands-always : (w : ℕ) (t : Tree) → HoldsTree c shared mem named w t → Stands always shared mem w t
  stands-always w t h = (weaken c always mem (λ a k e. refl)).each shared w t h.standing
