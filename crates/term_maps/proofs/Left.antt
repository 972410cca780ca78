-- The pairs that are left behind the first few.
use Rattle.std.proofs.Common.{◌≡◌, ℕ, zero, suc, ◌+◌, ◌<◌, ◌≤◌, ◌∙◌, Bool, true, false, List, [], ◌∷◌, length, get_or, refl, subst, ap, arith}
use Rattle.plain_term.specs.Tree.{Tree, Pairs}
use Rattle.plain_term.specs.Tree.Pairs.{stop, pair}
use Rattle.plain_term.specs.Beyond.{is_beyond}
use Rattle.term_words.specs.Stands.{Stands}
use Rattle.term_maps.specs.Stops.{has_beyond}
use Rattle.term_maps.specs.Given.{PairsStand}

-- All pairs but the first i.
abbrev pub pairs_drop : ℕ → Pairs → Pairs
pairs_drop zero ps = ps
pairs_drop (suc i) stop = stop
pairs_drop (suc i) (pair k v ps) = pairs_drop i ps

-- Pair i of the words stands for the first of the pairs that are left.
pub record Next (c : ℕ → ℕ → Bool) (shared : List (List ℕ)) (mem : List ℕ) (p : ℕ × ℕ) (i : ℕ) (given : Pairs) : Type 0 where
  pub key : Tree
  pub value : Tree
  pub left : pairs_drop i given ≡ pair key value (pairs_drop (i + 1) given)
  pub key_stands : Stands c shared mem p.0 key
  pub value_stands : Stands c shared mem p.1 value

pub next-pair : (c : ℕ → ℕ → Bool) (shared : List (List ℕ)) (mem : List ℕ) (words : List (ℕ × ℕ)) (given : Pairs) (i : ℕ) (d : ℕ × ℕ) → PairsStand c shared mem words given → i < length words
    → Next c shared mem (get_or words i d) i given
unfolding PairsStand
next-pair c shared mem [] given i d s below = absurd (omega arith)
next-pair c shared mem (p ∷ words) stop i d s below = absurd s
next-pair c shared mem (p ∷ words) (pair k v ps) zero d s below = record { key = k; value = v; left = refl; key_stands = s.0.0; value_stands = s.0.1 }
next-pair c shared mem (p ∷ words) (pair k v ps) (suc i) d s below =
    let more = next-pair c shared mem words ps i d s.1 (omega arith) in
    let turned : suc (i + 1) ≡ suc i + 1 = omega arith in
    let P : ℕ → Type 0 = λ x. pairs_drop i ps ≡ pair more.key more.value (pairs_drop x (pair k v ps)) in
    record { key = more.key; value = more.value; left = subst P turned more.left; key_stands = more.key_stands; value_stands = more.value_stands }

-- None are left behind the last.
pub none-left : (c : ℕ → ℕ → Bool) (shared : List (List ℕ)) (mem : List ℕ) (words : List (ℕ × ℕ)) (given : Pairs) (i : ℕ) → PairsStand c shared mem words given → length words ≤ i
    → pairs_drop i given ≡ stop
unfolding PairsStand
none-left c shared mem [] stop zero s all = refl
none-left c shared mem [] stop (suc i) s all = refl
none-left c shared mem [] (pair k v ps) i s all = absurd s
none-left c shared mem (p ∷ words) stop i s all = absurd s
none-left c shared mem (p ∷ words) (pair k v ps) zero s all = absurd (omega arith)
none-left c shared mem (p ∷ words) (pair k v ps) (suc i) s all = none-left c shared mem words ps i s.1 (omega arith)

-- Whether a key that is left is beyond the walk limit, by the first of them.

pub beyond-now : (c : ℕ → ℕ → Bool) (shared : List (List ℕ)) (mem : List ℕ) (p : ℕ × ℕ) (i : ℕ) (given : Pairs) (n : Next c shared mem p i given) → is_beyond shared n.key ≡ true
    → has_beyond shared (pairs_drop i given) ≡ true
beyond-now c shared mem p i given n is = ap (has_beyond shared) n.left ∙ rw is refl

pub beyond-later : (c : ℕ → ℕ → Bool) (shared : List (List ℕ)) (mem : List ℕ) (p : ℕ × ℕ) (i : ℕ) (given : Pairs) (n : Next c shared mem p i given) → is_beyond shared n.key ≡ false
    → has_beyond shared (pairs_drop i given) ≡ has_beyond shared (pairs_drop (i + 1) given)
beyond-later c shared mem p i given n is = ap (has_beyond shared) n.left ∙ rw is refl
