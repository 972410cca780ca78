-- Roots whose words pass a further test stand by both.
use Rattle.std.proofs.Common.{◌≡◌, ℕ, suc, ◌+◌, ◌/◌, ◌<◌, Bool, true, List, [], ◌∷◌, length, get_or, refl, sym, ap, subst, arith}
use Rattle.std.proofs.lemmas.Bool.{and_from}
use Rattle.plain_term.specs.Tree.{Tree, Trees}
use Rattle.plain_term.specs.Tree.Trees.{end, ◌▹◌}
use Rattle.term_words.specs.Role.{both}
use Rattle.term_words.specs.Object.{IsPointer, IsRecord}
use Rattle.term_words.specs.Stands.{Stands, AllStand}
use Rattle.term_words.specs.Reach.{Reach, IsNamed, PassTest, root}
use Rattle.term_words.specs.Relocated.{IsMovedTo, IsCopiedTo, Relocated}
use Rattle.term_words.proofs.ByKind.Inside.{object-inside, record-inside}
use Rattle.term_words.proofs.Reaching.Reached.{reached}
use Rattle.term_words.proofs.Reaching.Relocating.{settled}

module _ (c d : ℕ → ℕ → Bool) (shared : List (List ℕ)) (mem roots : List ℕ) (ts : Trees) (all : AllStand c shared mem roots ts) (pass : PassTest c d mem roots) where
  -- A place and its role by the second name of the place.
  at : (q a k : ℕ) → q ≡ a → c a k ≡ true → c q k ≡ true
  at q a k e h = let P : ℕ → Type 0 = λ x. c x k ≡ true in subst P (sym e) h

  stays : (w : ℕ) → Reach mem roots w → IsPointer w → IsMovedTo c (both c d) mem mem (λ x. x) (λ x. x) w
  stays w r p = record {
    tag = refl;
    within = (let (t, s) = reached c shared mem roots ts all w r in object-inside c shared mem w t s p);
    roles = λ j q k below e h. and_from (c q k) (d q k) (at q (w / 4 + j) k e h) (pass.objects w q k r p (omega arith) (omega arith) (at q (w / 4 + j) k e h));
    traced = λ j q from below e. ap (λ x. get_or mem x 0) e;
    names = λ j q below e h. ap (λ x. get_or mem x 0) e;
    same = λ j q less below e h. ap (λ x. get_or mem x 0) e;
  }

  copied : (v n : ℕ) → IsNamed c mem roots v → IsRecord c mem v n → IsCopiedTo c (both c d) mem mem v v n
  copied v n named is = record {
    within = record-inside c mem v n is;
    roles = λ j q k below e h. and_from (c q k) (d q k) (at q (v + j) k e h) (pass.records v n q k named is (omega arith) (omega arith) (at q (v + j) k e h));
    same = λ j q below some e. ap (λ x. get_or mem x 0) e;
  }

  in-place : Relocated c (both c d) mem mem roots (λ x. x) (λ x. x)
  in-place = record { immediates = λ w r n. refl; objects = stays; records = copied }

  pub narrowed-word : (w : ℕ) (t : Tree) → Reach mem roots w → Stands c shared mem w t → Stands (both c d) shared mem w t
  narrowed-word w t r s = settled c (both c d) shared mem mem roots (λ x. x) (λ x. x) in-place w t r s

  narrowed-all : (ws : List ℕ) (us : Trees) → ((i : ℕ) → i < length ws → Reach mem roots (get_or ws i 0)) → AllStand c shared mem ws us → AllStand (both c d) shared mem ws us
  unfolding AllStand
  narrowed-all [] end reach none = tt
  narrowed-all [] (t ▹ us) reach none = absurd none
  narrowed-all (w ∷ ws) end reach none = absurd none
  narrowed-all (w ∷ ws) (t ▹ us) reach (first, rest) = (narrowed-word w t (reach 0 (omega arith)) first, narrowed-all ws us (λ i below. reach (suc i) (omega arith)) rest)

  pub narrowed : AllStand (both c d) shared mem roots ts
  narrowed = narrowed-all roots ts (λ i below. root i (get_or roots i 0) below refl) all
