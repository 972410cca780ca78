-- What is one or apart has no more words than the places that it lies in.
use Rattle.std.proofs.Common.{◌≡◌, ℕ, zero, suc, ◌+◌, ◌-◌, ◌*◌, ◌/◌, ◌<◌, ◌≤◌, ◌⊎◌, Bool, true, List, [], ◌∷◌, length, refl, sym, ◌∙◌, ap, subst, arith, inl, inr}
use Rattle.plain_term.specs.Tree.{Tree}
use Rattle.term_words.specs.Role.{IsSingle}
use Rattle.term_words.specs.Object.{IsPointer, IsRecord, object_words}
use Rattle.term_words.specs.Stands.{Stands}
use Rattle.term_words.specs.Tiled.{tile_words}
use Rattle.term_words.specs.Counted.{In, Distinct, total, count, ArePacked, TileStands}
use Rattle.term_words.proofs.Placing.Apart.{objects-apart}
use Rattle.term_words.proofs.Placing.Roles.{records-apart, object-record-apart, record-some}
use Rattle.term_words.proofs.Placing.Tiles.{tiled-object, tiled-record}
use Rattle.term_words.proofs.Totals.Flat.{words-some}
use Rattle.term_words.proofs.Totals.Counts.{count-three}

module _ (at size : ℕ → ℕ) where
  -- A list in two parts: what lies below something, and what lies above it.
  record Parted (v : ℕ) (vs : List ℕ) : Type 0 where
    pub low : List ℕ
    pub high : List ℕ
    pub low_in : (u : ℕ) → In u low → In u vs × (at u + size u ≤ at v)
    pub high_in : (u : ℕ) → In u high → In u vs × (at v + size v ≤ at u)
    pub low_once : Distinct low
    pub high_once : Distinct high
    pub shorter : (length low ≤ length vs) × (length high ≤ length vs)
    pub words : total size vs ≡ total size low + total size high

  parted : (v : ℕ) (vs : List ℕ) → Distinct vs → ((u : ℕ) → In u vs → (at u + size u ≤ at v) ⊎ (at v + size v ≤ at u)) → Parted v vs
  parted v [] d each = record { low = []; high = []; low_in = λ u i. absurd i; high_in = λ u i. absurd i; low_once = tt; high_once = tt; shorter = (omega arith, omega arith); words = refl }
  parted v (u ∷ us) (n, d) each =
      let o : Parted v us = parted v us d (λ x i. each x (inr i)) in
      elim (each u (inl refl)) [
        | inl below ↦ record {
          low = u ∷ o.low;
          high = o.high;
          low_in = λ x i. elim i [ inl e ↦ (inl e, (let P : ℕ → Type 0 = λ z. at z + size z ≤ at v in subst P (sym e) below)) | inr j ↦ (inr (o.low_in x j).0, (o.low_in x j).1) ];
          high_in = λ x i. (inr (o.high_in x i).0, (o.high_in x i).1);
          low_once = ((λ i. n (o.low_in u i).0), o.low_once);
          high_once = o.high_once;
          shorter = (omega (arith, o.shorter), omega (arith, o.shorter));
          words = omega (arith, o.words);
        }
        | inr above ↦ record {
          low = o.low;
          high = u ∷ o.high;
          low_in = λ x i. (inr (o.low_in x i).0, (o.low_in x i).1);
          high_in = λ x i. elim i [ inl e ↦ (inl e, (let P : ℕ → Type 0 = λ z. at v + size v ≤ at z in subst P (sym e) above)) | inr j ↦ (inr (o.high_in x j).0, (o.high_in x j).1) ];
          low_once = o.low_once;
          high_once = ((λ i. n (o.high_in u i).0), o.high_once);
          shorter = (omega (arith, o.shorter), omega (arith, o.shorter));
          words = omega (arith, o.words);
        }
      ]

  -- A part of a list that lies in a part of the range.
  part-packed : (s : ℕ → Bool) (from n low m : ℕ) (vs us : List ℕ) → ArePacked at size s from n vs → Distinct us → ((u : ℕ) → In u us → In u vs × ((low ≤ at u) × (at u + size u ≤ low + m)))
      → ArePacked at size s low m us
  part-packed s from n low m vs us p d inner = record {
    once = d;
    apart = λ x z i j. p.apart x z (inner x i).0 (inner z j).0;
    some = λ x i. p.some x (inner x i).0;
    inside = λ x i. (inner x i).1;
    passes = λ x q i. p.passes x q (inner x i).0;
  }

  -- What lies below the first thing, itself, and what lies above it.
  packed-by : (f : ℕ) (s : ℕ → Bool) (from n : ℕ) (vs : List ℕ) → length vs ≤ f → ArePacked at size s from n vs → total size vs ≤ count s from n
  packed-by f s from n [] le p = omega arith
  packed-by zero s from n (v ∷ vs) le p = absurd (omega arith)
  packed-by (suc f) s from n (v ∷ vs) le p =
      let o : Parted v vs = parted v vs p.once.1 (λ u i. elim (p.apart u v (inr i) (inl refl)) [
        | inl e ↦ absurd (let P : ℕ → Type 0 = λ z. In z vs in p.once.0 (subst P e i))
        | inr r ↦ r
      ]) in
      let here : (from ≤ at v) × (at v + size v ≤ from + n) = p.inside v (inl refl) in
      let some : 0 < size v = p.some v (inl refl) in
      let low : total size o.low ≤ count s from (at v - from) = packed-by f s from (at v - from) o.low (omega (arith, o.shorter, le))
      (part-packed s from n from (at v - from) (v ∷ vs) o.low p o.low_once (λ u i. (inr (o.low_in u i).0, ((p.inside u (inr (o.low_in u i).0)).0, omega (arith, here, (o.low_in u i).1))))) in
      let high : total size o.high ≤ count s (at v + size v) (from + n - (at v + size v)) = packed-by f s (at v + size v) (from + n - (at v + size v)) o.high (omega (arith, o.shorter, le))
      (part-packed s from n (at v + size v) (from + n - (at v + size v)) (v ∷ vs) o.high p o.high_once
      (λ u i. (inr (o.high_in u i).0, ((o.high_in u i).1, omega (arith, here, (p.inside u (inr (o.high_in u i).0)).1))))) in
      let parts : count s from (at v - from) + (size v + count s (at v + size v) (from + n - (at v + size v))) ≡ count s from n =
      count-three s from n (at v) (size v) here.0 here.1 (λ q from2 below. p.passes v q (inl refl) from2 below) in
      omega (arith, low, high, o.words, parts)

pub packed : (at size : ℕ → ℕ) (s : ℕ → Bool) (from n : ℕ) (vs : List ℕ) → ArePacked at size s from n vs → total size vs ≤ count s from n
packed at size s from n vs p = packed-by at size (length vs) s from n vs (omega arith) p

-- Tiles that stand by a test with one role a place are one or apart.

object-size : (c : ℕ → ℕ → Bool) (shared : List (List ℕ)) (mem : List ℕ) (w : ℕ) (t : Tree) → Stands c shared mem w t → IsPointer w → tile_words mem w ≡ object_words mem w
object-size c shared mem w t s p = omega (arith, (tiled-object c shared mem w t s p).2)

record-size : (c : ℕ → ℕ → Bool) (mem : List ℕ) (w v n : ℕ) → w ≡ v * 4 → IsRecord c mem v n → tile_words mem w ≡ n
record-size c mem w v n e r = let there : tile_words mem (v * 4) ≡ n = omega (arith, (tiled-record c mem v n r).2) in ap (tile_words mem) e ∙ there

laid-some : (c : ℕ → ℕ → Bool) (shared : List (List ℕ)) (mem : List ℕ) (w : ℕ) → TileStands c shared mem w → 0 < tile_words mem w
laid-some c shared mem w (inl (p, (t, s))) = omega (arith, object-size c shared mem w t s p, words-some mem w p)
laid-some c shared mem w (inr (v, n, (e, r))) = omega (arith, record-size c mem w v n e r, record-some c mem v n r)

laid-apart : (c : ℕ → ℕ → Bool) (shared : List (List ℕ)) (mem : List ℕ) (w v : ℕ) → IsSingle c → TileStands c shared mem w → TileStands c shared mem v
    → (w ≡ v) ⊎ ((w / 4 + tile_words mem w ≤ v / 4) ⊎ (v / 4 + tile_words mem v ≤ w / 4))
laid-apart c shared mem w v single (inl (p, (t, s))) (inl (q, (u, r))) =
    let a : tile_words mem w ≡ object_words mem w = object-size c shared mem w t s p in
    let b : tile_words mem v ≡ object_words mem v = object-size c shared mem v u r q in
    elim (objects-apart c shared mem w v t u single s r p q) [ inl e ↦ inl e | inr (inl l) ↦ inr (inl (omega arith)) | inr (inr l) ↦ inr (inr (omega arith)) ]
laid-apart c shared mem w v single (inl (p, (t, s))) (inr (y, n, (e, r))) =
    let a : tile_words mem w ≡ object_words mem w = object-size c shared mem w t s p in
    let b : tile_words mem v ≡ n = record-size c mem v y n e r in
    elim (object-record-apart c shared mem w y n t single s p r) [ inl l ↦ inr (inl (omega arith)) | inr l ↦ inr (inr (omega arith)) ]
laid-apart c shared mem w v single (inr (x, m, (d, o))) (inl (q, (u, r))) =
    let a : tile_words mem v ≡ object_words mem v = object-size c shared mem v u r q in
    let b : tile_words mem w ≡ m = record-size c mem w x m d o in
    elim (object-record-apart c shared mem v x m u single r q o) [ inl l ↦ inr (inr (omega arith)) | inr l ↦ inr (inl (omega arith)) ]
laid-apart c shared mem w v single (inr (x, m, (d, o))) (inr (y, n, (e, r))) =
    let a : tile_words mem w ≡ m = record-size c mem w x m d o in
    let b : tile_words mem v ≡ n = record-size c mem v y n e r in
    elim (records-apart c mem x m y n single o r) [ inl same ↦ inl (omega arith) | inr (inl l) ↦ inr (inl (omega arith)) | inr (inr l) ↦ inr (inr (omega arith)) ]

pub laid-packed : (c : ℕ → ℕ → Bool) (shared : List (List ℕ)) (mem : List ℕ) (s : ℕ → Bool) (from n : ℕ) (ws : List ℕ) → IsSingle c → Distinct ws → ((w : ℕ) → In w ws → TileStands c shared mem w)
    → ((w : ℕ) → In w ws → (from ≤ w / 4) × (w / 4 + tile_words mem w ≤ from + n)) → ((w q : ℕ) → In w ws → w / 4 ≤ q → q < w / 4 + tile_words mem w → s q ≡ true)
    → ArePacked (λ w. w / 4) (tile_words mem) s from n ws
laid-packed c shared mem s from n ws single once laid inside passes = record {
  once = once;
  apart = λ w v i j. laid-apart c shared mem w v single (laid w i) (laid v j);
  some = λ w i. laid-some c shared mem w (laid w i);
  inside = inside;
  passes = passes;
}
