-- A room holds the objects that go there where it has as many words as the counted places that they lie in.
use Rattle.std.proofs.Common.{◌≡◌, ℕ, ◌+◌, ◌-◌, ◌/◌, ◌≤◌, ◌⊎◌, Bool, true, List, [], ◌∷◌, ◌++◌, refl, sym, subst, arith, inl, inr}
use Rattle.term_words.specs.Counted.{ArePacked, Distinct, In, Listed, count, total}
use Rattle.term_words.specs.Role.{IsSingle}
use Rattle.term_words.specs.Stands.{AllStand}
use Rattle.term_words.proofs.Placing.Apart.{objects-apart}
use Rattle.term_words.proofs.Totals.Counts.{count-most}
use Rattle.term_words.proofs.Totals.Flat.{listed}
use Rattle.term_words.proofs.Totals.Members.{both-total, in-left, in-or-not, in-right}
use Rattle.term_words.proofs.Totals.Packing.{packed}
use Rattle.term_words.proofs.Reaching.Reached.{reached}
use Rattle.cheney.specs.Plan.{Plan, Reached, Leaves, IsIn, RoomFits, LiesBetween, size}
use Rattle.cheney.proofs.Before.Basics.{same-room, leaves-or-not, size-some}

-- The object leaves, goes to this room, and is none of a list.
record Goes (p : Plan) (b : Bool) (others : List ℕ) (v : ℕ) : Type 0 where
  pub leaves : Leaves p v
  pub room : p.mature (v / 4) ≡ b
  pub other : In v others → ⊥

goes-or-not : (p : Plan) (b : Bool) (others : List ℕ) (v : ℕ) → Goes p b others v ⊎ (Goes p b others v → ⊥)
goes-or-not p b others v = elim (leaves-or-not p v) [
  | inr n ↦ inr (λ g. n g.leaves)
  | inl l ↦ elim (same-room (p.mature (v / 4)) b) [
    | inr n ↦ inr (λ g. n g.room)
    | inl e ↦ elim (in-or-not v others) [ inl i ↦ inr (λ g. g.other i) | inr n ↦ inl (record { leaves = l; room = e; other = n }) ]
  ]
]

-- Those of a list, each once.
record Chosen (p : Plan) (b : Bool) (others us : List ℕ) : Type 0 where
  pub each : List ℕ
  pub once : Distinct each
  pub all : (v : ℕ) → In v us → Goes p b others v → In v each
  pub only : (v : ℕ) → In v each → In v us × Goes p b others v

chosen : (p : Plan) (b : Bool) (others us : List ℕ) → Distinct us → Chosen p b others us
chosen p b others [] d = record { each = []; once = tt; all = λ v i g. i; only = λ v i. absurd i }
chosen p b others (u ∷ us) (fresh, d) =
    let o : Chosen p b others us = chosen p b others us d in
    let P : ℕ → Type 0 = λ z. Goes p b others z in
    elim (goes-or-not p b others u) [
      | inr n ↦ record {
        each = o.each;
        once = o.once;
        all = λ v i g. elim i [ inr j ↦ o.all v j g | inl e ↦ absurd (n (subst P e g)) ];
        only = λ v i. (inr (o.only v i).0, (o.only v i).1);
      }
      | inl g ↦ record {
        each = u ∷ o.each;
        once = ((λ i. fresh (o.only u i).0), o.once);
        all = λ v i h. elim i [ inl e ↦ inl e | inr j ↦ inr (o.all v j h) ];
        only = λ v i. elim i [ inl e ↦ (inl e, subst P (sym e) g) | inr j ↦ (inr (o.only v j).0, (o.only v j).1) ];
      }
    ]

module _ (p : Plan) (b : Bool) (from to : ℕ) (standing : AllStand p.test p.shared p.start p.roots p.trees) (single : IsSingle p.test) (order : from ≤ to) where
  module _ (others : List ℕ) (s : ℕ → Bool) (lies : (v : ℕ) → Reached p v → Leaves p v → p.mature (v / 4) ≡ b → In v others ⊎ LiesBetween p s from to v) where
    lies-in : (l : Listed p.start p.roots) (o : Chosen p b others l.each) (v : ℕ) → In v o.each → Reached p v × (Leaves p v × LiesBetween p s from to v)
    lies-in l o v i =
        let g : Goes p b others v = (o.only v i).1 in
        let r : Reached p v = (l.only v (o.only v i).0).1 in
        (r, (g.leaves, elim (lies v r g.leaves g.room) [ inl j ↦ absurd (g.other j) | inr there ↦ there ]))

    apart : (v w : ℕ) → Reached p v → Leaves p v → Reached p w → Leaves p w → (v ≡ w) ⊎ ((v / 4 + size p v ≤ w / 4) ⊎ (w / 4 + size p w ≤ v / 4))
    unfolding size
    apart v w r x u z =
        let (t, a) = reached p.test p.shared p.start p.roots p.trees standing v r in
        let (y, c) = reached p.test p.shared p.start p.roots p.trees standing w u in
        objects-apart p.test p.shared p.start v w t y single a c x.pointer z.pointer

    are-packed : (l : Listed p.start p.roots) (o : Chosen p b others l.each) → ArePacked (λ v. v / 4) (size p) s from (to - from) o.each
    are-packed l o = record {
      once = o.once;
      apart = λ v w i j. apart v w (lies-in l o v i).0 (lies-in l o v i).1.0 (lies-in l o w j).0 (lies-in l o w j).1.0;
      some = λ v i. size-some p v (lies-in l o v i).1.0.pointer;
      inside = λ v i. ((lies-in l o v i).1.1.above, omega (arith, (lies-in l o v i).1.1.below, order));
      passes = λ v q i low high. (lies-in l o v i).1.1.passes q (record { from = low; below = high });
    }

    fits-by : (l : Listed p.start p.roots) (o : Chosen p b others l.each) → p.low b + (count s from (to - from) + total (size p) others) ≤ p.high b → RoomFits p b
    fits-by l o room = record {
      each = o.each ++ others;
      all = λ w r x goes. elim (in-or-not w others) [
        | inl i ↦ in-right w o.each others i
        | inr n ↦ in-left w o.each others (o.all w (l.all w r x.pointer) (record { leaves = x; room = goes; other = n }))
      ];
      words = omega (arith, room, both-total (size p) o.each others, packed (λ v. v / 4) (size p) s from (to - from) o.each (are-packed l o));
    }

    pub fits-further : p.low b + (count s from (to - from) + total (size p) others) ≤ p.high b → RoomFits p b
    fits-further room =
        let l : Listed p.start p.roots = listed p.test p.shared p.start p.roots p.trees standing in
        fits-by l (chosen p b others l.each l.once) room

  module _ (lies : (v : ℕ) → Reached p v → Leaves p v → p.mature (v / 4) ≡ b → (from ≤ v / 4) × (v / 4 + size p v ≤ to)) where
    pub fits-by-places : (s : ℕ → Bool) → ((v q : ℕ) → Reached p v → Leaves p v → p.mature (v / 4) ≡ b → IsIn p v q → s q ≡ true) → p.low b + count s from (to - from) ≤ p.high b → RoomFits p b
    fits-by-places s passes room = fits-further [] s (λ v r l e. inr (record { above = (lies v r l e).0; below = (lies v r l e).1; passes = λ q i. passes v q r l e i })) (omega (arith, room))

    -- The whole range is counted.
    pub fits-by-range : p.low b + (to - from) ≤ p.high b → RoomFits p b
    fits-by-range room = fits-by-places (λ q. true) (λ v q r x e h. refl) (omega (arith, room, count-most (λ q. true) from (to - from)))
