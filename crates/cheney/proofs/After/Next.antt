-- The roles of the new memory's words, and a collection that begins where one has ended.
use Rattle.std.proofs.Common.{◌≡◌, ℕ, ◌+◌, ◌-◌, ◌*◌, ◌/◌, ◌%◌, ◌<◌, ◌≤◌, ◌⊎◌, ◌==◌, Bool, true, false, List, [], ◌∷◌, ◌++◌, length, get_or, refl, sym, ◌∙◌, ap, subst, arith, inl, inr, if◌then◌else◌, nat_le, nat_lt, ◌&&◌, ◌||◌}
use Rattle.std.proofs.lemmas.Bool.Decides.{nat_tests}
use Rattle.std.proofs.lemmas.Bool.{and_parts, cases_Bool}
use Rattle.plain_term.specs.Tree.{Trees}
use Rattle.term_words.specs.Object.{IsPointer, object_words}
use Rattle.term_words.specs.Reach.{Reach, first_traced}
use Rattle.term_words.specs.Role.{always, IsSingle}
use Rattle.term_words.specs.Tiled.{IsTile, Tiled, tile_words}
use Rattle.term_words.proofs.Reaching.Reached.{reached}
use Rattle.term_words.proofs.Placing.Tiles.{tiled-object}
use Rattle.term_words.specs.Stands.{AllStand}
use Rattle.cheney.specs.declared.moving.Moving.{Moving}
use Rattle.term_words.specs.Counted.{In, total}
use Rattle.cheney.specs.Plan.{Plan, Ready, Reached, Leaves, RoomFits, size, first}
use Rattle.cheney.specs.Moved.{forward, IsImage}
use Rattle.cheney.specs.Zones.{Row, at_objects}
use Rattle.cheney.specs.Rooms.{Runs, top_of}
use Rattle.cheney.specs.Collected.{Collected, IsMoved, RootsMoved, used}
use Rattle.cheney.specs.Next.{CollectionGoesOn, HasRoles, IsCarried, IsTiled, Remains, Succeeds}
use Rattle.cheney.proofs.Before.Basics.{not-both, leaves-or-not, size-some}
use Rattle.cheney.proofs.Rooted.Begins.{done}
use Rattle.term_words.proofs.Totals.Members.{both-total}
use Rattle.cheney.proofs.After.Counts.{in-row}
use Rattle.cheney.proofs.After.Ends.{Covers, covers, old_place, row-total, fresh, shape-image}
use Rattle.cheney.proofs.Before.Ground.{ground}
use Rattle.cheney.proofs.Rooted.Rows.{in-joined}

first-or : (a b c : Bool) → b ≡ true → (a || (b || c)) ≡ true
first-or true b c h = refl
first-or false b c h = rw h refl

last-or : (a b : Bool) → (a || (b || true)) ≡ true
last-or true b = refl
last-or false true = refl
last-or false false = refl

by-neither : (x t a b c : Bool) → a ≡ false → b ≡ false → x ≡ t → x ≡ true → (a || (b || c)) ≡ true → (t ≡ true) × (c ≡ true)
by-neither x t a b true e f same h i = (sym same ∙ h, refl)
by-neither x t true b false e f same h i = absurd (not-both true refl e)
by-neither x t false true false e f same h i = absurd (not-both true refl f)
by-neither x t false false false e f same h i = absurd (not-both false i refl)

-- The place is in use in the room.
in_use : Plan → (Bool → ℕ) → Bool → ℕ → Bool
in_use p top b a = nat_le (p.low b) a && nat_lt a (top b)

in-use : (p : Plan) (top : Bool → ℕ) (b : Bool) (a : ℕ) → p.low b ≤ a → a < top b → in_use p top b a ≡ true
unfolding in_use
in-use p top b a low high = grind (arith, nat_tests)

use-is : (p : Plan) (top : Bool → ℕ) (b : Bool) (a : ℕ) → in_use p top b a ≡ true → (p.low b ≤ a) × (a < top b)
unfolding in_use
use-is p top b a h = (grind (arith, nat_tests), grind (arith, nat_tests))

not-use : (p : Plan) (top : Bool → ℕ) (b : Bool) (a : ℕ) → (a < p.low b) ⊎ (top b ≤ a) → in_use p top b a ≡ false
unfolding in_use
not-use p top b a h = grind (arith, nat_tests)

-- Where the word at a place of the new memory stood before.
origin : Plan → (Bool → ℕ) → (Bool → List ℕ) → ℕ → ℕ
origin p top each a =
    if in_use p top true a then old_place p (p.low true) (each true) a else (if in_use p top false a then old_place p (p.low false) (each false) a else a)

-- The role of that word, and for a word that did not move only what s keeps.
new_test : Plan → (Bool → ℕ) → (Bool → List ℕ) → (ℕ → ℕ → Bool) → ℕ → ℕ → Bool
new_test p top each s a k = p.test (origin p top each a) k && (in_use p top true a || (in_use p top false a || s a k))

module _ (p : Plan) (y : Ready p) (m : List ℕ) (top : Bool → ℕ) (o : Collected p m top) where
  origin-in : (b : Bool) (a : ℕ) → p.low b ≤ a → a < top b → origin p top (λ c. (o.filled c).each) a ≡ old_place p (p.low b) (o.filled b).each a
  unfolding origin
  origin-in true a low high = rw (in-use p top true a low high) refl
  origin-in false a low high =
      let out : (a < p.low true) ⊎ (top true ≤ a) = elim y.rooms [ inl r ↦ inr (omega (arith, r, o.ends true)) | inr r ↦ inl (omega (arith, r, o.ends false)) ] in
      rw (not-use p top true a out, in-use p top false a low high) refl

  origin-out : (a : ℕ) → ((b : Bool) → (a < p.low b) ⊎ (p.high b ≤ a)) → origin p top (λ c. (o.filled c).each) a ≡ a
  unfolding origin
  origin-out a out =
      let no : (b : Bool) → (in_use p top b a ≡ false) = λ b. not-use p top b a (elim (out b) [ inl l ↦ inl l | inr l ↦ inr (omega (arith, l, o.ends b)) ]) in
      rw (no true, no false) refl

  -- A word of a copy stood in the object that was copied there.
  origin-copy : (v j q : ℕ) → Reached p v → Leaves p v → j < size p v → q ≡ forward m v / 4 + j → origin p top (λ c. (o.filled c).each) q ≡ v / 4 + j
  origin-copy v j q r l less e =
      let b : Bool = p.mature (v / 4) in
      let c : IsMoved p m top v (forward m v) = o.copies v r l in
      let at : Covers p m (p.mature (v / 4)) (p.low (p.mature (v / 4))) (o.filled (p.mature (v / 4))).each q =
      covers p m (p.mature (v / 4)) (p.low (p.mature (v / 4))) (o.filled (p.mature (v / 4))).each (top (p.mature (v / 4))) q (o.filled (p.mature (v / 4))).row (omega (arith, c.from, e))
      (omega (arith, c.below, e, less)) in
      let home : forward m at.v / 4 ≡ at.from = omega (arith, at.copy.word, at.copy.leaves.pointer) in
      origin-in (p.mature (v / 4)) q (omega (arith, c.from, e)) (omega (arith, c.below, e, less)) ∙ at.old ∙ (elim (o.one_to_one v at.v r l at.copy.reached at.copy.leaves) [
        | inl same ↦ (let f : forward m v / 4 ≡ at.from = ap (λ z. forward m z / 4) same ∙ home in omega (arith, ap (λ z. z / 4) same, f, e))
        | inr (inl a) ↦ absurd (omega (arith, a, home, at.above, e, less))
        | inr (inr a) ↦ absurd (omega (arith, a, home, at.below, e))
      ])

  module _ (s : ℕ → ℕ → Bool) where
    moved-role : (v j q k : ℕ) → Reached p v → Leaves p v → j < size p v → q ≡ forward m v / 4 + j → p.test (v / 4 + j) k ≡ true → new_test p top (λ c. (o.filled c).each) s q k ≡ true
    unfolding new_test
    moved-role v j q k r l less e h =
        let c : IsMoved p m top v (forward m v) = o.copies v r l in
        let here : in_use p top (p.mature (v / 4)) q ≡ true = in-use p top (p.mature (v / 4)) q (omega (arith, c.from, e)) (omega (arith, c.below, e, less)) in
        let some : (b : Bool) → in_use p top b q ≡ true → (in_use p top true q || (in_use p top false q || s q k)) ≡ true = λ b.
        elim b as (λ d. in_use p top d q ≡ true → (in_use p top true q || (in_use p top false q || s q k)) ≡ true) [
          | true ↦ λ u. rw u refl
          | false ↦ λ u. first-or (in_use p top true q) (in_use p top false q) (s q k) u
        ] in
        rw (origin-copy v j q r l less e, h) (some (p.mature (v / 4)) here)

    kept-role : (a k : ℕ) → p.test a k ≡ true → s a k ≡ true → new_test p top (λ c. (o.filled c).each) s a k ≡ true
    unfolding new_test
    kept-role a k h i = rw (origin-out a (y.clear a k h), h, i) (last-or (in_use p top true a) (in_use p top false a))

    -- A role in use in a room came with a copy.
    from-copy : (a k : ℕ) (b : Bool) → p.low b ≤ a → a < top b → p.test (origin p top (λ c. (o.filled c).each) a) k ≡ true → IsCarried p m a k
    from-copy a k b low high h =
        let at : Covers p m b (p.low b) (o.filled b).each a = covers p m b (p.low b) (o.filled b).each (top b) a (o.filled b).row low high in
        let P : ℕ → Type 0 = λ x. p.test x k ≡ true in
        record {
          v = at.v;
          j = a - at.from;
          reached = at.copy.reached;
          leaves = at.copy.leaves;
          below = omega (arith, at.above, at.below);
          place = omega (arith, at.above, at.copy.word, at.copy.leaves.pointer);
          role = subst P (origin-in b a low high ∙ at.old) h;
        }

    role-comes : (a k : ℕ) → new_test p top (λ c. (o.filled c).each) s a k ≡ true → IsCarried p m a k ⊎ ((p.test a k ≡ true) × (s a k ≡ true))
    unfolding new_test origin
    role-comes a k h =
        let (there, allowed) = and_parts (p.test (origin p top (λ c. (o.filled c).each) a) k) (in_use p top true a || (in_use p top false a || s a k)) h in
        elim (cases_Bool (in_use p top true a)) [
          | inl t ↦ inl (from-copy a k true (use-is p top true a t).0 (use-is p top true a t).1 there)
          | inr f ↦ elim (cases_Bool (in_use p top false a)) [
            | inl t ↦ inl (from-copy a k false (use-is p top false a t).0 (use-is p top false a t).1 there)
            | inr g ↦ inr (by-neither (p.test (origin p top (λ c. (o.filled c).each) a) k) (p.test a k) (in_use p top true a) (in_use p top false a) (s a k) f g (rw (f, g) refl) there allowed)
          ]
        ]

  pub has-roles : (s : ℕ → ℕ → Bool) → Remains p s → HasRoles p m s
  unfolding new_test
  has-roles s z = record {
    test = new_test p top (λ c. (o.filled c).each) s;
    single = record {
      one = λ a j k h i.
          y.single.one (origin p top (λ c. (o.filled c).each) a) j k (and_parts (p.test (origin p top (λ c. (o.filled c).each) a) j) (in_use p top true a || (in_use p top false a || s a j)) h).0
          (and_parts (p.test (origin p top (λ c. (o.filled c).each) a) k) (in_use p top true a || (in_use p top false a || s a k)) i).0;
    };
    follows = record {
      moves = λ v j q k r l less e h. moved-role s v j q k r l less e h;
      stays = λ v q k r t w i h. kept-role s q k h (z.stays v q k r t w i h);
      counts = λ a h. kept-role s a 2 h (z.counts a h);
      records = λ a k big h. kept-role s a k h (z.records a k big h);
    };
    kept = kept-role s;
    comes = role-comes s;
  }

-- Where the copies of a list of objects lie.
forwards : List ℕ → List ℕ → List ℕ
forwards m [] = []
forwards m (v ∷ vs) = forward m v ∷ forwards m vs

in-forwards : (m : List ℕ) (v w : ℕ) (vs : List ℕ) → In v vs → w ≡ forward m v → In w (forwards m vs)
unfolding forwards
in-forwards m v w [] i e = absurd i
in-forwards m v w (u ∷ us) (inl same) e = inl (e ∙ ap (forward m) same)
in-forwards m v w (u ∷ us) (inr i) e = inr (in-forwards m v w us i e)

of-forwards : (m : List ℕ) (x : ℕ) (vs : List ℕ) → In x (forwards m vs) → (v : ℕ) × (In v vs × (x ≡ forward m v))
unfolding forwards
of-forwards m x [] i = absurd i
of-forwards m x (u ∷ us) (inl e) = (u, (inl refl, e))
of-forwards m x (u ∷ us) (inr i) = let (v, (j, e)) = of-forwards m x us i in (v, (inr j, e))

module _ (p : Plan) (m : List ℕ) (mv : Moving) (run : Runs p m mv (at_objects mv.aged.top mv.young.top)) (roots : RootsMoved p m) (o : Collected p m (top_of mv)) where
  copy-tile : (v place : ℕ) → Reached p v → Leaves p v → forward m v ≡ place * 4 + v % 4 → (forward m v / 4 ≡ place) × (IsTile m (forward m v) × (tile_words m (forward m v) ≡ size p v))
  copy-tile v place r l e =
      let im : IsImage p m v (forward m v) = record { kept = λ nay. absurd (nay l); gone = λ i. (o.complete v r l, refl) } in
      let (t, s) = reached p.test p.shared p.start p.roots p.trees run.ready.standing v r in
      let c : IsMoved p m (top_of mv) v (forward m v) = o.copies v r l in
      let pointer : IsPointer (forward m v) = elim l.pointer [ inl a ↦ inl (omega (arith, a, c.tag)) | inr a ↦ inr (omega (arith, a, c.tag)) ] in
      let (here, is, rest) = tiled-object always p.shared m (forward m v) t (o.standing v (forward m v) t r im s) pointer in
      let other : (forward m v % 4 == 0) ≡ false = grind (arith, nat_tests, pointer) in (
        omega (arith, e, l.pointer),
        (
          is,
          (rw other (shape-image p run.ready (ground p run.ready) m (top_of mv) (at_objects mv.aged.top mv.young.top) run.holds (done mv) roots.each v
              (forward m v) r l.pointer im).0),
        ),
      )

  row-tiled : (b : Bool) (place : ℕ) (vs : List ℕ) (top : ℕ) → Row p m b place vs top → Tiled m place (forwards m vs) top
  unfolding forwards
  row-tiled b place [] top row = row
  row-tiled b place (v ∷ vs) top (c, row) =
      let (here, (is, words)) = copy-tile v place c.reached c.leaves c.word in
      let P : ℕ → Type 0 = λ z. Tiled m (place + z) (forwards m vs) top in
      (here, is, subst P (sym words) (row-tiled b (place + size p v) vs top row))

  pub is-tiled : (b : Bool) → IsTiled p m b (top_of mv b)
  is-tiled b = record {
    tiles = forwards m (o.filled b).each;
    row = row-tiled b (p.low b) (o.filled b).each (top_of mv b) (o.filled b).row;
    all = λ v r l goes. in-forwards m v (forward m v) (o.filled b).each ((o.filled b).all v r l goes) refl;
    only = λ x i. let (v, (j, e)) = of-forwards m x (o.filled b).each i in let (r, (l, (goes, low))) = in-row p m b (p.low b) (o.filled b).each (top_of mv b) (o.filled b).row v j in
        (v, (r, (l, (goes, e))));
  }

module _ (p q : Plan) (m : List ℕ) (mv : Moving) (run : Runs p m mv (at_objects mv.aged.top mv.young.top)) (roots : RootsMoved p m) (o : Collected p m (top_of mv)) (n : Succeeds p q m) where
  -- What the second plan reaches is what a word that the first one reached has become.
  source : (x : ℕ) → Reached q x → (v : ℕ) × (Reached p v × IsImage p m v x)
  source x t =
      let P : List ℕ → Type 0 = λ z. Reach z q.roots x in
      fresh p run.ready (ground p run.ready) m (top_of mv) (at_objects mv.aged.top mv.young.top) run.holds (done mv) roots.each q.roots n.images x (subst P n.memory t)

  shape : (v x : ℕ) → Reached p v → IsPointer v → IsImage p m v x → (size q x ≡ size p v) × (first q x ≡ first p v)
  unfolding size first
  shape v x t i im =
      let P : List ℕ → Type 0 = λ z. (object_words z x ≡ object_words p.start v) × (first_traced z x ≡ first_traced p.start v) in
      subst P (sym n.memory) (shape-image p run.ready (ground p run.ready) m (top_of mv) (at_objects mv.aged.top mv.young.top) run.holds (done mv) roots.each v x t i im)

  -- What leaves again is what left before.
  left : (x : ℕ) → Reached q x → Leaves q x → (v : ℕ) × (Reached p v × (Leaves p v × (x ≡ forward m v)))
  left x t l =
      let (v, (tv, im)) = source x t in
      elim (leaves-or-not p v) [
        | inl lv ↦ (v, (tv, (lv, (im.gone lv).1)))
        | inr nay ↦ absurd (let P : ℕ → Type 0 = λ z. Leaves p z in nay (subst P (im.kept nay) (record { pointer = l.pointer; leaves = sym (n.stay (x / 4)) ∙ l.leaves })))
      ]

  moved-image : (v : ℕ) → Reached p v → Leaves p v → IsImage p m v (forward m v)
  moved-image v t l = record { kept = λ nay. absurd (nay l); gone = λ i. (o.complete v t l, refl) }

  pub lies-again : (x : ℕ) → Reached q x → Leaves q x → (b : Bool) × ((p.low b ≤ x / 4) × (x / 4 + size q x ≤ top_of mv b))
  lies-again x t l =
      let (v, (tv, (lv, e))) = left x t l in
      let c : IsMoved p m (top_of mv) v (forward m v) = o.copies v tv lv in
      let P : ℕ → Type 0 = λ z. (p.low (p.mature (v / 4)) ≤ z / 4) × (z / 4 + size q z ≤ top_of mv (p.mature (v / 4))) in
      (p.mature (v / 4), subst P (sym e) (c.from, omega (arith, c.below, (shape v (forward m v) tv lv.pointer (moved-image v tv lv)).0)))

  -- What stays points to nothing that moves, where the rooms in use hold nothing that stays.
  closed-again : ((a : ℕ) (b : Bool) → p.low b ≤ a → a < top_of mv b → p.stay a ≡ false) → (x j : ℕ) → Reached q x → IsPointer x → q.stay (x / 4) ≡ true → first q x ≤ j → j < size q x →
      Leaves q (get_or q.start (x / 4 + j) 0) → ⊥
  closed-again moving x j t i stay from below l =
      let (v, (tv, im)) = source x t in
      let there : p.stay (x / 4) ≡ true = sym (n.stay (x / 4)) ∙ stay in
      elim (leaves-or-not p v) [
        | inl lv ↦ (let c : IsMoved p m (top_of mv) v (forward m v) = o.copies v tv lv in
            let e : x ≡ forward m v = (im.gone lv).1 in
            not-both (p.stay (x / 4)) there (moving (x / 4) (p.mature (v / 4)) (omega (arith, c.from, e)) (omega (arith, c.below, e, size-some p v lv.pointer))))
        | inr nay ↦ (let e : v ≡ x = sym (im.kept nay) in
            let R : ℕ → Type 0 = λ z. Reached p z in
            let I : ℕ → Type 0 = λ z. IsImage p m z x in
            let tx : Reached p x = subst R e tv in
            let (size_is, first_is) = shape x x tx i (subst I e im) in
            let word : get_or q.start (x / 4 + j) 0 ≡ get_or p.start (x / 4 + j) 0 = ap (λ z. get_or z (x / 4 + j) 0) n.memory ∙ o.still x (x / 4 + j) tx i there
            (record { from = omega arith; below = omega (arith, below, size_is) }) in
            let L : ℕ → Type 0 = λ z. Leaves p z in
            run.ready.closed x j tx i there (omega (arith, from, first_is)) (omega (arith, below, size_is))
            (subst L word (record { pointer = l.pointer; leaves = sym (n.stay (get_or q.start (x / 4 + j) 0 / 4)) ∙ l.leaves })))
      ]

  -- The copies of a row have the words of its objects.
  total-again : (b : Bool) (place : ℕ) (vs : List ℕ) (top : ℕ) → Row p m b place vs top → total (size q) (forwards m vs) ≡ total (size p) vs
  unfolding forwards
  total-again b place [] top row = refl
  total-again b place (v ∷ vs) top (c, row) = omega (arith, total-again b (place + size p v) vs top row, (shape v (forward m v) c.reached c.leaves.pointer (moved-image v c.reached c.leaves)).0)

  listed-again : (b : Bool) (w : ℕ) → Reached q w → Leaves q w → In w (forwards m (o.filled true).each ++ forwards m (o.filled false).each)
  listed-again b w t l =
      let (v, (tv, (lv, e))) = left w t l in
      elim (cases_Bool (p.mature (v / 4))) [
        | inl aged ↦ in-joined w (forwards m (o.filled true).each) (forwards m (o.filled false).each) (inl (in-forwards m v w (o.filled true).each ((o.filled true).all v tv lv aged) e))
        | inr young ↦ in-joined w (forwards m (o.filled true).each) (forwards m (o.filled false).each) (inr (in-forwards m v w (o.filled false).each ((o.filled false).all v tv lv young) e))
      ]

  pub fits-again : (b : Bool) → q.low b ≤ q.high b → (q.low b + used p (top_of mv) ≤ q.high b) ⊎ ((a : ℕ) → q.mature a ≡ b → ⊥) → RoomFits q b
  fits-again b order why = elim why [
    | inr none ↦ record { each = []; all = λ w t l goes. absurd (none (w / 4) goes); words = omega (arith, order) }
    | inl room ↦ record {
      each = forwards m (o.filled true).each ++ forwards m (o.filled false).each;
      all = λ w t l goes. listed-again b w t l;
      words = omega (
        arith,
        room,
        both-total (size q) (forwards m (o.filled true).each) (forwards m (o.filled false).each),
        total-again true (p.low true) (o.filled true).each (top_of mv true) (o.filled true).row,
        total-again false (p.low false) (o.filled false).each (top_of mv false) (o.filled false).row,
        row-total p m true (p.low true) (o.filled true).each (top_of mv true) (o.filled true).row,
        row-total p m false (p.low false) (o.filled false).each (top_of mv false) (o.filled false).row,
      );
    }
  ]

  module _ (s : ℕ → ℕ → Bool) (r : HasRoles p m s) (g : CollectionGoesOn p q m (top_of mv) s r) where
    clear-again : (a k : ℕ) (b : Bool) → r.test a k ≡ true → (a < q.low b) ⊎ (q.high b ≤ a)
    clear-again a k b h = elim (r.comes a k h) [
      | inr w ↦ g.kept_clear a k w.1 b
      | inl w ↦ (let c : IsMoved p m (top_of mv) w.v (forward m w.v) = o.copies w.v w.reached w.leaves in
          g.used_clear a (p.mature (w.v / 4)) (omega (arith, c.from, w.place)) (omega (arith, c.below, w.place, w.below)) b)
    ]

    pub ready-again : Ready q
    ready-again =
        let A : (ℕ → ℕ → Bool) → Type 0 = λ z. AllStand z p.shared m q.roots p.trees in
        let B : List (List ℕ) → Type 0 = λ z. AllStand q.test z m q.roots p.trees in
        let C : List ℕ → Type 0 = λ z. AllStand q.test q.shared z q.roots p.trees in
        let D : Trees → Type 0 = λ z. AllStand q.test q.shared q.start q.roots z in
        let S : (ℕ → ℕ → Bool) → Type 0 = λ z. IsSingle z in
        record {
          standing = subst D (sym g.trees) (subst C (sym n.memory) (subst B (sym g.shared) (subst A (sym g.test) (o.roots r.test r.follows q.roots n.images))));
          single = subst S (sym g.test) r.single;
          clear = λ a k h b. clear-again a k b (sym (ap (λ z. z a k) g.test) ∙ h);
          closed = closed-again g.moving;
          rooms = g.rooms;
          order = g.order;
          inside = λ b. omega (arith, g.inside b, ap length n.memory);
          fits = g.fits;
        }
