-- Where all is scanned: what the collection has done.
use Rattle.std.proofs.Common.{◌≡◌, ℕ, ◌+◌, ◌-◌, ◌/◌, ◌%◌, ◌<◌, ◌≤◌, ◌⊎◌, if◌then◌else◌, nat_lt, Bool, true, false, List, [], ◌∷◌, length, suc, get_or, refl, sym, ◌∙◌, ap, subst, arith, inl, inr}
use Rattle.std.proofs.lemmas.Bool.{cases_Bool}
use Rattle.std.proofs.lemmas.Bool.Decides.{nat_tests}
use Rattle.plain_term.specs.Measures.{flat_of_all}
use Rattle.plain_term.specs.Tree.{Tree, Trees}
use Rattle.plain_term.specs.Tree.Trees.{end, ◌▹◌}
use Rattle.term_words.specs.Object.{IsPointer, object_words}
use Rattle.term_words.specs.Reach.{Reach, root, part, first_traced}
use Rattle.term_words.specs.Role.{always}
use Rattle.term_words.specs.Stands.{Stands, AllStand}
use Rattle.term_words.specs.Counted.{In, total}
use Rattle.cheney.specs.Plan.{Plan, Ready, Reached, Leaves, size, first}
use Rattle.cheney.specs.Moved.{moved, forward, IsImage}
use Rattle.cheney.specs.Zones.{Marks, IsCopy, Row, IsRowOfCopies, Gone, Invariant, scanned_at}
use Rattle.cheney.specs.Collected.{IsMoved, IsFilled, IsLeftOrMoved, FollowsMoves, Collected, AreImages, Composes}
use Rattle.cheney.proofs.Before.Basics.{moved-boxed, same-room, not-both, leaves-or-not, size-some}
use Rattle.cheney.proofs.After.Counts.{words-bounded}
use Rattle.cheney.proofs.Before.Ground.{Ground, not-shown, shown-header, stay-not-shown}
use Rattle.cheney.proofs.After.Homes.{Home, Settled, composed, image-stands, shape}
use Rattle.cheney.proofs.Stepping.Writing.{at-copy}

-- Where the word at a place of a row stood before it was copied.
pub old_place : Plan → ℕ → List ℕ → ℕ → ℕ
old_place p place [] q = q
old_place p place (v ∷ vs) q = if nat_lt q (place + size p v) then v / 4 + (q - place) else old_place p (place + size p v) vs q

-- A place of a row lies in one of its copies.
pub record Covers (p : Plan) (m : List ℕ) (b : Bool) (place : ℕ) (vs : List ℕ) (q : ℕ) : Type 0 where
  pub v : ℕ
  pub from : ℕ
  pub listed : In v vs
  pub copy : IsCopy p m b v from
  pub above : from ≤ q
  pub below : q < from + size p v
  pub old : old_place p place vs q ≡ v / 4 + (q - from)

pub covers : (p : Plan) (m : List ℕ) (b : Bool) (place : ℕ) (vs : List ℕ) (top q : ℕ) → Row p m b place vs top → place ≤ q → q < top → Covers p m b place vs q
unfolding old_place
covers p m b place [] top q row low high = absurd (omega (arith, row))
covers p m b place (v ∷ vs) top q (c, row) low high =
    let cut : (q < place + size p v) ⊎ (place + size p v ≤ q) = grind arith in
    elim cut [
      | inl z ↦ record { v = v; from = place; listed = inl refl; copy = c; above = low; below = z; old = (let e : nat_lt q (place + size p v) ≡ true = grind (arith, nat_tests) in rw e refl) }
      | inr z ↦ (let o : Covers p m b (place + size p v) vs q = covers p m b (place + size p v) vs top q row z high in
          record {
            v = o.v;
            from = o.from;
            listed = inr o.listed;
            copy = o.copy;
            above = o.above;
            below = o.below;
            old =
                (let e : nat_lt q (place + size p v) ≡ false = grind (arith, nat_tests) in rw e o.old);
          })
    ]

-- The words of a row are those of its objects.
pub row-total : (p : Plan) (m : List ℕ) (b : Bool) (place : ℕ) (vs : List ℕ) (top : ℕ) → Row p m b place vs top → place + total (size p) vs ≡ top
row-total p m b place [] top row = omega (arith, row)
row-total p m b place (v ∷ vs) top (c, row) = omega (arith, row-total p m b (place + size p v) vs top row)

module _ (p : Plan) (y : Ready p) (g : Ground p) (m : List ℕ) (top : Bool → ℕ) (k : Marks) (i : Invariant p m top k) (done : (b : Bool) → scanned_at k b ≡ top b)
    (roots : (j : ℕ) → j < length p.roots → Leaves p (get_or p.roots j 0) → moved m (get_or p.roots j 0) ≡ true) where
  copied : (v : ℕ) → Reached p v → Leaves p v → moved m v ≡ true → IsMoved p m top v (forward m v)
  copied v r l h =
      let G : Gone p m top (scanned_at k) v (forward m v) = i.gone v r l h in
      record {
        tag = G.tag;
        from = G.from;
        below = G.below;
        same = λ j q less below e. G.raw j q below e (inr less);
        mapped = λ j q from below e. G.image j q from below e (omega (arith, G.below, done (p.mature (v / 4))));
      }

  -- What stays points to nothing that moves.
  not-from-stay : (v j x : ℕ) → Reached p v → IsPointer v → (Leaves p v → ⊥) → first p v ≤ j → j < size p v → x ≡ get_or p.start (v / 4 + j) 0 → Leaves p x → ⊥
  not-from-stay v j x r w n from below e l =
      let s : p.stay (v / 4) ≡ true = elim (cases_Bool (p.stay (v / 4))) [ inl t ↦ t | inr f ↦ absurd (n (record { pointer = w; leaves = f })) ] in
      let P : ℕ → Type 0 = λ z. Leaves p z in
      y.closed v j r w s from below (subst P e l)

  not-from-stays : (v j x : ℕ) → Reached p v → IsPointer v → (Leaves p v → ⊥) → first_traced p.start v ≤ j → j < object_words p.start v → x ≡ get_or p.start (v / 4 + j) 0 → Leaves p x → ⊥
  unfolding first size
  not-from-stays v j x r w n from below e l = not-from-stay v j x r w n from below e l

  by-copy : (v j x : ℕ) → Reached p v → Leaves p v → moved m v ≡ true → first p v ≤ j → j < size p v → x ≡ get_or p.start (v / 4 + j) 0 → Leaves p x → moved m x ≡ true
  by-copy v j x r l h from below e lx =
      let c : IsMoved p m top v (forward m v) = copied v r l h in
      let P : ℕ → Type 0 = λ z. Leaves p z → moved m z ≡ true in
      let there : Leaves p (get_or p.start (v / 4 + j) 0) → moved m (get_or p.start (v / 4 + j) 0) ≡ true = λ z. ((c.mapped j (forward m v / 4 + j) from below refl).gone z).0 in
      subst P (sym e) there lx

  by-copies : (v j x : ℕ) → Reached p v → Leaves p v → moved m v ≡ true → first_traced p.start v ≤ j → j < object_words p.start v → x ≡ get_or p.start (v / 4 + j) 0 → Leaves p x → moved m x ≡ true
  unfolding first size
  by-copies v j x r l h from below e lx = by-copy v j x r l h from below e lx

  pub complete : (w : ℕ) → Reach p.start p.roots w → Leaves p w → moved m w ≡ true
  complete w (root j x less e) l = let P : ℕ → Type 0 = λ z. Leaves p z → moved m z ≡ true in subst P (sym e) (roots j less) l
  complete w (part v j x r t from below e) l = elim (leaves-or-not p v) [
    | inl lv ↦ by-copies v j w r lv (complete v r lv) from below e l
    | inr n ↦ absurd (not-from-stays v j w r t n from below e l)
  ]

  one-or-apart : (v w : ℕ) → Reached p v → Leaves p v → Reached p w → Leaves p w → (v ≡ w) ⊎ ((forward m v / 4 + size p v ≤ forward m w / 4) ⊎ (forward m w / 4 + size p w ≤ forward m v / 4))
  one-or-apart v w r l s j =
      let a : IsMoved p m top v (forward m v) = copied v r l (complete v r l) in
      let b : IsMoved p m top w (forward m w) = copied w s j (complete w s j) in
      elim (same-room (p.mature (v / 4)) (p.mature (w / 4))) [
        | inl e ↦ i.apart v w r l (complete v r l) s j (complete w s j) e
        | inr ne ↦ elim (g.rooms (p.mature (v / 4)) (p.mature (w / 4)) ne) [
          | inl z ↦ inr (inl (omega (arith, z, a.below, b.from, i.ends (p.mature (v / 4)))))
          | inr z ↦ inr (inr (omega (arith, z, b.below, a.from, i.ends (p.mature (w / 4)))))
        ]
      ]

  is-filled : (b : Bool) → IsFilled p m b (top b)
  is-filled b =
      let o : IsRowOfCopies p m b (p.low b) (top b) = i.whole b in
      record {
        each = o.each;
        row = o.row;
        all = λ v r l goes.
            let c : IsMoved p m top v (forward m v) = copied v r l (complete v r l) in
            let some : 0 < size p v = size-some p v l.pointer in
            let P : Bool → Type 0 = λ z. p.low z ≤ forward m v / 4 in
            let Q : Bool → Type 0 = λ z. forward m v / 4 + size p v ≤ top z in
            let low : p.low b ≤ forward m v / 4 = subst P goes c.from in
            let high : forward m v / 4 + size p v ≤ top b = subst Q goes c.below in
            let at : Covers p m b (p.low b) o.each (forward m v / 4) = covers p m b (p.low b) o.each (top b) (forward m v / 4) o.row low (omega arith) in
            let same : (v ≡ at.v) × (forward m v / 4 ≡ at.from + 0) = at-copy p m top k i b at.v at.from at.copy v 0 (forward m v / 4) r l (complete v r l) goes (omega arith) some at.above
            at.below in
            let R : ℕ → Type 0 = λ z. In z o.each in
            subst R (sym same.0) at.listed;
      }

  module _ (d : ℕ → ℕ → Bool) (f : FollowsMoves p m d) where
    home-moved : (w x : ℕ) → Reached p w → Leaves p w → x ≡ forward m w → Home p m d w x
    home-moved w x r l e =
        let c : IsMoved p m top w (forward m w) = copied w r l (complete w r l) in
        let P : ℕ → Type 0 = λ z. Home p m d w z in
        subst P (sym e) (record {
          tag = c.tag;
          within = omega (arith, c.below, i.ends (p.mature (w / 4)), g.ends (p.mature (w / 4)), i.same_len);
          same = c.same;
          mapped = c.mapped;
          roles = λ j q k less e. f.moves w j q k r l less e;
        })

    home-stays : (w x : ℕ) → Reached p w → IsPointer w → p.stay (w / 4) ≡ true → x ≡ w → Home p m d w x
    home-stays w x r t s e =
        let P : ℕ → Type 0 = λ z. Home p m d w z in
        let n : Leaves p w → ⊥ = λ l. not-both (p.stay (w / 4)) s l.leaves in
        let word : (j q : ℕ) → j < size p w → q ≡ w / 4 + j → get_or m q 0 ≡ get_or p.start (w / 4 + j) 0 = λ j q less z.
        i.still w q r t s (record { from = omega (arith, z); below = omega (arith, z, less) }) ∙ ap (λ a. get_or p.start a 0) z in
        subst P (sym e) (record {
          tag = refl;
          within = omega (arith, g.inside w r t, i.same_len);
          same = λ j q less below z. word j q below z;
          mapped = λ j q from below z. record { kept = λ u. word j q below z; gone = λ l. absurd (not-from-stay w j (get_or p.start (w / 4 + j) 0) r t n from below refl l) };
          roles = λ j q k less z h. let Q : ℕ → Type 0 = λ a. p.test a k ≡ true in f.stays w q k r t s (record { from = omega (arith, z); below = omega (arith, z, less) }) (subst Q (sym z) h);
        })

    home : (w x : ℕ) → Reached p w → IsPointer w → IsImage p m w x → Home p m d w x
    home w x r t im = elim (cases_Bool (p.stay (w / 4))) [
      | inl s ↦ home-stays w x r t s (im.kept (λ l. not-both (p.stay (w / 4)) s l.leaves))
      | inr n ↦ (let l : Leaves p w = record { pointer = t; leaves = n } in home-moved w x r l (im.gone l).1)
    ]

    is-settled : Settled p m d
    is-settled = record { complete = complete; home = home; longer = omega (arith, i.same_len); records = i.records; counts = f.counts; tests = f.records }

    pub stands-on : (w x : ℕ) (t : Tree) → Reached p w → IsImage p m w x → Stands p.test p.shared p.start w t → Stands d p.shared m x t
    stands-on w x t r im s = image-stands p y m d is-settled w x t r im s

  any-place : FollowsMoves p m always
  any-place = record { moves = λ v j q k r l less e h. refl; stays = λ v q k r t s j h. refl; counts = λ a h. refl; records = λ a k big h. refl }

  tops-low : (b : Bool) → p.low b ≤ top b
  tops-low b = omega (arith, i.begins b, i.inner b, i.outer b)

  words-copied : (top true - p.low true) + (top false - p.low false) ≤ flat_of_all p.trees
  words-copied =
      let a : IsRowOfCopies p m true (p.low true) (top true) = i.whole true in
      let b : IsRowOfCopies p m false (p.low false) (top false) = i.whole false in
      omega (
        arith,
        words-bounded p y m (p.low true) (top true) (p.low false) (top false) a.each b.each a.row b.row,
        row-total p m true (p.low true) a.each (top true) a.row,
        row-total p m false (p.low false) b.each (top false) b.row,
      )

  -- The new roots stand, each as its image, whatever the list of roots is.
  all-images : (d : ℕ → ℕ → Bool) → FollowsMoves p m d → (vs ws : List ℕ) (ts : Trees) → ((j : ℕ) → j < length vs → Reached p (get_or vs j 0)) → length ws ≡ length vs
      → ((j : ℕ) → j < length vs → IsImage p m (get_or vs j 0) (get_or ws j 0)) → AllStand p.test p.shared p.start vs ts → AllStand d p.shared m ws ts
  unfolding AllStand
  all-images d f [] [] end r n each all = tt
  all-images d f [] [] (t ▹ ts) r n each all = all
  all-images d f [] (w ∷ ws) ts r n each all = absurd (omega (arith, n))
  all-images d f (v ∷ vs) [] ts r n each all = absurd (omega (arith, n))
  all-images d f (v ∷ vs) (w ∷ ws) end r n each all = absurd all
  all-images d f (v ∷ vs) (w ∷ ws) (t ▹ ts) r n each (s, all) =
      (stands-on d f v w t (r 0 (omega arith)) (each 0 (omega arith)) s, all-images d f vs ws ts (λ j less. r (suc j) (omega arith)) (omega (arith, n)) (λ j less. each (suc j) (omega arith)) all)

  roots-stand : (d : ℕ → ℕ → Bool) → FollowsMoves p m d → (ws : List ℕ) → AreImages p m ws → AllStand d p.shared m ws p.trees
  roots-stand d f ws a = all-images d f p.roots ws p.trees (λ j less. root j (get_or p.roots j 0) less refl) a.count a.each y.standing

  -- Whether a boxed object was reached is told by its header.
  left-or-moved : (v : ℕ) → v % 4 ≡ 2 → p.test (v / 4) 3 ≡ true → get_or p.start (v / 4) 0 % 4 ≡ 0 → IsLeftOrMoved p m v
  left-or-moved v tag role header = elim (i.touched (v / 4) 3 role) [
    | inl e ↦ inl (e, moved-boxed m v tag ∙ (let z : get_or m (v / 4) 0 % 4 ≡ 0 = ap (λ x. x % 4) e ∙ header in rw z refl))
    | inr w ↦ (let same : w.v ≡ v = shown-header p y w.v v w.reached w.leaves.pointer tag role header w.shows in
        let P : ℕ → Type 0 = λ x. Reached p x × (Leaves p x × (moved m x ≡ true)) in
        inr (subst P same (w.reached, (w.leaves, w.gone))))
  ]

  pub collected : Collected p m top
  collected = record {
    same_len = i.same_len;
    complete = complete;
    copies = λ v r l. copied v r l (complete v r l);
    one_to_one = one-or-apart;
    filled = is-filled;
    ends = i.ends;
    words = words-copied;
    trees = stands-on;
    roots = roots-stand;
    standing = stands-on always any-place;
    still = i.still;
    tails = i.tails;
    records = i.records;
    untouched = λ a r h three four. elim (i.touched a r h) [ inl e ↦ e | inr w ↦ absurd (not-shown p y w.v a r w.reached w.leaves.pointer h three four w.shows) ];
    unmoved = λ a r h stay whole. elim (i.touched a r h) [ inl e ↦ e | inr w ↦ absurd (stay-not-shown p w.v a w.reached w.leaves stay whole w.shows) ];
    headers = left-or-moved;
    touched = i.touched;
  }

  all-settled : Settled p m always
  all-settled = is-settled always any-place

  pub composes : Composes p m
  composes = composed p y m always all-settled

  pub shape-image : (v x : ℕ) → Reached p v → IsPointer v → IsImage p m v x → (object_words m x ≡ size p v) × (first_traced m x ≡ first p v)
  shape-image v x r t im = shape p y m always all-settled v x r t im

  pub fresh : (ws : List ℕ) → AreImages p m ws → (x : ℕ) → Reach m ws x → (v : ℕ) × (Reached p v × IsImage p m v x)
  fresh = composes.fresh
