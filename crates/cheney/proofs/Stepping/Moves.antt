-- One object is moved: the state of the collection is kept.
use Rattle.std.proofs.Common.{◌≡◌, ℕ, ◌+◌, ◌/◌, ◌%◌, ◌<◌, ◌≤◌, ◌⊎◌, Bool, true, false, List, [], ◌∷◌, ◌++◌, get_or, refl, sym, ◌∙◌, ap, subst, arith, inl, inr}
use Rattle.std.proofs.lemmas.Bool.{cases_eq}
use Rattle.term_words.specs.Object.{IsPointer}
use Rattle.cheney.specs.Plan.{Plan, Reached, Leaves, IsIn, size}
use Rattle.cheney.specs.Moved.{moved, forward, IsImage, Shows, Copies}
use Rattle.cheney.specs.Zones.{Marks, IsShown, IsCopy, Row, IsRowOfCopies, Gone, StillFits, Invariant, scanned_at, object_at}
use Rattle.cheney.proofs.Before.Basics.{shows-or-not, reach-part, same-room, not-both, moved-same, forward-same, size-some, size-cons, shows-in}
use Rattle.cheney.proofs.Before.Ground.{Ground}
use Rattle.cheney.proofs.Stepping.Facts.{Grows, image-later, row-later, row-more, Without, without}

module _ (p : Plan) (g : Ground p) (m n : List ℕ) (top more : Bool → ℕ) (k : Marks) (i : Invariant p m top k) (w x : ℕ) (r : Reached p w) (l : Leaves p w)
    (here : moved m w ≡ false) (c : Copies m n w (top (p.mature (w / 4))) (size p w) x) (room : top (p.mature (w / 4)) + size p w ≤ p.high (p.mature (w / 4)))
    (grown : more (p.mature (w / 4)) ≡ top (p.mature (w / 4)) + size p w) (kept : (b : Bool) → (b ≡ p.mature (w / 4) → ⊥) → more b ≡ top b) where
  low-top : (b : Bool) → p.low b ≤ top b
  low-top b = omega (arith, i.begins b, i.inner b, i.outer b)

  -- An object's words do not lie where the copy goes.
  not-there : (v q : ℕ) → Reached p v → IsPointer v → IsIn p v q → (q < top (p.mature (w / 4))) ⊎ (top (p.mature (w / 4)) + size p w ≤ q)
  not-there v q s j h =
      let far : (q < p.low (p.mature (w / 4))) ⊎ (p.high (p.mature (w / 4)) ≤ q) = g.clear v q (p.mature (w / 4)) s j h in
      elim far [ inl a ↦ inl (omega (arith, low-top (p.mature (w / 4)))) | inr a ↦ inr (omega (arith, room)) ]

  others-same : (v q : ℕ) → Reached p v → IsPointer v → (v ≡ w → ⊥) → IsIn p v q → get_or n q 0 ≡ get_or m q 0
  others-same v q s j ne h =
      c.rest q (not-there v q s j h) (λ z.
      let own : IsIn p w q = shows-in p w q l.pointer z in
      elim (g.apart v w s j r l.pointer) [ inl e ↦ ne e | inr (inl a) ↦ omega (arith, a, h.below, own.from) | inr (inr a) ↦ omega (arith, a, h.from, own.below) ])

  own-same : (q : ℕ) → IsIn p w q → (Shows w q → ⊥) → get_or n q 0 ≡ get_or m q 0
  own-same q h hides = c.rest q (not-there w q r l.pointer h) hides

  zone-same : (b : Bool) (q : ℕ) → p.low b ≤ q → q < top b → get_or n q 0 ≡ get_or m q 0
  zone-same b q from below =
      let low2 : p.low (p.mature (w / 4)) ≤ top (p.mature (w / 4)) = low-top (p.mature (w / 4)) in
      let end : top b ≤ p.high b = i.ends b in
      let away : (q < top (p.mature (w / 4))) ⊎ (top (p.mature (w / 4)) + size p w ≤ q) =
      elim (same-room b (p.mature (w / 4))) [
        | inl e ↦ inl (let P : Bool → Type 0 = λ z. q < top z in subst P e below)
        | inr ne ↦ (let apart : (p.high b ≤ p.low (p.mature (w / 4))) ⊎ (p.high (p.mature (w / 4)) ≤ p.low b) = g.rooms b (p.mature (w / 4)) ne in
            elim apart [ inl a ↦ inl (omega arith) | inr a ↦ inr (omega (arith, room)) ])
      ] in
      c.rest q away (λ z. elim (g.clear w q b r l.pointer (shows-in p w q l.pointer z)) [ inl a ↦ omega arith | inr a ↦ omega arith ])

  record-same : (a u : ℕ) → 6 ≤ u → p.test a u ≡ true → get_or n a 0 ≡ get_or m a 0
  record-same a u big h =
      let low2 : p.low (p.mature (w / 4)) ≤ top (p.mature (w / 4)) = low-top (p.mature (w / 4)) in
      let away : (a < top (p.mature (w / 4))) ⊎ (top (p.mature (w / 4)) + size p w ≤ a) =
      elim (g.records_clear a u (p.mature (w / 4)) big h) [ inl z ↦ inl (omega arith) | inr z ↦ inr (omega (arith, room)) ] in
      c.rest a away (λ z. g.records w a u r l.pointer (shows-in p w a l.pointer z) big h)

  at-first : (v : ℕ) → IsPointer v → IsIn p v (v / 4)
  at-first v j = record { from = omega arith; below = omega (arith, size-some p v j) }

  at-second : (v : ℕ) → v % 4 ≡ 1 → IsIn p v (v / 4 + 1)
  at-second v tag = record { from = omega arith; below = omega (arith, size-cons p v tag) }

  moved-other : (v : ℕ) → Reached p v → IsPointer v → (v ≡ w → ⊥) → moved n v ≡ moved m v
  moved-other v s j ne = moved-same m n v (others-same v (v / 4) s j ne (at-first v j))

  forward-other : (v : ℕ) → Reached p v → IsPointer v → (v ≡ w → ⊥) → forward n v ≡ forward m v
  forward-other v s j ne = forward-same m n v j (others-same v (v / 4) s j ne (at-first v j)) (λ tag. others-same v (v / 4 + 1) s j ne (at-second v tag))

  -- What was moved before is another object.
  another : (v : ℕ) → moved m v ≡ true → v ≡ w → ⊥
  another v y e = not-both (moved m w) (ap (moved m) (sym e) ∙ y) here

  pub move-grows : Grows p m n
  move-grows = record {
    gone = λ v s j y. moved-other v s j.pointer (another v y) ∙ y;
    same = λ v s j y. forward-other v s j.pointer (another v y);
  }

  before : (v : ℕ) → Reached p v → Leaves p v → moved n v ≡ true → (v ≡ w → ⊥) → moved m v ≡ true
  before v s j y ne = sym (moved-other v s j.pointer ne) ∙ y

  new-place : x / 4 ≡ top (p.mature (w / 4))
  new-place = omega (arith, c.word, l.pointer)

  new-gone : Gone p n more (scanned_at k) w x
  new-gone = record {
    tag = omega (arith, c.word);
    from = omega (arith, new-place, low-top (p.mature (w / 4)));
    below = omega (arith, new-place, grown);
    raw = λ j q less e why. c.copied j q less (omega (arith, new-place)) ∙ i.waiting w (w / 4 + j) r l here (record { from = omega arith; below = omega arith });
    image = λ j q from less e low. absurd (omega (arith, new-place, low, i.inner (p.mature (w / 4)), i.outer (p.mature (w / 4))));
  }

  top-more : (b : Bool) → top b ≤ more b
  top-more b = elim (same-room b (p.mature (w / 4))) [
    | inl e ↦ (let P : Bool → Type 0 = λ z. top z ≤ more z in subst P (sym e) (omega (arith, grown)))
    | inr ne ↦ omega (arith, kept b ne)
  ]

  old-gone : (v : ℕ) → Reached p v → Leaves p v → moved m v ≡ true → Gone p n more (scanned_at k) v (forward m v)
  old-gone v s j y =
      let o : Gone p m top (scanned_at k) v (forward m v) = i.gone v s j y in
      record {
        tag = o.tag;
        from = o.from;
        below = omega (arith, o.below, top-more (p.mature (v / 4)));
        raw = λ a q less e why. zone-same (p.mature (v / 4)) q (omega (arith, o.from)) (omega (arith, o.below)) ∙ o.raw a q less e why;
        image = λ a q from less e low.
            let P : ℕ → Type 0 = λ z. IsImage p n (get_or p.start (v / 4 + a) 0) z in
            subst P (sym (zone-same (p.mature (v / 4)) q (omega (arith, o.from)) (omega (arith, o.below))))
            (image-later p m n (get_or p.start (v / 4 + a) 0) (get_or m q 0) move-grows (reach-part p v a s j.pointer from less) (o.image a q from less e low));
      }

  gone-now : (v : ℕ) → Reached p v → Leaves p v → moved n v ≡ true → Gone p n more (scanned_at k) v (forward n v)
  gone-now v s j y =
      let P : ℕ → Type 0 = λ z. Gone p n more (scanned_at k) v z in
      elim (cases_eq v w) [
        | inl e ↦ (let Q : ℕ → Type 0 = λ z. Gone p n more (scanned_at k) z (forward n z) in
            let R : ℕ → Type 0 = λ z. Gone p n more (scanned_at k) w z in
            subst Q (sym e) (subst R (sym c.found) new-gone))
        | inr ne ↦ subst P (sym (forward-other v s j.pointer ne)) (old-gone v s j (before v s j y ne))
      ]

  -- A copy of before ends where the new one begins, or lies in the other room.
  old-below : (v : ℕ) → Reached p v → Leaves p v → moved m v ≡ true → p.mature (v / 4) ≡ p.mature (w / 4) → forward n v / 4 + size p v ≤ x / 4
  old-below v s j y e =
      let o : Gone p m top (scanned_at k) v (forward m v) = i.gone v s j y in
      let same : forward n v ≡ forward m v = forward-other v s j.pointer (another v y) in
      let end : top (p.mature (v / 4)) ≡ top (p.mature (w / 4)) = ap top e in
      rw same (omega (arith, o.below, new-place, end))

  apart-now : (v u : ℕ) → Reached p v → Leaves p v → moved n v ≡ true → Reached p u → Leaves p u → moved n u ≡ true → p.mature (v / 4) ≡ p.mature (u / 4)
      → (v ≡ u) ⊎ ((forward n v / 4 + size p v ≤ forward n u / 4) ⊎ (forward n u / 4 + size p u ≤ forward n v / 4))
  apart-now v u s j y t h z e =
      elim (cases_eq v w) [
        | inl a ↦ elim (cases_eq u w) [
          | inl b ↦ inl (a ∙ sym b)
          | inr ne ↦ (let f : forward n v ≡ x = ap (forward n) a ∙ c.found in
              inr (inr (rw f (old-below u t h (before u t h z ne) (sym e ∙ ap (λ q. p.mature (q / 4)) a)))))
        ]
        | inr ne ↦ elim (cases_eq u w) [
          | inl b ↦ (let f : forward n u ≡ x = ap (forward n) b ∙ c.found in
              inr (inl (rw f (old-below v s j (before v s j y ne) (e ∙ ap (λ q. p.mature (q / 4)) b)))))
          | inr nu ↦ rw (forward-other v s j.pointer ne, forward-other u t h.pointer nu) (i.apart v u s j (before v s j y ne) t h (before u t h z nu) e)
        ]
      ]

  new-copy : IsCopy p n (p.mature (w / 4)) w (top (p.mature (w / 4)))
  new-copy = record { reached = r; leaves = l; goes = refl; gone = c.shown; word = c.found ∙ c.word }

  row-now : (b : Bool) (place : ℕ) → IsRowOfCopies p m b place (top b) → IsRowOfCopies p n b place (more b)
  row-now b place o = elim (same-room b (p.mature (w / 4))) [
    | inl e ↦ (let P : Bool → Type 0 = λ z. IsRowOfCopies p m z place (top z) → IsRowOfCopies p n z place (more z) in
        let made : IsRowOfCopies p m (p.mature (w / 4)) place (top (p.mature (w / 4))) → IsRowOfCopies p n (p.mature (w / 4)) place (more (p.mature (w / 4))) = λ y. record {
          each = y.each ++ w ∷ [];
          row = (let Q : ℕ → Type 0 = λ z. Row p n (p.mature (w / 4)) place (y.each ++ w ∷ []) z in
              subst Q (sym grown) (row-more p n (p.mature (w / 4)) place y.each (top (p.mature (w / 4))) w
              (row-later p m n (p.mature (w / 4)) place y.each (top (p.mature (w / 4))) move-grows y.row) new-copy));
        } in
        subst P (sym e) made o)
    | inr ne ↦ record {
      each = o.each;
      row = (let Q : ℕ → Type 0 = λ z. Row p n b place o.each z in subst Q (sym (kept b ne)) (row-later p m n b place o.each (top b) move-grows o.row));
    }
  ]

  waits : (v : ℕ) → Reached p v → Leaves p v → moved n v ≡ false → (v ≡ w → ⊥) × (moved m v ≡ false)
  waits v s j y =
      let ne : v ≡ w → ⊥ = λ e. not-both (moved n v) (ap (moved n) e ∙ c.shown) y in
      (ne, sym (moved-other v s j.pointer ne) ∙ y)

  fits-now : (b : Bool) → StillFits p n b (more b)
  fits-now b =
      let o : StillFits p m b (top b) = i.fits b in
      elim (same-room b (p.mature (w / 4))) [
        | inl e ↦ (let wo : Without p w o.each = without p w o.each (o.all w r l (sym e) here) in
            let grown2 : more b ≡ top b + size p w = (let P : Bool → Type 0 = λ z. more z ≡ top z + size p w in subst P (sym e) grown) in
            record {
              each = wo.rest;
              all = λ v s j d y. wo.others v (waits v s j y).0 (o.all v s j d (waits v s j y).1);
              words = omega (arith, o.words, wo.words, grown2);
            })
        | inr ne ↦ record { each = o.each; all = λ v s j d y. o.all v s j d (waits v s j y).1; words = omega (arith, o.words, kept b ne) }
      ]

  more-high : (b : Bool) → more b ≤ p.high b
  more-high b = omega (arith, (fits-now b).words)

  -- A word with a role is as it was, or shows where an object went.
  touched-now : (a u : ℕ) → p.test a u ≡ true → (get_or n a 0 ≡ get_or p.start a 0) ⊎ IsShown p n a
  touched-now a u h =
      elim (shows-or-not w a) [
        | inl z ↦ inr (record { v = w; reached = r; leaves = l; gone = c.shown; shows = z })
        | inr hides ↦ (let low2 : p.low (p.mature (w / 4)) ≤ top (p.mature (w / 4)) = low-top (p.mature (w / 4)) in
            let away : (a < top (p.mature (w / 4))) ⊎ (top (p.mature (w / 4)) + size p w ≤ a) =
            elim (g.roles_clear a u h (p.mature (w / 4))) [ inl z ↦ inl (omega arith) | inr z ↦ inr (omega (arith, room)) ] in
            elim (i.touched a u h) [
              | inl e ↦ inl (c.rest a away hides ∙ e)
              | inr o ↦ inr (record { v = o.v; reached = o.reached; leaves = o.leaves; gone = move-grows.gone o.v o.reached o.leaves o.gone; shows = o.shows })
            ])
      ]

  pub move-keeps : Invariant p n more k
  move-keeps = record {
    same_len = c.same_len ∙ i.same_len;
    begins = i.begins;
    inner = i.inner;
    outer = λ b. omega (arith, i.outer b, top-more b);
    ends = more-high;
    still = λ v q s j y h. others-same v q s j (λ e. not-both (p.stay (w / 4)) (ap (λ z. p.stay (z / 4)) (sym e) ∙ y) l.leaves) h ∙ i.still v q s j y h;
    waiting = λ v q s j y h. others-same v q s j.pointer (waits v s j y).0 h ∙ i.waiting v q s j (waits v s j y).1 h;
    tails = λ v q s j tag h after. elim (cases_eq v w) [
      | inl e ↦ (let own : IsIn p w q = (let P : ℕ → Type 0 = λ z. IsIn p z q in subst P e h) in
          own-same q own (λ z. elim z [ inl a ↦ omega arith | inr a ↦ omega (arith, a.0) ]) ∙ i.tails v q s j tag h after)
      | inr ne ↦ others-same v q s j.pointer ne h ∙ i.tails v q s j tag h after
    ];
    records = λ a u big h. record-same a u big h ∙ i.records a u big h;
    touched = touched-now;
    gone = gone-now;
    apart = apart-now;
    whole = λ b. row-now b (p.low b) (i.whole b);
    left = λ b. row-now b (object_at k b) (i.left b);
    fits = fits-now;
  }
