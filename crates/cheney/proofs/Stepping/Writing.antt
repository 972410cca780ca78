-- A scanned word is written, and a room's marks go on: the state of the collection is kept.
use Rattle.std.proofs.Common.{◌≡◌, ℕ, ◌+◌, ◌/◌, ◌<◌, ◌≤◌, ◌⊎◌, Bool, true, false, List, [], ◌∷◌, length, get_or, set, refl, sym, ◌∙◌, ap, subst, arith, inl, inr}
use Rattle.std.proofs.lemmas.Bool.{cases_eq}
use Rattle.std.proofs.lemmas.List.{length-set, get_or-set_other, get_or-set_same}
use Rattle.term_words.specs.Object.{IsPointer}
use Rattle.cheney.specs.Plan.{Plan, Reached, Leaves, IsIn, size, first}
use Rattle.cheney.specs.Moved.{moved, forward, IsImage}
use Rattle.cheney.specs.Zones.{Marks, IsCopy, IsTracedPlace, Row, IsRowOfCopies, Gone, Invariant, scanned_at, object_at, mark}
use Rattle.cheney.proofs.Before.Basics.{reach-part, same-room, moved-same, forward-same, size-some, size-cons}
use Rattle.cheney.proofs.Before.Ground.{Ground}
use Rattle.cheney.proofs.Stepping.Facts.{Grows, image-later, row-later, copy-later}

pub scanned-here : (k : Marks) (b : Bool) (s o : ℕ) → scanned_at (mark k b s o) b ≡ s
scanned-here k true s o = refl
scanned-here k false s o = refl

pub object-here : (k : Marks) (b : Bool) (s o : ℕ) → object_at (mark k b s o) b ≡ o
object-here k true s o = refl
object-here k false s o = refl

pub scanned-there : (k : Marks) (b c : Bool) (s o : ℕ) → (c ≡ b → ⊥) → scanned_at (mark k b s o) c ≡ scanned_at k c
scanned-there k true true s o n = absurd (n refl)
scanned-there k false false s o n = absurd (n refl)
scanned-there k true false s o n = refl
scanned-there k false true s o n = refl

pub object-there : (k : Marks) (b c : Bool) (s o : ℕ) → (c ≡ b → ⊥) → object_at (mark k b s o) c ≡ object_at k c
object-there k true true s o n = absurd (n refl)
object-there k false false s o n = absurd (n refl)
object-there k true false s o n = refl
object-there k false true s o n = refl

pub mark-twice : (k : Marks) (b : Bool) (s o t u : ℕ) → mark (mark k b s o) b t u ≡ mark k b t u
mark-twice k true s o t u = refl
mark-twice k false s o t u = refl

-- The copy of a moved object that a place of the room lies in is that of one object.
pub at-copy : (p : Plan) (m : List ℕ) (top : Bool → ℕ) (k : Marks) → Invariant p m top k → (b : Bool) (v from : ℕ) → IsCopy p m b v from → (u j q : ℕ) → Reached p u → Leaves p u → moved m
    u ≡ true → p.mature (u / 4) ≡ b
    → q ≡ forward m u / 4 + j → j < size p u → from ≤ q → q < from + size p v → (u ≡ v) × (q ≡ from + j)
at-copy p m top k i b v from c u j q r l y goes e less above below =
    let place : forward m v / 4 ≡ from = omega (arith, c.word, c.leaves.pointer) in
    elim (i.apart u v r l y c.reached c.leaves c.gone (goes ∙ sym c.goes)) [
      | inl same ↦ (same, (let F : forward m u / 4 ≡ from = ap (λ z. forward m z / 4) same ∙ place in omega arith))
      | inr (inl a) ↦ absurd (omega (arith, a, place))
      | inr (inr a) ↦ absurd (omega (arith, a, place))
    ]

module _ (p : Plan) (g : Ground p) (m : List ℕ) (top : Bool → ℕ) (k : Marks) (i : Invariant p m top k) (b : Bool) (place y : ℕ) (at : scanned_at k b ≡ place) (o : IsTracedPlace p m k b place)
    (z : IsImage p m (get_or m place 0) y) where
  in-zone : (p.low b ≤ place) × (place < top b)
  in-zone = (omega (arith, i.begins b, at), omega (arith, o.below, i.outer b))

  in-memory : place < length m
  in-memory = omega (arith, in-zone, i.ends b, g.ends b, i.same_len)

  here : get_or (set m place y) place 0 ≡ y
  here = let lt : place < length m = in-memory in rw get_or-set_same refl

  there : (q : ℕ) → (q ≡ place → ⊥) → get_or (set m place y) q 0 ≡ get_or m q 0
  there q ne = get_or-set_other m place q y 0 ne

  objects-same : (v q : ℕ) → Reached p v → IsPointer v → IsIn p v q → get_or (set m place y) q 0 ≡ get_or m q 0
  objects-same v q r j h = there q (λ e. elim (g.clear v q b r j h) [ inl a ↦ omega (arith, in-zone) | inr a ↦ omega (arith, in-zone, i.ends b) ])

  moved-too : (v : ℕ) → Reached p v → IsPointer v → moved (set m place y) v ≡ moved m v
  moved-too v r j = moved-same m (set m place y) v (objects-same v (v / 4) r j (record { from = omega arith; below = omega (arith, size-some p v j) }))

  forward-too : (v : ℕ) → Reached p v → IsPointer v → forward (set m place y) v ≡ forward m v
  forward-too v r j = forward-same m (set m place y) v j (objects-same v (v / 4) r j (record { from = omega arith; below = omega (arith, size-some p v j) }))
      (λ tag. objects-same v (v / 4 + 1) r j (record { from = omega arith; below = omega (arith, size-cons p v tag) }))

  pub write-grows : Grows p m (set m place y)
  write-grows = record {
    gone = λ v r l h. moved-too v r l.pointer ∙ h;
    same = λ v r l h. forward-too v r l.pointer;
  }

  next : Marks
  next = mark k b (place + 1) (object_at k b)

  next-here : scanned_at (mark k b (place + 1) (object_at k b)) b ≡ place + 1
  next-here = scanned-here k b (place + 1) (object_at k b)

  -- The mark `scanned` of any room is at least what it was.
  further : (c : Bool) → scanned_at k c ≤ scanned_at (mark k b (place + 1) (object_at k b)) c
  further c = elim (same-room c b) [
    | inl e ↦ (let P : Bool → Type 0 = λ x. scanned_at k x ≤ scanned_at (mark k b (place + 1) (object_at k b)) x in subst P (sym e) (omega (arith, at, next-here)))
    | inr ne ↦ omega (arith, scanned-there k b c (place + 1) (object_at k b) ne)
  ]

  objects-at : (c : Bool) → object_at (mark k b (place + 1) (object_at k b)) c ≡ object_at k c
  objects-at c = elim (same-room c b) [
    | inl e ↦ (let P : Bool → Type 0 = λ x. object_at (mark k b (place + 1) (object_at k b)) x ≡ object_at k x in subst P (sym e) (object-here k b (place + 1) (object_at k b)))
    | inr ne ↦ object-there k b c (place + 1) (object_at k b) ne
  ]

  -- A word of a copy at the place written is a traced one of the object that is scanned.
  other-place : (u j q : ℕ) → Reached p u → Leaves p u → moved m u ≡ true → q ≡ forward m u / 4 + j → j < size p u
      → (scanned_at (mark k b (place + 1) (object_at k b)) (p.mature (u / 4)) ≤ q) ⊎ (j < first p u) → q ≡ place → ⊥
  other-place u j q r l h e less why same =
      let G : Gone p m top (scanned_at k) u (forward m u) = i.gone u r l h in
      elim (same-room (p.mature (u / 4)) b) [
        | inr ne ↦ (let away : (p.high (p.mature (u / 4)) ≤ p.low b) ⊎ (p.high b ≤ p.low (p.mature (u / 4))) = g.rooms (p.mature (u / 4)) b ne in
            elim away [ inl a ↦ omega (arith, a, in-zone, G.below, i.ends (p.mature (u / 4))) | inr a ↦ omega (arith, a, in-zone, G.from, i.ends b) ])
        | inl c ↦ (let both : (u ≡ o.v) × (q ≡ o.from + j) = at-copy p m top k i b o.v o.from o.copy u j q r l h c e less (omega (arith, o.traced)) (omega (arith, o.below, o.ends)) in
            let f : first p u ≡ first p o.v = ap (first p) both.0 in
            let P : Bool → Type 0 = λ x. scanned_at (mark k b (place + 1) (object_at k b)) x ≡ place + 1 in
            let n : scanned_at (mark k b (place + 1) (object_at k b)) (p.mature (u / 4)) ≡ place + 1 = subst P (sym c) next-here in
            elim why [ inl a ↦ omega (arith, a, n) | inr a ↦ omega (arith, a, both, f, o.traced) ])
      ]

  gone-now : (u : ℕ) → Reached p u → Leaves p u → moved m u ≡ true → Gone p (set m place y) top (scanned_at (mark k b (place + 1) (object_at k b))) u (forward m u)
  gone-now u r l h =
      let G : Gone p m top (scanned_at k) u (forward m u) = i.gone u r l h in
      record {
        tag = G.tag;
        from = G.from;
        below = G.below;
        raw = λ j q less e why. there q (other-place u j q r l h e less why) ∙ G.raw j q less e (elim why [ inl a ↦ inl (omega (arith, a, further (p.mature (u / 4)))) | inr a ↦ inr a ]);
        image = λ j q from less e low.
            let v : ℕ → Type 0 = λ x. IsImage p (set m place y) (get_or p.start (u / 4 + j) 0) x in
            let reach : Reached p (get_or p.start (u / 4 + j) 0) = reach-part p u j r l.pointer from less in
            elim (cases_eq q place) [
              | inl same ↦ (let done : (scanned_at k (p.mature (u / 4)) ≤ q) ⊎ (j < first p u) = elim (same-room (p.mature (u / 4)) b) [
                | inl c ↦ inl (let P : Bool → Type 0 = λ x. scanned_at k x ≤ q in subst P (sym c) (omega arith))
                | inr ne ↦ absurd (let away : (p.high (p.mature (u / 4)) ≤ p.low b) ⊎ (p.high b ≤ p.low (p.mature (u / 4))) = g.rooms (p.mature (u / 4)) b ne in
                    elim away [ inl a ↦ omega (arith, a, in-zone, G.below, i.ends (p.mature (u / 4))) | inr a ↦ omega (arith, a, in-zone, G.from, i.ends b) ])
              ] in
                  let was : get_or m place 0 ≡ get_or p.start (u / 4 + j) 0 = ap (λ x. get_or m x 0) (sym same) ∙ G.raw j q less e done in
                  let W : ℕ → Type 0 = λ x. IsImage p m x y in
                  let now : y ≡ get_or (set m place y) q 0 = sym (ap (λ x. get_or (set m place y) x 0) same ∙ here) in
                  subst v now (image-later p m (set m place y) (get_or p.start (u / 4 + j) 0) y write-grows reach (subst W was z)))
              | inr ne ↦ (let lower : q < scanned_at k (p.mature (u / 4)) = elim (same-room (p.mature (u / 4)) b) [
                | inl c ↦ (let P : Bool → Type 0 = λ x. q < scanned_at k x in
                    let Q : Bool → Type 0 = λ x. q < scanned_at (mark k b (place + 1) (object_at k b)) x in
                    let l2 : q < scanned_at (mark k b (place + 1) (object_at k b)) b = subst Q c low in
                    subst P (sym c) (omega (arith, l2, next-here, ne)))
                | inr nc ↦ omega (arith, low, scanned-there k b (p.mature (u / 4)) (place + 1) (object_at k b) nc)
              ] in
                  subst v (sym (there q ne)) (image-later p m (set m place y) (get_or p.start (u / 4 + j) 0) (get_or m q 0) write-grows reach (G.image j q from less e lower)))
            ];
      }

  pub write-keeps : Invariant p (set m place y) top (mark k b (place + 1) (object_at k b))
  write-keeps = record {
    same_len = length-set m place y ∙ i.same_len;
    begins = λ c. omega (arith, i.begins c, further c);
    inner = λ c. elim (same-room c b) [
      | inl e ↦ (let P : Bool → Type 0 = λ x. scanned_at (mark k b (place + 1) (object_at k b)) x ≤ object_at (mark k b (place + 1) (object_at k b)) x in subst P (sym e)
          (omega (arith, next-here, object-here k b (place + 1) (object_at k b), o.below)))
      | inr ne ↦ omega (arith, i.inner c, scanned-there k b c (place + 1) (object_at k b) ne, object-there k b c (place + 1) (object_at k b) ne)
    ];
    outer = λ c. omega (arith, i.outer c, objects-at c);
    ends = i.ends;
    still = λ v q r j s h. objects-same v q r j h ∙ i.still v q r j s h;
    waiting = λ v q r l s h. objects-same v q r l.pointer h ∙ i.waiting v q r l (sym (moved-too v r l.pointer) ∙ s) h;
    tails = λ v q r l tag h after. objects-same v q r l.pointer h ∙ i.tails v q r l tag h after;
    records = λ a u big h. there a (λ e. elim (g.records_clear a u b big h) [ inl w ↦ omega (arith, in-zone) | inr w ↦ omega (arith, in-zone, i.ends b) ]) ∙ i.records a u big h;
    touched = λ a u h. elim (i.touched a u h) [
      | inl e ↦ inl (there a (λ z. elim (g.roles_clear a u h b) [ inl w ↦ omega (arith, in-zone) | inr w ↦ omega (arith, in-zone, i.ends b) ]) ∙ e)
      | inr o2 ↦ inr (record { v = o2.v; reached = o2.reached; leaves = o2.leaves; gone = write-grows.gone o2.v o2.reached o2.leaves o2.gone; shows = o2.shows })
    ];
    gone = λ u r l h. let P : ℕ → Type 0 = λ x. Gone p (set m place y) top (scanned_at (mark k b (place + 1) (object_at k b))) u x in
        subst P (sym (forward-too u r l.pointer)) (gone-now u r l (sym (moved-too u r l.pointer) ∙ h));
    apart = λ v w r l h s j t e. rw (forward-too v r l.pointer, forward-too w s j.pointer) (i.apart v w r l (sym (moved-too v r l.pointer) ∙ h) s j (sym (moved-too w s j.pointer) ∙ t) e);
    whole = λ c. record { each = (i.whole c).each; row = row-later p m (set m place y) c (p.low c) (i.whole c).each (top c) write-grows (i.whole c).row };
    left = λ c. let P : ℕ → Type 0 = λ x. IsRowOfCopies p (set m place y) c x (top c) in
        subst P (sym (objects-at c)) (record { each = (i.left c).each; row = row-later p m (set m place y) c (object_at k c) (i.left c).each (top c) write-grows (i.left c).row });
    fits = λ c. record { each = (i.fits c).each; all = λ v r l d h. (i.fits c).all v r l d (sym (moved-too v r l.pointer) ∙ h); words = (i.fits c).words };
  }

  -- The object that is scanned has its copy there still.
  pub write-part : place + 1 < object_at k b → IsTracedPlace p (set m place y) (mark k b (place + 1) (object_at k b)) b (place + 1)
  write-part more = record {
    v = o.v;
    from = o.from;
    copy = copy-later p m (set m place y) b o.v o.from write-grows o.copy;
    ends = o.ends ∙ sym (objects-at b);
    traced = omega (arith, o.traced);
    below = omega (arith, more, objects-at b);
  }

-- The next object of a room is opened: its untraced words are done.
pub record Opens (p : Plan) (m : List ℕ) (top : Bool → ℕ) (k : Marks) (b : Bool) (place : ℕ) : Type 0 where
  pub v : ℕ
  pub copy : IsCopy p m b v place
  pub head : get_or m place 0 ≡ get_or p.start (v / 4) 0
  pub inside : place + size p v ≤ top b
  pub state : Invariant p m top (mark k b (place + first p v) (place + size p v))

module _ (p : Plan) (g : Ground p) (m : List ℕ) (top : Bool → ℕ) (k : Marks) (i : Invariant p m top k) (b : Bool) (place : ℕ) (at : scanned_at k b ≡ place) (ob : object_at k b ≡ place) where
  opened : (v : ℕ) (vs : List ℕ) → IsCopy p m b v place → Row p m b (place + size p v) vs (top b) → Opens p m top k b place
  opened v vs c row =
      let G : Gone p m top (scanned_at k) v (forward m v) = i.gone v c.reached c.leaves c.gone in
      let home : forward m v / 4 ≡ place = omega (arith, c.word, c.leaves.pointer) in
      let small : first p v ≤ size p v = g.within v c.reached c.leaves.pointer in
      let some : 0 < size p v = size-some p v c.leaves.pointer in
      let T : Bool → Type 0 = λ x. forward m v / 4 + size p v ≤ top x in
      let S : Bool → Type 0 = λ x. scanned_at k x ≤ place in
      let end : forward m v / 4 + size p v ≤ top b = subst T c.goes G.below in
      let s : ℕ = place + first p v in
      let further : (d : Bool) → (scanned_at k d ≤ scanned_at (mark k b (place + first p v) (place + size p v)) d) = λ d.
      elim (same-room d b) [
        | inl e ↦ (let P : Bool → Type 0 = λ x. scanned_at k x ≤ scanned_at (mark k b (place + first p v) (place + size p v)) x in subst P (sym e)
            (omega (arith, at, scanned-here k b (place + first p v) (place + size p v))))
        | inr ne ↦ omega (arith, scanned-there k b d (place + first p v) (place + size p v) ne)
      ] in
      record {
        v = v;
        copy = c;
        head = G.raw 0 place some (omega (arith, home)) (inl (subst S (sym c.goes) (omega arith))) ∙ ap (λ x. get_or p.start x 0) (omega arith);
        inside = omega (arith, end, home);
        state = record {
          same_len = i.same_len;
          begins = λ d. omega (arith, i.begins d, further d);
          inner = λ d. elim (same-room d b) [
            | inl e ↦ (let P : Bool → Type 0 = λ x. scanned_at (mark k b (place + first p v) (place + size p v)) x ≤ object_at (mark k b (place + first p v) (place + size p v)) x in
                subst P (sym e) (omega (arith, scanned-here k b (place + first p v) (place + size p v), object-here k b (place + first p v) (place + size p v))))
            | inr ne ↦ omega (arith, i.inner d, scanned-there k b d (place + first p v) (place + size p v) ne, object-there k b d (place + first p v) (place + size p v) ne)
          ];
          outer = λ d. elim (same-room d b) [
            | inl e ↦ (let P : Bool → Type 0 = λ x. object_at (mark k b (place + first p v) (place + size p v)) x ≤ top x in
                subst P (sym e) (omega (arith, end, home, object-here k b (place + first p v) (place + size p v))))
            | inr ne ↦ omega (arith, i.outer d, object-there k b d (place + first p v) (place + size p v) ne)
          ];
          ends = i.ends;
          still = i.still;
          waiting = i.waiting;
          tails = i.tails;
          records = i.records;
          touched = i.touched;
          gone = λ u r l h.
              let U : Gone p m top (scanned_at k) u (forward m u) = i.gone u r l h in
              record {
                tag = U.tag;
                from = U.from;
                below = U.below;
                raw = λ j q less e why. U.raw j q less e (elim why [ inl a ↦ inl (omega (arith, a, further (p.mature (u / 4)))) | inr a ↦ inr a ]);
                image = λ j q from less e low. U.image j q from less e (elim (same-room (p.mature (u / 4)) b) [
                  | inr ne ↦ omega (arith, low, scanned-there k b (p.mature (u / 4)) (place + first p v) (place + size p v) ne)
                  | inl d ↦ (let Q : Bool → Type 0 = λ x. q < scanned_at (mark k b (place + first p v) (place + size p v)) x in
                      let low2 : q < scanned_at (mark k b (place + first p v) (place + size p v)) b = subst Q d low in
                      let R : Bool → Type 0 = λ x. q < scanned_at k x in
                      let cut : (q < place) ⊎ (place ≤ q) = grind arith in
                      subst R (sym d) (elim cut [
                        | inl a ↦ omega arith
                        | inr a ↦ absurd (let both : (u ≡ v) × (q ≡ place + j) = at-copy p m top k i b v place c u j q r l h d e less a
                            (omega (arith, low2, scanned-here k b (place + first p v) (place + size p v))) in
                            let f : first p u ≡ first p v = ap (first p) both.0 in
                            omega (arith, low2, scanned-here k b (place + first p v) (place + size p v), both, f, from))
                      ]))
                ]);
              };
          apart = i.apart;
          whole = i.whole;
          left = λ d. elim (same-room d b) [
            | inl e ↦ (let P : Bool → Type 0 = λ x. IsRowOfCopies p m x (object_at (mark k b (place + first p v) (place + size p v)) x) (top x) in
                let Q : ℕ → Type 0 = λ x. IsRowOfCopies p m b x (top b) in
                subst P (sym e) (subst Q (sym (object-here k b (place + first p v) (place + size p v))) (record { each = vs; row = row })))
            | inr ne ↦ (let Q : ℕ → Type 0 = λ x. IsRowOfCopies p m d x (top d) in subst Q (sym (object-there k b d (place + first p v) (place + size p v) ne)) (i.left d))
          ];
          fits = i.fits;
        };
      }

  from-row : (vs : List ℕ) → Row p m b (object_at k b) vs (top b) → place < top b → Opens p m top k b place
  from-row [] row less = absurd (omega (arith, row))
  from-row (v ∷ vs) (c, row) less =
      let P : ℕ → Type 0 = λ x. IsCopy p m b v x in
      let Q : ℕ → Type 0 = λ x. Row p m b (x + size p v) vs (top b) in
      opened v vs (subst P ob c) (subst Q ob row)

  pub opens : place < top b → Opens p m top k b place
  opens less = from-row (i.left b).each (i.left b).row less
