-- A collection begins, and goes on where its caller writes elsewhere.
use Rattle.std.proofs.Common.{◌≡◌, ℕ, ◌+◌, ◌/◌, ◌%◌, ◌<◌, ◌≤◌, ◌⊎◌, Bool, true, false, List, [], get_or, set, refl, sym, ◌∙◌, ap, subst, arith, inl, inr}
use Rattle.std.proofs.lemmas.Bool.Decides.{nat_tests}
use Rattle.std.proofs.lemmas.List.{length-set, get_or-set_other}
use Rattle.term_words.specs.Object.{IsPointer, object_words}
use Rattle.term_words.specs.Reach.{first_traced}
use Rattle.cheney.specs.declared.moving.Moving.{Moving}
use Rattle.cheney.specs.Plan.{IsIn, IsNoTail, IsOutside, Plan, Ready, Reached, Leaves, size, first}
use Rattle.cheney.specs.Moved.{moved, forward, IsImage}
use Rattle.cheney.specs.Zones.{Marks, Gone, Invariant, scanned_at, object_at, at_objects}
use Rattle.cheney.specs.Rooms.{top_of, RoomsAgree, Runs}
use Rattle.cheney.specs.Calls.{Later}
use Rattle.cheney.specs.Collected.{IsBeside, RootsMoved, Collected, Composes}
use Rattle.cheney.proofs.Before.Basics.{not-both, moved-cons, moved-boxed, moved-same, forward-same, size-some, shows-in, size-cons, reach-part}
use Rattle.cheney.proofs.Before.Ground.{Ground, ground, not-shown, stay-not-shown}
use Rattle.cheney.proofs.Stepping.Facts.{Grows, image-later, row-later}
use Rattle.cheney.proofs.After.Ends.{collected, composes, shape-image}

-- No object shows a move before one is made.
not-moved : (p : Plan) → Ground p → (v : ℕ) → Reached p v → IsPointer v → moved p.start v ≡ false
not-moved p g v r (inl tag) = moved-cons p.start v tag ∙ (let n : get_or p.start (v / 4) 0 % 4 ≡ 0 → ⊥ = g.head v r tag in let m : get_or p.start (v / 4) 0 ≡ 0 → ⊥ = λ e. n
    (ap (λ z. z % 4) e) in grind (arith, nat_tests))
not-moved p g v r (inr tag) = moved-boxed p.start v tag ∙ (let h : get_or p.start (v / 4) 0 % 4 ≡ 0 = g.header v r tag in rw h refl)

module _ (p : Plan) (mv : Moving) (y : Ready p) (a : RoomsAgree p mv) (et : mv.aged.top ≡ mv.aged.start) (eu : mv.young.top ≡ mv.young.start) where
  tops : (b : Bool) → top_of mv b ≡ p.low b
  tops true = et ∙ a.aged_low
  tops false = eu ∙ a.young_low

  marks : (b : Bool) → scanned_at (at_objects mv.aged.start mv.young.start) b ≡ p.low b
  marks true = a.aged_low
  marks false = a.young_low

  objects : (b : Bool) → object_at (at_objects mv.aged.start mv.young.start) b ≡ p.low b
  objects true = a.aged_low
  objects false = a.young_low

  never : (v : ℕ) → Reached p v → Leaves p v → moved p.start v ≡ true → ⊥
  never v r l h = not-both (moved p.start v) h (not-moved p (ground p y) v r l.pointer)

  pub begins : Runs p p.start mv (at_objects mv.aged.start mv.young.start)
  begins = record {
    ready = y;
    agrees = a;
    holds = record {
      same_len = refl;
      begins = λ b. omega (arith, marks b);
      inner = λ b. omega (arith, marks b, objects b);
      outer = λ b. omega (arith, objects b, tops b);
      ends = λ b. omega (arith, tops b, y.order b);
      still = λ v q r i s h. refl;
      waiting = λ v q r l s h. refl;
      tails = λ v q r l t h z. refl;
      records = λ q u big h. refl;
      touched = λ a u h. inl refl;
      gone = λ v r l h. absurd (never v r l h);
      apart = λ v w r l h s j t e. absurd (never v r l h);
      whole = λ b. record { each = []; row = sym (tops b) };
      left = λ b. record { each = []; row = objects b ∙ sym (tops b) };
      fits = λ b. record { each = (y.fits b).each; all = λ w r l e h. (y.fits b).all w r l e; words = omega (arith, (y.fits b).words, tops b) };
    };
  }

module _ (p : Plan) (g : Ground p) (m n : List ℕ) (top : Bool → ℕ) (o : IsBeside p m n top) where
  -- The words of objects have roles.
  objects-on : (v q : ℕ) → Reached p v → IsPointer v → IsIn p v q → get_or n q 0 ≡ get_or m q 0
  objects-on v q r t h = let (k, role) = g.role v q r t h in o.words q k role

  moved-on : (v : ℕ) → Reached p v → IsPointer v → moved n v ≡ moved m v
  moved-on v r t = moved-same m n v (objects-on v (v / 4) r t (record { from = omega arith; below = omega (arith, size-some p v t) }))

  forward-on : (v : ℕ) → Reached p v → IsPointer v → forward n v ≡ forward m v
  forward-on v r t = forward-same m n v t (objects-on v (v / 4) r t (record { from = omega arith; below = omega (arith, size-some p v t) }))
      (λ tag. objects-on v (v / 4 + 1) r t (record { from = omega arith; below = omega (arith, size-cons p v tag) }))

  pub beside-grows : Grows p m n
  beside-grows = record { gone = λ v r l h. moved-on v r l.pointer ∙ h; same = λ v r l h. forward-on v r l.pointer }

  gone-on : (k : Marks) → Invariant p m top k → (v : ℕ) → Reached p v → Leaves p v → moved m v ≡ true → Gone p n top (scanned_at k) v (forward m v)
  gone-on k i v r l h =
      let G : Gone p m top (scanned_at k) v (forward m v) = i.gone v r l h in
      record {
        tag = G.tag;
        from = G.from;
        below = G.below;
        raw = λ j q less e why. o.rooms (p.mature (v / 4)) q (omega (arith, G.from)) (omega (arith, G.below)) ∙ G.raw j q less e why;
        image = λ j q from less e low.
            let P : ℕ → Type 0 = λ z. IsImage p n (get_or p.start (v / 4 + j) 0) z in
            subst P (sym (o.rooms (p.mature (v / 4)) q (omega (arith, G.from)) (omega (arith, G.below))))
            (image-later p m n (get_or p.start (v / 4 + j) 0) (get_or m q 0) beside-grows (reach-part p v j r l.pointer from less) (G.image j q from less e low));
      }

  pub beside-keeps : (k : Marks) → Invariant p m top k → Invariant p n top k
  beside-keeps k i = record {
    same_len = o.same_len ∙ i.same_len;
    begins = i.begins;
    inner = i.inner;
    outer = i.outer;
    ends = i.ends;
    still = λ v q r t s h. objects-on v q r t h ∙ i.still v q r t s h;
    waiting = λ v q r l s h. objects-on v q r l.pointer h ∙ i.waiting v q r l (sym (moved-on v r l.pointer) ∙ s) h;
    tails = λ v q r l tag h z. objects-on v q r l.pointer h ∙ i.tails v q r l tag h z;
    records = λ a u big h. o.words a u h ∙ i.records a u big h;
    touched = λ a u h. elim (i.touched a u h) [
      | inl e ↦ inl (o.words a u h ∙ e)
      | inr s ↦ inr (record { v = s.v; reached = s.reached; leaves = s.leaves; gone = beside-grows.gone s.v s.reached s.leaves s.gone; shows = s.shows })
    ];
    gone = λ v r l h. let P : ℕ → Type 0 = λ z. Gone p n top (scanned_at k) v z in subst P (sym (forward-on v r l.pointer)) (gone-on k i v r l (sym (moved-on v r l.pointer) ∙ h));
    apart = λ v w r l h s j t e. rw (forward-on v r l.pointer, forward-on w s j.pointer) (i.apart v w r l (sym (moved-on v r l.pointer) ∙ h) s j (sym (moved-on w s j.pointer) ∙ t) e);
    whole = λ b. record { each = (i.whole b).each; row = row-later p m n b (p.low b) (i.whole b).each (top b) beside-grows (i.whole b).row };
    left = λ b. record { each = (i.left b).each; row = row-later p m n b (object_at k b) (i.left b).each (top b) beside-grows (i.left b).row };
    fits = λ b. record { each = (i.fits b).each; all = λ v r l e h. (i.fits b).all v r l e (sym (moved-on v r l.pointer) ∙ h); words = (i.fits b).words };
  }

pub beside-runs : (p : Plan) (m n : List ℕ) (mv : Moving) (k : Marks) → Runs p m mv k → IsBeside p m n (top_of mv) → Runs p n mv k
beside-runs p m n mv k run o = record { ready = run.ready; agrees = run.agrees; holds = beside-keeps p (ground p run.ready) m n (top_of mv) o k run.holds }

pub image-beside : (p : Plan) (m n : List ℕ) (top : Bool → ℕ) (w x : ℕ) → Ready p → IsBeside p m n top → Reached p w → IsImage p m w x → IsImage p n w x
image-beside p m n top w x y o r i = image-later p m n w x (beside-grows p (ground p y) m n top o) r i

pub image-kept : (p : Plan) (s : ℕ → Bool) (m n : List ℕ) (w x : ℕ) → Later p s m n → Reached p w → IsImage p m w x → IsImage p n w x
image-kept p s m n w x later r i = image-later p m n w x (record { gone = later.gone; same = later.same }) r i

pub done : (mv : Moving) (b : Bool) → scanned_at (at_objects mv.aged.top mv.young.top) b ≡ top_of mv b
done mv true = refl
done mv false = refl

pub has-collected : (p : Plan) (m : List ℕ) (mv : Moving) → Runs p m mv (at_objects mv.aged.top mv.young.top) → RootsMoved p m → Collected p m (top_of mv)
has-collected p m mv run roots = collected p run.ready (ground p run.ready) m (top_of mv) (at_objects mv.aged.top mv.young.top) run.holds (done mv) roots.each

pub has-composed : (p : Plan) (m : List ℕ) (mv : Moving) → Runs p m mv (at_objects mv.aged.top mv.young.top) → RootsMoved p m → Composes p m
has-composed p m mv run roots = composes p run.ready (ground p run.ready) m (top_of mv) (at_objects mv.aged.top mv.young.top) run.holds (done mv) roots.each

pub has-shape : (p : Plan) (m : List ℕ) (mv : Moving) (v x : ℕ) → Runs p m mv (at_objects mv.aged.top mv.young.top) → RootsMoved p m → Reached p v → IsPointer v → IsImage p m v x
    → (object_words m x ≡ size p v) × (first_traced m x ≡ first p v)
has-shape p m mv v x run roots r i im = shape-image p run.ready (ground p run.ready) m (top_of mv) (at_objects mv.aged.top mv.young.top) run.holds (done mv) roots.each v x r i im

-- A word without a role, outside the used places of the rooms, may be written.
pub write-beside : (p : Plan) (m : List ℕ) (top : Bool → ℕ) (a w : ℕ) → ((b : Bool) → (a < p.low b) ⊎ (top b ≤ a)) → ((k : ℕ) → p.test a k ≡ true → ⊥) → IsBeside p m (set m a w) top
write-beside p m top a w away none = record {
  same_len = length-set m a w;
  rooms = λ b q from below. get_or-set_other m a q w 0 (λ e. elim (away b) [ inl z ↦ omega (arith, z, e) | inr z ↦ omega (arith, z, e) ]);
  words = λ q k h. get_or-set_other m a q w 0 (λ e. let P : ℕ → Type 0 = λ z. p.test z k ≡ true in none k (subst P e h));
}

-- What no call changes.

module _ (p : Plan) (s : ℕ → Bool) (a b : List ℕ) (later : Later p s a b) where
  pub free-aside : (q : ℕ) → s q ≡ false → Ready p → IsOutside p q → ((k : ℕ) → p.test q k ≡ true → ⊥) → get_or b q 0 ≡ get_or a q 0
  free-aside q past y out none = later.elsewhere q past out (λ v r l s. let (k, h) = (ground p y).role v q r l.pointer (shows-in p v q l.pointer s) in none k h)

  pub other-aside : (q k : ℕ) → s q ≡ false → Ready p → p.test q k ≡ true → (k ≡ 3 → ⊥) → (k ≡ 4 → ⊥) → get_or b q 0 ≡ get_or a q 0
  other-aside q k past y h three four = later.elsewhere q past (y.clear q k h) (λ v r l s. not-shown p y v q k r l.pointer h three four s)

  pub stay-aside : (q : ℕ) → s q ≡ false → IsOutside p q → p.stay q ≡ true → IsNoTail p q → get_or b q 0 ≡ get_or a q 0
  stay-aside q past out stay whole = later.elsewhere q past out (λ v r l s. stay-not-shown p v q r l stay whole s)
