-- Words at places of the memory with a step between, moved one by one.
use Rattle.std.proofs.Common.{◌≡◌, ℕ, zero, suc, ◌+◌, ◌*◌, ◌<◌, ◌≤◌, ◌⊎◌, ◌==◌, ◌||◌, Bool, true, false, List, length, get_or, set, refl, sym, ◌∙◌, ap, subst, arith, inl, inr}
use Rattle.std.proofs.Math.Nat.{mul-le-mul_right, suc-mul}
use Rattle.std.proofs.lemmas.Bool.{cases_Bool, cases_eq}
use Rattle.std.proofs.lemmas.Bool.Decides.{nat_tests}
use Rattle.std.proofs.lemmas.List.{get_or-set_other, get_or-set_same}
use Rattle.cheney.specs.declared.moving.Moving.{Moving}
use Rattle.cheney.specs.Plan.{Plan, Reached}
use Rattle.cheney.specs.Moved.{IsImage}
use Rattle.cheney.specs.Zones.{Marks}
use Rattle.cheney.specs.Rooms.{Runs, top_of}
use Rattle.cheney.specs.Calls.{CanMove, Evacuated, Later, either, nowhere}
use Rattle.cheney.specs.Collected.{IsBeside}
use Rattle.cheney.specs.Roots.{AreRoots, CanMoveAt, EvacuatedAt, IsFreePlace, PlacesEvacuated, in_places, is_at, words_at}
use Rattle.cheney.proofs.Before.Basics.{not-both}
use Rattle.cheney.proofs.Rooted.Begins.{beside-grows, beside-runs, free-aside, image-beside, image-kept, write-beside}
use Rattle.cheney.proofs.Before.Ground.{ground}
use Rattle.cheney.proofs.Rooted.Rows.{images-back}
use Rattle.cheney.proofs.Stepping.Steps.{later-same, later-then, later-wider}

-- Places with a step between.

first-place : (from step : ℕ) → from ≡ from + 0 * step
first-place from step = omega arith

pub next-place : (from step j : ℕ) → from + step + j * step ≡ from + suc j * step
next-place from step j = omega (arith, suc-mul j step)

pub word-at : (m : List ℕ) (from step n j : ℕ) → j < n → get_or (words_at m from step n) j 0 ≡ get_or m (from + j * step) 0
unfolding words_at
word-at m from step zero j less = absurd (omega arith)
word-at m from step (suc n) zero less = ap (λ z. get_or m z 0) (first-place from step)
word-at m from step (suc n) (suc j) less = word-at m (from + step) step n j (omega arith) ∙ ap (λ z. get_or m z 0) (next-place from step j)

pub words-length : (m : List ℕ) (from step n : ℕ) → length (words_at m from step n) ≡ n
unfolding words_at
words-length m from step zero = refl
words-length m from step (suc n) = ap suc (words-length m (from + step) step n)

is-not : (a q : ℕ) → (q ≡ a → ⊥) → (a == q) ≡ false
is-not a q ne = let n : a ≡ q → ⊥ = λ e. ne (sym e) in grind (arith, nat_tests)

is-this : (a q : ℕ) → (a == q) ≡ true → q ≡ a
is-this a q h = grind (arith, nat_tests)

pub places-aside : (from step n q : ℕ) → ((j : ℕ) → j < n → q ≡ from + j * step → ⊥) → in_places from step n q ≡ false
unfolding in_places
places-aside from step zero q none = refl
places-aside from step (suc n) q none =
    let this : (from == q) ≡ false = is-not from q (λ e. none 0 (omega arith) (e ∙ first-place from step)) in
    rw this (places-aside (from + step) step n q (λ j less e. none (suc j) (omega arith) (e ∙ next-place from step j)))

yes-or : (x y : Bool) → (x ≡ true) ⊎ (y ≡ true) → (x || y) ≡ true
yes-or true y e = refl
yes-or false y (inl e) = absurd (not-both false e refl)
yes-or false y (inr e) = e

in-place : (from step n j q : ℕ) → j < n → q ≡ from + j * step → in_places from step n q ≡ true
unfolding in_places
in-place from step zero j q less e = absurd (omega arith)
in-place from step (suc n) zero q less e = let same : from ≡ q = omega (arith, e) in yes-or (from == q) (in_places (from + step) step n q) (inl (grind (arith, nat_tests)))
in-place from step (suc n) (suc j) q less e = yes-or (from == q) (in_places (from + step) step n q) (inr (in-place (from + step) step n j q (omega arith) (e ∙ sym (next-place from step j))))

step-below : (from step i j : ℕ) → 0 < step → j < i → from + j * step < from + i * step
step-below from step i j some less =
    let le : suc j * step ≤ i * step = mul-le-mul_right step (omega arith) in
    omega (arith, le, suc-mul j step)

places-apart : (from step i j : ℕ) → 0 < step → (j ≡ i → ⊥) → from + j * step ≡ from + i * step → ⊥
places-apart from step i j some ne e =
    let order : (j < i) ⊎ (i < j) = grind arith in
    elim order [ inl l ↦ omega (arith, step-below from step i j some l, e) | inr l ↦ omega (arith, step-below from step j i some l, e) ]

-- One place.

module _ (p : Plan) (mem mem2 : List ℕ) (mv mv2 : Moving) (k : Marks) (a w x : ℕ) (run : Runs p mem mv k) (free : IsFreePlace p a) (r : Reached p (get_or mem a 0)) (e : w ≡ get_or mem a 0)
    (moves : (q : Plan) (l : Marks) → Runs q mem mv l → Reached q w → Evacuated q mem mem2 mv2 l w x) where
  ev : Evacuated p mem mem2 mv2 k w x
  ev = let P : ℕ → Type 0 = λ z. Reached p z in moves p k run (subst P (sym e) r)

  pub place-inside : a < length mem2
  place-inside = omega (arith, free.inside, ev.runs.holds.same_len)

  away : (c : Bool) → (a < p.low c) ⊎ (top_of mv2 c ≤ a)
  away c = elim (free.outside c) [ inl l ↦ inl l | inr h ↦ inr (omega (arith, h, ev.runs.holds.ends c)) ]

  beside : IsBeside p mem2 (set mem2 a x) (top_of mv2)
  beside = write-beside p mem2 (top_of mv2) a x away free.none

  now : get_or (set mem2 a x) a 0 ≡ x
  now = let long : a < length mem2 = place-inside in rw get_or-set_same refl

  written : Later p (is_at a) mem2 (set mem2 a x)
  written =
      let g : _ = beside-grows p (ground p run.ready) mem2 (set mem2 a x) (top_of mv2) beside in
      record {
        gone = g.gone;
        same = g.same;
        elsewhere = λ q past out hides. get_or-set_other mem2 a q x 0 (λ s. not-both (a == q) (let same : a ≡ q = sym s in grind (arith, nat_tests)) past);
      }

  pub place-moved : EvacuatedAt p mem (set mem2 a x) mv2 k a
  place-moved = record {
    runs = beside-runs p mem2 (set mem2 a x) mv2 k ev.runs beside;
    later = later-then p nowhere (is_at a) mem mem2 (set mem2 a x) ev.later written;
    image = (let P : ℕ → Type 0 = λ z. IsImage p (set mem2 a x) (get_or mem a 0) z in
        let Q : ℕ → Type 0 = λ z. IsImage p (set mem2 a x) z x in
        let R : ℕ → Type 0 = λ z. Reached p z in
        subst P (sym now) (subst Q e (image-beside p mem2 (set mem2 a x) (top_of mv2) w x run.ready beside (subst R (sym e) r) ev.image)));
  }

pub place-moves : (mem : List ℕ) (mv : Moving) (a w : ℕ) → CanMoveAt mem mv a → w ≡ get_or mem a 0 → CanMove mem mv w
place-moves mem mv a w c e = record { plan = c.plan; marks = c.marks; runs = c.runs; reached = (let P : ℕ → Type 0 = λ z. Reached c.plan z in subst P (sym e) c.reached) }

pub place-within : (mem : List ℕ) (mv : Moving) (a : ℕ) → CanMoveAt mem mv a → a < length mem
place-within mem mv a c = omega (arith, c.free.inside, c.runs.holds.same_len)

-- All places.

-- The first words are moved, and the others are as they were.
pub record PlacesMoving (p : Plan) (old mem : List ℕ) (mv : Moving) (k : Marks) (from step n i : ℕ) : Type 0 where
  pub runs : Runs p mem mv k
  pub later : Later p (in_places from step n) old mem
  pub done : (j : ℕ) → j < i → j < n → IsImage p mem (get_or old (from + j * step) 0) (get_or mem (from + j * step) 0)
  pub todo : (j : ℕ) → i ≤ j → j < n → get_or mem (from + j * step) 0 ≡ get_or old (from + j * step) 0

pub places-start : (p : Plan) (mem : List ℕ) (mv : Moving) (k : Marks) (from step n : ℕ) → Runs p mem mv k → PlacesMoving p mem mem mv k from step n 0
places-start p mem mv k from step n run = record {
  runs = run;
  later = later-wider p nowhere (in_places from step n) mem mem (λ q h. absurd (not-both false h refl)) (later-same p mem);
  done = λ j less in_range. absurd (omega arith);
  todo = λ j above less. refl;
}

module _ (p : Plan) (old mem : List ℕ) (mv : Moving) (k : Marks) (from step n i : ℕ) (apart : 0 < step) (c : PlacesMoving p old mem mv k from step n i) (o : AreRoots p old from step n) where
  pub places-reached : i < n → Reached p (get_or mem (from + i * step) 0)
  places-reached less = let P : ℕ → Type 0 = λ z. Reached p z in subst P (sym (c.todo i (omega arith) less)) (o.reached i less)

  pub places-moves : i < n → CanMoveAt mem mv (from + i * step)
  places-moves less = record { plan = p; marks = k; runs = c.runs; free = o.free i less; reached = places-reached less }

  pub places-bound : i < n → from + i * step < length mem
  places-bound less = omega (arith, (o.free i less).inside, c.runs.holds.same_len)

  module _ (mem2 : List ℕ) (mv2 : Moving) (less : i < n) (one : EvacuatedAt p mem mem2 mv2 k (from + i * step)) where
    other : (j : ℕ) → (j ≡ i → ⊥) → j < n → get_or mem2 (from + j * step) 0 ≡ get_or mem (from + j * step) 0
    other j ne below =
        free-aside p (is_at (from + i * step)) mem mem2 one.later (from + j * step) (is-not (from + i * step) (from + j * step) (places-apart from step i j apart ne)) c.runs.ready
        (o.free j below).outside (o.free j below).none

    pub places-further : PlacesMoving p old mem2 mv2 k from step n (i + 1)
    places-further = record {
      runs = one.runs;
      later = later-wider p (either (in_places from step n) (is_at (from + i * step))) (in_places from step n) old mem2
          (λ q h. elim (cases_Bool (in_places from step n q)) [
            | inl t ↦ t
            | inr f ↦ in-place from step n i q less (is-this (from + i * step) q
                (let e : (in_places from step n q || ((from + i * step) == q)) ≡ ((from + i * step) == q) = (rw f refl) in sym e ∙ h))
          ]) (later-then p (in_places from step n) (is_at (from + i * step)) old mem mem2 c.later one.later);
      done = λ j below in_range. elim (cases_eq j i) [
        | inl same ↦ (let P : ℕ → Type 0 = λ z. IsImage p mem2 (get_or old (from + z * step) 0) (get_or mem2 (from + z * step) 0) in
            let Q : ℕ → Type 0 = λ z. IsImage p mem2 z (get_or mem2 (from + i * step) 0) in
            subst P (sym same) (subst Q (c.todo i (omega arith) less) one.image))
        | inr ne ↦ (let S : ℕ → Type 0 = λ z. IsImage p mem2 (get_or old (from + j * step) 0) z in
            subst S (sym (other j ne in_range)) (image-kept p (is_at (from + i * step)) mem mem2 (get_or old (from + j * step) 0) (get_or mem (from + j * step) 0) one.later
            (o.reached j in_range) (c.done j (omega (arith, ne)) in_range)))
      ];
      todo = λ j above below. other j (λ same. omega arith) below ∙ c.todo j (omega arith) below;
    }

  pub places-done : n ≤ i → PlacesEvacuated p old mem mv k from step n
  places-done all = record {
    runs = c.runs;
    later = c.later;
    images = images-back p mem (words_at old from step n) (words_at mem from step n) (words-length mem from step n ∙ sym (words-length old from step n)) (λ j less.
        let below : j < n = omega (arith, less, words-length old from step n) in
        let P : ℕ → Type 0 = λ z. IsImage p mem z (get_or (words_at mem from step n) j 0) in
        let Q : ℕ → Type 0 = λ z. IsImage p mem (get_or old (from + j * step) 0) z in
        subst P (sym (word-at old from step n j below)) (subst Q (sym (word-at mem from step n j below)) (c.done j (omega arith) below)));
  }
