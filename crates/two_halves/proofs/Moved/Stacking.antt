-- A stack moves place by place.
use Rattle.std.proofs.Common.{◌≡◌, ℕ, zero, suc, ◌+◌, ◌-◌, ◌*◌, ◌<◌, ◌≤◌, ◌⊎◌, Bool, true, List, length, get_or, refl, sym, ◌∙◌, ap, subst, arith, inl, inr}
use Rattle.std.proofs.lemmas.Bool.{cases_eq}
use Rattle.cheney.specs.declared.moving.Moving.{Moving}
use Rattle.term_words.specs.Counted.{In}
use Rattle.cheney.specs.Plan.{Plan, Reached}
use Rattle.cheney.specs.Moved.{IsImage}
use Rattle.cheney.specs.Zones.{Marks}
use Rattle.cheney.specs.Calls.{CanMove}
use Rattle.cheney.specs.Collected.{AllImages}
use Rattle.two_halves.specs.Stack.{AreApart, IsLastPlace, IsPlace, IsStack, place_list, values}
use Rattle.two_halves.specs.Rows.{CanMoveStack, GoesAlong, IsAside, PlaceMoved, PlaceMoves, StackMoved, StackMoves}
use Rattle.two_halves.proofs.Moved.Going.{goes-same, goes-then}

-- The place that is so many below this one.
abbrev pub place_at : List ℕ → ℕ → ℕ → ℕ
place_at mem from zero = from
place_at mem from (suc i) = get_or mem (place_at mem from i + 1) 0

place-under : (mem : List ℕ) (from i : ℕ) → place_at mem from (suc i) ≡ place_at mem (get_or mem (from + 1) 0) i
place-under mem from zero = refl
place-under mem from (suc i) = ap (λ z. get_or mem (z + 1) 0) (place-under mem from i)

place-there : (c : ℕ → ℕ → Bool) (mem : List ℕ) (low limit from n i : ℕ) → IsStack c mem low limit from n → i < n → IsPlace c low limit (place_at mem from i)
place-there c mem low limit from zero i s less = absurd (omega arith)
place-there c mem low limit from (suc n) zero (here, rest) less = here
place-there c mem low limit from (suc n) (suc i) (here, rest) less =
    subst (IsPlace c low limit) (sym (place-under mem from i)) (place-there c mem low limit (get_or mem (from + 1) 0) n i rest (omega arith))

value-in : (mem : List ℕ) (from n i : ℕ) → i < n → In (get_or mem (place_at mem from i) 0) (values mem from n)
value-in mem from zero i less = absurd (omega arith)
value-in mem from (suc n) zero less = inl refl
value-in mem from (suc n) (suc i) less =
    inr (let P : ℕ → Type 0 = λ z. In (get_or mem z 0) (values mem (get_or mem (from + 1) 0) n) in subst P (sym (place-under mem from i)) (value-in mem (get_or mem (from + 1) 0) n i (omega arith)))

-- Places side by side: each names the next one.
abbrev pub AreLined : List ℕ → (to n : ℕ) → Type 0
AreLined mem to n = (j q : ℕ) → j < n → q ≡ to + 2 * j → get_or mem (q + 1) 0 ≡ q + 2

-- They hold what the values of a stack have become.
abbrev pub HoldImages : Plan → (old mem : List ℕ) → (from to n : ℕ) → Type 0
HoldImages p old mem from to n = (j q : ℕ) → j < n → q ≡ to + 2 * j → IsImage p mem (get_or old (place_at old from j) 0) (get_or mem q 0)

lined-stack : (c : ℕ → ℕ → Bool) (mem : List ℕ) (low limit to n : ℕ) → AreLined mem to n → low ≤ to → to + 2 * n ≤ limit
    → ((q k : ℕ) → to ≤ q → q < to + 2 * n → c q k ≡ true → ⊥) → IsStack c mem low limit to n
lined-stack c mem low limit to zero links above below bare = tt
lined-stack c mem low limit to (suc n) links above below bare =
    let P : ℕ → Type 0 = λ z. IsStack c mem low limit z n in
    let rest = lined-stack c mem low limit (to + 2) n (λ j q less e. links (suc j) q (omega arith) (omega (arith, e))) (omega (arith, above)) (omega (arith, below))
    (λ q k from under e. bare q k (omega (arith, from)) (omega (arith, under)) e) in (
      record { above = above; below = omega (arith, below); bare = λ q k from under e. bare q k from (omega (arith, under)) e },
      subst P (sym (links 0 to (omega arith) (omega arith))) rest,
    )

lined-end : (mem : List ℕ) (to n q : ℕ) → AreLined mem to n → q ≡ to + 2 * (n - 1) → IsLastPlace mem to n q
lined-end mem to zero q links e = tt
lined-end mem to (suc zero) q links e = omega (arith, e)
lined-end mem to (suc (suc n)) q links e =
    let P : ℕ → Type 0 = λ z. IsLastPlace mem z (suc n) q in
    subst P (sym (links 0 to (omega arith) (omega arith))) (lined-end mem (to + 2) (suc n) q (λ j p less is. links (suc j) p (omega arith) (omega (arith, is))) (omega (arith, e)))

-- They are apart.

lined-above : (mem : List ℕ) (to n q : ℕ) → AreLined mem to n → In q (place_list mem to n) → to ≤ q
lined-above mem to zero q links i = absurd i
lined-above mem to (suc n) q links (inl e) = omega (arith, e)
lined-above mem to (suc n) q links (inr i) =
    let P : ℕ → Type 0 = λ z. In q (place_list mem z n) in
    omega (
      arith,
      lined-above mem (to + 2) n q (λ j p less e. links (suc j) p (omega arith) (omega (arith, e))) (subst P (links 0 to (omega arith) (omega arith)) i),
    )

lined-apart : (mem : List ℕ) (to n : ℕ) → AreLined mem to n → AreApart (place_list mem to n)
lined-apart mem to zero links = tt
lined-apart mem to (suc n) links =
    let P : ℕ → Type 0 = λ z. AreApart (place_list mem z n) in
    let Q : ℕ → Type 0 = λ z. (q : ℕ) → In q (place_list mem z n) → (to + 2 ≤ q) ⊎ (q + 2 ≤ to) in
    let next : AreLined mem (to + 2) n = λ j q less e. links (suc j) q (omega arith) (omega (arith, e)) in
    let here : get_or mem (to + 1) 0 ≡ to + 2 = links 0 to (omega arith) (omega arith) in
    (subst Q (sym here) (λ q i. inl (lined-above mem (to + 2) n q next i)), subst P (sym here) (lined-apart mem (to + 2) n next))

lined-images : (p : Plan) (old mem : List ℕ) (from to n : ℕ) → HoldImages p old mem from to n → AreLined mem to n → AllImages p mem (values old from n) (values mem to n)
unfolding AllImages
lined-images p old mem from to zero images links = tt
lined-images p old mem from to (suc n) images links =
    let P : ℕ → Type 0 = λ z. AllImages p mem (values old (get_or old (from + 1) 0) n) (values mem z n) in (
      images 0 to (omega arith) (omega arith),
      subst P (sym (links 0 to (omega arith) (omega arith)))
          (lined-images p old mem (get_or old (from + 1) 0) (to + 2) n
          (λ j q less e. let Q : ℕ → Type 0 = λ z. IsImage p mem (get_or old z 0) (get_or mem q 0) in subst Q (place-under old from j) (images (suc j) q (omega arith) (omega (arith, e))))
          (λ j q less e. links (suc j) q (omega arith) (omega (arith, e)))),
    )

-- The first places are moved.
pub record Stacking (p : Plan) (old mem : List ℕ) (mv : Moving) (k : Marks) (from depth to i : ℕ) : Type 0 where
  pub goes : GoesAlong p old mem mv k to (to + 2 * depth)
  pub images : HoldImages p old mem from to i
  pub links : AreLined mem to i

-- So far, whatever the plan; the next place to move is known.
pub record StackLoop (old : List ℕ) (mv0 : Moving) (from depth to : ℕ) (mem : List ℕ) (mv : Moving) (i place : ℕ) : Type 0 where
  pub at : place ≡ place_at old from i
  pub moves : (p : Plan) (k : Marks) (low limit : ℕ) → StackMoves p old mv0 k low limit from depth to → Stacking p old mem mv k from depth to i

pub stack-start : (old : List ℕ) (mv0 : Moving) (from depth to : ℕ) → StackLoop old mv0 from depth to old mv0 0 from
stack-start old mv0 from depth to = record {
  at = refl;
  moves = λ p k low limit s. record {
    goes = goes-same p old mv0 k to (to + 2 * depth) s.room.runs;
    images = λ j q less e. absurd (omega (arith, less));
    links = λ j q less e. absurd (omega (arith, less));
  };
}

pub stack-end : (old : List ℕ) (mv0 : Moving) (from depth to : ℕ) (mem : List ℕ) (mv : Moving) (i place : ℕ) → StackLoop old mv0 from depth to mem mv i place → depth ≤ i
    → (p : Plan) (k : Marks) (low limit : ℕ) → StackMoves p old mv0 k low limit from depth to → StackMoved p old mem mv k from depth to
stack-end old mv0 from depth to mem mv i place l all p k low limit s =
    let g : Stacking p old mem mv k from depth to i = l.moves p k low limit s in
    let links : AreLined mem to depth = λ j q less e. g.links j q (omega (arith, less, all)) e in
    record {
      goes = g.goes;
      places = lined-stack p.test mem to (to + 2 * depth) to depth links (omega arith) (omega arith) (λ q k from under e. (s.room.new q from under).free k e);
      last = λ q e. lined-end mem to depth q links e;
      apart = lined-apart mem to depth links;
      images = lined-images p old mem from to depth (λ j q less e. g.images j q (omega (arith, less, all)) e) links;
    }

-- One place more.
module _ (p : Plan) (old : List ℕ) (mv0 : Moving) (k : Marks) (low limit from depth to : ℕ) (s : StackMoves p old mv0 k low limit from depth to) (mem : List ℕ) (mv : Moving)
    (i place : ℕ) (g : Stacking p old mem mv k from depth to i) (less : i < depth) (at : place ≡ place_at old from i) where
  there : IsPlace p.test low limit place
  there = subst (IsPlace p.test low limit) (sym at) (place-there p.test old low limit from depth i s.places less)

  aside-old : (q : ℕ) → place ≤ q → q < place + 2 → IsAside p q
  aside-old q above below = record { outside = s.room.old q (omega (arith, above, there.above)) (omega (arith, below, there.below)); free = λ k e. there.bare q k above below e }

  len : length mem ≡ length old
  len = g.goes.runs.holds.same_len ∙ sym s.room.runs.holds.same_len

  old-inside : place + 2 ≤ length mem
  old-inside = omega (arith, there.below, s.room.old_inside, len)

  new-inside : to + 2 * i + 2 ≤ length mem
  new-inside = omega (arith, less, s.room.new_inside, len)

  -- The old places are as they were.
  same : (q : ℕ) → place ≤ q → q < place + 2 → get_or mem q 0 ≡ get_or old q 0
  same q above below =
      g.goes.aside q (aside-old q above below)
      (elim s.room.apart [ inl a ↦ inl (omega (arith, a, below, there.below)) | inr a ↦ inr (omega (arith, a, above, there.above)) ])

  value : get_or mem place 0 ≡ get_or old (place_at old from i) 0
  value = same place (omega arith) (omega arith) ∙ ap (λ z. get_or old z 0) at

  under : get_or mem (place + 1) 0 ≡ place_at old from (i + 1)
  under =
      let one_more : suc i ≡ i + 1 = omega arith in
      (same (place + 1) (omega arith) (omega arith) ∙ ap (λ z. get_or old (z + 1) 0) at) ∙ ap (place_at old from) one_more

  -- The words that a step writes lie aside.
  aside : (q : ℕ) → to + 2 * i ≤ q → q < to + 2 * i + 2 → IsAside p q
  aside q above below = s.room.new q (omega (arith, above)) (omega (arith, below, less))

  moves : (next : ℕ) → next ≡ to + 2 * i → PlaceMoves p mem mv k place next
  moves next e = record {
    runs = g.goes.runs;
    reached = subst (Reached p) (sym value) (s.reached (get_or old (place_at old from i) 0) (value-in old from depth i less));
    first = aside next (omega (arith, e)) (omega (arith, e));
    second = aside (next + 1) (omega (arith, e)) (omega (arith, e));
  }

  module _ (mem2 : List ℕ) (mv2 : Moving) (next below : ℕ) (e : next ≡ to + 2 * i) (m : PlaceMoved p mem mem2 mv2 k place next below) where
    -- What was written before is there still.
    before : (q : ℕ) → to ≤ q → q < next → get_or mem2 q 0 ≡ get_or mem q 0
    before q above under = m.goes.aside q (s.room.new q above (omega (arith, under, e, less))) (inl under)

    images-more : HoldImages p old mem2 from to (i + 1)
    images-more j q small is = elim (cases_eq j i) [
      | inl last ↦ (
          let P : ℕ → Type 0 = λ z. IsImage p mem2 (get_or old (place_at old from z) 0) (get_or mem2 q 0) in
          let Q : ℕ → Type 0 = λ z. IsImage p mem2 (get_or old (place_at old from i) 0) (get_or mem2 z 0) in
          let R : ℕ → Type 0 = λ z. IsImage p mem2 z (get_or mem2 next 0) in
          let here : next ≡ q = omega (arith, last, is, e) in
          subst P (sym last) (subst Q here (subst R value m.image))
          )
      | inr other ↦ (
          let earlier : j < i = omega (arith, small, other) in
          let r : Reached p (get_or old (place_at old from j) 0) = s.reached (get_or old (place_at old from j) 0) (value-in old from depth j (omega (arith, earlier, less))) in
          let P : ℕ → Type 0 = λ z. IsImage p mem2 (get_or old (place_at old from j) 0) z in
          subst P (sym (before q (omega (arith, is)) (omega (arith, is, e, earlier)))) (m.goes.images (get_or old (place_at old from j) 0) (get_or mem q 0) r (g.images j q earlier is))
          )
    ]

    links-more : AreLined mem2 to (i + 1)
    links-more j q small is = elim (cases_eq j i) [
      | inl last ↦ (
          let P : ℕ → Type 0 = λ z. get_or mem2 (z + 1) 0 ≡ z + 2 in
          let here : next ≡ q = omega (arith, last, is, e) in
          subst P here m.next
          )
      | inr other ↦ (let earlier : j < i = omega (arith, small, other) in before (q + 1) (omega (arith, is)) (omega (arith, is, e, earlier)) ∙ g.links j q earlier is)
    ]

    more : Stacking p old mem2 mv2 k from depth to (i + 1)
    more = record {
      goes = goes-then p old mem mem2 mv mv2 k k to (to + 2 * depth) next (next + 2) to (to + 2 * depth) g.goes m.goes (omega arith) (omega arith) (omega (arith, e)) (omega (arith, e, less));
      images = images-more;
      links = links-more;
    }

-- The same where some stack may move.
module _ (old : List ℕ) (mv0 : Moving) (from depth to : ℕ) (r : CanMoveStack old mv0 from depth to) (mem : List ℕ) (mv : Moving) (i place : ℕ)
    (l : StackLoop old mv0 from depth to mem mv i place) (less : i < depth) where
  here : Stacking r.plan old mem mv r.marks from depth to i
  here = l.moves r.plan r.marks r.low r.limit r.moves

  pub step-old : place + 2 ≤ length mem
  step-old = old-inside r.plan old mv0 r.marks r.low r.limit from depth to r.moves mem mv i place here less l.at

  pub step-new : (to + 2 * i + 2 ≤ length mem) × (length mem ≡ length old)
  step-new = (
    new-inside r.plan old mv0 r.marks r.low r.limit from depth to r.moves mem mv i place here less l.at,
    len r.plan old mv0 r.marks r.low r.limit from depth to r.moves mem mv i place here less l.at,
  )

  pub step-moves : CanMove mem mv (get_or mem place 0)
  step-moves =
      let m : PlaceMoves r.plan mem mv r.marks place (to + 2 * i) = moves r.plan old mv0 r.marks r.low r.limit from depth to r.moves mem mv i place here less l.at (to + 2 * i) refl in
      record { plan = r.plan; marks = r.marks; runs = m.runs; reached = m.reached }

  pub step-more : (mem2 : List ℕ) (mv2 : Moving) (below : ℕ) → ((p : Plan) (k : Marks) → PlaceMoves p mem mv k place (to + 2 * i) → PlaceMoved p mem mem2 mv2 k place (to + 2 * i) below)
      → StackLoop old mv0 from depth to mem2 mv2 (i + 1) below
  step-more mem2 mv2 below moved = record {
    at =
        (moved r.plan r.marks (moves r.plan old mv0 r.marks r.low r.limit from depth to r.moves mem mv i place here less l.at (to + 2 * i) refl)).below_is
        ∙ under r.plan old mv0 r.marks r.low r.limit from depth to r.moves mem mv i place here less l.at;
    moves = λ p k low limit s.
        let g : Stacking p old mem mv k from depth to i = l.moves p k low limit s in
        more p old mv0 k low limit from depth to s mem mv i place g less l.at mem2 mv2 (to + 2 * i) below refl
        (moved p k (moves p old mv0 k low limit from depth to s mem mv i place g less l.at (to + 2 * i) refl));
  }
