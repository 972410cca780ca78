-- Roots by membership and list by list, a row of them moved one by one, and a whole collection from a row.
use Rattle.std.proofs.Common.{◌≡◌, ℕ, zero, suc, ◌+◌, ◌<◌, ◌≤◌, ◌⊎◌, Bool, true, List, [], ◌∷◌, ◌++◌, length, get_or, set, refl, sym, ◌∙◌, ap, subst, arith, inl, inr}
use Rattle.std.proofs.lemmas.Bool.{cases_eq}
use Rattle.std.proofs.lemmas.List.{length-set, get_or-set_other, get_or-set_same}
use Rattle.term_words.specs.Reach.{Reach, root}
use Rattle.term_words.proofs.Totals.Members.{in-left, in-right, in-at}
use Rattle.cheney.specs.declared.moving.Moving.{Moving}
use Rattle.term_words.specs.Counted.{In}
use Rattle.cheney.specs.Plan.{Leaves, Plan, Ready, Reached}
use Rattle.cheney.specs.Moved.{IsImage, moved}
use Rattle.cheney.specs.Zones.{Marks, at_objects}
use Rattle.cheney.specs.Rooms.{Runs}
use Rattle.cheney.specs.Calls.{CanMove, Evacuated, Later, RunsOn, nowhere}
use Rattle.cheney.specs.Collected.{AllImages, AreImages, CanStart, IsBeside, RootsMoved}
use Rattle.cheney.specs.Roots.{AllEvacuated, CanMoveAll}
use Rattle.cheney.specs.Next.{Ended}
use Rattle.cheney.proofs.Rooted.Begins.{begins, beside-grows, has-collected, image-kept}
use Rattle.cheney.proofs.Stepping.Facts.{Grows, image-later}
use Rattle.cheney.proofs.Before.Ground.{ground}
use Rattle.cheney.proofs.Stepping.Steps.{later-same, later-then}

-- Words of lists.

pub in-joined : (w : ℕ) (vs ws : List ℕ) → In w vs ⊎ In w ws → In w (vs ++ ws)
in-joined w vs ws (inl i) = in-left w vs ws i
in-joined w vs ws (inr i) = in-right w vs ws i

reach-in : (mem roots : List ℕ) (w : ℕ) (k : ℕ) (ws : List ℕ) → ((j : ℕ) → j < length ws → (k + j < length roots) × (get_or ws j 0 ≡ get_or roots (k + j) 0)) → In w ws → Reach mem roots w
reach-in mem roots w k [] tail i = absurd i
reach-in mem roots w k (v ∷ vs) tail (inl e) = let (less, same) = tail 0 (omega arith) in root (k + 0) w less (e ∙ same)
reach-in mem roots w k (v ∷ vs) tail (inr i) = reach-in mem roots w (k + 1) vs (λ j below. let (less, same) = tail (suc j) (omega arith) in
    (omega (arith, less), same ∙ ap (λ z. get_or roots z 0) (omega arith))) i

pub root-in : (p : Plan) (w : ℕ) → In w p.roots → Reached p w
root-in p w i = reach-in p.start p.roots w 0 p.roots (λ j less. (omega (arith, less), ap (λ z. get_or p.roots z 0) (omega arith))) i

pub roots-in : (p : Plan) (m : List ℕ) → ((w : ℕ) → In w p.roots → Leaves p w → moved m w ≡ true) → RootsMoved p m
roots-in p m each = record { each = λ j less l. each (get_or p.roots j 0) (in-at p.roots j less) l }

-- Images list by list.

module _ (p : Plan) where
  pub images-join : (m vs xs ws ys : List ℕ) → AllImages p m vs xs → AllImages p m ws ys → AllImages p m (vs ++ ws) (xs ++ ys)
  unfolding AllImages
  images-join m [] [] ws ys a b = b
  images-join m [] (x ∷ xs) ws ys a b = absurd a
  images-join m (v ∷ vs) [] ws ys a b = absurd a
  images-join m (v ∷ vs) (x ∷ xs) ws ys (i, a) b = (i, images-join m vs xs ws ys a b)

  images-grow : (m n vs xs : List ℕ) → Grows p m n → ((w : ℕ) → In w vs → Reached p w) → AllImages p m vs xs → AllImages p n vs xs
  unfolding AllImages
  images-grow m n [] [] g r a = tt
  images-grow m n [] (x ∷ xs) g r a = absurd a
  images-grow m n (v ∷ vs) [] g r a = absurd a
  images-grow m n (v ∷ vs) (x ∷ xs) g r (i, a) = (image-later p m n v x g (r v (inl refl)) i, images-grow m n vs xs g (λ w j. r w (inr j)) a)

  pub images-later : (s : ℕ → Bool) (m n vs xs : List ℕ) → Later p s m n → ((w : ℕ) → In w vs → Reached p w) → AllImages p m vs xs → AllImages p n vs xs
  images-later s m n vs xs later r a = images-grow m n vs xs (record { gone = later.gone; same = later.same }) r a

  pub images-beside : (m n vs xs : List ℕ) (top : Bool → ℕ) → Ready p → IsBeside p m n top → ((w : ℕ) → In w vs → Reached p w) → AllImages p m vs xs → AllImages p n vs xs
  images-beside m n vs xs top y o r a = images-grow m n vs xs (beside-grows p (ground p y) m n top o) r a

  pub images-count : (m vs xs : List ℕ) → AllImages p m vs xs → length xs ≡ length vs
  unfolding AllImages
  images-count m [] [] a = refl
  images-count m [] (x ∷ xs) a = absurd a
  images-count m (v ∷ vs) [] a = absurd a
  images-count m (v ∷ vs) (x ∷ xs) (i, a) = ap suc (images-count m vs xs a)

  images-at : (m vs xs : List ℕ) → AllImages p m vs xs → (j : ℕ) → j < length vs → IsImage p m (get_or vs j 0) (get_or xs j 0)
  unfolding AllImages
  images-at m [] xs a j less = absurd (omega arith)
  images-at m (v ∷ vs) [] a j less = absurd a
  images-at m (v ∷ vs) (x ∷ xs) (i, a) zero less = i
  images-at m (v ∷ vs) (x ∷ xs) (i, a) (suc j) less = images-at m vs xs a j (omega arith)

  pub images-all : (m ws : List ℕ) → AllImages p m p.roots ws → RootsMoved p m × AreImages p m ws
  images-all m ws a = (record { each = λ j less l. ((images-at m p.roots ws a j less).gone l).0 }, record { count = images-count m p.roots ws a; each = images-at m p.roots ws a })

  pub images-back : (m vs xs : List ℕ) → length xs ≡ length vs → ((j : ℕ) → j < length vs → IsImage p m (get_or vs j 0) (get_or xs j 0)) → AllImages p m vs xs
  unfolding AllImages
  images-back m [] [] n each = tt
  images-back m [] (x ∷ xs) n each = omega (arith, n)
  images-back m (v ∷ vs) [] n each = omega (arith, n)
  images-back m (v ∷ vs) (x ∷ xs) n each = (each 0 (omega arith), images-back m vs xs (omega (arith, n)) (λ j less. each (suc j) (omega arith)))

  pub images-of : (m ws : List ℕ) → AreImages p m ws → AllImages p m p.roots ws
  images-of m ws a = images-back m p.roots ws a.count a.each

-- The first words of the row are moved, and the others are as they were.
pub record RowMoving (p : Plan) (old mem : List ℕ) (mv : Moving) (k : Marks) (vs ws : List ℕ) (i : ℕ) : Type 0 where
  pub runs : Runs p mem mv k
  pub later : Later p nowhere old mem
  pub count : length ws ≡ length vs
  pub done : (j : ℕ) → j < i → j < length vs → IsImage p mem (get_or vs j 0) (get_or ws j 0)
  pub todo : (j : ℕ) → i ≤ j → get_or ws j 0 ≡ get_or vs j 0

pub row-start : (p : Plan) (mem : List ℕ) (mv : Moving) (k : Marks) (vs : List ℕ) → Runs p mem mv k → RowMoving p mem mem mv k vs vs 0
row-start p mem mv k vs run = record { runs = run; later = later-same p mem; count = refl; done = λ j less in_range. absurd (omega arith); todo = λ j h. refl }

module _ (p : Plan) (old mem : List ℕ) (mv : Moving) (k : Marks) (vs ws : List ℕ) (i : ℕ) (c : RowMoving p old mem mv k vs ws i) (each : (w : ℕ) → In w vs → Reached p w) where
  pub row-reached : i < length ws → Reached p (get_or ws i 0)
  row-reached less = let P : ℕ → Type 0 = λ z. Reached p z in subst P (sym (c.todo i (omega arith))) (each (get_or vs i 0) (in-at vs i (omega (arith, less, c.count))))

  pub row-moves : i < length ws → CanMove mem mv (get_or ws i 0)
  row-moves less = record { plan = p; marks = k; runs = c.runs; reached = row-reached less }

  pub row-further : (mem2 : List ℕ) (mv2 : Moving) (x : ℕ) → i < length ws → Evacuated p mem mem2 mv2 k (get_or ws i 0) x → RowMoving p old mem2 mv2 k vs (set ws i x) (i + 1)
  row-further mem2 mv2 x less ev = record {
    runs = ev.runs;
    later = later-then p nowhere nowhere old mem mem2 c.later ev.later;
    count = length-set ws i x ∙ c.count;
    done = λ j below in_range. elim (cases_eq j i) [
      | inl same ↦ (let now : get_or (set ws i x) i 0 ≡ x = (rw get_or-set_same refl) in
          let P : ℕ → Type 0 = λ z. IsImage p mem2 (get_or vs z 0) (get_or (set ws i x) z 0) in
          let Q : ℕ → Type 0 = λ z. IsImage p mem2 (get_or vs i 0) z in
          let R : ℕ → Type 0 = λ z. IsImage p mem2 z x in
          subst P (sym same) (subst Q (sym now) (subst R (c.todo i (omega arith)) ev.image)))
      | inr ne ↦ (let S : ℕ → Type 0 = λ z. IsImage p mem2 (get_or vs j 0) z in
          subst S (sym (get_or-set_other ws i j x 0 ne)) (image-kept p nowhere mem mem2 (get_or vs j 0) (get_or ws j 0) ev.later (each (get_or vs j 0) (in-at vs j in_range))
          (c.done j (omega (arith, ne)) in_range)))
    ];
    todo = λ j above. get_or-set_other ws i j x 0 (λ s. omega arith) ∙ c.todo j (omega arith);
  }

  pub row-done : length vs ≤ i → AllEvacuated p old mem mv k vs ws
  row-done all = record { runs = c.runs; later = c.later; images = images-back p mem vs ws c.count (λ j less. c.done j (omega arith) less) }

-- A whole collection from a row.

-- The rooms start where they did.
pub starts : (p : Plan) (mem mem2 : List ℕ) (mv mv2 : Moving) (k : Marks) → Runs p mem mv k → Runs p mem2 mv2 (at_objects mv.aged.start mv.young.start) → Runs p mem2 mv2
    (at_objects mv2.aged.start mv2.young.start)
starts p mem mem2 mv mv2 k a b =
    let e : mv.aged.start ≡ mv2.aged.start = a.agrees.aged_low ∙ sym b.agrees.aged_low in
    let f : mv.young.start ≡ mv2.young.start = a.agrees.young_low ∙ sym b.agrees.young_low in
    let P : ℕ → Type 0 = λ z. Runs p mem2 mv2 (at_objects z mv.young.start) in
    let Q : ℕ → Type 0 = λ z. Runs p mem2 mv2 (at_objects mv2.aged.start z) in
    subst Q f (subst P e b)

module _ (p : Plan) (mem : List ℕ) (mv : Moving) (ws : List ℕ) (b : CanStart p mem mv ws) where
  pub start-runs : Runs p mem mv (at_objects mv.aged.start mv.young.start)
  start-runs = let P : List ℕ → Type 0 = λ z. Runs p z mv (at_objects mv.aged.start mv.young.start) in subst P b.memory (begins p mv b.ready b.agrees b.aged_empty b.young_empty)

  pub start-reached : (w : ℕ) → In w ws → Reached p w
  start-reached w i = let P : List ℕ → Type 0 = λ z. In w z in root-in p w (subst P (sym b.words) i)

  pub start-moves : CanMoveAll mem mv ws
  start-moves = record { plan = p; marks = at_objects mv.aged.start mv.young.start; runs = start-runs; reached = start-reached }

  module _ (mem2 : List ℕ) (mv2 : Moving) (xs : List ℕ) (all : AllEvacuated p mem mem2 mv2 (at_objects mv.aged.start mv.young.start) ws xs) where
    pub then-scans : Runs p mem2 mv2 (at_objects mv2.aged.start mv2.young.start)
    then-scans = starts p mem mem2 mv mv2 (at_objects mv.aged.start mv.young.start) start-runs all.runs

    module _ (mem3 : List ℕ) (mv3 : Moving) (scans : Runs p mem2 mv2 (at_objects mv2.aged.start mv2.young.start) → RunsOn p mem2 mem3 mv3 (at_objects mv3.aged.top mv3.young.top)) where
      pub same-length : length mem3 ≡ length mem
      same-length = (scans then-scans).runs.holds.same_len ∙ ap length b.memory

      pub ended : Ended p mem3 mv3 xs
      ended =
          let r : RunsOn p mem2 mem3 mv3 (at_objects mv3.aged.top mv3.young.top) = scans then-scans in
          let here : AllImages p mem3 ws xs = images-later p nowhere mem2 mem3 ws xs r.later start-reached all.images in
          let P : List ℕ → Type 0 = λ z. AllImages p mem3 z xs in
          let (moved, images) = images-all p mem3 xs (subst P (sym b.words) here) in
          record { runs = r.runs; moved = moved; images = images; collected = has-collected p mem3 mv3 r.runs moved }
