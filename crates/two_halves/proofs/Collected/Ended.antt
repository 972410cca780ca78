-- A collection has ended: what stood in the one half stands in the other.
use Rattle.std.proofs.Common.{◌≡◌, ℕ, suc, ◌+◌, ◌-◌, ◌*◌, ◌<◌, ◌≤◌, ◌⊎◌, Bool, true, false, List, [], ◌∷◌, ◌++◌, length, refl, sym, ◌∙◌, ap, subst, arith, inl, inr}
use Rattle.std.proofs.lemmas.List.Sums.{sum_by-cons}
use Rattle.plain_term.specs.Tree.{Tree}
use Rattle.plain_machine.specs.State.{Process}
use Rattle.term_words.specs.Reach.{Reach}
use Rattle.term_words.specs.Stands.{Stands}
use Rattle.cheney.specs.declared.moving.Moving.{Moving}
use Rattle.term_words.specs.Counted.{In}
use Rattle.cheney.specs.Plan.{Leaves, Plan, Reached}
use Rattle.cheney.specs.Moved.{IsImage, forward}
use Rattle.cheney.specs.Zones.{Marks, at_objects}
use Rattle.cheney.specs.Rooms.{Runs, top_of}
use Rattle.cheney.specs.Calls.{CanScan, RunsOn}
use Rattle.cheney.specs.Collected.{AllImages, AreImages, Collected, FollowsMoves, RootsMoved}
use Rattle.cheney.specs.Next.{IsTiled}
use Rattle.cheney.proofs.Rooted.Begins.{has-collected, has-composed}
use Rattle.cheney.proofs.After.Next.{is-tiled}
use Rattle.cheney.proofs.Rooted.Rows.{images-all, images-join, root-in, images-count}
use Rattle.two_halves.specs.Stack.{AreApart, values}
use Rattle.two_halves.specs.Halves.{IsLaid, ProcsStand, Standing, all_places, places_in, end_of, front_of}
use Rattle.term_order.specs.Held.{HoldTrees}
use Rattle.two_halves.specs.Reached.{held_words, roots_in}
use Rattle.two_halves.specs.Rows.{AreMovedRows, CanMoveRows, GoesAlong, HaveStacks, IsAside, RowsMove, RowsMoved}
use Rattle.two_halves.specs.Collecting.{AreSameRows, CanCollect, IsBetween}
use Rattle.two_halves.specs.declared.halves.Halves.{Halves}
use Rattle.two_halves.specs.declared.table.Proc.{Proc}
use Rattle.two_halves.proofs.Standing.Apart.{all-kept}
use Rattle.two_halves.proofs.Moved.Going.{goes-call}
use Rattle.two_halves.proofs.Standing.Held.{held-words}
use Rattle.two_halves.proofs.Collected.Packed.{row-fits}
use Rattle.two_halves.proofs.Collected.Planned.{AreSides, IsTarget, Target, aside-there, object-here, plan_of, rows-move, sides}
use Rattle.two_halves.proofs.Moved.Rowing.{kept-aside, row-on}
use Rattle.two_halves.proofs.Standing.Stacks.{messages-in, others-in, registers-in, stack-under, values-in}

-- Rows that moved stay moved while the collection goes on elsewhere.
rows-on : (p : Plan) (start mem mem2 : List ℕ) (mv2 : Moving) (k : Marks) (low limit f t : ℕ) (olds news : List Proc) → AreMovedRows p start mem low limit olds news
    → GoesAlong p mem mem2 mv2 k f t → ((q : ℕ) → low ≤ q → q < limit → IsAside p q) → (limit ≤ f) ⊎ (t ≤ low)
    → ((w : ℕ) → In w (roots_in start olds) → Reached p w) → AreMovedRows p start mem2 low limit olds news
rows-on p start mem mem2 mv2 k low limit f t [] [] a g free apart r = tt
rows-on p start mem mem2 mv2 k low limit f t [] (n ∷ ns) a g free apart r = absurd a
rows-on p start mem mem2 mv2 k low limit f t (o ∷ os) [] a g free apart r = absurd a
rows-on p start mem mem2 mv2 k low limit f t (o ∷ os) (n ∷ ns) (first, rest) g free apart r = (
  row-on p start mem mem2 mv2 k low limit f t o n first g free apart (λ w i. r w (registers-in start o os w i))
      (λ w i. r w (values-in start o os w i)) (λ w i. r w (messages-in start o os w i)),
  rows-on p start mem mem2 mv2 k low limit f t os ns rest g free apart
      (λ w i. r w (others-in start o os w i)),
)

-- Their places are apart still.

have-moved : (p : Plan) (start mem : List ℕ) (low limit : ℕ) (olds news : List Proc) → AreMovedRows p start mem low limit olds news → HaveStacks p.test mem low limit news
have-moved p start mem low limit [] [] a = tt
have-moved p start mem low limit [] (n ∷ ns) a = absurd a
have-moved p start mem low limit (o ∷ os) [] a = absurd a
have-moved p start mem low limit (o ∷ os) (n ∷ ns) (first, rest) = (first.places, (first.waits, have-moved p start mem low limit os ns rest))

apart-on : (p : Plan) (start mem mem2 : List ℕ) (mv2 : Moving) (k : Marks) (low limit f t : ℕ) (olds news : List Proc) → AreMovedRows p start mem low limit olds news
    → GoesAlong p mem mem2 mv2 k f t → ((q : ℕ) → low ≤ q → q < limit → IsAside p q) → (limit ≤ f) ⊎ (t ≤ low) → AreApart (all_places mem news) → AreApart (all_places mem2 news)
apart-on p start mem mem2 mv2 k low limit f t olds news a g free away apart =
    subst AreApart (sym (all-kept p.test mem mem2 low limit news (kept-aside p mem mem2 mv2 k low limit f t g free away) (have-moved p start mem low limit olds news a))) apart

-- The new roots are what the old ones have become.
root-images : (p : Plan) (start mem : List ℕ) (low limit : ℕ) (olds news : List Proc) → AreMovedRows p start mem low limit olds news → AllImages p mem (roots_in start olds) (roots_in mem news)
unfolding AllImages
root-images p start mem low limit [] [] a = tt
root-images p start mem low limit [] (n ∷ ns) a = absurd a
root-images p start mem low limit (o ∷ os) [] a = absurd a
root-images p start mem low limit (o ∷ os) (n ∷ ns) (first, rest) =
    images-join p mem o.regs n.regs (values start o.stack o.depth ++ (values start o.queue o.waiting ++ roots_in start os))
    (values mem n.stack n.depth ++ (values mem n.queue n.waiting ++ roots_in mem ns)) first.registers
    (images-join p mem (values start o.stack o.depth) (values mem n.stack n.depth) (values start o.queue o.waiting ++ roots_in start os) (values mem n.queue n.waiting ++ roots_in mem ns)
    first.values_are
    (images-join p mem (values start o.queue o.waiting) (values mem n.queue n.waiting) (roots_in start os) (roots_in mem ns) first.messages_are (root-images p start mem low limit os ns rest)))

pub same-rows : (p : Plan) (start mem : List ℕ) (low limit : ℕ) (olds news : List Proc) → AreMovedRows p start mem low limit olds news → AreSameRows olds news
same-rows p start mem low limit [] [] a = tt
same-rows p start mem low limit [] (n ∷ ns) a = absurd a
same-rows p start mem low limit (o ∷ os) [] a = absurd a
same-rows p start mem low limit (o ∷ os) (n ∷ ns) (first, rest) = (first.number, (first.depth, (first.waiting, (first.refs, same-rows p start mem low limit os ns rest))))

pub same-places : (olds news : List Proc) → AreSameRows olds news → places_in news ≡ places_in olds
same-places [] [] a = refl
same-places [] (n ∷ ns) a = absurd a
same-places (o ∷ os) [] a = absurd a
same-places (o ∷ os) (n ∷ ns) (number, (depth, (waiting, (refs, rest)))) =
    omega (arith, depth, waiting, same-places os ns rest, sum_by-cons (λ x. x.depth + x.waiting) o os, sum_by-cons (λ x. x.depth + x.waiting) n ns)

pub row-count : (olds news : List Proc) → AreSameRows olds news → length news ≡ length olds
row-count [] [] a = refl
row-count [] (n ∷ ns) a = absurd a
row-count (o ∷ os) [] a = absurd a
row-count (o ∷ os) (n ∷ ns) (number, (depth, (waiting, (refs, rest)))) = ap suc (row-count os ns rest)

-- What the words have become holds their trees.
module _ (p : Plan) (c d : ℕ → ℕ → Bool) (shared : List (List ℕ)) (start mem : List ℕ) (named : ℕ)
    (stand : (w x : ℕ) (t : Tree) → Reached p w → IsImage p mem w x → Stands c shared start w t → Stands d shared mem x t) where
  trees-held : (ws xs : List ℕ) (ts : List Tree) → ((w : ℕ) → In w ws → Reached p w) → AllImages p mem ws xs → HoldTrees c shared start named ws ts → HoldTrees d shared mem named xs ts
  unfolding AllImages
  trees-held [] [] [] r a h = tt
  trees-held [] [] (t ∷ ts) r a h = absurd h
  trees-held [] (x ∷ xs) ts r a h = absurd a
  trees-held (w ∷ ws) [] ts r a h = absurd a
  trees-held (w ∷ ws) (x ∷ xs) [] r a h = absurd h
  trees-held (w ∷ ws) (x ∷ xs) (t ∷ ts) r (i, a) (first, rest) =
      (record { standing = stand w x t (r w (inl refl)) i first.standing; names = first.names }, trees-held ws xs ts (λ v j. r v (inr j)) a rest)

  procs-stand : (low limit low2 limit2 : ℕ) → ((q k : ℕ) → low2 ≤ q → q < limit2 → d q k ≡ true → ⊥) → (olds news : List Proc) (qs : List Process)
      → ((w : ℕ) → In w (roots_in start olds) → Reached p w) → AreMovedRows p start mem low2 limit2 olds news → ProcsStand c shared start low limit named olds qs → ProcsStand d shared mem
      low2 limit2 named news qs
  procs-stand low limit low2 limit2 bare [] [] [] r a s = tt
  procs-stand low limit low2 limit2 bare [] [] (q ∷ qs) r a s = absurd s
  procs-stand low limit low2 limit2 bare [] (n ∷ ns) qs r a s = absurd a
  procs-stand low limit low2 limit2 bare (o ∷ os) [] qs r a s = absurd a
  procs-stand low limit low2 limit2 bare (o ∷ os) (n ∷ ns) [] r a s = absurd s
  procs-stand low limit low2 limit2 bare (o ∷ os) (n ∷ ns) (q ∷ qs) r (moved, a) (first, s) = (
    record {
      number = first.number ∙ sym moved.number;
      count = images-count p mem o.regs n.regs moved.registers ∙ first.count;
      registers = trees-held o.regs n.regs q.registers (λ w i. r w (registers-in start o os w i)) moved.registers first.registers;
      places = stack-under p.test d mem low2 limit2 low2 limit2 n.stack n.depth (omega arith) (omega arith) (λ q k above below none. bare q k above below) moved.places;
      stack = trees-held (values start o.stack o.depth) (values mem n.stack n.depth) q.stack (λ w i. r w (values-in start o os w i)) moved.values_are first.stack;
      waits = stack-under p.test d mem low2 limit2 low2 limit2 n.queue n.waiting (omega arith) (omega arith) (λ q k above below none. bare q k above below) moved.waits;
      queue = trees-held (values start o.queue o.waiting) (values mem n.queue n.waiting) q.queue (λ w i. r w (messages-in start o os w i)) moved.messages_are first.queue;
      last = moved.last;
      refs = first.refs ∙ sym moved.refs;
    },
    procs-stand low limit low2 limit2 bare os ns qs (λ w i. r w (others-in start o os w i)) a s,
  )

-- All that lives was moved, and the words stand at the end of a scan: the new rows, in a memory where objects lie at their
-- new places, and records still at the old ones.
pub record Scanned (h : Halves) (t : Target) (x : Standing h) (m : List ℕ) (mv : Moving) (news : List Proc) : Type 0 where
  pub laid : IsLaid h
  pub target : IsTarget h t
  pub runs : Runs (plan_of h x t) m mv (at_objects mv.aged.top mv.young.top)
  pub rows : AreMovedRows (plan_of h x t) h.mem m t.to t.end h.procs.items news
  pub apart : AreApart (all_places m news)

module _ (h : Halves) (laid : IsLaid h) (t : Target) (is : IsTarget h t) (x : Standing h) (mem2 : List ℕ) (mv2 : Moving) (news : List Proc)
    (moved : RowsMoved (plan_of h x t) h.mem mem2 mv2 (at_objects t.from t.from) h.procs.items news t.end) where
  -- All is moved that the roots name, and nothing is scanned.
  runs-next : Runs (plan_of h x t) mem2 mv2 (at_objects mv2.aged.start mv2.young.start)
  runs-next =
      let P : ℕ → Type 0 = λ z. Runs (plan_of h x t) mem2 mv2 (at_objects z t.from) in
      let Q : ℕ → Type 0 = λ z. Runs (plan_of h x t) mem2 mv2 (at_objects mv2.aged.start z) in
      subst Q (sym moved.goes.runs.agrees.young_low) (subst P (sym moved.goes.runs.agrees.aged_low) moved.goes.runs)

  -- All is scanned.
  scanned : (mem3 : List ℕ) (mv3 : Moving) → RunsOn (plan_of h x t) mem2 mem3 mv3 (at_objects mv3.aged.top mv3.young.top) → Scanned h t x mem3 mv3 news
  scanned mem3 mv3 on =
      let P : ℕ → Type 0 = λ z. AreMovedRows (plan_of h x t) h.mem mem2 z t.end h.procs.items news in
      record {
        laid = laid;
        target = is;
        runs = on.runs;
        rows =
            rows-on (plan_of h x t) h.mem mem2 mem3 mv3 (at_objects mv3.aged.top mv3.young.top) t.to t.end t.to t.to h.procs.items news (subst P (sym is.last) moved.are)
            (goes-call (plan_of h x t) mem2 mem3 mv3 (at_objects mv3.aged.top mv3.young.top) t.to t.to on.runs on.later) (aside-there h laid t is x) (inr (omega arith)) (root-in (plan_of h x t));
        apart =
            apart-on (plan_of h x t) h.mem mem2 mem3 mv3 (at_objects mv3.aged.top mv3.young.top) t.to t.end t.to t.to h.procs.items news (subst P (sym is.last) moved.are)
            (goes-call (plan_of h x t) mem2 mem3 mv3 (at_objects mv3.aged.top mv3.young.top) t.to t.to on.runs on.later) (aside-there h laid t is x) (inr (omega arith)) moved.apart;
      }

-- The collection up to there.
module _ (h : Halves) (r : CanCollect h) (t : Target) (is : IsTarget h t) (mv : Moving) (b : IsBetween t.from t.to mv) (rows : List Proc) (table : rows ≡ h.procs.items) where
  pub can-move-rows : CanMoveRows h.mem mv rows t.end
  can-move-rows =
      let P : List Proc → Type 0 = λ z. CanMoveRows h.mem mv z t.end in
      subst P (sym table) (record {
        plan = plan_of h r.standing t;
        marks = at_objects t.from t.from;
        low = h.room.end;
        limit = end_of h;
        moves = rows-move h r.laid t is r.standing mv b;
      })

  module _ (mem2 : List ℕ) (mv2 : Moving) (news : List Proc)
      (moves : (p : Plan) (k : Marks) (low limit : ℕ) → RowsMove p h.mem mv k low limit rows t.end → RowsMoved p h.mem mem2 mv2 k rows news t.end) where
    moved : (x : Standing h) → RowsMoved (plan_of h x t) h.mem mem2 mv2 (at_objects t.from t.from) h.procs.items news t.end
    moved x =
        let P : List Proc → Type 0 = λ z. RowsMoved (plan_of h x t) h.mem mem2 mv2 (at_objects t.from t.from) z news t.end in
        let Q : List Proc → Type 0 = λ z. RowsMove (plan_of h x t) h.mem mv (at_objects t.from t.from) h.room.end (end_of h) z t.end in
        subst P table (moves (plan_of h x t) (at_objects t.from t.from) h.room.end (end_of h) (subst Q (sym table) (rows-move h r.laid t is x mv b)))

    runs : (x : Standing h) → Runs (plan_of h x t) mem2 mv2 (at_objects mv2.aged.start mv2.young.start)
    runs x = runs-next h r.laid t is x mem2 mv2 news (moved x)

    pub can-scan : CanScan mem2 mv2
    can-scan = record { plan = plan_of h r.standing t; runs = runs r.standing }

    pub all-scanned : (mem3 : List ℕ) (mv3 : Moving)
        → ((p : Plan) → Runs p mem2 mv2 (at_objects mv2.aged.start mv2.young.start) → RunsOn p mem2 mem3 mv3 (at_objects mv3.aged.top mv3.young.top))
        → (x : Standing h) → Scanned h t x mem3 mv3 news
    all-scanned mem3 mv3 scans x = scanned h r.laid t is x mem2 mv2 news (moved x) mem3 mv3 (scans (plan_of h x t) (runs x))

-- What is known then.
module _ (h : Halves) (t : Target) (x : Standing h) (m : List ℕ) (mv : Moving) (news : List Proc) (y : Scanned h t x m mv news) where
  ended : RootsMoved (plan_of h x t) m × AreImages (plan_of h x t) m (roots_in m news)
  ended = images-all (plan_of h x t) m (roots_in m news) (root-images (plan_of h x t) h.mem m t.to t.end h.procs.items news y.rows)

  pub whole : Collected (plan_of h x t) m (top_of mv)
  whole = has-collected (plan_of h x t) m mv y.runs ended.0

  pub same : AreSameRows h.procs.items news
  same = same-rows (plan_of h x t) h.mem m t.to t.end h.procs.items news y.rows

  pub sides-there : AreSides h t
  sides-there = sides h y.laid t y.target

  pub top-between : (t.from ≤ mv.young.top) × (mv.young.top ≤ t.to)
  top-between = (omega (arith, y.runs.holds.begins false, y.runs.holds.inner false, y.runs.holds.outer false), whole.ends false)

  pub aged-between : mv.aged.top ≤ t.from
  aged-between = whole.ends true

  -- The processes stand, where no place has a role.
  pub procs-there : (d : ℕ → ℕ → Bool) → FollowsMoves (plan_of h x t) m d → ((q k : ℕ) → t.to ≤ q → q < t.end → d q k ≡ true → ⊥)
      → ProcsStand d x.shared m t.to t.end x.named news x.processes
  procs-there d follows bare =
      procs-stand (plan_of h x t) x.stands.test d x.shared h.mem m x.named (λ w z u. whole.trees d follows w z u) h.room.end (end_of h) t.to t.end bare h.procs.items news x.processes
      (root-in (plan_of h x t)) y.rows x.stands.processes

  -- The copies are what the new roots reach.
  pub tiles-there : IsTiled (plan_of h x t) m false mv.young.top
  tiles-there = is-tiled (plan_of h x t) m mv y.runs ended.0 whole false

  pub reach-there : (v w : ℕ) → Reached (plan_of h x t) v → IsImage (plan_of h x t) m v w → Reach m (roots_in m news) w
  reach-there v w r i = (has-composed (plan_of h x t) m mv y.runs ended.0).reached (roots_in m news) ended.1 v w r i

  pub copy-there : (v : ℕ) → Reached (plan_of h x t) v → Leaves (plan_of h x t) v → Reach m (roots_in m news) (forward m v)
  copy-there v r l = reach-there v (forward m v) r (record { kept = λ stays. absurd (stays l); gone = λ z. (whole.complete v r l, refl) })

  -- They take no more words than the objects of the old half, and than their trees.
  pub objects-few : mv.young.top ≤ t.from + (h.room.top - front_of h)
  objects-few =
      let o = whole.filled false in
      row-fits (plan_of h x t) y.runs.ready m false t.from mv.young.top (front_of h) h.room.top o.each o.row y.laid.front (object-here h y.laid t y.target x)

  pub objects-held : (mv.young.top - t.from) + 2 * places_in h.procs.items ≤ held_words x.processes
  objects-held = omega (arith, whole.words, held-words x.stands.test x.shared h.mem h.room.end (end_of h) x.named h.procs.items x.processes x.stands.processes)
