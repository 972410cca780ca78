-- One stack place moves.
use Rattle.std.proofs.Common.{◌≡◌, ℕ, ◌+◌, ◌≤◌, List, length, get_or, set, sym, ◌∙◌, ap, subst, arith}
use Rattle.std.proofs.lemmas.List.{get_or-set_other, get_or-set_same, length-set}
use Rattle.cheney.specs.declared.moving.Moving.{Moving}
use Rattle.cheney.specs.Plan.{Plan, Reached}
use Rattle.cheney.specs.Moved.{IsImage}
use Rattle.cheney.specs.Zones.{Marks}
use Rattle.cheney.specs.Rooms.{Runs}
use Rattle.cheney.specs.Calls.{CanMove, Evacuated}
use Rattle.two_halves.specs.Rows.{GoesAlong, PlaceMoved, PlaceMoves}
use Rattle.two_halves.proofs.Moved.Going.{goes-call, goes-then, goes-write}

-- The new place lies in the memory still.
pub place-inside : (mem mem2 : List ℕ) (mv mv2 : Moving) (place to w x : ℕ) → CanMove mem mv (get_or mem place 0) → w ≡ get_or mem place 0
    → ((p : Plan) (k : Marks) → Runs p mem mv k → Reached p w → Evacuated p mem mem2 mv2 k w x) → to + 2 ≤ length mem → to + 2 ≤ length mem2
place-inside mem mem2 mv mv2 place to w x can e moved inside =
    omega (arith, inside, can.runs.holds.same_len, (moved can.plan can.marks can.runs (subst (Reached can.plan) (sym e) can.reached)).runs.holds.same_len)

module _ (p : Plan) (mem mem2 mem3 mem4 : List ℕ) (mv mv2 : Moving) (k : Marks) (place to w x : ℕ) (s : PlaceMoves p mem mv k place to)
    (e : w ≡ get_or mem place 0) (moved : Reached p w → Evacuated p mem mem2 mv2 k w x) (e3 : mem3 ≡ set mem2 to x) (e4 : mem4 ≡ set mem3 (to + 1) (to + 2)) (long : to + 2 ≤ length mem2) where
  reached : Reached p w
  reached = subst (Reached p) (sym e) s.reached

  called : GoesAlong p mem mem2 mv2 k to (to + 2)
  called = goes-call p mem mem2 mv2 k to (to + 2) (moved reached).runs (moved reached).later

  value-written : GoesAlong p mem2 mem3 mv2 k to (to + 2)
  value-written =
      let P : List ℕ → Type 0 = λ z. GoesAlong p mem2 z mv2 k to (to + 2) in
      subst P (sym e3) (goes-write p mem2 mv2 k to x to (to + 2) (moved reached).runs s.first (omega arith) (omega arith))

  link-written : GoesAlong p mem3 mem4 mv2 k to (to + 2)
  link-written =
      let P : List ℕ → Type 0 = λ z. GoesAlong p mem3 z mv2 k to (to + 2) in
      subst P (sym e4) (goes-write p mem3 mv2 k (to + 1) (to + 2) to (to + 2) value-written.runs s.second (omega arith) (omega arith))

  written : GoesAlong p mem2 mem4 mv2 k to (to + 2)
  written = goes-then p mem2 mem3 mem4 mv2 mv2 k k to (to + 2) to (to + 2) to (to + 2) value-written link-written (omega arith) (omega arith) (omega arith) (omega arith)

  value-there : get_or mem4 to 0 ≡ x
  value-there =
      ap (λ z. get_or z to 0) e4 ∙ get_or-set_other mem3 (to + 1) to (to + 2) 0 (λ same. omega (arith, same)) ∙ ap (λ z. get_or z to 0) e3
      ∙ get_or-set_same mem2 to x 0 (omega (arith, long))

  link-there : get_or mem4 (to + 1) 0 ≡ to + 2
  link-there = ap (λ z. get_or z (to + 1) 0) e4 ∙ get_or-set_same mem3 (to + 1) (to + 2) 0 (omega (arith, long, ap length e3, length-set mem2 to x))

  pub place-moved : (below : ℕ) → below ≡ get_or mem (place + 1) 0 → PlaceMoved p mem mem4 mv2 k place to below
  place-moved below is =
      let P : ℕ → Type 0 = λ z. IsImage p mem4 (get_or mem place 0) z in
      let Q : ℕ → Type 0 = λ z. IsImage p mem4 z x in
      record {
        goes = goes-then p mem mem2 mem4 mv2 mv2 k k to (to + 2) to (to + 2) to (to + 2) called written (omega arith) (omega arith) (omega arith) (omega arith);
        image = subst P (sym value-there) (subst Q e (written.images w x reached (moved reached).image));
        next = link-there;
        below_is = is;
      }
