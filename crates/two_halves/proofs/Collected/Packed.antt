-- Each object is copied once: the copies take no more words than the places that the objects lie in.
use Rattle.std.proofs.Common.{ℕ, ◌+◌, ◌-◌, ◌/◌, ◌≤◌, Bool, true, List, refl, arith}
use Rattle.term_words.specs.Counted.{ArePacked}
use Rattle.term_words.specs.Object.{IsPointer}
use Rattle.term_words.proofs.Totals.Counts.{count-most}
use Rattle.term_words.proofs.Totals.Packing.{packed}
use Rattle.cheney.specs.Plan.{Plan, Reached, Ready, size}
use Rattle.cheney.specs.Zones.{Row}
use Rattle.cheney.proofs.Before.Basics.{size-some}
use Rattle.cheney.proofs.After.Counts.{in-row, row-distinct}
use Rattle.cheney.proofs.After.Ends.{row-total}
use Rattle.cheney.proofs.Before.Ground.{Ground, ground}

module _ (p : Plan) (y : Ready p) (m : List ℕ) (b : Bool) (place top from to : ℕ) (vs : List ℕ) (row : Row p m b place vs top) (order : from ≤ to)
    (lies : (v : ℕ) → Reached p v → IsPointer v → (from ≤ v / 4) × (v / 4 + size p v ≤ to)) where
  are-packed : ArePacked (λ v. v / 4) (size p) (λ q. true) from (to - from) vs
  are-packed =
      let g : Ground p = ground p y in
      record {
        once = row-distinct p m b place vs top row;
        apart = λ v w i j. let x = in-row p m b place vs top row v i in let z = in-row p m b place vs top row w j in g.apart v w x.0 x.1.0.pointer z.0 z.1.0.pointer;
        some = λ v i. size-some p v (in-row p m b place vs top row v i).1.0.pointer;
        inside = λ v i. let x = in-row p m b place vs top row v i in let l = lies v x.0 x.1.0.pointer in (l.0, omega (arith, l.1, order));
        passes = λ v q i low high. refl;
      }

  pub row-fits : top ≤ place + (to - from)
  row-fits = omega (arith, row-total p m b place vs top row, packed (λ v. v / 4) (size p) (λ q. true) from (to - from) vs are-packed, count-most (λ q. true) from (to - from))
