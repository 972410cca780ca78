-- What a row names moves, and then what the next row names.
use Rattle.std.proofs.Common.{◌≡◌, ℕ, ◌+◌, ◌-◌, ◌*◌, ◌<◌, ◌≤◌, ◌⊎◌, List, ◌++◌, refl, sym, ◌∙◌, ap, subst, arith, inl, inr}
use Rattle.cheney.specs.declared.moving.Moving.{Moving}
use Rattle.term_words.specs.Counted.{In}
use Rattle.cheney.specs.Plan.{Plan, Reached}
use Rattle.cheney.specs.Zones.{Marks}
use Rattle.cheney.specs.Collected.{AllImages}
use Rattle.cheney.specs.Roots.{AllEvacuated}
use Rattle.two_halves.specs.Stack.{AreApart, IsPlace, IsStack, place_list, values}
use Rattle.two_halves.specs.Halves.{places_of}
use Rattle.two_halves.specs.Rows.{GoesAlong, HasPlaces, IsAside, IsMovedRow, RowMoved, RowMoves, StackMoved, StackMoves}
use Rattle.two_halves.specs.declared.table.Proc.{Proc}
use Rattle.two_halves.proofs.Standing.Apart.{apart-both, place-within, places-kept}
use Rattle.two_halves.proofs.Moved.Going.{goes-call, goes-then, images-on}
use Rattle.two_halves.proofs.Standing.Stacks.{AreKept, ends-kept, stack-kept, stack-wider, values-kept}

-- The places are there still.
pub room-on : (p : Plan) (mem mem2 : List ℕ) (mv mv2 : Moving) (k : Marks) (low limit to n f t : ℕ) → HasPlaces p mem mv k low limit to n → GoesAlong p mem mem2 mv2 k f t
    → HasPlaces p mem2 mv2 k low limit to n
room-on p mem mem2 mv mv2 k low limit to n f t h g = record {
  runs = g.runs;
  old = h.old;
  new = h.new;
  apart = h.apart;
  old_inside = omega (arith, h.old_inside, h.runs.holds.same_len, g.runs.holds.same_len);
  new_inside = omega (arith, h.new_inside, h.runs.holds.same_len, g.runs.holds.same_len);
}

-- What a collection goes on without: the old places.
pub old-kept : (p : Plan) (mem mem2 : List ℕ) (mv mv2 : Moving) (k : Marks) (low limit to n f t : ℕ) → HasPlaces p mem mv k low limit to n → GoesAlong p mem mem2 mv2 k f t
    → (limit ≤ f) ⊎ (t ≤ low) → AreKept p.test mem mem2 low limit
old-kept p mem mem2 mv mv2 k low limit to n f t h g apart q above below bare =
    g.aside q (record { outside = h.old q above below; free = bare }) (elim apart [ inl a ↦ inl (omega (arith, a, below)) | inr a ↦ inr (omega (arith, a, above)) ])

-- A stack or a queue may move after calls, and after others have moved elsewhere.
stack-on : (p : Plan) (mem mem2 : List ℕ) (mv mv2 : Moving) (k : Marks) (low limit from depth to f t : ℕ) → StackMoves p mem mv k low limit from depth to → GoesAlong p mem mem2 mv2 k f t
    → (limit ≤ f) ⊎ (t ≤ low) → StackMoves p mem2 mv2 k low limit from depth to
stack-on p mem mem2 mv mv2 k low limit from depth to f t s g apart =
    let same : AreKept p.test mem mem2 low limit = old-kept p mem mem2 mv mv2 k low limit to (2 * depth) f t s.room g apart in
    record {
      room = room-on p mem mem2 mv mv2 k low limit to (2 * depth) f t s.room g;
      places = stack-kept p.test mem mem2 low limit from depth same s.places;
      reached = λ w i. s.reached w (subst (In w) (values-kept p.test mem mem2 low limit from depth same s.places) i);
    }

-- Its places are the same.
pub moved-places : (p : Plan) (start mem mem2 : List ℕ) (low limit : ℕ) (old new : Proc) → IsMovedRow p start mem low limit old new → AreKept p.test mem mem2 low limit
    → places_of mem2 new ≡ places_of mem new
moved-places p start mem mem2 low limit old new r same =
    ap (λ z. z ++ place_list mem2 new.queue new.waiting) (places-kept p.test mem mem2 low limit new.stack new.depth same r.places)
    ∙ ap (λ z. place_list mem new.stack new.depth ++ z) (places-kept p.test mem mem2 low limit new.queue new.waiting same r.waits)

-- What lies aside between the bounds is kept.
pub kept-aside : (p : Plan) (mem mem2 : List ℕ) (mv2 : Moving) (k : Marks) (low limit f t : ℕ) → GoesAlong p mem mem2 mv2 k f t → ((q : ℕ) → low ≤ q → q < limit → IsAside p q)
    → (limit ≤ f) ⊎ (t ≤ low) → AreKept p.test mem mem2 low limit
kept-aside p mem mem2 mv2 k low limit f t g free apart q above below bare =
    g.aside q (free q above below) (elim apart [ inl a ↦ inl (omega (arith, a, below)) | inr a ↦ inr (omega (arith, a, above)) ])

-- A moved row stays moved while a collection goes on below its places.
pub row-on : (p : Plan) (start mem mem2 : List ℕ) (mv2 : Moving) (k : Marks) (low limit f t : ℕ) (old new : Proc) → IsMovedRow p start mem low limit old new → GoesAlong p mem mem2 mv2 k f t
    → ((q : ℕ) → low ≤ q → q < limit → IsAside p q) → (limit ≤ f) ⊎ (t ≤ low) → ((w : ℕ) → In w old.regs → Reached p w)
    → ((w : ℕ) → In w (values start old.stack old.depth) → Reached p w) → ((w : ℕ) → In w (values start old.queue old.waiting) → Reached p w)
    → IsMovedRow p start mem2 low limit old new
row-on p start mem mem2 mv2 k low limit f t old new r g free apart registers stack queue =
    let same : AreKept p.test mem mem2 low limit = kept-aside p mem mem2 mv2 k low limit f t g free apart in
    let P : List ℕ → Type 0 = λ z. AllImages p mem2 (values start old.stack old.depth) z in
    let Q : List ℕ → Type 0 = λ z. AllImages p mem2 (values start old.queue old.waiting) z in
    record {
      number = r.number;
      depth = r.depth;
      waiting = r.waiting;
      refs = r.refs;
      registers = images-on p mem mem2 old.regs new.regs g.images registers r.registers;
      places = stack-kept p.test mem mem2 low limit new.stack new.depth same r.places;
      values_are =
          subst P (sym (values-kept p.test mem mem2 low limit new.stack new.depth same r.places))
          (images-on p mem mem2 (values start old.stack old.depth) (values mem new.stack new.depth) g.images stack r.values_are);
      waits = stack-kept p.test mem mem2 low limit new.queue new.waiting same r.waits;
      messages_are =
          subst Q (sym (values-kept p.test mem mem2 low limit new.queue new.waiting same r.waits))
          (images-on p mem mem2 (values start old.queue old.waiting) (values mem new.queue new.waiting) g.images queue r.messages_are);
      last = ends-kept p.test mem mem2 low limit new.queue new.waiting new.last same r.waits r.last;
      apart = subst AreApart (sym (moved-places p start mem mem2 low limit old new r same)) r.apart;
    }

module _ (p : Plan) (mem mem1 : List ℕ) (mv mv1 : Moving) (k : Marks) (low limit to : ℕ) (row : Proc) (regs : List ℕ)
    (r : RowMoves p mem mv k low limit row to) (w : AllEvacuated p mem mem1 mv1 k row.regs regs) where
  called : GoesAlong p mem mem1 mv1 k low low
  called = goes-call p mem mem1 mv1 k low low w.runs w.later

  pub stack-next : StackMoves p mem1 mv1 k low limit row.stack row.depth to
  stack-next = stack-on p mem mem1 mv mv1 k low limit row.stack row.depth to low low r.stack called (inr (omega arith))

  module _ (mem2 : List ℕ) (mv2 : Moving) (s : StackMoved p mem1 mem2 mv2 k row.stack row.depth to) where
    aside-stack : (limit ≤ to) ⊎ (to + 2 * row.depth ≤ low)
    aside-stack = r.stack.room.apart

    queue-called : StackMoves p mem1 mv1 k low limit row.queue row.waiting (to + 2 * row.depth)
    queue-called = stack-on p mem mem1 mv mv1 k low limit row.queue row.waiting (to + 2 * row.depth) low low r.queue called (inr (omega arith))

    pub queue-next : StackMoves p mem2 mv2 k low limit row.queue row.waiting (to + 2 * row.depth)
    queue-next = stack-on p mem1 mem2 mv1 mv2 k low limit row.queue row.waiting (to + 2 * row.depth) to (to + 2 * row.depth) queue-called s.goes aside-stack

    pub row-moved : (mem3 : List ℕ) (mv3 : Moving) (last : ℕ) → last ≡ to + 2 * row.depth + 2 * (row.waiting - 1)
        → StackMoved p mem2 mem3 mv3 k row.queue row.waiting (to + 2 * row.depth)
        → RowMoved p mem mem3 mv3 k row
        (record { number = row.number; regs = regs; stack = to; depth = row.depth; queue = to + 2 * row.depth; last = last; waiting = row.waiting; refs = row.refs }) to
    row-moved mem3 mv3 last at q =
        let end : ℕ = to + 2 * (row.depth + row.waiting) in
        let a : GoesAlong p mem mem1 mv1 k to (to + 2 * (row.depth + row.waiting)) = goes-call p mem mem1 mv1 k to (to + 2 * (row.depth + row.waiting)) w.runs w.later in
        let b : GoesAlong p mem mem2 mv2 k to (to + 2 * (row.depth + row.waiting)) =
        goes-then p mem mem1 mem2 mv1 mv2 k k to (to + 2 * (row.depth + row.waiting)) to (to + 2 * row.depth) to (to + 2 * (row.depth + row.waiting)) a s.goes (omega arith) (omega arith) (omega arith)
        (omega arith) in
        let same1 : AreKept p.test mem mem1 low limit = old-kept p mem mem1 mv mv1 k low limit to (2 * row.depth) low low r.stack.room called (inr (omega arith)) in
        let same2 : AreKept p.test mem1 mem2 low limit =
        old-kept p mem1 mem2 mv1 mv2 k low limit to (2 * row.depth) to (to + 2 * row.depth) stack-next.room s.goes aside-stack in
        let aside : (j : ℕ) → to ≤ j → j < to + 2 * row.depth → IsAside p j = r.stack.room.new in
        let same3 : AreKept p.test mem2 mem3 to (to + 2 * row.depth) = λ j above below bare. q.goes.aside j (aside j above below) (inl below) in
        let wide : IsStack p.test mem2 to (to + 2 * row.depth) to row.depth = s.places in
        let P : List ℕ → Type 0 = λ z. AllImages p mem2 z (values mem2 to row.depth) in
        let Q : List ℕ → Type 0 = λ z. AllImages p mem3 (values mem row.stack row.depth) z in
        let R : List ℕ → Type 0 = λ z. AllImages p mem3 z (values mem3 (to + 2 * row.depth) row.waiting) in
        let stack : AllImages p mem2 (values mem row.stack row.depth) (values mem2 to row.depth) = subst P (values-kept p.test mem mem1 low limit row.stack row.depth same1 r.stack.places) s.images in
        let stack-place : (x : ℕ) → In x (place_list mem3 to row.depth) → IsPlace p.test to (to + 2 * row.depth) x = λ x i.
        place-within p.test mem3 to (to + 2 * row.depth) to row.depth x (stack-kept p.test mem2 mem3 to (to + 2 * row.depth) to row.depth same3 wide) i in
        let queue-place : (x : ℕ) → In x (place_list mem3 (to + 2 * row.depth) row.waiting) → IsPlace p.test (to + 2 * row.depth) (to + 2 * row.depth + 2 * row.waiting) x = λ x i.
        place-within p.test mem3 (to + 2 * row.depth) (to + 2 * row.depth + 2 * row.waiting) (to + 2 * row.depth) row.waiting x q.places i in
        let queue_same : values mem2 row.queue row.waiting ≡ values mem row.queue row.waiting =
        values-kept p.test mem1 mem2 low limit row.queue row.waiting same2 queue-called.places ∙ values-kept p.test mem mem1 low limit row.queue row.waiting same1 r.queue.places in
        record {
          goes = goes-then p mem mem2 mem3 mv2 mv3 k k to (to + 2 * (row.depth + row.waiting)) (to + 2 * row.depth) (to + 2 * row.depth + 2 * row.waiting) to
              (to + 2 * (row.depth + row.waiting)) b q.goes
              (omega arith) (omega arith) (omega arith) (omega arith);
          is = record {
            number = refl;
            depth = refl;
            waiting = refl;
            refs = refl;
            registers = images-on p mem2 mem3 row.regs regs q.goes.images r.reached (images-on p mem1 mem2 row.regs regs s.goes.images r.reached w.images);
            places = stack-wider p.test mem3 to (to + 2 * row.depth) to (to + 2 * (row.depth + row.waiting)) to row.depth (omega arith) (omega arith)
                (stack-kept p.test mem2 mem3 to (to + 2 * row.depth) to row.depth same3 wide);
            values_are = subst Q (sym (values-kept p.test mem2 mem3 to (to + 2 * row.depth) to row.depth same3 wide))
                (images-on p mem2 mem3 (values mem row.stack row.depth) (values mem2 to row.depth) q.goes.images r.stack.reached stack);
            waits = stack-wider p.test mem3 (to + 2 * row.depth) (to + 2 * row.depth + 2 * row.waiting) to (to + 2 * (row.depth + row.waiting)) (to + 2 * row.depth) row.waiting (omega arith)
                (omega arith) q.places;
            messages_are = subst R queue_same q.images;
            last = q.last last at;
            apart = apart-both (place_list mem3 to row.depth) (place_list mem3 (to + 2 * row.depth) row.waiting)
                (subst AreApart (sym (places-kept p.test mem2 mem3 to (to + 2 * row.depth) to row.depth same3 wide)) s.apart) q.apart
                (λ x y i j. inl (omega (arith, (stack-place x i).below, (queue-place y j).above)));
          };
        }
