-- Row by row, all that the processes name moves.
use Rattle.std.proofs.Common.{◌≡◌, ℕ, suc, ◌+◌, ◌-◌, ◌*◌, ◌<◌, ◌≤◌, List, [], ◌∷◌, length, take, get_or, set, refl, sym, ◌∙◌, ap, subst, arith, inl, inr}
use Rattle.std.proofs.lemmas.Bool.{cases_eq}
use Rattle.std.proofs.lemmas.List.{get_or-set_other, get_or-set_same, length-set, take_all}
use Rattle.std.proofs.lemmas.List.Sums.{sum_by_more, sum_by_more_le, sum_by-take-le}
use Rattle.cheney.specs.declared.moving.Moving.{Moving}
use Rattle.term_words.specs.Counted.{In}
use Rattle.cheney.specs.Plan.{Plan, Reached}
use Rattle.cheney.specs.Zones.{Marks}
use Rattle.cheney.specs.Collected.{AllImages}
use Rattle.term_words.proofs.Totals.Members.{in-both}
use Rattle.two_halves.specs.Stack.{AreApart, IsPlace, IsStack, place_list, values}
use Rattle.two_halves.specs.Halves.{all_places, places_in, places_of}
use Rattle.two_halves.specs.Rows.{AreMovedRows, CanMoveRow, CanMoveRows, GoesAlong, HasPlaces, IsMovedRow, RowMoved, RowMoves, RowsMove, RowsMoved}
use Rattle.two_halves.specs.declared.table.Proc.{Proc}
use Rattle.two_halves.proofs.Moved.Going.{goes-same, goes-then}
use Rattle.two_halves.proofs.Standing.Apart.{apart-both, place-within}
use Rattle.two_halves.proofs.Moved.Rowing.{kept-aside, moved-places, old-kept, room-on, row-on}
use Rattle.two_halves.proofs.Standing.Stacks.{AreKept, message-root, no_row, register-root, stack-at, stack-kept, stack-wider, value-root, values-kept}

-- Rows one by one are rows in order.
rows-are : (p : Plan) (start mem : List ℕ) (low limit : ℕ) (olds news : List Proc) → length news ≡ length olds
    → ((j : ℕ) → j < length olds → IsMovedRow p start mem low limit (get_or olds j no_row) (get_or news j no_row)) → AreMovedRows p start mem low limit olds news
rows-are p start mem low limit [] [] n each = tt
rows-are p start mem low limit [] (r ∷ rs) n each = omega (arith, n)
rows-are p start mem low limit (o ∷ os) [] n each = omega (arith, n)
rows-are p start mem low limit (o ∷ os) (r ∷ rs) n each = (each 0 (omega arith), rows-are p start mem low limit os rs (omega (arith, n)) (λ j less. each (suc j) (omega arith)))

-- A row whose places lie in wider bounds.
row-wider : (p : Plan) (start mem : List ℕ) (low limit low2 limit2 : ℕ) (old new : Proc) → low2 ≤ low → limit ≤ limit2
    → IsMovedRow p start mem low limit old new → IsMovedRow p start mem low2 limit2 old new
row-wider p start mem low limit low2 limit2 old new down up r = record {
  number = r.number;
  depth = r.depth;
  waiting = r.waiting;
  refs = r.refs;
  registers = r.registers;
  places = stack-wider p.test mem low limit low2 limit2 new.stack new.depth down up r.places;
  values_are = r.values_are;
  waits = stack-wider p.test mem low limit low2 limit2 new.queue new.waiting down up r.waits;
  messages_are = r.messages_are;
  last = r.last;
  apart = r.apart;
}

-- Rows whose places are apart, and lie below those of the rows before, are apart.

in-row-of : (mem : List ℕ) (rows : List Proc) (q : ℕ) → In q (all_places mem rows) → (j : ℕ) × ((j < length rows) × In q (places_of mem (get_or rows j no_row)))
in-row-of mem [] q i = absurd i
in-row-of mem (r ∷ rows) q i = elim (in-both q (places_of mem r) (all_places mem rows) i) [
  | inl a ↦ (0, (omega arith, a))
  | inr a ↦ let (j, (less, b)) = in-row-of mem rows q a in (suc j, (omega (arith, less), b))
]

rows-apart : (mem : List ℕ) (rows : List Proc) → ((j : ℕ) → j < length rows → AreApart (places_of mem (get_or rows j no_row)))
    → ((i j x y : ℕ) → i < j → j < length rows → In x (places_of mem (get_or rows i no_row)) → In y (places_of mem (get_or rows j no_row)) → y + 2 ≤ x) → AreApart (all_places mem rows)
rows-apart mem [] own below = tt
rows-apart mem (r ∷ rows) own below =
    apart-both (places_of mem r) (all_places mem rows) (own 0 (omega arith))
    (rows-apart mem rows (λ j less. own (suc j) (omega (arith, less))) (λ i j x y before less a b. below (suc i) (suc j) x y (omega (arith, before)) (omega (arith, less)) a b))
    (λ x y a b. let (j, (less, c)) = in-row-of mem rows y b in inr (below 0 (suc j) x y (omega arith) (omega (arith, less)) a c))

-- The places of a moved row lie between its bounds.
row-within : (p : Plan) (start mem : List ℕ) (low limit : ℕ) (old new : Proc) (q : ℕ) → IsMovedRow p start mem low limit old new → In q (places_of mem new) → IsPlace p.test low limit q
row-within p start mem low limit old new q r i = elim (in-both q (place_list mem new.stack new.depth) (place_list mem new.queue new.waiting) i) [
  | inl a ↦ place-within p.test mem low limit new.stack new.depth q r.places a
  | inr a ↦ place-within p.test mem low limit new.queue new.waiting q r.waits a
]

-- The first rows have moved.
pub record Rowing (p : Plan) (old mem : List ℕ) (mv : Moving) (k : Marks) (olds news : List Proc) (end now i : ℕ) : Type 0 where
  pub goes : GoesAlong p old mem mv k now end
  pub done : (j : ℕ) → j < i → j < length olds → IsMovedRow p old mem now end (get_or olds j no_row) (get_or news j no_row)
  pub below : (j g x y : ℕ) → j < g → g < i → g < length olds → In x (places_of mem (get_or news j no_row)) → In y (places_of mem (get_or news g no_row)) → y + 2 ≤ x

-- So far, whatever the plan; the other rows are as they were.
pub record RowLoop (old : List ℕ) (mv0 : Moving) (olds : List Proc) (end : ℕ) (mem : List ℕ) (mv : Moving) (news : List Proc) (now i : ℕ) : Type 0 where
  pub count : length news ≡ length olds
  pub at : now + 2 * places_in (take i olds) ≡ end
  pub todo : (j : ℕ) → i ≤ j → get_or news j no_row ≡ get_or olds j no_row
  pub moves : (p : Plan) (k : Marks) (low limit : ℕ) → RowsMove p old mv0 k low limit olds end → Rowing p old mem mv k olds news end now i

pub rows-start : (old : List ℕ) (mv0 : Moving) (olds : List Proc) (end : ℕ) → RowLoop old mv0 olds end old mv0 olds end 0
rows-start old mv0 olds end = record {
  count = refl;
  at = omega arith;
  todo = λ j above. refl;
  moves = λ p k low limit s. record {
    goes = goes-same p old mv0 k end end s.room.runs;
    done = λ j less in_range. absurd (omega arith);
    below = λ j g x y before less in_range a b. absurd (omega arith);
  };
}

pub rows-end : (old : List ℕ) (mv0 : Moving) (olds : List Proc) (end : ℕ) (mem : List ℕ) (mv : Moving) (news : List Proc) (now i : ℕ) → RowLoop old mv0 olds end mem mv news now i
    → length olds ≤ i → (p : Plan) (k : Marks) (low limit : ℕ) → RowsMove p old mv0 k low limit olds end → RowsMoved p old mem mv k olds news end
rows-end old mv0 olds end mem mv news now i l all p k low limit s =
    let g : Rowing p old mem mv k olds news end now i = l.moves p k low limit s in
    let last : now ≡ end - 2 * places_in olds = omega (arith, l.at, ap places_in (take_all i olds all)) in
    let P : ℕ → Type 0 = λ z. GoesAlong p old mem mv k z end in
    let Q : ℕ → Type 0 = λ z. AreMovedRows p old mem z end olds news in
    record {
      goes = subst P last g.goes;
      are = subst Q last (rows-are p old mem now end olds news l.count (λ j less. g.done j (omega (arith, less, all)) less));
      apart = rows-apart mem news (λ j less. (g.done j (omega (arith, less, all, l.count)) (omega (arith, less, l.count))).apart)
          (λ j h x y before less a b. g.below j h x y before (omega (arith, less, all, l.count)) (omega (arith, less, l.count)) a b);
    }

-- One row more.
module _ (p : Plan) (old : List ℕ) (mv0 : Moving) (k : Marks) (low limit : ℕ) (olds : List Proc) (end : ℕ) (s : RowsMove p old mv0 k low limit olds end) (mem : List ℕ) (mv : Moving)
    (news : List Proc) (now i : ℕ) (l : RowLoop old mv0 olds end mem mv news now i) (less : i < length olds) (row : Proc) (is : row ≡ get_or olds i no_row) where
  so-far : Rowing p old mem mv k olds news end now i
  so-far = l.moves p k low limit s

  total : places_in (take i olds) + (row.depth + row.waiting) ≤ places_in olds
  total = omega (arith, sum_by_more_le (λ r. r.depth + r.waiting) olds i no_row less, ap (λ r. r.depth + r.waiting) is)

  row-fits : 2 * (row.depth + row.waiting) ≤ now
  row-fits = omega (arith, total, l.at, s.fits)

  places : IsStack p.test old low limit row.stack row.depth
  places = let P : Proc → Type 0 = λ r. IsStack p.test old low limit r.stack r.depth in subst P (sym is) (stack-at p.test old low limit olds i less s.stacks).0

  waits : IsStack p.test old low limit row.queue row.waiting
  waits = let P : Proc → Type 0 = λ r. IsStack p.test old low limit r.queue r.waiting in subst P (sym is) (stack-at p.test old low limit olds i less s.stacks).1

  reached-registers : (w : ℕ) → In w row.regs → Reached p w
  reached-registers w h = s.reached w (register-root old olds i w less (let P : Proc → Type 0 = λ r. In w r.regs in subst P is h))

  reached-values : (w : ℕ) → In w (values old row.stack row.depth) → Reached p w
  reached-values w h = s.reached w (value-root old olds i w less (let P : Proc → Type 0 = λ r. In w (values old r.stack r.depth) in subst P is h))

  reached-messages : (w : ℕ) → In w (values old row.queue row.waiting) → Reached p w
  reached-messages w h = s.reached w (message-root old olds i w less (let P : Proc → Type 0 = λ r. In w (values old r.queue r.waiting) in subst P is h))

  room : HasPlaces p mem mv k low limit (end - 2 * places_in olds) (2 * places_in olds)
  room = room-on p old mem mv0 mv k low limit (end - 2 * places_in olds) (2 * places_in olds) now end s.room so-far.goes

  kept : AreKept p.test old mem low limit
  kept =
      let below : places_in (take i olds) ≤ places_in olds = sum_by-take-le (λ r. r.depth + r.waiting) olds i in
      old-kept p old mem mv0 mv k low limit (end - 2 * places_in olds) (2 * places_in olds) now end s.room so-far.goes
      (elim s.room.apart [ inl a ↦ inl (omega (arith, a, l.at, below, s.fits)) | inr a ↦ inr (omega (arith, a, s.fits)) ])

  -- So many words of those that the row has are free still.
  row-room : (to : ℕ) → to ≡ now - 2 * (row.depth + row.waiting) → (from n : ℕ) → to ≤ from → from + n ≤ now → HasPlaces p mem mv k low limit from n
  row-room to down from n above below = record {
    runs = so-far.goes.runs;
    old = s.room.old;
    new = λ q high under. s.room.new q (omega (arith, high, above, down, l.at, total)) (omega (arith, under, below, l.at, s.fits));
    apart = elim s.room.apart [ inl a ↦ inl (omega (arith, a, above, down, l.at, total)) | inr a ↦ inr (omega (arith, a, below, l.at, s.fits)) ];
    old_inside = room.old_inside;
    new_inside = omega (arith, below, l.at, s.fits, room.new_inside);
  }

  row-moves : (to : ℕ) → to ≡ now - 2 * (row.depth + row.waiting) → RowMoves p mem mv k low limit row to
  row-moves to down = record {
    stack = record {
      room = row-room to down to (2 * row.depth) (omega arith) (omega (arith, down, row-fits));
      places = stack-kept p.test old mem low limit row.stack row.depth kept places;
      reached = λ w h. reached-values w (subst (In w) (values-kept p.test old mem low limit row.stack row.depth kept places) h);
    };
    queue = record {
      room = row-room to down (to + 2 * row.depth) (2 * row.waiting) (omega arith) (omega (arith, down, row-fits));
      places = stack-kept p.test old mem low limit row.queue row.waiting kept waits;
      reached = λ w h. reached-messages w (subst (In w) (values-kept p.test old mem low limit row.queue row.waiting kept waits) h);
    };
    reached = reached-registers;
  }

  module _ (mem2 : List ℕ) (mv2 : Moving) (new : Proc) (to : ℕ) (down : to ≡ now - 2 * (row.depth + row.waiting)) (r : RowMoved p mem mem2 mv2 k row new to) where
    this-row : IsMovedRow p old mem2 to end row new
    this-row =
        let P : List ℕ → Type 0 = λ z. AllImages p mem2 z (values mem2 new.stack new.depth) in
        let Q : List ℕ → Type 0 = λ z. AllImages p mem2 z (values mem2 new.queue new.waiting) in
        row-wider p old mem2 to (to + 2 * (row.depth + row.waiting)) to end row new (omega arith) (omega (arith, down, row-fits, l.at)) (record {
          number = r.is.number;
          depth = r.is.depth;
          waiting = r.is.waiting;
          refs = r.is.refs;
          registers = r.is.registers;
          places = r.is.places;
          values_are = subst P (values-kept p.test old mem low limit row.stack row.depth kept places) r.is.values_are;
          waits = r.is.waits;
          messages_are = subst Q (values-kept p.test old mem low limit row.queue row.waiting kept waits) r.is.messages_are;
          last = r.is.last;
          apart = r.is.apart;
        })

    earlier-row : (j : ℕ) → j < i → j < length olds → IsMovedRow p old mem2 to end (get_or olds j no_row) (get_or news j no_row)
    earlier-row j before in_range =
        let below : places_in (take i olds) ≤ places_in olds = sum_by-take-le (λ x. x.depth + x.waiting) olds i in
        row-wider p old mem2 now end to end (get_or olds j no_row) (get_or news j no_row) (omega (arith, down)) (omega arith)
        (row-on p old mem mem2 mv2 k now end to (to + 2 * (row.depth + row.waiting)) (get_or olds j no_row) (get_or news j no_row) (so-far.done j before in_range) r.goes
        (λ q above under. s.room.new q (omega (arith, above, l.at, below, s.fits)) (omega (arith, under, s.fits))) (inr (omega (arith, down, row-fits)))
        (λ w h. s.reached w (register-root old olds j w in_range h)) (λ w h. s.reached w (value-root old olds j w in_range h))
        (λ w h. s.reached w (message-root old olds j w in_range h)))

    -- The places of earlier rows are the same, and those of this row lie below them.
    earlier-same : (j : ℕ) → j < i → j < length olds → places_of mem2 (get_or news j no_row) ≡ places_of mem (get_or news j no_row)
    earlier-same j before in_range =
        let below : places_in (take i olds) ≤ places_in olds = sum_by-take-le (λ x. x.depth + x.waiting) olds i in
        moved-places p old mem mem2 now end (get_or olds j no_row) (get_or news j no_row) (so-far.done j before in_range)
        (kept-aside p mem mem2 mv2 k now end to (to + 2 * (row.depth + row.waiting)) r.goes
        (λ q above under. s.room.new q (omega (arith, above, l.at, below, s.fits)) (omega (arith, under, s.fits))) (inr (omega (arith, down, row-fits))))

    this-below : (j x y : ℕ) → j < i → j < length olds → In x (places_of mem2 (get_or news j no_row)) → In y (places_of mem2 new) → y + 2 ≤ x
    this-below j x y before in_range a b =
        let was : In x (places_of mem (get_or news j no_row)) = subst (In x) (earlier-same j before in_range) a in
        let high : IsPlace p.test now end x = row-within p old mem now end (get_or olds j no_row) (get_or news j no_row) x (so-far.done j before in_range) was in
        let low_place : IsPlace p.test to (to + 2 * (row.depth + row.waiting)) y = row-within p mem mem2 to (to + 2 * (row.depth + row.waiting)) row new y r.is b in
        omega (arith, high.above, low_place.below, down, row-fits)

    below-more : (j g x y : ℕ) → j < g → g < i + 1 → g < length olds → In x (places_of mem2 (get_or (set news i new) j no_row)) → In y (places_of mem2 (get_or (set news i new) g no_row)) → y + 2 ≤ x
    below-more j g x y before under in_range a b =
        let N : Proc → Type 0 = λ z. In x (places_of mem2 z) in
        let M : Proc → Type 0 = λ z. In y (places_of mem2 z) in
        let first : In x (places_of mem2 (get_or news j no_row)) = subst N (get_or-set_other news i j new no_row (λ e. omega (arith, e, before, under))) a in
        elim (cases_eq g i) [
          | inl last ↦ (
              let L : ℕ → Type 0 = λ z. In y (places_of mem2 (get_or (set news i new) z no_row)) in
              this-below j x y (omega (arith, last, before)) (omega (arith, before, in_range)) first
              (subst M (get_or-set_same news i new no_row (omega (arith, less, l.count))) (subst L last b))
              )
          | inr other ↦ (
              let second : In y (places_of mem2 (get_or news g no_row)) = subst M (get_or-set_other news i g new no_row other) b in
              let in_order : g < i = omega (arith, under, other) in
              so-far.below j g x y before in_order in_range (subst (In x) (earlier-same j (omega (arith, before, in_order)) (omega (arith, before, in_range))) first)
              (subst (In y) (earlier-same g in_order in_range) second)
              )
        ]

    row-more : Rowing p old mem2 mv2 k olds (set news i new) end to (i + 1)
    row-more = record {
      goes = goes-then p old mem mem2 mv mv2 k k now end to (to + 2 * (row.depth + row.waiting)) to end so-far.goes r.goes (omega (arith, down)) (omega arith) (omega arith)
          (omega (arith, down, row-fits, l.at));
      done = λ j below in_range. elim (cases_eq j i) [
        | inl last ↦ (
            let P : ℕ → Type 0 = λ z. IsMovedRow p old mem2 to end (get_or olds z no_row) (get_or (set news i new) z no_row) in
            let Q : Proc → Type 0 = λ z. IsMovedRow p old mem2 to end z (get_or (set news i new) i no_row) in
            let R : Proc → Type 0 = λ z. IsMovedRow p old mem2 to end row z in
            subst P (sym last) (subst Q is (subst R (sym (get_or-set_same news i new no_row (omega (arith, less, l.count)))) this-row))
            )
        | inr other ↦ (
            let R : Proc → Type 0 = λ z. IsMovedRow p old mem2 to end (get_or olds j no_row) z in
            subst R (sym (get_or-set_other news i j new no_row other)) (earlier-row j (omega (arith, below, other)) in_range)
            )
      ];
      below = below-more;
    }

-- The same where some rows may move.
module _ (old : List ℕ) (mv0 : Moving) (olds : List Proc) (end : ℕ) (r : CanMoveRows old mv0 olds end) (mem : List ℕ) (mv : Moving) (news : List Proc) (now i : ℕ)
    (l : RowLoop old mv0 olds end mem mv news now i) (less : i < length olds) where
  same-row : get_or news i no_row ≡ get_or olds i no_row
  same-row = l.todo i (omega arith)

  pub next-fits : 2 * ((get_or news i no_row).depth + (get_or news i no_row).waiting) ≤ now
  next-fits = row-fits r.plan old mv0 r.marks r.low r.limit olds end r.moves mem mv news now i l less (get_or news i no_row) same-row

  pub next-moves : CanMoveRow mem mv (get_or news i no_row) (now - 2 * ((get_or news i no_row).depth + (get_or news i no_row).waiting))
  next-moves =
      let to : ℕ = now - 2 * ((get_or news i no_row).depth + (get_or news i no_row).waiting) in
      record {
        plan = r.plan;
        marks = r.marks;
        low = r.low;
        limit = r.limit;
        moves = row-moves r.plan old mv0 r.marks r.low r.limit olds end r.moves mem mv news now i l less (get_or news i no_row) same-row to refl;
      }

  pub next-more : (mem2 : List ℕ) (mv2 : Moving) (new : Proc)
      → ((p : Plan) (k : Marks) (low limit : ℕ) → RowMoves p mem mv k low limit (get_or news i no_row) (now - 2 * ((get_or news i no_row).depth + (get_or news i no_row).waiting))
      → RowMoved p mem mem2 mv2 k (get_or news i no_row) new (now - 2 * ((get_or news i no_row).depth + (get_or news i no_row).waiting)))
      → RowLoop old mv0 olds end mem2 mv2 (set news i new) (now - 2 * ((get_or news i no_row).depth + (get_or news i no_row).waiting)) (i + 1)
  next-more mem2 mv2 new moved =
      let row : Proc = get_or news i no_row in
      let to : ℕ = now - 2 * ((get_or news i no_row).depth + (get_or news i no_row).waiting) in
      record {
        count = length-set news i new ∙ l.count;
        at = omega (arith, l.at, next-fits, sum_by_more (λ x. x.depth + x.waiting) olds i no_row less, ap (λ x. x.depth + x.waiting) same-row);
        todo = λ j above. get_or-set_other news i j new no_row (λ e. omega (arith, e, above)) ∙ l.todo j (omega (arith, above));
        moves = λ p k low limit s.
            row-more p old mv0 k low limit olds end s mem mv news now i l less row same-row mem2 mv2 new to refl
            (moved p k low limit (row-moves p old mv0 k low limit olds end s mem mv news now i l less row same-row to refl));
      }
