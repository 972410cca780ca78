-- A memory keeps its rows where their numbers are the same and its tables are as large: what a replaced row leaves, and what a
-- collection does. Halves that stand for processes are a memory that stands for them; and what is read of rows.
use Rattle.std.proofs.Common.{Vec, ◌≡◌, ℕ, ◌+◌, ◌<◌, ◌≤◌, List, [], ◌∷◌, length, get_or, refl, sym, ◌∙◌, ap, arith, zero, suc, Bool, inl, inr, ◌==◌, ◌||◌}
use Rattle.std.specs.Vec.{vec_len, vec_capacity, with_item}
use Rattle.std.specs.declared.alloc.Global.{Global}
use Rattle.std.proofs.lemmas.List.Sums.{sum_by-set}
use Rattle.numbered_rows.specs.Numbers.{numbers as numbers_by, is_among}
use Rattle.numbered_rows.proofs.Changing.{numbers-set}
use Rattle.numbered_rows.proofs.Rising.{number-read, numbers-len}
use Rattle.two_halves.specs.Halves.{IsLaid, places_in, HalvesStand, ProcsStand, all_places, end_of, ProcStands}
use Rattle.two_halves.specs.Collecting.{AreSameRows}
use Rattle.two_halves.specs.declared.table.Proc.{Proc}
use Rattle.heaps_api.specs.Changing.{KeepsRows, MovesOn}
use Rattle.one_space.specs.Heap.{HaveMade, number_in, one_meaning, FollowPlaces}
use Rattle.one_space.specs.declared.heap.OneHeap.{OneHeap}
use Rattle.one_space.proofs.Processes.Changing.{made-at, made-more, made-same, made-set, procs-numbers}
use Rattle.plain_term.specs.Tree.{Tree}
use Rattle.plain_machine.specs.State.{Process}
use Rattle.term_order.specs.Held.{HoldTrees}
use Rattle.two_halves.specs.Stack.{AreApart, IsStack, values}
use Rattle.two_halves.specs.declared.halves.Halves.{Halves}
use Rattle.two_halves.proofs.Standing.Filled.{halves-filled, laid_out}
use Rattle.heaps_api.specs.Meaning.{Stood, no_process}
use Rattle.std.specs.List.{list_any}
use Rattle.heaps_api.specs.Reading.{AreRegisters, AreWaiting}
use Rattle.one_space.proofs.Processes.Turning.{row-stands}

-- The number of words is as before, and rows and boxes are together as many.
pub moves-on : (old new : OneHeap) → IsLaid new.halves → length new.halves.mem ≡ length old.halves.mem → vec_capacity new.halves.procs ≡ vec_capacity old.halves.procs
    → vec_len new.spare + length new.halves.procs.items ≡ vec_len old.spare + length old.halves.procs.items → vec_capacity new.spare ≡ vec_capacity old.spare
    → ((count more : ℕ) → HaveMade count old.halves.procs.items → count < more → HaveMade more new.halves.procs.items)
    → vec_capacity new.halves.bins ≡ vec_capacity old.halves.bins → vec_capacity new.halves.funs ≡ vec_capacity old.halves.funs
    → new.halves.sweeps ≤ old.halves.sweeps + 1 → MovesOn one_meaning old new
moves-on old new laid len procs spares boxes made bins funs sweeps = record {
  words = len;
  whole = λ n more w less. record {
    laid = laid;
    places = omega (arith, w.places, procs);
    spares = omega (arith, w.spares, spares);
    boxes = omega (arith, w.boxes, boxes);
    counted = omega (arith, w.counted, sweeps, less);
    made = made n more w.made less;
    bins = omega (arith, w.bins, bins, len);
    funs = omega (arith, w.funs, funs, len);
  };
}

pub keeps-rows : (old new : OneHeap) → IsLaid new.halves → length new.halves.mem ≡ length old.halves.mem → new.spare ≡ old.spare
    → vec_capacity new.halves.procs ≡ vec_capacity old.halves.procs → numbers_by number_in new.halves.procs.items ≡ numbers_by number_in old.halves.procs.items
    → ((count more : ℕ) → HaveMade count old.halves.procs.items → count < more → HaveMade more new.halves.procs.items)
    → vec_capacity new.halves.bins ≡ vec_capacity old.halves.bins → vec_capacity new.halves.funs ≡ vec_capacity old.halves.funs
    → new.halves.sweeps ≤ old.halves.sweeps + 1 → KeepsRows one_meaning old new
keeps-rows old new laid len spare procs numbers made bins funs sweeps =
    let count : length new.halves.procs.items ≡ length old.halves.procs.items =
    sym (numbers-len number_in new.halves.procs.items) ∙ (ap length numbers ∙ numbers-len number_in old.halves.procs.items) in
    record { goes = moves-on old new laid len procs (omega (arith, count, ap vec_len spare)) (ap vec_capacity spare) made bins funs sweeps; rows = numbers }

-- One row is replaced by one with the same number.
module _ (v : Vec Proc Global) (row : ℕ) (p2 old : Proc) (less : row < length v.items) (is : old ≡ get_or v.items row old) where
  pub same-numbers : p2.number ≡ old.number → numbers_by number_in (with_item v row p2).items ≡ numbers_by number_in v.items
  same-numbers same = numbers-set number_in v.items row p2 less (same ∙ sym (number-read number_in v.items row old less is))

  -- It has made no more than one reference more.
  pub still-made : p2.refs ≤ old.refs + 1 → (count more : ℕ) → HaveMade count v.items → count < more → HaveMade more (with_item v row p2).items
  still-made few count more made up =
      made-set count more (omega (arith, up)) v.items row p2 made (omega (arith, few, ap (λ z. z.refs) is, made-at count v.items row old less made, up))

  pub places-moved : places_in (with_item v row p2).items + (old.depth + old.waiting) ≡ places_in v.items + (p2.depth + p2.waiting)
  places-moved = omega (arith, sum_by-set (λ r. r.depth + r.waiting) v.items row p2 old less, ap (λ r. r.depth + r.waiting) is)

-- Where rows are the same they have made as many.
pub made-still : (rows : List Proc) (count more : ℕ) → HaveMade count rows → count < more → HaveMade more rows
made-still rows count more made up = made-more count more (omega (arith, up)) rows made

-- Rows after a collection.
pub numbers-collected : (os ns : List Proc) → AreSameRows os ns → numbers_by number_in ns ≡ numbers_by number_in os
numbers-collected [] [] s = refl
numbers-collected [] (n ∷ ns) s = absurd s
numbers-collected (o ∷ os) [] s = absurd s
numbers-collected (o ∷ os) (n ∷ ns) s = ap (λ x. x ∷ numbers_by number_in ns) s.0 ∙ ap (λ x. o.number ∷ x) (numbers-collected os ns s.1.1.1.1)

pub made-collected : (os ns : List Proc) → AreSameRows os ns → (count more : ℕ) → HaveMade count os → count < more → HaveMade more ns
made-collected os ns s count more made up = made-same count more (omega (arith, up)) os ns s made

-- The memory with other halves.
abbrev pub of_halves : OneHeap → Halves → OneHeap
of_halves a h = record { halves = h; spare = a.spare }

-- There are as many words as trees.
trees-count : (c : ℕ → ℕ → Bool) (shared : List (List ℕ)) (mem : List ℕ) (named : ℕ) (ws : List ℕ) (ts : List Tree) → HoldTrees c shared mem named ws ts → length ts ≡ length ws
trees-count c shared mem named [] [] h = refl
trees-count c shared mem named [] (t ∷ ts) h = absurd h
trees-count c shared mem named (w ∷ ws) [] h = absurd h
trees-count c shared mem named (w ∷ ws) (t ∷ ts) h = ap suc (trees-count c shared mem named ws ts h.1)

module _ (c : ℕ → ℕ → Bool) (shared : List (List ℕ)) (mem : List ℕ) (low limit named : ℕ) where
  registers-count : (ps : List Proc) (qs : List Process) → ProcsStand c shared mem low limit named ps qs → (row : ℕ) → row < length qs → length ((get_or qs row no_process).registers) ≡ 16
  registers-count [] [] s row less = absurd (omega arith)
  registers-count [] (q ∷ qs) s row less = absurd s
  registers-count (p ∷ ps) [] s row less = absurd s
  registers-count (p ∷ ps) (q ∷ qs) s zero less = trees-count c shared mem named p.regs q.registers s.0.registers ∙ s.0.count
  registers-count (p ∷ ps) (q ∷ qs) s (suc row) less = registers-count ps qs s.1 row (omega arith)

-- The numbers and the registers are as the rows say.
pub stood-by : (named : ℕ) (a : OneHeap) (shared : List (List ℕ)) (qs : List Process) → HalvesStand named a.halves shared qs → Stood one_meaning named a shared qs
stood-by named a shared qs s = record {
  is = s;
  rows = sym (procs-numbers s.test shared a.halves.mem named a.halves.room.end (end_of a.halves) a.halves.procs.items qs s.processes);
  registers = registers-count s.test shared a.halves.mem a.halves.room.end (end_of a.halves) named a.halves.procs.items qs s.processes;
}

-- A row of the numbers is one of the table.
pub row-inside : (a : OneHeap) (row : ℕ) → row < length (one_meaning.numbers a) → row < length a.halves.procs.items
row-inside a row less = omega (arith, less, numbers-len number_in a.halves.procs.items)

-- Where nothing changes the rows are kept.
pub keeps-same : (a : OneHeap) → IsLaid a.halves → KeepsRows one_meaning a a
keeps-same a laid = keeps-rows a a laid refl refl refl refl (made-still a.halves.procs.items) refl refl (omega arith)

-- The half ends within the memory.
pub half-inside : (h : Halves) → IsLaid h → end_of h ≤ length h.mem
half-inside h laid = elim laid.side [ inl e ↦ omega (arith, e) | inr e ↦ omega (arith, e) ]

-- The half with other rows alone.
module _ (h : Halves) (laid : IsLaid h) (v : Vec Proc Global) where
  pub rows-left : (named : ℕ) (shared : List (List ℕ)) (qs qs2 : List Process) (s : HalvesStand named h shared qs)
      → ProcsStand s.test shared h.mem h.room.end (end_of h) named v.items qs2 → AreApart (all_places h.mem v.items) → HalvesStand named (laid_out h h.mem h.room v) shared qs2
  rows-left named shared qs qs2 s procs apart = halves-filled named named h shared qs qs2 laid s s.test s.single h.mem h.room v refl
      (λ a k e. e) (λ a k e. inl e) (λ a k e. inl e) (λ a k e. refl) (omega arith) (omega arith) (omega arith) procs apart

  pub laid-left : places_in v.items ≤ places_in h.procs.items → IsLaid (laid_out h h.mem h.room v)
  laid-left fewer = record {
    even = laid.even;
    side = laid.side;
    starts = laid.starts;
    front = laid.front;
    order = laid.order;
    fits = omega (arith, laid.fits, fewer);
  }

-- One row is replaced by one with the same number and one reference more at most, and the tables are as large.
pub keeps-replaced : (a : OneHeap) (h : Halves) → IsLaid h → (row : ℕ) (p2 p : Proc) → row < length a.halves.procs.items → p ≡ get_or a.halves.procs.items row p
    → h.procs ≡ with_item a.halves.procs row p2 → p2.number ≡ p.number → p2.refs ≤ p.refs + 1 → length h.mem ≡ length a.halves.mem → vec_capacity h.bins ≡ vec_capacity a.halves.bins
    → vec_capacity h.funs ≡ vec_capacity a.halves.funs → h.sweeps ≤ a.halves.sweeps + 1 → KeepsRows one_meaning a (of_halves a h)
keeps-replaced a h laid row p2 p less is rows number refs len bins funs sweeps =
    keeps-rows a (of_halves a h) laid len refl (ap (λ (z : Vec Proc Global). vec_capacity z) rows)
    (ap (λ (z : Vec Proc Global). numbers_by number_in z.items) rows ∙ same-numbers a.halves.procs row p2 p less is number)
    (λ count more made up. rw rows (still-made a.halves.procs row p2 p less is refs count more made up)) bins funs sweeps

-- The memory with another row.
abbrev pub with_proc : OneHeap → ℕ → Proc → OneHeap
with_proc a row p2 = of_halves a (laid_out a.halves a.halves.mem a.halves.room (with_item a.halves.procs row p2))

-- Nothing but the row is another, and it has no more places and as many references.
pub keeps-row : (a : OneHeap) → IsLaid a.halves → (row : ℕ) (p2 p : Proc) → row < length a.halves.procs.items → p ≡ get_or a.halves.procs.items row p → p2.number ≡ p.number → p2.refs ≡ p.refs
    → p2.depth + p2.waiting ≤ p.depth + p.waiting → KeepsRows one_meaning a (with_proc a row p2)
keeps-row a laid row p2 p less is number refs places =
    keeps-replaced a (with_proc a row p2).halves
    (laid-left a.halves laid (with_item a.halves.procs row p2) (omega (arith, places, places-moved a.halves.procs row p2 p less is)))
    row p2 p less is refl number (omega (arith, refs)) refl refl refl (omega arith)

pub among-numbers : (rows : List Proc) (n : ℕ) → is_among number_in rows n ≡ list_any (λ m. m == n) (numbers_by number_in rows)
among-numbers [] n = refl
among-numbers (p ∷ ps) n = ap (λ x. (p.number == n) || x) (among-numbers ps n)

-- The row stands for the process in its place.
module _ (h : OneHeap) (row : ℕ) (p : Proc) (less : row < length h.halves.procs.items) (is : p ≡ get_or h.halves.procs.items row p) where
  pub row-there : (named : ℕ) (shared : List (List ℕ)) (qs : List Process) (x : Stood one_meaning named h shared qs)
      → ProcStands x.is.test shared h.halves.mem h.halves.room.end (end_of h.halves) named p (get_or qs row no_process)
  row-there named shared qs x =
      row-stands x.is.test shared h.halves.mem h.halves.room.end (end_of h.halves) named h.halves.procs.items qs row p less is x.is.processes

  pub are-registers : length p.regs ≡ 16 → AreRegisters one_meaning row h p.regs
  are-registers count = record { count = count; hold = λ named shared qs x. (row-there named shared qs x).registers }

  pub are-waiting : AreWaiting one_meaning row h (values h.halves.mem p.queue p.waiting)
  are-waiting = record { hold = λ named shared qs x. (row-there named shared qs x).queue }

-- The places of a queue follow one another in the memory.
pub places-follow : (c : ℕ → ℕ → Bool) (mem : List ℕ) (low limit : ℕ) → limit ≤ length mem → (place n : ℕ) → IsStack c mem low limit place n → FollowPlaces mem place n
places-follow c mem low limit inside place zero s = tt
places-follow c mem low limit inside place (suc n) s = (omega (arith, s.0.below, inside), places-follow c mem low limit inside (get_or mem (place + 1) 0) n s.1)

pub values-count : (mem : List ℕ) (place n : ℕ) → length (values mem place n) ≡ n
values-count mem place zero = refl
values-count mem place (suc n) = ap suc (values-count mem (get_or mem (place + 1) 0) n)
