-- What the calls that take words, or a box, leave: a place pushed, a row added, a message sent.
use Rattle.std.proofs.Common.{Vec, ◌≡◌, ℕ, ◌+◌, ◌-◌, ◌/◌, ◌<◌, ◌≤◌, ◌⊎◌, true, List, [], ◌∷◌, ◌++◌, length, get_or, set, replicate, refl, sym, ◌∙◌, ap, arith, inl, inr}
use Rattle.std.specs.Vec.{vec_capacity, vec_len, with_item}
use Rattle.std.specs.declared.alloc.Global.{Global}
use Rattle.std.proofs.lemmas.List.{length-append, length-set, get_or_default}
use Rattle.std.proofs.lemmas.List.Sums.{sum_by_push}
use Rattle.plain_machine.specs.State.{Process, fresh_process, register}
use Rattle.plain_machine.specs.declared.costs.TheConstants.{PLACE_COST}
use Rattle.plain_machine.specs.declared.limits.TheConstants.{MOST_PROCESSES}
use Rattle.script_grammar.specs.declared.command.Reg.{Reg}
use Rattle.numbered_rows.specs.Numbers.{numbers}
use Rattle.numbered_rows.proofs.Rising.{numbers-len}
use Rattle.two_halves.specs.Halves.{HalvesStand, IsLaid, ProcsStand, end_of, free_in, places_in}
use Rattle.two_halves.specs.declared.table.Proc.{Proc}
use Rattle.two_halves.proofs.Standing.Apart.{apart-more}
use Rattle.two_halves.proofs.Standing.Filled.{halves-filled, laid-filled, laid_out}
use Rattle.heaps_api.specs.Meaning.{Lives, Stood, CanAsk, no_process}
use Rattle.heaps_api.specs.Changing.{Pushes, Spawns, process_at, SendsTo}
use Rattle.heaps_api.specs.declared.wanted.Want.TheVariants as want
use Rattle.one_space.specs.Heap.{number_in, one_meaning}
use Rattle.one_space.specs.declared.heap.OneHeap.{OneHeap}
use Rattle.one_space.proofs.Processes.Changing.{fresh-stands, made-push, procs-push}
use Rattle.one_space.proofs.Processes.Turning.{pushed, pushed-apart, with_stack, words}
use Rattle.two_halves.specs.Queues.{HasEntered, Sends, with_queue}
use Rattle.two_halves.specs.declared.halves.Halves.{Halves}
use Rattle.two_halves.proofs.Standing.Stacks.{no_row}
use Rattle.one_space.proofs.OfHeap.Keeping.{half-inside, keeps-replaced, laid-left, moves-on, of_halves, places-moved, row-inside, rows-left, stood-by}

numbers-push : (rows : List Proc) (p : Proc) (n : ℕ) → p.number ≡ n → numbers number_in (rows ++ p ∷ []) ≡ numbers number_in rows ++ n ∷ []
numbers-push [] p n e = ap (λ z. z ∷ []) e
numbers-push (o ∷ rows) p n e = ap (λ z. o.number ∷ z) (numbers-push rows p n e)

-- `spawn`.
module _ (a : OneHeap) (lives : Lives one_meaning a) (few : length (one_meaning.numbers a) < MOST_PROCESSES) where
  -- A box is spare.
  pub box-there : 0 < vec_len a.spare
  box-there = omega (arith, few, lives.whole.spares, numbers-len number_in a.halves.procs.items)

  module _ (n : ℕ) (v : Vec Proc Global) (p : Proc) (items : v.items ≡ a.halves.procs.items ++ p ∷ []) (capacity : vec_capacity v ≡ vec_capacity a.halves.procs) (number : p.number ≡ n)
      (regs : p.regs ≡ replicate 16 59) (depth : p.depth ≡ 0) (waiting : p.waiting ≡ 0) (none : p.refs ≡ 0)
      (spare : Vec Proc Global) (one_less : vec_len a.spare ≡ vec_len spare + 1) (boxes : vec_capacity spare ≡ vec_capacity a.spare) where
    abbrev added : OneHeap
    added = record { halves = laid_out a.halves a.halves.mem a.halves.room v; spare = spare }

    added-stands : (named : ℕ) (shared : List (List ℕ)) (qs : List Process) → Stood one_meaning named a shared qs → Stood one_meaning named added shared (qs ++ fresh_process n ∷ [])
    added-stands named shared qs x =
        let new = fresh-stands x.is.test shared a.halves.mem named a.halves.room.end (end_of a.halves) p n number regs depth waiting none in
        stood-by named added shared (qs ++ fresh_process n ∷ []) (rows-left a.halves lives.whole.laid v named shared qs (qs ++ fresh_process n ∷ []) x.is
        (rw items (procs-push x.is.test shared a.halves.mem named a.halves.room.end (end_of a.halves) a.halves.procs.items qs p (fresh_process n) x.is.processes new))
        (rw items (apart-more a.halves.mem a.halves.procs.items p depth waiting x.is.apart)))

    pub adds : Spawns one_meaning n a added
    adds =
        let one : length v.items ≡ length a.halves.procs.items + 1 = ap length items ∙ length-append a.halves.procs.items (p ∷ []) in
        let same : places_in v.items ≡ places_in a.halves.procs.items =
        omega (arith, ap places_in items, sum_by_push (λ o. o.depth + o.waiting) a.halves.procs.items p, depth, waiting) in
        record {
          goes = moves-on a added (laid-left a.halves lives.whole.laid v (omega (arith, same))) refl capacity (omega (arith, one, one_less)) boxes
              (λ count more h up. rw items (made-push count more (omega (arith, up)) a.halves.procs.items p h (omega (arith, none)))) refl refl (omega arith);
          rows = ap (λ z. numbers number_in z) items ∙ numbers-push a.halves.procs.items p n number;
          took = record { sweeps = refl; room = refl };
          made = added-stands;
        }

-- `push`.
module _ (a : OneHeap) (lives : Lives one_meaning a) (row : ℕ) (there : row < length (one_meaning.numbers a)) (r : Reg) (small : r.0 < 16) (room : 2 ≤ free_in a.halves) (p : Proc)
    (is : p ≡ get_or a.halves.procs.items row p) (mem2 : List ℕ)
    (written : mem2 ≡ set (set a.halves.mem (a.halves.room.end - 2) (get_or p.regs r.0 0)) (a.halves.room.end - 2 + 1) p.stack) where
  abbrev p2 : Proc
  p2 = with_stack p (a.halves.room.end - 2) (p.depth + 1)

  abbrev grown : OneHeap
  grown = of_halves a (laid_out a.halves mem2 (record a.halves.room { end = a.halves.room.end - 2 }) (with_item a.halves.procs row p2))

  less : row < length a.halves.procs.items
  less = row-inside a row there

  fits : a.halves.room.top + 2 ≤ a.halves.room.end
  fits = omega (arith, room, lives.whole.laid.order)

  order : a.halves.room.end ≤ end_of a.halves
  order = omega (arith, lives.whole.laid.fits)

  len : length mem2 ≡ length a.halves.mem
  len = ap length written ∙ length-set (set a.halves.mem (a.halves.room.end - 2) (get_or p.regs r.0 0)) (a.halves.room.end - 2 + 1) p.stack
      ∙ length-set a.halves.mem (a.halves.room.end - 2) (get_or p.regs r.0 0)

  module _ (named : ℕ) (shared : List (List ℕ)) (qs : List Process) (s : HalvesStand named a.halves shared qs) where
    abbrev q2 : Process
    q2 = record (process_at qs row) { stack = register r.0 (process_at qs row) ∷ (process_at qs row).stack }

    roles : (b k : ℕ) → s.test b k ≡ true → (b < a.halves.room.top) ⊎ (a.halves.room.end ≤ b)
    roles b k e = elim (s.lie b k e) [ inl object ↦ inl object.1.0 | inr above ↦ inr above.0 ]

    kept : (b k : ℕ) → s.test b k ≡ true → get_or mem2 b 0 ≡ get_or a.halves.mem b 0
    kept = words s.test shared a.halves.mem a.halves.room.top a.halves.room.end (end_of a.halves) named a.halves.procs.items qs row r.0 p less is small s.processes roles fits
        (half-inside a.halves lives.whole.laid) order mem2 written

    rows-grown : ProcsStand s.test shared mem2 (a.halves.room.end - 2) (a.halves.base + length mem2 / 2) named (with_item a.halves.procs row p2).items (set qs row q2)
    rows-grown =
        let limit : end_of a.halves ≡ a.halves.base + length mem2 / 2 = omega (arith, len) in
        rw (sym limit) (pushed s.test shared a.halves.mem a.halves.room.top a.halves.room.end (end_of a.halves) named a.halves.procs.items qs row r.0 p less is small s.processes roles fits
        (half-inside a.halves lives.whole.laid) order mem2 written)

    grown-stands : HalvesStand named grown.halves shared (set qs row q2)
    grown-stands =
        halves-filled named named a.halves shared qs (set qs row q2) lives.whole.laid s s.test s.single mem2 (record a.halves.room { end = a.halves.room.end - 2 })
        (with_item a.halves.procs row p2) len (λ b k e. e) (λ b k e. inl e) (λ b k e. inl e) kept (omega arith) (omega arith) (omega arith) rows-grown
        (pushed-apart s.test shared a.halves.mem a.halves.room.top a.halves.room.end (end_of a.halves) named a.halves.procs.items qs row r.0 p less is small s.processes roles fits
        (half-inside a.halves lives.whole.laid) order mem2 written s.apart)

    grown-laid : IsLaid grown.halves
    grown-laid =
        laid-filled named named a.halves shared qs (set qs row q2) lives.whole.laid s s.test s.single mem2 (record a.halves.room { end = a.halves.room.end - 2 })
        (with_item a.halves.procs row p2) len (λ b k e. e) (λ b k e. inl e) (λ b k e. inl e) kept (omega arith) (omega arith) (omega arith) rows-grown
        refl (omega (arith, fits)) (omega (arith, fits, places-moved a.halves.procs row p2 p less is))

  pub pushes : Pushes one_meaning row r (want.Words row PLACE_COST 0) a grown
  pushes = record {
    stays = keeps-replaced a grown.halves (grown-laid lives.named lives.shared lives.processes lives.stood.is) row p2 p less is refl refl (omega arith) len refl refl (omega arith);
    took = record { sweeps = refl; few = omega arith };
    pushed = λ named shared qs x. stood-by named grown shared (set qs row (q2 named shared qs x.is)) (grown-stands named shared qs x.is);
  }

-- `send`.
module _ (a : OneHeap) (ask : CanAsk one_meaning a) (row : ℕ) (there : row < length (one_meaning.numbers a)) (w : ℕ) (h : Halves) (s : Sends a.halves h row w) where
  within : row < length a.halves.procs.items
  within = row-inside a row there

  -- The row of before.
  abbrev before : Proc
  before = get_or a.halves.procs.items row no_row

  is-before : before ≡ get_or a.halves.procs.items row before
  is-before = get_or_default a.halves.procs.items row no_row before within

  pub sends-to : SendsTo one_meaning row w a (of_halves a h)
  sends-to = record {
    stays = keeps-replaced a h s.laid row (with_queue before s.alone.first s.alone.last (before.waiting + 1)) before within is-before (s.alone.procs before is-before) refl (omega arith) s.same_len
        (ap (λ z. vec_capacity z) s.bins) (ap (λ z. vec_capacity z) s.funs) (omega (arith, s.sweeps));
    sent = record { sweeps = s.sweeps; word = s.word; alone = s.alone };
    entered = λ named shared qs x from t held.
        let e : HasEntered named h shared qs row t = s.enters named shared qs x.is t held in (
          record { sweeps = s.sweeps; few = omega (arith, s.words named shared qs x.is t held.standing) },
          stood-by named (of_halves a h) shared (set qs row (record (process_at qs row) { queue = (process_at qs row).queue ++ t ∷ [] })) (rw (e.is no_process) e.stands),
        );
  }
