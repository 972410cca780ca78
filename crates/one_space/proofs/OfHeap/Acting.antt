-- What the calls that take no words leave: a word in a register, a place popped, a message taken, a row dropped.
use Rattle.std.proofs.Common.{Vec, ◌≡◌, ℕ, zero, suc, ◌+◌, ◌-◌, ◌<◌, ◌≤◌, true, false, true≢false, List, [], ◌∷◌, length, get_or, set, refl, sym, ◌∙◌, ap, arith}
use Rattle.std.specs.List.{remove}
use Rattle.std.specs.Vec.{vec_capacity, vec_len, with_item}
use Rattle.std.specs.declared.alloc.Global.{Global}
use Rattle.std.proofs.lemmas.List.{length-set, get_or-set_same, get_or_default, set-set}
use Rattle.std.proofs.lemmas.List.Edits.{length-remove}
use Rattle.std.proofs.lemmas.List.Sums.{sum_by-remove}
use Rattle.plain_machine.specs.State.{Process, with_register}
use Rattle.script_grammar.specs.declared.command.Reg.{Reg}
use Rattle.numbered_rows.specs.Numbers.{numbers}
use Rattle.two_halves.specs.Halves.{HalvesStand, end_of, places_in}
use Rattle.two_halves.specs.Queues.{HasLeftQueue, TakesMessage, shifted, with_row}
use Rattle.two_halves.specs.declared.halves.Halves.{Halves}
use Rattle.two_halves.specs.declared.table.Proc.{Proc}
use Rattle.two_halves.proofs.Queued.Queuing.{row-length}
use Rattle.two_halves.proofs.Standing.Apart.{apart-popped, apart-removed, apart-same}
use Rattle.two_halves.proofs.Standing.Filled.{laid_out}
use Rattle.two_halves.proofs.Standing.Stacks.{no_row}
use Rattle.heaps_api.specs.Meaning.{Lives, Stood, no_process, CanAsk}
use Rattle.heaps_api.specs.Changing.{Exits, KeepsRows, PopsInto, ReceivesInto, TakesFirst, process_at, PutsWord}
use Rattle.one_space.specs.Heap.{number_in, one_meaning}
use Rattle.one_space.specs.declared.heap.OneHeap.{OneHeap}
use Rattle.one_space.proofs.Processes.Changing.{made-remove, made-row, procs-remove}
use Rattle.one_space.proofs.Processes.Turning.{TopOf, none-held, popped, register-set, row-stands, top-here, with_stack, with_word}
use Rattle.one_space.proofs.OfHeap.Keeping.{half-inside, keeps-row, keeps-rows, keeps-same, laid-left, moves-on, of_halves, places-moved, row-inside, rows-left, same-numbers, still-made, stood-by, with_proc}

module _ (a : OneHeap) (lives : Lives one_meaning a) (row : ℕ) (there : row < length (one_meaning.numbers a)) (r : Reg) (p : Proc) (is : p ≡ get_or a.halves.procs.items row p) where
  less : row < length a.halves.procs.items
  less = row-inside a row there

  -- `pop`, of an empty stack.
  pub pops-none : p.depth ≡ 0 → PopsInto one_meaning row r a a false
  pops-none none = record {
    stays = keeps-same a lives.whole.laid;
    idle = record { sweeps = refl; mem = refl; room = refl };
    same = λ e. refl;
    popped = λ named shared qs x.
        let h = row-stands x.is.test shared a.halves.mem a.halves.room.end (end_of a.halves) named a.halves.procs.items qs row p less is x.is.processes in
        let empty : (process_at qs row).stack ≡ [] = none-held x.is.test shared a.halves.mem named p.stack p.depth ((process_at qs row).stack) none h.stack in
        rw empty refl;
  }

  -- `pop`.
  module _ (some : p.depth ≡ 0 → ⊥) where
    top-there : (named : ℕ) (shared : List (List ℕ)) (qs : List Process) (x : Stood one_meaning named a shared qs)
        → TopOf x.is.test shared a.halves.mem a.halves.room.end (end_of a.halves) named p.stack p.depth ((process_at qs row).stack)
    top-there named shared qs x = top-here x.is.test shared a.halves.mem a.halves.room.end (end_of a.halves) named a.halves.procs.items qs row p less is x.is.processes some

    pub pops-inside : p.stack + 2 ≤ length a.halves.mem
    pops-inside = omega (arith, (top-there lives.named lives.shared lives.processes lives.stood).within, half-inside a.halves lives.whole.laid)

    module _ (w u d : ℕ) (value : w ≡ get_or a.halves.mem p.stack 0) (below : u ≡ get_or a.halves.mem (p.stack + 1) 0) (depth : d ≡ p.depth - 1) where
      abbrev left : Proc
      left = with_stack (with_word p r.0 w) u d

      pub pops-some : PopsInto one_meaning row r a (with_proc a row left) true
      unfolding top-there
      pops-some = record {
        stays = keeps-row a lives.whole.laid row left p less is refl refl (omega (arith, depth));
        idle = record { sweeps = refl; mem = refl; room = refl };
        same = λ e. absurd (true≢false e);
        popped = λ named shared qs x.
            let top = top-there named shared qs x in
            let q2 : Process = record (with_register r.0 top.value (process_at qs row)) { stack = top.rest } in
            let stands : HalvesStand named (with_proc a row left).halves shared (set qs row q2) =
            rows-left a.halves lives.whole.laid (with_item a.halves.procs row left) named shared qs (set qs row q2) x.is
            (popped x.is.test shared a.halves.mem a.halves.room.end (end_of a.halves) named a.halves.procs.items qs row p less is x.is.processes some r.0 w u d value below depth)
            (apart-popped a.halves.mem a.halves.procs.items row left p less is some below depth refl x.is.apart) in
            rw top.shape (refl, stood-by named (with_proc a row left) shared (set qs row q2) stands);
      }

module _ (a : OneHeap) (lives : Lives one_meaning a) (row : ℕ) (there : row < length (one_meaning.numbers a)) (r : Reg) where
  within : row < length a.halves.procs.items
  within = row-inside a row there

  abbrev p0 : Proc
  p0 = get_or a.halves.procs.items row no_row

  is0 : p0 ≡ get_or a.halves.procs.items row p0
  is0 = get_or_default a.halves.procs.items row no_row p0 within

  -- `recv`, where no message waits.
  nothing-waits : ((d : Proc) → (get_or a.halves.procs.items row d).waiting ≡ 0) → ReceivesInto one_meaning row r a a false
  nothing-waits none = record {
    stays = keeps-same a lives.whole.laid;
    received = record { sweeps = refl; mem = refl; room = refl };
    same = λ e. refl;
    first = λ named shared qs x.
        let h = row-stands x.is.test shared a.halves.mem a.halves.room.end (end_of a.halves) named a.halves.procs.items qs row p0 within is0 x.is.processes in
        let empty : (process_at qs row).queue ≡ [] = none-held x.is.test shared a.halves.mem named p0.queue p0.waiting ((process_at qs row).queue) (none no_row) h.queue in
        rw empty refl;
  }

  pub takes-none : (h2 : Halves) → h2 ≡ a.halves → ((d : Proc) → (get_or a.halves.procs.items row d).waiting ≡ 0) → ReceivesInto one_meaning row r a (of_halves a h2) false
  takes-none h2 same none = rw same (nothing-waits none)

  -- `recv`: the first message was taken off, and its word is put in the register.
  module _ (h2 : Halves) (w : ℕ) (takes : TakesMessage a.halves h2 row w) where
    abbrev shift : Proc
    shift = shifted a.halves.mem p0

    moved : h2 ≡ with_row a.halves row shift
    moved = takes.same p0 is0

    left-within : row < length h2.procs.items
    left-within = omega (arith, within, ap (λ z. length z.procs.items) moved, length-set a.halves.procs.items row shift)

    pub left-inside : row < vec_len h2.procs
    left-inside = omega (arith, left-within, h2.procs.ok.0)

    module _ (p2 : Proc) (is2 : p2 ≡ get_or h2.procs.items row p2) where
      abbrev taken_in : OneHeap
      taken_in = of_halves a (laid_out h2 h2.mem h2.room (with_item h2.procs row (with_word p2 r.0 w)))

      taken-keeps : KeepsRows one_meaning a taken_in
      taken-keeps =
          let v = with_item h2.procs row (with_word p2 r.0 w) in
          keeps-rows a taken_in (laid-left h2 takes.laid v (omega (arith, places-moved h2.procs row (with_word p2 r.0 w) p2 left-within is2)))
          (ap (λ z. length z.mem) moved) refl (ap (λ z. vec_capacity z.procs) moved)
          (same-numbers h2.procs row (with_word p2 r.0 w) p2 left-within is2 refl
          ∙ (ap (λ z. numbers number_in z.procs.items) moved ∙ same-numbers a.halves.procs row shift p0 within is0 refl))
          (λ count more m up. made-row more more h2.procs.items row (with_word p2 r.0 w) p2 (omega arith) left-within is2 refl
          (rw moved (still-made a.halves.procs row shift p0 within is0 (omega arith) count more m up)))
          (ap (λ z. vec_capacity z.bins) moved) (ap (λ z. vec_capacity z.funs) moved) (omega (arith, ap (λ z. z.sweeps) moved))

      module _ (named : ℕ) (shared : List (List ℕ)) (qs : List Process) (x : Stood one_meaning named a shared qs) where
        abbrev left-queue : HasLeftQueue named h2 shared qs row w
        left-queue = takes.leaves named shared qs x.is

        abbrev q1 : Process
        q1 = record left-queue.process { queue = left-queue.rest }

        abbrev q2 : Process
        q2 = record (with_register r.0 left-queue.message left-queue.process) { queue = left-queue.rest }

        row-within : row < length qs
        row-within = omega (arith, within, row-length x.is.test shared a.halves.mem a.halves.room.end (end_of a.halves) named a.halves.procs.items qs x.is.processes)

        taken-stands : HalvesStand named taken_in.halves shared (set qs row q2)
        taken-stands =
            let qs1 : List Process = set qs row q1 in
            let own : process_at qs1 row ≡ q1 = get_or-set_same qs row q1 no_process row-within in
            let same : set qs1 row (with_register r.0 left-queue.message (process_at qs1 row)) ≡ set qs row q2 =
            ap (λ z. set qs1 row (with_register r.0 left-queue.message z)) own ∙ set-set qs row q1 q2 in
            rw (sym same) (rows-left h2 takes.laid (with_item h2.procs row (with_word p2 r.0 w)) named shared qs1 (set qs1 row (with_register r.0 left-queue.message (process_at qs1 row)))
            left-queue.stands
            (register-set left-queue.stands.test shared h2.mem h2.room.end (end_of h2) named h2.procs.items qs1 row p2 left-within is2 left-queue.stands.processes r.0 w left-queue.message
            left-queue.held)
            (apart-same h2.mem h2.procs.items row (with_word p2 r.0 w) p2 left-within is2 refl left-queue.stands.apart))

        taken-first : TakesFirst one_meaning named taken_in shared (λ t ts. set qs row (record (with_register r.0 t (process_at qs row)) { queue = ts })) (process_at qs row).queue true
        taken-first = rw (left-queue.is no_process, left-queue.queue) (refl, stood-by named taken_in shared (set qs row q2) taken-stands)

      pub takes-some : ReceivesInto one_meaning row r a taken_in true
      takes-some = record {
        stays = taken-keeps;
        received = record { sweeps = ap (λ z. z.sweeps) moved; mem = ap (λ z. z.mem) moved; room = ap (λ z. z.room) moved };
        same = λ e. absurd (true≢false e);
        first = taken-first;
      }

numbers-remove : (rows : List Proc) (i : ℕ) → numbers number_in (remove rows i) ≡ remove (numbers number_in rows) i
numbers-remove [] zero = refl
numbers-remove [] (suc i) = refl
numbers-remove (o ∷ rows) zero = refl
numbers-remove (o ∷ rows) (suc i) = ap (λ z. o.number ∷ z) (numbers-remove rows i)

-- `exit`.
module _ (a : OneHeap) (lives : Lives one_meaning a) (row : ℕ) (there : row < length (one_meaning.numbers a)) (v : Vec Proc Global) (items : v.items ≡ remove a.halves.procs.items row)
    (capacity : vec_capacity v ≡ vec_capacity a.halves.procs) (spare : Vec Proc Global) (one_more : vec_len spare ≡ vec_len a.spare + 1) (boxes : vec_capacity spare ≡ vec_capacity a.spare) where
  abbrev dropped : OneHeap
  dropped = record { halves = laid_out a.halves a.halves.mem a.halves.room v; spare = spare }

  dropped-stands : (named : ℕ) (shared : List (List ℕ)) (qs : List Process) → Stood one_meaning named a shared qs → Stood one_meaning named dropped shared (remove qs row)
  dropped-stands named shared qs x =
      stood-by named dropped shared (remove qs row) (rows-left a.halves lives.whole.laid v named shared qs (remove qs row) x.is
      (rw items (procs-remove x.is.test shared a.halves.mem named a.halves.room.end (end_of a.halves) a.halves.procs.items qs row x.is.processes))
      (rw items (apart-removed a.halves.mem a.halves.procs.items row x.is.apart)))

  pub drops : Exits one_meaning row a dropped
  drops =
      let less : row < length a.halves.procs.items = row-inside a row there in
      let fewer : length v.items + 1 ≡ length a.halves.procs.items = ap (λ z. length z + 1) items ∙ length-remove a.halves.procs.items row less in
      let places : places_in v.items ≤ places_in a.halves.procs.items =
      omega (arith, ap places_in items, sum_by-remove (λ o. o.depth + o.waiting) a.halves.procs.items row no_row less) in
      record {
        goes = moves-on a dropped (laid-left a.halves lives.whole.laid v places) refl capacity (omega (arith, fewer, one_more)) boxes
            (λ count more h up. rw items (made-remove count more (omega (arith, up)) a.halves.procs.items row h)) refl refl (omega arith);
        rows = ap (λ z. numbers number_in z) items ∙ numbers-remove a.halves.procs.items row;
        ended = record { sweeps = refl; mem = refl; room = refl };
        gone = dropped-stands;
      }

-- A word in a register.
module _ (a : OneHeap) (ask : CanAsk one_meaning a) (row : ℕ) (there : row < length (one_meaning.numbers a)) (p : Proc) (is : p ≡ get_or a.halves.procs.items row p) (r : Reg) (w : ℕ) where
  abbrev put : Proc
  put = with_word p r.0 w

  pub puts-word : PutsWord one_meaning row r w a (with_proc a row put)
  puts-word =
      let laid = ask.lives.whole.laid in
      let inside = row-inside a row there in
      record {
        stays = keeps-row a laid row put p inside is refl refl (omega arith);
        idle = record { sweeps = refl; mem = refl; room = refl };
        put = λ named shared qs x t held.
            let ps = set qs row (with_register r.0 t (process_at qs row)) in
            stood-by named (with_proc a row put) shared ps (rows-left a.halves laid (with_item a.halves.procs row put) named shared qs ps x.is
            (register-set x.is.test shared a.halves.mem a.halves.room.end (end_of a.halves) named a.halves.procs.items qs row p inside is x.is.processes r.0 w t held)
            (apart-same a.halves.mem a.halves.procs.items row put p inside is refl x.is.apart));
      }
