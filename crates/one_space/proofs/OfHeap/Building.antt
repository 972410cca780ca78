-- A written term in a register: the memory stands with it, or as before where it is not built.
use Rattle.std.proofs.Common.{Vec, ◌≡◌, ℕ, zero, suc, ◌+◌, ◌*◌, ◌/◌, ◌<◌, ◌≤◌, ◌⊎◌, Bool, true, false, List, [], ◌∷◌, ◌++◌, length, get_or, set, Some, None, Result, Ok, Err, refl, sym, ◌∙◌, ap, subst, arith, inl, inr}
use Rattle.std.specs.Vec.{vec_len, vec_capacity, with_item}
use Rattle.std.specs.declared.alloc.Global.{Global}
use Rattle.std.proofs.lemmas.List.{get_or-append-add, length-append, length-set}
use Rattle.word_mem.specs.declared.ranges.Room.{Room}
use Rattle.plain_term.specs.declared.item.Item.{Item}
use Rattle.plain_term.specs.Tree.{Tree}
use Rattle.plain_term.specs.Tree.Tree.{Nil}
use Rattle.plain_term.specs.Bytes.{shared_bytes}
use Rattle.plain_term.specs.Measures.{bin_words}
use Rattle.plain_term.proofs.Known.{Knows}
use Rattle.script_grammar.specs.declared.command.Reg.{Reg}
use Rattle.script_grammar.specs.Written.{Term}
use Rattle.term_order.specs.Named.{is_named}
use Rattle.term_order.specs.Held.{HoldTrees, HoldsTree}
use Rattle.term_build.specs.Taken.{IsFree}
use Rattle.term_words.specs.Counted.{total}
use Rattle.term_words.proofs.Framing.Frames.{frame}
use Rattle.term_words.proofs.Framing.Growing.{grow}
use Rattle.term_words.proofs.Totals.Members.{both-total}
use Rattle.off_heap_list.proofs.Walked.Tallied.{few-links}
use Rattle.record_move.specs.Copies.{record_words}
use Rattle.plain_machine.specs.Made.{tree_of}
use Rattle.plain_machine.specs.Flaws.{flaw_of, is_big, is_wide}
use Rattle.plain_machine.specs.Laws.{AreWithin}
use Rattle.plain_machine.specs.State.{Process, register, with_register}
use Rattle.space_api.specs.Calls.{HasTerm, IsWrittenTerm}
use Rattle.item_build.specs.declared.building.BuildStop.{BuildStop}
use Rattle.item_build.specs.declared.bins.Making.{Making}
use Rattle.item_build.specs.Reading.{AreLed, bins_of, far_words_of, heap_words_of, long_bins, outcome, item_words_of}
use Rattle.item_build.specs.Building.{BuildsTerm, HasHeld, HeldStand, Laid, LeavesRoom, MadeTree}
use Rattle.item_build.proofs.Turned.Ending.{whole-led}
use Rattle.item_build.proofs.Meaning.Known.{stands-known}
use Rattle.item_build.proofs.Meaning.Whole.{words-apart}
use Rattle.item_build.proofs.Meaning.Written.{is-written, outcome_of, term-makes, term-named, term-outcome}
use Rattle.item_build.proofs.Meaning.Growing.{longs-are}
use Rattle.item_build.proofs.Laid.Chaining.{longs-few}
use Rattle.two_halves.specs.Halves.{HalvesStand, IsLaid, ProcStands, ProcsStand, all_places, end_of, free_in}
use Rattle.two_halves.specs.Stack.{AreApart, values}
use Rattle.two_halves.specs.declared.halves.Halves.{Halves}
use Rattle.two_halves.specs.declared.table.Proc.{Proc}
use Rattle.two_halves.proofs.Queued.Queuing.{row-set}
use Rattle.two_halves.proofs.Standing.Apart.{apart-kept, apart-same}
use Rattle.two_halves.proofs.Standing.Filled.{laid_out}
use Rattle.two_halves.proofs.Standing.Keeping.{procs-on}
use Rattle.heaps_api.specs.Meaning.{CanAsk, Stood}
use Rattle.heaps_api.specs.Reading.{waiting_trees}
use Rattle.heaps_api.specs.Changing.{KeepsRows, process_at}
use Rattle.heaps_api.specs.Written.{CanBuild, GainsTerm, TermIsBuilt, refusal_of_stop}
use Rattle.one_space.specs.Entered.{records_from}
use Rattle.one_space.specs.Heap.{one_meaning}
use Rattle.one_space.specs.declared.heap.OneHeap.{OneHeap}
use Rattle.heaps_api.proofs.Naming.{named-more}
use Rattle.one_space.proofs.Memory.Landing.{inside-there, joined, landed-laid, landed-stands, record-there}
use Rattle.one_space.proofs.Memory.Resting.{rest-laid, rest-reached, rest-stands}
use Rattle.one_space.proofs.Memory.Tabled.{bins-size, entered-at, entered-len, record_at, records-size}
use Rattle.one_space.proofs.OfHeap.Keeping.{keeps-rows, made-still, of_halves, places-moved, same-numbers, still-made, stood-by}
use Rattle.one_space.proofs.OfHeap.Making.{register-said, row-less, row-said}
use Rattle.one_space.proofs.OfHeap.Putting.{total-least}
use Rattle.heaps_api.proofs.Holding.{held-set}
use Rattle.one_space.proofs.Processes.Turning.{row-stands, with_made}
use Rattle.one_space.proofs.Processes.Changing.{within-grown}

-- A stop is a flaw, and a term that is built has none.
stop-flaw : (c : ℕ → ℕ → Bool) (shared : List (List ℕ)) (x y : Room) (mem mem2 : List ℕ) (was now : Making) (n : ℕ) (e : BuildStop) (big wide : Bool) (t : Tree)
    → BuildsTerm c shared x y mem mem2 was now n (Err e) (outcome_of big wide t) → flaw_of big wide ≡ Some (refusal_of_stop e)
stop-flaw c shared x y mem mem2 was now n e true wide t is = ap Some (sym (ap refusal_of_stop is))
stop-flaw c shared x y mem mem2 was now n e false true t is = ap Some (sym (ap refusal_of_stop is))
stop-flaw c shared x y mem mem2 was now n e false false t is = absurd is

-- A term was built: it has no flaw.
pub record Whole (c : ℕ → ℕ → Bool) (shared : List (List ℕ)) (x y : Room) (mem mem2 : List ℕ) (was now : Making) (n w : ℕ) (big wide : Bool) (t : Tree) : Type 0 where
  pub small : big ≡ false
  pub narrow : wide ≡ false
  pub built : MadeTree c shared x y mem mem2 was now n w t

no-flaw : (c : ℕ → ℕ → Bool) (shared : List (List ℕ)) (x y : Room) (mem mem2 : List ℕ) (was now : Making) (n w : ℕ) (big wide : Bool) (t : Tree)
    → BuildsTerm c shared x y mem mem2 was now n (Ok w) (outcome_of big wide t) → Whole c shared x y mem mem2 was now n w big wide t
no-flaw c shared x y mem mem2 was now n w true wide t b = absurd b
no-flaw c shared x y mem mem2 was now n w false true t b = absurd b
no-flaw c shared x y mem mem2 was now n w false false t b = record { small = refl; narrow = refl; built = b }

none-flawed : (big wide : Bool) → big ≡ false → wide ≡ false → flaw_of big wide ≡ None
none-flawed true wide small narrow = absurd cc
none-flawed false true small narrow = absurd cc
none-flawed false false small narrow = refl

-- What is held knows no later shared binaries.
know-held : (c : ℕ → ℕ → Bool) (shared : List (List ℕ)) (mem : List ℕ) (named : ℕ) (ws : List ℕ) (ts : List Tree) → HoldTrees c shared mem named ws ts → (r : ℕ)
    → Knows (length shared) (get_or ts r Nil)
know-held c shared mem named [] [] h r = tt
know-held c shared mem named [] (t ∷ ts) h r = absurd h
know-held c shared mem named (w ∷ ws) [] h r = absurd h
know-held c shared mem named (w ∷ ws) (t ∷ ts) h zero = stands-known c shared mem w t h.0.standing
know-held c shared mem named (w ∷ ws) (t ∷ ts) h (suc r) = know-held c shared mem named ws ts h.1 r

-- Rows stand over more shared binaries.
module _ (c : ℕ → ℕ → Bool) (shared extra : List (List ℕ)) (mem : List ℕ) (low limit named : ℕ) where
  held-more : (ws : List ℕ) (ts : List Tree) → HoldTrees c shared mem named ws ts → HoldTrees c (shared ++ extra) mem named ws ts
  held-more [] [] h = tt
  held-more [] (t ∷ ts) h = absurd h
  held-more (w ∷ ws) [] h = absurd h
  held-more (w ∷ ws) (t ∷ ts) h = (record { standing = grow c shared extra mem w t h.0.standing; names = h.0.names }, held-more ws ts h.1)

  proc-more : (p : Proc) (q : Process) → ProcStands c shared mem low limit named p q → ProcStands c (shared ++ extra) mem low limit named p q
  proc-more p q s = record {
    number = s.number;
    count = s.count;
    registers = held-more p.regs q.registers s.registers;
    places = s.places;
    stack = held-more (values mem p.stack p.depth) q.stack s.stack;
    waits = s.waits;
    queue = held-more (values mem p.queue p.waiting) q.queue s.queue;
    last = s.last;
    refs = s.refs;
  }

  procs-more : (ps : List Proc) (qs : List Process) → ProcsStand c shared mem low limit named ps qs → ProcsStand c (shared ++ extra) mem low limit named ps qs
  procs-more [] [] s = tt
  procs-more [] (q ∷ qs) s = absurd s
  procs-more (p ∷ ps) [] s = absurd s
  procs-more (p ∷ ps) (q ∷ qs) s = (proc-more p q s.0, procs-more ps qs s.1)

module _ (a : OneHeap) (ask : CanAsk one_meaning a) (row : ℕ) (less : row < length (one_meaning.numbers a)) (r : Reg) (names : List (List ℕ)) (code : List Item) (has : HasTerm names code)
    (few : length names ≤ 16384) (serial : ℕ) (can : CanBuild one_meaning serial (length names) a) (room : heap_words_of code + far_words_of code ≤ free_in a.halves)
    (p : Proc) (is : p ≡ get_or a.halves.procs.items row p) where
  abbrev h : Halves
  h = a.halves

  laid : IsLaid h
  laid = ask.lives.whole.laid

  under : row < length h.procs.items
  under = row-less a ask row less

  pub set-fits : h.room.top + item_words_of code ≤ h.room.end
  set-fits = omega (arith, room, words-apart code, laid.order)

  half-within : end_of h ≤ length h.mem
  half-within = elim laid.side [ inl e ↦ omega (arith, e) | inr e ↦ omega (arith, e, laid.even) ]

  -- The registers are held, and no word that may be taken has a role.
  module _ (named : ℕ) (shared : List (List ℕ)) (qs : List Process) (x : Stood one_meaning named a shared qs) where
    abbrev q : Process
    q = process_at qs row

    regs : length p.regs ≡ 16
    regs = (row-said a ask row less named shared qs x p is).count

    free : IsFree x.is.test h.room.top h.room.end
    free i k e = elim (x.is.lie i k e) [ inl there ↦ inl there.1.0 | inr there ↦ inr there.0 ]

    held : HeldStand x.is.test shared h.mem p.regs q.registers
    held = record { each = λ i below. (register-said a ask row less named shared qs x p is i (omega (arith, below, regs))).standing }

    known : named ≤ length names → (i : ℕ) → i < length p.regs → is_named (length names) (register i q) ≡ true
    known more i below = named-more named (length names) more (register i q) (register-said a ask row less named shared qs x p is i (omega (arith, below, regs))).names

    knows : (i : ℕ) → Knows (length shared) (register i q)
    knows i = know-held x.is.test shared h.mem named p.regs q.registers (row-said a ask row less named shared qs x p is).registers i

    set-within : (t : Term) → IsWrittenTerm names code t → AreWithin shared (waiting_trees qs) → AreWithin ((tree_of names q.registers t shared).1) (waiting_trees qs)
    set-within t is_term w =
        let P : List (List ℕ) → Type 0 = λ z. AreWithin z (waiting_trees qs) in
        subst P (sym (term-makes names q.registers code t shared is_term))
        (within-grown x.is.test shared (bins_of code) h.mem h.room.end (end_of h) named h.procs.items qs x.is.processes w)

  pub set-held : HasHeld names serial h.room h.mem p.regs
  set-held = record {
    test = can.stood.is.test;
    shared = can.shared;
    trees = (q can.named can.shared can.processes can.stood).registers;
    serials = can.serials;
    free = free can.named can.shared can.processes can.stood;
    standing = held can.named can.shared can.processes can.stood;
    named = known can.named can.shared can.processes can.stood can.few;
  }

  pub set-regs : length p.regs ≡ 16
  set-regs = regs can.named can.shared can.processes can.stood

  module _ (mem2 : List ℕ) (z : Room) (was now : Making) (leaves : LeavesRoom h.room z h.mem mem2) (was_is : was ≡ record { serial = serial; head = h.head }) where
    others : (i : ℕ) → (i < h.room.top) ⊎ (h.room.end ≤ i) → get_or mem2 i 0 ≡ get_or h.mem i 0
    others i out = leaves.others i out

    -- The term was not built.
    module _ (e : BuildStop)
        (builds : (c : ℕ → ℕ → Bool) (shared : List (List ℕ)) (trees : List Tree) → IsFree c h.room.top h.room.end → length shared ≡ serial → HeldStand c shared h.mem p.regs trees
        → BuildsTerm c (shared ++ bins_of code) h.room z h.mem mem2 was now (long_bins code) (Err e) (outcome names shared trees code)) where
      abbrev stopped : OneHeap
      stopped = of_halves a (laid_out h mem2 h.room h.procs)

      stop-keeps : KeepsRows one_meaning a stopped
      stop-keeps =
          let o = ask.lives.stood in
          keeps-rows a stopped
          (rest-laid ask.lives.named h ask.lives.shared ask.lives.processes laid o.is mem2 h.room leaves.same_len others (omega arith) laid.order (omega arith) refl)
          leaves.same_len refl refl refl (made-still h.procs.items) refl refl (omega arith)

      stop-stood : (named : ℕ) (shared : List (List ℕ)) (qs : List Process) → Stood one_meaning named a shared qs → Stood one_meaning named stopped shared qs
      stop-stood named shared qs x = record {
        is = rest-stands named h shared qs laid x.is mem2 h.room leaves.same_len others (omega arith) laid.order (omega arith);
        rows = x.rows;
        registers = x.registers;
      }

      stop-built : (named : ℕ) (shared : List (List ℕ)) (qs : List Process) (t : Term) → Stood one_meaning named a shared qs → length shared ≡ serial → IsWrittenTerm names code t
          → TermIsBuilt one_meaning names row r named stopped shared qs (process_at qs row) t (Err e)
      stop-built named shared qs t x serials is_term =
          let u : Process = process_at qs row in
          let Q : Result Tree BuildStop → Type 0 = λ v. BuildsTerm x.is.test (shared ++ bins_of code) h.room z h.mem mem2 was now (long_bins code) (Err e) v in (
            stop-flaw x.is.test (shared ++ bins_of code) h.room z h.mem mem2 was now (long_bins code) e (is_big names u.registers t shared) (is_wide names u.registers t shared)
                ((tree_of names u.registers t shared).0)
                (subst Q (term-outcome names u.registers code t shared is_term (knows named shared qs x))
                (builds x.is.test shared u.registers (free named shared qs x) serials (held named shared qs x))),
            stop-stood named shared qs x,
          )

      pub set-stops : GainsTerm one_meaning names row r serial code a stopped (Err e)
      set-stops = record {
        stays = stop-keeps;
        took = tt;
        gave_back = record { sweeps = refl; room = refl };
        tidy = λ tidy.
            let o = ask.lives.stood in
            rest-reached ask.lives.named h ask.lives.shared ask.lives.processes laid o.is mem2 h.room leaves.same_len others (omega arith) laid.order (omega arith) tidy;
        few = tt;
        within = λ named shared qs t x serials is_term w. set-within named shared qs x t is_term w;
        built = λ named shared qs t x serials more is_term. stop-built named shared qs t x serials is_term;
      }

    -- The term was built.
    module _ (w : ℕ)
        (builds : (c : ℕ → ℕ → Bool) (shared : List (List ℕ)) (trees : List Tree) → IsFree c h.room.top h.room.end → length shared ≡ serial → HeldStand c shared h.mem p.regs trees
        → BuildsTerm c (shared ++ bins_of code) h.room z h.mem mem2 was now (long_bins code) (Ok w) (outcome names shared trees code))
        (back : z.end + far_words_of code ≡ h.room.end) (few_words : z.top + h.room.end ≤ h.room.top + z.end + item_words_of code) where
      -- What was built of the tree of a written term.
      module _ (named : ℕ) (shared : List (List ℕ)) (qs : List Process) (x : Stood one_meaning named a shared qs) (serials : length shared ≡ serial) (t : Term)
          (is_term : IsWrittenTerm names code t) where
        abbrev u : Process
        u = process_at qs row

        abbrev tree : Tree
        tree = (tree_of names u.registers t shared).0

        whole-there : Whole x.is.test (shared ++ bins_of code) h.room z h.mem mem2 was now (long_bins code) w (is_big names u.registers t shared) (is_wide names u.registers t shared) tree
        whole-there =
            let Q : Result Tree BuildStop → Type 0 = λ g. BuildsTerm x.is.test (shared ++ bins_of code) h.room z h.mem mem2 was now (long_bins code) (Ok w) g in
            no-flaw x.is.test (shared ++ bins_of code) h.room z h.mem mem2 was now (long_bins code) w (is_big names u.registers t shared) (is_wide names u.registers t shared) tree
            (subst Q (term-outcome names u.registers code t shared is_term (knows named shared qs x)) (builds x.is.test shared u.registers (free named shared qs x) serials (held named shared qs x)))

        -- The holders and records lie so.
        laid-there : Laid x.is.test whole-there.built.test (shared ++ bins_of code) h.room z h.mem mem2 h.head now.head (length shared) (long_bins code)
        laid-there =
            let made = whole-there.built in
            let Q : Making → Type 0 = λ g. Laid x.is.test made.test (shared ++ bins_of code) h.room z h.mem mem2 g.head now.head g.serial (long_bins code) in
            let R : ℕ → Type 0 = λ g. Laid x.is.test made.test (shared ++ bins_of code) h.room z h.mem mem2 h.head now.head g (long_bins code) in
            subst R (sym serials) (subst Q was_is made.laid)

      -- The table and the memory have room for the new records.
      abbrev first : Whole can.stood.is.test (can.shared ++ bins_of code) h.room z h.mem mem2 was now (long_bins code) w
          (is_big names (process_at can.processes row).registers has.term can.shared) (is_wide names (process_at can.processes row).registers has.term can.shared)
          ((tree_of names (process_at can.processes row).registers has.term can.shared).0)
      first = whole-there can.named can.shared can.processes can.stood can.serials has.term has.is

      first-laid : Laid can.stood.is.test first.built.test (can.shared ++ bins_of code) h.room z h.mem mem2 h.head now.head (length can.shared) (long_bins code)
      first-laid = laid-there can.named can.shared can.processes can.stood can.serials has.term has.is

      pub set-inside : h.room.top + 6 * long_bins code ≤ length mem2
      set-inside = by (long_bins code) refl
        where
          by : (k : ℕ) → k ≡ long_bins code → h.room.top + 6 * k ≤ length mem2
          by zero e = omega (arith, leaves.same_len, laid.order, laid.fits, half-within)
          by (suc k) e =
              omega (
                arith,
                inside-there h can.shared (bins_of code) can.named can.processes laid can.stood.is first.built.test z mem2 now.head (long_bins code) first-laid leaves k (omega (arith, e)),
                leaves.same_len,
                leaves.order,
                leaves.back,
                laid.fits,
                half-within,
              )

      led : AreLed code
      led = whole-led (length names) 16 code (is-written names code has.term 16 has.is has.named few (omega arith)).whole

      record-size : (i : ℕ) → i < long_bins code → record_words mem2 (record_at mem2 h.room.top i) ≡ 4 + bin_words (length (get_or (bins_of code) i []))
      record-size i below =
          let shared : List (List ℕ) = can.shared in
          let there = record-there h shared (bins_of code) can.named can.processes laid can.stood.is first.built.test z mem2 now.head (long_bins code) first-laid leaves i below in
          let is_bytes : shared_bytes (shared ++ bins_of code) (length shared + suc i) ≡ get_or (bins_of code) i [] =
          (let e : length shared + suc i ≡ suc (length shared + i) = omega arith in ap (shared_bytes (shared ++ bins_of code)) e ∙ get_or-append-add shared (bins_of code) i []) in
          omega (arith, there.header, ap (λ g. bin_words (length g)) is_bytes)

      new-words : z.end + total (record_words mem2) (records_from mem2 h.room.top (long_bins code)) ≤ h.room.end
      new-words = omega (arith, back, records-size mem2 h.room.top (record_words mem2) (bins_of code) (long_bins code) (sym (longs-are code)) record-size, bins-size code led)

      -- All records lie in the half, so that the table has room for them.
      pub set-room : vec_len h.bins + long_bins code ≤ vec_capacity h.bins
      set-room =
          let old = can.stood.is in
          let news : List ℕ = records_from mem2 h.room.top (long_bins code) in
          let olds : 4 * length h.bins.items ≤ total (record_words h.mem) h.bins.items =
          total-least (record_words h.mem) h.bins.items (λ v i. omega (arith, (old.records.each_bin v i).is.header)) in
          let fresh : 4 * length news ≤ total (record_words mem2) news =
          total-least (record_words mem2) news (λ v i.
          let (k, (below, there)) = entered-at mem2 h.room.top (long_bins code) v i in
          omega (arith, record-size k below, ap (record_words mem2) there)) in
          omega (
            arith,
            olds,
            fresh,
            entered-len mem2 h.room.top (long_bins code),
            both-total (record_words h.mem) h.bins.items h.funs.items,
            laid.fits,
            laid.front,
            laid.order,
            leaves.front,
            leaves.order,
            new-words,
            ask.lives.whole.bins,
            h.bins.ok.0,
          )

      -- The chain is no longer than the memory.
      pub set-linked : h.linked ≤ length h.mem
      set-linked = omega (arith, can.stood.is.linked, few-links can.stood.is.test h.mem can.stood.is.chained can.stood.is.links.once can.stood.is.links.each)

      module _ (v : Proc) (row_is : v ≡ get_or h.procs.items row v) (k : ℕ) (k_is : k ≡ long_bins code) (bins : Vec ℕ Global)
          (table : bins.items ≡ h.bins.items ++ records_from mem2 h.room.top k) (same_capacity : vec_capacity bins ≡ vec_capacity h.bins) where
        abbrev v2 : Proc
        v2 = with_made v r.0 w v.refs

        abbrev h3 : Halves
        h3 = joined h mem2 z now.head k (with_item h.procs row v2) bins

        abbrev done : OneHeap
        done = of_halves a h3

        table-here : bins.items ≡ h.bins.items ++ records_from mem2 h.room.top (long_bins code)
        table-here = rw (sym k_is) table

        built-laid : IsLaid h3
        built-laid =
            let P : ℕ → Type 0 = λ g. IsLaid (joined h mem2 z now.head g (with_item h.procs row v2) bins) in
            subst P (sym k_is) (landed-laid h can.shared (bins_of code) can.named can.processes laid can.stood.is first.built.test z mem2 now.head (long_bins code) first-laid leaves
            (with_item h.procs row v2) bins table-here (omega (arith, places-moved h.procs row v2 v under row_is)) new-words)

        built-keeps : KeepsRows one_meaning a done
        built-keeps =
            keeps-rows a done built-laid leaves.same_len refl refl (same-numbers h.procs row v2 v under row_is refl) (still-made h.procs row v2 v under row_is (omega arith)) same_capacity refl
            (omega arith)

        module _ (named : ℕ) (shared : List (List ℕ)) (qs : List Process) (x : Stood one_meaning named a shared qs) (serials : length shared ≡ serial) (more : named ≤ length names)
            (t : Term) (is_term : IsWrittenTerm names code t) where
          abbrev owner : Process
          owner = process_at qs row

          abbrev made : Tree
          made = (tree_of names owner.registers t shared).0

          abbrev whole : Whole x.is.test (shared ++ bins_of code) h.room z h.mem mem2 was now (long_bins code) w (is_big names owner.registers t shared) (is_wide names owner.registers t shared) made
          whole = whole-there named shared qs x serials t is_term

          abbrev test : ℕ → ℕ → Bool
          test = whole.built.test

          laid-here : Laid x.is.test test (shared ++ bins_of code) h.room z h.mem mem2 h.head now.head (length shared) (long_bins code)
          laid-here = laid-there named shared qs x serials t is_term

          named-made : is_named (length names) made ≡ true
          named-made =
              term-named names owner.registers code t shared is_term (knows named shared qs x) (length names) 16 (is-written names code t 16 is_term has.named few (omega arith))
              (λ i below. named-more named (length names) more (register i owner) (register-said a ask row less named shared qs x p is i below).names) whole.narrow

          trees : (y : ℕ) (g : Tree) → HoldsTree x.is.test shared h.mem named y g → HoldsTree test shared mem2 (length names) y g
          trees y g hold = record { standing = (frame x.is.test test h.mem mem2 laid-here.kept).each shared y g hold.standing; names = named-more named (length names) more g hold.names }

          bare : (i j : ℕ) → h.room.end ≤ i → i < end_of h → ((l : ℕ) → x.is.test i l ≡ true → ⊥) → test i j ≡ true → ⊥
          bare i j above below none e = elim (laid-here.within i j e) [
            | inl old ↦ none j old
            | inr new ↦ elim new [ inl c ↦ omega (arith, c.1.0, above, leaves.order, leaves.back) | inr c ↦ omega (arith, c.1.0, above) ]
          ]

          rows : ProcsStand test (shared ++ bins_of code) mem2 z.end (end_of h) (length names) h.procs.items qs
          rows = procs-more test shared (bins_of code) mem2 z.end (end_of h) (length names) h.procs.items qs
              (procs-on x.is.test test shared h.mem mem2 named (length names) h.room.end z.end (end_of h) trees (λ i above below none. others i (inr above)) bare leaves.back h.procs.items qs
              x.is.processes)

          set-rows : ProcsStand test (shared ++ bins_of code) mem2 z.end (h.base + length mem2 / 2) (length names) (set h.procs.items row v2) (set qs row (with_register r.0 made owner))
          set-rows =
              let old = row-stands test (shared ++ bins_of code) mem2 z.end (end_of h) (length names) h.procs.items qs row v under row_is rows in
              let limit : end_of h ≡ h.base + length mem2 / 2 = omega (arith, leaves.same_len) in
              let P : ℕ → Type 0 = λ g. ProcsStand test (shared ++ bins_of code) mem2 z.end g (length names) (set h.procs.items row v2) (set qs row (with_register r.0 made owner)) in
              subst P limit (row-set test (shared ++ bins_of code) mem2 z.end (end_of h) (length names) h.procs.items qs row v2 (with_register r.0 made owner) rows (record {
                number = old.number;
                count = length-set v.regs r.0 w ∙ old.count;
                registers = held-set test (shared ++ bins_of code) mem2 (length names) v.regs owner.registers r.0 w made old.registers (record { standing = whole.built.made; names = named-made });
                places = old.places;
                stack = old.stack;
                waits = old.waits;
                queue = old.queue;
                last = old.last;
                refs = old.refs;
              }))

          set-apart : AreApart (all_places mem2 (set h.procs.items row v2))
          set-apart = apart-same mem2 h.procs.items row v2 v under row_is refl
              (apart-kept x.is.test shared h.mem mem2 h.room.end (end_of h) named h.procs.items qs (λ i above below none. others i (inr above)) x.is.processes x.is.apart)

          built-halves : HalvesStand (length names) h3 (shared ++ bins_of code) (set qs row (with_register r.0 made owner))
          built-halves =
              let P : ℕ → Type 0 = λ g. HalvesStand (length names) (joined h mem2 z now.head g (with_item h.procs row v2) bins) (shared ++ bins_of code) (set qs row (with_register r.0 made owner)) in
              subst P (sym k_is) (landed-stands h shared (bins_of code) named qs laid x.is test z mem2 now.head (long_bins code) laid-here leaves (length names) more (with_item h.procs row v2) bins
              (set qs row (with_register r.0 made owner)) table-here set-rows set-apart)

          built-stood : Stood one_meaning (length names) done (shared ++ bins_of code) (set qs row (with_register r.0 made owner))
          built-stood = stood-by (length names) done (shared ++ bins_of code) (set qs row (with_register r.0 made owner)) built-halves

          built-so : TermIsBuilt one_meaning names row r named done shared qs owner t (Ok k)
          built-so =
              let makes : (tree_of names owner.registers t shared).1 ≡ shared ++ bins_of code = term-makes names owner.registers code t shared is_term in (
                none-flawed (is_big names owner.registers t shared) (is_wide names owner.registers t shared) whole.small whole.narrow,
                (
                  omega (arith, ap length makes, length-append shared (bins_of code), longs-are code, k_is),
                  rw makes built-stood,
                ),
              )

        pub set-gains : GainsTerm one_meaning names row r serial code a done (Ok k)
        set-gains = record {
          stays = built-keeps;
          took = record { sweeps = refl; few = omega (arith, few_words, words-apart code, laid.order, leaves.order) };
          gave_back = tt;
          tidy = tt;
          few = omega (arith, k_is, longs-few code);
          within = λ named shared qs t x serials is_term within. set-within named shared qs x t is_term within;
          built = λ named shared qs t x serials more is_term. built-so named shared qs x serials more t is_term;
        }
