-- A new term in a register: what the memory stands for after it, whatever was built.
use Rattle.std.proofs.Common.{◌≡◌, ℕ, ◌+◌, ◌/◌, ◌<◌, ◌≤◌, ◌⊎◌, true, List, length, get_or, set, refl, sym, arith, inl, inr}
use Rattle.std.specs.Vec.{with_item}
use Rattle.word_mem.specs.declared.ranges.Room.{Room}
use Rattle.plain_term.specs.Tree.{Tree}
use Rattle.plain_machine.specs.State.{Process, register}
use Rattle.term_order.specs.Named.{is_named}
use Rattle.term_order.specs.Held.{HoldsTree}
use Rattle.term_build.specs.Taken.{IsFree}
use Rattle.term_build.specs.Grows.{Built}
use Rattle.term_build.specs.Clear.{Uses}
use Rattle.two_halves.specs.Halves.{HalvesStand, IsLaid, ProcStands, ProcsStand, end_of, free_in}
use Rattle.two_halves.specs.declared.halves.Halves.{Halves}
use Rattle.two_halves.specs.declared.table.Proc.{Proc}
use Rattle.two_halves.proofs.Standing.Apart.{apart-kept, apart-same}
use Rattle.two_halves.proofs.Standing.Filled.{halves-filled, laid_out}
use Rattle.two_halves.proofs.Standing.Keeping.{procs-on}
use Rattle.two_halves.proofs.Standing.Stacks.{AreKept}
use Rattle.heaps_api.specs.Meaning.{CanAsk, Stood}
use Rattle.script_grammar.specs.declared.command.Reg.{Reg}
use Rattle.heaps_api.specs.Changing.{Gains, process_at}
use Rattle.heaps_api.specs.Making.{IsMadeOf, with_made_in, words_of_make}
use Rattle.heaps_api.specs.declared.making.Make.{Make}
use Rattle.one_space.specs.Heap.{one_meaning}
use Rattle.one_space.specs.declared.heap.OneHeap.{OneHeap}
use Rattle.one_space.proofs.OfHeap.Keeping.{keeps-replaced, of_halves, places-moved, row-inside, stood-by}
use Rattle.heaps_api.proofs.Holding.{held-at}
use Rattle.one_space.proofs.Processes.Turning.{register-made, row-stands, with_made, with_tree_made}
use Rattle.one_space.proofs.Memory.Resting.{rest-laid}

module _ (a : OneHeap) (ask : CanAsk one_meaning a) (row : ℕ) (less : row < length (one_meaning.numbers a)) where
  laid : IsLaid a.halves
  laid = ask.lives.whole.laid

  pub row-less : row < length a.halves.procs.items
  row-less = row-inside a row less

  -- What a row says of its process.
  module _ (named : ℕ) (shared : List (List ℕ)) (qs : List Process) (x : Stood one_meaning named a shared qs) (p : Proc) (is : p ≡ get_or a.halves.procs.items row p) where
    pub row-said : ProcStands x.is.test shared a.halves.mem a.halves.room.end (end_of a.halves) named p (process_at qs row)
    row-said = row-stands x.is.test shared a.halves.mem a.halves.room.end (end_of a.halves) named a.halves.procs.items qs row p row-less is x.is.processes

    pub register-said : (r : ℕ) → r < 16 → HoldsTree x.is.test shared a.halves.mem named (get_or p.regs r 0) (register r (process_at qs row))
    register-said r small = held-at x.is.test shared a.halves.mem named p.regs (process_at qs row).registers r (omega (arith, small, row-said.count)) row-said.registers

  module _ (what : Make) (free : words_of_make what + 0 ≤ free_in a.halves) where
    pub words-fit : a.halves.room.top + words_of_make what ≤ a.halves.room.end
    words-fit = omega (arith, free, laid.order)

    -- No word of the room has a role.
    pub words-free : (named : ℕ) (shared : List (List ℕ)) (qs : List Process) (x : Stood one_meaning named a shared qs) (m : ℕ) → m ≤ words_of_make what
        → IsFree x.is.test a.halves.room.top (a.halves.room.top + m)
    words-free named shared qs x m few q k e = elim (x.is.lie q k e) [ inl there ↦ inl there.1.0 | inr there ↦ inr (omega (arith, there.0, few, words-fit)) ]

    module _ (mem2 : List ℕ) (z : Room) (used : ℕ) (few : used ≤ words_of_make what) (uses : Uses used a.halves.room z a.halves.mem mem2)
        (p : Proc) (is : p ≡ get_or a.halves.procs.items row p) (s : Reg) (w made : ℕ) where
      abbrev h2 : Halves
      h2 = laid_out a.halves mem2 z (with_item a.halves.procs row (with_made p s.0 w made))

      -- All words but those of the room are as before.
      others : (q : ℕ) → (q < a.halves.room.top) ⊎ (a.halves.room.end ≤ q) → get_or mem2 q 0 ≡ get_or a.halves.mem q 0
      others q out = uses.others q (elim out [ inl under ↦ inl under | inr over ↦ inr (omega (arith, over, few, words-fit)) ])

      made-laid : IsLaid h2
      made-laid =
          let same = places-moved a.halves.procs row (with_made p s.0 w made) p row-less is in
          let still : IsLaid (laid_out a.halves mem2 z a.halves.procs) =
          rest-laid ask.lives.named a.halves ask.lives.shared ask.lives.processes laid ask.lives.stood.is mem2 z uses.same_len others (omega (arith, uses.moved))
          (omega (arith, uses.moved, uses.same_end, few, words-fit)) (omega (arith, uses.same_end)) uses.same_start in
          record { even = still.even; side = still.side; starts = still.starts; front = still.front; order = still.order; fits = omega (arith, still.fits, same) }

      module _ (named : ℕ) (shared : List (List ℕ)) (qs : List Process) (x : Stood one_meaning named a shared qs) (t : Tree) (refs : ℕ) (names : is_named named t ≡ true)
          (same_refs : refs ≡ made) (built : Built x.is.test a.halves.room.top used a.halves.mem mem2 shared w t) where
        abbrev q : Process
        q = process_at qs row

        trees : (v : ℕ) (u : Tree) → HoldsTree x.is.test shared a.halves.mem named v u → HoldsTree built.test shared mem2 named v u
        trees v u held = record { standing = built.grows.kept.each shared v u held.standing; names = held.names }

        -- New roles are at the front of the room.
        new-within : (i k : ℕ) → built.test i k ≡ true → (x.is.test i k ≡ true) ⊎ ((a.halves.room.top ≤ i) × (i < z.top))
        new-within i k e = elim (built.grows.within i k e) [ inl old ↦ inl old | inr new ↦ inr (new.0, omega (arith, new.1, uses.moved)) ]

        words-same : (i k : ℕ) → x.is.test i k ≡ true → get_or mem2 i 0 ≡ get_or a.halves.mem i 0
        words-same i k e = elim (x.is.lie i k e) [ inl there ↦ others i (inl there.1.0) | inr there ↦ others i (inr there.0) ]

        kept : AreKept x.is.test a.halves.mem mem2 a.halves.room.end (end_of a.halves)
        kept i above below none = others i (inr above)

        bare : (i k : ℕ) → a.halves.room.end ≤ i → i < end_of a.halves → ((j : ℕ) → x.is.test i j ≡ true → ⊥) → built.test i k ≡ true → ⊥
        bare i k above below none e = elim (new-within i k e) [ inl old ↦ none k old | inr new ↦ omega (arith, new.1, above, uses.moved, few, words-fit) ]

        rows : ProcsStand built.test shared mem2 z.end (end_of a.halves) named a.halves.procs.items qs
        rows = procs-on x.is.test built.test shared a.halves.mem mem2 named named a.halves.room.end z.end (end_of a.halves) trees kept bare (omega (arith, uses.same_end))
            a.halves.procs.items qs x.is.processes

        set-rows : ProcsStand built.test shared mem2 z.end (end_of a.halves) named (set a.halves.procs.items row (with_made p s.0 w made)) (set qs row (with_tree_made q s.0 t refs))
        set-rows = register-made built.test shared mem2 z.end (end_of a.halves) named a.halves.procs.items qs row p row-less is rows s.0 w made refs t
            (record { standing = built.made; names = names }) same_refs

        halves-stand : HalvesStand named h2 shared (set qs row (with_tree_made q s.0 t refs))
        halves-stand =
            let limit : end_of a.halves ≡ a.halves.base + length mem2 / 2 = omega (arith, uses.same_len) in
            halves-filled named named a.halves shared qs (set qs row (with_tree_made q s.0 t refs)) laid x.is built.test (built.grows.single x.is.single) mem2 z
            (with_item a.halves.procs row (with_made p s.0 w made)) uses.same_len built.grows.more built.grows.objects new-within words-same (omega (arith, uses.moved))
            (omega (arith, uses.same_end)) (omega arith) (rw (sym limit) set-rows)
            (apart-same mem2 a.halves.procs.items row (with_made p s.0 w made) p row-less is refl
            (apart-kept x.is.test shared a.halves.mem mem2 a.halves.room.end (end_of a.halves) named a.halves.procs.items qs kept x.is.processes x.is.apart))

      -- The tree that is asked for was built by the word, and the process has so many references.
      pub record Makes (named : ℕ) (shared : List (List ℕ)) (qs : List Process) (x : Stood one_meaning named a shared qs) (t : Tree) : Type 0 where
        pub refs : ℕ
        pub process : with_made_in s.0 what t (process_at qs row) ≡ with_tree_made (process_at qs row) s.0 t refs
        pub same : refs ≡ made
        pub names : is_named named t ≡ true
        pub built : Built x.is.test a.halves.room.top used a.halves.mem mem2 shared w t

      -- The call's answer.
      pub gains : made ≤ p.refs + 1
          → ((named : ℕ) (shared : List (List ℕ)) (qs : List Process) (t : Tree) (x : Stood one_meaning named a shared qs) → IsMadeOf shared (process_at qs row) what t
          → ProcStands x.is.test shared a.halves.mem a.halves.room.end (end_of a.halves) named p (process_at qs row)
          → IsFree x.is.test a.halves.room.top (a.halves.room.top + used) → Makes named shared qs x t)
          → Gains one_meaning row s what a (of_halves a h2)
      gains most each = record {
        stays = keeps-replaced a h2 made-laid row (with_made p s.0 w made) p row-less is refl refl most uses.same_len refl refl (omega arith);
        took = record { sweeps = refl; few = omega (arith, uses.moved, uses.same_end, few, words-fit) };
        made = λ named shared qs t x m.
            let k = each named shared qs t x m (row-said named shared qs x p is) (words-free named shared qs x used few) in
            rw k.process (stood-by named (of_halves a h2) shared (set qs row (with_tree_made (process_at qs row) s.0 t k.refs)) (halves-stand named shared qs x t k.refs k.names k.same k.built));
      }
