-- What is built in a register, call by call: a register's term many times, bytes, a reference, a part of a binary, a map with a pair.
use Rattle.std.proofs.Common.{◌≡◌, ℕ, ◌+◌, ◌<◌, ◌≤◌, Bool, List, length, get_or, sym, arith, replicate, refl, ◌∙◌, ap, ◌^◌, true, false, nat_le, if◌then◌else◌, Some, None, ◌*◌}
use Rattle.std.specs.Vec.{with_item}
use Rattle.word_mem.specs.declared.ranges.Room.{Room}
use Rattle.plain_term.specs.Tree.{Tree, Pairs, pairs_len}
use Rattle.script_grammar.specs.declared.command.Reg.{Reg}
use Rattle.script_grammar.specs.declared.command.Shape.{Shape}
use Rattle.term_words.specs.Stands.{Stands}
use Rattle.term_build.specs.Taken.{IsFree}
use Rattle.term_build.specs.Grows.{Built}
use Rattle.term_build.specs.Clear.{Uses}
use Rattle.plain_machine.specs.State.{Process, register}
use Rattle.plain_machine.specs.Parts.{repeated, part_in}
use Rattle.plain_machine.specs.Tightness.{repeat_words}
use Rattle.two_halves.specs.Halves.{free_in}
use Rattle.two_halves.specs.declared.table.Proc.{Proc}
use Rattle.two_halves.proofs.Standing.Filled.{laid_out}
use Rattle.heaps_api.specs.Meaning.{CanAsk, Stood}
use Rattle.heaps_api.specs.Changing.{Gains, process_at, CanMake}
use Rattle.heaps_api.specs.declared.making.Make.TheVariants.{Same, Bytes, Ref, Pair}
use Rattle.one_space.specs.Heap.{one_meaning}
use Rattle.one_space.specs.declared.heap.OneHeap.{OneHeap}
use Rattle.heaps_api.proofs.Naming.{repeated-named, placed-named}
use Rattle.std.proofs.lemmas.List.{length-replicate}
use Rattle.plain_term.specs.Tree.Tree.{Bin, Ref as RefOf, Shared, Part, Map}
use Rattle.plain_term.specs.Measures.{bin_words}
use Rattle.one_space.proofs.Processes.Changing.{made-at}
use Rattle.one_space.proofs.Processes.Turning.{with_made}
use Rattle.std.proofs.lemmas.Option.{same_Some}
use Rattle.std.specs.Prelude.{is_some}
use Rattle.plain_term.specs.Bytes.{shared_bytes}
use Rattle.term_words.specs.Role.{always}
use Rattle.term_words.proofs.Framing.Rooms.{weaken}
use Rattle.term_order.specs.Named.{is_named}
use Rattle.term_verbs.specs.Cut.{HasPart}
use Rattle.heaps_api.specs.declared.making.Make.TheVariants as make
use Rattle.term_order.specs.Held.{HoldsTree}
use Rattle.term_maps.specs.declared.sorted.Spot.{Spot}
use Rattle.term_maps.specs.declared.sorted.Spot.TheVariants as spot
use Rattle.term_verbs.specs.declared.pairs.Place.{Place}
use Rattle.term_verbs.specs.Placed.{HasPlace, count_placed, put_at_spot}
use Rattle.heaps_api.specs.Making.{MakesPair}
use Rattle.one_space.proofs.OfHeap.Keeping.{of_halves}
use Rattle.one_space.proofs.OfHeap.Making.{gains, register-said, row-less, row-said, words-fit, words-free}

module _ (a : OneHeap) (ask : CanAsk one_meaning a) (row : ℕ) (less : row < length (one_meaning.numbers a)) (r : Reg) (mem2 : List ℕ) (z : Room)
    (p2 : Proc) (is2 : p2 ≡ get_or a.halves.procs.items row p2) (w : ℕ) where
  -- The memory after it, where the words of the room are used and so many references were made.
  abbrev made_in : ℕ → OneHeap
  made_in refs = of_halves a (laid_out a.halves mem2 z (with_item a.halves.procs row (with_made p2 r.0 w refs)))

  -- A tuple or a list of a register's term, many times.
  pub same-gains : (shape : Shape) (n : ℕ) (s : Reg) → repeat_words shape n + 0 ≤ free_in a.halves → Uses (repeat_words shape n) a.halves.room z a.halves.mem mem2
      → (p : Proc) → p ≡ get_or a.halves.procs.items row p
      → ((c : ℕ → ℕ → Bool) (shared : List (List ℕ)) (t : Tree) → IsFree c a.halves.room.top (a.halves.room.top + repeat_words shape n)
      → Stands c shared a.halves.mem (get_or p.regs s.0 0) t → Built c a.halves.room.top (repeat_words shape n) a.halves.mem mem2 shared w (repeated shape n t))
      → Gains one_meaning row r (Same shape n s) a (made_in p2.refs)
  same-gains shape n s room uses p is built =
      gains a ask row less (Same shape n s) room mem2 z (repeat_words shape n) (omega arith) uses p2 is2 r w p2.refs (omega arith) (λ named shared qs t x m said free.
      let q : Process = process_at qs row in
      let held = register-said a ask row less named shared qs x p is s.0 m.0 in
      record {
        refs = q.refs;
        process = refl;
        same = said.refs;
        names = rw m.1.1 (repeated-named named (register s.0 q) held.names shape n);
        built = rw m.1.1 (built x.is.test shared (register s.0 q) free held.standing);
      })

  -- A binary of one byte, many times, on the heap.
  pub bytes-gains : (n byte : ℕ) → 2 + bin_words n + 0 ≤ free_in a.halves → (xs : List ℕ) → xs ≡ replicate n byte → Uses (2 + bin_words (length xs)) a.halves.room z a.halves.mem mem2
      → ((c : ℕ → ℕ → Bool) (shared : List (List ℕ)) → IsFree c a.halves.room.top (a.halves.room.top + (2 + bin_words (length xs)))
      → Built c a.halves.room.top (2 + bin_words (length xs)) a.halves.mem mem2 shared w (Bin xs))
      → Gains one_meaning row r (Bytes n byte) a (made_in p2.refs)
  bytes-gains n byte room xs same uses built =
      gains a ask row less (Bytes n byte) room mem2 z (2 + bin_words (length xs)) (omega (arith, ap bin_words (ap length same ∙ length-replicate {A = ℕ} n byte))) uses p2 is2 r w p2.refs
      (omega arith) (λ named shared qs t x m said free.
      record {
        refs = (process_at qs row).refs;
        process = refl;
        same = said.refs;
        names = rw m.1.1 refl;
        built = rw (m.1.1 ∙ ap Bin (sym same)) (built x.is.test shared free);
      })

  -- A reference that the process has not made before.
  pub ref-gains : 3 ≤ free_in a.halves → Uses 3 a.halves.room z a.halves.mem mem2 → (p : Proc) → p ≡ get_or a.halves.procs.items row p
      → ((c : ℕ → ℕ → Bool) (shared : List (List ℕ)) → IsFree c a.halves.room.top (a.halves.room.top + 3)
      → Built c a.halves.room.top 3 a.halves.mem mem2 shared w (RefOf p.number (p.refs + 1)))
      → Gains one_meaning row r Ref a (made_in (p.refs + 1))
  ref-gains room uses p is built =
      let l = ask.lives in
      let own = row-said a ask row less l.named l.shared l.processes l.stood p is in
      let own2 = row-said a ask row less l.named l.shared l.processes l.stood p2 is2 in
      gains a ask row less Ref room mem2 z 3 (omega arith) uses p2 is2 r w (p.refs + 1) (omega (arith, own.refs, own2.refs)) (λ named shared qs t x m said free.
      let q : Process = process_at qs row in
      let own = row-said a ask row less named shared qs x p is in
      record {
        refs = q.refs + 1;
        process = refl;
        same = ap (λ k. k + 1) own.refs;
        names = rw m refl;
        built = rw (m, own.number, own.refs) (built x.is.test shared free);
      })

-- A process has made no more references than the count says.
pub refs-few : (a : OneHeap) (ask : CanAsk one_meaning a) (row : ℕ) → row < length (one_meaning.numbers a) → (p : Proc) → p ≡ get_or a.halves.procs.items row p → p.refs < 2 ^ 38
refs-few a ask row less p is = omega (arith, ap (λ v. v.refs) is, ask.few, made-at ask.lives.count a.halves.procs.items row p (row-less a ask row less) ask.lives.whole.made)

-- A part names nothing.
chosen-named : (n : ℕ) (b : Bool) (base u : Tree) (offset len : ℕ) → (if b then Some (Part base offset len) else None) ≡ Some u → is_named n u ≡ true
chosen-named n true base u offset len e =
    rw (sym (same_Some (Part base offset len) u e)) refl
chosen-named n false base u offset len e = absurd (none u e)
  where
    none : (z : Tree) → None ≡ Some z → ⊥
    none z f = cc

part-named : (shared : List (List ℕ)) (offset len n : ℕ) (t u : Tree) → part_in shared offset len t ≡ Some u → is_named n u ≡ true
part-named shared offset len n (Bin bytes) u e = chosen-named n (nat_le (offset + len) (length bytes)) (Bin bytes) u offset len e
part-named shared offset len n (Shared id) u e = chosen-named n (nat_le (offset + len) (length (shared_bytes shared id))) (Shared id) u offset len e
part-named shared offset len n (Part base start whole) u e = chosen-named n (nat_le (offset + len) whole) base u (start + offset) len e
part-named shared offset len n t u e = absurd (none u e)
  where
    none : (z : Tree) → None ≡ Some z → ⊥
    none z f = cc

module _ (a : OneHeap) (ask : CanAsk one_meaning a) (row : ℕ) (less : row < length (one_meaning.numbers a)) (s : Reg) (offset len : ℕ)
    (p : Proc) (is : p ≡ get_or a.halves.procs.items row p) where
  -- The register's binary has the part.
  pub part-there : CanMake one_meaning row (make.Part s offset len) a → HasPart a.halves.mem (get_or p.regs s.0 0) offset len
  part-there can =
      let t : Tree = register s.0 (process_at can.processes row) in
      let held = register-said a ask row less can.named can.shared can.processes can.stood p is s.0 can.makes.0 in
      record {
        shared = can.shared;
        tree = t;
        standing = (weaken can.stood.is.test always a.halves.mem (λ i k e. refl)).each can.shared (get_or p.regs s.0 0) t held.standing;
        has = ap is_some can.makes.1;
      }

  pub part-gains : (r : Reg) (mem2 : List ℕ) (z : Room) (p2 : Proc) (is2 : p2 ≡ get_or a.halves.procs.items row p2) (w : ℕ) → 5 ≤ free_in a.halves → Uses 5 a.halves.room z a.halves.mem mem2
      → ((c : ℕ → ℕ → Bool) (shared : List (List ℕ)) (t u : Tree) → IsFree c a.halves.room.top (a.halves.room.top + 5)
      → Stands c shared a.halves.mem (get_or p.regs s.0 0) t → part_in shared offset len t ≡ Some u → Built c a.halves.room.top 5 a.halves.mem mem2 shared w u)
      → Gains one_meaning row r (make.Part s offset len) a (made_in a ask row less r mem2 z p2 is2 w p2.refs)
  part-gains r mem2 z p2 is2 w room uses built =
      gains a ask row less (make.Part s offset len) room mem2 z 5 (omega arith) uses p2 is2 r w p2.refs (omega arith) (λ named shared qs t x m said free.
      let q : Process = process_at qs row in
      record {
        refs = q.refs;
        process = refl;
        same = said.refs;
        names = part-named shared offset len named (register s.0 q) t m.1;
        built = built x.is.test shared (register s.0 q) t free (register-said a ask row less named shared qs x p is s.0 m.0).standing m.1;
      })

-- A place is one key more at most.
count-below : (x : Spot) (n : ℕ) → count_placed x n ≤ n + 1
count-below (spot.Same i) n = omega arith
count-below (spot.New i) n = omega arith

module _ (a : OneHeap) (ask : CanAsk one_meaning a) (row : ℕ) (less : row < length (one_meaning.numbers a)) (s : Reg) (place : Place) (k v : Reg)
    (p : Proc) (is : p ≡ get_or a.halves.procs.items row p) (room : 6 + 2 * place.keys + 0 ≤ free_in a.halves) where
  -- The words that a map of so many pairs takes with the pair.
  abbrev with_pair : ℕ → ℕ
  with_pair n = 4 + 2 * count_placed place.spot n

  module _ (named : ℕ) (shared : List (List ℕ)) (qs : List Process) (x : Stood one_meaning named a shared qs) (t : Tree) (m : MakesPair (process_at qs row) s place k v t) where
    held-map : HoldsTree x.is.test shared a.halves.mem named (get_or p.regs s.0 0) (Map m.pairs)
    held-map = rw m.map at (register-said a ask row less named shared qs x p is s.0 m.registers.0)

    few-there : with_pair (pairs_len m.pairs) ≤ 6 + 2 * place.keys
    few-there = omega (arith, m.count, count-below place.spot (pairs_len m.pairs))

  -- The register holds a map that has the place, and there is room for another.
  pub place-there : CanMake one_meaning row (Pair s place k v) a → HasPlace a.halves.room a.halves.mem (get_or p.regs s.0 0) place.spot
  place-there can =
      let m = can.makes in
      let held = held-map can.named can.shared can.processes can.stood can.tree m in
      record {
        shared = can.shared;
        pairs = m.pairs;
        standing = (weaken can.stood.is.test always a.halves.mem (λ i j e. refl)).each can.shared (get_or p.regs s.0 0) (Map m.pairs) held.standing;
        inside = m.inside;
        few = m.few;
        fits = omega (arith, words-fit a ask row less (Pair s place k v) room, few-there can.named can.shared can.processes can.stood can.tree m);
      }

  pub pair-gains : CanMake one_meaning row (Pair s place k v) a → (r : Reg) (mem2 : List ℕ) (z : Room)
      → ((c : ℕ → ℕ → Bool) (shared : List (List ℕ)) (ps : Pairs) → Stands c shared a.halves.mem (get_or p.regs s.0 0) (Map ps)
      → Uses (with_pair (pairs_len ps)) a.halves.room z a.halves.mem mem2)
      → (p2 : Proc) (is2 : p2 ≡ get_or a.halves.procs.items row p2) (w : ℕ)
      → ((c : ℕ → ℕ → Bool) (shared : List (List ℕ)) (ps : Pairs) (t u : Tree) → IsFree c a.halves.room.top (a.halves.room.top + with_pair (pairs_len ps))
      → Stands c shared a.halves.mem (get_or p.regs s.0 0) (Map ps) → Stands c shared a.halves.mem (get_or p.regs k.0 0) t
      → Stands c shared a.halves.mem (get_or p.regs v.0 0) u
      → Built c a.halves.room.top (with_pair (pairs_len ps)) a.halves.mem mem2 shared w (Map (put_at_spot place.spot t u ps)))
      → Gains one_meaning row r (Pair s place k v) a (made_in a ask row less r mem2 z p2 is2 w p2.refs)
  pair-gains can r mem2 z uses p2 is2 w built =
      let here = can.makes in
      let used : Uses (with_pair place.keys) a.halves.room z a.halves.mem mem2 =
      rw here.count (uses can.stood.is.test can.shared here.pairs (held-map can.named can.shared can.processes can.stood can.tree here).standing) in
      gains a ask row less (Pair s place k v) room mem2 z (with_pair place.keys) (omega (arith, count-below place.spot place.keys)) used p2 is2 r w p2.refs (omega arith)
      (λ named shared qs t x m said free.
      let q : Process = process_at qs row in
      let held = held-map named shared qs x t m in
      let key = register-said a ask row less named shared qs x p is k.0 m.registers.1.0 in
      let value = register-said a ask row less named shared qs x p is v.0 m.registers.1.1 in
      record {
        refs = q.refs;
        process = refl;
        same = said.refs;
        names = rw m.tree (placed-named named (register k.0 q) (register v.0 q) key.names value.names place.spot m.pairs held.names);
        built = rw (m.tree, m.count) (built x.is.test shared m.pairs (register k.0 q) (register v.0 q)
            (words-free a ask row less (Pair s place k v) room named shared qs x (with_pair (pairs_len m.pairs)) (few-there named shared qs x t m)) held.standing key.standing value.standing);
      })
