-- A word that came into two halves with an object goes to a register: the tables of records have room for one more, and what stands
-- then, with a binary in a record of its own and with a fun.
use Rattle.std.proofs.Common.{ℕ, ◌≤◌, List, refl, arith, ◌≡◌, ◌*◌, ◌/◌, ◌<◌, Bool, true, [], ◌∷◌, length, get_or, set, sym, ◌∙◌, inl, inr, Vec, ◌+◌, ◌++◌, replicate, ap, suc, nat_lt, max, map}
use Rattle.plain_machine.specs.State.{Process, with_register, register}
use Rattle.two_halves.specs.Halves.{HalvesStand, end_of, IsLaid, free_in, half_of}
use Rattle.two_halves.specs.declared.halves.Halves.{Halves}
use Rattle.two_halves.proofs.Standing.Keeping.{procs-on}
use Rattle.heaps_api.specs.Meaning.{Stood, CanAsk}
use Rattle.one_space.specs.Heap.{one_meaning}
use Rattle.one_space.specs.declared.heap.OneHeap.{OneHeap}
use Rattle.heaps_api.proofs.Naming.{named-more}
use Rattle.std.specs.Vec.{vec_len, vec_capacity, with_item}
use Rattle.std.proofs.lemmas.Bool.{and_from, lt-ltb}
use Rattle.std.proofs.lemmas.List.{length-map}
use Rattle.plain_term.specs.Tree.{Tree, Trees}
use Rattle.plain_machine.specs.declared.costs.TheConstants.{RECORD_COST}
use Rattle.term_words.specs.Counted.{In, total}
use Rattle.term_words.proofs.Totals.Members.{both-total}
use Rattle.term_order.specs.Named.{is_named, are_named}
use Rattle.record_move.specs.Copies.{record_words}
use Rattle.two_halves.specs.Adding.{Gets, Adds, IsNamedIn}
use Rattle.two_halves.specs.declared.table.Proc.{Proc}
use Rattle.two_halves.proofs.Standing.Apart.{apart-same}
use Rattle.two_halves.proofs.Standing.Filled.{laid_out}
use Rattle.one_space.proofs.Processes.Turning.{register-set, with_word}
use Rattle.std.specs.declared.alloc.Global.{Global}
use Rattle.plain_term.specs.Tree.Tree.{Shared, Fun}
use Rattle.plain_term.specs.Measures.{bin_words}
use Rattle.script_grammar.specs.declared.command.Reg.{Reg}
use Rattle.heaps_api.specs.Changing.{GainsBin, KeepsRows, process_at, GainsFun, register_trees}
use Rattle.one_space.proofs.Processes.Changing.{within-grown}
use Rattle.plain_term.specs.declared.item.Item.{Item}
use Rattle.plain_term.specs.declared.item.Item.TheVariants as item
use Rattle.term_order.specs.Held.{HoldsTree}
use Rattle.term_words.specs.Stands.{AllStand}
use Rattle.space_api.specs.Calls.{IsEnv}
use Rattle.one_space.specs.Gathered.{held_word}
use Rattle.one_space.proofs.OfHeap.Keeping.{keeps-replaced, laid-left, of_halves, places-moved, row-inside, rows-left, stood-by}
use Rattle.one_space.proofs.OfHeap.Making.{register-said, row-said}

module _ (named more : ℕ) (up : named ≤ more) where
  pub halves-widened : (h : Halves) (shared : List (List ℕ)) (qs : List Process) → HalvesStand named h shared qs → HalvesStand more h shared qs
  halves-widened h shared qs x = record {
    test = x.test;
    single = x.single;
    lie = x.lie;
    chained = x.chained;
    linked = x.linked;
    links = x.links;
    inside = x.inside;
    every = x.every;
    records = x.records;
    fun_names = λ v i. omega (arith, x.fun_names v i, up);
    processes = procs-on x.test x.test shared h.mem h.mem named more h.room.end h.room.end (end_of h) (λ w t held. record { standing = held.standing; names = named-more named more up t held.names })
        (λ q above below bare. refl) (λ q k above below bare e. bare k e) (omega arith) h.procs.items qs x.processes;
    apart = x.apart;
  }

  pub stood-widened : (h : OneHeap) (shared : List (List ℕ)) (qs : List Process) → Stood one_meaning named h shared qs → Stood one_meaning more h shared qs
  stood-widened h shared qs x = record { is = halves-widened h.halves shared qs x.is; rows = x.rows; registers = x.registers }

-- The half with a word in a register.
abbrev pub worded : Halves → (row : ℕ) → Proc → (r w : ℕ) → Halves
worded h row p r w = laid_out h h.mem h.room (with_item h.procs row (with_word p r w))

-- Records have four words each at the least.
pub total-least : (f : ℕ → ℕ) (vs : List ℕ) → ((u : ℕ) → In u vs → 4 ≤ f u) → 4 * length vs ≤ total f vs
total-least f [] least = omega arith
total-least f (v ∷ vs) least = omega (arith, least v (inl refl), total-least f vs (λ u i. least u (inr i)))

-- Where ten words are free the tables of records have room for one more.
module _ (named : ℕ) (h : Halves) (shared : List (List ℕ)) (qs : List Process) (x : HalvesStand named h shared qs) (laid : IsLaid h) (ten : 10 ≤ free_in h) where
  bins-least : 4 * length h.bins.items ≤ total (record_words h.mem) h.bins.items
  bins-least = total-least (record_words h.mem) h.bins.items (λ u i. omega (arith, (x.records.each_bin u i).is.header))

  funs-least : 4 * length h.funs.items ≤ total (record_words h.mem) h.funs.items
  funs-least = total-least (record_words h.mem) h.funs.items (λ u i. omega (arith, (x.records.each_fun u i).is.header))

  pub bin-fits : half_of h / RECORD_COST ≤ vec_capacity h.bins → vec_len h.bins < vec_capacity h.bins
  bin-fits most = omega (arith, bins-least, both-total (record_words h.mem) h.bins.items h.funs.items, laid.fits, laid.front, laid.order, ten, most, h.bins.ok.0)

  pub fun-fits : half_of h / RECORD_COST ≤ vec_capacity h.funs → vec_len h.funs < vec_capacity h.funs
  fun-fits most = omega (arith, funs-least, both-total (record_words h.mem) h.bins.items h.funs.items, laid.fits, laid.front, laid.order, ten, most, h.funs.ok.0)

-- Something came into the half, and its word went to a register of this row.
module _ (a : OneHeap) (ask : CanAsk one_meaning a) (row : ℕ) (less : row < length (one_meaning.numbers a)) (h : Halves) (adds : Adds a.halves h)
    (p : Proc) (is : p ≡ get_or h.procs.items row p) (r w : ℕ) where
  abbrev put : Proc
  put = with_word p r w

  -- The memory after it.
  abbrev pub worded_in : OneHeap
  worded_in = of_halves a (worded h row p r w)

  added-within : row < length h.procs.items
  added-within = rw adds.procs (row-inside a row less)

  pub worded-keeps : KeepsRows one_meaning a worded_in
  worded-keeps =
      keeps-replaced a (worded h row p r w) (laid-left h adds.laid (with_item h.procs row put) (omega (arith, places-moved h.procs row put p added-within is))) row put p
      (row-inside a row less) (is ∙ ap (λ (z : Vec Proc Global). get_or z.items row p) adds.procs) (ap (λ (z : Vec Proc Global). with_item z row put) adds.procs) refl (omega arith)
      adds.same_len adds.bins adds.funs (omega (arith, adds.sweeps))

  -- The memory stands for the processes with the tree in the register.
  pub worded-stood : (named : ℕ) (shared : List (List ℕ)) (qs : List Process) (t : Tree) → Gets named h shared qs w t → is_named named t ≡ true
      → Stood one_meaning named worded_in shared (set qs row (with_register r t (process_at qs row)))
  worded-stood named shared qs t g names =
      let ps = set qs row (with_register r t (process_at qs row)) in
      stood-by named worded_in shared ps (rows-left h adds.laid (with_item h.procs row put) named shared qs ps g.stands
      (register-set g.stands.test shared h.mem h.room.end (end_of h) named h.procs.items qs row p added-within is g.stands.processes r w t (record { standing = g.made; names = names }))
      (apart-same h.mem h.procs.items row put p added-within is refl g.stands.apart))

-- The call's answer.
pub bin-gains : (a : OneHeap) (ask : CanAsk one_meaning a) (row : ℕ) (less : row < length (one_meaning.numbers a)) (h : Halves) (adds : Adds a.halves h)
    (p : Proc) (is : p ≡ get_or h.procs.items row p) (r : Reg) (w serial len byte : ℕ)
    → ((named : ℕ) (shared : List (List ℕ)) (qs : List Process) → HalvesStand named a.halves shared qs → serial ≡ length shared + 1
    → Gets named h (shared ++ replicate len byte ∷ []) qs w (Shared serial))
    → free_in a.halves ≤ free_in h + (10 + bin_words len)
    → GainsBin one_meaning row r serial len byte a (worded_in a ask row less h adds p is r.0 w)
bin-gains a ask row less h adds p is r w serial len byte gets uses = record {
  stays = worded-keeps a ask row less h adds p is r.0 w;
  took = record { sweeps = adds.sweeps; few = omega (arith, uses) };
  made = λ named shared qs x next.
      worded-stood a ask row less h adds p is r.0 w named (shared ++ replicate len byte ∷ []) qs (Shared serial) (gets named shared qs x.is next) refl;
  within = λ named shared qs x.
      within-grown x.is.test shared (replicate len byte ∷ []) a.halves.mem a.halves.room.end (end_of a.halves) named a.halves.procs.items qs x.is.processes;
}

-- The registers of an environment are those that its items name.
pub same-held : (rs ss : List ℕ) → map item.Held rs ≡ map item.Held ss → rs ≡ ss
same-held [] [] e = refl
same-held [] (s ∷ ss) e = absurd cc
same-held (r ∷ rs) [] e = absurd cc
same-held (r ∷ rs) (s ∷ ss) e = ap (λ z. z ∷ rs) (head-of r s (map item.Held rs) (map item.Held ss) e)
    ∙ ap (λ z. s ∷ z) (same-held rs ss (tail-of (item.Held r) (item.Held s) (map item.Held rs) (map item.Held ss) e))
  where
    tail-of : (a b : Item) (xs ys : List Item) → (a ∷ xs) ≡ (b ∷ ys) → xs ≡ ys
    tail-of a b xs ys e = cc

    head-of : (a b : ℕ) (xs ys : List Item) → (item.Held a ∷ xs) ≡ (item.Held b ∷ ys) → a ≡ b
    head-of a b xs ys e = cc

module _ (c : ℕ → ℕ → Bool) (shared : List (List ℕ)) (mem : List ℕ) (named : ℕ) (regs : List ℕ) (q : Process)
    (held : (r : ℕ) → r < 16 → HoldsTree c shared mem named (get_or regs r 0) (register r q)) where
  pub env-stands : (rs : List ℕ) → ((i d : ℕ) → i < length rs → get_or rs i d < 16) → AllStand c shared mem (map (λ x. held_word regs x) (map item.Held rs)) (register_trees q rs)
  unfolding AllStand
  env-stands [] below = tt
  env-stands (r ∷ rs) below = ((held r (below 0 0 (omega arith))).standing, env-stands rs (λ i d less. below (suc i) d (omega (arith, less))))

  pub env-named : (rs : List ℕ) → ((i d : ℕ) → i < length rs → get_or rs i d < 16) → are_named named (register_trees q rs) ≡ true
  env-named [] below = refl
  env-named (r ∷ rs) below =
      and_from (is_named named (register r q)) (are_named named (register_trees q rs)) (held r (below 0 0 (omega arith))).names
      (env-named rs (λ i d less. below (suc i) d (omega (arith, less))))

module _ (a : OneHeap) (ask : CanAsk one_meaning a) (name : ℕ) where
  -- The memory stands with a number that is above the name.
  pub fun-named : IsNamedIn a.halves name
  fun-named =
      let l = ask.lives in
      record {
        named = max l.named (name + 1);
        shared = l.shared;
        processes = l.processes;
        stands = halves-widened l.named (max l.named (name + 1)) (omega arith) a.halves l.shared l.processes l.stood.is;
        above = omega arith;
      }

  module _ (row : ℕ) (less : row < length (one_meaning.numbers a)) (r : Reg) (arity : ℕ) (env : List Item) (is_env : IsEnv env)
      (p1 : Proc) (is1 : p1 ≡ get_or a.halves.procs.items row p1) (ws : List ℕ) (words_are : ws ≡ map (λ z. held_word p1.regs z) env) (h4 : Halves) (adds : Adds a.halves h4)
      (uses : free_in a.halves ≤ free_in h4 + (10 + length ws)) (p2 : Proc) (is2 : p2 ≡ get_or h4.procs.items row p2) (w : ℕ)
      (gets : (named : ℕ) (shared : List (List ℕ)) (qs : List Process) (y : HalvesStand named a.halves shared qs) (ts : Trees) → name < named → AllStand y.test shared a.halves.mem ws ts
      → Gets named h4 shared qs w (Fun name arity p1.number ts)) where
    abbrev pub fun_in : OneHeap
    fun_in = worded_in a ask row less h4 adds p2 is2 r.0 w

    module _ (named more : ℕ) (shared : List (List ℕ)) (qs : List Process) (rs : List ℕ) (x : Stood one_meaning named a shared qs) (up : named ≤ more) (above : name < more)
        (items : env ≡ map item.Held rs) where
      abbrev q : Process
      q = process_at qs row

      abbrev ts : Trees
      ts = register_trees q rs

      below : (i d : ℕ) → i < length rs → get_or rs i d < 16
      below =
          rw (sym (same-held is_env.registers rs (sym is_env.items ∙ items))) is_env.held

      wide : Stood one_meaning more a shared qs
      wide = stood-widened named more up a shared qs x

      held : (k : ℕ) → k < 16 → HoldsTree wide.is.test shared a.halves.mem more (get_or p1.regs k 0) (register k q)
      held k small = register-said a ask row less more shared qs wide p1 is1 k small

      all : AllStand wide.is.test shared a.halves.mem ws ts
      all =
          rw (sym (words_are ∙ ap (map (λ z. held_word p1.regs z)) items)) at (env-stands wide.is.test shared a.halves.mem more p1.regs q held rs below)

      told : is_named more (Fun name arity p1.number ts) ≡ true
      told = and_from (nat_lt name more) (are_named more ts) (lt-ltb name more above) (env-named wide.is.test shared a.halves.mem more p1.regs q held rs below)

      fun-stood : Stood one_meaning more fun_in shared (set qs row (with_register r.0 (Fun name arity q.number ts) q))
      fun-stood =
          rw (sym (row-said a ask row less more shared qs wide p1 is1).number) at
          (worded-stood a ask row less h4 adds p2 is2 r.0 w more shared qs (Fun name arity p1.number ts) (gets more shared qs wide.is ts above all) told)

    pub fun-gains : GainsFun one_meaning row r name arity env a fun_in
    fun-gains = record {
      stays = worded-keeps a ask row less h4 adds p2 is2 r.0 w;
      took = record { sweeps = adds.sweeps; few = omega (arith, uses, ap length words_are ∙ length-map env (λ z. held_word p1.regs z)) };
      made = λ named more shared qs rs x up above items. fun-stood named more shared qs rs x up above items;
    }
