-- Proper trees that live: what keeps them when a process changes, comes or goes, and names are added.
use Rattle.std.proofs.Common.{◌≡◌, ℕ, zero, suc, ◌<◌, nat_lt, length, lt-ltb, Bool, true, false, not, cond, ◌==◌, List, [], ◌∷◌, ◌++◌, map, filter, replicate, set, None, Some, refl, sym, subst, append-nil}
use Rattle.std.specs.Prelude.{flat_map}
use Rattle.std.proofs.lemmas.Bool.{and_from}
use Rattle.std.specs.List.{find}
use Rattle.plain_term.specs.Tree.{Tree}
use Rattle.plain_term.specs.Tree.{Tree as tree}
use Rattle.plain_term.specs.Beyond.{is_beyond}
use Rattle.plain_term.specs.Proper.{is_proper, are_proper}
use Rattle.script_grammar.specs.declared.limits.TheConstants.{REGISTERS, LEVELS}
use Rattle.script_grammar.specs.Written.{Term, Terms}
use Rattle.script_grammar.specs.Written.Terms.{end, ◌▹◌}
use Rattle.script_grammar.specs.Grammar.{MayStand, IsBuiltTerm}
use Rattle.script_grammar.specs.Names.{Parsed, atoms_of, held_terms}
use Rattle.plain_machine.specs.Made.{tree_of, trees_of_terms}
use Rattle.plain_machine.specs.State.{Process as Live, Area, State, HasNames, fresh_process, with_register, with_queued}
use Rattle.plain_machine.specs.Tightness.{held_trees, living_trees}
use Rattle.plain_machine.specs.Flaws.{is_wide, is_big, flaw_of}
use Rattle.plain_machine.specs.Step.{written_tree, written_flaw, env_of}
use Rattle.plain_machine.specs.Laws.{AreProper, AreWithin, HoldsProper, queued_trees}
use Rattle.plain_machine.proofs.Properly.Growing.{proper-grown}
use Rattle.plain_machine.proofs.Properly.Making.{HaveNumbers, Extends, all-more-proper, all-more-within, made-more, made-proper, held-proper}

-- more names stand after those that there are
all-grown : (names more shared extra : List (List ℕ)) (ts : List Tree) → AreProper names shared ts → AreProper (names ++ more) (shared ++ extra) ts
all-grown names more shared extra [] h = tt
all-grown names more shared extra (t ∷ ts) h = (proper-grown names more shared extra t h.0, all-grown names more shared extra ts h.1)

names-grown : (names more shared : List (List ℕ)) (ts : List Tree) → AreProper names shared ts → AreProper (names ++ more) shared ts
names-grown names more shared ts h = let P : List (List ℕ) → Type 0 = λ z. AreProper (names ++ more) z ts in
    subst P (append-nil shared) (all-grown names more shared [] ts h)

-- the trees that wait in the queues of processes
abbrev pub queues : List Live → List Tree
queues qs = flat_map (λ (q : Live). q.queue) qs

module _ (shared : List (List ℕ)) where
  pub joined-within : (xs ys : List Tree) → AreWithin shared xs → AreWithin shared ys → AreWithin shared (xs ++ ys)
  joined-within [] ys h k = k
  joined-within (x ∷ xs) ys h k = (h.0, joined-within xs ys h.1 k)

  pub split-within : (xs ys : List Tree) → AreWithin shared (xs ++ ys) → AreWithin shared xs × AreWithin shared ys
  split-within [] ys h = (tt, h)
  split-within (x ∷ xs) ys h = let k = split-within xs ys h.1 in ((h.0, k.0), k.1)

  -- a process in the place of the one with its number
  pub put-within : (p : Live) (qs : List Live) → AreWithin shared p.queue → AreWithin shared (queues qs) → AreWithin shared (queues (map (λ q. cond (q.number == p.number) p q) qs))
  put-within p [] h k = tt
  put-within p (q ∷ qs) h k = let l = split-within q.queue (queues qs) k in
      joined-within (cond (q.number == p.number) p q).queue (queues (map (λ q. cond (q.number == p.number) p q) qs)) (at (q.number == p.number) l.0) (put-within p qs h l.1)
    where
      at : (b : Bool) → AreWithin shared q.queue → AreWithin shared (cond b p q).queue
      at true m = h
      at false m = m

  -- a tree more in the queue of the process with a number
  pub sent-within : (n : ℕ) (t : Tree) (qs : List Live) → AreWithin shared (t ∷ []) → AreWithin shared (queues qs)
      → AreWithin shared (queues (map (with_queued n t) qs))
  sent-within n t [] h k = tt
  sent-within n t (q ∷ qs) h k = let l = split-within q.queue (queues qs) k in
      joined-within (with_queued n t q).queue (queues (map (with_queued n t) qs))
      (at (q.number == n) l.0) (sent-within n t qs h l.1)
    where
      at : (b : Bool) → AreWithin shared q.queue → AreWithin shared (cond b (record q { queue = q.queue ++ t ∷ [] }) q).queue
      at true m = joined-within q.queue (t ∷ []) m h
      at false m = m

  -- one process less
  pub gone-within : (n : ℕ) (qs : List Live) → AreWithin shared (queues qs) → AreWithin shared (queues (filter (λ p. not (p.number == n)) qs))
  gone-within n [] k = tt
  gone-within n (q ∷ qs) k = let l = split-within q.queue (queues qs) k in at (not (q.number == n)) l.0 (gone-within n qs l.1)
    where
      at : (b : Bool) → AreWithin shared q.queue → AreWithin shared (queues (filter (λ p. not (p.number == n)) qs))
          → AreWithin shared (queues (cond b (q ∷ filter (λ p. not (p.number == n)) qs) (filter (λ p. not (p.number == n)) qs)))
      at true a b = joined-within q.queue (queues (filter (λ p. not (p.number == n)) qs)) a b
      at false a b = b

  -- one process more
  pub spawned-within : (n : ℕ) (qs : List Live) → AreWithin shared (queues qs) → AreWithin shared (queues (qs ++ fresh_process n ∷ []))
  spawned-within n [] k = tt
  spawned-within n (q ∷ qs) k = let l = split-within q.queue (queues qs) k in joined-within q.queue (queues (qs ++ fresh_process n ∷ [])) l.0 (spawned-within n qs l.1)

module _ (names shared : List (List ℕ)) where
  pub joined-proper : (xs ys : List Tree) → AreProper names shared xs → AreProper names shared ys → AreProper names shared (xs ++ ys)
  joined-proper [] ys h k = k
  joined-proper (x ∷ xs) ys h k = (h.0, joined-proper xs ys h.1 k)

  pub split-proper : (xs ys : List Tree) → AreProper names shared (xs ++ ys) → AreProper names shared xs × AreProper names shared ys
  split-proper [] ys h = (tt, h)
  split-proper (x ∷ xs) ys h = let k = split-proper xs ys h.1 in ((h.0, k.0), k.1)

  nils-proper : (n : ℕ) → AreProper names shared (replicate n tree.Nil)
  nils-proper zero = tt
  nils-proper (suc n) = (refl, nils-proper n)

  pub set-proper : (ts : List Tree) (k : ℕ) (t : Tree) → AreProper names shared ts → is_proper names shared t ≡ true → AreProper names shared (set ts k t)
  set-proper [] k t h e = tt
  set-proper (u ∷ ts) zero t h e = (e, h.1)
  set-proper (u ∷ ts) (suc k) t h e = (h.0, set-proper ts k t h.1 e)

  -- what a process holds, by its parts
  pub record Holds (q : Live) : Type 0 where
    pub registers : AreProper names shared q.registers
    pub stack : AreProper names shared q.stack
    pub queue : AreProper names shared q.queue
    pub within : AreWithin shared q.queue

  pub holds : (q : Live) → AreProper names shared (held_trees q) → AreWithin shared q.queue → Holds q
  holds q h w = let k = split-proper q.registers (q.stack ++ q.queue) h in
      let l = split-proper q.stack q.queue k.1 in record { registers = k.0; stack = l.0; queue = l.1; within = w }

  held : (q : Live) → Holds q → AreProper names shared (held_trees q)
  held q h = joined-proper q.registers (q.stack ++ q.queue) h.registers (joined-proper q.stack q.queue h.stack h.queue)

  fresh-proper : (n : ℕ) → AreProper names shared (held_trees (fresh_process n))
  fresh-proper n = held (fresh_process n) (record { registers = nils-proper REGISTERS; stack = tt; queue = tt; within = tt })

  -- the process with a number
  pub found-proper : (n : ℕ) (qs : List Live) (q : Live) → AreProper names shared (flat_map held_trees qs) → AreWithin shared (queues qs)
      → find (λ p. p.number == n) qs ≡ Some q → Holds q
  found-proper n [] q h w e = absurd (cc)
  found-proper n (p ∷ qs) q h w e =
      at (p.number == n) e (λ f. found-proper n qs q ((split-proper (held_trees p) (flat_map held_trees qs) h).1) ((split-within shared p.queue (queues qs) w).1) f)
    where
      at : (b : Bool) → cond b (Some p) (find (λ p. p.number == n) qs) ≡ Some q → (find (λ p. p.number == n) qs ≡ Some q → Holds q) → Holds q
      at true e k = let i : p ≡ q = cc in subst Holds i (holds p ((split-proper (held_trees p) (flat_map held_trees qs) h).0) ((split-within shared p.queue (queues qs) w).0))
      at false e k = k e

  -- a process in the place of the one with its number
  put-proper : (p : Live) (qs : List Live) → Holds p → AreProper names shared (flat_map held_trees qs)
      → AreProper names shared (flat_map held_trees (map (λ q. cond (q.number == p.number) p q) qs))
  put-proper p [] h k = tt
  put-proper p (q ∷ qs) h k = let l = split-proper (held_trees q) (flat_map held_trees qs) k in
      joined-proper (held_trees (cond (q.number == p.number) p q)) (flat_map held_trees (map (λ q. cond (q.number == p.number) p q) qs))
      (at (q.number == p.number) l.0) (put-proper p qs h l.1)
    where
      at : (b : Bool) → AreProper names shared (held_trees q) → AreProper names shared (held_trees (cond b p q))
      at true m = held p h
      at false m = m

  -- a tree more in the queue of the process with a number
  pub sent-proper : (n : ℕ) (t : Tree) (qs : List Live) → is_proper names shared t ≡ true → AreProper names shared (flat_map held_trees qs)
      → AreProper names shared (flat_map held_trees (map (with_queued n t) qs))
  sent-proper n t [] h k = tt
  sent-proper n t (q ∷ qs) h k = let l = split-proper (held_trees q) (flat_map held_trees qs) k in
      joined-proper (held_trees (with_queued n t q))
      (flat_map held_trees (map (with_queued n t) qs))
      (at (q.number == n) l.0) (sent-proper n t qs h l.1)
    where
      at : (b : Bool) → AreProper names shared (held_trees q) → AreProper names shared (held_trees (cond b (record q { queue = q.queue ++ t ∷ [] }) q))
      at true m =
          let a = split-proper q.registers (q.stack ++ q.queue) m in
          let b = split-proper q.stack q.queue a.1 in
          joined-proper q.registers (q.stack ++ (q.queue ++ t ∷ [])) a.0
          (joined-proper q.stack (q.queue ++ t ∷ []) b.0 (joined-proper q.queue (t ∷ []) b.1 (h, tt)))
      at false m = m

  -- what waits is proper where all that is held is
  pub queues-proper : (qs : List Live) → AreProper names shared (flat_map held_trees qs) → AreProper names shared (queues qs)
  queues-proper [] k = tt
  queues-proper (q ∷ qs) k =
      let l = split-proper (held_trees q) (flat_map held_trees qs) k in
      let a = split-proper q.registers (q.stack ++ q.queue) l.0 in
      joined-proper q.queue (queues qs) ((split-proper q.stack q.queue a.1).1) (queues-proper qs l.1)

  -- one process less
  pub gone-proper : (n : ℕ) (qs : List Live) → AreProper names shared (flat_map held_trees qs) → AreProper names shared (flat_map held_trees (filter (λ p. not (p.number == n)) qs))
  gone-proper n [] k = tt
  gone-proper n (q ∷ qs) k = let l = split-proper (held_trees q) (flat_map held_trees qs) k in at (not (q.number == n)) l.0 (gone-proper n qs l.1)
    where
      at : (b : Bool) → AreProper names shared (held_trees q) → AreProper names shared (flat_map held_trees (filter (λ p. not (p.number == n)) qs))
          → AreProper names shared (flat_map held_trees (cond b (q ∷ filter (λ p. not (p.number == n)) qs) (filter (λ p. not (p.number == n)) qs)))
      at true a b = joined-proper (held_trees q) (flat_map held_trees (filter (λ p. not (p.number == n)) qs)) a b
      at false a b = b

  -- one process more
  pub spawned-proper : (n : ℕ) (qs : List Live) → AreProper names shared (flat_map held_trees qs) → AreProper names shared (flat_map held_trees (qs ++ fresh_process n ∷ []))
  spawned-proper n [] k = joined-proper (held_trees (fresh_process n)) [] (fresh-proper n) tt
  spawned-proper n (q ∷ qs) k = let l = split-proper (held_trees q) (flat_map held_trees qs) k in
      joined-proper (held_trees q) (flat_map held_trees (qs ++ fresh_process n ∷ [])) l.0 (spawned-proper n qs l.1)

-- the trees that live before a line, with the names after it
pub record Before (s : State) (names : List (List ℕ)) : Type 0 where
  pub held : AreProper names s.shared (flat_map held_trees s.processes)
  pub literals : AreProper names s.shared (flat_map (λ (a : Area). a.literals) s.areas)
  pub within : AreWithin s.shared (queued_trees s)

pub before : (s : State) (names : List (List ℕ)) → HasNames s names → HoldsProper s → Before s names
before s names m h =
    let P : List (List ℕ) → Type 0 = λ z. AreProper z s.shared (living_trees s) in
    let k = split-proper names s.shared (flat_map held_trees s.processes) (flat_map (λ (a : Area). a.literals) s.areas)
    (subst P (sym m.are) (names-grown s.names m.more s.shared (living_trees s) h.proper)) in
    record { held = k.0; literals = k.1; within = h.within }

-- the trees of these processes and areas are proper, and no message is beyond the walk limit
pub record Living (names shared : List (List ℕ)) (qs : List Live) (areas : List Area) : Type 0 where
  pub proper : AreProper names shared (flat_map held_trees qs ++ flat_map (λ (a : Area). a.literals) areas)
  pub within : AreWithin shared (queues qs)

pub lives : (s : State) → Living s.names s.shared s.processes s.areas → HoldsProper s
lives s l = record { proper = l.proper; within = l.within }

pub all-live : (names shared : List (List ℕ)) (qs : List Live) (areas : List Area) → AreProper names shared (flat_map held_trees qs)
    → AreProper names shared (flat_map (λ (a : Area). a.literals) areas) → AreWithin shared (queues qs) → Living names shared qs areas
all-live names shared qs areas h k w = record { proper = joined-proper names shared (flat_map held_trees qs) (flat_map (λ (a : Area). a.literals) areas) h k; within = w }

module _ (s : State) (names : List (List ℕ)) (b : Before s names) where
  -- all as before
  pub same-live : Living names s.shared s.processes s.areas
  same-live = all-live names s.shared s.processes s.areas b.held b.literals b.within

  -- a process in its place, and the rest as before
  pub in-place : (q : Live) → Holds names s.shared q → Living names s.shared (map (λ r. cond (r.number == q.number) q r) s.processes) s.areas
  in-place q h = all-live names s.shared (map (λ r. cond (r.number == q.number) q r) s.processes) s.areas
      (put-proper names s.shared q s.processes h b.held) b.literals (put-within s.shared q s.processes h.within b.within)

  -- a tree in a register, and the rest as before
  pub in-register : (q : Live) (r : ℕ) (t : Tree) → Holds names s.shared q → is_proper names s.shared t ≡ true
      → Living names s.shared (map (λ u. cond (u.number == q.number) (with_register r t q) u) s.processes) s.areas
  in-register q r t h p =
      in-place (with_register r t q) (record { registers = set-proper names s.shared q.registers r t h.registers p; stack = h.stack; queue = h.queue; within = h.within })

  -- a tree more in the queue of the process with a number
  pub sent-lives : (n : ℕ) (t : Tree) → is_proper names s.shared t ≡ true → is_beyond s.shared t ≡ false
      → Living names s.shared (map (with_queued n t) s.processes) s.areas
  sent-lives n t p w = all-live names s.shared (map (with_queued n t) s.processes) s.areas
      (sent-proper names s.shared n t s.processes p b.held) b.literals (sent-within s.shared n t s.processes (w, tt) b.within)

  -- one process less
  pub gone-lives : (n : ℕ) → Living names s.shared (filter (λ p. not (p.number == n)) s.processes) s.areas
  gone-lives n = all-live names s.shared (filter (λ p. not (p.number == n)) s.processes) s.areas
      (gone-proper names s.shared n s.processes b.held) b.literals (gone-within s.shared n s.processes b.within)

  -- one process more
  pub spawned-lives : (n : ℕ) → Living names s.shared (s.processes ++ fresh_process n ∷ []) s.areas
  spawned-lives n = all-live names s.shared (s.processes ++ fresh_process n ∷ []) s.areas
      (spawned-proper names s.shared n s.processes b.held) b.literals (spawned-within s.shared n s.processes b.within)

-- a tree that was made in a register, and the rest as before, where the shared binaries are those before it with more
pub made-leaves : (s : State) (names : List (List ℕ)) (q : Live) (r : ℕ) (made : Tree × List (List ℕ)) → Before s names → Holds names s.shared q → Extends s.shared (made.1)
    → is_proper names (made.1) (made.0) ≡ true
    → Living names (made.1) (map (λ u. cond (u.number == q.number) (with_register r (made.0) q) u) s.processes) s.areas
made-leaves s names q r made b h x p =
    let grown = λ (ts : List Tree). all-more-proper names s.shared (made.1) ts x in
    in-register (record s { shared = made.1 }) names
    (record {
      held = grown (flat_map held_trees s.processes) b.held;
      literals = grown (flat_map (λ (a : Area). a.literals) s.areas) b.literals;
      within = all-more-within names s.shared (made.1) (queued_trees s) x (queues-proper names s.shared s.processes b.held) b.within;
    }) q r (made.0)
    (record {
      registers = grown q.registers h.registers;
      stack = grown q.stack h.stack;
      queue = grown q.queue h.queue;
      within = all-more-within names s.shared (made.1) q.queue x h.queue h.within;
    }) p

-- the written terms of a command that makes a fun: registers, and its name is known
pub record Environs (name : ℕ) (terms : Terms) (names : List (List ℕ)) : Type 0 where
  pub registers : List ℕ
  pub written : terms ≡ held_terms registers
  pub known : name < length names

-- the fun of such an environment
pub fun-proper : (s : State) (p : Parsed) (q : Live) (name arity : ℕ) → Holds p.names s.shared q → Environs name p.terms p.names
    → is_proper p.names s.shared (tree.Fun name arity q.number (env_of s p q)) ≡ true
fun-proper s p q name arity h e =
    let P : Terms → Type 0 = λ z. are_proper p.names s.shared ((trees_of_terms p.names q.registers z s.shared).0) ≡ true in
    and_from (nat_lt name (length p.names)) (are_proper p.names s.shared (env_of s p q))
    (lt-ltb name (length p.names) e.known) (subst P (sym e.written) (held-proper p.names q.registers e.registers s.shared h.registers))

-- the written term of a command that builds: of a built form, and each atom has a number
pub record Builds (terms : Terms) (names : List (List ℕ)) : Type 0 where
  pub term : Term
  pub one : terms ≡ term ▹ end
  pub built : IsBuiltTerm term
  pub allowed : MayStand LEVELS term
  pub numbers : HaveNumbers names (atoms_of term)

-- a term of which nothing is refused is neither wide nor big
pub flawless : (big wide : Bool) → flaw_of big wide ≡ None → (wide ≡ false) × (big ≡ false)
flawless true wide h = absurd (cc)
flawless false true h = absurd (cc)
flawless false false h = (refl, refl)

-- its tree in a register, and the rest as before
pub built-leaves : (s : State) (p : Parsed) (q : Live) (r : ℕ) → Before s p.names → Holds p.names s.shared q → Builds p.terms p.names → written_flaw s p q p.terms ≡ None
    → Living p.names ((written_tree s p q p.terms).1) (map (λ u. cond (u.number == q.number) (with_register r ((written_tree s p q p.terms).0) q) u) s.processes) s.areas
built-leaves s p q r b h t f =
    let P : Terms → Type 0 = λ z. Living p.names ((written_tree s p q z).1)
    (map (λ u. cond (u.number == q.number) (with_register r ((written_tree s p q z).0) q) u) s.processes) s.areas in
    let F : Terms → Type 0 = λ z. written_flaw s p q z ≡ None in
    let none = flawless (is_big p.names q.registers t.term s.shared) (is_wide p.names q.registers t.term s.shared) (subst F t.one f) in
    let made : Tree × List (List ℕ) = tree_of p.names q.registers t.term s.shared in
    subst P (sym t.one) (made-leaves s p.names q r made b h (made-more p.names q.registers t.term s.shared)
    (made-proper p.names q.registers LEVELS t.term s.shared h.registers t.built t.allowed t.numbers none.0 none.1))
