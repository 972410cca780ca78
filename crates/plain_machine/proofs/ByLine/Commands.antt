-- What each command does: to the numbers of processes, to proper trees, and what its reply tells. Each law of runs goes by this.
use Rattle.std.proofs.Common.{◌≡◌, ℕ, zero, suc, ◌+◌, ◌||◌, replicate, arith, ◌⊎◌, inl, inr, Bool, true, false, nat_le, nat_lt, List, [], ◌∷◌, ◌++◌, length, Option, Some, None, Result, Ok, Err, codes, decimal, refl}
use Rattle.plain_term.specs.Tree.{Tree, Pairs}
use Rattle.plain_term.specs.Tree.{Tree as tree}
use Rattle.plain_term.specs.Beyond.{is_beyond}
use Rattle.plain_term.specs.InOrder.{put_pair}
use Rattle.plain_term.specs.Proper.{is_proper, are_bytes}
use Rattle.plain_term.proofs.Putting.{put-rises}
use Rattle.std.proofs.lemmas.Bool.{and_from, or_parts}
use Rattle.std.proofs.lemmas.Bool.Decides.{nat_tests}
use Rattle.script_grammar.specs.Written.{Terms}
use Rattle.script_grammar.specs.declared.command.Command.{Command}
use Rattle.script_grammar.specs.declared.command.Command.TheVariants.{Nothing, Process, System}
use Rattle.script_grammar.specs.declared.command.Verb.{Verb}
use Rattle.script_grammar.specs.declared.command.Verb.TheVariants.{Set, Choose, MapPut, Fill, Fun as MakeFun, Ref, Own, Repeat, Push, Pop, Send, Recv, Lit, Gc, Exit}
use Rattle.script_grammar.specs.declared.command.SysVerb.{SysVerb}
use Rattle.script_grammar.specs.declared.command.SysVerb.TheVariants.{Spawn, Load, Purge, Sweep, Counts, Quit}
use Rattle.script_grammar.specs.declared.refusal.Refusal.{Refusal}
use Rattle.script_grammar.specs.Names.{Parsed}
use Rattle.plain_machine.specs.declared.limits.TheConstants.{MOST_PROCESSES, MOST_AREAS, MOST_PLACES, MOST_FILL, MOST_ARITY, MOST_BYTE}
use Rattle.plain_machine.specs.State.{Process as Live, State, Area, HasNames, process_of, area_with, has_area, fresh_process, register, with_register, with_process}
use Rattle.plain_machine.specs.Made.{too_many, bin_tree}
use Rattle.plain_machine.specs.Tightness.{receiver}
use Rattle.plain_machine.specs.Parts.{picked, pairs_in, repeated}
use Rattle.plain_machine.specs.Step.{Outcome, by_command, in_process, by_verb, by_system, does, literal_of, lit_from, literals_flaw, literals_of, with_literals, load_if, purge_if, with_made, unless_flawed, written_flaw, fill_if, fun_if, env_of, choose, put_unless_wide, put_unless_big, put_into, repeat_if, collect_step, pop_from, send_within, send_to, recv_from, spawn_if, tells, told_of, told_of_system, written_tree, is_printing}
use Rattle.plain_machine.specs.Step.Outcome.{Accepted, Refused, Mapped}
use Rattle.plain_machine.specs.Run.{is_quit}
use Rattle.plain_machine.specs.Laws.{AreProper, AreWithin, HoldsProper}
use Rattle.plain_machine.proofs.Numbering.Numbers.{Keeps, keeps-same, keeps-numbers, keeps-process, keeps-message, keeps-gone, keeps-come}
use Rattle.plain_machine.proofs.Properly.Putting.{put-proper}
use Rattle.plain_machine.proofs.Properly.Parts.{IfProper, at-proper, picked-proper, map-proper, repeated-proper}
use Rattle.plain_machine.proofs.Properly.Growing.{map-parts}
use Rattle.plain_machine.proofs.Properly.Making.{bin-more, bin-proper}
use Rattle.plain_machine.proofs.Properly.Areas.{Loads, literal-proper, area-proper, loaded-lives, purged-lives}
use Rattle.plain_machine.proofs.Properly.Holding.{Holds, Before, Builds, Environs, before, found-proper, lives, same-live, in-place, in-register, sent-lives, gone-lives, spawned-lives, made-leaves, built-leaves, fun-proper, set-proper}

-- the numbers after an outcome
abbrev pub OutcomeKeeps : State → Outcome → Type 0
OutcomeKeeps s (Accepted next reply) = Keeps s next
OutcomeKeeps s (Refused r) = Unit {0}
OutcomeKeeps s Mapped = Unit {0}

-- an accepted reply begins with an `o`, or the state stays and the script goes on
abbrev pub IsTold : State → Command → Outcome → Type 0
IsTold s c (Accepted next reply) = ((rest : List ℕ) × (reply ≡ 111 ∷ rest)) ⊎ ((next ≡ s) × (is_quit c ≡ false))
IsTold s c (Refused r) = Unit {0}
IsTold s c Mapped = Unit {0}

-- all trees are proper after an outcome
abbrev pub LeavesProper : Outcome → Type 0
LeavesProper (Accepted next reply) = HoldsProper next
LeavesProper (Refused r) = Unit {0}
LeavesProper Mapped = Unit {0}

-- an outcome leaves the state
abbrev pub LeavesState : State → Outcome → Type 0
LeavesState s (Accepted next reply) = next ≡ s
LeavesState s (Refused r) = Unit {0}
LeavesState s Mapped = Unit {0}

-- what is asked of the terms of a command
abbrev pub TermsOf : Command → Terms → (names : List (List ℕ)) → Type 0
TermsOf (Process n (Set r)) terms names = Builds terms names
TermsOf (Process n (MakeFun r name arity)) terms names = Environs name terms names
TermsOf (System (Load name count)) terms names = Loads terms names
TermsOf _ terms names = Unit {0}

-- what a command does
pub record Does (s : State) (p : Parsed) (c : Command) (o : Outcome) : Type 0 where
  pub numbers : OutcomeKeeps s o
  pub told : IsTold s c o
  pub proper : HoldsProper s → HasNames s p.names → TermsOf c p.terms p.names → LeavesProper o
  pub printing : is_printing c ≡ true → LeavesState s o

refused-does : (s : State) (p : Parsed) (c : Command) (r : Refusal) → Does s p c (Refused r)
refused-does s p c r = record { numbers = tt; told = tt; proper = λ h m t. tt; printing = λ e. tt }

-- a command that tells
tells-does : (s : State) (p : Parsed) (c : Command) (r : Result (List ℕ) Refusal) → is_quit c ≡ false → Does s p c (tells s r)
tells-does s p c (Ok text) e = record { numbers = keeps-same s s refl; told = inr (refl, e); proper = λ h m t. h; printing = λ e. refl }
tells-does s p c (Err r) e = refused-does s p c r

-- `gc` and `sys sweep`
collect-does : (s : State) (p : Parsed) (c : Command) → is_printing c ≡ false → Does s p c (collect_step s p)
collect-does s p c e = record {
  numbers = keeps-numbers s _ refl refl;
  told = inl (codes "k", refl);
  proper = λ h m t. lives _ (same-live s p.names (before s p.names m h));
  printing = λ f. absurd (cc);
}

-- a tree in a register
register-does : (s : State) (p : Parsed) (q : Live) (n r : ℕ) (x : Verb) (t : Tree) → is_printing (Process n x) ≡ false
    → (HoldsProper s → HasNames s p.names → Before s p.names × Holds p.names s.shared q × (is_proper p.names s.shared t ≡ true))
    → Does s p (Process n x) (does p (with_process (with_register r t q) s))
register-does s p q n r x t e f = record {
  numbers = keeps-process s _ (with_register r t q) refl refl;
  told = inl (codes "k", refl);
  proper = λ h m b. let k = f h m in lives _ (in-register s p.names (k.0) q r t (k.1) (k.2));
  printing = λ g. absurd (cc);
}

-- `hd`, `tl`, `elem`, `mapget`, `part`, `env`
choose-does : (s : State) (p : Parsed) (q : Live) (n r : ℕ) (x : Verb) (o : Option Tree) → is_printing (Process n x) ≡ false
    → (HoldsProper s → HasNames s p.names → Before s p.names × Holds p.names s.shared q × IfProper p.names s.shared o) → Does s p (Process n x) (choose o s p q r)
choose-does s p q n r x None e f = refused-does s p (Process n x) _
choose-does s p q n r x (Some t) e f = register-does s p q n r x t e f

-- `lit`
lit-does : (s : State) (p : Parsed) (q : Live) (n r i : ℕ) (x : Verb) (o : Option Area) → is_printing (Process n x) ≡ false
    → (HoldsProper s → HasNames s p.names → Before s p.names × Holds p.names s.shared q) → ((a : Area) → o ≡ Some a → Before s p.names → AreProper p.names s.shared a.literals)
    → Does s p (Process n x) (lit_from o s p q r i)
lit-does s p q n r i x None e f g = refused-does s p (Process n x) _
lit-does s p q n r i x (Some a) e f g = choose-does s p q n r x (literal_of i a.literals) e
    (λ h m. let k = f h m in (k.0, k.1, literal-proper p.names s.shared i a.literals (g a refl k.0)))

-- `mapput`
put-does : (s : State) (p : Parsed) (q : Live) (n r : ℕ) (x : Verb) (m k v : Tree) → is_printing (Process n x) ≡ false
    → (HoldsProper s → HasNames s p.names → Before s p.names × Holds p.names s.shared q
    × (is_proper p.names s.shared m ≡ true) × (is_proper p.names s.shared k ≡ true) × (is_proper p.names s.shared v ≡ true))
    → Does s p (Process n x) (put_into (pairs_in m) k v s p q r)
put-does s p q n r x (tree.Map ps) k v e f = at-key (is_beyond s.shared k) refl
  where
    all : Pairs
    all = put_pair p.names s.shared k v ps

    at-size : (b : Bool) → too_many all ≡ b → is_beyond s.shared k ≡ false → Does s p (Process n x) (put_unless_wide b all s p q r)
    at-size true wide within = refused-does s p (Process n x) _
    at-size false wide within = register-does s p q n r x (tree.Map all) e (λ h m.
        let g = f h m in
        let parts = map-parts p.names [] s.shared [] ps (g.2) in (
          g.0,
          g.1,
          map-proper p.names s.shared all wide (put-rises p.names s.shared k v ps (parts.1))
              (put-proper p.names s.shared k v ps (record { key = g.3; within = within; value = g.4 }) (parts.2)),
        ))

    at-key : (b : Bool) → is_beyond s.shared k ≡ b → Does s p (Process n x) (put_unless_big b all s p q r)
    at-key true big = refused-does s p (Process n x) _
    at-key false big = at-size (too_many all) refl big
put-does s p q n r x _ k v e f = refused-does s p (Process n x) _

-- `mktuple`, `mklist`
repeat-does : (s : State) (p : Parsed) (q : Live) (n r : ℕ) (x : Verb) (many : Bool) (t : Tree) → is_printing (Process n x) ≡ false
    → (HoldsProper s → HasNames s p.names → Before s p.names × Holds p.names s.shared q × (is_proper p.names s.shared t ≡ true)) → Does s p (Process n x) (repeat_if many t s p q r)
repeat-does s p q n r x true t e f = refused-does s p (Process n x) _
repeat-does s p q n r x false t e f = register-does s p q n r x t e f

-- bytes that are all the same one
filled-bytes : (n b : ℕ) → nat_lt MOST_BYTE b ≡ false → are_bytes (replicate n b) ≡ true
filled-bytes zero b h = refl
filled-bytes (suc n) b h = and_from (nat_lt b 256) (are_bytes (replicate n b)) (grind (arith, nat_tests, h)) (filled-bytes n b h)

-- `fill`
fill-does : (s : State) (p : Parsed) (q : Live) (n r : ℕ) (x : Verb) (bad : Bool) (bytes : List ℕ) → is_printing (Process n x) ≡ false
    → (bad ≡ false → are_bytes bytes ≡ true) → (HoldsProper s → HasNames s p.names → Before s p.names × Holds p.names s.shared q)
    → Does s p (Process n x) (fill_if bad bytes s p q r)
fill-does s p q n r x true bytes e bs f = refused-does s p (Process n x) _
fill-does s p q n r x false bytes e bs f = record {
  numbers = keeps-process s _ (with_register r ((bin_tree bytes s.shared).0) q) refl refl;
  told = inl (codes "k", refl);
  proper = λ h m t. let k = f h m in
      lives _ (made-leaves s p.names q r (bin_tree bytes s.shared) k.0 k.1 (bin-more bytes s.shared) (bin-proper p.names bytes s.shared (bs refl)));
  printing = λ g. absurd (cc);
}

-- `fun`
fun-does : (s : State) (p : Parsed) (q : Live) (n r name arity : ℕ) (x : Verb) (bad : Bool) (t : Tree) → is_printing (Process n x) ≡ false
    → (HoldsProper s → HasNames s p.names → TermsOf (Process n x) p.terms p.names → Before s p.names × Holds p.names s.shared q × (is_proper p.names s.shared t ≡ true))
    → Does s p (Process n x) (fun_if bad t s p q r)
fun-does s p q n r name arity x true t e f = refused-does s p (Process n x) _
fun-does s p q n r name arity x false t e f = record {
  numbers = keeps-process s _ (with_register r t q) refl refl;
  told = inl (codes "k", refl);
  proper = λ h m b. let k = f h m b in lives _ (in-register s p.names (k.0) q r t (k.1) (k.2));
  printing = λ g. absurd (cc);
}

-- `pop`
pop-does : (s : State) (p : Parsed) (q : Live) (n r : ℕ) (x : Verb) (stack : List Tree) → is_printing (Process n x) ≡ false
    → (HoldsProper s → HasNames s p.names → Before s p.names × Holds p.names s.shared q × AreProper p.names s.shared stack) → Does s p (Process n x) (pop_from stack s p q r)
pop-does s p q n r x [] e f = refused-does s p (Process n x) _
pop-does s p q n r x (t ∷ stack) e f = record {
  numbers = keeps-process s _ (record (with_register r t q) { stack = stack }) refl refl;
  told = inl (codes "k", refl);
  proper = λ h m b. let k = f h m in lives _ (in-place s p.names (k.0) (record (with_register r t q) { stack = stack }) (record {
    registers = set-proper p.names s.shared q.registers r t (k.1).registers (k.2.0);
    stack = k.2.1;
    queue = (k.1).queue;
    within = (k.1).within;
  }));
  printing = λ g. absurd (cc);
}

-- `send`
send-does : (s : State) (p : Parsed) (n : ℕ) (x : Verb) (to : Option ℕ) (t : Tree) → is_printing (Process n x) ≡ false
    → (HoldsProper s → HasNames s p.names → Before s p.names × (is_proper p.names s.shared t ≡ true)) → Does s p (Process n x) (send_to to t s p)
send-does s p n x None t e f = refused-does s p (Process n x) _
send-does s p n x (Some k) t e f = at (is_beyond s.shared t) refl
  where
    at : (b : Bool) → is_beyond s.shared t ≡ b → Does s p (Process n x) (send_within b k t s p)
    at true w = refused-does s p (Process n x) _
    at false w = record {
      numbers = keeps-message s _ k t refl refl;
      told = inl (codes "k", refl);
      proper = λ h m b. let l = f h m in lives _ (sent-lives s p.names (l.0) k t (l.1) w);
      printing = λ g. absurd (cc);
    }

-- `recv`
recv-does : (s : State) (p : Parsed) (q : Live) (n r : ℕ) (x : Verb) (queue : List Tree) → is_printing (Process n x) ≡ false
    → (HoldsProper s → HasNames s p.names → Before s p.names × Holds p.names s.shared q)
    → (HoldsProper s → HasNames s p.names → AreProper p.names s.shared queue) → (HoldsProper s → HasNames s p.names → AreWithin s.shared queue)
    → Does s p (Process n x) (recv_from queue s p q r)
recv-does s p q n r x [] e f g w = refused-does s p (Process n x) _
recv-does s p q n r x (t ∷ queue) e f g w = record {
  numbers = keeps-process s _ (record (with_register r t q) { queue = queue }) refl refl;
  told = inl (codes "k", refl);
  proper = λ h m b. let k = f h m in lives _ (in-place s p.names (k.0) (record (with_register r t q) { queue = queue }) (record {
    registers = set-proper p.names s.shared q.registers r t (k.1).registers ((g h m).0);
    stack = (k.1).stack;
    queue = (g h m).1;
    within = (w h m).1;
  }));
  printing = λ g. absurd (cc);
}

module _ (s : State) (p : Parsed) (n : ℕ) (q : Live) (found : process_of n s ≡ Some q) where
  names-before : HoldsProper s → HasNames s p.names → Before s p.names
  names-before h m = before s p.names m h

  holds : HoldsProper s → HasNames s p.names → Holds p.names s.shared q
  holds h m = let b = before s p.names m h in found-proper p.names s.shared n s.processes q b.held b.within found

  in-holds : (r : ℕ) → HoldsProper s → HasNames s p.names → is_proper p.names s.shared (register r q) ≡ true
  in-holds r h m = at-proper p.names s.shared q.registers r (holds h m).registers

  verb-does : (v : Verb) → Does s p (Process n v) (by_verb s p q v)
  verb-does (Set r) = at (written_flaw s p q p.terms) refl
    where
      at : (o : Option Refusal) → written_flaw s p q p.terms ≡ o → Does s p (Process n (Set r)) (unless_flawed o (does p (with_made s q (r.0) (written_tree s p q p.terms))))
      at (Some x) e = refused-does s p (Process n (Set r)) x
      at None e = record {
        numbers = keeps-process s _ (with_register (r.0) ((written_tree s p q p.terms).0) q) refl refl;
        told = inl (codes "k", refl);
        proper = λ h m t. lives _ (built-leaves s p q (r.0) (names-before h m) (holds h m) t e);
        printing = λ e. absurd (cc);
      }
  verb-does (Choose r m how) = choose-does s p q n (r.0) (Choose r m how) (picked p.names s.shared q how (register (m.0) q)) refl
      (λ h k. (names-before h k, holds h k, picked-proper p.names s.shared q how (register (m.0) q) (in-holds (m.0) h k)))
  verb-does (Lit r name i) = lit-does s p q n (r.0) i (Lit r name i) (area_with name s) refl (λ h m. (names-before h m, holds h m))
      (λ a e b. area-proper p.names s.shared name s.areas a b.literals e)
  verb-does (MapPut r m k v) = put-does s p q n (r.0) (MapPut r m k v) (register (m.0) q) (register (k.0) q) (register (v.0) q) refl
      (λ h x. (names-before h x, holds h x, in-holds (m.0) h x, in-holds (k.0) h x, in-holds (v.0) h x))
  verb-does (Fill r len byte) = fill-does s p q n (r.0) (Fill r len byte) (nat_lt MOST_FILL len || nat_lt MOST_BYTE byte) (replicate len byte) refl
      (λ e. filled-bytes len byte (or_parts (nat_lt MOST_FILL len) (nat_lt MOST_BYTE byte) e).1) (λ h m. (names-before h m, holds h m))
  verb-does (MakeFun r name arity) =
      fun-does s p q n (r.0) name arity (MakeFun r name arity) (nat_lt MOST_ARITY arity) (tree.Fun name arity q.number (env_of s p q)) refl
      (λ h m t. (names-before h m, holds h m, fun-proper s p q name arity (holds h m) t))
  verb-does (Ref r) = record {
    numbers = keeps-process s _ (record (with_register (r.0) (tree.Ref q.number (q.refs + 1)) q) { refs = q.refs + 1 }) refl refl;
    told = inl (codes "k", refl);
    proper = λ h m t. let k = holds h m in
        lives _ (in-place s p.names (names-before h m) (record (with_register (r.0) (tree.Ref q.number (q.refs + 1)) q) { refs = q.refs + 1 }) (record {
          registers = set-proper p.names s.shared q.registers (r.0) (tree.Ref q.number (q.refs + 1)) k.registers refl;
          stack = k.stack;
          queue = k.queue;
          within = k.within;
        }));
    printing = λ e. absurd (cc);
  }
  verb-does (Own r) = register-does s p q n (r.0) (Own r) (tree.Pid q.number) refl (λ h m. (names-before h m, holds h m, refl))
  verb-does (Repeat r shape k m) = repeat-does s p q n (r.0) (Repeat r shape k m) (nat_lt MOST_PLACES k) (repeated shape k (register (m.0) q)) refl
      (λ h x. (names-before h x, holds h x, repeated-proper p.names s.shared shape k (register (m.0) q) (in-holds (m.0) h x)))
  verb-does (Push r) = record {
    numbers = keeps-process s _ (record q { stack = register (r.0) q ∷ q.stack }) refl refl;
    told = inl (codes "k", refl);
    proper = λ h m t. let k = holds h m in lives _ (in-place s p.names (names-before h m) (record q { stack = register (r.0) q ∷ q.stack }) (record {
      registers = k.registers;
      stack = (at-proper p.names s.shared q.registers (r.0) k.registers, k.stack);
      queue = k.queue;
      within = k.within;
    }));
    printing = λ e. absurd (cc);
  }
  verb-does (Pop r) = pop-does s p q n (r.0) (Pop r) q.stack refl (λ h m. (names-before h m, holds h m, (holds h m).stack))
  verb-does (Send r to) = send-does s p n (Send r to) (receiver to q) (register (r.0) q) refl (λ h m. (names-before h m, in-holds (r.0) h m))
  verb-does (Recv r) = recv-does s p q n (r.0) (Recv r) q.queue refl (λ h m. (names-before h m, holds h m)) (λ h m. (holds h m).queue) (λ h m. (holds h m).within)
  verb-does (Gc depth) = collect-does s p (Process n (Gc depth)) refl
  verb-does Exit = record {
    numbers = keeps-gone s _ q.number refl refl;
    told = inl (codes "k", refl);
    proper = λ h m t. lives _ (gone-lives s p.names (names-before h m) q.number);
    printing = λ e. absurd (cc);
  }
  verb-does v = tells-does s p (Process n v) (told_of s p q v) refl

process-does : (s : State) (p : Parsed) (n : ℕ) (v : Verb) (o : Option Live) → process_of n s ≡ o → Does s p (Process n v) (in_process o s p v)
process-does s p n v None e = refused-does s p (Process n v) _
process-does s p n v (Some q) e = verb-does s p n q e v

-- `spawn`
spawn-does : (s : State) (p : Parsed) (full : Bool) → Does s p (System Spawn) (spawn_if full s p)
spawn-does s p true = refused-does s p (System Spawn) _
spawn-does s p false = record {
  numbers = keeps-come s _ (fresh_process s.next) refl refl refl;
  told = inl (codes "k " ++ decimal s.next, refl);
  proper = λ h m t. lives _ (spawned-lives s p.names (before s p.names m h) s.next);
  printing = λ e. absurd (cc);
}

-- `load`
load-does : (s : State) (p : Parsed) (name count : ℕ) (taken : Bool) → Does s p (System (Load name count)) (load_if taken s p name)
load-does s p name count true = refused-does s p (System (Load name count)) _
load-does s p name count false = at (literals_flaw s p) refl
  where
    at : (o : Option Refusal) → literals_flaw s p ≡ o → Does s p (System (Load name count)) (unless_flawed o (does p (with_literals s name (literals_of s p))))
    at (Some x) e = refused-does s p (System (Load name count)) x
    at None e = record {
      numbers = keeps-numbers s _ refl refl;
      told = inl (codes "k", refl);
      proper = λ h m t. lives _ (loaded-lives s p name (before s p.names m h) t e);
      printing = λ f. absurd (cc);
    }

-- `purge`
purge-does : (s : State) (p : Parsed) (name : ℕ) (there : Bool) → Does s p (System (Purge name)) (purge_if there s p name)
purge-does s p name false = refused-does s p (System (Purge name)) _
purge-does s p name true = record {
  numbers = keeps-numbers s _ refl refl;
  told = inl (codes "k", refl);
  proper = λ h m t. lives _ (purged-lives s p.names name (before s p.names m h));
  printing = λ f. absurd (cc);
}

system-does : (s : State) (p : Parsed) (v : SysVerb) → Does s p (System v) (by_system s p v)
system-does s p Spawn = spawn-does s p (nat_le MOST_PROCESSES (length s.processes))
system-does s p (Load name count) = load-does s p name count (has_area name s || nat_le MOST_AREAS (length s.areas))
system-does s p (Purge name) = purge-does s p name (has_area name s)
system-does s p Sweep = collect-does s p (System Sweep) refl
system-does s p Counts = record { numbers = tt; told = tt; proper = λ h m t. tt; printing = λ e. tt }
system-does s p Quit = record { numbers = keeps-same s s refl; told = inl (codes "k", refl); proper = λ h m t. h; printing = λ e. refl }
system-does s p v = tells-does s p (System v) (told_of_system s v) refl

pub command-does : (s : State) (p : Parsed) (c : Command) → Does s p c (by_command s p c)
command-does s p Nothing = record { numbers = keeps-same s s refl; told = inr (refl, refl); proper = λ h m t. h; printing = λ e. refl }
command-does s p (Process n v) = process-does s p n v (process_of n s) refl
command-does s p (System v) = system-does s p v
