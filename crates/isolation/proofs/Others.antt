-- What a line that is not a process's own leaves of it: it stays as it is, but that trees may stand behind those of its queue; or it comes to live.
use Rattle.std.proofs.Common.{◌≡◌, ℕ, ◌+◌, ◌==◌, Bool, true, false, cond, ◌⊎◌, inl, inr, List, [], ◌∷◌, ◌++◌, codes, decimal, Option, Some, None, Result, Ok, Err, refl, sym, ap, ◌∙◌, append-nil, eqb-true}
use Rattle.std.specs.Prelude.{option_map}
use Rattle.plain_term.specs.Tree.{Tree, Pairs}
use Rattle.plain_term.specs.Tree.{Tree as tree}
use Rattle.plain_term.specs.Beyond.{is_beyond}
use Rattle.plain_term.specs.InOrder.{put_pair}
use Rattle.script_grammar.specs.declared.command.Verb.{Verb}
use Rattle.script_grammar.specs.declared.command.Verb.TheVariants.{Set, Choose, MapPut, Fill, Fun as MakeFun, Ref, Own, Repeat, Push, Pop, Send, Recv, Lit, Gc, Exit}
use Rattle.script_grammar.specs.declared.refusal.Refusal.{Refusal}
use Rattle.script_grammar.specs.declared.word.SysWord.TheVariants as sys
use Rattle.script_grammar.specs.Written.{Written, Terms, Operands, sys_kinds_of}
use Rattle.script_grammar.specs.Written.Written.{Nothing, OfProcess, OfSystem}
use Rattle.script_grammar.specs.Written.Terms.{end, ◌▹◌}
use Rattle.script_grammar.specs.Names.{Parsed, parsed_of, verb_of}
use Rattle.plain_machine.specs.State.{Process as Live, State, Area, process_of, area_with, fresh_process, register, with_register, with_process, with_queued}
use Rattle.plain_machine.specs.Made.{bin_tree, too_many}
use Rattle.plain_machine.specs.Parts.{picked, pairs_in}
use Rattle.plain_machine.specs.Tightness.{receiver}
use Rattle.plain_machine.specs.Step.{Outcome, step, does, unless_flawed, literal_of, lit_from, literals_flaw, literals_of, with_literals, load_if, purge_if, choose, put_unless_wide, put_unless_big, put_into, fill_if, fun_if, repeat_if, pop_from, send_within, send_to, recv_from, tells, told_of, by_verb, in_process, spawn_if, with_made, written_tree, written_flaw}
use Rattle.plain_machine.specs.Step.Outcome.{Accepted, Refused, Mapped}
use Rattle.plain_machine.proofs.Properly.Making.{Extends, extends-none, bin-more, made-more, all-made-more}
use Rattle.isolation.specs.Views.{is_own, is_area_line}
use Rattle.isolation.proofs.Finding.{other-put, found-queued, other-gone, found-come, none-come, found-number}
use Rattle.isolation.proofs.Own.{more-names}

-- with these trees behind those of its queue
abbrev pub with_more : List Tree → Live → Live
with_more more q = record q { queue = q.queue ++ more }

-- the process with this number is as before, but for trees behind those of its queue
pub record Passes (m : ℕ) (s next : State) : Type 0 where
  pub names : Extends s.names next.names
  pub shared : Extends s.shared next.shared
  pub more : List Tree
  pub is : process_of m next ≡ option_map (with_more more) (process_of m s)
  pub areas : next.areas ≡ s.areas

-- it comes to live
pub record Comes (m : ℕ) (s next : State) : Type 0 where
  pub names : Extends s.names next.names
  pub shared : Extends s.shared next.shared
  pub before : process_of m s ≡ None
  pub after : process_of m next ≡ Some (fresh_process m)
  pub areas : next.areas ≡ s.areas

abbrev pub OutcomePasses : ℕ → State → Outcome → Type 0
OutcomePasses m s (Accepted next reply) = Passes m s next
OutcomePasses m s _ = Unit {0}

-- the same where a process may come, by a `spawn` that is answered by its number
pub record ComesBySpawn (m : ℕ) (s : State) (w : Written) (next : State) (reply : List ℕ) : Type 0 where
  pub comes : Comes m s next
  pub said : w ≡ OfSystem sys.Spawn tt
  pub is_next : m ≡ s.next
  pub told : reply ≡ codes "ok " ++ decimal m

-- an accepted line of literal areas: the process is as before
pub record ChangesAreas (m : ℕ) (s : State) (w : Written) (next : State) (reply : List ℕ) : Type 0 where
  pub names : Extends s.names next.names
  pub shared : Extends s.shared next.shared
  pub is : process_of m next ≡ process_of m s
  pub said : is_area_line w ≡ true
  pub told : reply ≡ codes "ok"

abbrev pub OtherOutcome : ℕ → State → Written → Outcome → Type 0
OtherOutcome m s w (Accepted next reply) = (Passes m s next × (is_area_line w ≡ false)) ⊎ (ComesBySpawn m s w next reply ⊎ ChangesAreas m s w next reply)
OtherOutcome m s w (Refused r) = Unit {0}
OtherOutcome m s w Mapped = is_area_line w ≡ false

more-none : (o : Option Live) → o ≡ option_map (with_more []) o
more-none None = refl
more-none (Some q) = ap Some (ap (λ (z : List Tree). record q { queue = z }) (sym (append-nil q.queue)))

pub passes-same : (m : ℕ) (s next : State) → Extends s.names next.names → Extends s.shared next.shared → process_of m next ≡ process_of m s
    → next.areas ≡ s.areas → Passes m s next
passes-same m s next n h e a = record { names = n; shared = h; more = []; is = e ∙ more-none (process_of m s); areas = a }

tells-passes : (m : ℕ) (s : State) (res : Result (List ℕ) Refusal) → OutcomePasses m s (tells s res)
tells-passes m s (Ok text) = passes-same m s s (extends-none s.names) (extends-none s.shared) refl refl
tells-passes m s (Err r) = tt

-- a line of another process that lives
module _ (m : ℕ) (s : State) (p : Parsed) (q : Live) (n : Extends s.names p.names) (apart : (q.number == m) ≡ false) where
  put-passes : (shared : List (List ℕ)) (u : Live) → u.number ≡ q.number → Extends s.shared shared → OutcomePasses m s (does p (record (with_process u s) { shared = shared }))
  put-passes shared u is h = record {
    names = n;
    shared = h;
    more = [];
    is = other-put m u s.processes (ap (λ z. z == m) is ∙ apart) ∙ more-none (process_of m s);
    areas = refl;
  }

  here : Extends s.shared s.shared
  here = extends-none s.shared

  flawed-passes : (f : Option Refusal) (o : Outcome) → OutcomePasses m s o → OutcomePasses m s (unless_flawed f o)
  flawed-passes None o k = k
  flawed-passes (Some r) o k = tt

  written-more : (ts : Terms) → Extends s.shared ((written_tree s p q ts).1)
  written-more end = here
  written-more (t ▹ ts) = made-more p.names q.registers t s.shared

  choose-passes : (o : Option Tree) (r : ℕ) → OutcomePasses m s (choose o s p q r)
  choose-passes None r = tt
  choose-passes (Some t) r = put-passes s.shared (with_register r t q) refl here

  lit-passes : (o : Option Area) (r i : ℕ) → OutcomePasses m s (lit_from o s p q r i)
  lit-passes None r i = tt
  lit-passes (Some a) r i = choose-passes (literal_of i a.literals) r

  wide-passes : (b : Bool) (ps : Pairs) (r : ℕ) → OutcomePasses m s (put_unless_wide b ps s p q r)
  wide-passes true ps r = tt
  wide-passes false ps r = put-passes s.shared (with_register r (tree.Map ps) q) refl here

  big-passes : (b : Bool) (ps : Pairs) (r : ℕ) → OutcomePasses m s (put_unless_big b ps s p q r)
  big-passes true ps r = tt
  big-passes false ps r = wide-passes (too_many ps) ps r

  pair-passes : (o : Option Pairs) (k v : Tree) (r : ℕ) → OutcomePasses m s (put_into o k v s p q r)
  pair-passes None k v r = tt
  pair-passes (Some ps) k v r = big-passes (is_beyond s.shared k) (put_pair p.names s.shared k v ps) r

  fill-passes : (b : Bool) (bytes : List ℕ) (r : ℕ) → OutcomePasses m s (fill_if b bytes s p q r)
  fill-passes true bytes r = tt
  fill-passes false bytes r = put-passes ((bin_tree bytes s.shared).1) (with_register r ((bin_tree bytes s.shared).0) q) refl (bin-more bytes s.shared)

  fun-passes : (b : Bool) (t : Tree) (r : ℕ) → OutcomePasses m s (fun_if b t s p q r)
  fun-passes true t r = tt
  fun-passes false t r = put-passes s.shared (with_register r t q) refl here

  repeat-passes : (b : Bool) (t : Tree) (r : ℕ) → OutcomePasses m s (repeat_if b t s p q r)
  repeat-passes true t r = tt
  repeat-passes false t r = put-passes s.shared (with_register r t q) refl here

  pop-passes : (ts : List Tree) (r : ℕ) → OutcomePasses m s (pop_from ts s p q r)
  pop-passes [] r = tt
  pop-passes (t ∷ ts) r = put-passes s.shared (record (with_register r t q) { stack = ts }) refl here

  recv-passes : (ts : List Tree) (r : ℕ) → OutcomePasses m s (recv_from ts s p q r)
  recv-passes [] r = tt
  recv-passes (t ∷ ts) r = put-passes s.shared (record (with_register r t q) { queue = ts }) refl here

  -- a message for the process itself, or for another
  abbrev for_it : Bool → Tree → List Tree
  for_it true t = t ∷ []
  for_it false t = []

  message-more : (k : ℕ) (t : Tree) (o : Option Live) → ((u : Live) → o ≡ Some u → u.number ≡ m) → option_map (with_queued k t) o ≡ option_map (with_more (for_it (m == k) t)) o
  message-more k t None h = refl
  message-more k t (Some u) h = ap Some (ap (λ z. cond (z == k) (with_more (t ∷ []) u) u) (h u refl) ∙ by (m == k))
    where
      by : (b : Bool) → cond b (with_more (t ∷ []) u) u ≡ with_more (for_it b t) u
      by true = refl
      by false = ap (λ (z : List Tree). record u { queue = z }) (sym (append-nil u.queue))

  within-passes : (b : Bool) (k : ℕ) (t : Tree) → OutcomePasses m s (send_within b k t s p)
  within-passes true k t = tt
  within-passes false k t = record {
    names = n;
    shared = here;
    more = for_it (m == k) t;
    is = found-queued m k t s.processes ∙ message-more k t (process_of m s) (λ u e. found-number m s.processes u e);
    areas = refl;
  }

  send-passes : (o : Option ℕ) (t : Tree) → OutcomePasses m s (send_to o t s p)
  send-passes None t = tt
  send-passes (Some k) t = within-passes (is_beyond s.shared t) k t

  verb-passes : (v : Verb) → OutcomePasses m s (by_verb s p q v)
  verb-passes (Set r) = flawed-passes (written_flaw s p q p.terms) (does p (with_made s q r.0 (written_tree s p q p.terms)))
      (put-passes ((written_tree s p q p.terms).1) (with_register r.0 ((written_tree s p q p.terms).0) q) refl (written-more p.terms))
  verb-passes (Choose r k how) = choose-passes (picked p.names s.shared q how (register k.0 q)) r.0
  verb-passes (Lit r name i) = lit-passes (area_with name s) r.0 i
  verb-passes (MapPut r k a b) = pair-passes (pairs_in (register k.0 q)) (register a.0 q) (register b.0 q) r.0
  verb-passes (Fill r len byte) = fill-passes _ _ r.0
  verb-passes (MakeFun r name arity) = fun-passes _ _ r.0
  verb-passes (Ref r) = put-passes s.shared (record (with_register r.0 (tree.Ref q.number (q.refs + 1)) q) { refs = q.refs + 1 }) refl here
  verb-passes (Own r) = put-passes s.shared (with_register r.0 (tree.Pid q.number) q) refl here
  verb-passes (Repeat r shape k t) = repeat-passes _ _ r.0
  verb-passes (Push r) = put-passes s.shared (record q { stack = register r.0 q ∷ q.stack }) refl here
  verb-passes (Pop r) = pop-passes q.stack r.0
  verb-passes (Send r to) = send-passes (receiver to q) (register r.0 q)
  verb-passes (Recv r) = recv-passes q.queue r.0
  verb-passes (Gc depth) = passes-same m s _ n here refl refl
  verb-passes Exit = record { names = n; shared = here; more = []; is = other-gone m q.number s.processes apart ∙ more-none (process_of m s); areas = refl }
  verb-passes v = tells-passes m s (told_of s p q v)

in-process-passes : (m n : ℕ) (s : State) (p : Parsed) (v : Verb) (o : Option Live) → process_of n s ≡ o → Extends s.names p.names → (n == m) ≡ false → OutcomePasses m s (in_process o s p v)
in-process-passes m n s p v None e h apart = tt
in-process-passes m n s p v (Some q) e h apart = verb-passes m s p q h (ap (λ z. z == m) (found-number n s.processes q e) ∙ apart) v

passes-other : (m : ℕ) (s : State) (w : Written) (o : Outcome) → is_area_line w ≡ false → OutcomePasses m s o → OtherOutcome m s w o
passes-other m s w (Accepted next reply) a h = inl (h, a)
passes-other m s w (Refused r) a h = tt
passes-other m s w Mapped a h = a

-- `spawn`
spawn-other : (m : ℕ) (s : State) (p : Parsed) (many : Bool) → Extends s.names p.names → OtherOutcome m s (OfSystem sys.Spawn tt) (spawn_if many s p)
spawn-other m s p true h = tt
spawn-other m s p false h = at (process_of m s) refl
  where
    at-next : process_of m s ≡ None → (b : Bool) → (s.next == m) ≡ b → OtherOutcome m s (OfSystem sys.Spawn tt) (spawn_if false s p)
    at-next e true is =
        let same : s.next ≡ m = eqb-true s.next m is in
        inr (inl (record {
          comes = record {
            names = h;
            shared = extends-none s.shared;
            before = e;
            after = none-come m (fresh_process s.next) s.processes e ∙ (ap (λ b. cond b (Some (fresh_process s.next)) None) is ∙ ap (λ z. Some (fresh_process z)) same);
            areas = refl;
          };
          said = refl;
          is_next = sym same;
          told = ap (λ z. codes "ok " ++ decimal z) same;
        }))
    at-next e false is = inl (
      passes-same m s _ h (extends-none s.shared) (none-come m (fresh_process s.next) s.processes e
          ∙ (ap (λ b. cond b (Some (fresh_process s.next)) None) is ∙ sym e)) refl,
      refl,
    )

    at : (o : Option Live) → process_of m s ≡ o → OtherOutcome m s (OfSystem sys.Spawn tt) (spawn_if false s p)
    at None e = at-next e (s.next == m) refl
    at (Some q) e = inl (passes-same m s _ h (extends-none s.shared) (found-come m (fresh_process s.next) s.processes q e ∙ sym e) refl, refl)

-- `load` and `purge`
load-other : (m : ℕ) (s : State) (p : Parsed) (name : ℕ) (ops : Operands (sys_kinds_of sys.Load)) (taken : Bool) → Extends s.names p.names
    → OtherOutcome m s (OfSystem sys.Load ops) (load_if taken s p name)
load-other m s p name ops true h = tt
load-other m s p name ops false h = at (literals_flaw s p)
  where
    at : (o : Option Refusal) → OtherOutcome m s (OfSystem sys.Load ops) (unless_flawed o (does p (with_literals s name (literals_of s p))))
    at (Some r) = tt
    at None = inr (inr (record { names = h; shared = all-made-more p.names [] p.terms s.shared; is = refl; said = refl; told = refl }))

purge-other : (m : ℕ) (s : State) (p : Parsed) (name : ℕ) (ops : Operands (sys_kinds_of sys.Purge)) (there : Bool) → Extends s.names p.names
    → OtherOutcome m s (OfSystem sys.Purge ops) (purge_if there s p name)
purge-other m s p name ops false h = tt
purge-other m s p name ops true h = inr (inr (record { names = h; shared = extends-none s.shared; is = refl; said = refl; told = refl }))

-- a line that is not the process's own
pub other-line : (m : ℕ) (s : State) (w : Written) → is_own m (Some w) ≡ false → OtherOutcome m s w (step s (parsed_of s.names w))
other-line m s Nothing h = inl (passes-same m s s (extends-none s.names) (extends-none s.shared) refl refl, refl)
other-line m s (OfProcess n w ops) h = let p : Parsed = parsed_of s.names (OfProcess n w ops) in
    passes-other m s (OfProcess n w ops) (in_process (process_of n s) s p (verb_of p.names w ops)) refl
    (in-process-passes m n s p (verb_of p.names w ops) (process_of n s) refl (more-names s (OfProcess n w ops)) h)
other-line m s (OfSystem sys.Spawn ops) h = spawn-other m s (parsed_of s.names (OfSystem sys.Spawn ops)) _ (more-names s (OfSystem sys.Spawn ops))
other-line m s (OfSystem sys.Load ops) h = load-other m s (parsed_of s.names (OfSystem sys.Load ops)) _ ops _ (more-names s (OfSystem sys.Load ops))
other-line m s (OfSystem sys.Purge ops) h = purge-other m s (parsed_of s.names (OfSystem sys.Purge ops)) _ ops _ (more-names s (OfSystem sys.Purge ops))
other-line m s (OfSystem sys.Sweep ops) h = inl (passes-same m s _ (more-names s (OfSystem sys.Sweep ops)) (extends-none s.shared) refl refl, refl)
other-line m s (OfSystem sys.Counts ops) h = refl
other-line m s (OfSystem sys.Procs ops) h = inl (passes-same m s s (extends-none s.names) (extends-none s.shared) refl refl, refl)
other-line m s (OfSystem sys.Quit ops) h = inl (passes-same m s s (extends-none s.names) (extends-none s.shared) refl refl, refl)
other-line m s (OfSystem w ops) h = tt

-- a line of literal areas is no process's own
pub area-not-own : (n : ℕ) (w : Written) → is_area_line w ≡ true → is_own n (Some w) ≡ false
area-not-own n (OfProcess k w ops) mine = absurd (cc)
area-not-own n (OfSystem w ops) mine = refl
area-not-own n Nothing mine = refl
