-- Verbs that make, end and collect, and those that move a tree between a register and a stack or a queue.
use Rattle.std.proofs.Common.{◌≡◌, ℕ, Bool, true, false, true≢false, List, [], ◌∷◌, set, Ok, Err, refl, sym, ◌∙◌, subst, arith, Result, ◌+◌, ◌*◌, length, ap, ◌<◌, ◌≤◌, nat_le, ◌++◌, map, inl}
use Rattle.plain_term.specs.Tree.{Tree}
use Rattle.script_grammar.specs.declared.command.Command.TheVariants.{Process as OfProcess, System}
use Rattle.script_grammar.specs.declared.command.Reg.{Reg}
use Rattle.script_grammar.specs.declared.command.Verb.{Verb}
use Rattle.script_grammar.specs.declared.command.Verb.TheVariants as verb
use Rattle.script_grammar.specs.declared.refusal.Refusal.TheVariants as refusal
use Rattle.script_grammar.specs.Names.{Parsed}
use Rattle.script_grammar.specs.Written.{Terms}
use Rattle.plain_machine.specs.Laws.{AreWithin}
use Rattle.plain_machine.specs.State.{Process, State, with_process, with_register, register, fresh_process}
use Rattle.plain_machine.specs.Step.{by_verb, does, is_sweep, settled, step}
use Rattle.plain_machine.specs.Step.Outcome.{Refused}
use Rattle.space_api.specs.Calls.{said, Passes, AreRising, Becomes}
use Rattle.space_api.specs.declared.space.Seat.{Seat}
use Rattle.heaps_api.specs.Meaning.{Meaning, Stood}
use Rattle.heaps_api.specs.Changing.{KeepsRows, PopsInto, ReceivesInto, TakesFirst, process_at, Pushes, CollectsRows, Exits, Looks, Spawns}
use Rattle.script_grammar.specs.declared.refusal.Refusal.{Refusal}
use Rattle.plain_machine.specs.declared.costs.TheConstants.{PLACE_COST}
use Rattle.heaps_api.specs.declared.wanted.Want.TheVariants.{Words, Process as ForProcess}
use Rattle.script_grammar.specs.declared.command.Command.{Command}
use Rattle.script_grammar.specs.declared.command.Depth.{Depth}
use Rattle.script_grammar.specs.declared.command.SysVerb.TheVariants as sysverb
use Rattle.script_grammar.specs.Written.Terms.{end}
use Rattle.std.specs.List.{filter, remove}
use Rattle.std.proofs.lemmas.List.Edits.{length-remove}
use Rattle.plain_machine.proofs.Properly.Holding.{gone-within, spawned-within}
use Rattle.numbered_rows.specs.Numbers.{AreBelow}
use Rattle.numbered_rows.proofs.Changing.{below-remove, rising-remove, below-push, rising-push}
use Rattle.std.proofs.lemmas.Bool.{le-leb, lt-leb}
use Rattle.std.proofs.lemmas.List.{length-append}
use Rattle.plain_machine.specs.declared.limits.TheConstants.{MOST_PROCESSES}
use Rattle.process_verbs.specs.Verbs.{Holds, Sits, VerbsStand, IsCounted, memory_words}
use Rattle.process_verbs.specs.Asked.{changed, Searches}
use Rattle.process_verbs.specs.Doing.{DoesAtOnce, Does, DoesAlways}
use Rattle.process_verbs.specs.declared.verbs.Verbs.{Verbs}
use Rattle.process_verbs.proofs.Steps.{Changed, at-seat, puts, gains, after, heaps-are, lacks-after, looks-found, counts-stay, holds-passed, holds-become, lacks-does, whole-roomed, looks-lacking, no-space-told}
use Rattle.process_verbs.proofs.Processes.{within-at, is_other, number-there, removed-there, rising-there, count-there}

-- `pop` and `recv`: the first tree of a stack or a queue comes into a register, or there is none.

-- The verbs over another memory.
abbrev pub with_heaps : {H : Type 0} → Verbs H → H → Verbs H
with_heaps b h = record { heaps = h; scratch = b.scratch; next = b.next; serials = b.serials; named = b.named; calls = b.calls; swept = b.swept }

-- What is taken, from which list, and what is left of the process.
module _ {H : Type 0} (m : Meaning H) (b : Verbs H) (holds : Holds m b) (seat : Seat) (x : Sits m b seat) (v : Verb) (of : Process → List Tree)
    (left : Tree → List Tree → Process → Process)
    (none : (s : State) (p : Parsed) (q : Process) → of q ≡ [] → by_verb s p q v ≡ Refused refusal.Empty)
    (some : (s : State) (p : Parsed) (q : Process) (t : Tree) (ts : List Tree) → of q ≡ t ∷ ts → by_verb s p q v ≡ does p (with_process (left t ts q) s))
    (number : (q : Process) (t : Tree) (ts : List Tree) → (left t ts q).number ≡ q.number)
    (within : (shared : List (List ℕ)) (q : Process) (t : Tree) (ts : List Tree) → of q ≡ t ∷ ts → AreWithin shared q.queue → AreWithin shared (left t ts q).queue)
    (h : H) (taken : Bool) (stays : KeepsRows m b.heaps h) (same : taken ≡ false → h ≡ b.heaps)
    (takes : (named : ℕ) (shared : List (List ℕ)) (qs : List Process) → Stood m named b.heaps shared qs
    → TakesFirst m named h shared (λ t ts. set qs seat.row (left t ts (process_at qs seat.row))) (of (process_at qs seat.row)) taken) where
  -- There is none.
  none-there : (s : State) → VerbsStand m b s → taken ≡ false → of (process_at s.processes seat.row) ≡ []
  none-there s o not_taken = by (of (process_at s.processes seat.row)) refl (takes b.named s.shared s.processes o.processes)
    where
      by : (ts : List Tree) → of (process_at s.processes seat.row) ≡ ts
          → TakesFirst m b.named h s.shared (λ t ts. set s.processes seat.row (left t ts (process_at s.processes seat.row))) ts taken
          → of (process_at s.processes seat.row) ≡ []
      by [] e f = e
      by (t ∷ ts) e f = absurd (true≢false (sym f.0 ∙ not_taken))

  none-does : taken ≡ false → DoesAtOnce {A = Unit {0}} m (OfProcess seat.pid v) b b (Err refusal.Empty)
  none-does not_taken = record {
    holds = holds;
    follows = λ s terms names o.
        rw (at-seat m b holds seat x v s o terms names, none s (said (OfProcess seat.pid v) terms names) (process_at s.processes seat.row) (none-there s o not_taken)) (refl, o);
    books = record { same_words = refl; one_call = omega arith; few_names = omega arith };
  }

  pub takes-none : taken ≡ false → DoesAtOnce {A = Unit {0}} m (OfProcess seat.pid v) b (with_heaps b h) (Err refusal.Empty)
  takes-none not_taken = rw (same not_taken) (none-does not_taken)

  -- It was taken.
  taken-there : taken ≡ true → (s : State) (terms : Terms) (names : List (List ℕ)) → VerbsStand m b s → Changed m b holds seat x v s terms names h
  taken-there is_taken s terms names o = by (of (process_at s.processes seat.row)) refl (takes b.named s.shared s.processes o.processes)
    where
      by : (ts : List Tree) → of (process_at s.processes seat.row) ≡ ts
          → TakesFirst m b.named h s.shared (λ t ts. set s.processes seat.row (left t ts (process_at s.processes seat.row))) ts taken
          → Changed m b holds seat x v s terms names h
      by [] e f = absurd (true≢false (sym is_taken ∙ f))
      by (t ∷ ts) e f = record {
        process = left t ts (process_at s.processes seat.row);
        number = number (process_at s.processes seat.row) t ts;
        does_so = some s (said (OfProcess seat.pid v) terms names) (process_at s.processes seat.row) t ts e;
        stood = f.1;
        within = within s.shared (process_at s.processes seat.row) t ts e (within-at s.shared s.processes seat.row o.within);
      }

  pub takes-first : taken ≡ true → DoesAtOnce {A = Unit {0}} m (OfProcess seat.pid v) b (changed b h) (Ok tt)
  takes-first is_taken = puts m b holds seat x v h stays (taken-there is_taken)

-- `pop`.
module _ {H : Type 0} (m : Meaning H) (b : Verbs H) (holds : Holds m b) (seat : Seat) (x : Sits m b seat) (r : Reg) (h : H) (taken : Bool) (pops : PopsInto m seat.row r b.heaps h taken) where
  pub pops-none : taken ≡ false → DoesAtOnce {A = Unit {0}} m (OfProcess seat.pid (verb.Pop r)) b (with_heaps b h) (Err refusal.Empty)
  pops-none = takes-none m b holds seat x (verb.Pop r) (λ q. q.stack) (λ t ts q. record (with_register r.0 t q) { stack = ts }) (λ s p q e. rw e refl) (λ s p q t ts e. rw e refl)
      (λ q t ts. refl) (λ shared q t ts e k. k) h taken pops.stays pops.same pops.popped

  pub pops-first : taken ≡ true → DoesAtOnce {A = Unit {0}} m (OfProcess seat.pid (verb.Pop r)) b (changed b h) (Ok tt)
  pops-first = takes-first m b holds seat x (verb.Pop r) (λ q. q.stack) (λ t ts q. record (with_register r.0 t q) { stack = ts }) (λ s p q e. rw e refl) (λ s p q t ts e. rw e refl)
      (λ q t ts. refl) (λ shared q t ts e k. k) h taken pops.stays pops.same pops.popped

-- `recv`.
module _ {H : Type 0} (m : Meaning H) (b : Verbs H) (holds : Holds m b) (seat : Seat) (x : Sits m b seat) (r : Reg) (h : H) (taken : Bool) (takes : ReceivesInto m seat.row r b.heaps h taken) where
  pub receives-none : taken ≡ false → DoesAtOnce {A = Unit {0}} m (OfProcess seat.pid (verb.Recv r)) b (with_heaps b h) (Err refusal.Empty)
  receives-none = takes-none m b holds seat x (verb.Recv r) (λ q. q.queue) (λ t ts q. record (with_register r.0 t q) { queue = ts }) (λ s p q e. rw e refl) (λ s p q t ts e. rw e refl)
      (λ q t ts. refl) (λ shared q t ts e k. (subst (AreWithin shared) e k).1) h taken takes.stays takes.same takes.first

  pub receives-first : taken ≡ true → DoesAtOnce {A = Unit {0}} m (OfProcess seat.pid (verb.Recv r)) b (changed b h) (Ok tt)
  receives-first = takes-first m b holds seat x (verb.Recv r) (λ q. q.queue) (λ t ts q. record (with_register r.0 t q) { queue = ts }) (λ s p q e. rw e refl) (λ s p q t ts e. rw e refl)
      (λ q t ts. refl) (λ shared q t ts e k. (subst (AreWithin shared) e k).1) h taken takes.stays takes.same takes.first

-- `push`: a register's tree goes on the stack.

module _ {H : Type 0} (m : Meaning H) (b : Verbs H) (holds : Holds m b) (seat : Seat) (x : Sits m b seat) (r : Reg) (c : Verbs H) (res : Result (Unit {0}) Refusal)
    (asked : Searches m (Words seat.row PLACE_COST 0) b c res) where
  pub push-lacks : (e : Refusal) → res ≡ Err e → Does {A = Unit {0}} m (OfProcess seat.pid (verb.Push r)) b c (Err e)
  push-lacks e is = lacks-after m b c (Words seat.row PLACE_COST 0) res asked holds seat x (verb.Push r) (Unit {0}) e is (λ s terms names o. (refl, refl))

  pub push-does : (u : Unit {0}) → res ≡ Ok u → (h : H) → Pushes m seat.row r (Words seat.row PLACE_COST 0) c.heaps h
      → Does {A = Unit {0}} m (OfProcess seat.pid (verb.Push r)) b (after c h) (Ok tt)
  push-does u is h pushed =
      let pushes : Pushes m seat.row r (Words seat.row PLACE_COST 0) asked.heaps h =
      subst (λ z. Pushes m seat.row r (Words seat.row PLACE_COST 0) z h) (heaps-are m b c (Words seat.row PLACE_COST 0) res asked) pushed in
      rw asked.same (gains m b holds seat x (verb.Push r) (Words seat.row PLACE_COST 0) asked.heaps (looks-found m b c (Words seat.row PLACE_COST 0) res asked u is) h pushes.stays
      (λ s terms names o stood. record {
        process = record (process_at s.processes seat.row) { stack = register r.0 (process_at s.processes seat.row) ∷ (process_at s.processes seat.row).stack };
        number = refl;
        does_so = refl;
        stood = pushes.pushed b.named s.shared s.processes stood;
        within = within-at s.shared s.processes seat.row o.within;
      }))

-- `gc` and `sys sweep`: every tree stays.

-- The verbs after a collection, of all processes or of one.
abbrev pub collected : {H : Type 0} → Verbs H → H → (all : Bool) → Verbs H
collected b h all = record { heaps = h; scratch = b.scratch; next = b.next; serials = b.serials; named = b.named; calls = b.calls + 1; swept = all }

module _ {H : Type 0} (m : Meaning H) (b : Verbs H) (holds : Holds m b) (all : Bool) (h : H) (x : CollectsRows m all b.heaps h) where
  counts-collected : IsCounted m (collected b h all)
  counts-collected = counts-stay m b (collected b h all) holds.counts x.stays.rows refl refl (omega arith) refl
      (x.stays.goes.whole (2 * b.calls) (2 * (b.calls + 1)) holds.counts.whole (omega arith))

  stands-collected : (s : State) (line : Parsed) → is_sweep line.command ≡ all → VerbsStand m b s → VerbsStand m (collected b h all) (settled line s)
  stands-collected s line e o = record {
    processes = x.kept b.named s.shared s.processes o.processes;
    next = o.next;
    swept = e;
    shared = o.shared;
    areas = o.areas;
    within = o.within;
    tidy = λ is. x.tidy (sym e ∙ is);
  }

  -- A command for which every tree stays.
  pub collects : (c : Command) → ((s : State) (terms : Terms) (names : List (List ℕ)) → VerbsStand m b s → Passes (step s (said c terms names)) (VerbsStand m (collected b h all)))
      → DoesAlways m c b (collected b h all)
  collects c passes = record {
    holds = holds-passed m (collected b h all) (step holds.state (said c end [])) counts-collected (passes holds.state end [] holds.stands);
    passes = passes;
    books = record { same_words = x.stays.goes.words; one_call = omega arith; few_names = omega arith };
  }

-- `gc`.
pub gc-does : {H : Type 0} (m : Meaning H) (b : Verbs H) (holds : Holds m b) (seat : Seat) → Sits m b seat → (depth : Depth) (h : H) → CollectsRows m false b.heaps h
    → DoesAlways m (OfProcess seat.pid (verb.Gc depth)) b (collected b h false)
gc-does m b holds seat sits depth h x =
    collects m b holds false h x (OfProcess seat.pid (verb.Gc depth))
    (λ s terms names o. rw (at-seat m b holds seat sits (verb.Gc depth) s o terms names)
    (stands-collected m b holds false h x s (said (OfProcess seat.pid (verb.Gc depth)) terms names) refl o))

-- `sys sweep`.
pub sweep-does : {H : Type 0} (m : Meaning H) (b : Verbs H) (holds : Holds m b) (h : H) → CollectsRows m true b.heaps h → DoesAlways m (System sysverb.Sweep) b (collected b h true)
sweep-does m b holds h x =
    collects m b holds true h x (System sysverb.Sweep) (λ s terms names o. stands-collected m b holds true h x s (said (System sysverb.Sweep) terms names) refl o)

-- `exit`: the process is gone.

module _ {H : Type 0} (m : Meaning H) (b : Verbs H) (holds : Holds m b) (seat : Seat) (x : Sits m b seat) (h : H) (gone : Exits m seat.row b.heaps h) where
  others-there : (s : State) (o : VerbsStand m b s) → filter (is_other (process_at s.processes seat.row).number) s.processes ≡ remove s.processes seat.row
  others-there s o = rw (number-there m b s o holds.counts seat x) (removed-there m b s o holds.counts seat x)

  exit-passes : (s : State) (terms : Terms) (names : List (List ℕ)) → VerbsStand m b s
      → Passes (step s (said (OfProcess seat.pid verb.Exit) terms names)) (VerbsStand m (changed b h))
  exit-passes s terms names o = rw (at-seat m b holds seat x verb.Exit s o terms names) (record {
    processes = rw (others-there s o) (gone.gone b.named s.shared s.processes o.processes);
    next = o.next;
    swept = refl;
    shared = o.shared;
    areas = o.areas;
    within = gone-within s.shared (process_at s.processes seat.row).number s.processes o.within;
    tidy = λ e. absurd (true≢false (sym e));
  })

  -- The numbers that are left.
  exit-counts : IsCounted m (changed b h)
  exit-counts =
      let s : State = holds.state in
      let left : Stood m b.named h s.shared (remove s.processes seat.row) = gone.gone b.named s.shared s.processes holds.stands.processes in
      record {
        enough = holds.counts.enough;
        few = omega (arith, holds.counts.few, ap length gone.rows, length-remove (m.numbers b.heaps) seat.row x.within);
        rising = subst (AreRising 0) (sym left.rows) (rising-remove (λ (q : Process). q.number) s.processes seat.row 0 (rising-there m b s holds.stands holds.counts));
        below = subst (AreBelow b.next) (sym left.rows)
            (below-remove (λ (q : Process). q.number) s.processes seat.row b.next (subst (AreBelow b.next) holds.stands.processes.rows holds.counts.below));
        second = holds.counts.second;
        numbered = omega (arith, holds.counts.numbered);
        serials = omega (arith, holds.counts.serials);
        whole = gone.goes.whole (2 * b.calls) (2 * (b.calls + 1)) holds.counts.whole (omega arith);
      }

  pub exit-does : DoesAlways m (OfProcess seat.pid verb.Exit) b (changed b h)
  exit-does = record {
    holds = holds-passed m (changed b h) (step holds.state (said (OfProcess seat.pid verb.Exit) end [])) exit-counts (exit-passes holds.state end [] holds.stands);
    passes = exit-passes;
    books = record { same_words = gone.goes.words; one_call = omega arith; few_names = omega arith };
  }

-- `sys spawn`: a process more, the last of all.

-- The verbs with a process more, after a call that asked for its room before.
abbrev pub spawned : {H : Type 0} → Verbs H → H → Verbs H
spawned c h = record { heaps = h; scratch = c.scratch; next = c.next + 1; serials = c.serials; named = c.named; calls = c.calls; swept = false }

module _ {H : Type 0} (m : Meaning H) (b : Verbs H) (holds : Holds m b) where
  -- So many live already.
  pub spawn-full : MOST_PROCESSES ≤ length (m.numbers b.heaps) → Does {A = ℕ} m (System sysverb.Spawn) b b (Err refusal.Procs)
  spawn-full many = record {
    holds = holds;
    becomes = λ s terms names o. inl (rw (le-leb MOST_PROCESSES (length s.processes) (omega (arith, many, count-there m b s o holds.counts))) (refl, o));
    books = record { same_words = refl; one_call = omega arith; few_names = omega arith };
  }

  module _ (few : length (m.numbers b.heaps) < MOST_PROCESSES) where
    not-full : (s : State) → VerbsStand m b s → nat_le MOST_PROCESSES (length s.processes) ≡ false
    not-full s o = lt-leb MOST_PROCESSES (length s.processes) (omega (arith, few, count-there m b s o holds.counts))

    -- There was room for it.
    module _ (h1 : H) (looks : Looks m ForProcess b.heaps h1 true) (h : H) (made : Spawns m b.next h1 h) where
      abbrev b2 : Verbs H
      b2 = record { heaps = h; scratch = b.scratch; next = b.next + 1; serials = b.serials; named = b.named; calls = b.calls + 1; swept = false }

      stood-more : (s : State) → VerbsStand m b s → Stood m b.named h s.shared (s.processes ++ fresh_process b.next ∷ [])
      stood-more s o = made.made b.named s.shared s.processes (looks.kept b.named s.shared s.processes o.processes)

      spawn-becomes : (s : State) (terms : Terms) (names : List (List ℕ)) → VerbsStand m b s
          → Becomes {A = ℕ} (memory_words m b) s (said (System sysverb.Spawn) terms names) (Ok b.next) (VerbsStand m b2)
      spawn-becomes s terms names o = inl (rw (not-full s o) (record {
        processes = rw o.next (stood-more s o);
        next = ap (λ z. z + 1) o.next;
        swept = refl;
        shared = o.shared;
        areas = o.areas;
        within = spawned-within s.shared s.next s.processes o.within;
        tidy = λ e. absurd (true≢false (sym e));
      }))

      spawn-counts : IsCounted m b2
      spawn-counts =
          let s : State = holds.state in
          let o : VerbsStand m b s = holds.stands in
          let under : AreBelow b.next (map (λ (q : Process). q.number) s.processes) = subst (AreBelow b.next) o.processes.rows holds.counts.below in
          record {
            enough = holds.counts.enough;
            few = omega (arith, few, ap length looks.stays.rows, ap length made.rows, length-append (m.numbers h1) (b.next ∷ []));
            rising = subst (AreRising 0) (sym (stood-more s o).rows)
                (rising-push (λ (q : Process). q.number) s.processes (fresh_process b.next) 0 (rising-there m b s o holds.counts) under (omega (arith, holds.counts.second)));
            below = subst (AreBelow (b.next + 1)) (sym (stood-more s o).rows)
                (below-push (λ (q : Process). q.number) s.processes (fresh_process b.next) b.next (b.next + 1) under (omega arith) (omega arith));
            second = omega (arith, holds.counts.second);
            numbered = omega (arith, holds.counts.numbered);
            serials = omega (arith, holds.counts.serials);
            whole = made.goes.whole (2 * b.calls + 1) (2 * (b.calls + 1)) (whole-roomed m b holds ForProcess h1 true looks) (omega arith);
          }

      spawned-does : Does {A = ℕ} m (System sysverb.Spawn) b b2 (Ok b.next)
      spawned-does = record {
        holds = holds-become m (memory_words m b) b2 holds.state (said (System sysverb.Spawn) end []) (Ok b.next) spawn-counts (spawn-becomes holds.state end [] holds.stands);
        becomes = spawn-becomes;
        books = record { same_words = made.goes.words ∙ looks.stays.goes.words; one_call = omega arith; few_names = omega arith };
      }

    module _ (c : Verbs H) (res : Result (Unit {0}) Refusal) (asked : Searches m ForProcess b c res) where
      pub spawn-lacks : (e : Refusal) → res ≡ Err e → Does {A = ℕ} m (System sysverb.Spawn) b c (Err e)
      spawn-lacks e is = rw (asked.same, no-space-told m b c ForProcess res asked e is)
          (lacks-does m b holds ForProcess asked.heaps false (looks-lacking m b c ForProcess res asked e is) refl ℕ (System sysverb.Spawn)
          (λ s terms names o. (refl, rw (not-full s o) refl)))

      pub spawn-does : (u : Unit {0}) → res ≡ Ok u → (h : H) → Spawns m c.next c.heaps h → Does {A = ℕ} m (System sysverb.Spawn) b (spawned c h) (Ok c.next)
      spawn-does u is h spawns =
          let made : Spawns m b.next asked.heaps h = subst (λ z. Spawns m z.next z.heaps h) asked.same spawns in
          rw asked.same (spawned-does asked.heaps (looks-found m b c ForProcess res asked u is) h made)
