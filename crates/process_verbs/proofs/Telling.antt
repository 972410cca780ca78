-- What is told of registers and queues is what the machine tells of their trees.
use Rattle.std.proofs.Common.{ℕ, ◌<◌, List, get_or, arith, ◌≡◌, ◌||◌, Bool, true, false, cond, length, decimal, Some, Result, Ok, Err, IfOk, refl, sym, ap, subst, ◌∙◌, ◌≤◌, zero, suc, ◌+◌, ◌==◌, [], ◌∷◌, ◌++◌, map, take, drop, OnOk, OnErr}
use Rattle.plain_machine.specs.State.{State, register, Process, process_of}
use Rattle.script_grammar.specs.declared.command.Reg.{Reg}
use Rattle.space_api.specs.declared.space.Seat.{Seat}
use Rattle.heaps_api.specs.Meaning.{HoldsThere, Meaning}
use Rattle.heaps_api.specs.Changing.{process_at}
use Rattle.heaps_api.specs.Reading.{AreRegisters, AreWaiting}
use Rattle.heaps_api.proofs.Holding.{held-at, stands-always}
use Rattle.std.proofs.lemmas.Option.{same_Some}
use Rattle.std.specs.declared.cmp.Ordering.{Ordering}
use Rattle.std.specs.declared.cmp.Ordering.TheVariants.{Less, Equal, Greater}
use Rattle.line_io.specs.Sink.{Grew, GrewInPart, Writes, WritesTold}
use Rattle.plain_term.specs.Tree.{Tree}
use Rattle.plain_term.specs.Beyond.{is_beyond}
use Rattle.plain_term.specs.Measures.{nodes, flat}
use Rattle.plain_term.specs.Order.{order}
use Rattle.plain_term.specs.Text.{text}
use Rattle.script_grammar.specs.declared.command.Command.TheVariants.{Process as OfProcess}
use Rattle.script_grammar.specs.declared.command.Measure.{Measure}
use Rattle.script_grammar.specs.declared.command.Verb.{Verb}
use Rattle.script_grammar.specs.declared.command.Verb.TheVariants as verb
use Rattle.script_grammar.specs.declared.refusal.Refusal.{Refusal}
use Rattle.script_grammar.specs.Written.{Terms}
use Rattle.plain_machine.specs.Step.{Outcome, by_verb, step, tells, unless_beyond, order_text}
use Rattle.space_api.specs.Calls.{Prints, Tells, said, WritesReply}
use Rattle.space_api.specs.declared.space.Stop.{Stop}
use Rattle.space_api.specs.declared.space.Stop.TheVariants.{Big as TooBig, Fault}
use Rattle.term_words.specs.Stands.{IsTerm, Stands}
use Rattle.term_walk.specs.Measured.{Measures, measured}
use Rattle.term_walk.specs.declared.measured.Measured.{Measured}
use Rattle.term_walk.specs.declared.measured.Measured.TheVariants.{Within, Beyond}
use Rattle.term_order.specs.Compared.{AreNamed, Compares, answer_of, compared}
use Rattle.term_order.specs.declared.compared.Compared.{Compared}
use Rattle.term_order.specs.declared.compared.Compared.TheVariants as answer
use Rattle.term_print.specs.Printed.{CanBegin, CanPrint}
use Rattle.term_words.specs.Role.{always}
use Rattle.heaps_api.proofs.Naming.{named-more}
use Rattle.std.specs.Prelude.{IsErr}
use Rattle.std.proofs.lemmas.List.{get_or-map, length-map}
use Rattle.line_io.specs.Faults.{Rose}
use Rattle.text_parts.proofs.Writing.{written-as}
use Rattle.reply_text.specs.Texts.{divider}
use Rattle.counts_text.proofs.Listed.{entry_at, entries-begin, entries-more, entries-stop}
use Rattle.plain_term.specs.Tree.Tree.{Nil}
use Rattle.plain_machine.specs.Texts.{divided}
use Rattle.plain_machine.specs.Laws.{AreWithin}
use Rattle.term_order.specs.Held.{HoldTrees}
use Rattle.script_grammar.specs.Names.{Parsed}
use Rattle.process_verbs.specs.Verbs.{IsCounted, Sits, VerbsStand}
use Rattle.process_verbs.specs.Telling.{IsHeld, measure_told, order_told}
use Rattle.process_verbs.specs.declared.verbs.Verbs.{Verbs}
use Rattle.process_verbs.proofs.Processes.{found-there, within-at}
use Rattle.process_verbs.specs.Queued.{AreMessages, HaveMessages, messages_text, whole_text}

-- The words of the registers of a seat's process.

module _ {H : Type 0} (m : Meaning H) (b : Verbs H) (counts : IsCounted m b) (seat : Seat) (x : Sits m b seat) (words : List ℕ) (are : AreRegisters m seat.row b.heaps words)
    (s : State) (o : VerbsStand m b s) where
  pub held-there : (r : ℕ) → r < 16 → HoldsThere m b.named b.heaps s.shared s.processes o.processes seat.row (get_or words r 0) (register r (process_at s.processes seat.row))
  held-there r small =
      let q = process_at s.processes seat.row in
      held-at (m.test b.named b.heaps s.shared s.processes o.processes.is seat.row) s.shared (m.mem b.heaps) b.named words q.registers r (omega (arith, small, are.count))
      (are.hold b.named s.shared s.processes o.processes)

  pub is-held : (r : Reg) → r.0 < 16 → IsHeld m b s o seat r (get_or words r.0 0)
  is-held r small = record { process = process_at s.processes seat.row; found = found-there m b s o counts seat x; held = held-there r.0 small }

-- What is told of registers is what the machine tells of their trees.

-- what a step comes to, told of the process
module _ (s : State) (pid : ℕ) (q : Process) (found : process_of pid s ≡ Some q) (v : Verb) (terms : Terms) (names : List (List ℕ)) where
  at-process : (P : Outcome → Type 0) → P (by_verb s (said (OfProcess pid v) terms names) q v) → P (step s (said (OfProcess pid v) terms names))
  at-process P k = rw found k

-- a measured tree
flat-of : (s : State) (beyond : Bool) (n words : ℕ)
    → Tells (tells s (unless_beyond beyond (decimal words))) (λ (m : Measure). decimal m.flat) (measure_told (cond beyond Beyond (Within (record { nodes = n; flat = words }))))
flat-of s true n words = refl
flat-of s false n words = refl

nodes-of : (beyond : Bool) (n words : ℕ) → IfOk (measure_told (cond beyond Beyond (Within (record { nodes = n; flat = words })))) (λ (m : Measure). m.nodes ≡ n)
nodes-of true n words = tt
nodes-of false n words = refl

-- two compared trees
order-of : (s : State) (beyond : Bool) (o : Ordering) (tell : Ordering → List ℕ) → Tells (tells s (unless_beyond beyond (tell o))) tell (order_told (cond beyond answer.Beyond (answer_of o)))
order-of s true o tell = refl
order-of s false Less tell = refl
order-of s false Equal tell = refl
order-of s false Greater tell = refl

module _ {H : Type 0} (m : Meaning H) (b : Verbs H) (s : State) (o : VerbsStand m b s) (seat : Seat) (r : Reg) (w : ℕ) (held : IsHeld m b s o seat r w)
    (mem : List ℕ) (same : mem ≡ m.mem b.heaps) where
  pub standing : Stands always s.shared mem w (register r.0 held.process)
  standing = rw same (stands-always (m.test b.named b.heaps s.shared s.processes o.processes.is seat.row) s.shared (m.mem b.heaps) b.named w (register r.0 held.process) held.held)

  pub can-begin : (names : List (List ℕ)) → b.named ≤ length names → CanBegin mem names w
  can-begin names more = record {
    shared = s.shared;
    now = register r.0 held.process;
    standing = standing;
    named = named-more b.named (length names) more (register r.0 held.process) held.held.names;
  }

  pub is-term : IsTerm mem w
  is-term = record { shared = s.shared; tree = register r.0 held.process; standing = standing }

  pub flat-told : (terms : Terms) (names : List (List ℕ)) (told_as : Measured) (result : Result Measure Refusal) → Measures mem w told_as → result ≡ measure_told told_as
      → Tells (step s (said (OfProcess seat.pid (verb.Flat r)) terms names)) (λ (x : Measure). decimal x.flat) result
  flat-told terms names told_as result told is =
      let t : Tree = register r.0 held.process in
      rw (is ∙ ap measure_told (told.each always s.shared t standing))
      (at-process s seat.pid held.process held.found (verb.Flat r) terms names
      (λ o. Tells o (λ (x : Measure). decimal x.flat) (measure_told (measured s.shared t))) (flat-of s (is_beyond s.shared t) (nodes s.shared t) (flat t)))

  pub nodes-told : (q : Process) (told_as : Measured) (result : Result Measure Refusal) → process_of seat.pid s ≡ Some q → Measures mem w told_as → result ≡ measure_told told_as
      → IfOk result (λ (x : Measure). x.nodes ≡ nodes s.shared (register r.0 q))
  nodes-told q told_as result found told is =
      let t : Tree = register r.0 held.process in
      let same : held.process ≡ q = same_Some held.process q (sym held.found ∙ found) in
      rw (← same, is ∙ ap measure_told (told.each always s.shared t standing)) (nodes-of (is_beyond s.shared t) (nodes s.shared t) (flat t))

  -- a tree that is printed, where this is known of it
  module _ (beyond : Bool) (known : (c : ℕ → ℕ → Bool) (shared : List (List ℕ)) (t : Tree) → Stands c shared mem w t → beyond ≡ is_beyond shared t) where
    abbrev pub tree : Tree
    tree = register r.0 held.process

    beyond-is : (is : Bool) → beyond ≡ is → is_beyond s.shared tree ≡ is
    beyond-is is e = sym (known always s.shared tree standing) ∙ e

    pub can-print : (names : List (List ℕ)) → b.named ≤ length names → beyond ≡ false → CanPrint mem names w
    can-print names more within = record {
      shared = s.shared;
      tree = tree;
      standing = standing;
      within = beyond-is false within;
      named = named-more b.named (length names) more tree held.held.names;
    }

    module _ {K : Type 0} (wrote : K → List ℕ → Type 0) (old new : K) (terms : Terms) (names : List (List ℕ)) where
      printed : (o : Result (Unit {0}) Stop) (is : Bool) → beyond ≡ is → Prints (tells s (unless_beyond is (text names s.shared tree))) wrote old new o
          → Prints (step s (said (OfProcess seat.pid (verb.Print r)) terms names)) wrote old new o
      printed o is e p =
          at-process s seat.pid held.process held.found (verb.Print r) terms names (λ z. Prints z wrote old new o) (rw (beyond-is is e) p)

      pub prints-big : beyond ≡ true → Prints {A = Unit {0}} {K = K} (step s (said (OfProcess seat.pid (verb.Print r)) terms names)) wrote old new (Err TooBig)
      prints-big is = printed (Err TooBig) true is refl

      pub prints-all : beyond ≡ false → ((c : ℕ → ℕ → Bool) (shared : List (List ℕ)) (t : Tree) → Stands c shared mem w t → Grew wrote old new (text names shared t))
          → Prints {A = Unit {0}} {K = K} (step s (said (OfProcess seat.pid (verb.Print r)) terms names)) wrote old new (Ok tt)
      prints-all is g = printed (Ok tt) false is (g always s.shared tree standing)

      pub prints-part : beyond ≡ false → ((c : ℕ → ℕ → Bool) (shared : List (List ℕ)) (t : Tree) → Stands c shared mem w t → GrewInPart wrote old new (text names shared t))
          → Prints {A = Unit {0}} {K = K} (step s (said (OfProcess seat.pid (verb.Print r)) terms names)) wrote old new (Err Fault)
      prints-part is g = printed (Err Fault) false is (g always s.shared tree standing)

-- two registers of one process
module _ {H : Type 0} (m : Meaning H) (b : Verbs H) (s : State) (o : VerbsStand m b s) (seat : Seat) (i j : Reg) (v w : ℕ) (first : IsHeld m b s o seat i v) (second : IsHeld m b s o seat j w)
    (mem : List ℕ) (same : mem ≡ m.mem b.heaps) where
  same-process : second.process ≡ first.process
  same-process = same_Some second.process first.process (sym second.found ∙ first.found)

  pub are-named : (names : List (List ℕ)) → b.named ≤ length names → AreNamed mem names v w
  are-named names more = record {
    shared = s.shared;
    first = register i.0 first.process;
    second = register j.0 second.process;
    first_stands = (standing m b s o seat i v first mem same);
    second_stands = (standing m b s o seat j w second mem same);
    first_named = named-more b.named (length names) more (register i.0 first.process) first.held.names;
    second_named = named-more b.named (length names) more (register j.0 second.process) second.held.names;
  }

  pub order-told : (x : Verb) (tell : Ordering → List ℕ) (terms : Terms) (names : List (List ℕ)) (c : Compared) (result : Result Ordering Refusal)
      → by_verb s (said (OfProcess seat.pid x) terms names) first.process x
      ≡ tells s (order_text s (said (OfProcess seat.pid x) terms names) tell (register i.0 first.process) (register j.0 first.process))
      → Compares mem names v w c → result ≡ order_told c → Tells (step s (said (OfProcess seat.pid x) terms names)) tell result
  order-told x tell terms names c result by told is =
      let t : Tree = register i.0 first.process in
      let u : Tree = register j.0 first.process in
      let all : c ≡ compared names s.shared t u = rw same-process at
      (told.each always s.shared t (register j.0 second.process) (standing m b s o seat i v first mem same) (standing m b s o seat j w second mem same)) in
      let Q : Outcome → Type 0 = λ z. Tells z tell (order_told (compared names s.shared t u)) in
      rw (is ∙ ap order_told all) (at-process s seat.pid first.process first.found x terms names Q
      (rw by (order-of s (is_beyond s.shared t || is_beyond s.shared u) (order names s.shared t u) tell)))

-- Messages that wait, and their texts one after the other.

-- A call that says apart what it wrote says so at once.
pub said-at-once : {K E : Type 0} (wrote : K → List ℕ → Type 0) (faults : K → ℕ) (old new : K) (x : List ℕ) (r : Result (Unit {0}) E) → Writes wrote old new r x → faults old ≤ faults new
    → OnErr r (Rose (faults old) (faults new)) → OnOk r (faults new ≡ faults old) → WritesTold wrote faults old new x r
said-at-once wrote faults old new x (Ok u) w later rose told = record { all = w; part = tt; later = later; rose = rose; told = told }
said-at-once wrote faults old new x (Err e) w later rose told = record { all = tt; part = w; later = later; rose = rose; told = told }

-- What was said at once, said apart.
pub said-apart : {K E : Type 0} (wrote : K → List ℕ → Type 0) (faults : K → ℕ) (old new : K) (x : List ℕ) (r : Result (Unit {0}) E) → WritesTold wrote faults old new x r → Writes wrote old new r x
said-apart wrote faults old new x (Ok u) w = w.all
said-apart wrote faults old new x (Err e) w = w.part

tree-at : (ts : List Tree) (i : ℕ) → i < length ts → drop i ts ≡ get_or ts i Nil ∷ drop (suc i) ts
tree-at [] i below = absurd (omega (arith, below))
tree-at (t ∷ ts) zero below = refl
tree-at (t ∷ ts) (suc i) below = tree-at ts i (omega (arith, below))

module _ (shared : List (List ℕ)) (mem : List ℕ) (named : ℕ) where
  messages-count : (ws : List ℕ) (ts : List Tree) → AreMessages shared mem named ws ts → length ts ≡ length ws
  messages-count [] [] a = refl
  messages-count [] (t ∷ ts) a = absurd a
  messages-count (w ∷ ws) [] a = absurd a
  messages-count (w ∷ ws) (t ∷ ts) a = ap suc (messages-count ws ts a.1)

-- The texts of the messages up to message i came, and these are the words of the others.
pub record Came {K : Type 0} (wrote : K → List ℕ → Type 0) (faults : K → ℕ) (names shared : List (List ℕ)) (mem : List ℕ) (ts : List Tree) (start now : K) (i : ℕ) (words : List ℕ) : Type 0 where
  pub count : length ts ≡ length words + i
  pub are : AreMessages shared mem (length names) words (drop i ts)
  pub grew : Grew wrote start now (divided (take i (map (text names shared) ts)))
  pub told : faults now ≡ faults start

-- So it is of all messages that the words may be.
abbrev pub Comes : {K : Type 0} (wrote : K → List ℕ → Type 0) (faults : K → ℕ) (names : List (List ℕ)) (mem all : List ℕ) (start now : K) (i : ℕ) (words : List ℕ) → Type 0
Comes wrote faults names mem all start now i words =
    (shared : List (List ℕ)) (ts : List Tree) → AreMessages shared mem (length names) all ts → Came wrote faults names shared mem ts start now i words

module _ {K : Type 0} (wrote : K → List ℕ → Type 0) (faults : K → ℕ) (names : List (List ℕ)) (mem all : List ℕ) (start : K) where
  pub come-none : Comes wrote faults names mem all start start 0 all
  come-none shared ts a = record {
    count = messages-count shared mem (length names) all ts a ∙ omega arith;
    are = a;
    grew = entries-begin wrote start (map (text names shared) ts);
    told = refl;
  }

  module _ (now : K) (i : ℕ) (words : List ℕ) (c : Comes wrote faults names mem all start now i words) where
    -- The message with this word comes next.
    module _ (w : ℕ) (rest : List ℕ) (is : words ≡ w ∷ rest) where
      parts : (shared : List (List ℕ)) (ts : List Tree) → Came wrote faults names shared mem ts start now i words
          → AreMessages shared mem (length names) (w ∷ rest) (get_or ts i Nil ∷ drop (suc i) ts)
      parts shared ts k =
          subst (AreMessages shared mem (length names) (w ∷ rest)) (tree-at ts i (omega (arith, k.count, ap length is))) (rw is at k.are)

      pub here-printable : HaveMessages mem (length names) all → CanPrint mem names w
      here-printable h =
          let m = (parts h.shared h.trees (c h.shared h.trees h.are)).0 in
          record { shared = h.shared; tree = get_or h.trees i Nil; standing = m.standing; within = m.within; named = m.named_below }

      entry : (shared : List (List ℕ)) (ts : List Tree) → Came wrote faults names shared mem ts start now i words
          → (divider (i == 0) ++ text names shared (get_or ts i Nil) ≡ entry_at (map (text names shared) ts) i)
          × ((i < length (map (text names shared) ts)) × Stands always shared mem w (get_or ts i Nil))
      entry shared ts k =
          let under : i < length ts = omega (arith, k.count, ap length is) in (
            ap (λ z. divider (i == 0) ++ z) (sym (get_or-map (text names shared) ts i Nil [] under)),
            (omega (arith, under, length-map ts (text names shared)), (parts shared ts k).0.standing),
          )

      -- Its text was written, or a fault came in it.
      pub come-more : (new : K) → ((shared : List (List ℕ)) (t : Tree) → Stands always shared mem w t → Grew wrote now new (divider (i == 0) ++ text names shared t)) → faults new ≡ faults now
          → Comes wrote faults names mem all start new (i + 1) rest
      come-more new wrote_here told shared ts a =
          let k = c shared ts a in
          let e = entry shared ts k in
          let next : suc i ≡ i + 1 = omega arith in
          record {
            count = omega (arith, k.count, ap length is);
            are = rw (sym next) (parts shared ts k).1;
            grew = entries-more wrote start now new (map (text names shared) ts) i e.1.0 k.grew (subst (Grew wrote now new) e.0 (wrote_here shared (get_or ts i Nil) e.1.1));
            told = told ∙ k.told;
          }

      pub come-short : {E F : Type 0} (new : K) (f : E) (r : Result (Unit {0}) F) → IsErr r
          → ((shared : List (List ℕ)) (t : Tree) → Stands always shared mem w t → WritesTold wrote faults now new (divider (i == 0) ++ text names shared t) (Err f))
          → (shared : List (List ℕ)) (ts : List Tree) → AreMessages shared mem (length names) all ts → WritesTold wrote faults start new (messages_text names shared ts) r
      come-short new f r failed wrote_here shared ts a =
          let k = c shared ts a in
          let e = entry shared ts k in
          entries-stop wrote faults start now new (map (text names shared) ts) i f r failed e.1.0 k.grew k.told
          (written-as wrote faults now new (divider (i == 0) ++ text names shared (get_or ts i Nil)) (entry_at (map (text names shared) ts) i) (Err f) e.0
          (wrote_here shared (get_or ts i Nil) e.1.1))

-- The messages of a row.
module _ (c : ℕ → ℕ → Bool) (shared : List (List ℕ)) (mem : List ℕ) (named many : ℕ) (more : named ≤ many) where
  messages-of : (ws : List ℕ) (ts : List Tree) → HoldTrees c shared mem named ws ts → AreWithin shared ts → AreMessages shared mem many ws ts
  messages-of [] [] h a = tt
  messages-of [] (t ∷ ts) h a = absurd h
  messages-of (w ∷ ws) [] h a = absurd h
  messages-of (w ∷ ws) (t ∷ ts) h a = (
    record { standing = stands-always c shared mem named w t h.0; within = a.0; named_below = named-more named many more t h.0.names },
    messages-of ws ts h.1 a.1,
  )

module _ {H : Type 0} (m : Meaning H) (b : Verbs H) (counts : IsCounted m b) (seat : Seat) (x : Sits m b seat) (words : List ℕ) (are : AreWaiting m seat.row b.heaps words)
    (names : List (List ℕ)) (more : b.named ≤ length names) where
  messages-there : (s : State) (o : VerbsStand m b s) → AreMessages s.shared (m.mem b.heaps) (length names) words (process_at s.processes seat.row).queue
  messages-there s o =
      messages-of (m.test b.named b.heaps s.shared s.processes o.processes.is seat.row) s.shared (m.mem b.heaps) b.named (length names) more words (process_at s.processes seat.row).queue
      (are.hold b.named s.shared s.processes o.processes) (within-at s.shared s.processes seat.row o.within)

  pub have-messages : (s : State) (o : VerbsStand m b s) → HaveMessages (m.mem b.heaps) (length names) words
  have-messages s o = record { shared = s.shared; trees = (process_at s.processes seat.row).queue; are = messages-there s o }

  -- What was written is the reply of `queue`.
  pub queue-writes : {K E : Type 0} (wrote : K → List ℕ → Type 0) (faults : K → ℕ) (old new : K) (r : Result (Unit {0}) E)
      → ((shared : List (List ℕ)) (ts : List Tree) → AreMessages shared (m.mem b.heaps) (length names) words ts → WritesTold wrote faults old new (whole_text names shared ts) r)
      → (s : State) (terms : Terms) → VerbsStand m b s → WritesReply (step s (said (OfProcess seat.pid verb.Queue) terms names)) wrote old new r
  queue-writes wrote faults old new r written s terms o =
      let q : Process = process_at s.processes seat.row in
      let line : Parsed = said (OfProcess seat.pid verb.Queue) terms names in
      rw (found-there m b s o counts seat x) (said-apart wrote faults old new (whole_text names s.shared q.queue) r (written s.shared q.queue (messages-there s o)))
