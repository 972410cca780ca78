-- `send`: a copy of a register's tree enters a queue.
use Rattle.std.proofs.Common.{◌≡◌, ℕ, zero, suc, ◌<◌, ◌≤◌, ◌==◌, false, List, [], ◌∷◌, ◌++◌, length, map, get_or, set, if◌then◌else◌, ◌∙◌, ap, refl, arith, Bool, true, cond, Option, Some, inl, inr, sym, ◌+◌, true≢false, slice_index, None, Result, Ok, Err}
use Rattle.std.specs.List.{list_any}
use Rattle.std.specs.Vec.{vec_len}
use Rattle.std.proofs.lemmas.Bool.{or_parts}
use Rattle.std.proofs.lemmas.Bool.Decides.{nat_tests}
use Rattle.plain_term.specs.Tree.{Tree}
use Rattle.plain_machine.specs.State.{Process, with_queued, State, process_of, register, is_live}
use Rattle.space_api.specs.Calls.{AreRising, Follows, said}
use Rattle.std.proofs.lemmas.Option.{same_Some}
use Rattle.plain_term.specs.Tree.Tree.{Int, Atom, Pid, Ref, Nil, Cons, Tuple, Map, Bin, Shared, Part, Fun}
use Rattle.plain_term.specs.Beyond.{is_beyond}
use Rattle.plain_term.specs.Measures.{flat, nodes}
use Rattle.script_grammar.specs.declared.command.Reg.{Reg}
use Rattle.script_grammar.specs.declared.command.To.{To}
use Rattle.script_grammar.specs.declared.command.To.TheVariants.{Held}
use Rattle.plain_machine.specs.Tightness.{pid_number, receiver, verb_words}
use Rattle.term_words.specs.Role.{always}
use Rattle.term_read.specs.Look.{IsSeen, Sees}
use Rattle.term_read.specs.declared.looks.Look.{Look}
use Rattle.term_walk.specs.Measured.{measured, Measures}
use Rattle.term_walk.specs.declared.measured.Measured.TheVariants.{Within, Beyond}
use Rattle.term_walk.specs.declared.measured.Measure.{Measure}
use Rattle.space_api.specs.declared.space.Seat.{Seat}
use Rattle.heaps_api.specs.Meaning.{Meaning, HoldsThere, Stood, no_process}
use Rattle.script_grammar.specs.declared.command.Command.TheVariants.{Process as OfProcess}
use Rattle.script_grammar.specs.declared.command.Verb.{Verb}
use Rattle.script_grammar.specs.declared.command.Verb.TheVariants as verb
use Rattle.script_grammar.specs.declared.refusal.Refusal.{Refusal}
use Rattle.script_grammar.specs.declared.refusal.Refusal.TheVariants as refusal
use Rattle.script_grammar.specs.Written.{Terms}
use Rattle.script_grammar.specs.Written.Terms.{end}
use Rattle.plain_machine.specs.Step.{by_verb, send_within, step}
use Rattle.plain_machine.specs.May.{gets_to_space}
use Rattle.plain_machine.proofs.Properly.Holding.{sent-within}
use Rattle.term_words.specs.Stands.{Stands}
use Rattle.term_walk.specs.declared.measured.Measured.{Measured}
use Rattle.heaps_api.specs.Changing.{CanSendTo, Looks, SendsTo, process_at}
use Rattle.heaps_api.specs.Wanted.{words_of_want}
use Rattle.heaps_api.specs.declared.wanted.Want.TheVariants.{Message}
use Rattle.process_verbs.proofs.Processes.{later-above, process_numbers, found-there, lives, number-there, rising-there, within-there}
use Rattle.process_verbs.specs.Verbs.{VerbsStand, Holds, IsCounted, Sits, memory_words}
use Rattle.process_verbs.specs.Telling.{IsHeld, number_seen}
use Rattle.process_verbs.specs.declared.verbs.Verbs.{Verbs}
use Rattle.process_verbs.proofs.Telling.{standing}
use Rattle.process_verbs.specs.Asked.{Searches}
use Rattle.process_verbs.specs.Doing.{Asks, AsksForMessage, AsksToSend, AsksWhere, Does}
use Rattle.process_verbs.proofs.Steps.{counts-gained, at-seat, counts-stay, holds-become, refuses, after, heaps-are, lacks-after, looks-found, looks-lacking, no-space-told}
use Rattle.process_verbs.proofs.Bringing.Gaining.{asks-gained, asks-lacks}
use Rattle.process_verbs.proofs.Moving.Sizing.{within-few}

-- A message enters one queue, or none where no process has the number.

-- The process with a message more.
abbrev pub queued : Tree → Process → Process
queued t q = record q { queue = q.queue ++ t ∷ [] }

this-one : (n : ℕ) (t : Tree) (q : Process) → q.number ≡ n → with_queued n t q ≡ queued t q
this-one n t q e = grind (arith, nat_tests)

other-one : (n : ℕ) (t : Tree) (q : Process) → (q.number ≡ n → ⊥) → with_queued n t q ≡ q
other-one n t q other = grind (arith, nat_tests)

pub none-queued : (qs : List Process) (n : ℕ) (t : Tree) → list_any (λ q. q.number == n) qs ≡ false → map (with_queued n t) qs ≡ qs
none-queued [] n t e = refl
none-queued (q ∷ qs) n t e =
    let l = or_parts (q.number == n) (list_any (λ q. q.number == n) qs) e in
    ap (λ z. z ∷ map (with_queued n t) qs) (ap (λ b. if b then queued t q else q) l.0) ∙ ap (λ z. q ∷ z) (none-queued qs n t l.1)

others-queued : (qs : List Process) (a n : ℕ) (t : Tree) → AreRising a (process_numbers qs) → n ≤ a → map (with_queued n t) qs ≡ qs
others-queued [] a n t r up = refl
others-queued (q ∷ qs) a n t r up =
    ap (λ x. x ∷ map (with_queued n t) qs) (other-one n t q (λ same. omega (arith, same, up, r.0))) ∙ ap (λ x. q ∷ x) (others-queued qs q.number n t r.1 (omega (arith, up, r.0)))

pub one-queued : (qs : List Process) (i a n : ℕ) (d : Process) (t : Tree) → AreRising a (process_numbers qs) → i < length qs → (get_or qs i d).number ≡ n
    → map (with_queued n t) qs ≡ set qs i (queued t (get_or qs i d))
one-queued [] i a n d t r less e = absurd (omega (arith, less))
one-queued (q ∷ qs) zero a n d t r less e = ap (λ x. x ∷ map (with_queued n t) qs) (this-one n t q e) ∙ ap (λ x. queued t q ∷ x) (others-queued qs q.number n t r.1 (omega (arith, e)))
one-queued (q ∷ qs) (suc i) a n d t r less e =
    ap (λ x. x ∷ map (with_queued n t) qs) (other-one n t q (λ same. omega (arith, same, e, later-above qs i q.number d r.1 (omega (arith, less)))))
    ∙ ap (λ x. q ∷ x) (one-queued qs i q.number n d t r.1 (omega (arith, less)) e)

-- What is known of a message before it is sent: the number that its operand names, and what a measure says of its tree.

-- A look that sees a pid is one of a word for a pid, and no other.
seen-number : (c : ℕ → ℕ → Bool) (shared : List (List ℕ)) (mem : List ℕ) (w : ℕ) (t : Tree) (l : Look) → IsSeen c shared mem w t l → number_seen l ≡ pid_number t
seen-number c shared mem w (Int i) l s = elim s [ inl small ↦ ap number_seen small.1 | inr big ↦ ap number_seen big.2 ]
seen-number c shared mem w (Atom k) l s = ap number_seen s
seen-number c shared mem w (Pid n) l s = ap number_seen s
seen-number c shared mem w (Ref n k) l s = ap number_seen s
seen-number c shared mem w Nil l s = ap number_seen s
seen-number c shared mem w (Cons h t) l s = ap number_seen s.0
seen-number c shared mem w (Tuple ts) l s = ap number_seen s.0
seen-number c shared mem w (Map ps) l s = ap number_seen s.0
seen-number c shared mem w (Fun name arity creator env) l s = ap number_seen s.0
seen-number c shared mem w (Bin bytes) l s = ap number_seen s.0
seen-number c shared mem w (Shared id) l s = ap number_seen s.0
seen-number c shared mem w (Part base offset len) l s = ap number_seen s.1

-- The number that a register names.
pub heard : {H : Type 0} (m : Meaning H) (b : Verbs H) (s : State) (o : VerbsStand m b s) (seat : Seat) (r : Reg) (w : ℕ) (held : IsHeld m b s o seat r w) (mem : List ℕ)
    → mem ≡ m.mem b.heaps → (q : Process) → process_of seat.pid s ≡ Some q → (l : Look) → Sees mem w l → (to : To) → to ≡ Held r → (n : Option ℕ) → n ≡ number_seen l → n ≡ receiver to q
heard m b s o seat r w held mem same q found l sees to is n told =
    let one : held.process ≡ q = same_Some held.process q (sym held.found ∙ found) in
    rw (is, ← one) ((told ∙ seen-number always s.shared mem w (register r.0 held.process) l (sees.each always s.shared (register r.0 held.process)
    (standing m b s o seat r w held mem same))))

-- What a measure says of the tree.
pub none-within : (shared : List (List ℕ)) (t : Tree) (m : Measure) → Within m ≡ measured shared t → (is_beyond shared t ≡ false) × (m.flat ≡ flat t)
none-within shared t m e = by (is_beyond shared t) e
  where
    by : (b : Bool) → Within m ≡ cond b Beyond (Within (record { nodes = nodes shared t; flat = flat t })) → (b ≡ false) × (m.flat ≡ flat t)
    by true e = absurd cc
    by false e = (refl, flat-of e)
      where
        flat-of : Within m ≡ Within (record { nodes = nodes shared t; flat = flat t }) → m.flat ≡ flat t
        flat-of e = cc

pub is-over : (shared : List (List ℕ)) (t : Tree) → Beyond ≡ measured shared t → is_beyond shared t ≡ true
is-over shared t e = by (is_beyond shared t) e
  where
    by : (b : Bool) → Beyond ≡ cond b Beyond (Within (record { nodes = nodes shared t; flat = flat t })) → b ≡ true
    by true e = refl
    by false e = absurd cc

module _ {H : Type 0} (m : Meaning H) (b : Verbs H) (holds : Holds m b) (seat : Seat) (x : Sits m b seat) (r : Reg) (to : To) where
  -- The verb.
  abbrev v : Verb
  v = verb.Send r to

  abbrev q : State → Process
  q s = process_at s.processes seat.row

  abbrev tree : State → Tree
  tree s = register r.0 (q s)

  same-process : (s : State) → VerbsStand m b s → (p : Process) → process_of seat.pid s ≡ Some p → q s ≡ p
  same-process s o p e = same_Some (q s) p (sym (found-there m b s o holds.counts seat x) ∙ e)

  -- The operand names this number in each state that the verbs stand for.
  abbrev pub Hears : Option ℕ → Type 0
  Hears heard = (s : State) (p : Process) → VerbsStand m b s → process_of seat.pid s ≡ Some p → heard ≡ receiver to p

  hears-there : (heard : Option ℕ) → Hears heard → (s : State) → VerbsStand m b s → heard ≡ receiver to (q s)
  hears-there heard hears s o = hears s (q s) o (found-there m b s o holds.counts seat x)

  -- The operand names none.
  pub send-deaf : Hears None → Does {A = Unit {0}} m (OfProcess seat.pid v) b b (Err refusal.BadArg)
  send-deaf hears = refuses m b holds seat x v (Unit {0}) refusal.BadArg (λ s terms names o. rw (← hears-there None hears s o) refl)

  pub deaf-asks : Hears None → (s : State) (p : Process) → VerbsStand m b s → process_of seat.pid s ≡ Some p
      → AsksToSend {A = Unit {0}} m (receiver to p) s (register r.0 p) b b (Err refusal.BadArg)
  deaf-asks hears s p o found = rw (← hears s p o found) refl

  -- It names a number, and the word of the register was read in this memory.
  pub record Heard : Type 0 where
    pub number : ℕ
    pub hears : Hears (Some number)
    pub word : ℕ
    pub held : (s : State) (o : VerbsStand m b s) → IsHeld m b s o seat r word
    pub mem : List ℕ
    pub same : mem ≡ m.mem b.heaps

  module _ (known : Heard) where
    abbrev n : ℕ
    n = known.number

    -- The step for this number, where this is known of the tree.
    at-number : (s : State) → VerbsStand m b s → (terms : Terms) (names : List (List ℕ)) (over : Bool) → is_beyond s.shared (tree s) ≡ over
        → by_verb s (said (OfProcess seat.pid v) terms names) (q s) v ≡ send_within over n (tree s) s (said (OfProcess seat.pid v) terms names)
    at-number s o terms names over is = rw (← hears-there (Some n) known.hears s o, is) refl

    stands-there : (s : State) → VerbsStand m b s → Stands always s.shared known.mem known.word (tree s)
    stands-there s o =
        let here = known.held s o in
        rw (same-process s o here.process here.found) (standing m b s o seat r known.word here known.mem known.same)

    measured-there : (k : Measured) → Measures known.mem known.word k → (s : State) → VerbsStand m b s → k ≡ measured s.shared (tree s)
    measured-there k told s o = told.each always s.shared (tree s) (stands-there s o)

    -- An asking that is known for this number.
    asks-at : (s : State) (p : Process) → VerbsStand m b s → process_of seat.pid s ≡ Some p → (b2 : Verbs H) (res : Result (Unit {0}) Refusal)
        → AsksWhere m (is_live n s) (flat (tree s)) n b b2 res → AsksToSend m (receiver to p) s (register r.0 p) b b2 res
    asks-at s p o found b2 res a =
        rw (← known.hears s p o found, ← same-process s o p found) a

    -- The tree is beyond the walk limit.
    module _ (told : Measures known.mem known.word Beyond) where
      pub send-big : Does {A = Unit {0}} m (OfProcess seat.pid v) b b (Err refusal.Big)
      send-big = refuses m b holds seat x v (Unit {0}) refusal.Big (λ s terms names o. at-number s o terms names true (is-over s.shared (tree s) (measured-there Beyond told s o)))

      pub big-asks : (s : State) (p : Process) → VerbsStand m b s → process_of seat.pid s ≡ Some p → AsksToSend {A = Unit {0}} m (receiver to p) s (register r.0 p) b b (Err refusal.Big)
      big-asks s p o found = asks-at s p o found b (Err refusal.Big) (by (is_live n s))
        where
          by : (live : Bool) → AsksWhere {A = Unit {0}} m live (flat (tree s)) n b b (Err refusal.Big)
          by true = record { row = 0; number = λ e. absurd (true≢false e); unless = record { early = λ e. refl; asks = λ e. absurd (true≢false e) }; sent = λ e. absurd (true≢false e) }
          by false = refl

    -- The tree is within it.
    module _ (size : Measure) (told : Measures known.mem known.word (Within size)) where
      within : (s : State) → VerbsStand m b s → is_beyond s.shared (tree s) ≡ false
      within s o = (none-within s.shared (tree s) size (measured-there (Within size) told s o)).0

      flat-is : (s : State) → VerbsStand m b s → size.flat ≡ flat (tree s)
      flat-is s o = (none-within s.shared (tree s) size (measured-there (Within size) told s o)).1

      pub size-few : size.flat ≤ 16777216
      size-few =
          let s = holds.state in
          let o = holds.stands in
          omega (arith, flat-is s o, within-few always s.shared known.mem known.word (tree s) (stands-there s o) (within s o))

      -- No process with the number lives.
      module _ (dead : false ≡ list_any (λ k. k == n) (m.numbers b.heaps)) where
        dead-there : (s : State) → VerbsStand m b s → is_live n s ≡ false
        dead-there s o = sym (dead ∙ lives m b s o n)

        quiet-stands : (s : State) (terms : Terms) (names : List (List ℕ)) → VerbsStand m b s
            → Follows {A = Unit {0}} (step s (said (OfProcess seat.pid v) terms names)) s (Ok tt) (VerbsStand m (after b b.heaps))
        quiet-stands s terms names o = rw (at-seat m b holds seat x v s o terms names, at-number s o terms names false (within s o)) (record {
          processes = rw (none-queued s.processes n (tree s) (dead-there s o)) o.processes;
          next = o.next;
          swept = refl;
          shared = o.shared;
          areas = o.areas;
          within = sent-within s.shared n (tree s) s.processes (within s o, tt) o.within;
          tidy = λ e. absurd (true≢false (sym e));
        })

        pub dead-does : Does {A = Unit {0}} m (OfProcess seat.pid v) b (after b b.heaps) (Ok tt)
        dead-does = record {
          holds = holds-become m (memory_words m b) (after b b.heaps) holds.state (said (OfProcess seat.pid v) end []) (Ok tt)
              (counts-stay m b (after b b.heaps) holds.counts refl refl refl (omega arith) refl holds.counts.whole) (inl (quiet-stands holds.state end [] holds.stands));
          becomes = λ s terms names o. inl (quiet-stands s terms names o);
          books = record { same_words = refl; one_call = omega arith; few_names = omega arith };
        }

        pub dead-asks : (s : State) (p : Process) → VerbsStand m b s → process_of seat.pid s ≡ Some p
            → AsksToSend {A = Unit {0}} m (receiver to p) s (register r.0 p) b (after b b.heaps) (Ok tt)
        dead-asks s p o found = asks-at s p o found (after b b.heaps) (Ok tt) (rw (dead-there s o) refl)

      -- The process with the number has its row here, and room was looked for.
      module _ (row : ℕ) (place : (row < length (m.numbers b.heaps)) × (slice_index (m.numbers b.heaps) row ≡ n)) (live : true ≡ list_any (λ k. k == n) (m.numbers b.heaps))
          (c : Verbs H) (res : Result (Unit {0}) Refusal) (asked : Searches m (Message row size.flat) b c res) where
        abbrev seat2 : Seat
        seat2 = record { pid = n; row = row }

        sits2 : Sits m b seat2
        sits2 = record { within = place.0; number = place.1 }

        live-there : (s : State) → VerbsStand m b s → is_live n s ≡ true
        live-there s o = sym (live ∙ lives m b s o n)

        words-there : (s : State) (terms : Terms) (names : List (List ℕ)) → VerbsStand m b s
            → verb_words s (said (OfProcess seat.pid v) terms names) (q s) v ≡ words_of_want (Message row size.flat)
        words-there s terms names o = rw (← hears-there (Some n) known.hears s o, live-there s o, flat-is s o) refl

        gets-there : (s : State) (terms : Terms) (names : List (List ℕ)) → VerbsStand m b s
            → gets_to_space (OfProcess seat.pid v) (by_verb s (said (OfProcess seat.pid v) terms names) (q s) v) ≡ true
        gets-there s terms names o = rw (at-number s o terms names false (within s o)) refl

        pub send-lacks : (e : Refusal) → res ≡ Err e → Does {A = Unit {0}} m (OfProcess seat.pid v) b c (Err e)
        send-lacks e is =
            lacks-after m b c (Message row size.flat) res asked holds seat x v (Unit {0}) e is (λ s terms names o. (words-there s terms names o, gets-there s terms names o))

        asks-live : (s : State) (p : Process) → VerbsStand m b s → process_of seat.pid s ≡ Some p → (b2 : Verbs H) (answer : Result (Unit {0}) Refusal)
            → AsksForMessage m size.flat n b b2 answer → AsksToSend m (receiver to p) s (register r.0 p) b b2 answer
        asks-live s p o found b2 answer a =
            asks-at s p o found b2 answer (rw (live-there s o, ← flat-is s o) a)

        lacks-told : (e : Refusal) → res ≡ Err e → AsksForMessage {A = Unit {0}} m size.flat n b c (Err (refusal.NoSpace (words_of_want (Message row size.flat))))
        lacks-told e is =
            let asks = asks-lacks m b holds (Unit {0}) (Message row size.flat) asked.heaps (looks-lacking m b c (Message row size.flat) res asked e is) in
            let lost : Asks {A = Unit {0}} m (Message row size.flat) b c (Err (refusal.NoSpace (words_of_want (Message row size.flat)))) = rw asked.same (asks _) in
            record { row = row; number = λ f. place; unless = record { early = λ f. absurd (true≢false (sym f)); asks = λ f. lost }; sent = λ f. tt }

        pub lacks-asks : (e : Refusal) → res ≡ Err e → (s : State) (p : Process) → VerbsStand m b s → process_of seat.pid s ≡ Some p
            → AsksToSend {A = Unit {0}} m (receiver to p) s (register r.0 p) b c (Err e)
        lacks-asks e is s p o found =
            asks-live s p o found c (Err e) (rw (no-space-told m b c (Message row size.flat) res asked e is) (lacks-told e is))

        module _ (u : Unit {0}) (given : res ≡ Ok u) (w2 : ℕ) (held2 : (s : State) (o : VerbsStand m c s) → IsHeld m c s o seat r w2) where
          looks-there : Looks m (Message row size.flat) b.heaps asked.heaps true
          looks-there = looks-found m b c (Message row size.flat) res asked u given

          same-heaps : c.heaps ≡ asked.heaps
          same-heaps = heaps-are m b c (Message row size.flat) res asked

          held-after : (s : State) (o : VerbsStand m b s) → HoldsThere m c.named c.heaps s.shared s.processes (asked.stands s o).processes seat.row w2 (tree s)
          held-after s o =
              let here = held2 s (asked.stands s o) in
              rw (same-process s o here.process here.found) here.held

          room-there : m.has_room (Message row (flat (tree holds.state))) c.heaps
          room-there = rw (same-heaps, ← flat-is holds.state holds.stands) (looks-there.room refl)

          pub can-send : CanSendTo m row w2 c.heaps
          can-send = record {
            named = c.named;
            shared = holds.state.shared;
            processes = holds.state.processes;
            stood = (asked.stands holds.state holds.stands).processes;
            tree = tree holds.state;
            from = seat.row;
            held = held-after holds.state holds.stands;
            room = room-there;
          }

          module _ (h : H) (sends : SendsTo m row w2 c.heaps h) where
            sent-stands : (s : State) (terms : Terms) (names : List (List ℕ)) → VerbsStand m b s
                → Follows {A = Unit {0}} (step s (said (OfProcess seat.pid v) terms names)) s (Ok tt) (VerbsStand m (after c h))
            sent-stands s terms names o =
                let o1 = asked.stands s o in
                let entered : Stood m c.named h s.shared (set s.processes row (queued (tree s) (process_at s.processes row))) =
                (sends.entered c.named s.shared s.processes o1.processes seat.row (tree s) (held-after s o)).1 in
                let one : map (with_queued n (tree s)) s.processes ≡ set s.processes row (queued (tree s) (process_at s.processes row)) =
                one-queued s.processes row 0 n no_process (tree s) (rising-there m b s o holds.counts) (within-there m b s o holds.counts seat2 sits2)
                (number-there m b s o holds.counts seat2 sits2) in
                rw (at-seat m b holds seat x v s o terms names, at-number s o terms names false (within s o)) (record {
                  processes = rw one entered;
                  next = o1.next;
                  swept = refl;
                  shared = o1.shared;
                  areas = o.areas;
                  within = sent-within s.shared n (tree s) s.processes (within s o, tt) o.within;
                  tidy = λ e. absurd (true≢false (sym e));
                })

            calls-are : c.calls ≡ b.calls + 1
            calls-are = ap (λ z. z.calls) asked.same

            sent-counts : IsCounted m (after c h)
            sent-counts = counts-gained m b holds (Message row size.flat) asked.heaps true looks-there (after c h) (rw same-heaps at sends.stays) (ap (λ z. vec_len z.scratch) asked.same)
                (ap (λ z. z.next) asked.same) calls-are (omega (arith, ap (λ z. z.serials) asked.same, calls-are, holds.counts.serials))

            pub sent-does : Does {A = Unit {0}} m (OfProcess seat.pid v) b (after c h) (Ok tt)
            sent-does = record {
              holds = holds-become m (memory_words m b) (after c h) holds.state (said (OfProcess seat.pid v) end []) (Ok tt) sent-counts
                  (inl (sent-stands holds.state end [] holds.stands));
              becomes = λ s terms names o. inl (sent-stands s terms names o);
              books = record {
                same_words = sends.stays.goes.words ∙ (ap (λ z. length (m.mem z)) same-heaps ∙ looks-there.stays.goes.words);
                one_call = omega (arith, calls-are);
                few_names = omega (arith, ap (λ z. z.named) asked.same);
              };
            }

            took-there : m.took (Message row size.flat) asked.heaps h
            took-there =
                let s = holds.state in
                let o = holds.stands in
                rw (← same-heaps, flat-is s o) (sends.entered c.named s.shared s.processes (asked.stands s o).processes seat.row (tree s) (held-after s o)).0

            sent-told : AsksForMessage {A = Unit {0}} m size.flat n b (after c h) (Ok tt)
            sent-told = record {
              row = row;
              number = λ f. place;
              unless = record {
                early = λ f. absurd (true≢false (sym f));
                asks = λ f. asks-gained m b holds (Unit {0}) (Message row size.flat) asked.heaps looks-there (after c h) tt took-there;
              };
              sent = λ f. record {
                within = omega (arith, place.0, ap length looks-there.stays.rows);
                number = ap (λ ns. slice_index ns row) looks-there.stays.rows ∙ place.1;
                sent = rw (← same-heaps) sends.sent;
              };
            }

            pub sent-asks : (s : State) (p : Process) → VerbsStand m b s → process_of seat.pid s ≡ Some p
                → AsksToSend {A = Unit {0}} m (receiver to p) s (register r.0 p) b (after c h) (Ok tt)
            sent-asks s p o found = asks-live s p o found (after c h) (Ok tt) sent-told
