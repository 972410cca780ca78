-- `mapput`, `hd`, `tl`, `elem` and `mapget`: a register's map with a pair more, and the part that is picked, or there is none.
use Rattle.std.proofs.Common.{◌≡◌, ℕ, ◌+◌, ◌*◌, ◌<◌, ◌≤◌, Bool, true, false, nat_lt, List, Some, Result, Ok, Err, refl, sym, ◌∙◌, ap, subst, arith, inl, length, true≢false, get_or, Option, None}
use Rattle.std.proofs.lemmas.Bool.{both_ways}
use Rattle.std.proofs.lemmas.Bool.Decides.{nat_tests}
use Rattle.std.proofs.lemmas.Option.{same_Some}
use Rattle.plain_term.specs.Tree.{Tree, Pairs, pairs_len}
use Rattle.plain_term.specs.Tree.Tree.{Int, Atom, Pid, Ref, Nil, Cons, Tuple, Map, Bin, Shared, Part, Fun}
use Rattle.plain_term.specs.Beyond.{is_beyond}
use Rattle.plain_term.specs.InOrder.{put_pair}
use Rattle.script_grammar.specs.declared.command.Command.TheVariants.{Process as OfProcess}
use Rattle.script_grammar.specs.declared.command.Reg.{Reg}
use Rattle.script_grammar.specs.declared.command.Verb.{Verb}
use Rattle.script_grammar.specs.declared.command.Verb.TheVariants as verb
use Rattle.script_grammar.specs.declared.refusal.Refusal.TheVariants as refusal
use Rattle.script_grammar.specs.Written.{Terms}
use Rattle.term_tags.specs.declared.layouts.TheConstants.{MOST_KEYS}
use Rattle.term_words.specs.Stands.{Stands}
use Rattle.term_verbs.specs.declared.pairs.Place.{Place}
use Rattle.term_verbs.specs.declared.pairs.PutStop.{PutStop}
use Rattle.term_verbs.specs.declared.pairs.PutStop.TheVariants as put
use Rattle.term_verbs.specs.Found.{AreSorted}
use Rattle.term_verbs.specs.Picked.{HasSorted, CanSeek, CanPick, HasKey, IsPart}
use Rattle.term_verbs.specs.Placed.{PlaceFits, IsPlaceInMap, put_at_spot}
use Rattle.term_verbs.proofs.Placing.{placed-count, placed-put}
use Rattle.term_verbs.proofs.Sorted.{proper-sorted}
use Rattle.plain_machine.specs.Parts.{pairs_in, picked}
use Rattle.plain_machine.specs.State.{HasNames, Process, State, process_of, register, with_process, with_register}
use Rattle.script_grammar.specs.Names.{IsRegister, Parsed, PicksRegister}
use Rattle.plain_machine.specs.Step.{does, put_unless_big, put_unless_wide, put_into, choose}
use Rattle.plain_machine.specs.Step.Outcome.{Refused}
use Rattle.plain_machine.specs.Tightness.{key_count}
use Rattle.space_api.specs.Calls.{Properly, said}
use Rattle.space_api.specs.declared.space.Seat.{Seat}
use Rattle.term_words.specs.Role.{always}
use Rattle.term_words.proofs.Framing.Rooms.{weaken, is-term}
use Rattle.plain_term.specs.Proper.{is_proper}
use Rattle.plain_machine.specs.Laws.{HoldsProper}
use Rattle.plain_machine.proofs.Properly.Holding.{before, found-proper}
use Rattle.plain_machine.proofs.Properly.Parts.{at-proper}
use Rattle.heaps_api.specs.Meaning.{Meaning, HoldsThere}
use Rattle.heaps_api.specs.Changing.{process_at}
use Rattle.heaps_api.specs.declared.making.Make.{Make}
use Rattle.heaps_api.specs.declared.making.Make.TheVariants as make
use Rattle.heaps_api.specs.declared.wanted.Want.TheVariants as want
use Rattle.script_grammar.specs.declared.refusal.Refusal.{Refusal}
use Rattle.heaps_api.proofs.Naming.{named-more}
use Rattle.script_grammar.specs.declared.command.Pick.{Pick}
use Rattle.script_grammar.specs.declared.command.Pick.TheVariants as pick
use Rattle.script_grammar.specs.declared.refusal.Refusal.TheVariants.{BadArg}
use Rattle.term_words.proofs.Placing.Single.{single}
use Rattle.term_read.specs.Parts.{AnswersPart}
use Rattle.heaps_api.proofs.Holding.{held-at as held-in}
use Rattle.heaps_api.specs.Reading.{AreRegisters}
use Rattle.process_verbs.specs.Verbs.{Holds, Sits, VerbsStand}
use Rattle.process_verbs.specs.Asked.{HasMade, MakesTerm, HoldsSome, PutsInto}
use Rattle.process_verbs.specs.Doing.{AsksUnless, DoesBy, refusal_of_put, takes_part}
use Rattle.process_verbs.specs.Telling.{IsHeld}
use Rattle.process_verbs.specs.declared.verbs.Verbs.{Verbs}
use Rattle.process_verbs.proofs.Processes.{found-there}
use Rattle.process_verbs.proofs.Steps.{at-seat}
use Rattle.process_verbs.proofs.Bringing.Gaining.{held-at, made-unless, stands-at}

is-many : (n : ℕ) → MOST_KEYS < n → nat_lt MOST_KEYS n ≡ true
is-many n many = grind (arith, nat_tests)

is-few : (n : ℕ) → n ≤ MOST_KEYS → nat_lt MOST_KEYS n ≡ false
is-few n few = grind (arith, nat_tests)

-- What the answer of a search says of the tree.
record HasPairs (names shared : List (List ℕ)) (t k : Tree) (place : Place) : Type 0 where
  pairs : Pairs
  is : t ≡ Map pairs
  fits : PlaceFits names shared pairs k place

has-pairs : (names shared : List (List ℕ)) (t k : Tree) (place : Place) → IsPlaceInMap names shared t k (Ok place) → HasPairs names shared t k place
has-pairs names shared (Map ps) k place f = record { pairs = ps; is = refl; fits = f }
has-pairs names shared (Int i) k place f = absurd cc
has-pairs names shared (Atom i) k place f = absurd cc
has-pairs names shared (Pid i) k place f = absurd cc
has-pairs names shared (Ref i j) k place f = absurd cc
has-pairs names shared Nil k place f = absurd cc
has-pairs names shared (Cons h t) k place f = absurd cc
has-pairs names shared (Tuple ts) k place f = absurd cc
has-pairs names shared (Bin bytes) k place f = absurd cc
has-pairs names shared (Shared id) k place f = absurd cc
has-pairs names shared (Part base offset len) k place f = absurd cc
has-pairs names shared (Fun f0 a c env) k place f = absurd cc

no-stop : (e : PutStop) → ◌≡◌ {A = Result Place PutStop} (Err e) (Err put.NoMap) → refusal_of_put e ≡ refusal.BadArg
no-stop put.NoMap e = refl
no-stop put.Big e = absurd cc
no-stop put.Full e = absurd cc

-- The machine's step for a line, a process and a register, with a key and a value.
module _ (k v : Tree) (s : State) (line : Parsed) (q : Process) (r : ℕ) where
  -- It refuses the pair for the reason that the search has.
  stops-at : (ps : Pairs) (e : PutStop) → AreSorted line.names s.shared ps → IsPlaceInMap line.names s.shared (Map ps) k (Err e) → (big : Bool) → is_beyond s.shared k ≡ big
      → put_unless_big big (put_pair line.names s.shared k v ps) s line q r ≡ Refused (refusal_of_put e)
  stops-at ps put.NoMap sorted f big is = absurd f
  stops-at ps put.Big sorted f true is = refl
  stops-at ps put.Big sorted f false is = absurd (both_ways (is_beyond s.shared k) is f)
  stops-at ps put.Full sorted f true is = absurd (both_ways (is_beyond s.shared k) f.small is)
  stops-at ps put.Full sorted f false is =
      ap (λ z. put_unless_wide z (put_pair line.names s.shared k v ps) s line q r) (is-many (pairs_len (put_pair line.names s.shared k v ps)) (f.many v sorted))

  no-map-stops : (e : PutStop) → ◌≡◌ {A = Result Place PutStop} (Err e) (Err put.NoMap) → Refused refusal.BadArg ≡ Refused (refusal_of_put e)
  no-map-stops e is = ap Refused (sym (no-stop e is))

  put-stops : (t : Tree) (e : PutStop) → HasSorted line.names s.shared t → IsPlaceInMap line.names s.shared t k (Err e) → put_into (pairs_in t) k v s line q r ≡ Refused (refusal_of_put e)
  put-stops (Map ps) e sorted f = stops-at ps e sorted f (is_beyond s.shared k) refl
  put-stops (Int i) e sorted f = no-map-stops e f
  put-stops (Atom i) e sorted f = no-map-stops e f
  put-stops (Pid i) e sorted f = no-map-stops e f
  put-stops (Ref i j) e sorted f = no-map-stops e f
  put-stops Nil e sorted f = no-map-stops e f
  put-stops (Cons h t) e sorted f = no-map-stops e f
  put-stops (Tuple ts) e sorted f = no-map-stops e f
  put-stops (Bin bytes) e sorted f = no-map-stops e f
  put-stops (Shared id) e sorted f = no-map-stops e f
  put-stops (Part base offset len) e sorted f = no-map-stops e f
  put-stops (Fun f0 a c env) e sorted f = no-map-stops e f

  -- It puts the pair at its place.
  put-steps : (ps : Pairs) (place : Place) → AreSorted line.names s.shared ps → PlaceFits line.names s.shared ps k place
      → put_into (Some ps) k v s line q r ≡ does line (with_process (with_register r (Map (put_at_spot place.spot k v ps)) q) s)
  put-steps ps place sorted f =
      let same : put_at_spot place.spot k v ps ≡ put_pair line.names s.shared k v ps = placed-put line.names s.shared k v place.spot ps (f.finds sorted) in
      let few : pairs_len (put_pair line.names s.shared k v ps) ≤ MOST_KEYS = omega (arith, sym (ap pairs_len same), placed-count place.spot ps k v, f.few) in
      ap (λ z. put_unless_big z (put_pair line.names s.shared k v ps) s line q r) f.small
      ∙ ap (λ z. put_unless_wide z (put_pair line.names s.shared k v ps) s line q r) (is-few (pairs_len (put_pair line.names s.shared k v ps)) few)
      ∙ ap (λ z. does line (with_process (with_register r (Map z) q) s)) (sym same)

module _ {H : Type 0} (m : Meaning H) (b : Verbs H) (holds : Holds m b) (seat : Seat) (x : Sits m b seat) where
  -- In a state whose trees are proper, the tree of a register is proper with the names of the line too.
  pub proper-at : (s : State) (o : VerbsStand m b s) (names : List (List ℕ)) → HoldsProper s → HasNames s names → (a : ℕ)
      → is_proper names s.shared (register a (process_at s.processes seat.row)) ≡ true
  proper-at s o names proper has a =
      let live = before s names has proper in
      let q : Process = process_at s.processes seat.row in
      at-proper names s.shared q.registers a ((found-proper names s.shared seat.pid s.processes q live.held live.within (found-there m b s o holds.counts seat x)).registers)

  module _ (mem : List ℕ) (mem_is : mem ≡ m.mem b.heaps) (r a k v : Reg)
      (w : ℕ) (word : (s : State) (o : VerbsStand m b s) → IsHeld m b s o seat a w) (j : ℕ) (key : (s : State) (o : VerbsStand m b s) → IsHeld m b s o seat k j)
      (names : List (List ℕ)) where
    -- The verb, and its line.
    abbrev put_verb : Verb
    put_verb = verb.MapPut r a k v

    abbrev line_of : Terms → Parsed
    line_of terms = said (OfProcess seat.pid put_verb) terms names

    abbrev seated_in : State → Process
    seated_in s = process_at s.processes seat.row

    -- The words stand for a tree and a key that can be sought.
    pub can-seek : b.named ≤ length names → CanSeek mem names w j
    can-seek more =
        let s : State = holds.state in
        let o : VerbsStand m b s = holds.stands in
        let q : Process = seated_in s in
        let c : ℕ → ℕ → Bool = m.test b.named b.heaps s.shared s.processes o.processes.is seat.row in
        record {
          shared = s.shared;
          tree = register a.0 q;
          sought = register k.0 q;
          standing = (weaken c always mem (λ i n e. refl)).each s.shared w (register a.0 q) (stands-at m b holds seat x a w word mem mem_is s o);
          key_stands = (weaken c always mem (λ i n e. refl)).each s.shared j (register k.0 q) (stands-at m b holds seat x k j key mem mem_is s o);
          named = named-more b.named (length names) more (register a.0 q) (held-at m b holds seat x a w word s o).names;
          key_named = named-more b.named (length names) more (register k.0 q) (held-at m b holds seat x k j key s o).names;
        }

    sorted-there : (s : State) (h : Properly (VerbsStand m b) s) → HasNames s names → HasSorted names s.shared (register a.0 (seated_in s))
    sorted-there s h has = proper-sorted names s.shared (register a.0 (seated_in s)) (proper-at s h.0 names h.1 has a.0)

    -- What the search answers of the trees of the registers.
    module _ (result : Result Place PutStop)
        (is_place : (c : ℕ → ℕ → Bool) (shared : List (List ℕ)) (t u : Tree) → Stands c shared mem w t → Stands c shared mem j u → IsPlaceInMap names shared t u result) where
      place-there : (s : State) (o : VerbsStand m b s) → IsPlaceInMap names s.shared (register a.0 (seated_in s)) (register k.0 (seated_in s)) result
      place-there s o =
          is_place (m.test b.named b.heaps s.shared s.processes o.processes.is seat.row) s.shared (register a.0 (seated_in s)) (register k.0 (seated_in s))
          (stands-at m b holds seat x a w word mem mem_is s o) (stands-at m b holds seat x k j key mem mem_is s o)

      -- No pair is put.
      pub put-refused : (e : PutStop) → result ≡ Err e → (out : Refusal) → out ≡ refusal_of_put e → DoesBy {A = Unit {0}} m names (OfProcess seat.pid put_verb) b b (Err out)
      put-refused e stop_is out out_is = rw out_is (record {
        holds = holds;
        becomes = λ s terms h has.
            let q : Process = seated_in s in
            let by = put-stops (register k.0 q) (register v.0 q) s (line_of terms) q r.0 (register a.0 q) e (sorted-there s h has) (rw stop_is at place-there s h.0) in
            inl (rw (at-seat m b holds seat x put_verb s h.0 terms names, by) (refl, h.0));
        books = record { same_words = refl; one_call = omega arith; few_names = omega arith };
      })

      module _ (place : Place) (place_is : result ≡ Ok place) (registers : IsRegister a × (IsRegister k × IsRegister v)) where
        pairs-there : (s : State) (o : VerbsStand m b s) → HasPairs names s.shared (register a.0 (seated_in s)) (register k.0 (seated_in s)) place
        pairs-there s o =
            has-pairs names s.shared (register a.0 (seated_in s)) (register k.0 (seated_in s)) place (rw place_is at place-there s o)

        abbrev made : Make
        made = make.Pair a place k v

        pub put-some : (s : State) → VerbsStand m b s → HasMade s.shared (seated_in s) made
        put-some s o =
            let here = pairs-there s o in
            record {
              tree = Map (put_at_spot place.spot (register k.0 (seated_in s)) (register v.0 (seated_in s)) here.pairs);
              makes = record { registers = registers; pairs = here.pairs; map = here.is; count = here.fits.count; inside = here.fits.inside; few = here.fits.few; tree = refl };
            }

        -- The machine's step.
        steps-there : (s : State) (h : Properly (VerbsStand m b) s) → HasNames s names → (terms : Terms)
            → put_into (pairs_in (register a.0 (seated_in s))) (register k.0 (seated_in s)) (register v.0 (seated_in s)) s (line_of terms) (seated_in s) r.0
            ≡ does (line_of terms) (with_process (with_register r.0 (put-some s h.0).tree (seated_in s)) s)
        unfolding put-some
        steps-there s h has terms =
            let q : Process = seated_in s in
            let here = pairs-there s h.0 in
            let S : Tree → Type 0 = λ z. HasSorted names s.shared z in
            ap (λ z. put_into (pairs_in z) (register k.0 q) (register v.0 q) s (line_of terms) q r.0) here.is
            ∙ put-steps (register k.0 q) (register v.0 q) s (line_of terms) q r.0 here.pairs place (subst S here.is (sorted-there s h has)) here.fits

        -- What the line asks for.
        put-words : (s : State) → VerbsStand m b s → 6 + 2 * key_count (register a.0 (seated_in s)) ≡ 6 + 2 * place.keys
        put-words s o = omega (arith, ap key_count (pairs-there s o).is, (pairs-there s o).fits.count)

        pub put-does : (c : Verbs H) (res : Result (Unit {0}) Refusal) → MakesTerm m seat r made b c res → DoesBy {A = Unit {0}} m names (OfProcess seat.pid put_verb) b c res
        put-does c res f = record {
          holds = f.holds;
          becomes = λ s terms h has. f.becomes s put_verb terms names (put-some s h.0).tree h.0 (put-some s h.0).makes (put-words s h.0) (steps-there s h has terms);
          books = f.books;
        }

        pub put-asks : (c : Verbs H) (res : Result (Unit {0}) Refusal) → MakesTerm m seat r made b c res → (s : State) (q : Process) → VerbsStand m b s → process_of seat.pid s ≡ Some q
            → AsksUnless {A = Unit {0}} m (want.Words seat.row (6 + 2 * key_count (register a.0 q)) 0) b c res
        put-asks c res f s q o found =
            let same : seated_in s ≡ q = same_Some (seated_in s) q (sym (found-there m b s o holds.counts seat x) ∙ found) in
            rw (← same, put-words s o) (made-unless m b holds seat x r made c res f)

-- `hd`, `tl`, `elem` and `mapget`: the part that is picked in a register, or there is none.

-- What an answer says of the part.
no-part : (c : ℕ → ℕ → Bool) (shared : List (List ℕ)) (mem : List ℕ) (o : Option Tree) → AnswersPart c shared mem o None → o ≡ None
no-part c shared mem None a = refl
no-part c shared mem (Some t) a = absurd (let e : None ≡ Some a.0 = a.1 in cc)

record SomePart (c : ℕ → ℕ → Bool) (shared : List (List ℕ)) (mem : List ℕ) (o : Option Tree) (w : ℕ) : Type 0 where
  tree : Tree
  is : o ≡ Some tree
  standing : Stands c shared mem w tree

some-part : (c : ℕ → ℕ → Bool) (shared : List (List ℕ)) (mem : List ℕ) (o : Option Tree) (w : ℕ) → AnswersPart c shared mem o (Some w) → SomePart c shared mem o w
some-part c shared mem None w a = absurd (let e : Some w ≡ None = a in cc)
some-part c shared mem (Some t) w a =
    let same : w ≡ a.0 = same_Some w a.0 a.1 in
    record { tree = t; is = refl; standing = rw same a.2 }

module _ {H : Type 0} (m : Meaning H) (b : Verbs H) (holds : Holds m b) (seat : Seat) (x : Sits m b seat) (r a : Reg) (how : Pick) (small : a.0 < 16) (key : PicksRegister how)
    (whole : takes_part how ≡ false) (regs : List ℕ) (are : AreRegisters m seat.row b.heaps regs) (mem : List ℕ) (mem_is : mem ≡ m.mem b.heaps)
    (names : List (List ℕ)) (more : b.named ≤ length names) where
  -- The verb.
  abbrev v : Verb
  v = verb.Choose r a how

  abbrev q_in : State → Process
  q_in s = process_at s.processes seat.row

  abbrev test_in : (s : State) → VerbsStand m b s → ℕ → ℕ → Bool
  test_in s o = m.test b.named b.heaps s.shared s.processes o.processes.is seat.row

  reg-held : (s : State) (o : VerbsStand m b s) (i : ℕ) → i < 16 → HoldsThere m b.named b.heaps s.shared s.processes o.processes seat.row (get_or regs i 0) (register i (q_in s))
  reg-held s o i less =
      held-in (test_in s o) s.shared (m.mem b.heaps) b.named regs (q_in s).registers i (omega (arith, less, are.count)) (are.hold b.named s.shared s.processes o.processes)

  reg-stands : (s : State) (o : VerbsStand m b s) (i : ℕ) → i < 16 → Stands (test_in s o) s.shared mem (get_or regs i 0) (register i (q_in s))
  reg-stands s o i less = rw mem_is (reg-held s o i less).standing

  seeks : (k : ℕ) → k < 16 → CanSeek mem names (get_or regs a.0 0) (get_or regs k 0)
  seeks k less =
      let s : State = holds.state in
      let o : VerbsStand m b s = holds.stands in
      record {
        shared = s.shared;
        tree = register a.0 (q_in s);
        sought = register k (q_in s);
        standing = (weaken (test_in s o) always mem (λ i n e. refl)).each s.shared (get_or regs a.0 0) (register a.0 (q_in s)) (reg-stands s o a.0 small);
        key_stands = (weaken (test_in s o) always mem (λ i n e. refl)).each s.shared (get_or regs k 0) (register k (q_in s)) (reg-stands s o k less);
        named = named-more b.named (length names) more (register a.0 (q_in s)) (reg-held s o a.0 small).names;
        key_named = named-more b.named (length names) more (register k (q_in s)) (reg-held s o k less).names;
      }

  pub can-pick : CanPick mem names regs (get_or regs a.0 0) how
  can-pick = by how key whole
    where
      by : (h : Pick) → PicksRegister h → takes_part h ≡ false → CanPick mem names regs (get_or regs a.0 0) h
      by (pick.Part offset len) few all = absurd (true≢false all)
      by (pick.MapGet k) few all = (omega (arith, few, are.count), seeks k.0 few)
      by _ few all = is-term (test_in holds.state holds.stands) holds.state.shared mem (get_or regs a.0 0) (register a.0 (q_in holds.state)) (reg-stands holds.state holds.stands a.0 small)

  -- The key of a register is its tree.
  key-there : (s : State) (o : VerbsStand m b s) → HasKey (test_in s o) s.shared mem regs (q_in s) how
  key-there s o = by how key
    where
      by : (h : Pick) → PicksRegister h → HasKey (test_in s o) s.shared mem regs (q_in s) h
      by (pick.MapGet k) few = reg-stands s o k.0 few
      by _ few = tt

  module _ (found : Option ℕ)
      (picks : (c : ℕ → ℕ → Bool) (shared : List (List ℕ)) (q : Process) (t : Tree) → Stands c shared mem (get_or regs a.0 0) t → HasKey c shared mem regs q how
      → HasSorted names shared t → AnswersPart c shared mem (picked names shared q how t) found) where
    -- What is answered of the tree of the register.
    answer-there : (s : State) (h : Properly (VerbsStand m b) s) → HasNames s names
        → AnswersPart (test_in s h.0) s.shared mem (picked names s.shared (q_in s) how (register a.0 (q_in s))) found
    answer-there s h has =
        picks (test_in s h.0) s.shared (q_in s) (register a.0 (q_in s)) (reg-stands s h.0 a.0 small) (key-there s h.0)
        (proper-sorted names s.shared (register a.0 (q_in s)) (proper-at m b holds seat x s h.0 names h.1 has a.0))

    pub choose-refused : found ≡ None → DoesBy {A = Unit {0}} m names (OfProcess seat.pid v) b b (Err BadArg)
    choose-refused none = record {
      holds = holds;
      becomes = λ s terms h has.
          let part : Option Tree = picked names s.shared (q_in s) how (register a.0 (q_in s)) in
          let gone : part ≡ None = no-part (test_in s h.0) s.shared mem part (rw none at answer-there s h has) in
          inl (rw (at-seat m b holds seat x v s h.0 terms names, ap (λ z. choose z s (said (OfProcess seat.pid v) terms names) (q_in s) r.0) gone) (refl, h.0));
      books = record { same_words = refl; one_call = omega arith; few_names = omega arith };
    }

    module _ (w : ℕ) (is : found ≡ Some w)
        (is_part : (c : ℕ → ℕ → Bool) (shared : List (List ℕ)) (t : Tree) → Stands c shared mem (get_or regs a.0 0) t → IsPart c shared mem t w) where
      -- The word holds a part of the register's tree.
      pub part-held : (s : State) (o : VerbsStand m b s) → HoldsSome m b seat.row w s o
      part-held s o =
          let part = is_part (test_in s o) s.shared (register a.0 (q_in s)) (reg-stands s o a.0 small) in
          let P : List ℕ → Type 0 = λ z. Stands (test_in s o) s.shared z w part.tree in
          record { tree = part.tree; held = record { standing = subst P mem_is part.standing; names = part.named b.named (reg-held s o a.0 small).names } }

      pub choose-does : (c : Verbs H) → PutsInto m seat r w b c → DoesBy {A = Unit {0}} m names (OfProcess seat.pid v) b c (Ok tt)
      choose-does c f = record {
        holds = f.holds;
        becomes = λ s terms h has.
            let part : Option Tree = picked names s.shared (q_in s) how (register a.0 (q_in s)) in
            let here = some-part (test_in s h.0) s.shared mem part w (rw is at answer-there s h has) in
            let other = part-held s h.0 in
            let P : List ℕ → Type 0 = λ z. Stands (test_in s h.0) s.shared z w here.tree in
            let same : other.tree ≡ here.tree = single (test_in s h.0) (test_in s h.0) s.shared s.shared (m.mem b.heaps) w other.tree here.tree other.held.standing
            (subst P mem_is here.standing) in
            inl (f.follows s v terms names here.tree h.0 (rw same at other.held) (ap (λ z. choose z s (said (OfProcess seat.pid v) terms names) (q_in s) r.0) here.is));
        books = f.books;
      }
