-- What a verb leaves that builds a term or puts a word in a register: the steps that they share, and `mktuple`, `mklist`, `self`, `fill` and `part`.
use Rattle.std.proofs.Common.{◌≡◌, ℕ, ◌+◌, ◌*◌, ◌≤◌, Bool, true, false, true≢false, List, [], Result, Ok, Err, IsErrAnd, refl, sym, ◌∙◌, arith, inl, zero, suc, ◌^◌, ◌<◌, ◌||◌, nat_le, nat_lt, ◌∷◌, length, get_or, replicate, ap, ◌++◌, map, set, subst, Option, Some, None}
use Rattle.plain_term.specs.Tree.{Tree, pairs_len}
use Rattle.script_grammar.specs.declared.command.Command.TheVariants.{Process as OfProcess}
use Rattle.script_grammar.specs.declared.command.Reg.{Reg}
use Rattle.script_grammar.specs.declared.command.Verb.{Verb}
use Rattle.script_grammar.specs.declared.command.Verb.TheVariants as verb
use Rattle.script_grammar.specs.declared.refusal.Refusal.{Refusal}
use Rattle.script_grammar.specs.declared.refusal.Refusal.TheVariants.{NoSpace, BadArg}
use Rattle.script_grammar.specs.Written.{Terms}
use Rattle.script_grammar.specs.Written.Terms.{end}
use Rattle.plain_machine.specs.State.{Process, State, with_process, with_register, register}
use Rattle.plain_machine.specs.Step.{settled, Outcome, by_verb, does, fill_if, repeat_if, step, with_made, choose}
use Rattle.space_api.specs.Calls.{said, Becomes, Follows, Passes}
use Rattle.space_api.specs.declared.space.Seat.{Seat}
use Rattle.term_maps.specs.declared.sorted.Spot.{Spot}
use Rattle.term_maps.specs.declared.sorted.Spot.TheVariants as spot
use Rattle.term_verbs.specs.Placed.{count_placed}
use Rattle.heaps_api.specs.Meaning.{HoldsThere, Meaning}
use Rattle.heaps_api.specs.Changing.{CanMake, Gains, Looks, PutsWord, process_at, GainsBin}
use Rattle.heaps_api.specs.Making.{CanReckon, IsMadeOf, with_made_in, words_of_make}
use Rattle.heaps_api.specs.Wanted.{words_of_want}
use Rattle.heaps_api.specs.declared.making.Make.{Make}
use Rattle.heaps_api.specs.declared.making.Make.TheVariants as make
use Rattle.heaps_api.specs.declared.wanted.Want.{Want}
use Rattle.heaps_api.specs.declared.wanted.Want.TheVariants as want
use Rattle.std.proofs.lemmas.Bool.{both_ways, or_from, or_right, or_left, le-ltb, lt-ltb}
use Rattle.std.proofs.lemmas.Bool.Decides.{nat_tests}
use Rattle.std.proofs.lemmas.List.{length-replicate, length-append}
use Rattle.plain_term.specs.Measures.{bin_words}
use Rattle.plain_term.specs.Tree.Tree.{Bin, Pid, Shared}
use Rattle.script_grammar.specs.Names.{Parsed}
use Rattle.script_grammar.specs.declared.command.Shape.{Shape}
use Rattle.plain_machine.specs.declared.limits.TheConstants.{MOST_BYTE, MOST_FILL, MOST_PLACES}
use Rattle.plain_machine.specs.Made.{bin_tree}
use Rattle.plain_machine.specs.Parts.{repeated, part_in}
use Rattle.plain_machine.specs.Step.Outcome.{Accepted, Mapped, Refused}
use Rattle.plain_machine.specs.Tightness.{fill_words, verb_words}
use Rattle.numbered_rows.specs.Numbers.{AreBelow}
use Rattle.term_tags.specs.Words.{pid_word}
use Rattle.term_words.proofs.ByKind.Makes.{stands-pid}
use Rattle.plain_machine.specs.Laws.{AreWithin}
use Rattle.plain_machine.specs.May.{gets_to_space}
use Rattle.plain_machine.proofs.Properly.Holding.{put-within}
use Rattle.heaps_api.specs.Reading.{waiting_trees}
use Rattle.std.proofs.lemmas.Option.{same_Some}
use Rattle.std.specs.Prelude.{is_some}
use Rattle.script_grammar.specs.declared.command.Pick.TheVariants as pick
use Rattle.term_words.specs.Stands.{IsTerm, Stands}
use Rattle.term_words.proofs.Framing.Rooms.{is-term}
use Rattle.process_verbs.specs.Verbs.{Holds, Sits, VerbsStand, memory_words}
use Rattle.process_verbs.specs.Asked.{HasMade, HoldsSome, MakesTerm, PutsInto, Searches, changed, roomed}
use Rattle.process_verbs.specs.Doing.{Asks, AsksUnless, Does, DoesAlways, is_early, want_of_fill}
use Rattle.process_verbs.specs.declared.verbs.Verbs.{Verbs}
use Rattle.process_verbs.proofs.Processes.{within-at, number-there, replaced, set-there, settled-stands, found-there}
use Rattle.process_verbs.proofs.Steps.{after, at-seat, counts-gained, counts-stay, grow-there, heaps-are, holds-roomed, lacking-told, lacks-space, looks-found, looks-lacking, seat-stands, refuses, lacks}
use Rattle.process_verbs.specs.Telling.{IsHeld}

-- What is made changes neither the number nor the queue.
pub made-number : (make : Make) (r : ℕ) (t : Tree) (q : Process) → (with_made_in r make t q).number ≡ q.number
made-number make.Ref r t q = refl
made-number _ r t q = refl

pub made-queue : (make : Make) (r : ℕ) (t : Tree) (q : Process) → (with_made_in r make t q).queue ≡ q.queue
made-queue make.Ref r t q = refl
made-queue _ r t q = refl

keys-below : (x : Spot) (n : ℕ) → n ≤ count_placed x n
keys-below (spot.Same i) n = omega arith
keys-below (spot.New i) n = omega arith

-- The words of what can be made can be counted.
pub can-reckon : (shared : List (List ℕ)) (q : Process) (make : Make) → HasMade shared q make → CanReckon make
can-reckon shared q (make.Same shape n s) k = k.makes.1.0
can-reckon shared q (make.Pair s place x v) k = omega (arith, k.makes.count, k.makes.few, keys-below place.spot (pairs_len k.makes.pairs))
can-reckon shared q (make.Part s offset len) k = tt
can-reckon shared q make.Ref k = tt
can-reckon shared q (make.Bytes n byte) k = k.makes.0

module _ {H : Type 0} (m : Meaning H) (b : Verbs H) (holds : Holds m b) where
  -- What was asked of the memory.
  pub asks-lacks : (A : Type 0) (w : Want) (h : H) (looks : Looks m w b.heaps h false) (k : ℕ) → Asks {A = A} m w b (roomed b h) (Err (NoSpace k))
  asks-lacks A w h looks k = record { heaps = h; there = false; looked = looks.looked; exact = refl; lacking = λ e. refl; given_back = looks.rests; few = tt }

  abbrev pub asks-gained : (A : Type 0) (w : Want) (h : H) (looks : Looks m w b.heaps h true) (c : Verbs H) (a : A) → m.took w h c.heaps → Asks {A = A} m w b c (Ok a)
  asks-gained A w h looks c a took =
      record { heaps = h; there = true; looked = looks.looked; exact = refl; lacking = λ e. absurd (true≢false (sym e)); given_back = tt; few = took }

  module _ (seat : Seat) (x : Sits m b seat) where
    module _ (r : Reg) (w : ℕ) (h : H) (puts : PutsWord m seat.row r w b.heaps h) where
      word-stands : (s : State) (v : Verb) (terms : Terms) (names : List (List ℕ)) (t : Tree) (o : VerbsStand m b s)
          → HoldsThere m b.named b.heaps s.shared s.processes o.processes seat.row w t
          → VerbsStand m (changed b h) (settled (said (OfProcess seat.pid v) terms names) (with_process (with_register r.0 t (process_at s.processes seat.row)) s))
      word-stands s v terms names t o held =
          seat-stands m b holds seat x v s o terms names (with_register r.0 t (process_at s.processes seat.row)) h refl (puts.put b.named s.shared s.processes o.processes t held)
          (within-at s.shared s.processes seat.row o.within)

      pub word-puts : ((s : State) (o : VerbsStand m b s) → HoldsSome m b seat.row w s o) → PutsInto m seat r w b (changed b h)
      word-puts some = record {
        holds = record {
          counts = counts-stay m b (changed b h) holds.counts puts.stays.rows refl refl (omega arith) refl
              (puts.stays.goes.whole (2 * b.calls) (2 * (b.calls + 1)) holds.counts.whole (omega arith));
          state = _;
          stands = word-stands holds.state (verb.Own r) end [] (some holds.state holds.stands).tree holds.stands (some holds.state holds.stands).held;
        };
        idle = puts.idle;
        books = record { same_words = puts.stays.goes.words; one_call = omega arith; few_names = omega arith };
        follows = λ s v terms names t o held by. rw (at-seat m b holds seat x v s o terms names, by) (word-stands s v terms names t o held);
      }

    module _ (r : Reg) (make : Make) where
      abbrev wanted : Want
      wanted = want.Words seat.row (words_of_make make) 0

      -- What could be made can be made after the search.
      pub can-make : (h : H) (found : Bool) (looks : Looks m wanted b.heaps h found) → ((s : State) → VerbsStand m b s → HasMade s.shared (process_at s.processes seat.row) make)
          → CanMake m seat.row make h
      can-make h found looks some = record {
        named = b.named;
        shared = holds.state.shared;
        processes = holds.state.processes;
        stood = looks.kept b.named holds.state.shared holds.state.processes holds.stands.processes;
        tree = (some holds.state holds.stands).tree;
        makes = (some holds.state holds.stands).makes;
      }

      pub make-lacks : (h : H) (looks : Looks m wanted b.heaps h false) → MakesTerm m seat r make b (roomed b h) (Err (NoSpace (words_of_want wanted)))
      make-lacks h looks = record {
        holds = holds-roomed m b holds wanted h false looks;
        asks = asks-lacks (Unit {0}) wanted h looks (words_of_want wanted);
        late = refl;
        books = record { same_words = looks.stays.goes.words; one_call = omega arith; few_names = omega arith };
        becomes = λ s v terms names t o makes words by.
            lacks-space m b holds wanted h false looks refl (Unit {0}) s (said (OfProcess seat.pid v) terms names) o
            (grow-there m b holds seat x v s o terms names ∙ omega (arith, words)) (rw (at-seat m b holds seat x v s o terms names, by) refl);
      }

      module _ (h : H) (looks : Looks m wanted b.heaps h true) (h2 : H) (gains : Gains m seat.row r make h h2) where
        make-stands : (s : State) (v : Verb) (terms : Terms) (names : List (List ℕ)) (t : Tree) → VerbsStand m b s → IsMadeOf s.shared (process_at s.processes seat.row) make t
            → VerbsStand m (changed b h2) (settled (said (OfProcess seat.pid v) terms names) (with_process (with_made_in r.0 make t (process_at s.processes seat.row)) s))
        make-stands s v terms names t o makes =
            let q : Process = process_at s.processes seat.row in
            seat-stands m b holds seat x v s o terms names (with_made_in r.0 make t q) h2 (made-number make r.0 t q)
            (gains.made b.named s.shared s.processes t (looks.kept b.named s.shared s.processes o.processes) makes)
            (rw (made-queue make r.0 t q) (within-at s.shared s.processes seat.row o.within))

        pub make-gains : ((s : State) → VerbsStand m b s → HasMade s.shared (process_at s.processes seat.row) make) → MakesTerm m seat r make b (changed b h2) (Ok tt)
        make-gains some = record {
          holds = record {
            counts = counts-gained m b holds wanted h true looks (changed b h2) gains.stays refl refl refl (omega (arith, holds.counts.serials));
            state = _;
            stands = make-stands holds.state (verb.Own r) end [] (some holds.state holds.stands).tree holds.stands (some holds.state holds.stands).makes;
          };
          asks = asks-gained (Unit {0}) wanted h looks (changed b h2) tt gains.took;
          late = refl;
          books = record { same_words = gains.stays.goes.words ∙ looks.stays.goes.words; one_call = omega arith; few_names = omega arith };
          becomes = λ s v terms names t o makes words by. inl (rw (at-seat m b holds seat x v s o terms names, by) (make-stands s v terms names t o makes));
        }

module _ {H : Type 0} (m : Meaning H) (b : Verbs H) (holds : Holds m b) (seat : Seat) (x : Sits m b seat) (r : Reg) (make : Make)
    (some : (s : State) → VerbsStand m b s → HasMade s.shared (process_at s.processes seat.row) make)
    (n : ℕ) (words : n ≡ words_of_make make) (c : Verbs H) (res : Result (Unit {0}) Refusal) (f : Searches m (want.Words seat.row n 0) b c res) where
  found-words : Searches m (wanted m b holds seat x r make) b c res
  found-words = rw (← words) f

  pub make-can : CanMake m seat.row make c.heaps
  make-can = rw found-words.same (can-make m b holds seat x r make found-words.heaps found-words.found found-words.looks some)

  pub make-refused : (e : Refusal) → res ≡ Err e → (out : Result (Unit {0}) Refusal) → IsErrAnd out (λ y. y ≡ e) → MakesTerm m seat r make b c out
  make-refused e is out as_it = rw (found-words.same, lacking-told m b c (wanted m b holds seat x r make) res found-words e is out as_it)
      (make-lacks m b holds seat x r make found-words.heaps (looks-lacking m b c (wanted m b holds seat x r make) res found-words e is))

  pub make-done : (u : Unit {0}) → res ≡ Ok u → (h2 : H) → Gains m seat.row r make c.heaps h2 → MakesTerm m seat r make b (after c h2) (Ok tt)
  make-done u is h2 gains =
      let same = heaps-are m b c (wanted m b holds seat x r make) res found-words in
      let looks = looks-found m b c (wanted m b holds seat x r make) res found-words u is in
      rw found-words.same (make-gains m b holds seat x r make found-words.heaps looks h2 (rw same at gains) some)

-- A verb for which a term is made, or a word put: it was done, and what it asked of the memory.

pub passes-follows : (o : Outcome) (s : State) (Stands : State → Type 0) → Follows {A = Unit {0}} o s (Ok tt) Stands → Passes o Stands
passes-follows (Accepted next reply) s Stands f = f
passes-follows (Refused e) s Stands f = absurd f
passes-follows Mapped s Stands f = absurd f

-- The verb makes this of the process in the machine, and asks for its words.
pub record MakesBy (s : State) (seat : Seat) (r : Reg) (make : Make) (v : Verb) (terms : Terms) (names : List (List ℕ)) : Type 0 where
  pub tree : Tree
  pub makes : IsMadeOf s.shared (process_at s.processes seat.row) make tree
  pub words : verb_words s (said (OfProcess seat.pid v) terms names) (process_at s.processes seat.row) v ≡ words_of_make make
  pub by : by_verb s (said (OfProcess seat.pid v) terms names) (process_at s.processes seat.row) v
      ≡ does (said (OfProcess seat.pid v) terms names) (with_process (with_made_in r.0 make tree (process_at s.processes seat.row)) s)

pub has-made : (s : State) (seat : Seat) (r : Reg) (make : Make) (v : Verb) (terms : Terms) (names : List (List ℕ)) → MakesBy s seat r make v terms names
    → HasMade s.shared (process_at s.processes seat.row) make
has-made s seat r make v terms names k = record { tree = k.tree; makes = k.makes }

module _ {H : Type 0} (m : Meaning H) (b : Verbs H) (holds : Holds m b) (seat : Seat) (x : Sits m b seat) (r : Reg) where
  module _ (make : Make) (c : Verbs H) (res : Result (Unit {0}) Refusal) (f : MakesTerm m seat r make b c res) where
    pub made-becomes : (s : State) (v : Verb) (terms : Terms) (names : List (List ℕ)) → VerbsStand m b s → MakesBy s seat r make v terms names
        → Becomes (memory_words m b) s (said (OfProcess seat.pid v) terms names) res (VerbsStand m c)
    made-becomes s v terms names o k = f.becomes s v terms names k.tree o k.makes k.words k.by

    pub made-does : (v : Verb) → ((s : State) (terms : Terms) (names : List (List ℕ)) → VerbsStand m b s → MakesBy s seat r make v terms names)
        → Does {A = Unit {0}} m (OfProcess seat.pid v) b c res
    made-does v k = record { holds = f.holds; becomes = λ s terms names o. made-becomes s v terms names o (k s terms names o); books = f.books }

    pub made-unless : AsksUnless {A = Unit {0}} m (want.Words seat.row (words_of_make make) 0) b c res
    made-unless = record { early = λ e. absurd (both_ways (is_early res) f.late e); asks = λ e. f.asks }

  -- `mktuple` and `mklist`.
  too-many : (n : ℕ) → MOST_PLACES < n → nat_lt MOST_PLACES n ≡ true
  too-many n many = grind (arith, nat_tests)

  few-enough : (n : ℕ) → n ≤ MOST_PLACES → nat_lt MOST_PLACES n ≡ false
  few-enough n few = grind (arith, nat_tests)

  module _ (shape : Shape) (n : ℕ) (a : Reg) where
    pub repeat-refused : MOST_PLACES < n → Does {A = Unit {0}} m (OfProcess seat.pid (verb.Repeat r shape n a)) b b (Err BadArg)
    repeat-refused many = refuses m b holds seat x (verb.Repeat r shape n a) (Unit {0}) BadArg (λ s terms names o.
        let q : Process = process_at s.processes seat.row in
        ap (λ z. repeat_if z (repeated shape n (register a.0 q)) s (said (OfProcess seat.pid (verb.Repeat r shape n a)) terms names) q r.0) (too-many n many))

    pub repeat-makes : a.0 < 16 → n ≤ MOST_PLACES → (s : State) (terms : Terms) (names : List (List ℕ)) → VerbsStand m b s
        → MakesBy s seat r (make.Same shape n a) (verb.Repeat r shape n a) terms names
    repeat-makes small few s terms names o =
        let q : Process = process_at s.processes seat.row in
        record {
          tree = repeated shape n (register a.0 q);
          makes = (small, (few, refl));
          words = refl;
          by = ap (λ z. repeat_if z (repeated shape n (register a.0 q)) s (said (OfProcess seat.pid (verb.Repeat r shape n a)) terms names) q r.0) (few-enough n few);
        }

  -- `self`.
  number-below : (ns : List ℕ) (i limit : ℕ) → i < length ns → AreBelow limit ns → get_or ns i 0 < limit
  number-below [] i limit less k = absurd (omega arith)
  number-below (n ∷ ns) zero limit less k = k.0
  number-below (n ∷ ns) (suc i) limit less k = number-below ns i limit (omega arith) k.1

  pub pid-below : seat.pid < b.calls + 2
  pid-below = omega (arith, number-below (m.numbers b.heaps) seat.row b.next x.within holds.counts.below, x.number, holds.counts.numbered)

  module _ (w : ℕ) (word : w ≡ pid_word seat.pid) (few : seat.pid < 2 ^ 41) where
    own-held : (s : State) (o : VerbsStand m b s) → HoldsThere m b.named b.heaps s.shared s.processes o.processes seat.row w (Pid (process_at s.processes seat.row).number)
    own-held s o =
        let n : ℕ = (process_at s.processes seat.row).number in
        let number : n ≡ seat.pid = number-there m b s o holds.counts seat x in
        record {
          standing = stands-pid (m.test b.named b.heaps s.shared s.processes o.processes.is seat.row) s.shared (m.mem b.heaps) w n (omega (arith, number, few)) (word ∙ ap pid_word (sym number));
          names = refl;
        }

    pub own-some : (s : State) (o : VerbsStand m b s) → HoldsSome m b seat.row w s o
    own-some s o = record { tree = Pid (process_at s.processes seat.row).number; held = own-held s o }

    pub own-does : (c : Verbs H) → PutsInto m seat r w b c → DoesAlways m (OfProcess seat.pid (verb.Own r)) b c
    own-does c f = record {
      holds = f.holds;
      passes = λ s terms names o.
          passes-follows (step s (said (OfProcess seat.pid (verb.Own r)) terms names)) s (VerbsStand m c)
          (f.follows s (verb.Own r) terms names (Pid (process_at s.processes seat.row).number) o (own-held s o) refl);
      books = f.books;
    }

  -- `fill`.
  heap-tree : (bytes : List ℕ) (shared : List (List ℕ)) → length bytes ≤ 64 → bin_tree bytes shared ≡ (Bin bytes, shared)
  heap-tree bytes shared small = rw (is (length bytes) small) refl
    where
      is : (n : ℕ) → n ≤ 64 → nat_le n 64 ≡ true
      is n small = grind (arith, nat_tests)

  heap-words : (len : ℕ) → len ≤ 64 → fill_words len ≡ 2 + bin_words len
  heap-words len small = rw (is) refl
    where
      is : nat_le len 64 ≡ true
      is = grind (arith, nat_tests)

  pub want-short : (row len : ℕ) → len ≤ 64 → want_of_fill row len ≡ want.Words row (2 + bin_words len) 0
  want-short row len small = rw (is) refl
    where
      is : nat_lt 64 len ≡ false
      is = grind (arith, nat_tests)

  module _ (len byte : ℕ) where
    fill-refused : (nat_lt MOST_FILL len || nat_lt MOST_BYTE byte) ≡ true → Does {A = Unit {0}} m (OfProcess seat.pid (verb.Fill r len byte)) b b (Err BadArg)
    fill-refused many = refuses m b holds seat x (verb.Fill r len byte) (Unit {0}) BadArg (λ s terms names o.
        let q : Process = process_at s.processes seat.row in
        ap (λ z. fill_if z (replicate len byte) s (said (OfProcess seat.pid (verb.Fill r len byte)) terms names) q r.0) many)

    pub fill-long-refused : MOST_FILL < len → Does {A = Unit {0}} m (OfProcess seat.pid (verb.Fill r len byte)) b b (Err BadArg)
    fill-long-refused many = fill-refused (or_left (nat_lt MOST_FILL len) (nat_lt MOST_BYTE byte) (lt-ltb MOST_FILL len many))

    pub fill-byte-refused : MOST_BYTE < byte → Does {A = Unit {0}} m (OfProcess seat.pid (verb.Fill r len byte)) b b (Err BadArg)
    fill-byte-refused many = fill-refused (or_right (nat_lt MOST_FILL len) (nat_lt MOST_BYTE byte) (lt-ltb MOST_BYTE byte many))

    pub fill-fits : len ≤ MOST_FILL → byte ≤ MOST_BYTE → (nat_lt MOST_FILL len || nat_lt MOST_BYTE byte) ≡ false
    fill-fits most small = or_from (nat_lt MOST_FILL len) (nat_lt MOST_BYTE byte) (le-ltb MOST_FILL len most) (le-ltb MOST_BYTE byte small)

    pub fill-makes : len ≤ 64 → byte ≤ MOST_BYTE → (s : State) (terms : Terms) (names : List (List ℕ)) → VerbsStand m b s
        → MakesBy s seat r (make.Bytes len byte) (verb.Fill r len byte) terms names
    fill-makes few small s terms names o =
        let q : Process = process_at s.processes seat.row in
        let line : Parsed = said (OfProcess seat.pid (verb.Fill r len byte)) terms names in
        record {
          tree = Bin (replicate len byte);
          makes = (few, (omega (arith, small), refl));
          words = heap-words len few;
          by = ap (λ z. fill_if z (replicate len byte) s line q r.0) (fill-fits (omega (arith, few)) small)
              ∙ ap (λ z. does line (with_made s q r.0 z)) (heap-tree (replicate len byte) s.shared (omega (arith, few, length-replicate {A = ℕ} len byte)));
        }

-- `fill`: a long binary of equal bytes stands in a record with the next serial.

record-words : (len : ℕ) → 64 < len → fill_words len ≡ 10 + bin_words len
record-words len long = rw (is) refl
  where
    is : nat_le len 64 ≡ false
    is = grind (arith, nat_tests)

record-tree : (bytes : List ℕ) (shared : List (List ℕ)) → 64 < length bytes → bin_tree bytes shared ≡ (Shared (length shared + 1), shared ++ bytes ∷ [])
record-tree bytes shared long = rw (is (length bytes) long) refl
  where
    is : (n : ℕ) → 64 < n → nat_le n 64 ≡ false
    is n long = grind (arith, nat_tests)

-- After a search, with another memory and a shared binary more.
abbrev pub binned : {H : Type 0} → Verbs H → H → Verbs H
binned b h = record { heaps = h; scratch = b.scratch; next = b.next; serials = b.serials + 1; named = b.named; calls = b.calls; swept = false }

module _ {H : Type 0} (m : Meaning H) (b : Verbs H) (holds : Holds m b) (seat : Seat) (x : Sits m b seat) (r : Reg) (len byte : ℕ)
    (long : 64 < len) (most : len ≤ MOST_FILL) (small : byte ≤ MOST_BYTE) where
  abbrev v : Verb
  v = verb.Fill r len byte

  abbrev long_want : Want
  long_want = want.Words seat.row 6 (4 + bin_words len)

  abbrev line : Terms → List (List ℕ) → Parsed
  line terms names = said (OfProcess seat.pid v) terms names

  abbrev bytes : List ℕ
  bytes = replicate len byte

  fill-is : (s : State) (terms : Terms) (names : List (List ℕ)) → by_verb s (line terms names) (process_at s.processes seat.row) v
      ≡ does (line terms names) (with_made s (process_at s.processes seat.row) r.0 (Shared (length s.shared + 1), s.shared ++ bytes ∷ []))
  fill-is s terms names =
      let q : Process = process_at s.processes seat.row in
      ap (λ z. fill_if z bytes s (line terms names) q r.0) (fill-fits m b holds seat x r len byte most small)
      ∙ ap (λ z. does (line terms names) (with_made s q r.0 z)) (record-tree bytes s.shared (omega (arith, long, length-replicate {A = ℕ} len byte)))

  module _ (c : Verbs H) (res : Result (Unit {0}) Refusal) (f : Searches m long_want b c res) where
    pub long-lacks : (e : Refusal) → res ≡ Err e → (out : Result (Unit {0}) Refusal) → IsErrAnd out (λ y. y ≡ e) → Does {A = Unit {0}} m (OfProcess seat.pid v) b c out
    long-lacks e is out as_it = rw (f.same, lacking-told m b c long_want res f e is out as_it) (lacks m b holds seat x v (Unit {0}) long_want f.heaps (looks-lacking m b c long_want res f e is)
        (λ s terms names o. (omega (arith, record-words len long), ap (gets_to_space (OfProcess seat.pid v)) (fill-is s terms names))))

    module _ (h : H) (looks : Looks m long_want b.heaps h true) (h2 : H) (gains : GainsBin m seat.row r (b.serials + 1) len byte h h2) where
      abbrev filled : State → Process
      filled s = with_register r.0 (Shared (b.serials + 1)) (process_at s.processes seat.row)

      long-stands : (s : State) (terms : Terms) (names : List (List ℕ)) → VerbsStand m b s
          → VerbsStand m (binned (roomed b h) h2) (settled (line terms names) (record (with_process (filled s) s) { shared = s.shared ++ bytes ∷ [] }))
      long-stands s terms names o =
          let serial : b.serials + 1 ≡ length s.shared + 1 = omega (arith, o.shared) in
          let kept = looks.kept b.named s.shared s.processes o.processes in
          let same : map (replaced (filled s)) s.processes ≡ set s.processes seat.row (filled s) =
          set-there m b s o holds.counts seat x (filled s) (number-there m b s o holds.counts seat x) in
          let W : AreWithin (s.shared ++ bytes ∷ []) (waiting_trees s.processes) = gains.within b.named s.shared s.processes kept o.within in
          settled-stands m b (binned (roomed b h) h2) s (line terms names) (filled s) (s.shared ++ bytes ∷ []) o (rw same (gains.made b.named s.shared s.processes kept serial)) refl refl
          (omega (arith, serial, length-append s.shared (bytes ∷ []))) (λ e. absurd (true≢false (sym e)))
          (put-within (s.shared ++ bytes ∷ []) (filled s) s.processes (within-at (s.shared ++ bytes ∷ []) s.processes seat.row W) W)

      fills : Does {A = Unit {0}} m (OfProcess seat.pid v) b (binned (roomed b h) h2) (Ok tt)
      fills = record {
        holds = record {
          counts = counts-gained m b holds long_want h true looks (binned (roomed b h) h2) gains.stays refl refl refl (omega (arith, holds.counts.serials));
          state = _;
          stands = long-stands holds.state end [] holds.stands;
        };
        becomes = λ s terms names o.
            let serial : length s.shared + 1 ≡ b.serials + 1 = omega (arith, o.shared) in
            let by = fill-is s terms names ∙ ap (λ z. does (line terms names) (with_made s (process_at s.processes seat.row) r.0 (Shared z, s.shared ++ bytes ∷ []))) serial in
            inl (rw (at-seat m b holds seat x v s o terms names, by) (long-stands s terms names o));
        books = record { same_words = gains.stays.goes.words ∙ looks.stays.goes.words; one_call = omega arith; few_names = omega arith };
      }

    pub long-does : (u : Unit {0}) → res ≡ Ok u → (h2 : H) → GainsBin m seat.row r (c.serials + 1) len byte c.heaps h2 → Does {A = Unit {0}} m (OfProcess seat.pid v) b (binned c h2) (Ok tt)
    long-does u is h2 gains =
        let P : Verbs H → Type 0 = λ z. GainsBin m seat.row r (z.serials + 1) len byte z.heaps h2 in
        rw f.same (fills f.heaps (looks-found m b c long_want res f u is) h2 (subst P f.same gains))

-- `part`: bytes of a register's binary; and what the word of a register holds.

some-there : (o : Option Tree) → is_some o ≡ true → (u : Tree) × (o ≡ Some u)
some-there None e = absurd (true≢false (sym e))
some-there (Some u) e = (u, refl)

none-there : (o : Option Tree) → is_some o ≡ false → o ≡ None
none-there None e = refl
none-there (Some u) e = absurd (true≢false e)

module _ {H : Type 0} (m : Meaning H) (b : Verbs H) (holds : Holds m b) (seat : Seat) (x : Sits m b seat) where
  -- The word of a register of the seat's process.
  module _ (a : Reg) (w : ℕ) (word : (s : State) (o : VerbsStand m b s) → IsHeld m b s o seat a w) where
    pub held-at : (s : State) (o : VerbsStand m b s) → HoldsThere m b.named b.heaps s.shared s.processes o.processes seat.row w (register a.0 (process_at s.processes seat.row))
    held-at s o =
        let k : IsHeld m b s o seat a w = word s o in
        rw (same_Some k.process (process_at s.processes seat.row) (sym k.found ∙ found-there m b s o holds.counts seat x)) at k.held

    module _ (mem : List ℕ) (mem_is : mem ≡ m.mem b.heaps) where
      pub stands-at : (s : State) (o : VerbsStand m b s)
          → Stands (m.test b.named b.heaps s.shared s.processes o.processes.is seat.row) s.shared mem w (register a.0 (process_at s.processes seat.row))
      stands-at s o = rw mem_is (held-at s o).standing

      pub word-term : IsTerm mem w
      word-term =
          let s : State = holds.state in
          let o : VerbsStand m b s = holds.stands in
          is-term (m.test b.named b.heaps s.shared s.processes o.processes.is seat.row) s.shared mem w (register a.0 (process_at s.processes seat.row)) (stands-at s o)

      module _ (r : Reg) (offset len : ℕ) (has : Bool)
          (tells : (c : ℕ → ℕ → Bool) (shared : List (List ℕ)) (t : Tree) → Stands c shared mem w t → has ≡ is_some (part_in shared offset len t)) where
        has-there : (s : State) (o : VerbsStand m b s) → has ≡ is_some (part_in s.shared offset len (register a.0 (process_at s.processes seat.row)))
        has-there s o = tells (m.test b.named b.heaps s.shared s.processes o.processes.is seat.row) s.shared (register a.0 (process_at s.processes seat.row)) (stands-at s o)

        pub cut-refused : has ≡ false → Does {A = Unit {0}} m (OfProcess seat.pid (verb.Choose r a (pick.Part offset len))) b b (Err BadArg)
        cut-refused no_part = refuses m b holds seat x (verb.Choose r a (pick.Part offset len)) (Unit {0}) BadArg (λ s terms names o.
            let q : Process = process_at s.processes seat.row in
            ap (λ z. choose z s (said (OfProcess seat.pid (verb.Choose r a (pick.Part offset len))) terms names) q r.0)
            (none-there (part_in s.shared offset len (register a.0 q)) (sym (has-there s o) ∙ no_part)))

        pub cut-makes : a.0 < 16 → has ≡ true → (s : State) (terms : Terms) (names : List (List ℕ)) → VerbsStand m b s
            → MakesBy s seat r (make.Part a offset len) (verb.Choose r a (pick.Part offset len)) terms names
        cut-makes small some s terms names o =
            let q : Process = process_at s.processes seat.row in
            let u = some-there (part_in s.shared offset len (register a.0 q)) (sym (has-there s o) ∙ some) in
            record {
              tree = u.0;
              makes = (small, u.1);
              words = refl;
              by = ap (λ z. choose z s (said (OfProcess seat.pid (verb.Choose r a (pick.Part offset len))) terms names) q r.0) u.1;
            }
