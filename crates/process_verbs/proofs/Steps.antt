-- What a call makes of what the verbs stand for, by what it asked of the memory: it is refused before it asked, there is no space,
-- something came into a register, or something was taken.
use Rattle.std.proofs.Common.{◌≡◌, ℕ, ◌+◌, ◌*◌, ◌^◌, ◌<◌, ◌≤◌, Bool, true, false, true≢false, ◌&&◌, ◌||◌, nat_lt, List, [], length, map, set, Result, Ok, Err, inl, inr, refl, sym, ◌∙◌, ap, subst, arith}
use Rattle.std.proofs.lemmas.Bool.{lt-ltb}
use Rattle.std.specs.Vec.{vec_len}
use Rattle.std.specs.Result.{IsErrAnd}
use Rattle.script_grammar.specs.declared.command.Command.{Command}
use Rattle.script_grammar.specs.declared.command.Command.TheVariants.{Process as OfProcess}
use Rattle.script_grammar.specs.declared.command.Verb.{Verb}
use Rattle.script_grammar.specs.declared.refusal.Refusal.{Refusal}
use Rattle.script_grammar.specs.declared.refusal.Refusal.TheVariants.{NoSpace}
use Rattle.script_grammar.specs.Names.{Parsed}
use Rattle.script_grammar.specs.Written.{Terms}
use Rattle.script_grammar.specs.Written.Terms.{end}
use Rattle.plain_machine.specs.State.{Process, State, with_process}
use Rattle.plain_machine.specs.Step.{Outcome, by_verb, does, settled, step}
use Rattle.plain_machine.specs.Step.Outcome.{Accepted, Mapped, Refused}
use Rattle.plain_machine.specs.Laws.{AreWithin}
use Rattle.plain_machine.specs.May.{gets_to_space, is_purge, may_of_tight}
use Rattle.plain_machine.specs.Tightness.{demand, grow, process_words, verb_words}
use Rattle.plain_machine.proofs.Properly.Holding.{put-within}
use Rattle.space_api.specs.Calls.{Becomes, Follows, Passes, said}
use Rattle.space_api.specs.declared.space.Seat.{Seat}
use Rattle.heaps_api.specs.Meaning.{CanAsk, Lives, Meaning, Stood}
use Rattle.heaps_api.specs.Changing.{Looks, KeepsRows, process_at}
use Rattle.heaps_api.specs.Wanted.{words_of_want}
use Rattle.heaps_api.specs.declared.wanted.Want.{Want}
use Rattle.process_verbs.specs.Verbs.{Holds, IsCounted, Sits, VerbsStand, memory_words}
use Rattle.process_verbs.specs.Asked.{Searches, answer_of_search, changed, roomed}
use Rattle.process_verbs.specs.Doing.{Does, DoesAtOnce}
use Rattle.process_verbs.specs.declared.verbs.Verbs.{Verbs}
use Rattle.process_verbs.specs.declared.verbs.TheConstants.{ROW}
use Rattle.process_verbs.proofs.Processes.{found-there, number-there, replaced, set-there, settled-stands, step-there}

-- What stands after a call, whatever its result.
pub follows-some : {A : Type 0} (o : Outcome) (s : State) (r : Result A Refusal) (Stands : State → Type 0) → Follows o s r Stands → (t : State) × Stands t
follows-some (Accepted next reply) s (Ok a) Stands f = (next, f)
follows-some (Accepted next reply) s (Err e) Stands f = absurd f
follows-some (Refused x) s (Ok a) Stands f = absurd f
follows-some (Refused x) s (Err e) Stands f = (s, f.1)
follows-some Mapped s r Stands f = absurd f

pub passes-some : (o : Outcome) (Stands : State → Type 0) → Passes o Stands → (t : State) × Stands t
passes-some (Accepted next reply) Stands f = (next, f)
passes-some (Refused x) Stands f = absurd f
passes-some Mapped Stands f = absurd f

pub becomes-some : {A : Type 0} (words : ℕ) (s : State) (p : Parsed) (r : Result A Refusal) (Stands : State → Type 0) → Becomes words s p r Stands → (t : State) × Stands t
becomes-some words s p r Stands (inl f) = follows-some (step s p) s r Stands f
becomes-some words s p (Ok a) Stands (inr f) = absurd f
becomes-some words s p (Err e) Stands (inr f) = (s, f.2)

-- There is no space where the line is tight.
all-true : (a b c d : Bool) → a ≡ true → b ≡ true → d ≡ true → (a && ((b || c) && d)) ≡ true
all-true true true c true x y z = refl
all-true true true c false x y z = z
all-true true false c d x y z = absurd (true≢false (sym y))
all-true false b c d x y z = absurd (true≢false (sym x))

pub no-space : (A : Type 0) (words : ℕ) (Stands : State → Type 0) (s : State) (p : Parsed) (n : ℕ) → Stands s → grow s p ≡ n → words < 2 * (demand s + n) → 0 < n
    → gets_to_space p.command (step s p) ≡ true → Becomes {A = A} words s p (Err (NoSpace n)) Stands
no-space A words Stands s p n o is tight some gets =
    let more : words < 2 * (demand s + grow s p) = omega (arith, tight, is) in
    let asks : 0 < grow s p = omega (arith, some, is) in
    let may : may_of_tight words s p ≡ true =
    all-true (nat_lt words (2 * (demand s + grow s p))) (nat_lt 0 (grow s p)) (is_purge p.command) (gets_to_space p.command (step s p)) (lt-ltb words (2 * (demand s + grow s p)) more)
    (lt-ltb 0 (grow s p) asks) gets in
    inr (may, ap NoSpace (sym is), o)

module _ {H : Type 0} (m : Meaning H) where
  -- The memory lives, and can be asked.
  abbrev pub lives-there : (b : Verbs H) → Holds m b → Lives m b.heaps
  lives-there b holds = record {
    count = 2 * b.calls;
    whole = holds.counts.whole;
    named = b.named;
    shared = holds.state.shared;
    processes = holds.state.processes;
    stood = holds.stands.processes;
  }

  few-there : (b : Verbs H) (holds : Holds m b) → b.calls < 2 ^ 36 → (lives-there b holds).count < 2 ^ 38
  few-there b holds few = let n : ℕ = 2 * b.calls in omega (arith, few)

  pub ready : (b : Verbs H) → Holds m b → b.calls < 2 ^ 36 → CanAsk m b.heaps
  ready b holds few = record { lives = lives-there b holds; few = few-there b holds few }

  -- What stands for a state after a call, and is counted, is whole.
  pub holds-become : {A : Type 0} (words : ℕ) (b : Verbs H) (s : State) (line : Parsed) (r : Result A Refusal) → IsCounted m b → Becomes words s line r (VerbsStand m b) → Holds m b
  holds-become words b s line r counts f = let t = becomes-some words s line r (VerbsStand m b) f in record { counts = counts; state = t.0; stands = t.1 }

  pub holds-passed : (b : Verbs H) (o : Outcome) → IsCounted m b → Passes o (VerbsStand m b) → Holds m b
  holds-passed b o counts f = let t = passes-some o (VerbsStand m b) f in record { counts = counts; state = t.0; stands = t.1 }

  -- The verbs are counted after calls of the memory that keep its rows.
  counts-kept : (b c : Verbs H) → IsCounted m b → m.numbers c.heaps ≡ m.numbers b.heaps → vec_len c.scratch ≡ vec_len b.scratch → c.next ≡ b.next → b.calls ≤ c.calls
      → c.serials ≤ ROW * c.calls → m.whole (2 * c.calls) c.heaps → IsCounted m c
  counts-kept b c k rows row next calls serials whole = record {
    enough = row ∙ k.enough;
    few = rw rows k.few;
    rising = rw rows k.rising;
    below = rw (rows, next) k.below;
    second = omega (arith, k.second, next);
    numbered = omega (arith, k.numbered, next, calls);
    serials = serials;
    whole = whole;
  }

  pub counts-stay : (b c : Verbs H) → IsCounted m b → m.numbers c.heaps ≡ m.numbers b.heaps → c.scratch ≡ b.scratch → c.next ≡ b.next → b.calls ≤ c.calls
      → c.serials ≡ b.serials → m.whole (2 * c.calls) c.heaps → IsCounted m c
  counts-stay b c k rows row next calls serials whole =
      counts-kept b c k rows (ap (λ z. vec_len z) row) next calls (omega (arith, k.serials, serials, calls)) whole

  -- A search for room.
  module _ (b : Verbs H) (holds : Holds m b) (want : Want) (h : H) (found : Bool) (looks : Looks m want b.heaps h found) where
    pub whole-roomed : m.whole (2 * b.calls + 1) h
    whole-roomed = looks.stays.goes.whole (2 * b.calls) (2 * b.calls + 1) holds.counts.whole (omega arith)

    pub counts-roomed : IsCounted m (roomed b h)
    counts-roomed = counts-stay b (roomed b h) holds.counts looks.stays.rows refl refl (omega arith) refl
        (looks.stays.goes.whole (2 * b.calls) (2 * (b.calls + 1)) holds.counts.whole (omega arith))

    pub stands-roomed : (s : State) → VerbsStand m b s → VerbsStand m (roomed b h) s
    stands-roomed s o = record {
      processes = looks.kept b.named s.shared s.processes o.processes;
      next = o.next;
      swept = o.swept;
      shared = o.shared;
      areas = o.areas;
      within = o.within;
      tidy = λ e. looks.tidy (o.tidy e);
    }

    pub holds-roomed : Holds m (roomed b h)
    holds-roomed = record { counts = counts-roomed; state = holds.state; stands = stands-roomed holds.state holds.stands }

    -- The verbs are counted after a call that was done in that room.
    pub counts-gained : (c : Verbs H) → KeepsRows m h c.heaps → vec_len c.scratch ≡ vec_len b.scratch → c.next ≡ b.next → c.calls ≡ b.calls + 1 → c.serials ≤ ROW * c.calls → IsCounted m c
    counts-gained c stays row next calls serials =
        counts-kept b c holds.counts (stays.rows ∙ looks.stays.rows) row next (omega (arith, calls)) serials
        (stays.goes.whole (2 * b.calls + 1) (2 * c.calls) whole-roomed (omega (arith, calls)))

    -- The memory can be asked once more.
    pub ready-roomed : b.calls < 2 ^ 36 → CanAsk m h
    ready-roomed few = record {
      lives = record {
        count = 2 * b.calls + 1;
        whole = whole-roomed;
        named = b.named;
        shared = holds.state.shared;
        processes = holds.state.processes;
        stood = looks.kept b.named holds.state.shared holds.state.processes holds.stands.processes;
      };
      few = omega (arith, few);
    }

    -- There is no space.
    module _ (lacking : found ≡ false) where
      pub lacks-space : (A : Type 0) (s : State) (line : Parsed) → VerbsStand m b s → grow s line ≡ words_of_want want → gets_to_space line.command (step s line) ≡ true
          → Becomes {A = A} (memory_words m b) s line (Err (NoSpace (words_of_want want))) (VerbsStand m (roomed b h))
      lacks-space A s line o asked gets =
          no-space A (memory_words m b) (VerbsStand m (roomed b h)) s line (words_of_want want) (stands-roomed s o) asked (looks.tight lacking b.named s o.processes o.areas) (looks.some lacking) gets

      pub lacks-does : (A : Type 0) (c : Command)
          → ((s : State) (terms : Terms) (names : List (List ℕ)) → VerbsStand m b s
          → (grow s (said c terms names) ≡ words_of_want want) × (gets_to_space c (step s (said c terms names)) ≡ true))
          → Does {A = A} m c b (roomed b h) (Err (NoSpace (words_of_want want)))
      lacks-does A c asks = record {
        holds = holds-roomed;
        becomes = λ s terms names o. let a = asks s terms names o in lacks-space A s (said c terms names) o a.0 a.1;
        books = record { same_words = looks.stays.goes.words; one_call = omega arith; few_names = omega arith };
      }

  -- A verb of the process that has a seat.
  module _ (b : Verbs H) (holds : Holds m b) (seat : Seat) (x : Sits m b seat) (v : Verb) where
    abbrev pub line : Terms → List (List ℕ) → Parsed
    line terms names = said (OfProcess seat.pid v) terms names

    -- The process.
    abbrev pub seated : State → Process
    seated s = process_at s.processes seat.row

    pub at-seat : (s : State) → VerbsStand m b s → (terms : Terms) (names : List (List ℕ)) → step s (line terms names) ≡ by_verb s (line terms names) (seated s) v
    at-seat s o terms names = step-there m b s o holds.counts seat x v terms names

    -- What the verb asks for.
    pub grow-there : (s : State) → VerbsStand m b s → (terms : Terms) (names : List (List ℕ)) → grow s (line terms names) ≡ verb_words s (line terms names) (seated s) v
    grow-there s o terms names = ap (λ z. process_words z s (line terms names) v) (found-there m b s o holds.counts seat x)

    -- It is refused before anything was asked.
    pub refuses : (A : Type 0) (e : Refusal) → ((s : State) (terms : Terms) (names : List (List ℕ)) → VerbsStand m b s → by_verb s (line terms names) (seated s) v ≡ Refused e)
        → Does {A = A} m (OfProcess seat.pid v) b b (Err e)
    refuses A e is = record {
      holds = holds;
      becomes = λ s terms names o. inl (rw (at-seat s o terms names, is s terms names o) (refl, o));
      books = record { same_words = refl; one_call = omega arith; few_names = omega arith };
    }

    -- There is no space for it.
    pub lacks : (A : Type 0) (want : Want) (h : H) (looks : Looks m want b.heaps h false)
        → ((s : State) (terms : Terms) (names : List (List ℕ)) → VerbsStand m b s
        → (verb_words s (line terms names) (seated s) v ≡ words_of_want want) × (gets_to_space (OfProcess seat.pid v) (by_verb s (line terms names) (seated s) v) ≡ true))
        → Does {A = A} m (OfProcess seat.pid v) b (roomed b h) (Err (NoSpace (words_of_want want)))
    lacks A want h looks asks = lacks-does b holds want h false looks refl A (OfProcess seat.pid v)
        (λ s terms names o. let a = asks s terms names o in (grow-there s o terms names ∙ a.0, rw (at-seat s o terms names) a.1))

    -- The process after it, in a state for which the memory stands with it in its row.
    pub record Changed (s : State) (terms : Terms) (names : List (List ℕ)) (h : H) : Type 0 where
      pub process : Process
      pub number : process.number ≡ (seated s).number
      pub does_so : by_verb s (line terms names) (seated s) v ≡ does (line terms names) (with_process process s)
      pub stood : Stood m b.named h s.shared (set s.processes seat.row process)
      pub within : AreWithin s.shared process.queue

    -- The verbs stand for the state with that process.
    pub seat-stands : (s : State) (o : VerbsStand m b s) (terms : Terms) (names : List (List ℕ)) (q : Process) (h : H) → q.number ≡ (seated s).number
        → Stood m b.named h s.shared (set s.processes seat.row q) → AreWithin s.shared q.queue → VerbsStand m (changed b h) (settled (line terms names) (with_process q s))
    seat-stands s o terms names q h number stood within =
        let same : map (replaced q) s.processes ≡ set s.processes seat.row q = set-there m b s o holds.counts seat x q (number ∙ number-there m b s o holds.counts seat x) in
        settled-stands m b (changed b h) s (line terms names) q s.shared o (rw same stood) refl refl o.shared (λ e. absurd (true≢false (sym e)))
        (put-within s.shared q s.processes within o.within)

    -- It was done.
    pub changes : (h : H) → IsCounted m (changed b h) → length (m.mem h) ≡ length (m.mem b.heaps)
        → ((s : State) (terms : Terms) (names : List (List ℕ)) → VerbsStand m b s → Changed s terms names h)
        → DoesAtOnce {A = Unit {0}} m (OfProcess seat.pid v) b (changed b h) (Ok tt)
    changes h counts words k =
        let f : (s : State) (terms : Terms) (names : List (List ℕ)) → VerbsStand m b s
        → Follows {A = Unit {0}} (step s (line terms names)) s (Ok tt) (VerbsStand m (changed b h)) =
        λ s terms names o. let c = k s terms names o in rw (at-seat s o terms names, c.does_so) (seat-stands s o terms names c.process h c.number c.stood c.within) in
        record {
          holds = holds-become {A = Unit {0}} (memory_words m b) (changed b h) holds.state (line end []) (Ok tt) counts (inl (f holds.state end [] holds.stands));
          follows = f;
          books = record { same_words = words; one_call = omega arith; few_names = omega arith };
        }

    -- The same of a call that asked for room.
    pub gains : (want : Want) (h : H) (looks : Looks m want b.heaps h true) (h2 : H) → KeepsRows m h h2
        → ((s : State) (terms : Terms) (names : List (List ℕ)) → VerbsStand m b s → Stood m b.named h s.shared s.processes → Changed s terms names h2)
        → Does {A = Unit {0}} m (OfProcess seat.pid v) b (changed b h2) (Ok tt)
    gains want h looks h2 stays k =
        let counts : IsCounted m (changed b h2) = counts-gained b holds want h true looks (changed b h2) stays refl refl refl (omega (arith, holds.counts.serials)) in
        let d = changes h2 counts (stays.goes.words ∙ looks.stays.goes.words) (λ s terms names o. k s terms names o (looks.kept b.named s.shared s.processes o.processes)) in
        record { holds = d.holds; becomes = λ s terms names o. inl (d.follows s terms names o); books = d.books }

    -- The same of a call that asked for none.
    pub puts : (h : H) → KeepsRows m b.heaps h → ((s : State) (terms : Terms) (names : List (List ℕ)) → VerbsStand m b s → Changed s terms names h)
        → DoesAtOnce {A = Unit {0}} m (OfProcess seat.pid v) b (changed b h) (Ok tt)
    puts h stays k =
        changes h (counts-stay b (changed b h) holds.counts stays.rows refl refl (omega arith) refl
        (stays.goes.whole (2 * b.calls) (2 * (b.calls + 1)) holds.counts.whole (omega arith))) stays.goes.words k

-- What a call knows once it has looked for what is wanted: the answer tells whether it was found.
found-by : (want : Want) (found : Bool) (u : Unit {0}) → Ok u ≡ answer_of_search want found → found ≡ true
found-by want true u e = refl
found-by want false u e = absurd cc

lacking-by : (want : Want) (found : Bool) (e : Refusal) → Err e ≡ answer_of_search want found → (found ≡ false) × (e ≡ NoSpace (words_of_want want))
lacking-by want true e is = absurd cc
lacking-by want false e is = (refl, same (answer_of_search want false) is refl)
  where
    same : (r : Result (Unit {0}) Refusal) → Err e ≡ r → r ≡ Err (NoSpace (words_of_want want)) → e ≡ NoSpace (words_of_want want)
    same r one two = cc

-- The verbs after a call that asked for room before.
abbrev pub after : {H : Type 0} → Verbs H → H → Verbs H
after c h = record { heaps = h; scratch = c.scratch; next = c.next; serials = c.serials; named = c.named; calls = c.calls; swept = false }

module _ {H : Type 0} (m : Meaning H) (b c : Verbs H) (want : Want) (res : Result (Unit {0}) Refusal) (x : Searches m want b c res) where
  pub looks-found : (u : Unit {0}) → res ≡ Ok u → Looks m want b.heaps x.heaps true
  looks-found u is = subst (λ z. Looks m want b.heaps x.heaps z) (found-by want x.found u (sym is ∙ x.answer)) x.looks

  pub looks-lacking : (e : Refusal) → res ≡ Err e → Looks m want b.heaps x.heaps false
  looks-lacking e is = subst (λ z. Looks m want b.heaps x.heaps z) (lacking-by want x.found e (sym is ∙ x.answer)).0 x.looks

  pub no-space-told : (e : Refusal) → res ≡ Err e → e ≡ NoSpace (words_of_want want)
  no-space-told e is = (lacking-by want x.found e (sym is ∙ x.answer)).1

  pub heaps-are : c.heaps ≡ x.heaps
  heaps-are = ap (λ z. z.heaps) x.same

  -- An error that went on as it was.
  pub lacking-told : (e : Refusal) → res ≡ Err e → (out : Result (Unit {0}) Refusal) → IsErrAnd out (λ y. y ≡ e) → out ≡ Err (NoSpace (words_of_want want))
  lacking-told e is (Ok a) as_it = absurd as_it
  lacking-told e is (Err y) as_it = ap Err (as_it ∙ no-space-told e is)

  -- The memory can be asked once more.
  pub ready-after : Holds m b → b.calls < 2 ^ 36 → CanAsk m c.heaps
  ready-after holds few = subst (CanAsk m) (sym heaps-are) (ready-roomed m b holds want x.heaps x.found x.looks few)

  -- There is no space for a verb that asks for this.
  pub lacks-after : (holds : Holds m b) (seat : Seat) (sits : Sits m b seat) (v : Verb) (A : Type 0) (e : Refusal) → res ≡ Err e
      → ((s : State) (terms : Terms) (names : List (List ℕ)) → VerbsStand m b s
      → (verb_words s (said (OfProcess seat.pid v) terms names) (process_at s.processes seat.row) v ≡ words_of_want want)
      × (gets_to_space (OfProcess seat.pid v) (by_verb s (said (OfProcess seat.pid v) terms names) (process_at s.processes seat.row) v) ≡ true))
      → Does {A = A} m (OfProcess seat.pid v) b c (Err e)
  lacks-after holds seat sits v A e is asks = rw (x.same, no-space-told e is) (lacks m b holds seat sits v A want x.heaps (looks-lacking e is) asks)
