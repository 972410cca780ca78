-- Processes by their numbers, which rise: the one with a number stands at one place, that of its row, and its messages are within the walk limit.
use Rattle.std.proofs.Common.{◌≡◌, ℕ, zero, suc, ◌<◌, ◌≤◌, ◌==◌, Bool, not, List, [], ◌∷◌, length, map, get_or, set, if◌then◌else◌, Some, refl, ◌∙◌, ap, arith, true, sym, subst, ◌||◌}
use Rattle.std.specs.List.{find, filter, remove, list_any}
use Rattle.std.proofs.lemmas.Bool.Decides.{nat_tests}
use Rattle.plain_machine.specs.State.{Process, State, process_of, with_process, is_live}
use Rattle.space_api.specs.Calls.{AreRising, said}
use Rattle.numbered_rows.proofs.Rising.{rising-above}
use Rattle.plain_machine.specs.Laws.{AreWithin}
use Rattle.plain_machine.proofs.Properly.Holding.{queues, split-within}
use Rattle.heaps_api.specs.Changing.{process_at}
use Rattle.plain_machine.specs.Step.{by_verb, in_process, is_sweep, settled, step}
use Rattle.script_grammar.specs.Names.{Parsed}
use Rattle.script_grammar.specs.Written.{Terms}
use Rattle.script_grammar.specs.declared.command.Command.TheVariants.{Process as OfProcess}
use Rattle.script_grammar.specs.declared.command.Verb.{Verb}
use Rattle.space_api.specs.declared.space.Seat.{Seat}
use Rattle.heaps_api.specs.Meaning.{Meaning, Stood, no_process}
use Rattle.heaps_api.specs.Reading.{waiting_trees}
use Rattle.process_verbs.specs.Verbs.{IsCounted, Sits, VerbsStand}
use Rattle.process_verbs.specs.declared.verbs.Verbs.{Verbs}

-- Processes whose numbers rise: the one with a number stands at one place.

-- The numbers of processes.
abbrev pub process_numbers : List Process → List ℕ
process_numbers qs = map (λ q. q.number) qs

pub numbers-count : (qs : List Process) → length (process_numbers qs) ≡ length qs
numbers-count [] = refl
numbers-count (q ∷ qs) = ap suc (numbers-count qs)

pub number-there-of : (qs : List Process) (i : ℕ) (d : Process) → i < length qs → get_or (process_numbers qs) i 0 ≡ (get_or qs i d).number
number-there-of [] i d less = absurd (omega arith)
number-there-of (q ∷ qs) zero d less = refl
number-there-of (q ∷ qs) (suc i) d less = number-there-of qs i d (omega arith)

-- A process further on has a number above.
pub later-above : (qs : List Process) (i n : ℕ) (d : Process) → AreRising n (process_numbers qs) → i < length qs → n < (get_or qs i d).number
later-above qs i n d r less = omega (arith, number-there-of qs i d less, rising-above n (process_numbers qs) i r (omega (arith, less, numbers-count qs)))

found-first : (q : Process) (qs : List Process) (pid : ℕ) → q.number ≡ pid → find (λ x. x.number == pid) (q ∷ qs) ≡ Some q
found-first q qs pid e = grind (arith, nat_tests)

found-later : (q : Process) (qs : List Process) (pid : ℕ) → (q.number ≡ pid → ⊥) → find (λ x. x.number == pid) (q ∷ qs) ≡ find (λ x. x.number == pid) qs
found-later q qs pid other = grind (arith, nat_tests)

pub seat-found : (qs : List Process) (i pid a : ℕ) (d : Process) → AreRising a (process_numbers qs) → i < length qs → (get_or qs i d).number ≡ pid
    → find (λ x. x.number == pid) qs ≡ Some (get_or qs i d)
seat-found [] i pid a d r less e = absurd (omega arith)
seat-found (q ∷ qs) zero pid a d r less e = found-first q qs pid e
seat-found (q ∷ qs) (suc i) pid a d r less e =
    found-later q qs pid (λ same. omega (arith, same, e, later-above qs i q.number d r.1 (omega arith))) ∙ seat-found qs i pid q.number d r.1 (omega arith) e

-- One process in the place of the one with its number.
abbrev pub replaced : Process → Process → Process
replaced p q = if q.number == p.number then p else q

same-first : (p q : Process) → q.number ≡ p.number → replaced p q ≡ p
same-first p q e = grind (arith, nat_tests)

same-other : (p q : Process) → (q.number ≡ p.number → ⊥) → replaced p q ≡ q
same-other p q other = grind (arith, nat_tests)

others-stay : (qs : List Process) (a : ℕ) (p : Process) → AreRising a (process_numbers qs) → p.number ≤ a → map (replaced p) qs ≡ qs
others-stay [] a p r up = refl
others-stay (q ∷ qs) a p r up =
    ap (λ x. x ∷ map (replaced p) qs) (same-other p q (λ same. omega (arith, same, up, r.0))) ∙ ap (λ x. q ∷ x) (others-stay qs q.number p r.1 (omega (arith, up, r.0)))

pub seat-set : (qs : List Process) (i a : ℕ) (d p : Process) → AreRising a (process_numbers qs) → i < length qs → (get_or qs i d).number ≡ p.number → map (replaced p) qs ≡ set qs i p
seat-set [] i a d p r less e = absurd (omega arith)
seat-set (q ∷ qs) zero a d p r less e = ap (λ x. x ∷ map (replaced p) qs) (same-first p q e) ∙ ap (λ x. p ∷ x) (others-stay qs q.number p r.1 (omega (arith, e)))
seat-set (q ∷ qs) (suc i) a d p r less e =
    ap (λ x. x ∷ map (replaced p) qs) (same-other p q (λ same. omega (arith, same, e, later-above qs i q.number d r.1 (omega arith))))
    ∙ ap (λ x. q ∷ x) (seat-set qs i q.number d p r.1 (omega arith) e)

-- The process with the number is gone.
abbrev pub is_other : ℕ → Process → Bool
is_other pid q = not (q.number == pid)

drop-first : (q : Process) (qs : List Process) (pid : ℕ) → q.number ≡ pid → filter (is_other pid) (q ∷ qs) ≡ filter (is_other pid) qs
drop-first q qs pid e = grind (arith, nat_tests)

keep-other : (q : Process) (qs : List Process) (pid : ℕ) → (q.number ≡ pid → ⊥) → filter (is_other pid) (q ∷ qs) ≡ q ∷ filter (is_other pid) qs
keep-other q qs pid other = grind (arith, nat_tests)

others-kept : (qs : List Process) (a pid : ℕ) → AreRising a (process_numbers qs) → pid ≤ a → filter (is_other pid) qs ≡ qs
others-kept [] a pid r up = refl
others-kept (q ∷ qs) a pid r up = keep-other q qs pid (λ same. omega (arith, same, up, r.0)) ∙ ap (λ x. q ∷ x) (others-kept qs q.number pid r.1 (omega (arith, up, r.0)))

pub seat-removed : (qs : List Process) (i pid a : ℕ) (d : Process) → AreRising a (process_numbers qs) → i < length qs → (get_or qs i d).number ≡ pid → filter (is_other pid) qs ≡ remove qs i
seat-removed [] i pid a d r less e = absurd (omega arith)
seat-removed (q ∷ qs) zero pid a d r less e = drop-first q qs pid e ∙ others-kept qs q.number pid r.1 (omega (arith, e))
seat-removed (q ∷ qs) (suc i) pid a d r less e =
    keep-other q qs pid (λ same. omega (arith, same, e, later-above qs i q.number d r.1 (omega arith))) ∙ ap (λ x. q ∷ x) (seat-removed qs i pid q.number d r.1 (omega arith) e)

-- The messages that wait are within the walk limit: what keeps that.

module _ (shared : List (List ℕ)) where
  -- The messages of one process.
  pub within-at : (qs : List Process) (i : ℕ) → AreWithin shared (queues qs) → AreWithin shared (process_at qs i).queue
  within-at [] i k = tt
  within-at (q ∷ qs) zero k = (split-within shared q.queue (queues qs) k).0
  within-at (q ∷ qs) (suc i) k = within-at qs i (split-within shared q.queue (queues qs) k).1

-- The process of a seat in a state that the verbs stand for.

module _ {H : Type 0} (m : Meaning H) (b : Verbs H) (s : State) (o : VerbsStand m b s) (c : IsCounted m b) where
  pub rising-there : AreRising 0 (process_numbers s.processes)
  rising-there = subst (AreRising 0) o.processes.rows c.rising

  pub count-there : length s.processes ≡ length (m.numbers b.heaps)
  count-there = sym (ap length o.processes.rows ∙ numbers-count s.processes)

  module _ (seat : Seat) (x : Sits m b seat) where
    pub within-there : seat.row < length s.processes
    within-there = omega (arith, x.within, count-there)

    pub number-there : (process_at s.processes seat.row).number ≡ seat.pid
    number-there = sym (number-there-of s.processes seat.row no_process within-there) ∙ (sym (ap (λ ns. get_or ns seat.row 0) o.processes.rows) ∙ x.number)

    pub found-there : process_of seat.pid s ≡ Some (process_at s.processes seat.row)
    found-there = seat-found s.processes seat.row seat.pid 0 no_process rising-there within-there number-there

    pub set-there : (q : Process) → q.number ≡ seat.pid → map (replaced q) s.processes ≡ set s.processes seat.row q
    set-there q e = seat-set s.processes seat.row 0 no_process q rising-there within-there (number-there ∙ sym e)

    pub removed-there : filter (is_other seat.pid) s.processes ≡ remove s.processes seat.row
    removed-there = seat-removed s.processes seat.row seat.pid 0 no_process rising-there within-there number-there

    -- The machine's step is that of the verb at the process.
    pub step-there : (v : Verb) (terms : Terms) (names : List (List ℕ))
        → step s (said (OfProcess seat.pid v) terms names) ≡ by_verb s (said (OfProcess seat.pid v) terms names) (process_at s.processes seat.row) v
    step-there v terms names = ap (λ z. in_process z s (said (OfProcess seat.pid v) terms names) v) found-there

-- The verbs stand for the state with one process changed, and more shared binaries.
pub settled-stands : {H : Type 0} (m : Meaning H) (b c : Verbs H) (s : State) (p : Parsed) (q : Process) (shared : List (List ℕ)) → VerbsStand m b s
    → Stood m c.named c.heaps shared (map (replaced q) s.processes) → c.next ≡ b.next → c.swept ≡ is_sweep p.command → length shared ≡ c.serials
    → (is_sweep p.command ≡ true → m.tidy c.heaps) → AreWithin shared (waiting_trees (map (replaced q) s.processes))
    → VerbsStand m c (settled p (record (with_process q s) { shared = shared }))
settled-stands m b c s p q shared o stood next swept serials tidy within = record {
  processes = stood;
  next = o.next ∙ sym next;
  swept = sym swept;
  shared = serials;
  areas = o.areas;
  within = within;
  tidy = tidy;
}

-- Which processes live, by the numbers of the rows.

numbers-among : (qs : List Process) (pid : ℕ) → list_any (λ n. n == pid) (process_numbers qs) ≡ list_any (λ (q : Process). q.number == pid) qs
numbers-among [] pid = refl
numbers-among (q ∷ qs) pid = ap (λ z. (q.number == pid) || z) (numbers-among qs pid)

pub lives : {H : Type 0} (m : Meaning H) (b : Verbs H) (s : State) (o : VerbsStand m b s) (pid : ℕ) → list_any (λ n. n == pid) (m.numbers b.heaps) ≡ is_live pid s
lives m b s o pid = rw o.processes.rows (numbers-among s.processes pid)
