-- A process in a run and on the machine where it lives alone: the same by name, and what keeps it so.
use Rattle.std.proofs.Common.{◌≡◌, ℕ, zero, suc, ◌==◌, Bool, true, false, cond, List, [], ◌∷◌, ◌++◌, length, drop, map, replicate, Option, Some, None, refl, sym, ap, subst, ◌∙◌, append-nil, append_assoc, eqb-true, codes, inl, inr, arith}
use Rattle.std.proofs.lemmas.Bool.{both_ways, eq-eqb, false_from_ne_true}
use Rattle.std.specs.Prelude.{option_map, flat_map}
use Rattle.std.proofs.lemmas.List.{map-append}
use Rattle.plain_term.specs.Tree.{Tree}
use Rattle.plain_term.specs.Tree.{Tree as tree}
use Rattle.script_grammar.specs.declared.limits.TheConstants.{REGISTERS}
use Rattle.script_grammar.specs.declared.word.Word.{Word}
use Rattle.script_grammar.specs.Written.{Operands, Written, kinds_of}
use Rattle.script_grammar.specs.Written.Written.{OfProcess}
use Rattle.script_grammar.proofs.Naming.{with-names-more}
use Rattle.plain_machine.specs.State.{Process as Live, State, process_of, first_state, fresh_process, with_queued}
use Rattle.plain_machine.specs.Step.{Outcome}
use Rattle.plain_machine.specs.Step.Outcome.{Accepted, Refused, Mapped}
use Rattle.plain_machine.specs.Tightness.{held_trees}
use Rattle.plain_machine.specs.Laws.{AreProper, HoldsProper}
use Rattle.plain_machine.proofs.Properly.Making.{Extends}
use Rattle.plain_machine.proofs.Properly.Holding.{split-proper}
use Rattle.isolation.specs.Named.NamedTree.{NamedTree, as_named}
use Rattle.isolation.specs.Named.NamedTree.{NamedTree as by_name}
use Rattle.isolation.specs.Named.Entering.{names_in, shared_in, names_with, shared_with, entered}
use Rattle.isolation.specs.Named.Laws.{AllKnown}
use Rattle.isolation.proofs.Named.Growing.{proper-known}
use Rattle.isolation.proofs.Named.Entering.{enters}
use Rattle.isolation.proofs.Named.Parts.{join-known, split-known, nils-known}
use Rattle.isolation.specs.Views.{Sight, is_area_line, queue_in, queue_of}
use Rattle.isolation.specs.Views.Sight.{born, message}
use Rattle.isolation.specs.Solo.{solo_first, with_received, answers_of, left_by, step_at, solo_answers, solo_after, solo_from}
use Rattle.isolation.proofs.Finding.{found, found-number, found-queued}
use Rattle.isolation.proofs.ByName.{NamedProcess, process_named, KnownProcess, IfKnown, lives_named, IsKnownIn, outcome_named, KnownAfter, named_answers, named_left, line_named}
use Rattle.isolation.proofs.Areas.{AreasKnown, NamedArea, areas-grown, areas_named}
use Rattle.isolation.proofs.Own.{OwnStep, own-line, grown-process}
use Rattle.isolation.proofs.Others.{area-not-own, ChangesAreas, Comes, OtherOutcome, Passes, other-line, with_more}
use Rattle.isolation.proofs.AreaSteps.{AreaStep, area-step, area_line_named, kept, other-areas}

-- the process and the literal areas are the same by name in both, and known on the second
pub record Alike (m : ℕ) (s t : State) : Type 0 where
  pub same : lives_named m s ≡ lives_named m t
  pub known : IsKnownIn m t
  pub areas : areas_named s ≡ areas_named t
  pub beside : AreasKnown t

-- proper trees that live are known
all-proper-known : (names shared : List (List ℕ)) (ts : List Tree) → AreProper names shared ts → AllKnown names shared ts
all-proper-known names shared [] h = tt
all-proper-known names shared (t ∷ ts) h = (proper-known names shared t h.0, all-proper-known names shared ts h.1)

known-found : (names shared : List (List ℕ)) (m : ℕ) (qs : List Live) → AllKnown names shared (flat_map held_trees qs) → IfKnown names shared (found m qs)
known-found names shared m [] h = tt
known-found names shared m (q ∷ qs) h = let k = split-known names shared (held_trees q) (flat_map held_trees qs) h in at (q.number == m) (k.0) (known-found names shared m qs (k.1))
  where
    at : (b : Bool) → AllKnown names shared (held_trees q) → IfKnown names shared (found m qs) → IfKnown names shared (cond b (Some q) (found m qs))
    at true h k = let a = split-known names shared q.registers (q.stack ++ q.queue) h in let b = split-known names shared q.stack q.queue (a.1) in
        record { registers = a.0; stack = b.0; queue = b.1 }
    at false h k = k

pub known-in : (m : ℕ) (s : State) → HoldsProper s → IsKnownIn m s
known-in m s h = known-found s.names s.shared m s.processes
    (all-proper-known s.names s.shared (flat_map held_trees s.processes) ((split-proper s.names s.shared (flat_map held_trees s.processes) (flat_map (λ a. a.literals) s.areas) h.proper).0))

-- replies and the process after an outcome, by name
answers-named : (m : ℕ) (o : Outcome) → answers_of o ≡ named_answers (outcome_named m o)
answers-named m (Accepted next reply) = refl
answers-named m (Refused r) = refl
answers-named m Mapped = refl

left-named : (m : ℕ) (s : State) (o : Outcome) → lives_named m (left_by s o) ≡ named_left (lives_named m s) (outcome_named m o)
left-named m s (Accepted next reply) = refl
left-named m s (Refused r) = refl
left-named m s Mapped = refl

left-known : (m : ℕ) (s : State) (o : Outcome) → IsKnownIn m s → KnownAfter m o → IsKnownIn m (left_by s o)
left-known m s (Accepted next reply) h k = k
left-known m s (Refused r) h k = h
left-known m s Mapped h k = h

-- the process's own line is answered alike, and leaves them alike
module _ (m : ℕ) (s t : State) (w : Word) (ops : Operands (kinds_of w)) (h : IsKnownIn m s) (b : AreasKnown s) (a : Alike m s t) where
  here : OwnStep m (step_at s (OfProcess m w ops)) (line_named (areas_named s) (lives_named m s) w ops)
  here = own-line s m w ops h b

  there : OwnStep m (step_at t (OfProcess m w ops)) (line_named (areas_named t) (lives_named m t) w ops)
  there = own-line t m w ops a.known a.beside

  outcomes-alike : outcome_named m (step_at s (OfProcess m w ops)) ≡ outcome_named m (step_at t (OfProcess m w ops))
  outcomes-alike = here.same ∙ ((λ i. line_named (a.areas i) (a.same i) w ops) ∙ sym there.same)

  pub answers-alike : answers_of (step_at s (OfProcess m w ops)) ≡ answers_of (step_at t (OfProcess m w ops))
  answers-alike = answers-named m (step_at s (OfProcess m w ops)) ∙ (ap named_answers outcomes-alike ∙ sym (answers-named m (step_at t (OfProcess m w ops))))

  -- what a line of its own leaves of areas is what it leaves where it is another's
  apart : (m == suc m) ≡ false
  apart = false_from_ne_true (m == suc m) (λ e. absurd (omega (arith, eqb-true m (suc m) e)))

  here-areas : (areas_named (left_by s (step_at s (OfProcess m w ops))) ≡ areas_named s) × AreasKnown (left_by s (step_at s (OfProcess m w ops)))
  here-areas = other-areas s b (suc m) (OfProcess m w ops) (step_at s (OfProcess m w ops)) refl (other-line (suc m) s (OfProcess m w ops) apart)

  there-areas : (areas_named (left_by t (step_at t (OfProcess m w ops))) ≡ areas_named t) × AreasKnown (left_by t (step_at t (OfProcess m w ops)))
  there-areas = other-areas t a.beside (suc m) (OfProcess m w ops) (step_at t (OfProcess m w ops)) refl (other-line (suc m) t (OfProcess m w ops) apart)

  pub own-areas : AreasKnown (left_by s (step_at s (OfProcess m w ops)))
  own-areas = here-areas.1

  pub own-alike : Alike m (left_by s (step_at s (OfProcess m w ops))) (left_by t (step_at t (OfProcess m w ops)))
  own-alike = record {
    same = left-named m s (step_at s (OfProcess m w ops)) ∙ ((λ i. named_left (a.same i) (outcomes-alike i)) ∙ sym (left-named m t (step_at t (OfProcess m w ops))));
    known = left-known m t (step_at t (OfProcess m w ops)) a.known there.known;
    areas = here-areas.0 ∙ (a.areas ∙ sym there-areas.0);
    beside = there-areas.1;
  }

-- trees behind those of a queue
abbrev pub more_named : List NamedTree → NamedProcess → NamedProcess
more_named ts x = record x { queue = x.queue ++ ts }

more-named-none : (o : Option NamedProcess) → o ≡ option_map (more_named []) o
more-named-none None = refl
more-named-none (Some x) = ap Some (ap (λ (z : List NamedTree). record x { queue = z }) (sym (append-nil x.queue)))

more-named-then : (a : NamedTree) (ts : List NamedTree) (o : Option NamedProcess) → option_map (more_named ts) (option_map (more_named (a ∷ [])) o) ≡ option_map (more_named (a ∷ ts)) o
more-named-then a ts None = refl
more-named-then a ts (Some x) = ap Some (ap (λ (z : List NamedTree). record x { queue = z }) (append_assoc x.queue (a ∷ []) ts))

-- a message that is received
module _ (m : ℕ) (a : NamedTree) (t : State) where
  names-more : Extends t.names (names_with t.names a)
  names-more = let k = with-names-more t.names (names_in a) in record { more = k.0; are = k.1 }

  shared-more : Extends t.shared (shared_with t.shared a)
  shared-more = let k = with-names-more t.shared (shared_in a) in record { more = k.0; are = k.1 }

  -- one that lives
  process-received : (q : Live) → q.number ≡ m → KnownProcess t.names t.shared q
      → (process_named (names_with t.names a) (shared_with t.shared a) (with_queued m (entered t.names t.shared a) q) ≡ more_named (a ∷ []) (process_named t.names t.shared q))
      × KnownProcess (names_with t.names a) (shared_with t.shared a) (with_queued m (entered t.names t.shared a) q)
  process-received q is h =
      let ns : List (List ℕ) = names_with t.names a in
      let bs : List (List ℕ) = shared_with t.shared a in
      let u : Tree = entered t.names t.shared a in
      let e = enters t.names t.shared a in
      let g = grown-process t.names ns t.shared bs q names-more shared-more h in
      let P : Live → Type 0 = λ z. (process_named ns bs z ≡ more_named (a ∷ []) (process_named t.names t.shared q)) × KnownProcess ns bs z in
      let put : with_queued m u q ≡ with_more (u ∷ []) q = ap (λ b. cond b (with_more (u ∷ []) q) q) (eq-eqb q.number m is) in
      let queue : map (as_named ns bs) (q.queue ++ u ∷ []) ≡ map (as_named ns bs) q.queue ++ a ∷ [] = map-append (as_named ns bs) q.queue (u ∷ [])
      ∙ ap (λ (z : NamedTree). map (as_named ns bs) q.queue ++ z ∷ []) e.is in
      subst P (sym put) (
        ap (λ (z : List NamedTree). record (process_named ns bs q) { queue = z }) queue ∙ ap (more_named (a ∷ [])) (g.0),
        record { registers = (g.1).registers; stack = (g.1).stack; queue = join-known ns bs q.queue (u ∷ []) ((g.1).queue) (e.known, tt) },
      )

  pub received : IsKnownIn m t → (lives_named m (with_received m a t) ≡ option_map (more_named (a ∷ [])) (lives_named m t)) × IsKnownIn m (with_received m a t)
  received h =
      let ns : List (List ℕ) = names_with t.names a in
      let bs : List (List ℕ) = shared_with t.shared a in
      let u : Tree = entered t.names t.shared a in
      let put : found m (map (with_queued m u) t.processes) ≡ option_map (with_queued m u) (found m t.processes) = found-queued m m u t.processes in
      let P : Option Live → Type 0 = λ z. (option_map (process_named ns bs) z ≡ option_map (more_named (a ∷ [])) (lives_named m t)) × IfKnown ns bs z in
      subst P (sym put) (at (found m t.processes) h (λ q e. found-number m t.processes q e))
    where
      at : (o : Option Live) → IfKnown t.names t.shared o → ((q : Live) → o ≡ Some q → q.number ≡ m)
          → (option_map (process_named (names_with t.names a) (shared_with t.shared a)) (option_map (with_queued m (entered t.names t.shared a)) o)
          ≡ option_map (more_named (a ∷ [])) (option_map (process_named t.names t.shared) o))
          × IfKnown (names_with t.names a) (shared_with t.shared a) (option_map (with_queued m (entered t.names t.shared a)) o)
      at None h n = (refl, tt)
      at (Some q) h n = let k = process-received q (n q refl) h in (ap Some (k.0), k.1)

  -- it leaves the areas as they are by name
  pub received-areas : AreasKnown t → (areas_named (with_received m a t) ≡ areas_named t) × AreasKnown (with_received m a t)
  received-areas b = areas-grown t.names (names_with t.names a) t.shared (shared_with t.shared a) t.areas names-more shared-more b

-- the state after sights
abbrev pub after_all : ℕ → State → List Sight → State
after_all m t [] = t
after_all m t (x ∷ view) = after_all m (solo_after m t x) view

pub solo-append : (m : ℕ) (t : State) (xs ys : List Sight) → solo_from m t (xs ++ ys) ≡ solo_from m t xs ++ solo_from m (after_all m t xs) ys
solo-append m t [] ys = refl
solo-append m t (x ∷ xs) ys = ap (λ z. solo_answers t x ++ z) (solo-append m (solo_after m t x) xs ys)
    ∙ sym (append_assoc (solo_answers t x) (solo_from m (solo_after m t x) xs) (solo_from m (after_all m (solo_after m t x) xs) ys))

-- messages one after the other
pub messages-silent : (m : ℕ) (t : State) (f : Tree → NamedTree) (us : List Tree) → solo_from m t (map (λ u. message (f u)) us) ≡ []
messages-silent m t f [] = refl
messages-silent m t f (u ∷ us) = messages-silent m (with_received m (f u) t) f us

pub messages-received : (m : ℕ) (t : State) (f : Tree → NamedTree) (us : List Tree) → IsKnownIn m t
    → (lives_named m (after_all m t (map (λ u. message (f u)) us)) ≡ option_map (more_named (map f us)) (lives_named m t)) × IsKnownIn m (after_all m t (map (λ u. message (f u)) us))
messages-received m t f [] h = (more-named-none (lives_named m t), h)
messages-received m t f (u ∷ us) h =
    let one = received m (f u) t h in
    let rest = messages-received m (with_received m (f u) t) f us (one.1) in (
      rest.0 ∙ (ap (option_map (more_named (map f us))) (one.0) ∙ more-named-then (f u) (map f us) (lives_named m t)),
      rest.1,
    )

pub messages-areas : (m : ℕ) (t : State) (f : Tree → NamedTree) (us : List Tree) → AreasKnown t
    → (areas_named (after_all m t (map (λ u. message (f u)) us)) ≡ areas_named t) × AreasKnown (after_all m t (map (λ u. message (f u)) us))
messages-areas m t f [] b = (refl, b)
messages-areas m t f (u ∷ us) b =
    let one = received-areas m (f u) t b in
    let rest = messages-areas m (with_received m (f u) t) f us (one.1) in (rest.0 ∙ one.0, rest.1)

-- what stands behind a queue
drop-front : {A : Type 0} (xs ys : List A) → drop (length xs) (xs ++ ys) ≡ ys
drop-front [] ys = refl
drop-front (x ∷ xs) ys = drop-front xs ys

abbrev pub behind : ℕ → State → State → List Tree
behind m s next = drop (length (queue_of m s)) (queue_of m next)

-- a line that is not its own leaves the process alike, once what stands behind its queue was received
pub passes-alike : (m : ℕ) (s next t : State) → Passes m s next → IsKnownIn m s → AreasKnown s → Alike m s t
    → Alike m next (after_all m t (map (λ u. message (as_named next.names next.shared u)) (behind m s next)))
passes-alike m s next t p h b a =
    let f : Tree → NamedTree = as_named next.names next.shared in
    let r = messages-received m t f (behind m s next) a.known in
    let g = messages-areas m t f (behind m s next) a.beside in
    record {
      same = at (process_of m s) h (process_of m next) p.is ∙ (ap (option_map (more_named (map f (behind m s next)))) a.same ∙ sym (r.0));
      known = r.1;
      areas = (kept s b next p.names p.shared p.areas).0 ∙ (a.areas ∙ sym (g.0));
      beside = g.1;
    }
  where
    at : (o : Option Live) → IfKnown s.names s.shared o → (n : Option Live) → n ≡ option_map (with_more p.more) o
        → option_map (process_named next.names next.shared) n
        ≡ option_map (more_named (map (as_named next.names next.shared) (drop (length (queue_in o)) (queue_in n)))) (option_map (process_named s.names s.shared) o)
    at None h n e = ap (option_map (process_named next.names next.shared)) e
    at (Some q) h n e =
        let f : Tree → NamedTree = as_named next.names next.shared in
        let g = grown-process s.names next.names s.shared next.shared q p.names p.shared h in
        let back : p.more ≡ drop (length q.queue) (queue_in n) = sym (drop-front q.queue p.more) ∙ ap (λ z. drop (length q.queue) (queue_in z)) (sym e) in
        ap (option_map (process_named next.names next.shared)) e ∙ ap Some (
        ap (λ (z : List NamedTree). record (process_named next.names next.shared q) { queue = z }) (map-append f q.queue p.more)
        ∙ (λ i. more_named (map f (back i)) (g.0 i)))

-- the process comes to live on both
nils-named : (names shared : List (List ℕ)) (n : ℕ) → map (as_named names shared) (replicate n tree.Nil) ≡ replicate n by_name.Nil
nils-named names shared zero = refl
nils-named names shared (suc n) = ap (λ (z : List NamedTree). by_name.Nil ∷ z) (nils-named names shared n)

fresh-named : (names shared : List (List ℕ)) (m : ℕ) → process_named names shared (fresh_process m) ≡ record {
  number = m;
  registers = replicate REGISTERS by_name.Nil;
  stack = [];
  queue = [];
  refs = 0;
}
fresh-named names shared m = ap (λ (z : List NamedTree). record { number = m; registers = z; stack = []; queue = []; refs = 0 }) (nils-named names shared REGISTERS)

fresh-known : (names shared : List (List ℕ)) (m : ℕ) → KnownProcess names shared (fresh_process m)
fresh-known names shared m = record { registers = nils-known names shared REGISTERS; stack = tt; queue = tt }

pub born-alike : (m : ℕ) (s next t : State) → Comes m s next → AreasKnown s → Alike m s t → Alike m next (solo_after m t born)
born-alike m s next t c b a =
    let here : found m (fresh_process m ∷ []) ≡ Some (fresh_process m) = ap (λ b. cond b (Some (fresh_process m)) None) (eq-eqb m m refl) in record {
      areas = (kept s b next c.names c.shared c.areas).0 ∙ a.areas;
      beside = a.beside;
      same = ap (option_map (process_named next.names next.shared)) c.after ∙ (ap Some (fresh-named next.names next.shared m ∙ sym (fresh-named t.names t.shared m))
          ∙ ap (option_map (process_named t.names t.shared)) (sym here));
      known = subst (IfKnown t.names t.shared) (sym here) (fresh-known t.names t.shared m);
    }

-- an accepted line of literal areas is accepted on both, and leaves both alike
module _ (m : ℕ) (s next t : State) (w : Written) (line : is_area_line w ≡ true) (h : IsKnownIn m s) (b : AreasKnown s) (a : Alike m s t)
    (left : step_at s w ≡ Accepted next (codes "ok")) (c : ChangesAreas m s w next (codes "ok")) where
  -- the areas by name after it
  areas-after : (x : List NamedArea) × (area_line_named (areas_named s) w ≡ Some x) × (areas_named next ≡ x) × AreasKnown next
  areas-after = at (area_line_named (areas_named s) w) refl
      (subst (λ (z : Outcome). AreaStep z (area_line_named (areas_named s) w)) left (area-step s b w line))
    where
      at : (o : Option (List NamedArea)) → area_line_named (areas_named s) w ≡ o → AreaStep (Accepted next (codes "ok")) (area_line_named (areas_named s) w)
          → (x : List NamedArea) × (area_line_named (areas_named s) w ≡ Some x) × (areas_named next ≡ x) × AreasKnown next
      at (Some x) e k = let j = subst (AreaStep (Accepted next (codes "ok"))) e k in (x, e, j.0, j.1)
      at None e k = absurd (subst (AreaStep (Accepted next (codes "ok"))) e k)

  -- a process that is as it was, under more names and shared binaries
  as-before : (u v : State) → Extends u.names v.names → Extends u.shared v.shared → process_of m v ≡ process_of m u → IsKnownIn m u
      → (lives_named m v ≡ lives_named m u) × IsKnownIn m v
  as-before u v n g e k = subst (λ (z : Option Live). (option_map (process_named v.names v.shared) z ≡ lives_named m u) × IfKnown v.names v.shared z) (sym e) (at (process_of m u) k)
    where
      at : (o : Option Live) → IfKnown u.names u.shared o
          → (option_map (process_named v.names v.shared) o ≡ option_map (process_named u.names u.shared) o) × IfKnown v.names v.shared o
      at None k = (refl, tt)
      at (Some q) k = let g = grown-process u.names v.names u.shared v.shared q n g k in (ap Some (g.0), g.1)

  pub area-alike : Alike m next (left_by t (step_at t w)) × AreasKnown next
  area-alike = (
    at (step_at t w) refl (other-line m t w (area-not-own m w line))
        (subst (AreaStep (step_at t w)) (ap (λ z. area_line_named z w) (sym a.areas) ∙ areas-after.1) (area-step t a.beside w line)),
    areas-after.3,
  )
    where
      at : (o : Outcome) → step_at t w ≡ o → OtherOutcome m t w o → AreaStep o (Some areas-after.0) → Alike m next (left_by t o)
      at (Accepted new reply) e (inl k) j = absurd (both_ways (is_area_line w) (k.1) line)
      at (Accepted new reply) e (inr (inl k)) j = absurd (both_ways (is_area_line w) (ap is_area_line k.said) line)
      at (Accepted new reply) e (inr (inr k)) j =
          let one = as-before s next c.names c.shared c.is h in
          let two = as-before t new k.names k.shared k.is a.known in
          record { same = one.0 ∙ (a.same ∙ sym (two.0)); known = two.1; areas = areas-after.2 ∙ sym (j.0); beside = j.1 }
      at (Refused r) e k j = absurd j
      at Mapped e k j = absurd j

-- at first
pub first-alike : (m : ℕ) → Alike m first_state (solo_first m)
first-alike m = at (m == 1) refl
  where
    not-one : (b : Bool) → (1 == m) ≡ b → (m == 1) ≡ false → found m (fresh_process 1 ∷ []) ≡ None
    not-one true e f = absurd (both_ways (m == 1) f (eq-eqb m 1 (sym (eqb-true 1 m e))))
    not-one false e f = ap (λ b. cond b (Some (fresh_process 1)) None) e

    at : (b : Bool) → (m == 1) ≡ b → Alike m first_state (cond b first_state (record first_state { processes = [] }))
    at true e = record {
      same = refl;
      known = known-found [] [] m (fresh_process 1 ∷ []) (join-known [] [] (held_trees (fresh_process 1)) []
          (join-known [] [] (fresh_process 1).registers [] (nils-known [] [] REGISTERS) tt) tt);
      areas = refl;
      beside = tt;
    }
    at false e = record { same = ap (option_map (process_named [] [])) (not-one (1 == m) refl e); known = tt; areas = refl; beside = tt }
