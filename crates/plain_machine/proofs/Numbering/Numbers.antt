-- The numbers of processes: what changes them, and what keeps them.
use Rattle.std.proofs.Common.{◌≡◌, ℕ, ◌+◌, ◌<◌, ◌≤◌, Bool, true, false, not, cond, ◌==◌, ◌||◌, List, [], ◌∷◌, ◌++◌, map, filter, refl, sym, ap, subst, ◌∙◌, arith, eqb-true}
use Rattle.std.proofs.lemmas.Bool.{or_right, true≢false}
use Rattle.std.specs.List.{list_any}
use Rattle.plain_term.specs.Tree.{Tree}
use Rattle.plain_machine.specs.State.{Process as Live, State, is_live, live_numbers, with_queued}
use Rattle.plain_machine.specs.Laws.{AreNumbered, IsNumbered}

-- a lower bound does as well
numbered-lower : (low l : ℕ) (ns : List ℕ) (next : ℕ) → l ≤ low → AreNumbered low ns next → AreNumbered l ns next
numbered-lower low l [] next less h = omega arith
numbered-lower low l (n ∷ ns) next less h = (omega (arith, h.0), h.1)

-- a process in the place of the one with its number
pub with-process-numbers : (p : Live) (qs : List Live) → map (λ q. q.number) (map (λ q. cond (q.number == p.number) p q) qs) ≡ map (λ q. q.number) qs
with-process-numbers p [] = refl
with-process-numbers p (q ∷ qs) = at (q.number == p.number) refl (with-process-numbers p qs)
  where
    at : (b : Bool) → (q.number == p.number) ≡ b → map (λ q. q.number) (map (λ q. cond (q.number == p.number) p q) qs) ≡ map (λ q. q.number) qs
        → (cond b p q).number ∷ map (λ q. q.number) (map (λ q. cond (q.number == p.number) p q) qs) ≡ q.number ∷ map (λ q. q.number) qs
    at true e k = ap (λ n. n ∷ map (λ q. q.number) (map (λ q. cond (q.number == p.number) p q) qs)) (sym (eqb-true q.number p.number e)) ∙ ap (λ l. q.number ∷ l) k
    at false e k = ap (λ l. q.number ∷ l) k

-- a tree more in the queue of the process with a number
with-message-numbers : (n : ℕ) (t : Tree) (qs : List Live)
    → map (λ q. q.number) (map (with_queued n t) qs) ≡ map (λ q. q.number) qs
with-message-numbers n t [] = refl
with-message-numbers n t (q ∷ qs) = at (q.number == n) (with-message-numbers n t qs)
  where
    more : List Live
    more = map (with_queued n t) qs

    at : (b : Bool) → map (λ q. q.number) more ≡ map (λ q. q.number) qs
        → (cond b (record q { queue = q.queue ++ t ∷ [] }) q).number ∷ map (λ q. q.number) more ≡ q.number ∷ map (λ q. q.number) qs
    at true k = ap (λ l. q.number ∷ l) k
    at false k = ap (λ l. q.number ∷ l) k

-- one process less
without-numbered : (n low next : ℕ) (qs : List Live) → AreNumbered low (map (λ q. q.number) qs) next → AreNumbered low (map (λ q. q.number) (filter (λ q. not (q.number == n)) qs)) next
without-numbered n low next [] h = h
without-numbered n low next (q ∷ qs) h = at (not (q.number == n)) (without-numbered n q.number next qs h.1)
  where
    at : (b : Bool) → AreNumbered q.number (map (λ q. q.number) (filter (λ q. not (q.number == n)) qs)) next
        → AreNumbered low (map (λ q. q.number) (cond b (q ∷ filter (λ q. not (q.number == n)) qs) (filter (λ q. not (q.number == n)) qs))) next
    at true k = (h.0, k)
    at false k = numbered-lower q.number low (map (λ q. q.number) (filter (λ q. not (q.number == n)) qs)) next (omega (arith, h.0)) k

-- one process more, with the next number
spawned-numbered : (low next : ℕ) (qs : List Live) (p : Live) → p.number ≡ next → AreNumbered low (map (λ q. q.number) qs) next → AreNumbered low (map (λ q. q.number) (qs ++ p ∷ [])) (next + 1)
spawned-numbered low next [] p e h = (omega (arith, e, h), omega (arith, e))
spawned-numbered low next (q ∷ qs) p e h = (h.0, spawned-numbered q.number next qs p e h.1)

-- the next number is above all that live
next-above : (low next : ℕ) (ns : List ℕ) → AreNumbered low ns next → low < next
next-above low next [] h = h
next-above low next (n ∷ ns) h = omega (arith, h.0, next-above n next ns h.1)

-- whether a number lives is told by the numbers alone
any-number : (n : ℕ) (qs : List Live) → list_any (λ p. p.number == n) qs ≡ list_any (λ k. k == n) (map (λ q. q.number) qs)
any-number n [] = refl
any-number n (q ∷ qs) = ap (λ b. (q.number == n) || b) (any-number n qs)

pub live-same : (s new : State) (n : ℕ) → live_numbers new ≡ live_numbers s → is_live n new ≡ is_live n s
live-same s new n e = any-number n new.processes ∙ (ap (list_any (λ k. k == n)) e ∙ sym (any-number n s.processes))

number-below : (n low next : ℕ) (ns : List ℕ) → AreNumbered low ns next → list_any (λ k. k == n) ns ≡ true → n < next
number-below n low next [] h e = absurd (cc)
number-below n low next (m ∷ ns) h e = at (m == n) refl e (λ k. number-below n m next ns h.1 k)
  where
    at : (b : Bool) → (m == n) ≡ b → (b || list_any (λ k. k == n) ns) ≡ true → (list_any (λ k. k == n) ns ≡ true → n < next) → n < next
    at true is e k = omega (arith, eqb-true m n is, next-above m next ns h.1)
    at false is e k = k e

-- a number that lives is below the next one
pub live-below : (s : State) (n : ℕ) → IsNumbered s → is_live n s ≡ true → n < s.next
live-below s n h e = number-below n 0 s.next (live_numbers s) h.numbered (sym (any-number n s.processes) ∙ e)

or-more : (c r t : Bool) → (c || r) ≡ true → (r ≡ true → t ≡ true) → (c || t) ≡ true
or-more true r t e k = refl
or-more false r t e k = k e

-- with one process less none lives that did not
gone-lives : (test keep : Live → Bool) (qs : List Live) → list_any test (filter keep qs) ≡ true → list_any test qs ≡ true
gone-lives test keep [] e = e
gone-lives test keep (q ∷ qs) e = at (keep q) e (λ k. gone-lives test keep qs k)
  where
    at : (b : Bool) → list_any test (cond b (q ∷ filter keep qs) (filter keep qs)) ≡ true → (list_any test (filter keep qs) ≡ true → list_any test qs ≡ true) → (test q || list_any test qs) ≡ true
    at true e k = or-more (test q) (list_any test (filter keep qs)) (list_any test qs) e k
    at false e k = or_right (test q) (list_any test qs) (k e)

-- with one process more it is the only one that lives and did not
come-lives : (test : Live → Bool) (p : Live) (qs : List Live) → list_any test (qs ++ p ∷ []) ≡ true → list_any test qs ≡ false → test p ≡ true
come-lives test p [] e f = at (test p) e
  where
    at : (b : Bool) → (b || false) ≡ true → b ≡ true
    at true e = refl
    at false e = e
come-lives test p (q ∷ qs) e f = at (test q) e f (λ k l. come-lives test p qs k l)
  where
    at : (b : Bool) → (b || list_any test (qs ++ p ∷ [])) ≡ true → (b || list_any test qs) ≡ false
        → (list_any test (qs ++ p ∷ []) ≡ true → list_any test qs ≡ false → test p ≡ true) → test p ≡ true
    at true e f k = absurd (cc)
    at false e f k = k e f

-- what a step keeps of the numbers
pub record Keeps (s new : State) : Type 0 where
  pub numbers : IsNumbered s → IsNumbered new
  pub next : s.next ≤ new.next
  pub fresh : (n : ℕ) → is_live n new ≡ true → is_live n s ≡ false → s.next ≤ n

pub keeps-same : (s new : State) → new ≡ s → Keeps s new
keeps-same s new e = subst (Keeps s) (sym e) (record { numbers = λ h. h; next = omega arith; fresh = λ n f g. absurd (true≢false (sym f ∙ g)) })

pub keeps-numbers : (s new : State) → live_numbers new ≡ live_numbers s → new.next ≡ s.next → Keeps s new
keeps-numbers s new e f = record {
  numbers = λ h. record { numbered = subst (λ z. AreNumbered 0 z new.next) (sym e) (subst (λ z. AreNumbered 0 (live_numbers s) z) (sym f) h.numbered) };
  next = omega (arith, f);
  fresh = λ n g h. absurd (true≢false (sym g ∙ live-same s new n e ∙ h));
}

-- a process in the place of the one with its number
pub keeps-process : (s new : State) (p : Live) → new.processes ≡ map (λ q. cond (q.number == p.number) p q) s.processes → new.next ≡ s.next → Keeps s new
keeps-process s new p e f = keeps-numbers s new (ap (map (λ q. q.number)) e ∙ with-process-numbers p s.processes) f

-- a tree more in the queue of the process with a number
pub keeps-message : (s new : State) (n : ℕ) (t : Tree) → new.processes ≡ map (with_queued n t) s.processes
    → new.next ≡ s.next → Keeps s new
keeps-message s new n t e f = keeps-numbers s new (ap (map (λ q. q.number)) e ∙ with-message-numbers n t s.processes) f

-- one process less
pub keeps-gone : (s new : State) (n : ℕ) → new.processes ≡ filter (λ q. not (q.number == n)) s.processes → new.next ≡ s.next → Keeps s new
keeps-gone s new n e f = record {
  numbers = λ h. record {
    numbered = subst (λ z. AreNumbered 0 (map (λ q. q.number) z) new.next) (sym e) (subst (λ z. AreNumbered 0 (map (λ q. q.number) (filter (λ q. not (q.number == n)) s.processes)) z) (sym f)
        (without-numbered n 0 s.next s.processes h.numbered));
  };
  next = omega (arith, f);
  fresh = λ k g h. absurd (true≢false (sym (gone-lives (λ p. p.number == k) (λ q. not (q.number == n)) s.processes (ap (list_any (λ p. p.number == k)) (sym e) ∙ g)) ∙ h));
}

-- one process more, with the next number
pub keeps-come : (s new : State) (p : Live) → new.processes ≡ s.processes ++ p ∷ [] → p.number ≡ s.next → new.next ≡ s.next + 1 → Keeps s new
keeps-come s new p e is f = record {
  numbers = λ h. record {
    numbered = subst (λ z. AreNumbered 0 (map (λ q. q.number) z) new.next) (sym e) (subst (λ z. AreNumbered 0 (map (λ q. q.number) (s.processes ++ p ∷ [])) z) (sym f)
        (spawned-numbered 0 s.next s.processes p is h.numbered));
  };
  next = omega (arith, f);
  fresh = λ k g h. omega (arith, is, eqb-true p.number k (come-lives (λ p. p.number == k) p s.processes (ap (list_any (λ p. p.number == k)) (sym e) ∙ g) h));
}

pub keeps-then : (s mid new : State) → Keeps s mid → Keeps mid new → Keeps s new
keeps-then s mid new h k = record {
  numbers = λ x. k.numbers (h.numbers x);
  next = omega (arith, h.next, k.next);
  fresh = λ n e f. at n e f (is_live n mid) refl;
}
  where
    at : (n : ℕ) → is_live n new ≡ true → is_live n s ≡ false → (b : Bool) → is_live n mid ≡ b → s.next ≤ n
    at n e f true i = h.fresh n i f
    at n e f false i = omega (arith, h.next, k.fresh n e i)
