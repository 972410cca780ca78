-- Which process has a number, after one has changed, come or gone.
use Rattle.std.proofs.Common.{◌≡◌, ℕ, Bool, true, false, cond, not, ◌==◌, ◌||◌, List, [], ◌∷◌, ◌++◌, map, filter, Option, Some, None, refl, sym, ap, ◌∙◌, eqb-true}
use Rattle.std.proofs.lemmas.Bool.{eq-eqb}
use Rattle.std.specs.Prelude.{option_map, is_some}
use Rattle.std.specs.List.{find, list_any}
use Rattle.plain_term.specs.Tree.{Tree}
use Rattle.plain_machine.specs.State.{Process as Live, with_queued}

-- the process with this number
abbrev pub found : ℕ → List Live → Option Live
found n qs = find (λ r. r.number == n) qs

-- these processes with one in the place of the one with its number
abbrev pub put : Live → List Live → List Live
put p qs = map (λ q. cond (q.number == p.number) p q) qs

-- what is found has the number
pub found-number : (n : ℕ) (qs : List Live) (q : Live) → found n qs ≡ Some q → q.number ≡ n
found-number n [] q e = absurd (cc)
found-number n (r ∷ qs) q e = by (r.number == n) refl e (λ f. found-number n qs q f)
  where
    by : (b : Bool) → (r.number == n) ≡ b → cond b (Some r) (found n qs) ≡ Some q → (found n qs ≡ Some q → q.number ≡ n) → q.number ≡ n
    by true is e k = let i : r ≡ q = cc in ap (λ (z : Live). z.number) (sym i) ∙ eqb-true r.number n is
    by false is e k = k e

-- it lives where it is found
pub live-found : (n : ℕ) (qs : List Live) → list_any (λ r. r.number == n) qs ≡ is_some (found n qs)
live-found n [] = refl
live-found n (r ∷ qs) = by (r.number == n) (live-found n qs)
  where
    by : (b : Bool) → list_any (λ r. r.number == n) qs ≡ is_some (found n qs) → (b || list_any (λ r. r.number == n) qs) ≡ is_some (cond b (Some r) (found n qs))
    by true k = refl
    by false k = k

-- a process in the place of the one with its number
pub found-put : (p q : Live) (qs : List Live) → found p.number qs ≡ Some q → found p.number (put p qs) ≡ Some p
found-put p q [] e = absurd (cc)
found-put p q (r ∷ qs) e = by (r.number == p.number) refl e (λ f. found-put p q qs f)
  where
    by : (b : Bool) → (r.number == p.number) ≡ b → cond b (Some r) (found p.number qs) ≡ Some q → (found p.number qs ≡ Some q → found p.number (put p qs) ≡ Some p)
        → found p.number (cond b p r ∷ put p qs) ≡ Some p
    by true is e k = ap (λ b. cond b (Some p) (found p.number (put p qs))) (eq-eqb p.number p.number refl)
    by false is e k = ap (λ b. cond b (Some r) (found p.number (put p qs))) is ∙ k e

pub other-put : (m : ℕ) (p : Live) (qs : List Live) → (p.number == m) ≡ false → found m (put p qs) ≡ found m qs
other-put m p [] e = refl
other-put m p (r ∷ qs) e = by (r.number == p.number) refl (other-put m p qs e)
  where
    by : (b : Bool) → (r.number == p.number) ≡ b → found m (put p qs) ≡ found m qs → found m (cond b p r ∷ put p qs) ≡ cond (r.number == m) (Some r) (found m qs)
    by true is k =
        let f : (r.number == m) ≡ false = ap (λ z. z == m) (eqb-true r.number p.number is) ∙ e in
        ap (λ b. cond b (Some p) (found m (put p qs))) e ∙ (k ∙ ap (λ b. cond b (Some r) (found m qs)) (sym f))
    by false is k = ap (λ z. cond (r.number == m) (Some r) z) k

-- a message more in a queue
queued-number : (n : ℕ) (t : Tree) (q : Live) → (with_queued n t q).number ≡ q.number
queued-number n t q = by (q.number == n)
  where
    by : (b : Bool) → (cond b (record q { queue = q.queue ++ t ∷ [] }) q).number ≡ q.number
    by true = refl
    by false = refl

pub found-queued : (m n : ℕ) (t : Tree) (qs : List Live) → found m (map (with_queued n t) qs) ≡ option_map (with_queued n t) (found m qs)
found-queued m n t [] = refl
found-queued m n t (r ∷ qs) = ap (λ z. cond (z == m) (Some (with_queued n t r)) (found m (map (with_queued n t) qs))) (queued-number n t r) ∙ by (r.number == m) (found-queued m n t qs)
  where
    by : (b : Bool) → found m (map (with_queued n t) qs) ≡ option_map (with_queued n t) (found m qs)
        → cond b (Some (with_queued n t r)) (found m (map (with_queued n t) qs)) ≡ option_map (with_queued n t) (cond b (Some r) (found m qs))
    by true k = refl
    by false k = k

-- one process less
pub found-gone : (n : ℕ) (qs : List Live) → found n (filter (λ q. not (q.number == n)) qs) ≡ None
found-gone n [] = refl
found-gone n (r ∷ qs) = by (r.number == n) refl (found-gone n qs)
  where
    by : (b : Bool) → (r.number == n) ≡ b → found n (filter (λ q. not (q.number == n)) qs) ≡ None
        → found n (cond (not b) (r ∷ filter (λ q. not (q.number == n)) qs) (filter (λ q. not (q.number == n)) qs)) ≡ None
    by true is k = k
    by false is k = ap (λ b. cond b (Some r) (found n (filter (λ q. not (q.number == n)) qs))) is ∙ k

pub other-gone : (m n : ℕ) (qs : List Live) → (n == m) ≡ false → found m (filter (λ q. not (q.number == n)) qs) ≡ found m qs
other-gone m n [] e = refl
other-gone m n (r ∷ qs) e = by (r.number == n) refl (other-gone m n qs e)
  where
    by : (b : Bool) → (r.number == n) ≡ b → found m (filter (λ q. not (q.number == n)) qs) ≡ found m qs
        → found m (cond (not b) (r ∷ filter (λ q. not (q.number == n)) qs) (filter (λ q. not (q.number == n)) qs)) ≡ cond (r.number == m) (Some r) (found m qs)
    by true is k = let f : (r.number == m) ≡ false = ap (λ z. z == m) (eqb-true r.number n is) ∙ e in k ∙ ap (λ b. cond b (Some r) (found m qs)) (sym f)
    by false is k = ap (λ z. cond (r.number == m) (Some r) z) k

-- one process more
pub found-come : (m : ℕ) (p : Live) (qs : List Live) (q : Live) → found m qs ≡ Some q → found m (qs ++ p ∷ []) ≡ Some q
found-come m p [] q e = absurd (cc)
found-come m p (r ∷ qs) q e = by (r.number == m) e (λ f. found-come m p qs q f)
  where
    by : (b : Bool) → cond b (Some r) (found m qs) ≡ Some q → (found m qs ≡ Some q → found m (qs ++ p ∷ []) ≡ Some q) → cond b (Some r) (found m (qs ++ p ∷ [])) ≡ Some q
    by true e k = e
    by false e k = k e

pub none-come : (m : ℕ) (p : Live) (qs : List Live) → found m qs ≡ None → found m (qs ++ p ∷ []) ≡ cond (p.number == m) (Some p) None
none-come m p [] e = refl
none-come m p (r ∷ qs) e = by (r.number == m) e (λ f. none-come m p qs f)
  where
    by : (b : Bool) → cond b (Some r) (found m qs) ≡ None → (found m qs ≡ None → found m (qs ++ p ∷ []) ≡ cond (p.number == m) (Some p) None)
        → cond b (Some r) (found m (qs ++ p ∷ [])) ≡ cond (p.number == m) (Some p) None
    by true e k = absurd (cc)
    by false e k = k e
