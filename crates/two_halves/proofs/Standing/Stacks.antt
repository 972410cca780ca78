-- Stacks and roots of a memory that keeps their words.
use Rattle.std.proofs.Common.{◌≡◌, ℕ, zero, suc, ◌+◌, ◌<◌, ◌≤◌, Bool, true, List, [], ◌∷◌, ◌++◌, length, get_or, refl, sym, ◌∙◌, ap, subst, arith, inl, inr}
use Rattle.term_words.specs.Counted.{In}
use Rattle.cheney.proofs.Rooted.Rows.{in-joined}
use Rattle.two_halves.specs.Stack.{IsLastPlace, IsPlace, IsStack, values}
use Rattle.two_halves.specs.Reached.{roots_in}
use Rattle.two_halves.specs.Rows.{HaveStacks}
use Rattle.two_halves.specs.declared.table.Proc.{Proc}

-- A row for places that are not there.
abbrev pub no_row : Proc
no_row = record { number = 0; regs = []; stack = 0; depth = 0; queue = 0; last = 0; waiting = 0; refs = 0 }

-- The words without a role between these bounds are the same.
abbrev pub AreKept : (c : ℕ → ℕ → Bool) → (mem mem2 : List ℕ) → (low limit : ℕ) → Type 0
AreKept c mem mem2 low limit = (q : ℕ) → low ≤ q → q < limit → ((k : ℕ) → c q k ≡ true → ⊥) → get_or mem2 q 0 ≡ get_or mem q 0

-- The two words of a place.
module _ (c : ℕ → ℕ → Bool) (mem mem2 : List ℕ) (low limit place : ℕ) (same : AreKept c mem mem2 low limit) (h : IsPlace c low limit place) where
  pub value-kept : get_or mem2 place 0 ≡ get_or mem place 0
  value-kept = same place h.above (omega (arith, h.below)) (λ k e. h.bare place k (omega arith) (omega arith) e)

  pub next-kept : get_or mem2 (place + 1) 0 ≡ get_or mem (place + 1) 0
  next-kept = same (place + 1) (omega (arith, h.above)) (omega (arith, h.below)) (λ k e. h.bare (place + 1) k (omega arith) (omega arith) e)

pub stack-kept : (c : ℕ → ℕ → Bool) (mem mem2 : List ℕ) (low limit from n : ℕ) → AreKept c mem mem2 low limit → IsStack c mem low limit from n → IsStack c mem2 low limit from n
stack-kept c mem mem2 low limit from zero same s = tt
stack-kept c mem mem2 low limit from (suc n) same (here, rest) =
    let P : ℕ → Type 0 = λ z. IsStack c mem2 low limit z n in
    (here, subst P (sym (next-kept c mem mem2 low limit from same here)) (stack-kept c mem mem2 low limit (get_or mem (from + 1) 0) n same rest))

pub values-kept : (c : ℕ → ℕ → Bool) (mem mem2 : List ℕ) (low limit from n : ℕ) → AreKept c mem mem2 low limit → IsStack c mem low limit from n → values mem2 from n ≡ values mem from n
values-kept c mem mem2 low limit from zero same s = refl
values-kept c mem mem2 low limit from (suc n) same (here, rest) =
    ap (λ z. z ∷ values mem2 (get_or mem2 (from + 1) 0) n) (value-kept c mem mem2 low limit from same here)
    ∙ ap (λ z. get_or mem from 0 ∷ values mem2 z n) (next-kept c mem mem2 low limit from same here)
    ∙ ap (λ z. get_or mem from 0 ∷ z) (values-kept c mem mem2 low limit (get_or mem (from + 1) 0) n same rest)

pub ends-kept : (c : ℕ → ℕ → Bool) (mem mem2 : List ℕ) (low limit from n last : ℕ) → AreKept c mem mem2 low limit → IsStack c mem low limit from n → IsLastPlace mem from n last
    → IsLastPlace mem2 from n last
ends-kept c mem mem2 low limit from zero last same s e = tt
ends-kept c mem mem2 low limit from (suc zero) last same s e = e
ends-kept c mem mem2 low limit from (suc (suc n)) last same (here, rest) e =
    let P : ℕ → Type 0 = λ z. IsLastPlace mem2 z (suc n) last in
    subst P (sym (next-kept c mem mem2 low limit from same here)) (ends-kept c mem mem2 low limit (get_or mem (from + 1) 0) (suc n) last same rest e)

-- A stack whose places lie in wider bounds, and have no role by another test.
pub stack-under : (c d : ℕ → ℕ → Bool) (mem : List ℕ) (low limit low2 limit2 from n : ℕ) → low2 ≤ low → limit ≤ limit2
    → ((q k : ℕ) → low ≤ q → q < limit → ((j : ℕ) → c q j ≡ true → ⊥) → d q k ≡ true → ⊥) → IsStack c mem low limit from n → IsStack d mem low2 limit2 from n
stack-under c d mem low limit low2 limit2 from zero down up bare s = tt
stack-under c d mem low limit low2 limit2 from (suc n) down up bare (h, rest) = (
  record {
    above = omega (arith, h.above, down);
    below = omega (arith, h.below, up);
    bare = λ q k from_here to_here e. bare q k (omega (arith, from_here, h.above)) (omega (arith, to_here, h.below)) (λ j. h.bare q j from_here to_here) e;
  },
  stack-under c d mem low limit low2 limit2 (get_or mem (from + 1) 0) n down up bare rest,
)

pub stack-wider : (c : ℕ → ℕ → Bool) (mem : List ℕ) (low limit low2 limit2 from n : ℕ) → low2 ≤ low → limit ≤ limit2 → IsStack c mem low limit from n → IsStack c mem low2 limit2 from n
stack-wider c mem low limit low2 limit2 from n down up s = stack-under c c mem low limit low2 limit2 from n down up (λ q k above below none. none k) s

pub stack-at : (c : ℕ → ℕ → Bool) (mem : List ℕ) (low limit : ℕ) (rows : List Proc) (i : ℕ) → i < length rows → HaveStacks c mem low limit rows
    → IsStack c mem low limit (get_or rows i no_row).stack (get_or rows i no_row).depth × IsStack c mem low limit (get_or rows i no_row).queue (get_or rows i no_row).waiting
stack-at c mem low limit [] i less s = absurd (omega arith)
stack-at c mem low limit (r ∷ rows) zero less (first, (second, rest)) = (first, second)
stack-at c mem low limit (r ∷ rows) (suc i) less (first, (second, rest)) = stack-at c mem low limit rows i (omega arith) rest

-- The roots of rows: registers, values and messages of the first, and the roots of the others.
pub registers-in : (mem : List ℕ) (r : Proc) (rows : List Proc) (w : ℕ) → In w r.regs → In w (roots_in mem (r ∷ rows))
registers-in mem r rows w h = in-joined w r.regs (values mem r.stack r.depth ++ (values mem r.queue r.waiting ++ roots_in mem rows)) (inl h)

behind-registers : (mem : List ℕ) (r : Proc) (rows : List Proc) (w : ℕ) → In w (values mem r.stack r.depth ++ (values mem r.queue r.waiting ++ roots_in mem rows)) → In w (roots_in mem (r ∷ rows))
behind-registers mem r rows w h = in-joined w r.regs (values mem r.stack r.depth ++ (values mem r.queue r.waiting ++ roots_in mem rows)) (inr h)

pub values-in : (mem : List ℕ) (r : Proc) (rows : List Proc) (w : ℕ) → In w (values mem r.stack r.depth) → In w (roots_in mem (r ∷ rows))
values-in mem r rows w h = behind-registers mem r rows w (in-joined w (values mem r.stack r.depth) (values mem r.queue r.waiting ++ roots_in mem rows) (inl h))

behind-values : (mem : List ℕ) (r : Proc) (rows : List Proc) (w : ℕ) → In w (values mem r.queue r.waiting ++ roots_in mem rows) → In w (roots_in mem (r ∷ rows))
behind-values mem r rows w h = behind-registers mem r rows w (in-joined w (values mem r.stack r.depth) (values mem r.queue r.waiting ++ roots_in mem rows) (inr h))

pub messages-in : (mem : List ℕ) (r : Proc) (rows : List Proc) (w : ℕ) → In w (values mem r.queue r.waiting) → In w (roots_in mem (r ∷ rows))
messages-in mem r rows w h = behind-values mem r rows w (in-joined w (values mem r.queue r.waiting) (roots_in mem rows) (inl h))

pub others-in : (mem : List ℕ) (r : Proc) (rows : List Proc) (w : ℕ) → In w (roots_in mem rows) → In w (roots_in mem (r ∷ rows))
others-in mem r rows w h = behind-values mem r rows w (in-joined w (values mem r.queue r.waiting) (roots_in mem rows) (inr h))

pub register-root : (mem : List ℕ) (rows : List Proc) (i w : ℕ) → i < length rows → In w (get_or rows i no_row).regs → In w (roots_in mem rows)
register-root mem [] i w less h = absurd (omega arith)
register-root mem (r ∷ rows) zero w less h = registers-in mem r rows w h
register-root mem (r ∷ rows) (suc i) w less h = others-in mem r rows w (register-root mem rows i w (omega arith) h)

pub value-root : (mem : List ℕ) (rows : List Proc) (i w : ℕ) → i < length rows → In w (values mem (get_or rows i no_row).stack (get_or rows i no_row).depth) → In w (roots_in mem rows)
value-root mem [] i w less h = absurd (omega arith)
value-root mem (r ∷ rows) zero w less h = values-in mem r rows w h
value-root mem (r ∷ rows) (suc i) w less h = others-in mem r rows w (value-root mem rows i w (omega arith) h)

pub message-root : (mem : List ℕ) (rows : List Proc) (i w : ℕ) → i < length rows → In w (values mem (get_or rows i no_row).queue (get_or rows i no_row).waiting) → In w (roots_in mem rows)
message-root mem [] i w less h = absurd (omega arith)
message-root mem (r ∷ rows) zero w less h = messages-in mem r rows w h
message-root mem (r ∷ rows) (suc i) w less h = others-in mem r rows w (message-root mem rows i w (omega arith) h)
