-- Rows whose places have the words that they had, but that something else may follow the last place of a queue.
use Rattle.std.proofs.Common.{◌≡◌, ℕ, zero, suc, ◌+◌, ◌<◌, ◌≤◌, Bool, List, [], ◌∷◌, ◌++◌, length, get_or, refl, sym, ◌∙◌, ap, subst, arith, inl, inr}
use Rattle.plain_term.specs.Tree.{Tree}
use Rattle.plain_machine.specs.State.{Process}
use Rattle.term_words.specs.Counted.{In}
use Rattle.term_words.proofs.Totals.Members.{in-left, in-right}
use Rattle.two_halves.specs.Stack.{AreApart, IsLastPlace, IsStack, place_list, values}
use Rattle.two_halves.specs.Halves.{ProcsStand, all_places, places_of}
use Rattle.term_order.specs.Held.{HoldTrees, HoldsTree}
use Rattle.two_halves.specs.Reached.{roots_in}
use Rattle.two_halves.specs.Rows.{HaveStacks}
use Rattle.two_halves.specs.declared.table.Proc.{Proc}
use Rattle.two_halves.proofs.Standing.Apart.{AreTwo, apart-cross, apart-left, apart-right}

-- The two words of each of the places are the same.
abbrev pub AreSame : (mem mem2 : List ℕ) → List ℕ → Type 0
AreSame mem mem2 xs = (q : ℕ) → In q xs → (get_or mem2 q 0 ≡ get_or mem q 0) × (get_or mem2 (q + 1) 0 ≡ get_or mem (q + 1) 0)

-- A stack or a queue is what it was.
pub record IsKept (c : ℕ → ℕ → Bool) (mem mem2 : List ℕ) (low limit from n : ℕ) : Type 0 where
  pub stack : IsStack c mem2 low limit from n
  pub values_are : values mem2 from n ≡ values mem from n
  pub list : place_list mem2 from n ≡ place_list mem from n
  pub ends : (last : ℕ) → IsLastPlace mem from n last → IsLastPlace mem2 from n last

-- All are.
abbrev pub RowsKept : (c : ℕ → ℕ → Bool) → (mem mem2 : List ℕ) → (low limit : ℕ) → List Proc → Type 0
RowsKept c mem mem2 low limit [] = Unit {0}
RowsKept c mem mem2 low limit (p ∷ ps) = IsKept c mem mem2 low limit p.stack p.depth × (IsKept c mem mem2 low limit p.queue p.waiting × RowsKept c mem mem2 low limit ps)

module _ (c : ℕ → ℕ → Bool) (mem mem2 : List ℕ) (low limit : ℕ) where
  -- One place, and those that follow it.
  kept-before : (from n : ℕ) → IsStack c mem low limit from (suc n) → get_or mem2 from 0 ≡ get_or mem from 0 → get_or mem2 (from + 1) 0 ≡ get_or mem (from + 1) 0
      → IsKept c mem mem2 low limit (get_or mem (from + 1) 0) n → IsKept c mem mem2 low limit from (suc n)
  kept-before from n s value next rest =
      let P : ℕ → Type 0 = λ z. IsStack c mem2 low limit z n in
      record {
        stack = (s.0, subst P (sym next) rest.stack);
        values_are = ap (λ z. z ∷ values mem2 (get_or mem2 (from + 1) 0) n) value ∙ ap (λ z. get_or mem from 0 ∷ values mem2 z n) next ∙ ap (λ z. get_or mem from 0 ∷ z) rest.values_are;
        list = ap (λ z. from ∷ place_list mem2 z n) next ∙ ap (λ z. from ∷ z) rest.list;
        ends = ends n rest;
      }
    where
      ends : (k : ℕ) → IsKept c mem mem2 low limit (get_or mem (from + 1) 0) k → (last : ℕ) → IsLastPlace mem from (suc k) last → IsLastPlace mem2 from (suc k) last
      ends zero r last e = e
      ends (suc k) r last e = let Q : ℕ → Type 0 = λ z. IsLastPlace mem2 z (suc k) last in subst Q (sym next) (r.ends last e)

  kept-none : (from : ℕ) → IsKept c mem mem2 low limit from 0
  kept-none from = record { stack = tt; values_are = refl; list = refl; ends = λ last e. tt }

  pub list-same : (from n : ℕ) → IsStack c mem low limit from n → AreSame mem mem2 (place_list mem from n) → IsKept c mem mem2 low limit from n
  list-same from zero s same = kept-none from
  list-same from (suc n) s same =
      let (value, next) = same from (inl refl) in
      kept-before from n s value next (list-same (get_or mem (from + 1) 0) n s.1 (λ q i. same q (inr i)))

  pub rows-same : (ps : List Proc) → HaveStacks c mem low limit ps → AreSame mem mem2 (all_places mem ps) → RowsKept c mem mem2 low limit ps
  rows-same [] s same = tt
  rows-same (p ∷ ps) (first, (second, rest)) same = (
    list-same p.stack p.depth first (λ q i. same q (in-left q (places_of mem p) (all_places mem ps) (in-left q (place_list mem p.stack p.depth) (place_list mem p.queue p.waiting) i))),
    (
      list-same p.queue p.waiting second
          (λ q i. same q (in-left q (places_of mem p) (all_places mem ps) (in-right q (place_list mem p.stack p.depth) (place_list mem p.queue p.waiting) i))),
      rows-same ps rest (λ q i. same q (in-right q (places_of mem p) (all_places mem ps) i)),
    ),
  )

  -- The last place is one of the list.
  pub ends-in : (from n last : ℕ) → (n ≡ 0 → ⊥) → IsLastPlace mem from n last → In last (place_list mem from n)
  ends-in from zero last some e = absurd (some refl)
  ends-in from (suc zero) last some e = inl e
  ends-in from (suc (suc n)) last some e = inr (ends-in (get_or mem (from + 1) 0) (suc n) last (λ f. absurd (omega (arith, f))) e)

  -- What follows the last place may have changed.
  module _ (last : ℕ) (values_same : (q : ℕ) → low ≤ q → q < limit → (q ≡ last + 1 → ⊥) → get_or mem2 q 0 ≡ get_or mem q 0) where
    two-same : (q : ℕ) → low ≤ q → q + 2 ≤ limit → AreTwo q last → (get_or mem2 q 0 ≡ get_or mem q 0) × (get_or mem2 (q + 1) 0 ≡ get_or mem (q + 1) 0)
    two-same q above below two = (
      values_same q above (omega (arith, below)) (λ e. elim two [ inl a ↦ omega (arith, a, e) | inr a ↦ omega (arith, a, e) ]),
      values_same (q + 1) (omega (arith, above)) (omega (arith, below)) (λ e. elim two [ inl a ↦ omega (arith, a, e) | inr a ↦ omega (arith, a, e) ]),
    )

    pub list-followed : (from n : ℕ) → IsStack c mem low limit from n → AreApart (place_list mem from n) → IsLastPlace mem from n last → IsKept c mem mem2 low limit from n
    list-followed from zero s a e = kept-none from
    list-followed from (suc zero) s a e = record {
      stack = (s.0, tt);
      values_are = ap (λ z. z ∷ []) (values_same from s.0.above (omega (arith, s.0.below)) (λ f. omega (arith, f, e)));
      list = refl;
      ends = λ l f. f;
    }
    list-followed from (suc (suc n)) s a e =
        let two : AreTwo from last = a.0 last (ends-in (get_or mem (from + 1) 0) (suc n) last (λ f. absurd (omega (arith, f))) e) in
        let (value, next) = two-same from s.0.above s.0.below two in
        kept-before from (suc n) s value next (list-followed (get_or mem (from + 1) 0) (suc n) s.1 a.1 e)

    list-free : (from n : ℕ) → IsStack c mem low limit from n → ((q : ℕ) → In q (place_list mem from n) → AreTwo q last) → IsKept c mem mem2 low limit from n
    list-free from zero s free = kept-none from
    list-free from (suc n) s free =
        let (value, next) = two-same from s.0.above s.0.below (free from (inl refl)) in
        kept-before from n s value next (list-free (get_or mem (from + 1) 0) n s.1 (λ q i. free q (inr i)))

    rows-free : (ps : List Proc) → HaveStacks c mem low limit ps → ((q : ℕ) → In q (all_places mem ps) → AreTwo q last) → RowsKept c mem mem2 low limit ps
    rows-free [] s free = tt
    rows-free (p ∷ ps) (first, (second, rest)) free = (
      list-free p.stack p.depth first (λ q i. free q (in-left q (places_of mem p) (all_places mem ps) (in-left q (place_list mem p.stack p.depth) (place_list mem p.queue p.waiting) i))),
      (
        list-free p.queue p.waiting second
            (λ q i. free q (in-left q (places_of mem p) (all_places mem ps) (in-right q (place_list mem p.stack p.depth) (place_list mem p.queue p.waiting) i))),
        rows-free ps rest (λ q i. free q (in-right q (places_of mem p) (all_places mem ps) i)),
      ),
    )

    swap : (a b : ℕ) → AreTwo a b → AreTwo b a
    swap a b (inl l) = inr l
    swap a b (inr r) = inl r

    pub rows-followed : (ps : List Proc) (i : ℕ) (d : Proc) → i < length ps → HaveStacks c mem low limit ps → AreApart (all_places mem ps) → ((get_or ps i d).waiting ≡ 0 → ⊥)
        → IsLastPlace mem (get_or ps i d).queue (get_or ps i d).waiting last → RowsKept c mem mem2 low limit ps
    rows-followed [] i d less s a some e = absurd (omega (arith, less))
    rows-followed (p ∷ ps) zero d less (first, (second, rest)) a some e =
        let S : List ℕ = place_list mem p.stack p.depth in
        let Q : List ℕ = place_list mem p.queue p.waiting in
        let there : In last Q = ends-in p.queue p.waiting last some e in
        let own : AreApart (S ++ Q) = apart-left (places_of mem p) (all_places mem ps) a in (
          list-free p.stack p.depth first (λ q i. apart-cross S Q q last own i there),
          (
            list-followed p.queue p.waiting second (apart-right S Q own) e,
            rows-free ps rest (λ q i. swap last q (apart-cross (places_of mem p) (all_places mem ps) last q a (in-right last S Q there) i)),
          ),
        )
    rows-followed (p ∷ ps) (suc i) d less (first, (second, rest)) a some e =
        let S : List ℕ = place_list mem p.stack p.depth in
        let Q : List ℕ = place_list mem p.queue p.waiting in
        let there : In last (all_places mem ps) = queue-in ps i d last (omega (arith, less)) (ends-in (get_or ps i d).queue (get_or ps i d).waiting last some e) in (
          list-free p.stack p.depth first (λ q j. apart-cross (places_of mem p) (all_places mem ps) q last a (in-left q S Q j) there),
          (
            list-free p.queue p.waiting second (λ q j. apart-cross (places_of mem p) (all_places mem ps) q last a (in-right q S Q j) there),
            rows-followed ps i d (omega (arith, less)) rest (apart-right (places_of mem p) (all_places mem ps) a) some e,
          ),
        )
      where
        queue-in : (rs : List Proc) (k : ℕ) (g : Proc) (q : ℕ) → k < length rs → In q (place_list mem (get_or rs k g).queue (get_or rs k g).waiting) → In q (all_places mem rs)
        queue-in [] k g q small j = absurd (omega (arith, small))
        queue-in (r ∷ rs) zero g q small j = in-left q (places_of mem r) (all_places mem rs) (in-right q (place_list mem r.stack r.depth) (place_list mem r.queue r.waiting) j)
        queue-in (r ∷ rs) (suc k) g q small j = in-right q (places_of mem r) (all_places mem rs) (queue-in rs k g q (omega (arith, small)) j)

  -- What follows for rows that are what they were.

  pub kept-places : (ps : List Proc) → RowsKept c mem mem2 low limit ps → all_places mem2 ps ≡ all_places mem ps
  kept-places [] k = refl
  kept-places (p ∷ ps) (first, (second, rest)) =
      ap (λ z. (z ++ place_list mem2 p.queue p.waiting) ++ all_places mem2 ps) first.list ∙ ap (λ z. (place_list mem p.stack p.depth ++ z) ++ all_places mem2 ps) second.list
      ∙ ap (λ z. places_of mem p ++ z) (kept-places ps rest)

  pub kept-roots : (ps : List Proc) → RowsKept c mem mem2 low limit ps → roots_in mem2 ps ≡ roots_in mem ps
  kept-roots [] k = refl
  kept-roots (p ∷ ps) (first, (second, rest)) =
      ap (λ z. p.regs ++ (z ++ (values mem2 p.queue p.waiting ++ roots_in mem2 ps))) first.values_are
      ∙ ap (λ z. p.regs ++ (values mem p.stack p.depth ++ (z ++ roots_in mem2 ps))) second.values_are
      ∙ ap (λ z. p.regs ++ (values mem p.stack p.depth ++ (values mem p.queue p.waiting ++ z))) (kept-roots ps rest)

  module _ (shared : List (List ℕ)) (named : ℕ) (trees : (w : ℕ) (t : Tree) → HoldsTree c shared mem named w t → HoldsTree c shared mem2 named w t) where
    held-same : (ws : List ℕ) (ts : List Tree) → HoldTrees c shared mem named ws ts → HoldTrees c shared mem2 named ws ts
    held-same [] [] h = tt
    held-same [] (t ∷ ts) h = absurd h
    held-same (w ∷ ws) [] h = absurd h
    held-same (w ∷ ws) (t ∷ ts) h = (trees w t h.0, held-same ws ts h.1)

    pub kept-procs : (ps : List Proc) (qs : List Process) → RowsKept c mem mem2 low limit ps → ProcsStand c shared mem low limit named ps qs → ProcsStand c shared mem2 low limit named ps qs
    kept-procs [] [] k s = tt
    kept-procs [] (q ∷ qs) k s = absurd s
    kept-procs (p ∷ ps) [] k s = absurd s
    kept-procs (p ∷ ps) (q ∷ qs) (first, (second, rest)) s =
        let P : List ℕ → Type 0 = λ z. HoldTrees c shared mem2 named z q.stack in
        let Q : List ℕ → Type 0 = λ z. HoldTrees c shared mem2 named z q.queue in (
          record {
            number = s.0.number;
            count = s.0.count;
            registers = held-same p.regs q.registers s.0.registers;
            places = first.stack;
            stack = subst P (sym first.values_are) (held-same (values mem p.stack p.depth) q.stack s.0.stack);
            waits = second.stack;
            queue = subst Q (sym second.values_are) (held-same (values mem p.queue p.waiting) q.queue s.0.queue);
            last = second.ends p.last s.0.last;
            refs = s.0.refs;
          },
          kept-procs ps qs rest s.1,
        )
