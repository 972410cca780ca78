-- The words of copies, scanned one by one, and a list along its spine.
use Rattle.std.proofs.Common.{◌≡◌, ℕ, ◌+◌, ◌-◌, ◌/◌, ◌%◌, ◌<◌, ◌≤◌, Bool, true, false, List, length, get_or, set, refl, sym, ◌∙◌, ap, subst, arith, inl, inr, Some}
use Rattle.std.proofs.lemmas.List.{get_or-set_other, set-get_or}
use Rattle.term_words.specs.Object.{IsPointer, object_words}
use Rattle.term_words.proofs.Placing.Apart.{words-cons}
use Rattle.term_tags.specs.Table.{layout_for}
use Rattle.term_tags.specs.declared.layouts.Layout.{Layout}
use Rattle.cheney.specs.declared.moving.Moving.{Moving}
use Rattle.cheney.specs.Spans.{in_span}
use Rattle.cheney.specs.Plan.{Plan, Reached, Leaves, size}
use Rattle.cheney.specs.Moved.{Copies}
use Rattle.cheney.specs.Zones.{Marks, IsTracedPlace, scanned_at, object_at, mark}
use Rattle.cheney.specs.Rooms.{top_of, Runs}
use Rattle.cheney.specs.Calls.{CanOpen, CanStep, Copied, Evacuated, GoesOnWithin, IsFresh, IsFreshCons, RunsOn, ScansWord, Shape, nowhere}
use Rattle.cheney.proofs.Stepping.Facts.{copy-later}
use Rattle.cheney.proofs.Before.Ground.{Ground, ground}
use Rattle.cheney.proofs.Stepping.Steps.{Going, Opened, evacuated, fresh-here, going-on, going-step, gone-through, later-grows, later-same, later-then, leaves, header-same, opened-there, raw-at, reached-there, step-part, stepped}
use Rattle.cheney.proofs.Stepping.Writing.{mark-twice, object-here, scanned-here}

pub boxed-shape : (h from : ℕ) → h % 4 ≡ 0 → ((l : Layout) → layout_for h ≡ Some l → from ≡ l.first) → Shape h from (1 + h / 64)
boxed-shape h from zero_end each = record { cons = λ n. absurd (n zero_end); boxed = λ z l is. (each l is, refl) }

-- A word that points to nothing is left as it is.

module _ (p : Plan) (mem : List ℕ) (mv : Moving) (k : Marks) (b : Bool) (at w : ℕ) (run : Runs p mem mv k) (s : scanned_at k b ≡ at) (o : IsTracedPlace p mem k b at) (e : w ≡ get_or mem at 0)
    (no_pointer : IsPointer w → ⊥) where
  itself : Evacuated p mem mem mv k (get_or mem at 0) (get_or mem at 0)
  itself =
      let P : ℕ → Type 0 = λ z. Evacuated p mem mem mv k z z in
      subst P e (record { runs = run; later = later-same p mem; image = record { kept = λ n. refl; gone = λ l. absurd (no_pointer l.pointer) } })

  same-set : mem ≡ set mem at (get_or mem at 0)
  same-set = sym (set-get_or mem at 0)

  pub kept-word : RunsOn p mem mem mv (mark k b (at + 1) (object_at k b))
  kept-word = stepped p mem mem mv mv k b at (get_or mem at 0) run s o itself mem same-set

  pub kept-part : at + 1 < object_at k b → IsTracedPlace p mem (mark k b (at + 1) (object_at k b)) b (at + 1)
  kept-part more = step-part p mem mem mv mv k b at (get_or mem at 0) run s o itself mem same-set more

-- A tail whose cons is copied.

pub tail-moved : (p : Plan) (mem mem2 mem3 : List ℕ) (mv mv2 : Moving) (k : Marks) (b : Bool) (at w x : ℕ) → Runs p mem mv k → scanned_at k b ≡ at → IsTracedPlace p mem k b at → w ≡ get_or mem at
    0 → Copied mem mem2 mv mv2 w x
    → mem3 ≡ set mem2 at x → RunsOn p mem mem3 mv2 (mark k b (at + 1) (object_at k b))
tail-moved p mem mem2 mem3 mv mv2 k b at w x run s o e c written =
    let P : ℕ → Type 0 = λ z. Copied mem mem2 mv mv2 z x in
    stepped p mem mem2 mv mv2 k b at x run s o (evacuated p mem mem2 mv mv2 k (get_or mem at 0) x run (reached-there p mem mv k b at run s o) (inr (inr (subst P e c)))) mem3 written

module _ (mem mem2 mem3 : List ℕ) (mv mv2 : Moving) (b : Bool) (at w head tail x : ℕ) (c : CanStep mem mv b at) (e : w ≡ get_or mem at 0) (f : IsFresh mem mv w head tail)
    (o : Copied mem mem2 mv mv2 w x) (here : in_span mv.mature (w / 4) ≡ b) (written : mem3 ≡ set mem2 at x) where
  copy-there : Copies mem mem2 w (top_of mv b) 2 x
  copy-there =
      let P : ℕ → Type 0 = λ z. Copies mem mem2 w (top_of mv b) z x in
      let Q : Bool → Type 0 = λ z. Copies mem mem2 w (top_of mv z) (object_words mem w) x in
      subst P (words-cons mem w f.tag) (subst Q here o.copies)

  new-there : x / 4 ≡ top_of mv b
  new-there = omega (arith, copy-there.word, f.tag)

  at-below : at < top_of mv b
  at-below = omega (arith, c.part.below, c.runs.holds.outer b)

  beyond : (q : ℕ) → top_of mv b ≤ q → get_or mem3 q 0 ≡ get_or mem2 q 0
  beyond q above = ap (λ z. get_or z q 0) written ∙ get_or-set_other mem2 at q x 0 (λ same. omega (arith, same, at-below))

  no-head : head % 4 ≡ 0 → ⊥
  no-head z =
      let g : Ground c.plan = ground c.plan c.runs.ready in
      let P : ℕ → Type 0 = λ y. Reached c.plan y in
      let r : Reached c.plan w = subst P (sym e) (reached-there c.plan mem mv c.marks b at c.runs c.scanned c.part) in
      let l : Leaves c.plan w = leaves c.plan mem mv c.marks w c.runs r (inl f.tag) f.leaves in
      let same : get_or mem (w / 4) 0 ≡ get_or c.plan.start (w / 4) 0 = header-same c.plan mem mv c.marks w c.runs r l (fresh-here mem mv w head tail f) in
      g.head w r f.tag (ap (λ y. y % 4) (sym same ∙ sym f.head_is) ∙ z)

  pub is-next : IsFreshCons mem3 mv2 b (x / 4) head tail
  is-next = record {
    head_is = f.head_is ∙ ap (λ z. get_or mem z 0) (omega arith) ∙ sym (beyond (x / 4) (omega (arith, new-there)) ∙ copy-there.copied 0 (x / 4) (omega arith) (omega (arith, new-there)));
    tail_is = f.tail_is ∙ sym (beyond (x / 4 + 1) (omega (arith, new-there)) ∙ copy-there.copied 1 (x / 4 + 1) (omega arith) (omega (arith, new-there)));
    no_header = no-head;
    below = (let P : Bool → Type 0 = λ z. top_of mv2 z ≡ top_of mv z + object_words mem w in
        let grown : top_of mv2 b ≡ top_of mv b + object_words mem w = subst P here o.grows.here in
        omega (arith, grown, new-there, words-cons mem w f.tag));
  }

-- One cons of a list after the other.

mark-self : (k : Marks) (b : Bool) → mark k b (scanned_at k b) (object_at k b) ≡ k
mark-self k true = refl
mark-self k false = refl

pub spine-start : (p : Plan) (mem : List ℕ) (mv : Moving) (k : Marks) (b : Bool) (place : ℕ) → Runs p mem mv k → scanned_at k b ≡ place → object_at k b ≡ place → RunsOn p mem mem mv
    (mark k b place place)
spine-start p mem mv k b place run s o =
    let P : Marks → Type 0 = λ z. RunsOn p mem mem mv z in
    let e : mark k b place place ≡ k = ap (λ z. mark k b z place) (sym s) ∙ ap (λ z. mark k b (scanned_at k b) z) (sym o) ∙ mark-self k b in
    subst P (sym e) (record { runs = run; later = later-same p mem })

module _ (p : Plan) (old mem : List ℕ) (mv : Moving) (k : Marks) (b : Bool) (at head tail : ℕ) (on : RunsOn p old mem mv (mark k b at at)) (c : IsFreshCons mem mv b at head tail) where
  cell-opened : Opened p mem mv (mark k b at at) b at 0 2
  cell-opened =
      opened-there p mem mv (mark k b at at) b at 0 2 on.runs (scanned-here k b at at) (object-here k b at at) c.below
      (record { cons = λ n. (refl, refl); boxed = λ z l is. absurd (c.no_header (ap (λ y. y % 4) c.head_is ∙ z)) })

  pub cell-inside : at + 2 ≤ length mem
  cell-inside = cell-opened.inside

  cell-going : Going p mem mem mv (mark k b at at) b at (at + 2)
  cell-going = let P : ℕ → Type 0 = λ z. Going p mem mem mv (mark k b at at) b z (at + 2) in let e : at + 0 ≡ at = omega arith in subst P e cell-opened.going

  pub cell-step : CanStep mem mv b at
  cell-step = going-step p mem mem mv (mark k b at at) b at (at + 2) cell-going (omega arith)

  module _ (mem1 : List ℕ) (mv1 : Moving) (each : ScansWord mem mem1 mv mv1 at)
      (copies : GoesOnWithin mem mem1 mv at) where
    head-done : Going p mem mem1 mv1 (mark k b at at) b (at + 1) (at + 2)
    head-done =
        going-on p mem mem mem1 mv mv1 (mark k b at at) b at (at + 2) cell-going (omega arith)
        (each p (mark (mark k b at at) b at (at + 2)) b cell-going.on.runs (scanned-here (mark k b at at) b at (at + 2)))
        (copies p (mark (mark k b at at) b at (at + 2)) b cell-going.on.runs (scanned-here (mark k b at at) b at (at + 2)))

    pub tail-step : CanStep mem1 mv1 b (at + 1)
    tail-step = going-step p mem mem1 mv1 (mark k b at at) b (at + 1) (at + 2) head-done (omega arith)

    -- The tail is as it was.
    pub tail-kept : tail ≡ get_or mem1 (at + 1) 0
    tail-kept =
        let o : IsTracedPlace p mem (mark (mark k b at at) b at (at + 2)) b at = cell-going.part (omega arith) in
        let end : o.from + size p o.v ≡ at + 2 = o.ends ∙ object-here (mark k b at at) b at (at + 2) in
        let low : o.from ≤ at + 1 = omega (arith, o.traced) in
        let before : get_or mem (at + 1) 0 ≡ get_or p.start (o.v / 4 + (at + 1 - o.from)) 0 =
        raw-at p mem mv (mark (mark k b at at) b at (at + 2)) b (at + 1) cell-going.on.runs (omega (arith, scanned-here (mark k b at at) b at (at + 2))) o.v o.from o.copy low (omega (arith, end)) in
        let after : get_or mem1 (at + 1) 0 ≡ get_or p.start (o.v / 4 + (at + 1 - o.from)) 0 =
        raw-at p mem1 mv1 (mark (mark k b at at) b (at + 1) (at + 2)) b (at + 1) head-done.on.runs (omega (arith, scanned-here (mark k b at at) b (at + 1) (at + 2))) o.v o.from
        (copy-later p mem mem1 b o.v o.from (later-grows p nowhere mem mem1 head-done.on.later) o.copy) low (omega (arith, end)) in
        c.tail_is ∙ before ∙ sym after

    pub cell-done : (mem2 : List ℕ) (mv2 : Moving) → ScansWord mem1 mem2 mv1 mv2 (at + 1)
        → RunsOn p old mem2 mv2 (mark k b (at + 2) (at + 2))
    cell-done mem2 mv2 last =
        let go : Going p mem mem2 mv2 (mark k b at at) b (at + 1 + 1) (at + 2) =
        going-on p mem mem1 mem2 mv1 mv2 (mark k b at at) b (at + 1) (at + 2) head-done (omega arith)
        (last p (mark (mark k b at at) b (at + 1) (at + 2)) b head-done.on.runs (scanned-here (mark k b at at) b (at + 1) (at + 2)))
        (λ part more. absurd (omega (arith, more, object-here (mark k b at at) b (at + 1) (at + 2)))) in
        let r : RunsOn p mem mem2 mv2 (mark (mark k b at at) b (at + 2) (at + 2)) = gone-through p mem mem2 mv2 (mark k b at at) b (at + 1 + 1) (at + 2) go (omega arith) in
        let P : Marks → Type 0 = λ z. RunsOn p old mem2 mv2 z in
        subst P (mark-twice k b at at (at + 2) (at + 2)) (record { runs = r.runs; later = later-then p nowhere nowhere old mem mem2 on.later r.later })

-- The cons lies in the memory.
pub spine-within : (mem : List ℕ) (mv : Moving) (b : Bool) (place head : ℕ) → CanOpen mem mv b place → head ≡ get_or mem place 0 → (head % 4 ≡ 0 → ⊥) → place + 2 ≤ length mem
spine-within mem mv b place head c e n =
    (opened-there c.plan mem mv c.marks b place 0 2 c.runs c.scanned c.object c.below (record { cons = λ x. (refl, refl); boxed = λ z l is. absurd (n (ap (λ y. y % 4) e ∙ z)) })).inside

-- It lies there after other conses, too.
pub spine-inside : (p : Plan) (old mem : List ℕ) (mv mv2 : Moving) (k l : Marks) (at : ℕ) → Runs p old mv k → Runs p mem mv2 l → at + 2 ≤ length mem → at + 2 ≤ length old
spine-inside p old mem mv mv2 k l at a b inside = omega (arith, inside, a.holds.same_len, b.holds.same_len)
