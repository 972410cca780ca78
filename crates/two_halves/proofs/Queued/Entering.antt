-- A message enters a queue at its end.
use Rattle.std.proofs.Common.{◌≡◌, ℕ, zero, suc, ◌+◌, ◌-◌, ◌/◌, ◌<◌, ◌≤◌, Bool, true, List, [], ◌∷◌, ◌++◌, length, get_or, set, refl, sym, ◌∙◌, ap, subst, arith, inl, inr}
use Rattle.std.proofs.lemmas.List.{append_assoc, get_or-set_other, get_or-set_same, length-set, get_or_default}
use Rattle.std.proofs.lemmas.List.Sums.{get_or-le-sum_by, sum_by-set}
use Rattle.std.specs.Vec.{with_item}
use Rattle.plain_term.specs.Tree.{Tree}
use Rattle.plain_machine.specs.State.{Process}
use Rattle.term_words.specs.Counted.{In}
use Rattle.term_words.proofs.Framing.Frames.{frame}
use Rattle.term_words.proofs.Totals.Members.{in-both, in-left, in-right}
use Rattle.two_halves.specs.Stack.{AreApart, IsLastPlace, IsPlace, IsStack, place_list, values}
use Rattle.two_halves.specs.Halves.{HalvesStand, IsLaid, ProcStands, ProcsStand, all_places, end_of, places_of}
use Rattle.term_order.specs.Held.{HoldTrees, HoldsTree}
use Rattle.two_halves.specs.Reached.{roots_in}
use Rattle.two_halves.specs.Rows.{HaveStacks}
use Rattle.two_halves.specs.Queues.{CanQueue, PlaceFollows, HasEntered, Queues, with_queue}
use Rattle.two_halves.specs.declared.halves.Halves.{Halves}
use Rattle.two_halves.specs.declared.table.Proc.{Proc}
use Rattle.two_halves.proofs.Standing.Apart.{all-within, apart-at, apart-both, apart-cross, apart-left, apart-right, apart-set, place-within}
use Rattle.two_halves.proofs.Standing.Filled.{halves-filled, laid-filled, laid_out}
use Rattle.two_halves.proofs.Queued.Following.{RowsKept, ends-in, kept-places, kept-procs, kept-roots, rows-followed, rows-same}
use Rattle.two_halves.proofs.Standing.Held.{have-stacks}
use Rattle.two_halves.proofs.Standing.Keeping.{procs-on}
use Rattle.two_halves.proofs.Queued.Queuing.{nobody, row-at, row-length, row-set}

-- The row of places is that from the one place, and a place more with the word.
pub record Longer (c : ℕ → ℕ → Bool) (mem : List ℕ) (low limit from n first place w : ℕ) : Type 0 where
  pub waits : IsStack c mem low limit first (suc n)
  pub values_are : values mem first (suc n) ≡ values mem from n ++ w ∷ []
  pub ends : IsLastPlace mem first (suc n) place
  pub list : place_list mem first (suc n) ≡ place_list mem from n ++ place ∷ []

module _ (c : ℕ → ℕ → Bool) (mem : List ℕ) (low limit place w : ℕ) (here : IsPlace c low limit place) (value : get_or mem place 0 ≡ w) where
  pub longer-none : (from : ℕ) → Longer c mem low limit from 0 place place w
  longer-none from = record { waits = (here, tt); values_are = ap (λ z. z ∷ []) value; ends = refl; list = refl }

  pub longer : (from n last : ℕ) → IsStack c mem low limit from (suc n) → IsLastPlace mem from (suc n) last → get_or mem (last + 1) 0 ≡ place → Longer c mem low limit from (suc n) from place w
  longer from zero last s e next =
      let follows : get_or mem (from + 1) 0 ≡ place = ap (λ z. get_or mem (z + 1) 0) (sym e) ∙ next in
      let P : ℕ → Type 0 = λ z. IsStack c mem low limit z 1 in
      let Q : ℕ → Type 0 = λ z. IsLastPlace mem z 1 place in
      record {
        waits = (s.0, subst P (sym follows) (here, tt));
        values_are = ap (λ z. get_or mem from 0 ∷ (get_or mem z 0 ∷ [])) follows ∙ ap (λ z. get_or mem from 0 ∷ (z ∷ [])) value;
        ends = sym follows;
        list = ap (λ z. from ∷ (z ∷ [])) follows;
      }
  longer from (suc n) last s e next =
      let rest : Longer c mem low limit (get_or mem (from + 1) 0) (suc n) (get_or mem (from + 1) 0) place w = longer (get_or mem (from + 1) 0) n last s.1 e next in
      record {
        waits = (s.0, rest.waits);
        values_are = ap (λ z. get_or mem from 0 ∷ z) rest.values_are;
        ends = rest.ends;
        list = ap (λ z. from ∷ z) rest.list;
      }

-- A row of as many places as trees, and one of each more.
pub held-more : (c : ℕ → ℕ → Bool) (shared : List (List ℕ)) (mem : List ℕ) (named : ℕ) (ws : List ℕ) (ts : List Tree) (w : ℕ) (t : Tree) → HoldTrees c shared mem named ws ts
    → HoldsTree c shared mem named w t → HoldTrees c shared mem named (ws ++ w ∷ []) (ts ++ t ∷ [])
held-more c shared mem named [] [] w t h x = (x, tt)
held-more c shared mem named [] (u ∷ ts) w t h x = absurd h
held-more c shared mem named (v ∷ ws) [] w t h x = absurd h
held-more c shared mem named (v ∷ ws) (u ∷ ts) w t h x = (h.0, held-more c shared mem named ws ts w t h.1 x)

-- The messages of a row that is what it was.
queue-kept : (c : ℕ → ℕ → Bool) (mem mem2 : List ℕ) (low limit : ℕ) (ps : List Proc) (i : ℕ) (d : Proc) → i < length ps → RowsKept c mem mem2 low limit ps
    → values mem2 (get_or ps i d).queue (get_or ps i d).waiting ≡ values mem (get_or ps i d).queue (get_or ps i d).waiting
queue-kept c mem mem2 low limit [] i d less k = absurd (omega (arith, less))
queue-kept c mem mem2 low limit (p ∷ ps) zero d less k = k.1.0.values_are
queue-kept c mem mem2 low limit (p ∷ ps) (suc i) d less k = queue-kept c mem mem2 low limit ps i d (omega (arith, less)) k.1.1

-- Lists one after another.
three : (a b c r : List ℕ) → a ++ (b ++ (c ++ r)) ≡ (a ++ (b ++ c)) ++ r
three a b c r = ap (λ z. a ++ z) (sym (append_assoc b c r)) ∙ sym (append_assoc a (b ++ c) r)

four : (a b c d r : List ℕ) → a ++ (b ++ (c ++ (d ++ r))) ≡ (a ++ (b ++ (c ++ d))) ++ r
four a b c d r = ap (λ z. a ++ z) (three b c d r) ∙ sym (append_assoc a (b ++ (c ++ d)) r)

-- A list is another one with the word once more.
record OneMore (old new : List ℕ) (w : ℕ) : Type 0 where
  before : List ℕ
  after : List ℕ
  were : old ≡ before ++ after
  are : new ≡ before ++ w ∷ after

-- The roots of rows of which one has a message more.
module _ (mem : List ℕ) (p2 d : Proc) (w : ℕ) where
  roots-more : (ps : List Proc) (i : ℕ) → i < length ps → p2.regs ≡ (get_or ps i d).regs → values mem p2.stack p2.depth ≡ values mem (get_or ps i d).stack (get_or ps i d).depth
      → values mem p2.queue p2.waiting ≡ values mem (get_or ps i d).queue (get_or ps i d).waiting ++ w ∷ [] → OneMore (roots_in mem ps) (roots_in mem (set ps i p2)) w
  roots-more [] i less regs stack queue = absurd (omega (arith, less))
  roots-more (p ∷ ps) zero less regs stack queue =
      let S : List ℕ = values mem p.stack p.depth in
      let Q : List ℕ = values mem p.queue p.waiting in
      let R : List ℕ = roots_in mem ps in record {
        before = p.regs ++ (S ++ Q);
        after = R;
        were = three p.regs S Q R;
        are =
            ap (λ z. z ++ (values mem p2.stack p2.depth ++ (values mem p2.queue p2.waiting ++ R))) regs ∙ ap (λ z. p.regs ++ (z ++ (values mem p2.queue p2.waiting ++ R))) stack
            ∙ ap (λ z. p.regs ++ (S ++ (z ++ R))) queue ∙ ap (λ z. p.regs ++ (S ++ z)) (append_assoc Q (w ∷ []) R) ∙ three p.regs S Q (w ∷ R);
      }
  roots-more (p ∷ ps) (suc i) less regs stack queue =
      let S : List ℕ = values mem p.stack p.depth in
      let Q : List ℕ = values mem p.queue p.waiting in
      let m : OneMore (roots_in mem ps) (roots_in mem (set ps i p2)) w = roots-more ps i (omega (arith, less)) regs stack queue in record {
        before = p.regs ++ (S ++ (Q ++ m.before));
        after = m.after;
        were = ap (λ z. p.regs ++ (S ++ (Q ++ z))) m.were ∙ four p.regs S Q m.before m.after;
        are = ap (λ z. p.regs ++ (S ++ (Q ++ z))) m.are ∙ four p.regs S Q m.before (w ∷ m.after);
      }

-- The last place of a queue lies in the half.
module _ (named : ℕ) (h : Halves) (shared : List (List ℕ)) (qs : List Process) (x : HalvesStand named h shared qs) (row : ℕ) (less : row < length h.procs.items) (p : Proc)
    (is : p ≡ get_or h.procs.items row p) where
  pub last-there : (p.waiting ≡ 0 → ⊥) → IsPlace x.test h.room.end (end_of h) p.last
  last-there filled =
      let P : Proc → Type 0 = λ z. ProcStands x.test shared h.mem h.room.end (end_of h) named z (get_or qs row nobody) in
      let old = subst P (sym is) (row-at x.test shared h.mem h.room.end (end_of h) named h.procs.items qs row p nobody less x.processes) in
      place-within x.test h.mem h.room.end (end_of h) p.queue p.waiting p.last old.waits (ends-in x.test h.mem h.mem h.room.end (end_of h) p.queue p.waiting p.last filled old.last)

-- A half of which a place below all others was written, and what follows the last place of the row's queue.
module _ (named : ℕ) (h : Halves) (shared : List (List ℕ)) (qs : List Process) (laid : IsLaid h) (x : HalvesStand named h shared qs) (row : ℕ) (less : row < length h.procs.items) (p : Proc)
    (is : p ≡ get_or h.procs.items row p) (mem2 : List ℕ) (len : length mem2 ≡ length h.mem) (place w first : ℕ) (next : place + 2 ≡ h.room.end) (fits : h.room.top ≤ place)
    (value : get_or mem2 place 0 ≡ w)
    (others : (q : ℕ) → (q ≡ place → ⊥) → ((p.waiting ≡ 0 → ⊥) → q ≡ p.last + 1 → ⊥) → get_or mem2 q 0 ≡ get_or h.mem q 0)
    (none : p.waiting ≡ 0 → first ≡ place) (some : (p.waiting ≡ 0 → ⊥) → (first ≡ p.queue) × (get_or mem2 (p.last + 1) 0 ≡ place)) where
  abbrev q : Process
  q = get_or qs row nobody

  old : ProcStands x.test shared h.mem h.room.end (end_of h) named p q
  old =
      let P : Proc → Type 0 = λ z. ProcStands x.test shared h.mem h.room.end (end_of h) named z q in
      subst P (sym is) (row-at x.test shared h.mem h.room.end (end_of h) named h.procs.items qs row p nobody less x.processes)

  -- The last place, where there is one.
  last-place : (p.waiting ≡ 0 → ⊥) → IsPlace x.test h.room.end (end_of h) p.last
  last-place filled = last-there named h shared qs x row less p is filled

  -- Words with a role are the same.
  pub roles-same : (a k : ℕ) → x.test a k ≡ true → get_or mem2 a 0 ≡ get_or h.mem a 0
  roles-same a k e =
      others a (λ f. elim (x.lie a k e) [ inl o ↦ omega (arith, f, o.1.0, fits) | inr o ↦ omega (arith, f, o.0, next) ])
      (λ filled f. let l = last-place filled in l.bare a k (omega (arith, f)) (omega (arith, f)) e)

  trees : (v : ℕ) (t : Tree) → HoldsTree x.test shared h.mem named v t → HoldsTree x.test shared mem2 named v t
  trees v t held = record {
    standing =
        (frame x.test x.test h.mem mem2 (record { longer = omega (arith, len); weaker = λ a k e. e; same = λ a k content e. roles-same a k e })).each shared v t held.standing;
    names = held.names;
  }

  stacks : HaveStacks x.test h.mem h.room.end (end_of h) h.procs.items
  stacks = have-stacks x.test shared h.mem h.room.end (end_of h) named h.procs.items qs x.processes

  -- All rows are what they were.
  kept : RowsKept x.test h.mem mem2 h.room.end (end_of h) h.procs.items
  kept = by p.waiting refl
    where
      by : (n : ℕ) → p.waiting ≡ n → RowsKept x.test h.mem mem2 h.room.end (end_of h) h.procs.items
      by zero e = rows-same x.test h.mem mem2 h.room.end (end_of h) h.procs.items stacks (λ a i.
          let l : IsPlace x.test h.room.end (end_of h) a = all-within x.test h.mem h.room.end (end_of h) h.procs.items a stacks i in (
            others a (λ f. omega (arith, f, l.above, next)) (λ filled f. filled e),
            others (a + 1) (λ f. omega (arith, f, l.above, next)) (λ filled f. filled e),
          ))
      by (suc n) e =
          let W : Proc → Type 0 = λ z. z.waiting ≡ 0 → ⊥ in
          let E : Proc → Type 0 = λ z. IsLastPlace h.mem z.queue z.waiting p.last in
          rows-followed x.test h.mem mem2 h.room.end (end_of h) p.last (λ a above below other. others a (λ f. omega (arith, f, above, next)) (λ filled f. other f)) h.procs.items row p less stacks
          x.apart
          (subst W is (λ f. omega (arith, e, f))) (subst E is old.last)

  pub roots-there : roots_in mem2 h.procs.items ≡ roots_in h.mem h.procs.items
  roots-there = kept-roots x.test h.mem mem2 h.room.end (end_of h) h.procs.items kept

  rows2 : ProcsStand x.test shared mem2 h.room.end (end_of h) named h.procs.items qs
  rows2 = kept-procs x.test h.mem mem2 h.room.end (end_of h) shared named trees h.procs.items qs kept x.processes

  rows3 : ProcsStand x.test shared mem2 place (end_of h) named h.procs.items qs
  rows3 = procs-on x.test x.test shared mem2 mem2 named named h.room.end place (end_of h) (λ v t held. held) (λ a above below bare. refl) (λ a k above below bare. bare k) (omega (arith, next))
      h.procs.items qs rows2

  apart2 : AreApart (all_places mem2 h.procs.items)
  apart2 = subst AreApart (sym (kept-places x.test h.mem mem2 h.room.end (end_of h) h.procs.items kept)) x.apart

  new-place : IsPlace x.test place (end_of h) place
  new-place = record {
    above = omega arith;
    below = omega (arith, next, laid.fits);
    bare = λ a k from under e. elim (x.lie a k e) [ inl o ↦ omega (arith, from, o.1.0, fits) | inr o ↦ omega (arith, under, o.0, next) ];
  }

  this : ProcStands x.test shared mem2 place (end_of h) named p q
  this =
      let P : Proc → Type 0 = λ z. ProcStands x.test shared mem2 place (end_of h) named z q in
      subst P (sym is) (row-at x.test shared mem2 place (end_of h) named h.procs.items qs row p nobody less rows3)

  -- The queue is a place longer.
  long : Longer x.test mem2 place (end_of h) p.queue p.waiting first place w
  long = by p.waiting refl
    where
      by : (n : ℕ) → p.waiting ≡ n → Longer x.test mem2 place (end_of h) p.queue p.waiting first place w
      by zero e =
          let P : ℕ → Type 0 = λ z. Longer x.test mem2 place (end_of h) p.queue z first place w in
          let Q : ℕ → Type 0 = λ z. Longer x.test mem2 place (end_of h) p.queue 0 z place w in
          subst P (sym e) (subst Q (sym (none e)) (longer-none x.test mem2 place (end_of h) place w new-place value p.queue))
      by (suc n) e =
          let filled : p.waiting ≡ 0 → ⊥ = λ f. omega (arith, e, f) in
          let P : ℕ → Type 0 = λ z. Longer x.test mem2 place (end_of h) p.queue z first place w in
          let Q : ℕ → Type 0 = λ z. Longer x.test mem2 place (end_of h) p.queue (suc n) z place w in
          let S : ℕ → Type 0 = λ z. IsStack x.test mem2 place (end_of h) p.queue z in
          let E : ℕ → Type 0 = λ z. IsLastPlace mem2 p.queue z p.last in
          subst P (sym e) (subst Q (sym (some filled).0)
          (longer x.test mem2 place (end_of h) place w new-place value p.queue n p.last (subst S e this.waits) (subst E e this.last) (some filled).1))

  abbrev row2 : Proc
  row2 = with_queue p first place (p.waiting + 1)

  one-more : suc p.waiting ≡ p.waiting + 1
  one-more = omega arith

  queue-values : values mem2 first (p.waiting + 1) ≡ values mem2 p.queue p.waiting ++ w ∷ []
  queue-values = ap (values mem2 first) (sym one-more) ∙ long.values_are

  pub messages-there : values mem2 first (p.waiting + 1) ≡ values h.mem p.queue p.waiting ++ w ∷ []
  messages-there =
      let P : Proc → Type 0 = λ z. values mem2 z.queue z.waiting ≡ values h.mem z.queue z.waiting in
      queue-values ∙ ap (λ z. z ++ w ∷ []) (subst P (sym is) (queue-kept x.test h.mem mem2 h.room.end (end_of h) h.procs.items row p less kept))

  row-list : places_of mem2 row2 ≡ place_list mem2 p.stack p.depth ++ (place_list mem2 p.queue p.waiting ++ place ∷ [])
  row-list = ap (λ z. place_list mem2 p.stack p.depth ++ place_list mem2 first z) (sym one-more) ∙ ap (λ z. place_list mem2 p.stack p.depth ++ z) long.list

  row-apart : AreApart (places_of mem2 row2)
  row-apart =
      let S : List ℕ = place_list mem2 p.stack p.depth in
      let Q : List ℕ = place_list mem2 p.queue p.waiting in
      let P : Proc → Type 0 = λ z. AreApart (places_of mem2 z) in
      let own : AreApart (S ++ Q) = subst P (sym is) (apart-at mem2 h.procs.items row p less apart2) in
      let high : (a : ℕ) → In a (places_of mem2 p) → place + 2 ≤ a = λ a i. above2 a (row-in h.procs.items row a less (let R : Proc → Type 0 = λ z. In a (places_of mem2 z) in subst R is i)) in
      let queue : AreApart (Q ++ place ∷ []) = apart-both Q (place ∷ []) (apart-right S Q own) ((λ a i. absurd i), tt)
      (λ a b i j. elim j [ inl e ↦ inr (omega (arith, e, high a (in-right a S Q i))) | inr f ↦ absurd f ]) in
      subst AreApart (sym row-list) (apart-both S (Q ++ place ∷ []) (apart-left S Q own) queue (λ a b i j. elim (in-both b Q (place ∷ []) j) [
        | inl k ↦ apart-cross S Q a b own i k
        | inr k ↦ elim k [ inl e ↦ inr (omega (arith, e, high a (in-left a S Q i))) | inr f ↦ absurd f ]
      ]))
    where
      above2 : (a : ℕ) → In a (all_places mem2 h.procs.items) → place + 2 ≤ a
      above2 a i =
          let l : IsPlace x.test h.room.end (end_of h) a = all-within x.test mem2 h.room.end (end_of h) h.procs.items a
          (have-stacks x.test shared mem2 h.room.end (end_of h) named h.procs.items qs rows2) i in
          omega (arith, l.above, next)

      row-in : (rs : List Proc) (k a : ℕ) → k < length rs → In a (places_of mem2 (get_or rs k p)) → In a (all_places mem2 rs)
      row-in [] k a small j = absurd (omega (arith, small))
      row-in (r ∷ rs) zero a small j = in-left a (places_of mem2 r) (all_places mem2 rs) j
      row-in (r ∷ rs) (suc k) a small j = in-right a (places_of mem2 r) (all_places mem2 rs) (row-in rs k a (omega (arith, small)) j)

  apart3 : AreApart (all_places mem2 (set h.procs.items row row2))
  apart3 =
      let S : List ℕ = place_list mem2 p.stack p.depth in
      let Q : List ℕ = place_list mem2 p.queue p.waiting in
      apart-set mem2 row2 p h.room.end h.procs.items row
      (λ a i. elim (in-both a S (Q ++ place ∷ []) (subst (In a) row-list i)) [
        | inl j ↦ inl (old-in a (in-left a S Q j))
        | inr j ↦ elim (in-both a Q (place ∷ []) j) [
          | inl k ↦ inl (old-in a (in-right a S Q k))
          | inr k ↦ elim k [ inl e ↦ inr (omega (arith, e, next)) | inr f ↦ absurd f ]
        ]
      ]) row-apart
      (λ a i. let l : IsPlace x.test h.room.end (end_of h) a = all-within x.test mem2 h.room.end (end_of h) h.procs.items a
      (have-stacks x.test shared mem2 h.room.end (end_of h) named h.procs.items qs rows2) i in
      l.above)
      apart2
    where
      old-in : (a : ℕ) → In a (places_of mem2 p) → In a (places_of mem2 (get_or h.procs.items row p))
      old-in a i = let R : Proc → Type 0 = λ z. In a (places_of mem2 z) in subst R is i

  -- The half with the new row.
  abbrev pub entered : Halves
  entered = laid_out h mem2 (record h.room { end = place }) (with_item h.procs row (with_queue p first place (p.waiting + 1)))

  limit : end_of h ≡ h.base + length mem2 / 2
  limit = omega (arith, len)

  module _ (t : Tree) (held : HoldsTree x.test shared h.mem named w t) where
    new-row : ProcStands x.test shared mem2 place (end_of h) named row2 (record q { queue = q.queue ++ t ∷ [] })
    new-row =
        let P : ℕ → Type 0 = λ z. IsStack x.test mem2 place (end_of h) first z in
        let Q : List ℕ → Type 0 = λ z. HoldTrees x.test shared mem2 named z (q.queue ++ t ∷ []) in
        let E : ℕ → Type 0 = λ z. IsLastPlace mem2 first z place in
        record {
          number = this.number;
          count = this.count;
          registers = this.registers;
          places = this.places;
          stack = this.stack;
          waits = subst P one-more long.waits;
          queue = subst Q (sym queue-values) (held-more x.test shared mem2 named (values mem2 p.queue p.waiting) q.queue w t this.queue (trees w t held));
          last = subst E one-more long.ends;
          refs = this.refs;
        }

    new-rows : ProcsStand x.test shared mem2 place (end_of h) named (set h.procs.items row row2) (set qs row (record q { queue = q.queue ++ t ∷ [] }))
    new-rows = row-set x.test shared mem2 place (end_of h) named h.procs.items qs row row2 (record q { queue = q.queue ++ t ∷ [] }) rows3 new-row

    pub has-entered : HasEntered named entered shared qs row t
    has-entered =
        let P : ℕ → Type 0 = λ z. ProcsStand x.test shared mem2 place z named (set h.procs.items row row2) (set qs row (record q { queue = q.queue ++ t ∷ [] })) in
        record {
          process = q;
          is = λ d. get_or_default qs row d nobody (omega (arith, less, row-length x.test shared h.mem h.room.end (end_of h) named h.procs.items qs x.processes));
          stands =
              halves-filled named named h shared qs (set qs row (record q { queue = q.queue ++ t ∷ [] })) laid x x.test x.single mem2 (record h.room { end = place }) (with_item h.procs row row2) len
              (λ a k e. e) (λ a k e. inl e) (λ a k e. inl e) roles-same (omega arith) (omega (arith, next)) (omega arith) (subst P limit new-rows) apart3;
        }

    pub entered-laid : IsLaid entered
    entered-laid =
        let P : ℕ → Type 0 = λ z. ProcsStand x.test shared mem2 place z named (set h.procs.items row row2) (set qs row (record q { queue = q.queue ++ t ∷ [] })) in
        laid-filled named named h shared qs (set qs row (record q { queue = q.queue ++ t ∷ [] })) laid x x.test x.single mem2 (record h.room { end = place }) (with_item h.procs row row2) len
        (λ a k e. e) (λ a k e. inl e) (λ a k e. inl e) roles-same (omega arith) (omega (arith, next)) (omega arith) (subst P limit new-rows) refl fits
        (omega (arith, next, sum_by-set (λ r. r.depth + r.waiting) h.procs.items row row2 p less, ap (λ r. r.depth + r.waiting) is))

-- What follows a queue's last place was written where there is one.
record Followed (old new : List ℕ) (queue last n place result : ℕ) : Type 0 where
  same_len : length new ≡ length old
  others : (q : ℕ) → ((n ≡ 0 → ⊥) → q ≡ last + 1 → ⊥) → get_or new q 0 ≡ get_or old q 0
  none : n ≡ 0 → result ≡ place
  some : (n ≡ 0 → ⊥) → (result ≡ queue) × (get_or new (last + 1) 0 ≡ place)

followed : (old new : List ℕ) (queue last n place result : ℕ) → ((n ≡ 0 → ⊥) → last + 2 ≤ length old) → PlaceFollows old new queue last n place result
    → Followed old new queue last n place result
followed old new queue last zero place result inside f = record {
  same_len = ap length f.0;
  others = λ q free. ap (λ z. get_or z q 0) f.0;
  none = λ e. f.1;
  some = λ filled. absurd (filled refl);
}
followed old new queue last (suc n) place result inside f = record {
  same_len = ap length f.0 ∙ length-set old (last + 1) place;
  others = λ q free. ap (λ z. get_or z q 0) f.0 ∙ get_or-set_other old (last + 1) q place 0 (free (λ e. omega (arith, e)));
  none = λ e. absurd (omega (arith, e));
  some = λ filled. (f.1, ap (λ z. get_or z (last + 1) 0) f.0 ∙ get_or-set_same old (last + 1) place 0 (omega (arith, inside filled)));
}

module _ (h : Halves) (row w : ℕ) (r : CanQueue h row w) (p : Proc) (is : p ≡ get_or h.procs.items row p) where
  inside : end_of h ≤ length h.mem
  inside = elim r.has.laid.side [ inl e ↦ omega (arith, e) | inr e ↦ omega (arith, e) ]

  pub last-inside : (p.waiting ≡ 0 → ⊥) → p.last + 2 ≤ length h.mem
  last-inside filled =
      let l : IsPlace r.has.stands.test h.room.end (end_of h) p.last = last-there r.has.named h r.has.shared r.has.processes r.has.stands row r.has.within p is filled in
      omega (arith, l.below, inside)

  pub waiting-few : p.waiting ≤ length h.mem
  waiting-few =
      omega (arith, r.has.laid.fits, inside, get_or-le-sum_by (λ z. z.depth + z.waiting) h.procs.items row p r.has.within, ap (λ z. z.depth + z.waiting) is)

  module _ (mem1 mem2 : List ℕ) (place first : ℕ) (at : place ≡ h.room.end - 2) (f : PlaceFollows h.mem mem1 p.queue p.last p.waiting place first) (written : mem2 ≡ set mem1 place w) where
    facts : Followed h.mem mem1 p.queue p.last p.waiting place first
    facts = followed h.mem mem1 p.queue p.last p.waiting place first last-inside f

    len : length mem2 ≡ length h.mem
    len = ap length written ∙ length-set mem1 place w ∙ facts.same_len

    next : place + 2 ≡ h.room.end
    next = omega (arith, at, r.fits)

    fits : h.room.top ≤ place
    fits = omega (arith, at, r.fits)

    value : get_or mem2 place 0 ≡ w
    value = ap (λ z. get_or z place 0) written ∙ get_or-set_same mem1 place w 0 (omega (arith, facts.same_len, next, r.has.laid.fits, inside))

    far : (q : ℕ) → (q ≡ place → ⊥) → get_or mem2 q 0 ≡ get_or mem1 q 0
    far q other = ap (λ z. get_or z q 0) written ∙ get_or-set_other mem1 place q w 0 other

    others : (q : ℕ) → (q ≡ place → ⊥) → ((p.waiting ≡ 0 → ⊥) → q ≡ p.last + 1 → ⊥) → get_or mem2 q 0 ≡ get_or h.mem q 0
    others q other free = far q other ∙ facts.others q free

    some : (p.waiting ≡ 0 → ⊥) → (first ≡ p.queue) × (get_or mem2 (p.last + 1) 0 ≡ place)
    some filled =
        let l : IsPlace r.has.stands.test h.room.end (end_of h) p.last = last-there r.has.named h r.has.shared r.has.processes r.has.stands row r.has.within p is filled in
        let (one, two) = facts.some filled in
        (one, far (p.last + 1) (λ e. omega (arith, e, l.above, next)) ∙ two)

    abbrev final_row : Proc
    final_row = with_queue p first place (p.waiting + 1)

    same-row : (u : Proc) → u ≡ get_or h.procs.items row u → p ≡ u
    same-row u other = is ∙ (get_or_default h.procs.items row p u r.has.within ∙ sym other)

    row-there : (u : Proc) → u ≡ get_or (set h.procs.items row final_row) row u → final_row ≡ u
    row-there u other = sym (get_or-set_same h.procs.items row final_row u r.has.within) ∙ sym other

    more : OneMore (roots_in mem2 h.procs.items) (roots_in mem2 (set h.procs.items row final_row)) w
    more =
        let W : Proc → Type 0 = λ z. values mem2 first (p.waiting + 1) ≡ values mem2 z.queue z.waiting ++ w ∷ [] in
        roots-more mem2 final_row p w h.procs.items row r.has.within (ap (λ z. z.regs) is) (ap (λ z. values mem2 z.stack z.depth) is)
        (subst W is (queue-values r.has.named h r.has.shared r.has.processes r.has.laid r.has.stands row r.has.within p is mem2 len place w first next fits value others facts.none some))

    pub queues : Queues h (laid_out h mem2 (record h.room { end = place }) (with_item h.procs row (with_queue p first place (p.waiting + 1)))) row w
    queues = record {
      laid = entered-laid r.has.named h r.has.shared r.has.processes r.has.laid r.has.stands row r.has.within p is mem2 len place w first next fits value others facts.none some r.tree r.held;
      same_len = len;
      base = refl;
      top = refl;
      low = next;
      first = first;
      procs = λ u other. ap (λ z. with_item h.procs row (with_queue z first place (z.waiting + 1))) (same-row u other);
      bins = refl;
      funs = refl;
      sweeps = refl;
      enters = λ named shared qs x t held.
          has-entered named h shared qs r.has.laid x row r.has.within p is mem2 len place w first next fits value others facts.none some t held;
      words = λ named shared qs x a k e.
          roles-same named h shared qs r.has.laid x row r.has.within p is mem2 len place w first next fits value others facts.none some a k e;
      messages = λ u o new old.
          let P : Proc → Type 0 = λ z. values mem2 z.queue z.waiting ≡ values h.mem o.queue o.waiting ++ w ∷ [] in
          let Q : Proc → Type 0 = λ z. values mem2 first (p.waiting + 1) ≡ values h.mem z.queue z.waiting ++ w ∷ [] in
          subst P (row-there u new) (subst Q (same-row o old)
          (messages-there r.has.named h r.has.shared r.has.processes r.has.laid r.has.stands row r.has.within p is mem2 len place w first next fits value others facts.none some));
      before = more.before;
      after = more.after;
      were = sym (roots-there r.has.named h r.has.shared r.has.processes r.has.laid r.has.stands row r.has.within p is mem2 len place w first next fits value others facts.none some) ∙ more.were;
      roots = more.are;
    }
