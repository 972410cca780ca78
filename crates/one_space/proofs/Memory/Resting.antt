-- A half of which only free words were written: what stands there stands still, and what was reached is reached.
use Rattle.std.proofs.Common.{◌≡◌, ℕ, ◌+◌, ◌*◌, ◌/◌, ◌<◌, ◌≤◌, ◌⊎◌, true, List, [], ◌∷◌, length, get_or, refl, sym, ◌∙◌, ap, arith, inl, inr}
use Rattle.word_mem.specs.declared.ranges.Room.{Room}
use Rattle.plain_term.specs.Tree.{Tree}
use Rattle.plain_machine.specs.State.{Process}
use Rattle.term_words.specs.Role.{NEXT}
use Rattle.term_words.specs.Kept.{Kept}
use Rattle.term_words.specs.Reach.{Reach}
use Rattle.term_words.proofs.Reaching.Carrying.{reach-carried}
use Rattle.term_words.proofs.Framing.Frames.{frame, kept-carried}
use Rattle.off_heap_list.specs.Links.{Leads}
use Rattle.off_heap_list.proofs.Chaining.Chained.{leads-stays}
use Rattle.two_halves.specs.Halves.{HalvesStand, IsLaid, ProcsStand, end_of}
use Rattle.term_order.specs.Held.{HoldsTree}
use Rattle.two_halves.specs.Reached.{ChainReached, roots_in, roots_of}
use Rattle.two_halves.specs.declared.halves.Halves.{Halves}
use Rattle.two_halves.proofs.Standing.Apart.{apart-kept}
use Rattle.two_halves.proofs.Standing.Filled.{halves-filled, laid-filled, laid_out}
use Rattle.two_halves.proofs.Standing.Held.{have-stacks, roots-stand, trees_of}
use Rattle.two_halves.proofs.Standing.Keeping.{procs-on, roots-kept}
use Rattle.two_halves.proofs.Standing.Stacks.{AreKept}

-- A place and how many objects there are tell a chain's objects.
leads-one : (mem : List ℕ) (from to : ℕ) (xs ys : List ℕ) → length xs ≡ length ys → Leads mem from xs to → Leads mem from ys to → xs ≡ ys
leads-one mem from to [] [] e a b = refl
leads-one mem from to [] (y ∷ ys) e a b = absurd (omega (arith, e))
leads-one mem from to (x ∷ xs) [] e a b = absurd (omega (arith, e))
leads-one mem from to (x ∷ xs) (y ∷ ys) e (one, rest) (two, last) =
    let same : x ≡ y = sym one ∙ two in
    ap (λ z. z ∷ xs) same ∙ ap (λ z. y ∷ z) (leads-one mem (get_or mem (y + 2) 0) to xs ys (omega (arith, e)) (rw same at rest) last)

module _ (named : ℕ) (h : Halves) (shared : List (List ℕ)) (qs : List Process) (laid : IsLaid h) (s : HalvesStand named h shared qs) (mem2 : List ℕ) (z : Room) (len : length mem2 ≡ length h.mem)
    (same : (q : ℕ) → (q < h.room.top) ⊎ (h.room.end ≤ q) → get_or mem2 q 0 ≡ get_or h.mem q 0) (up : h.room.top ≤ z.top) (order : z.top ≤ z.end) (down : z.end ≤ h.room.end) where
  words-same : (a k : ℕ) → s.test a k ≡ true → get_or mem2 a 0 ≡ get_or h.mem a 0
  words-same a k e = elim (s.lie a k e) [ inl o ↦ same a (inl o.1.0) | inr o ↦ same a (inr o.0) ]

  kept : Kept s.test s.test h.mem mem2
  kept = record { longer = omega (arith, len); weaker = λ a k e. e; same = λ a k content e. words-same a k e }

  trees : (w : ℕ) (t : Tree) → HoldsTree s.test shared h.mem named w t → HoldsTree s.test shared mem2 named w t
  trees w t x = record { standing = (frame s.test s.test h.mem mem2 kept).each shared w t x.standing; names = x.names }

  places : AreKept s.test h.mem mem2 h.room.end (end_of h)
  places q above below none = same q (inr above)

  rows : ProcsStand s.test shared mem2 z.end (h.base + length mem2 / 2) named h.procs.items qs
  rows =
      let limit : end_of h ≡ h.base + length mem2 / 2 = omega (arith, len) in
      rw (sym limit)
      (procs-on s.test s.test shared h.mem mem2 named named h.room.end z.end (end_of h) trees places (λ q k above below none e. none k e) down h.procs.items qs s.processes)

  pub rest-stands : HalvesStand named (laid_out h mem2 z h.procs) shared qs
  rest-stands =
      halves-filled named named h shared qs qs laid s s.test s.single mem2 z h.procs len (λ a k e. e) (λ a k e. inl e) (λ a k e. inl e) words-same up down (omega arith) rows
      (apart-kept s.test shared h.mem mem2 h.room.end (end_of h) named h.procs.items qs places s.processes s.apart)

  pub rest-laid : z.start ≡ h.room.start → IsLaid (laid_out h mem2 z h.procs)
  rest-laid begins =
      laid-filled named named h shared qs qs laid s s.test s.single mem2 z h.procs len (λ a k e. e) (λ a k e. inl e) (λ a k e. inl e) words-same up down (omega arith)
      rows begins order (omega (arith, down))

  pub rest-reached : ChainReached h → ChainReached (laid_out h mem2 z h.procs)
  rest-reached r = record {
    all = λ os p count chain inside.
        let leads = leads-stays h.mem mem2 h.head s.chained 0 (λ q i. words-same (q + 2) NEXT (s.links.each q i).next) s.links.chain in
        let is : os ≡ s.chained = leads-one mem2 h.head 0 os s.chained (count ∙ sym s.linked) chain leads in
        let was : Reach h.mem (roots_of h) (p * 4 + 2) = r.all s.chained p s.linked s.links.chain (rw is at inside) in
        let roots : roots_in mem2 h.procs.items ≡ roots_in h.mem h.procs.items =
        roots-kept s.test h.mem mem2 h.room.end (end_of h) h.procs.items places (have-stacks s.test shared h.mem h.room.end (end_of h) named h.procs.items qs s.processes) in
        rw roots
        (reach-carried s.test s.test h.mem mem2 (kept-carried s.test s.test h.mem mem2 kept) shared (roots_of h) (trees_of qs)
        (roots-stand s.test shared h.mem h.room.end (end_of h) named h.procs.items qs s.processes) (p * 4 + 2) was);
  }
