-- The calls of a collection, from what they write to what they promise.
use Rattle.std.proofs.Common.{◌≡◌, ℕ, ◌+◌, ◌-◌, ◌/◌, ◌%◌, ◌<◌, ◌≤◌, ◌⊎◌, Bool, true, false, List, length, get_or, set, refl, sym, ◌∙◌, ap, subst, arith, inl, inr}
use Rattle.std.proofs.lemmas.Bool.Decides.{nat_tests}
use Rattle.std.proofs.lemmas.List.{get_or-set_other}
use Rattle.std.proofs.lemmas.Bool.{or_parts, cases_Bool}
use Rattle.term_words.specs.Object.{IsPointer, object_words}
use Rattle.term_words.specs.Reach.{first_of}
use Rattle.term_tags.specs.Table.{layout_for}
use Rattle.word_mem.specs.declared.ranges.Room.{Room}
use Rattle.cheney.specs.declared.moving.Moving.{Moving}
use Rattle.cheney.specs.Spans.{in_span}
use Rattle.cheney.specs.Ranges.{stays}
use Rattle.cheney.specs.Plan.{Plan, Reached, Leaves, size, first}
use Rattle.cheney.specs.Moved.{moved, forward, IsImage, Copies}
use Rattle.cheney.specs.Zones.{Marks, Gone, IsTracedPlace, IsCopy, StillFits, Invariant, scanned_at, object_at, mark, at_objects}
use Rattle.cheney.specs.Rooms.{FromMoves, top_of, RoomsAgree, Runs, RoomGrows}
use Rattle.cheney.specs.Calls.{CanMove, Copied, IsFresh, Went, either, nowhere, Later, Evacuated, CanOpen, CanStep, RunsOn, Shape}
use Rattle.term_words.proofs.Placing.Apart.{words-cons, words-header}
use Rattle.cheney.proofs.Before.Basics.{moved-cons, moved-boxed, forward-cons, forward-boxed, not-both, reach-part, size-words, size-some, size-cons, size-boxed, first-cons, first-boxed}
use Rattle.cheney.proofs.Before.Ground.{Ground, ground}
use Rattle.cheney.proofs.Stepping.Facts.{Grows, copy-later, Without, without}
use Rattle.cheney.proofs.Stepping.Moves.{move-keeps, move-grows}
use Rattle.cheney.proofs.Stepping.Writing.{Opens, opens, mark-twice, scanned-here, object-here, write-keeps, write-grows, write-part}

module _ (p : Plan) (mem : List ℕ) (mv : Moving) (k : Marks) (w : ℕ) (run : Runs p mem mv k) (r : Reached p w) where
  -- The words of a reached pointer lie in the memory.
  lies : IsPointer w → w / 4 + size p w ≤ length mem
  lies i = let g : Ground p = ground p run.ready in omega (arith, g.inside w r i, run.holds.same_len)

  pub header-same : Leaves p w → moved mem w ≡ false → get_or mem (w / 4) 0 ≡ get_or p.start (w / 4) 0
  header-same l here = run.holds.waiting w (w / 4) r l here (record { from = omega arith; below = omega (arith, size-some p w l.pointer) })

  pub leaves : IsPointer w → stays mv.stay (w / 4) ≡ false → Leaves p w
  leaves i s = record { pointer = i; leaves = sym (run.agrees.stay (w / 4)) ∙ s }

  room-fits : Leaves p w → moved mem w ≡ false → top_of mv (p.mature (w / 4)) + size p w ≤ p.high (p.mature (w / 4))
  room-fits l here =
      let o : StillFits p mem (p.mature (w / 4)) (top_of mv (p.mature (w / 4))) = run.holds.fits (p.mature (w / 4)) in
      let wo : Without p w o.each = without p w o.each (o.all w r l refl here) in
      omega (arith, o.words, wo.words)

  -- The room has a place for the object, apart from it.
  room-apart : Leaves p w → moved mem w ≡ false → (w / 4 + size p w ≤ top_of mv (p.mature (w / 4))) ⊎ (top_of mv (p.mature (w / 4)) + size p w ≤ w / 4)
  room-apart l here =
      let g : Ground p = ground p run.ready in
      let b : Bool = p.mature (w / 4) in
      let i : Invariant p mem (top_of mv) k = run.holds in
      let low : p.low (p.mature (w / 4)) ≤ top_of mv (p.mature (w / 4)) = omega (arith, i.begins (p.mature (w / 4)), i.inner (p.mature (w / 4)), i.outer (p.mature (w / 4))) in
      let some : 0 < size p w = size-some p w l.pointer in
      let fit : top_of mv (p.mature (w / 4)) + size p w ≤ p.high (p.mature (w / 4)) = room-fits l here in
      let t : ℕ = top_of mv (p.mature (w / 4)) in
      elim (g.clear w (w / 4) (p.mature (w / 4)) r l.pointer (record { from = omega arith; below = omega (arith, some) })) [
        | inr a ↦ inr (omega (arith, a, fit))
        | inl a ↦ inl (
            let cut : (w / 4 + size p w ≤ top_of mv (p.mature (w / 4))) ⊎ (top_of mv (p.mature (w / 4)) < w / 4 + size p w) = grind arith in
            elim cut [
              | inl z ↦ z
              | inr z ↦ absurd (elim (g.clear w (top_of mv (p.mature (w / 4))) (p.mature (w / 4)) r l.pointer (record { from = omega (arith, a, low); below = z })) [
                | inl y ↦ omega (arith, y, low)
                | inr y ↦ omega (arith, y, fit, some)
              ])
            ])
      ]

pub from-moves : (mem : List ℕ) (mv : Moving) (w : ℕ) → CanMove mem mv w → FromMoves mv
from-moves mem mv w c = λ q h. c.runs.agrees.stay q ∙ c.runs.agrees.moves q h

pub from-stays : (mv : Moving) (q : ℕ) → FromMoves mv → true ≡ in_span mv.from_space q → false ≡ stays mv.stay q
from-stays mv q f e = sym (f q (sym e))

-- What a caller that may move an object knows of it.
pub record Place (mem : List ℕ) (mv : Moving) (w : ℕ) : Type 0 where
  pub fits : top_of mv (in_span mv.mature (w / 4)) + object_words mem w ≤ length mem
  pub apart : (w / 4 + object_words mem w ≤ top_of mv (in_span mv.mature (w / 4))) ⊎ (top_of mv (in_span mv.mature (w / 4)) + object_words mem w ≤ w / 4)
  pub within : w / 4 + object_words mem w ≤ length mem

pub has-place : (mem : List ℕ) (mv : Moving) (w : ℕ) → CanMove mem mv w → IsPointer w → stays mv.stay (w / 4) ≡ false → moved mem w ≡ false → Place mem mv w
has-place mem mv w c i s here =
    let p : Plan = c.plan in
    let l : Leaves c.plan w = leaves c.plan mem mv c.marks w c.runs c.reached i s in
    let g : Ground c.plan = ground c.plan c.runs.ready in
    let n : object_words mem w ≡ size c.plan w = size-words c.plan mem w (header-same c.plan mem mv c.marks w c.runs c.reached l here) in
    let b : in_span mv.mature (w / 4) ≡ c.plan.mature (w / 4) = c.runs.agrees.mature (w / 4) in
    let fit : top_of mv (c.plan.mature (w / 4)) + size c.plan w ≤ c.plan.high (c.plan.mature (w / 4)) = room-fits c.plan mem mv c.marks w c.runs c.reached l here in
    let P : ℕ → Bool → Type 0 = λ z d. top_of mv d + z ≤ length mem in
    let Q : ℕ → Bool → Type 0 = λ z d. (w / 4 + z ≤ top_of mv d) ⊎ (top_of mv d + z ≤ w / 4) in
    let A : ℕ → Type 0 = λ z. P z (in_span mv.mature (w / 4)) in
    let B : Bool → Type 0 = λ d. P (size c.plan w) d in
    let C : ℕ → Type 0 = λ z. Q z (in_span mv.mature (w / 4)) in
    let D : Bool → Type 0 = λ d. Q (size c.plan w) d in
    record {
      fits = subst A (sym n) (subst B (sym b) (omega (arith, fit, g.ends (c.plan.mature (w / 4)), c.runs.holds.same_len)));
      apart = subst C (sym n) (subst D (sym b) (room-apart c.plan mem mv c.marks w c.runs c.reached l here));
      within = omega (arith, lies c.plan mem mv c.marks w c.runs c.reached i, n);
    }

pub cons-within : (mem : List ℕ) (mv : Moving) (w : ℕ) → CanMove mem mv w → w % 4 ≡ 1 → w / 4 + 2 ≤ length mem
cons-within mem mv w c tag = omega (arith, lies c.plan mem mv c.marks w c.runs c.reached (inl tag), size-cons c.plan w tag)

pub boxed-some : (mem : List ℕ) (mv : Moving) (w : ℕ) → CanMove mem mv w → w % 4 ≡ 2 → w / 4 < length mem
boxed-some mem mv w c tag = omega (arith, lies c.plan mem mv c.marks w c.runs c.reached (inr tag), size-some c.plan w (inr tag))

-- One of the two rooms, and what is told to the collection when it is another.
abbrev pub room_of : Moving → Bool → Room
room_of mv true = mv.aged
room_of mv false = mv.young

abbrev pub with_room : Moving → Bool → Room → Moving
with_room mv true room = record mv { aged = room }
with_room mv false room = record mv { young = room }

advances : (mv : Moving) (b : Bool) (room : Room) (n : ℕ) → room ≡ record (room_of mv b) { top = top_of mv b + n } → RoomGrows mv (with_room mv b room) b n
advances mv true room n e = record {
  stay = refl;
  from_space = refl;
  mature = refl;
  aged_low = ap (λ z. z.start) e;
  aged_high = ap (λ z. z.end) e;
  young_low = refl;
  young_high = refl;
  here = ap (λ z. z.top) e;
  there = λ b. elim b as (λ d. (d ≡ true → ⊥) → top_of (record mv { aged = room }) d ≡ top_of mv d) [ true ↦ λ ne. absurd (ne refl) | false ↦ λ ne. refl ];
}
advances mv false room n e = record {
  stay = refl;
  from_space = refl;
  mature = refl;
  aged_low = refl;
  aged_high = refl;
  young_low = ap (λ z. z.start) e;
  young_high = ap (λ z. z.end) e;
  here = ap (λ z. z.top) e;
  there = λ b. elim b as (λ d. (d ≡ false → ⊥) → top_of (record mv { young = room }) d ≡ top_of mv d) [ false ↦ λ ne. absurd (ne refl) | true ↦ λ ne. refl ];
}

-- The object went to that room.
copied-to : (mem mem2 : List ℕ) (mv : Moving) (b : Bool) (room : Room) (w x n : ℕ) → in_span mv.mature (w / 4) ≡ b → IsPointer w → stays mv.stay (w / 4) ≡ false → moved mem w ≡ false
    → n ≡ object_words mem w → Copies mem mem2 w (top_of mv b) n x → room ≡ record (room_of mv b) { top = top_of mv b + n } → Copied mem mem2 mv (with_room mv b room) w x
copied-to mem mem2 mv b room w x n mature i s here size c e =
    let A : ℕ → Type 0 = λ z. Copies mem mem2 w (top_of mv b) z x in
    let B : Bool → Type 0 = λ d. Copies mem mem2 w (top_of mv d) (object_words mem w) x in
    let C : ℕ → Type 0 = λ z. RoomGrows mv (with_room mv b room) b z in
    let D : Bool → Type 0 = λ d. RoomGrows mv (with_room mv b room) d (object_words mem w) in
    record { pointer = i; leaves = s; here = here; copies = subst B (sym mature) (subst A size c); grows = subst D (sym mature) (subst C size (advances mv b room n e)) }

pub later-same : (p : Plan) (mem : List ℕ) → Later p nowhere mem mem
later-same p mem = record { gone = λ v r l y. y; same = λ v r l y. refl; elsewhere = λ q past a b. refl }

pub later-then : (p : Plan) (s t : ℕ → Bool) (a b c : List ℕ) → Later p s a b → Later p t b c → Later p (either s t) a c
later-then p s t a b c g h = record {
  gone = λ v r l y. h.gone v r l (g.gone v r l y);
  same = λ v r l y. h.same v r l (g.gone v r l y) ∙ g.same v r l y;
  elsewhere = λ q past x y. let (first, second) = or_parts (s q) (t q) past in h.elsewhere q second x y ∙ g.elsewhere q first x y;
}

pub later-wider : (p : Plan) (s t : ℕ → Bool) (a b : List ℕ) → ((q : ℕ) → s q ≡ true → t q ≡ true) → Later p s a b → Later p t a b
later-wider p s t a b wide g = record {
  gone = g.gone;
  same = g.same;
  elsewhere = λ q past x y. g.elsewhere q (elim (cases_Bool (s q)) [ inl e ↦ absurd (not-both (t q) (wide q e) past) | inr e ↦ e ]) x y;
}

pub later-grows : (p : Plan) (s : ℕ → Bool) (a b : List ℕ) → Later p s a b → Grows p a b
later-grows p s a b g = record { gone = g.gone; same = g.same }

-- Nothing was written.
not-written : (p : Plan) (mem mem2 : List ℕ) (mv mv2 : Moving) (k : Marks) (w x : ℕ) → mem2 ≡ mem → mv2 ≡ mv → Runs p mem mv k → IsImage p mem w x → Evacuated p mem mem2 mv2 k w x
not-written p mem mem2 mv mv2 k w x e f run i =
    let A : List ℕ → Type 0 = λ z. Evacuated p mem z mv2 k w x in
    let B : Moving → Type 0 = λ z. Evacuated p mem mem z k w x in
    subst A (sym e) (subst B (sym f) (record { runs = run; later = later-same p mem; image = i }))

agrees-on : (p : Plan) (mv mv2 : Moving) (b : Bool) (n : ℕ) → RoomsAgree p mv → RoomGrows mv mv2 b n → RoomsAgree p mv2
agrees-on p mv mv2 b n a o = record {
  stay = λ q. ap (λ z. stays z q) o.stay ∙ a.stay q;
  moves = λ q h. a.moves q (sym (ap (λ z. in_span z q) o.from_space) ∙ h);
  mature = λ q. ap (λ z. in_span z q) o.mature ∙ a.mature q;
  aged_low = o.aged_low ∙ a.aged_low;
  aged_high = o.aged_high ∙ a.aged_high;
  young_low = o.young_low ∙ a.young_low;
  young_high = o.young_high ∙ a.young_high;
}

module _ (p : Plan) (mem mem2 : List ℕ) (mv mv2 : Moving) (k : Marks) (w x : ℕ) (run : Runs p mem mv k) (r : Reached p w) where
  -- An object that moved in this call.
  by-copy : Leaves p w → moved mem w ≡ false → Copies mem mem2 w (top_of mv (p.mature (w / 4))) (size p w) x → RoomGrows mv mv2 (p.mature (w / 4)) (size p w) → Evacuated p mem mem2 mv2 k w x
  by-copy l here c a =
      let g : Ground p = ground p run.ready in
      let fit : top_of mv (p.mature (w / 4)) + size p w ≤ p.high (p.mature (w / 4)) = room-fits p mem mv k w run r l here in
      let grows : Grows p mem mem2 = move-grows p g mem mem2 (top_of mv) (top_of mv2) k run.holds w x r l here c fit a.here a.there in
      record {
        runs = record {
          ready = run.ready;
          agrees = agrees-on p mv mv2 (p.mature (w / 4)) (size p w) run.agrees a;
          holds = move-keeps p g mem mem2 (top_of mv) (top_of mv2) k run.holds w x
              r l here c fit a.here a.there;
        };
        later = record {
          gone = grows.gone;
          same = grows.same;
          elsewhere = λ q past away hides. c.rest q (elim (away (p.mature (w / 4))) [
            | inl z ↦ inl (omega (arith, z, run.holds.begins (p.mature (w / 4)), run.holds.inner (p.mature (w / 4)), run.holds.outer (p.mature (w / 4))))
            | inr z ↦ inr (omega (arith, z, fit))
          ]) (hides w r l);
        };
        image = record { kept = λ n. absurd (n l); gone = λ y. (c.shown, sym c.found) };
      }

  pub evacuated : Went mem mem2 mv mv2 w x → Evacuated p mem mem2 mv2 k w x
  evacuated (inl o) =
      not-written p mem mem2 mv mv2 k w x o.mem_same o.mv_same run (record {
        kept = λ n. o.word;
        gone = λ l. absurd (not-both (p.stay (w / 4)) (sym (run.agrees.stay (w / 4)) ∙ o.stays l.pointer) l.leaves);
      })
  evacuated (inr (inl o)) =
      not-written p mem mem2 mv mv2 k w x o.mem_same o.mv_same run (record {
        kept = λ n. absurd (n (leaves p mem mv k w run r o.pointer o.leaves));
        gone = λ l. (o.gone, o.word);
      })
  evacuated (inr (inr o)) =
      let l : Leaves p w = leaves p mem mv k w run r o.pointer o.leaves in
      let n : object_words mem w ≡ size p w = size-words p mem w (header-same p mem mv k w run r l o.here) in
      let b : in_span mv.mature (w / 4) ≡ p.mature (w / 4) = run.agrees.mature (w / 4) in
      let A : ℕ → Type 0 = λ z. Copies mem mem2 w (top_of mv (in_span mv.mature (w / 4))) z x in
      let B : Bool → Type 0 = λ d. Copies mem mem2 w (top_of mv d) (size p w) x in
      let C : ℕ → Type 0 = λ z. RoomGrows mv mv2 (in_span mv.mature (w / 4)) z in
      let D : Bool → Type 0 = λ d. RoomGrows mv mv2 d (size p w) in
      by-copy l o.here (subst B b (subst A n o.copies)) (subst D b (subst C n o.grows))

cons-here : (mem : List ℕ) (w head : ℕ) → w % 4 ≡ 1 → head ≡ get_or mem (w / 4) 0 → (head ≡ 0 → ⊥) → moved mem w ≡ false
cons-here mem w head tag e ne = moved-cons mem w tag ∙ (let z : get_or mem (w / 4) 0 ≡ 0 → ⊥ = λ y. ne (e ∙ y) in grind (arith, nat_tests))

boxed-here : (mem : List ℕ) (w header : ℕ) → w % 4 ≡ 2 → header ≡ get_or mem (w / 4) 0 → (header % 4 ≡ 2 → ⊥) → moved mem w ≡ false
boxed-here mem w header tag e ne = moved-boxed mem w tag ∙ (let z : get_or mem (w / 4) 0 % 4 ≡ 2 → ⊥ = λ y. ne (ap (λ x. x % 4) e ∙ y) in grind (arith, nat_tests))

-- The place of an object of n words in the room where it goes.
pub record Spot (mem : List ℕ) (mv : Moving) (w n : ℕ) (b : Bool) : Type 0 where
  pub fits : top_of mv b + n ≤ length mem
  pub apart : (w / 4 + n ≤ top_of mv b) ⊎ (top_of mv b + n ≤ w / 4)
  pub within : w / 4 + n ≤ length mem

spot : (mem : List ℕ) (mv : Moving) (w n : ℕ) (b : Bool) → CanMove mem mv w → IsPointer w → stays mv.stay (w / 4) ≡ false → moved mem w ≡ false → object_words mem w ≡ n → in_span mv.mature
    (w / 4) ≡ b → Spot mem mv w n b
spot mem mv w n b c i s here words e =
    let o : Place mem mv w = has-place mem mv w c i s here in
    let A : ℕ → Type 0 = λ z. Spot mem mv w z b in
    let B : Bool → Type 0 = λ z. Spot mem mv w (object_words mem w) z in
    subst A words (subst B e (record { fits = o.fits; apart = o.apart; within = o.within }))

pub is-fresh : (mem : List ℕ) (mv : Moving) (w head tail : ℕ) → w % 4 ≡ 1 → false ≡ stays mv.stay (w / 4) → head ≡ get_or mem (w / 4) 0 → (head ≡ 0 → ⊥) → tail ≡ get_or mem (w / 4 + 1) 0 →
    IsFresh mem mv w head tail
is-fresh mem mv w head tail tag s h ne t = record { tag = tag; leaves = sym s; head_is = h; tail_is = t; here = ne }

pub fresh-here : (mem : List ℕ) (mv : Moving) (w head tail : ℕ) → IsFresh mem mv w head tail → moved mem w ≡ false
fresh-here mem mv w head tail f = cons-here mem w head f.tag f.head_is f.here

pub cons-spot : (mem : List ℕ) (mv : Moving) (w head tail : ℕ) (b : Bool) → CanMove mem mv w → IsFresh mem mv w head tail → b ≡ in_span mv.mature (w / 4) → Spot mem mv w 2 b
cons-spot mem mv w head tail b c f m = spot mem mv w 2 b c (inl f.tag) f.leaves (fresh-here mem mv w head tail f) (words-cons mem w f.tag) (sym m)

pub boxed-spot : (mem : List ℕ) (mv : Moving) (w header : ℕ) (b : Bool) → CanMove mem mv w → w % 4 ≡ 2 → false ≡ stays mv.stay (w / 4) → header ≡ get_or mem (w / 4) 0 →
    (header % 4 ≡ 2 → ⊥) → b ≡ in_span mv.mature (w / 4) → Spot mem mv w (1 + header / 64) b
boxed-spot mem mv w header b c tag s e ne m =
    spot mem mv w (1 + header / 64) b c (inr tag) (sym s) (boxed-here mem w header tag e ne) (words-header mem w tag ∙ ap (λ z. 1 + z / 64) (sym e)) (sym m)

pub cons-found : (mem : List ℕ) (mv : Moving) (w head tail : ℕ) → w % 4 ≡ 1 → false ≡ stays mv.stay (w / 4) → head ≡ get_or mem (w / 4) 0 → head ≡ 0 → tail ≡ get_or mem (w / 4 + 1) 0 →
    Went mem mem mv mv w tail
cons-found mem mv w head tail tag s e z t =
    let zero_there : get_or mem (w / 4) 0 ≡ 0 = sym e ∙ z in
    inr (inl (record { word = t ∙ sym (forward-cons mem w tag); mem_same = refl; mv_same = refl; pointer = inl tag; leaves = sym s; gone = moved-cons mem w tag ∙ (rw zero_there refl) }))

pub boxed-found : (mem : List ℕ) (mv : Moving) (w header : ℕ) → w % 4 ≡ 2 → false ≡ stays mv.stay (w / 4) → header ≡ get_or mem (w / 4) 0 → header % 4 ≡ 2 → Went mem mem mv mv w header
boxed-found mem mv w header tag s e z =
    let two : get_or mem (w / 4) 0 % 4 ≡ 2 = ap (λ x. x % 4) (sym e) ∙ z in
    inr (inl (record { word = e ∙ sym (forward-boxed mem w tag); mem_same = refl; mv_same = refl; pointer = inr tag; leaves = sym s; gone = moved-boxed mem w tag ∙ (rw two refl) }))

pub cons-to : (mem mem2 : List ℕ) (mv : Moving) (b : Bool) (room : Room) (w head tail x : ℕ) → IsFresh mem mv w head tail → b ≡ in_span mv.mature (w / 4)
    → Copies mem mem2 w (top_of mv b) 2 x → room ≡ record (room_of mv b) { top = top_of mv b + 2 } → Copied mem mem2 mv (with_room mv b room) w x
cons-to mem mem2 mv b room w head tail x f m c r = copied-to mem mem2 mv b room w x 2 (sym m) (inl f.tag) f.leaves (fresh-here mem mv w head tail f) (sym (words-cons mem w f.tag)) c r

pub boxed-to : (mem mem2 : List ℕ) (mv : Moving) (b : Bool) (room : Room) (w header x : ℕ) → w % 4 ≡ 2 → false ≡ stays mv.stay (w / 4) → header ≡ get_or mem (w / 4) 0 → (header % 4 ≡ 2 → ⊥)
    → b ≡ in_span mv.mature (w / 4) → Copies mem mem2 w (top_of mv b) (1 + header / 64) x → room ≡ record (room_of mv b) { top = top_of mv b + (1 + header / 64) }
    → Went mem mem2 mv (with_room mv b room) w x
boxed-to mem mem2 mv b room w header x tag s e ne m c r =
    inr (inr (copied-to mem mem2 mv b room w x (1 + header / 64) (sym m) (inr tag) (sym s) (boxed-here mem w header tag e ne) (sym (words-header mem w tag ∙ ap (λ z. 1 + z / 64) (sym e))) c r))

-- A word from the mark `scanned` on is that of a part of the object there.
pub raw-at : (p : Plan) (mem : List ℕ) (mv : Moving) (k : Marks) (b : Bool) (at : ℕ) → Runs p mem mv k → scanned_at k b ≤ at → (v from : ℕ) → IsCopy p mem b v from → from ≤ at → at < from + size p v
    → get_or mem at 0 ≡ get_or p.start (v / 4 + (at - from)) 0
raw-at p mem mv k b at run s v from c low below =
    let G : Gone p mem (top_of mv) (scanned_at k) v (forward mem v) = run.holds.gone v c.reached c.leaves c.gone in
    let home : forward mem v / 4 ≡ from = omega (arith, c.word, c.leaves.pointer) in
    let P : Bool → Type 0 = λ x. scanned_at k x ≤ at in
    let done : scanned_at k (p.mature (v / 4)) ≤ at = subst P (sym c.goes) (omega arith) in
    G.raw (at - from) at (omega arith) (omega arith) (inl done)

pub reached-there : (p : Plan) (mem : List ℕ) (mv : Moving) (k : Marks) (b : Bool) (at : ℕ) → Runs p mem mv k → scanned_at k b ≡ at → IsTracedPlace p mem k b at → Reached p (get_or mem at 0)
reached-there p mem mv k b at run s o =
    let low : o.from ≤ at = omega (arith, o.traced) in
    let below : at < o.from + size p o.v = omega (arith, o.below, o.ends) in
    let P : ℕ → Type 0 = λ x. Reached p x in
    subst P (sym (raw-at p mem mv k b at run (omega (arith, s)) o.v o.from o.copy low below))
    (reach-part p o.v (at - o.from) o.copy.reached o.copy.leaves.pointer (omega (arith, o.traced)) (omega arith))

pub step-moves : (mem : List ℕ) (mv : Moving) (b : Bool) (at w : ℕ) → CanStep mem mv b at → w ≡ get_or mem at 0 → CanMove mem mv w
step-moves mem mv b at w c e = record {
  plan = c.plan;
  marks = c.marks;
  runs = c.runs;
  reached = let P : ℕ → Type 0 = λ z. Reached c.plan z in subst P (sym e)
      (reached-there c.plan mem mv c.marks b at c.runs c.scanned c.part);
}

-- A place in a room that is not scanned lies in the memory.
pub step-within : (mem : List ℕ) (mv : Moving) (b : Bool) (at : ℕ) → CanStep mem mv b at → at < length mem
step-within mem mv b at c =
    let g : Ground c.plan = ground c.plan c.runs.ready in
    omega (arith, c.part.below, c.runs.holds.outer b, c.runs.holds.ends b, g.ends b, c.runs.holds.same_len)

module _ (p : Plan) (mem mem2 : List ℕ) (mv mv2 : Moving) (k : Marks) (b : Bool) (at x : ℕ) (run : Runs p mem mv k) (s : scanned_at k b ≡ at) (o : IsTracedPlace p mem k b at)
    (ev : Evacuated p mem mem2 mv2 k (get_or mem at 0) x) where
  part-on : IsTracedPlace p mem2 k b at
  part-on = record { v = o.v; from = o.from; copy = copy-later p mem mem2 b o.v o.from (later-grows p nowhere mem mem2 ev.later) o.copy; ends = o.ends; traced = o.traced; below = o.below }

  word-on : get_or mem2 at 0 ≡ get_or mem at 0
  word-on =
      let low : o.from ≤ at = omega (arith, o.traced) in
      let below : at < o.from + size p o.v = omega (arith, o.below, o.ends) in
      raw-at p mem2 mv2 k b at ev.runs (omega (arith, s)) o.v o.from (copy-later p mem mem2 b o.v o.from (later-grows p nowhere mem mem2 ev.later) o.copy) low below ∙ sym
      (raw-at p mem mv k b at run (omega (arith, s)) o.v o.from o.copy low below)

  image-on : IsImage p mem2 (get_or mem2 at 0) x
  image-on = let P : ℕ → Type 0 = λ z. IsImage p mem2 z x in subst P (sym word-on) ev.image

  pub stepped : (mem3 : List ℕ) → mem3 ≡ set mem2 at x → RunsOn p mem mem3 mv2 (mark k b (at + 1) (object_at k b))
  stepped mem3 e =
      let g : Ground p = ground p run.ready in
      let grows : Grows p mem2 (set mem2 at x) = write-grows p g mem2 (top_of mv2) k ev.runs.holds b at x s part-on image-on in
      let in-room : (p.low b ≤ at) × (at < p.high b) = (omega (arith, run.holds.begins b, s), omega (arith, o.below, run.holds.outer b, run.holds.ends b)) in
      let P : List ℕ → Type 0 = λ z. RunsOn p mem z mv2 (mark k b (at + 1) (object_at k b)) in
      subst P (sym e) (record {
        runs = record { ready = run.ready; agrees = ev.runs.agrees; holds = write-keeps p g mem2 (top_of mv2) k ev.runs.holds b at x s part-on image-on };
        later = later-then p nowhere nowhere mem mem2 (set mem2 at x) ev.later (record {
          gone = grows.gone;
          same = grows.same;
          elsewhere = λ q past away hides. get_or-set_other mem2 at q x 0 (λ y. elim (away b) [ inl z ↦ omega (arith, z, in-room, y) | inr z ↦ omega (arith, z, in-room, y) ]);
        });
      })

  pub step-part : (mem3 : List ℕ) → mem3 ≡ set mem2 at x → at + 1 < object_at k b → IsTracedPlace p mem3 (mark k b (at + 1) (object_at k b)) b (at + 1)
  step-part mem3 e more =
      let g : Ground p = ground p run.ready in
      let P : List ℕ → Type 0 = λ z. IsTracedPlace p z (mark k b (at + 1) (object_at k b)) b (at + 1) in
      subst P (sym e) (write-part p g mem2 (top_of mv2) k ev.runs.holds b at x s part-on image-on more)

-- A place in a room that is not scanned lies in the memory after the move too.
pub step-after : (mem mem2 : List ℕ) (mv mv2 : Moving) (b : Bool) (at x : ℕ) (c : CanStep mem mv b at) → Evacuated c.plan mem mem2 mv2 c.marks (get_or mem at 0) x → at < length mem2
step-after mem mem2 mv mv2 b at x c ev = omega (arith, step-within mem mv b at c, c.runs.holds.same_len, ev.runs.holds.same_len)

-- The object at a place of a room is opened, and its words are gone through one by one.
pub record Going (p : Plan) (mem mem2 : List ℕ) (mv2 : Moving) (k : Marks) (b : Bool) (at end : ℕ) : Type 0 where
  pub on : RunsOn p mem mem2 mv2 (mark k b at end)
  pub part : at < end → IsTracedPlace p mem2 (mark k b at end) b at
  pub within : at ≤ end

shape-first : (p : Plan) (mem : List ℕ) (v place from words : ℕ) → Ground p → Reached p v → IsPointer v → get_or mem place 0 ≡ get_or p.start (v / 4) 0 → Shape (get_or mem place 0) from
    words → (from ≡ first p v) × (words ≡ size p v)
shape-first p mem v place from words g r (inl tag) e sh =
    let ne : get_or mem place 0 % 4 ≡ 0 → ⊥ = λ z. g.head v r tag (ap (λ x. x % 4) (sym e) ∙ z) in
    ((sh.cons ne).0 ∙ sym (first-cons p v tag), (sh.cons ne).1 ∙ sym (size-cons p v tag))
shape-first p mem v place from words g r (inr tag) e sh =
    let h : get_or mem place 0 % 4 ≡ 0 = ap (λ x. x % 4) e ∙ g.header v r tag in
    let (l, is) = g.layout v r tag in
    let (f, n) = sh.boxed h l (ap layout_for e ∙ is) in
    let there : first_of (layout_for (get_or p.start (v / 4) 0)) (1 + get_or p.start (v / 4) 0 / 64) ≡ l.first = ap (λ z. first_of z (1 + get_or p.start (v / 4) 0 / 64)) is in
    (f ∙ sym there ∙ sym (first-boxed p v tag), n ∙ ap (λ x. 1 + x / 64) e ∙ sym (size-boxed p v tag))

pub record Opened (p : Plan) (mem : List ℕ) (mv : Moving) (k : Marks) (b : Bool) (place from words : ℕ) : Type 0 where
  pub going : Going p mem mem mv k b (place + from) (place + words)
  pub inside : place + words ≤ length mem
  pub small : from ≤ words

pub opened-there : (p : Plan) (mem : List ℕ) (mv : Moving) (k : Marks) (b : Bool) (place from words : ℕ) → Runs p mem mv k → scanned_at k b ≡ place → object_at k b ≡ place → place < top_of
    mv b → Shape (get_or mem place 0) from words
    → Opened p mem mv k b place from words
opened-there p mem mv k b place from words run s o less sh =
    let g : Ground p = ground p run.ready in
    let op : Opens p mem (top_of mv) k b place = opens p g mem (top_of mv) k run.holds b place s o less in
    let (f, n) = shape-first p mem op.v place from words g op.copy.reached op.copy.leaves.pointer op.head sh in
    let small : first p op.v ≤ size p op.v = g.within op.v op.copy.reached op.copy.leaves.pointer in
    let A : ℕ → Type 0 = λ z. Opened p mem mv k b place z words in
    let B : ℕ → Type 0 = λ z. Opened p mem mv k b place (first p op.v) z in
    subst A (sym f) (subst B (sym n) (record {
      going = record {
        on = record { runs = record { ready = run.ready; agrees = run.agrees; holds = op.state }; later = later-same p mem };
        part = λ more. record {
          v = op.v;
          from = place;
          copy = op.copy;
          ends = sym (object-here k b (place + first p op.v) (place + size p op.v));
          traced = omega arith;
          below = omega (arith, more, object-here k b (place + first p op.v) (place + size p op.v));
        };
        within = omega arith;
      };
      inside = omega (arith, op.inside, run.holds.ends b, g.ends b, run.holds.same_len);
      small = small;
    }))

-- One word further.
pub going-on : (p : Plan) (mem mem2 mem3 : List ℕ) (mv2 mv3 : Moving) (k : Marks) (b : Bool) (at end : ℕ) → Going p mem mem2 mv2 k b at end → at < end
    → (IsTracedPlace p mem2 (mark k b at end) b at → RunsOn p mem2 mem3 mv3 (mark (mark k b at end) b (at + 1) (object_at (mark k b at end) b)))
    → (IsTracedPlace p mem2 (mark k b at end) b at → at + 1 < object_at (mark k b at end) b → IsTracedPlace p mem3 (mark (mark k b at end) b (at + 1) (object_at (mark k b at end) b)) b (at + 1))
    → Going p mem mem3 mv3 k b (at + 1) end
going-on p mem mem2 mem3 mv2 mv3 k b at end go less on part =
    let ob : object_at (mark k b at end) b ≡ end = object-here k b at end in
    let marks : mark (mark k b at end) b (at + 1) (object_at (mark k b at end) b) ≡ mark k b (at + 1) end = ap (λ z. mark (mark k b at end) b (at + 1) z) ob ∙ mark-twice k b at end (at + 1) end in
    let A : Marks → Type 0 = λ z. RunsOn p mem2 mem3 mv3 z in
    let B : Marks → Type 0 = λ z. IsTracedPlace p mem3 z b (at + 1) in
    let r : RunsOn p mem2 mem3 mv3 (mark k b (at + 1) end) = subst A marks (on (go.part less)) in
    record {
      on = record { runs = r.runs; later = later-then p nowhere nowhere mem mem2 mem3 go.on.later r.later };
      part = λ more. subst B marks (part (go.part less) (omega (arith, more, ob)));
      within = omega arith;
    }

-- The word that the loop is at can be stepped over.
pub going-step : (p : Plan) (mem mem2 : List ℕ) (mv2 : Moving) (k : Marks) (b : Bool) (at end : ℕ) → Going p mem mem2 mv2 k b at end → at < end → CanStep mem2 mv2 b at
going-step p mem mem2 mv2 k b at end go less = record { plan = p; marks = mark k b at end; runs = go.on.runs; scanned = scanned-here k b at end; part = go.part less }

-- At its end the object is done.
pub gone-through : (p : Plan) (mem mem2 : List ℕ) (mv2 : Moving) (k : Marks) (b : Bool) (at end : ℕ) → Going p mem mem2 mv2 k b at end → end ≤ at → RunsOn p mem mem2 mv2 (mark k b end end)
gone-through p mem mem2 mv2 k b at end go over =
    let e : at ≡ end = omega (arith, go.within) in
    let A : ℕ → Type 0 = λ z. RunsOn p mem mem2 mv2 (mark k b z end) in
    subst A e go.on

-- The rooms end where they did.
pub same-ends : (p : Plan) (mem mem2 : List ℕ) (mv mv2 : Moving) (k l : Marks) → Runs p mem mv k → Runs p mem2 mv2 l → (mv2.aged.end ≡ mv.aged.end) × (mv2.young.end ≡ mv.young.end)
same-ends p mem mem2 mv mv2 k l a b = (b.agrees.aged_high ∙ sym a.agrees.aged_high, b.agrees.young_high ∙ sym a.agrees.young_high)

-- The loop of scanning, one object further.
pub went-there : (p : Plan) (mem mem2 : List ℕ) (mv mv2 : Moving) (k : Marks) (b : Bool) (at w x : ℕ) → w ≡ get_or mem at 0 →
    ((q : Plan) (l : Marks) → Runs q mem mv l → Reached q w → Evacuated q mem mem2 mv2 l w x)
    → Runs p mem mv k → scanned_at k b ≡ at → IsTracedPlace p mem k b at → Evacuated p mem mem2 mv2 k (get_or mem at 0) x
went-there p mem mem2 mv mv2 k b at w x e ev run s o =
    let P : ℕ → Type 0 = λ z. Evacuated p mem mem2 mv2 k z x in
    let Q : ℕ → Type 0 = λ z. Reached p z in
    subst P e (ev p k run (subst Q (sym e) (reached-there p mem mv k b at run s o)))

pub aged-on : (p : Plan) (mem mem2 mem3 : List ℕ) (mv2 mv3 : Moving) (aged young next : ℕ) → RunsOn p mem mem2 mv2 (at_objects aged young) → RunsOn p mem2 mem3 mv3
    (mark (at_objects aged young) true next next) → RunsOn p mem mem3 mv3 (at_objects next young)
aged-on p mem mem2 mem3 mv2 mv3 aged young next a b = record { runs = b.runs; later = later-then p nowhere nowhere mem mem2 mem3 a.later b.later }

pub young-on : (p : Plan) (mem mem2 mem3 : List ℕ) (mv2 mv3 : Moving) (aged young next : ℕ) → RunsOn p mem mem2 mv2 (at_objects aged young) → RunsOn p mem2 mem3 mv3
    (mark (at_objects aged young) false next next) → RunsOn p mem mem3 mv3 (at_objects aged next)
young-on p mem mem2 mem3 mv2 mv3 aged young next a b = record { runs = b.runs; later = later-then p nowhere nowhere mem mem2 mem3 a.later b.later }

pub can-open-aged : (p : Plan) (mem mem2 : List ℕ) (mv : Moving) (aged young : ℕ) → RunsOn p mem mem2 mv (at_objects aged young) → aged < mv.aged.top → CanOpen mem2 mv true aged
can-open-aged p mem mem2 mv aged young a less = record { plan = p; marks = at_objects aged young; runs = a.runs; scanned = refl; object = refl; below = less }

pub can-open-young : (p : Plan) (mem mem2 : List ℕ) (mv : Moving) (aged young : ℕ) → RunsOn p mem mem2 mv (at_objects aged young) → young < mv.young.top → CanOpen mem2 mv false young
can-open-young p mem mem2 mv aged young a less = record { plan = p; marks = at_objects aged young; runs = a.runs; scanned = refl; object = refl; below = less }

pub all-scanned : (p : Plan) (mem mem2 : List ℕ) (mv : Moving) (aged young : ℕ) → RunsOn p mem mem2 mv (at_objects aged young) → mv.aged.top ≤ aged → mv.young.top ≤ young → RunsOn p mem
    mem2 mv (at_objects mv.aged.top mv.young.top)
all-scanned p mem mem2 mv aged young a x y =
    let e : aged ≡ mv.aged.top = omega (arith, a.runs.holds.outer true) in
    let f : young ≡ mv.young.top = omega (arith, a.runs.holds.outer false) in
    let P : ℕ → Type 0 = λ z. RunsOn p mem mem2 mv (at_objects z young) in
    let Q : ℕ → Type 0 = λ z. RunsOn p mem mem2 mv (at_objects mv.aged.top z) in
    subst Q f (subst P e a)

-- Each room ends at or after its first free place.
pub tops-within : (p : Plan) (mem mem2 : List ℕ) (mv : Moving) (k : Marks) → RunsOn p mem mem2 mv k → (mv.aged.top ≤ mv.aged.end) × (mv.young.top ≤ mv.young.end)
tops-within p mem mem2 mv k a = (omega (arith, a.runs.holds.ends true, a.runs.agrees.aged_high), omega (arith, a.runs.holds.ends false, a.runs.agrees.young_high))
