-- A collection from the one half to the other: its chain is swept, and the records that are named still are moved.
use Rattle.std.proofs.Common.{◌≡◌, ℕ, ◌+◌, ◌-◌, ◌*◌, ◌/◌, ◌<◌, ◌≤◌, ◌⊎◌, ◌&&◌, Bool, true, false, nat_le}
use Rattle.std.proofs.Common.{nat_lt, List, [], ◌∷◌, length, refl, sym, ◌∙◌, ap, subst, arith, inl, inr, if◌then◌else◌}
use Rattle.std.proofs.lemmas.Bool.{and_parts, and_from}
use Rattle.std.proofs.lemmas.Bool.Decides.{nat_tests}
use Rattle.term_words.specs.Role.{NEXT, OfObject, OfRecord}
use Rattle.term_words.specs.Object.{IsRecord}
use Rattle.term_words.specs.Counted.{In, total}
use Rattle.plain_term.specs.Bytes.{shared_bytes}
use Rattle.plain_term.specs.Measures.{bin_words}
use Rattle.term_words.proofs.Totals.Members.{in-both}
use Rattle.term_words.proofs.Reaching.Reached.{reached}
use Rattle.shared_rec.specs.Record.{owner_in}
use Rattle.off_heap_list.specs.Links.{named, IsLink}
use Rattle.off_heap_list.specs.Swept.{is_moved, new_place, Sweeping}
use Rattle.off_heap_list.specs.Whole.{moved_of, turned, SweptWhole, CanSweep}
use Rattle.off_heap_list.specs.declared.whole.Survivors.{Survivors}
use Rattle.record_move.specs.Copies.{record_words, RecordsCanMove, AllRecordsCanMove}
use Rattle.cheney.specs.declared.moving.Moving.{Moving}
use Rattle.cheney.specs.Plan.{Plan, Ready, Reached, Leaves as PlanLeaves, size}
use Rattle.cheney.specs.Moved.{forward}
use Rattle.cheney.specs.Rooms.{top_of}
use Rattle.cheney.specs.Collected.{Collected, IsMoved}
use Rattle.cheney.specs.Next.{HasRoles, IsCarried, Remains}
use Rattle.cheney.proofs.Before.Basics.{not-both}
use Rattle.cheney.proofs.After.Next.{has-roles}
use Rattle.record_move.specs.Follows.{RecordsHaveRoom, Sweepable}
use Rattle.record_move.proofs.Leaving.{carried-role, leaves-sweep, left-not, moved-is, place-is, size6, which}
use Rattle.record_move.proofs.Room.{Origin, can-move, origin}
use Rattle.object_rows.proofs.Rows.{in-turned as turned-in}
use Rattle.record_tables.specs.Listed.{IsFunOf}
use Rattle.two_halves.specs.Halves.{Standing, end_of, front_of, records_of}
use Rattle.two_halves.specs.declared.halves.Halves.{Halves}
use Rattle.two_halves.specs.declared.table.Proc.{Proc}
use Rattle.record_tables.proofs.Counting.{IsCounting, counting}
use Rattle.two_halves.proofs.Collected.Ended.{Scanned, aged-between, objects-few, sides-there, top-between, whole}
use Rattle.two_halves.proofs.Collected.Planned.{Target, plan_of, role-here}

-- Lists that are turned round.
in-turned : (q : ℕ) (xs ys : List ℕ) → In q xs ⊎ In q ys → In q (turned xs ys)
in-turned q [] ys (inl i) = absurd i
in-turned q [] ys (inr i) = i
in-turned q (x ∷ xs) ys (inl (inl e)) = in-turned q xs (x ∷ ys) (inr (inl e))
in-turned q (x ∷ xs) ys (inl (inr i)) = in-turned q xs (x ∷ ys) (inl i)
in-turned q (x ∷ xs) ys (inr i) = in-turned q xs (x ∷ ys) (inr (inr i))

-- What a list of objects keeps of those that were moved.
moved-there : (m : List ℕ) (o p : ℕ) (os : List ℕ) (b : Bool) → In (new_place m o) (moved_of m os) → In (new_place m o) (if b then new_place m p ∷ moved_of m os else moved_of m os)
moved-there m o p os true i = inr i
moved-there m o p os false i = i

moved-here : (m : List ℕ) (p : ℕ) (os : List ℕ) (b : Bool) → b ≡ true → In (new_place m p) (if b then new_place m p ∷ moved_of m os else moved_of m os)
moved-here m p os true e = inl refl
moved-here m p os false e = absurd (not-both false e refl)

moved-in : (m : List ℕ) (o : ℕ) (os : List ℕ) → In o os → is_moved m o ≡ true → In (new_place m o) (moved_of m os)
moved-in m o [] i e = absurd i
moved-in m o (p ∷ os) (inl same) e =
    let P : ℕ → Type 0 = λ z. In (new_place m z) (moved_of m (p ∷ os)) in
    let Q : ℕ → Type 0 = λ z. is_moved m z ≡ true in
    subst P (sym same) (moved-here m p os (is_moved m p) (subst Q same e))
moved-in m o (p ∷ os) (inr i) e = moved-there m o p os (is_moved m p) (moved-in m o os i e)

-- The words of records keep their roles over the collection of the objects.
abbrev pub remaining : (low : ℕ) → (c : ℕ → ℕ → Bool) → ℕ → ℕ → Bool
remaining low c a k = nat_le low a && c a k

remaining-is : (low : ℕ) (c : ℕ → ℕ → Bool) (a k : ℕ) → remaining low c a k ≡ true → (low ≤ a) × (c a k ≡ true)
remaining-is low c a k e = let (this, rest) = and_parts (nat_le low a) (c a k) e in (grind (arith, nat_tests, this), rest)

is-remaining : (low : ℕ) (c : ℕ → ℕ → Bool) (a k : ℕ) → low ≤ a → c a k ≡ true → remaining low c a k ≡ true
is-remaining low c a k far e = let this : nat_le low a ≡ true = grind (arith, nat_tests, far) in and_from (nat_le low a) (c a k) this e

-- The words from one place up to another.
abbrev pub between : (from to : ℕ) → ℕ → ℕ → Bool
between from to a k = nat_le from a && nat_lt a to

pub is-between : (from to a k : ℕ) → from ≤ a → a < to → between from to a k ≡ true
is-between from to a k above below = grind (arith, nat_tests, above, below)

pub between-is : (from to a k : ℕ) → between from to a k ≡ true → (from ≤ a) × (a < to)
between-is from to a k e = let (this, rest) = and_parts (nat_le from a) (nat_lt a to) e in (grind (arith, nat_tests, this), grind (arith, nat_tests, rest))

module _ (h : Halves) (t : Target) (x : Standing h) (m : List ℕ) (mv : Moving) (news : List Proc) (y : Scanned h t x m mv news) where
  abbrev pub the_plan : Plan
  the_plan = plan_of h x t

  done : Collected (plan_of h x t) m (top_of mv)
  done = whole h t x m mv news y

  ready : Ready (plan_of h x t)
  ready = y.runs.ready

  abbrev pub stay_roles : ℕ → ℕ → Bool
  stay_roles = remaining h.room.end x.stands.test

  in-record : (a k : ℕ) → OfRecord k → x.stands.test a k ≡ true → h.room.end ≤ a
  in-record a k of e = elim (x.stands.lie a k e) [ inl object ↦ absurd (omega (arith, of, object.1.1)) | inr there ↦ there.0 ]

  past-record : (a k : ℕ) → 6 ≤ k → x.stands.test a k ≡ true → h.room.end ≤ a
  past-record a k of e = elim (x.stands.lie a k e) [ inl object ↦ absurd (omega (arith, of, object.1.1)) | inr there ↦ there.0 ]

  remains : Remains (plan_of h x t) (remaining h.room.end x.stands.test)
  remains = record {
    stays = λ v q k r i e. absurd (not-both false e refl);
    counts = λ a e. is-remaining h.room.end x.stands.test a 2 (in-record a 2 (inl refl) e) e;
    records = λ a k big e. is-remaining h.room.end x.stands.test a k (past-record a k big e) e;
  }

  pub roles : HasRoles (plan_of h x t) m (remaining h.room.end x.stands.test)
  roles = has-roles (plan_of h x t) ready m (top_of mv) done (remaining h.room.end x.stands.test) remains

  base-above : 0 < t.from
  base-above = omega (arith, y.target.first)

  sweepable : Sweepable (plan_of h x t) (remaining h.room.end x.stands.test) x.stands.chained []
  sweepable = record {
    left = λ o a k inside from below e. omega (arith, x.stands.inside o inside, below, y.laid.order, (remaining-is h.room.end x.stands.test a k e).0);
    kept = λ o a k inside from below e. absurd inside;
    still = λ o inside r. absurd inside;
    rooms = λ b. base-above;
  }

  pub sweeping : Sweeping roles.test m h.head x.stands.chained 0 [] 0 [] []
  sweeping = leaves-sweep (plan_of h x t) m (top_of mv) (remaining h.room.end x.stands.test) roles h.head x.stands.chained [] ready done remains sweepable x.stands.links

  pub can-sweep : CanSweep m h.head h.linked
  can-sweep = record { test = roles.test; single = roles.single; os = x.stands.chained; further = []; number = x.stands.linked; begins = sweeping }

  -- A word that was carried lies in the new half, below the free words, and is an object's.
  carried-there : (a k : ℕ) → IsCarried (plan_of h x t) m a k → (t.from ≤ a) × ((a < mv.young.top) × OfObject k)
  carried-there a k c =
      let copy : IsMoved (plan_of h x t) m (top_of mv) c.v (forward m c.v) = done.copies c.v c.reached c.leaves in
      (omega (arith, c.place, copy.from), (omega (arith, c.place, copy.below, c.below), carried-role (plan_of h x t) ready m (top_of mv) done (remaining h.room.end x.stands.test) roles a k c))

  pub apart-halves : (q : ℕ) → front_of h ≤ q → q < end_of h → t.base ≤ q → q < t.end → ⊥
  apart-halves q a b c d = elim (sides-there h t x m mv news y).apart [ inl e ↦ omega (arith, e, b, c) | inr e ↦ omega (arith, e, a, d) ]

  -- By the roles after the collection: words of objects in the new half, words of records in the old one.
  pub role-there : (a k : ℕ) → roles.test a k ≡ true → ((t.from ≤ a) × ((a < mv.young.top) × OfObject k)) ⊎ ((h.room.end ≤ a) × ((a < end_of h) × OfRecord k))
  role-there a k e = elim (roles.comes a k e) [
    | inl c ↦ inl (carried-there a k c)
    | inr both_tests ↦ (
        let (far, also) = remaining-is h.room.end x.stands.test a k both_tests.1 in
        elim (x.stands.lie a k also) [ inl object ↦ absurd (omega (arith, far, object.1.0, y.laid.order)) | inr there ↦ inr there ]
        )
  ]

  pub bare-there : (q k : ℕ) → t.to ≤ q → q < t.end → roles.test q k ≡ true → ⊥
  bare-there q k above below e = elim (role-there q k e) [
    | inl object ↦ omega (arith, object.1.0, above, (top-between h t x m mv news y).1)
    | inr there ↦
        apart-halves q (omega (arith, there.0, y.laid.front, y.laid.order)) there.1.0 (omega (arith, above, (sides-there h t x m mv news y).order, y.target.first)) below
  ]

  -- The objects of the new chain are those of the old one that were reached, at their new places.
  pub record IsNew (q : ℕ) : Type 0 where
    pub o : ℕ
    pub inside : In o x.stands.chained
    pub reached : Reached (plan_of h x t) (o * 4 + 2)
    pub leaves : PlanLeaves (plan_of h x t) (o * 4 + 2)
    pub place : q ≡ forward m (o * 4 + 2) / 4

  new-of : (q : ℕ) → Origin m x.stands.chained q → IsNew q
  new-of q g =
      let l : IsLink (plan_of h x t).test h.mem g.o = x.stands.links.each g.o g.inside in
      elim (which (plan_of h x t) ready m (top_of mv) done (remaining h.room.end x.stands.test) roles g.o l) [
        | inl (same, no_more) ↦ absurd (not-both (is_moved m g.o) g.moved (left-not (plan_of h x t) ready m (top_of mv) done (remaining h.room.end x.stands.test) roles g.o l same))
        | inr (re, (le, gone)) ↦ record {
          o = g.o;
          inside = g.inside;
          reached = re;
          leaves = le;
          place = g.place ∙ sym (place-is (plan_of h x t) ready m (top_of mv) done (remaining h.room.end x.stands.test) roles g.o l);
        }
      ]

  pub is-new : (q : ℕ) → In q (turned (moved_of m x.stands.chained) []) → IsNew q
  is-new q i = elim (turned-in q (moved_of m x.stands.chained) [] i) [ inl deep ↦ new-of q (origin m x.stands.chained q deep) | inr none ↦ absurd none ]

  pub new-within : (q : ℕ) → In q (turned (moved_of m x.stands.chained) []) → (t.from ≤ q) × (q + 6 ≤ mv.young.top)
  new-within q i =
      let n : IsNew q = is-new q i in
      let copy : IsMoved (plan_of h x t) m (top_of mv) (n.o * 4 + 2) (forward m (n.o * 4 + 2)) = done.copies (n.o * 4 + 2) n.reached n.leaves in
      let six : 6 ≤ size (plan_of h x t) (n.o * 4 + 2) = size6 (plan_of h x t) ready m (top_of mv) done (remaining h.room.end x.stands.test) roles n.o (x.stands.links.each n.o n.inside) in
      (omega (arith, n.place, copy.from), omega (arith, n.place, copy.below, six))

  -- Each word `next` among the new objects is that of one of them.
  next-carried : (o : ℕ) → IsCarried (plan_of h x t) m (o + 2) NEXT → In o (turned (moved_of m x.stands.chained) [])
  unfolding size
  next-carried o c =
      let (u, st) = reached x.stands.test x.shared h.mem (plan_of h x t).roots (plan_of h x t).trees ready.standing c.v c.reached in
      let k : IsCounting x.stands.test h.mem c.v (c.v / 4 + c.j) =
      counting x.stands.test x.stands.single x.shared h.mem c.v u (c.v / 4 + c.j) st c.leaves.pointer (omega arith) (omega (arith, c.below)) (inl c.role) in
      let two : c.j ≡ 2 = omega (arith, k.at_next c.role) in
      let word : c.v ≡ c.v / 4 * 4 + 2 = omega (arith, k.boxed) in
      let inside : In (c.v / 4) x.stands.chained = x.stands.every (c.v / 4) k.next in
      let l : IsLink (plan_of h x t).test h.mem (c.v / 4) = x.stands.links.each (c.v / 4) inside in
      let P : ℕ → Type 0 = λ z. Reached (plan_of h x t) z in
      let Q : ℕ → Type 0 = λ z. PlanLeaves (plan_of h x t) z in
      let gone : is_moved m (c.v / 4) ≡ true = moved-is (plan_of h x t) ready m (top_of mv) done (remaining h.room.end x.stands.test) roles (c.v / 4) l (subst P word c.reached)
      (subst Q word c.leaves) in
      let at : forward m (c.v / 4 * 4 + 2) / 4 ≡ new_place m (c.v / 4) = place-is (plan_of h x t) ready m (top_of mv) done (remaining h.room.end x.stands.test) roles (c.v / 4) l in
      let there : o ≡ new_place m (c.v / 4) = omega (arith, c.place, two, ap (λ z. forward m z / 4) word, at) in
      let R : ℕ → Type 0 = λ z. In z (turned (moved_of m x.stands.chained) []) in
      subst R (sym there) (in-turned (new_place m (c.v / 4)) (moved_of m x.stands.chained) [] (inl (moved-in m (c.v / 4) x.stands.chained inside gone)))

  pub every-there : (o : ℕ) → roles.test (o + 2) NEXT ≡ true → In o (turned (moved_of m x.stands.chained) [])
  every-there o e = elim (roles.comes (o + 2) NEXT e) [
    | inl c ↦ next-carried o c
    | inr both_tests ↦ absurd
        (let (far, also) = remaining-is h.room.end x.stands.test (o + 2) NEXT both_tests.1 in
        elim (x.stands.lie (o + 2) NEXT also) [ inl object ↦ omega (arith, far, object.1.0, y.laid.order) | inr there ↦ omega (arith, there.1.1) ])
  ]

  -- The chain is swept.
  module _ (mem4 : List ℕ) (left : Survivors) (w : SweptWhole roles.test m mem4 x.stands.chained (turned (moved_of m x.stands.chained) []) [] left) where
    among : (q : ℕ) → In q (turned (moved_of m x.stands.chained) []) → In q (moved_of m x.stands.chained)
    among q i = elim (turned-in q (moved_of m x.stands.chained) [] i) [ inl deep ↦ deep | inr none ↦ absurd none ]

    room-end : (b : Bool) → top_of mv b ≤ mv.young.top
    room-end true = omega (arith, aged-between h t x m mv news y, (top-between h t x m mv news y).0)
    room-end false = omega arith

    pub names-listed : (o : ℕ) → In o x.stands.chained → In (named h.mem o) (records_of h)
    names-listed o inside = let l : IsLink x.stands.test h.mem o = x.stands.links.each o inside in x.stands.records.all (named h.mem o) l.words l.record_is

    -- All records fit, and so do some of them.
    pub room : (each : List ℕ) (low : ℕ) → mv.young.top ≤ low → ((o : ℕ) → In o x.stands.chained → Reached (plan_of h x t) (o * 4 + 2) → In (named h.mem o) each)
        → ((v : ℕ) → In v each → (n : ℕ) × IsRecord x.stands.test h.mem v n) → low + total (record_words h.mem) each ≤ t.to
        → RecordsHaveRoom (plan_of h x t) (remaining h.room.end x.stands.test) (top_of mv) x.stands.chained low t.to
    room each low above all records words = record {
      rooms = λ b. inl (omega (arith, room-end b, above));
      clear = λ a k e.
          let (far, also) = remaining-is h.room.end x.stands.test a k e in
          let here = role-here h y.laid t y.target x a k also in
          elim (sides-there h t x m mv news y).apart [
            | inl before ↦ inl (omega (arith, here.1, before, above, (top-between h t x m mv news y).0, y.target.first))
            | inr after ↦ inr (omega (arith, here.0, after, (sides-there h t x m mv news y).ends))
          ];
      order = omega (arith, words);
      inside = omega (arith, (sides-there h t x m mv news y).ends, (sides-there h t x m mv news y).other_inside);
      each = each;
      all = all;
      records = records;
      words = words;
    }

    pub can-move-to : (low : ℕ) → RecordsHaveRoom (plan_of h x t) (remaining h.room.end x.stands.test) (top_of mv) x.stands.chained low t.to
        → RecordsCanMove roles.test mem4 left.first (turned (moved_of m x.stands.chained) []) low t.to
    can-move-to low r = can-move (plan_of h x t) m (top_of mv) (remaining h.room.end x.stands.test) roles h.head x.stands.chained ready done sweepable x.stands.links mem4
        (turned (moved_of m x.stands.chained) []) left w among low t.to r

    pub listed : (v : ℕ) → In v (records_of h) → (n : ℕ) × IsRecord x.stands.test h.mem v n
    listed v i = elim (in-both v h.bins.items h.funs.items i) [
      | inl bin ↦ (4 + bin_words (length (shared_bytes x.shared (owner_in h.mem v))), inl (owner_in h.mem v, shared_bytes x.shared (owner_in h.mem v), (x.stands.records.each_bin v bin).is, refl))
      | inr fun ↦ (let f : IsFunOf x.stands.test h.mem v = x.stands.records.each_fun v fun in (4, inr (f.name, f.arity, f.is, refl)))
    ]

    pub low-above : mv.young.top + total (record_words h.mem) (records_of h) ≤ t.to
    low-above = omega (arith, objects-few h t x m mv news y, (sides-there h t x m mv news y).records)

    all-room : RecordsHaveRoom (plan_of h x t) (remaining h.room.end x.stands.test) (top_of mv) x.stands.chained (t.to - total (record_words h.mem) (records_of h)) t.to
    all-room = room (records_of h) (t.to - total (record_words h.mem) (records_of h)) (omega (arith, low-above)) (λ o inside r. names-listed o inside) listed (omega (arith, low-above))

    pub can-move-there : RecordsCanMove roles.test mem4 left.first (turned (moved_of m x.stands.chained) []) (t.to - total (record_words h.mem) (records_of h)) t.to
    can-move-there = can-move-to (t.to - total (record_words h.mem) (records_of h)) all-room

    pub can-move-all : AllRecordsCanMove mem4 left.first left.len t.to
    can-move-all = record { test = roles.test; os = turned (moved_of m x.stands.chained) []; low = t.to - total (record_words h.mem) (records_of h); number = sym w.len; can = can-move-there }
