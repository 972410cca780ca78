-- A collection of the half in use to the other one can begin.
use Rattle.std.proofs.Common.{◌≡◌, ℕ, ◌+◌, ◌-◌, ◌*◌, ◌/◌, ◌<◌, ◌≤◌, ◌⊎◌, if◌then◌else◌, Bool, true, false, List, [], length, refl, sym, ◌∙◌, ap, subst, arith, inl, inr}
use Rattle.std.proofs.lemmas.Bool.Decides.{nat_tests}
use Rattle.term_words.specs.Object.{IsPointer, object_words}
use Rattle.term_words.specs.Stands.{AllStand}
use Rattle.term_words.specs.Role.{OfObject}
use Rattle.term_words.specs.Counted.{total}
use Rattle.term_words.proofs.Reaching.Reached.{reached}
use Rattle.term_words.proofs.Placing.Roles.{object-role, object-some}
use Rattle.record_move.specs.Copies.{record_words}
use Rattle.cheney.specs.declared.moving.Moving.{Moving}
use Rattle.cheney.specs.Spans.{in_span, in_spans}
use Rattle.cheney.specs.Plan.{RoomFits, IsOutside, Plan, Ready, Reached, size}
use Rattle.cheney.specs.Zones.{at_objects}
use Rattle.cheney.specs.Rooms.{RoomsAgree, Runs}
use Rattle.cheney.proofs.Before.Basics.{not-both}
use Rattle.cheney.proofs.Rooted.Begins.{begins}
use Rattle.cheney.proofs.After.Fitting.{fits-by-range}
use Rattle.cheney.proofs.Rooted.Rows.{root-in}
use Rattle.two_halves.specs.Halves.{IsLaid, Standing, end_of, front_of, half_of, places_in, records_of}
use Rattle.two_halves.specs.Reached.{roots_of}
use Rattle.two_halves.specs.Rows.{IsAside, RowsMove}
use Rattle.two_halves.specs.Collecting.{IsBetween}
use Rattle.two_halves.specs.declared.halves.Halves.{Halves}
use Rattle.two_halves.specs.declared.table.Proc.{Proc}
use Rattle.two_halves.proofs.Standing.Held.{have-stacks, roots-stand, trees_of}

-- Where a collection goes: a half begins at `base`, objects go to the words from `from` to `to`, stack places to those from
-- there to `end`.
pub record Target : Type 0 where
  pub base : ℕ
  pub from : ℕ
  pub to : ℕ
  pub end : ℕ

-- It is the half that is not in use, and has place for all stacks.
pub record IsTarget (h : Halves) (t : Target) : Type 0 where
  pub side : ((h.base ≡ 0) × (t.base ≡ half_of h)) ⊎ ((h.base ≡ half_of h) × (t.base ≡ 0))
  pub first : t.from ≡ t.base + 2
  pub ends : t.end ≡ t.base + half_of h
  pub last : t.to ≡ t.end - 2 * places_in h.procs.items

-- As the code reckons it, from the words of the memory and the number of stack places.
abbrev pub target_of : Halves → (words n : ℕ) → Target
target_of h words n = record { base = words / 2 - h.base; from = words / 2 - h.base + 2; to = words / 2 - h.base + words / 2 - 2 * n; end = words / 2 - h.base + words / 2 }

pub is-target : (h : Halves) (words n : ℕ) (rows : List Proc) → IsLaid h → words ≡ length h.mem → n ≡ places_in rows → rows ≡ h.procs.items → IsTarget h (target_of h words n)
is-target h words n rows laid len count same = record {
  side = elim laid.side [ inl e ↦ inl (e, omega (arith, len, e)) | inr e ↦ inr (e, omega (arith, len, e)) ];
  first = refl;
  ends = omega (arith, len);
  last = omega (arith, count, ap places_in same);
}

-- The plan: all that the roots reach goes to the words between two places.
abbrev pub plan_of : (h : Halves) → Standing h → Target → Plan
plan_of h x t = record {
  start = h.mem;
  roots = roots_of h;
  shared = x.shared;
  trees = trees_of x.processes;
  test = x.stands.test;
  stay = λ q. false;
  mature = λ q. false;
  low = λ b. t.from;
  high = λ b. if b then t.from else t.to;
}

no-span : (q : ℕ) → in_span (record { start = 0; end = 0 }) q ≡ false
no-span q = grind (arith, nat_tests)

agrees : (h : Halves) (x : Standing h) (t : Target) (mv : Moving) → IsBetween t.from t.to mv → RoomsAgree (plan_of h x t) mv
agrees h x t mv b = record {
  stay = λ q. ap (λ z. in_spans z q) b.stay;
  moves = λ q e. refl;
  mature = λ q. ap (λ z. in_span z q) b.mature ∙ no-span q;
  aged_low = ap (λ z. z.start) b.aged;
  aged_high = ap (λ z. z.end) b.aged;
  young_low = ap (λ z. z.start) b.young;
  young_high = ap (λ z. z.end) b.young;
}

-- Both halves lie in the memory, all that stands in one is clear of the other, and all of it fits there.
pub record AreSides (h : Halves) (t : Target) : Type 0 where
  pub inside : end_of h ≤ length h.mem
  pub other_inside : t.end ≤ length h.mem
  pub apart : (end_of h ≤ t.base) ⊎ (t.end ≤ h.base)
  pub order : t.from ≤ t.to
  pub room : h.room.top - front_of h ≤ t.to - t.from
  pub records : (h.room.top - front_of h) + total (record_words h.mem) (records_of h) ≤ t.to - t.from
  pub ends : t.to + 2 * places_in h.procs.items ≡ t.end

module _ (h : Halves) (laid : IsLaid h) (t : Target) (is : IsTarget h t) where
  apart : (end_of h ≤ t.base) ⊎ (t.end ≤ h.base)
  apart = elim is.side [ inl e ↦ inl (omega (arith, e)) | inr e ↦ inr (omega (arith, e, is.ends)) ]

  within : (end_of h ≤ length h.mem) × (t.end ≤ length h.mem)
  within = elim is.side [ inl e ↦ (omega (arith, e), omega (arith, e, is.ends)) | inr e ↦ (omega (arith, e), omega (arith, e, is.ends)) ]

  pub sides : AreSides h t
  sides = record {
    inside = within.0;
    other_inside = within.1;
    apart = apart;
    order = omega (arith, is.first, is.last, is.ends, laid.front, laid.order, laid.fits);
    room = omega (arith, is.first, is.last, is.ends, laid.front, laid.order, laid.fits);
    records = omega (arith, is.first, is.last, is.ends, laid.front, laid.order, laid.fits);
    ends = omega (arith, is.last, is.ends, laid.front, laid.order, laid.fits);
  }

  module _ (x : Standing h) where
    standing : AllStand x.stands.test x.shared h.mem (roots_of h) (trees_of x.processes)
    standing = roots-stand x.stands.test x.shared h.mem h.room.end (end_of h) x.named h.procs.items x.processes x.stands.processes

    -- The half in use is clear of both rooms, and so are the words above them.
    outside-here : (q : ℕ) → h.base ≤ q → q < end_of h → IsOutside (plan_of h x t) q
    outside-here q above below true = elim apart [ inl a ↦ inl (omega (arith, a, below, is.first)) | inr a ↦ inr (omega (arith, a, above, sides.order, sides.ends)) ]
    outside-here q above below false = elim apart [ inl a ↦ inl (omega (arith, a, below, is.first)) | inr a ↦ inr (omega (arith, a, above, sides.order, sides.ends)) ]

    outside-there : (q : ℕ) → t.to ≤ q → IsOutside (plan_of h x t) q
    outside-there q above true = inr (omega (arith, above, sides.order))
    outside-there q above false = inr above

    -- All words with a role lie in the half in use.
    pub role-here : (q k : ℕ) → x.stands.test q k ≡ true → (front_of h ≤ q) × (q < end_of h)
    role-here q k e = elim (x.stands.lie q k e) [
      | inl object ↦ (object.0, omega (arith, object.1.0, laid.order, laid.fits))
      | inr in_record ↦ (omega (arith, in_record.0, laid.front, laid.order), in_record.1.0)
    ]

    pub aside-there : (q : ℕ) → t.to ≤ q → q < t.end → IsAside (plan_of h x t) q
    aside-there q above below = record {
      outside = outside-there q above;
      free = λ k e. elim apart [
        | inl a ↦ omega (arith, a, above, (role-here q k e).1, is.first, sides.order)
        | inr a ↦ omega (arith, a, below, (role-here q k e).0)
      ];
    }

    -- Those of objects lie below the free words.
    pub object-below : (q k : ℕ) → OfObject k → x.stands.test q k ≡ true → (front_of h ≤ q) × (q < h.room.top)
    object-below q k of e = elim (x.stands.lie q k e) [ inl object ↦ (object.0, object.1.0) | inr in_record ↦ absurd (omega (arith, of, in_record.1.1)) ]

    -- All objects that are reached lie in the half in use.
    pub object-here : (v : ℕ) → Reached (plan_of h x t) v → IsPointer v → (front_of h ≤ v / 4) × (v / 4 + size (plan_of h x t) v ≤ h.room.top)
    unfolding size
    object-here v r i =
        let (u, st) = reached x.stands.test x.shared h.mem (roots_of h) (trees_of x.processes) standing v r in
        let some : 0 < object_words h.mem v = object-some h.mem v in
        let (j, (one, e)) = object-role x.stands.test x.shared h.mem v u (v / 4) st i (omega arith) (omega (arith, some)) in
        let (k, (two, f)) = object-role x.stands.test x.shared h.mem v u (v / 4 + object_words h.mem v - 1) st i (omega (arith, some)) (omega (arith, some)) in
        ((object-below (v / 4) j one e).0, omega (arith, some, (object-below (v / 4 + object_words h.mem v - 1) k two f).1))

    fits : (b : Bool) → RoomFits (plan_of h x t) b
    fits true = record { each = []; all = λ w r l e. absurd (not-both false e refl); words = omega arith }
    fits false =
        fits-by-range (plan_of h x t) false (front_of h) h.room.top standing x.stands.single laid.front (λ v r l e. object-here v r l.pointer)
        (omega (arith, sides.room, sides.order))

    in-order : (b : Bool) → t.from ≤ (if b then t.from else t.to)
    in-order true = omega arith
    in-order false = sides.order

    in-memory : (b : Bool) → (if b then t.from else t.to) ≤ length h.mem
    in-memory true = omega (arith, sides.order, sides.ends, sides.other_inside)
    in-memory false = omega (arith, sides.ends, sides.other_inside)

    ready : Ready (plan_of h x t)
    ready = record {
      standing = standing;
      single = x.stands.single;
      clear = λ a k e. outside-here a (omega (arith, (role-here a k e).0)) (role-here a k e).1;
      closed = λ v k r i e. absurd (not-both false e refl);
      rooms = inl (omega arith);
      order = in-order;
      inside = in-memory;
      fits = fits;
    }

    module _ (mv : Moving) (b : IsBetween t.from t.to mv) where
      runs-first : Runs (plan_of h x t) h.mem mv (at_objects t.from t.from)
      runs-first =
          let low : mv.aged.start ≡ t.from = ap (λ z. z.start) b.aged in
          let young : mv.young.start ≡ t.from = ap (λ z. z.start) b.young in
          let P : ℕ → Type 0 = λ z. Runs (plan_of h x t) h.mem mv (at_objects z mv.young.start) in
          let Q : ℕ → Type 0 = λ z. Runs (plan_of h x t) h.mem mv (at_objects t.from z) in
          subst Q young (subst P low (begins (plan_of h x t) mv ready (agrees h x t mv b) (ap (λ z. z.top) b.aged ∙ sym low) (ap (λ z. z.top) b.young ∙ sym young)))

      -- What the rows name may move.
      pub rows-move : RowsMove (plan_of h x t) h.mem mv (at_objects t.from t.from) h.room.end (end_of h) h.procs.items t.end
      rows-move = record {
        fits = omega (arith, sides.ends);
        room = record {
          runs = runs-first;
          old = λ q above below. outside-here q (omega (arith, above, laid.front, laid.order)) below;
          new = λ q above below. aside-there q (omega (arith, above, sides.ends)) (omega (arith, below, sides.ends));
          apart = elim apart [ inl a ↦ inl (omega (arith, a, sides.ends, sides.order, is.first)) | inr a ↦ inr (omega (arith, a, sides.ends, laid.front, laid.order)) ];
          old_inside = sides.inside;
          new_inside = omega (arith, sides.ends, sides.other_inside);
        };
        stacks = have-stacks x.stands.test x.shared h.mem h.room.end (end_of h) x.named h.procs.items x.processes x.stands.processes;
        reached = root-in (plan_of h x t);
      }
