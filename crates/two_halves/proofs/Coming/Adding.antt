-- A record comes into a half, below all places and records.
use Rattle.std.proofs.Common.{Vec, take, drop, ◌≡◌, ℕ, replicate, ◌+◌, ◌*◌, ◌/◌, ◌<◌, ◌≤◌, ◌⊎◌, Bool, true, List, [], ◌∷◌, ◌++◌, length, get_or, refl, sym, ◌∙◌, arith, inl, inr}
use Rattle.std.proofs.lemmas.List.{append-nil, length-append}
use Rattle.std.specs.Vec.{vec_capacity}
use Rattle.std.specs.declared.alloc.Global.{Global}
use Rattle.word_mem.specs.declared.ranges.Room.{Room}
use Rattle.plain_term.specs.Measures.{bin_words}
use Rattle.plain_term.specs.Tree.{Tree}
use Rattle.plain_machine.specs.State.{Process}
use Rattle.term_tags.specs.Words.{record_word}
use Rattle.term_tags.specs.declared.records.TheConstants.{BIN_RECORD, FUN_RECORD}
use Rattle.term_words.specs.Role.{NEXT, OfObject, OfRecord}
use Rattle.term_words.specs.Object.{IsBinRecord, IsFunRecord}
use Rattle.term_words.specs.Stands.{Stands}
use Rattle.term_words.specs.Counted.{In, total}
use Rattle.term_words.proofs.Framing.Frames.{frame}
use Rattle.term_words.proofs.Framing.Growing.{grow}
use Rattle.term_words.proofs.Totals.Members.{in-at}
use Rattle.term_build.specs.Taken.{IsFree, Lie, Taken, with_object}
use Rattle.term_build.proofs.Taking.{with-object-of, with-object-within}
use Rattle.shared_rec.specs.Record.{WritesRecord, count_in, owner_in, record_roles}
use Rattle.record_move.specs.Copies.{record_words}
use Rattle.record_move.specs.Tables.{AllLieWithin}
use Rattle.record_move.proofs.Moving.{of-record}
use Rattle.record_tables.specs.Listed.{IsBinOf, IsFunOf, NearlyStand}
use Rattle.record_tables.specs.Spots.{IsSpot}
use Rattle.record_tables.proofs.Staying.{nearly-stand, owner-stays}
use Rattle.record_tables.proofs.Coming.{Written, bin-comes, bin-words as words-of-bin, found-fun, fun-comes, fun-words, kept2, last-bytes, links2, names-come, single2, spot-high, spot-low, taken}
use Rattle.two_halves.specs.Halves.{HalvesStand, IsLaid, ProcsStand, end_of, front_of}
use Rattle.two_halves.specs.Adding.{Adds, HasBin, HasFun, Nearly}
use Rattle.two_halves.specs.declared.halves.Halves.{Halves}
use Rattle.two_halves.proofs.Standing.Apart.{apart-kept}
use Rattle.two_halves.proofs.Standing.Joining.{procs-on}

-- The half with other words, and another room and tables.
abbrev pub filled : (h : Halves) → (mem : List ℕ) → Room → (head linked : ℕ) → (bins funs : Vec ℕ Global) → Halves
filled h mem room head linked bins funs = record {
  mem = mem;
  base = h.base;
  room = room;
  procs = h.procs;
  head = head;
  linked = linked;
  bins = bins;
  funs = funs;
  sweeps = h.sweeps;
}

module _ (named_below : ℕ) (h : Halves) (shared : List (List ℕ)) (qs : List Process) (x : HalvesStand named_below h shared qs) (laid : IsLaid h) (n at : ℕ) (next : at + n ≡ h.room.end)
    (some : 4 ≤ n) (fits : h.room.top ≤ at) (mem2 : List ℕ) (w : WritesRecord at (at + n) h.mem mem2) where
  abbrev pub d : ℕ → ℕ → Bool
  d = with_object record_roles x.test at n

  pub free-below : IsFree x.test at (at + n)
  free-below a k e = elim (x.lie a k e) [ inl o ↦ inl (omega (arith, o.1.0, fits)) | inr r ↦ inr (omega (arith, r.0, next)) ]

  lie-old : (a k : ℕ) → x.test a k ≡ true → ((front_of h ≤ a) × ((a < h.room.top) × OfObject k)) ⊎ ((at ≤ a) × ((a < h.base + length mem2 / 2) × OfRecord k))
  lie-old a k e = elim (x.lie a k e) [ inl o ↦ inl o | inr r ↦ inr (omega (arith, r.0, next), (omega (arith, r.1.0, w.same_len), r.1.1)) ]

  lie2 : (a k : ℕ) → d a k ≡ true → ((front_of h ≤ a) × ((a < h.room.top) × OfObject k)) ⊎ ((at ≤ a) × ((a < h.base + length mem2 / 2) × OfRecord k))
  lie2 a k e = elim (with-object-within record_roles x.test at n a k e) [
    | inl old ↦ lie-old a k old
    | inr inside ↦ elim (with-object-of OfRecord record_roles x.test at n a k of-record e) [
      | inl old ↦ lie-old a k old
      | inr of ↦ inr (inside.0, (omega (arith, inside, next, laid.fits, w.same_len), of))
    ]
  ]

  every2 : (p : ℕ) → d (p + 2) NEXT ≡ true → In p x.chained
  every2 p e = elim (with-object-of OfRecord record_roles x.test at n (p + 2) NEXT of-record e) [
    | inl old ↦ x.every p old
    | inr of ↦ absurd (elim of [ inl c ↦ omega (arith, c) | inr (inl c) ↦ omega (arith, c) | inr (inr c) ↦ omega (arith, c) ])
  ]

  same-above : (q : ℕ) → h.room.end ≤ q → q < h.base + length mem2 / 2 → ((j : ℕ) → x.test q j ≡ true → ⊥) → get_or mem2 q 0 ≡ get_or h.mem q 0
  same-above q above below none = w.others q (inr (omega (arith, above, next)))

  bare2 : (q k : ℕ) → h.room.end ≤ q → q < h.base + length mem2 / 2 → ((j : ℕ) → x.test q j ≡ true → ⊥) → d q k ≡ true → ⊥
  bare2 q k above below none e = elim (with-object-within record_roles x.test at n q k e) [ inl old ↦ none k old | inr inside ↦ omega (arith, above, inside, next) ]

  -- All stands by the new test, where the record is in its table.
  module _ (shared2 more : List (List ℕ)) (grown : shared2 ≡ shared ++ more) (zero : count_in mem2 at ≡ 0) (bins2 funs2 : Vec ℕ Global)
      (records : NearlyStand d mem2 shared2 bins2.items funs2.items at) (names : (u : ℕ) → In u funs2.items → owner_in mem2 u / 256 < named_below) where
    trees2 : (v : ℕ) (t : Tree) → Stands x.test shared h.mem v t → Stands d shared2 mem2 v t
    trees2 v t s = rw grown (grow d shared more mem2 v t ((frame x.test d h.mem mem2 (kept2 x.test x.single h.mem mem2 n at some free-below w)).each shared v t s))

    limit : end_of h ≡ h.base + length mem2 / 2
    limit = omega (arith, w.same_len)

    before : ProcsStand x.test shared h.mem h.room.end (h.base + length mem2 / 2) named_below h.procs.items qs
    before = rw limit at x.processes

    pub nearly : Nearly named_below (filled h mem2 (record h.room { end = at }) h.head h.linked bins2 funs2) shared2 qs at
    nearly = record {
      test = d;
      single = single2 x.test x.single h.mem mem2 n at some free-below w;
      lie = lie2;
      chained = x.chained;
      linked = x.linked;
      links = links2 x.test x.single h.mem mem2 n at some free-below w h.head x.chained x.links zero;
      inside = x.inside;
      every = every2;
      records = records;
      fun_names = names;
      processes = procs-on x.test d shared shared2 h.mem mem2 named_below h.room.end at (h.base + length mem2 / 2) trees2 same-above bare2 (omega (arith, next)) h.procs.items qs before;
      apart = apart-kept x.test shared h.mem mem2 h.room.end (h.base + length mem2 / 2) named_below h.procs.items qs same-above before x.apart;
    }

-- The layout after that.
pub laid-more : (h : Halves) (laid : IsLaid h) (n at : ℕ) → at + n ≡ h.room.end → h.room.top ≤ at → (mem2 : List ℕ) → length mem2 ≡ length h.mem → (bins2 funs2 : Vec ℕ Global)
    → total (record_words mem2) (bins2.items ++ funs2.items) ≡ total (record_words h.mem) (h.bins.items ++ h.funs.items) + n
    → IsLaid (filled h mem2 (record h.room { end = at }) h.head h.linked bins2 funs2)
laid-more h laid n at next fits mem2 same bins2 funs2 words = record {
  even = omega (arith, same, laid.even);
  starts = laid.starts;
  side = elim laid.side [ inl e ↦ inl e | inr e ↦ inr (omega (arith, e, same)) ];
  front = laid.front;
  order = fits;
  fits = omega (arith, next, words, laid.fits, same);
}

-- A half into which the record of a binary of equal bytes comes.
module _ (named_below : ℕ) (h : Halves) (shared : List (List ℕ)) (qs : List Process) (x : HalvesStand named_below h shared qs) (laid : IsLaid h) (len byte at serial : ℕ)
    (next : at + (4 + bin_words len) ≡ h.room.end) (fits : h.room.top ≤ at) (new : List ℕ) (w : Written h.mem new at serial len byte) (bins2 : Vec ℕ Global)
    (bins_is : bins2.items ≡ h.bins.items ++ at ∷ []) where
  abbrev n : ℕ
  n = 4 + bin_words len

  abbrev bytes : List ℕ
  bytes = replicate len byte

  free-bin : IsFree x.test at (at + n)
  free-bin = free-below named_below h shared qs x laid n at next (omega arith) fits new w.writes

  pub bin-adds : (capacity : vec_capacity bins2 ≡ vec_capacity h.bins) → Adds h (filled h new (record h.room { end = at }) h.head h.linked bins2 h.funs)
  bin-adds capacity =
      let words : total (record_words new) ((h.bins.items ++ at ∷ []) ++ h.funs.items) ≡ total (record_words h.mem) (h.bins.items ++ h.funs.items) + n =
      words-of-bin x.test x.single h.mem new n at (omega arith) free-bin w.writes shared shared [] (sym (append-nil shared)) h.bins.items h.funs.items x.records BIN_RECORD (omega arith) w.header in
      record {
        laid = laid-more h laid n at next fits new w.writes.same_len bins2 h.funs (rw bins_is words);
        same_len = w.writes.same_len;
        base = refl;
        procs = refl;
        bins = capacity;
        funs = refl;
        sweeps = refl;
      }

  pub has-bin : serial ≡ length shared + 1 → HasBin named_below (filled h new (record h.room { end = at }) h.head h.linked bins2 h.funs) (shared ++ bytes ∷ []) qs at serial bytes
  unfolding nearly
  has-bin last =
      let e : ℕ → ℕ → Bool = with_object record_roles x.test at n in
      let more : List (List ℕ) = shared ++ bytes ∷ [] in
      let made : IsBinRecord e new at serial bytes = w.made x.test e (taken x.test x.single h.mem new n at (omega arith) free-bin w.writes) in
      let is : IsBinOf e new more at = record {
        from_one = omega (arith, w.owner, last);
        known = omega (arith, w.owner, last, length-append shared (bytes ∷ []));
        is = rw (w.owner, last-bytes shared bytes serial last) made;
      } in
      record {
        near = nearly named_below h shared qs x laid n at next (omega arith) fits new w.writes more (bytes ∷ []) refl w.zero bins2 h.funs
            (rw bins_is (bin-comes x.test x.single h.mem new n at (omega arith) free-bin w.writes shared more (bytes ∷ []) refl h.bins.items h.funs.items x.records is (w.owner ∙ last)))
            (λ u i. omega (
              arith,
              owner-stays x.test e h.mem new (kept2 x.test x.single h.mem new n at (omega arith) free-bin w.writes) u (x.records.each_fun u i).is.second,
              x.fun_names u i,
            ));
        is = made;
      }

-- A half into which the record of a fun comes.
module _ (named_below : ℕ) (h : Halves) (shared : List (List ℕ)) (qs : List Process) (x : HalvesStand named_below h shared qs) (laid : IsLaid h) (name arity at : ℕ)
    (next : at + 4 ≡ h.room.end) (fits : h.room.top ≤ at) (new : List ℕ) (writes : WritesRecord at (at + 4) h.mem new) (lie : Lie new at (record_word FUN_RECORD 4 ∷ (name * 256 + arity) ∷ 0 ∷ 0 ∷ []))
    (made : (c e : ℕ → ℕ → Bool) → Taken record_roles c e at 4 → IsFunRecord e new at name arity) (i : ℕ) (spot : IsSpot h.mem h.funs.items (name * 256 + arity) i)
    (other : i < length h.funs.items → owner_in h.mem (get_or h.funs.items i 0) ≡ name * 256 + arity → ⊥) (funs2 : Vec ℕ Global)
    (funs_is : funs2.items ≡ take i h.funs.items ++ at ∷ drop i h.funs.items) where
  owner-there : owner_in new at ≡ name * 256 + arity
  owner-there = lie.each 1 (at + 1) (omega arith) refl

  free-fun : IsFree x.test at (at + 4)
  free-fun = free-below named_below h shared qs x laid 4 at next (omega arith) fits new writes

  pub fun-adds : vec_capacity funs2 ≡ vec_capacity h.funs → Adds h (filled h new (record h.room { end = at }) h.head h.linked h.bins funs2)
  fun-adds capacity =
      let header : get_or new at 0 ≡ record_word FUN_RECORD 4 = lie.each 0 at (omega arith) (omega arith) in
      let words : total (record_words new) (h.bins.items ++ (take i h.funs.items ++ at ∷ drop i h.funs.items)) ≡ total (record_words h.mem) (h.bins.items ++ h.funs.items) + 4 =
      fun-words x.test x.single h.mem new 4 at (omega arith) free-fun writes shared shared [] (sym (append-nil shared)) h.bins.items h.funs.items x.records i FUN_RECORD (omega arith) header in
      record {
        laid = laid-more h laid 4 at next fits new writes.same_len h.bins funs2 (rw funs_is words);
        same_len = writes.same_len;
        base = refl;
        procs = refl;
        bins = refl;
        funs = capacity;
        sweeps = refl;
      }

  pub has-fun : name < named_below → arity ≤ 255 → HasFun named_below h (filled h new (record h.room { end = at }) h.head h.linked h.bins funs2) shared qs at name arity x.test
  unfolding nearly
  has-fun small few =
      let e : ℕ → ℕ → Bool = with_object record_roles x.test at 4 in
      let is : IsFunRecord e new at name arity = made x.test e (taken x.test x.single h.mem new 4 at (omega arith) free-fun writes) in
      let of : IsFunOf e new at = record { name = name; arity = arity; is = is } in
      let same : shared ≡ shared ++ [] = sym (append-nil shared) in
      record {
        near = nearly named_below h shared qs x laid 4 at next (omega arith) fits new writes shared [] same (lie.each 2 (at + 2) (omega arith) refl) h.bins funs2
            (rw funs_is (fun-comes x.test x.single h.mem new 4 at (omega arith) free-fun writes shared shared [] same h.bins.items h.funs.items x.records i of
            (λ u j. omega (arith, owner-there, spot-low h.mem h.funs.items (name * 256 + arity) i spot u j))
            (λ u j. omega (arith, owner-there, spot-high h.mem h.funs.items (name * 256 + arity) i spot x.records.codes other u j))))
            (rw funs_is (names-come x.test x.single h.mem new 4 at (omega arith) free-fun writes shared shared [] same h.bins.items h.funs.items x.records i named_below
            (omega (arith, owner-there, small, few)) x.fun_names));
        is = is;
        kept = frame x.test e h.mem new (kept2 x.test x.single h.mem new 4 at (omega arith) free-fun writes);
      }

-- A half that stands does so but for any one record.
pub near-of : (named_below : ℕ) (h : Halves) (shared : List (List ℕ)) (qs : List Process) (v : ℕ) → HalvesStand named_below h shared qs → Nearly named_below h shared qs v
near-of named_below h shared qs v x = record {
  test = x.test;
  single = x.single;
  lie = x.lie;
  chained = x.chained;
  linked = x.linked;
  links = x.links;
  inside = x.inside;
  every = x.every;
  records = nearly-stand x.test h.mem shared h.bins.items h.funs.items v x.records;
  fun_names = x.fun_names;
  processes = x.processes;
  apart = x.apart;
}

-- The record of a fun that is there already.
pub fun-found : (named_below : ℕ) (h : Halves) (shared : List (List ℕ)) (qs : List Process) (x : HalvesStand named_below h shared qs) (name arity v i : ℕ) → v ≡ get_or h.funs.items i 0
    → i < length h.funs.items → owner_in h.mem v ≡ name * 256 + arity → arity ≤ 255 → HasFun named_below h h shared qs v name arity x.test
unfolding near-of
fun-found named_below h shared qs x name arity v i at inside owner few = record {
  near = near-of named_below h shared qs v x;
  is = found-fun x.test h.mem v name arity (x.records.each_fun v (rw at (in-at h.funs.items i inside))) owner few;
  kept = record { each = λ other w t s. s };
}

-- The records of funs that are listed lie in the memory.
pub funs-inside : (named_below : ℕ) (h : Halves) (shared : List (List ℕ)) (qs : List Process) → HalvesStand named_below h shared qs → AllLieWithin h.mem h.funs.items
funs-inside named_below h shared qs x v i = (x.records.each_fun v i).is.within
