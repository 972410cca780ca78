-- A half that binaries with records of their own came into: it stands for what it stood for, and their holders and records are in
-- the chain and in the table.
use Rattle.std.proofs.Common.{Vec, ◌≡◌, ℕ, zero, suc, ◌+◌, ◌*◌, ◌/◌, ◌<◌, ◌≤◌, ◌⊎◌, Bool, true, List, [], ◌∷◌, ◌++◌, length, get_or, refl, sym, ◌∙◌, ap, arith, inl, inr}
use Rattle.std.specs.declared.alloc.Global.{Global}
use Rattle.std.proofs.lemmas.List.{length-append}
use Rattle.word_mem.specs.declared.ranges.Room.{Room}
use Rattle.plain_term.specs.Bytes.{shared_bytes}
use Rattle.plain_machine.specs.State.{Process}
use Rattle.term_tags.specs.Words.{boxed_word}
use Rattle.term_words.specs.Role.{FURTHER, RECORD, RECORD_FIRST, OfObject, OfRecord}
use Rattle.term_words.specs.Object.{IsBinRecord, IsRecord, IsShared}
use Rattle.term_words.specs.Stands.{Stands}
use Rattle.term_words.specs.Counted.{In, Distinct, total}
use Rattle.term_words.proofs.Totals.Members.{both-distinct, both-total, in-both, in-left, in-right}
use Rattle.term_words.proofs.ByKind.Inside.{record-inside}
use Rattle.plain_term.proofs.Known.{bytes-stay}
use Rattle.shared_rec.specs.Record.{count_in, owner_in}
use Rattle.shared_rec.proofs.Records.{bin-stays, fun-stays, record-first}
use Rattle.off_heap_list.specs.Links.{Links}
use Rattle.off_heap_list.proofs.Chaining.Exact.{distinct-left, distinct-right}
use Rattle.record_move.specs.Copies.{record_words}
use Rattle.record_move.specs.Tables.{OwnersRise}
use Rattle.item_build.specs.Building.{Laid, LeavesRoom, holders_from}
use Rattle.item_build.proofs.Laid.Laying.{record-back}
use Rattle.two_halves.specs.Stack.{AreApart}
use Rattle.record_tables.specs.Listed.{IsBinOf, IsFunOf, RecordsStand}
use Rattle.two_halves.specs.Halves.{all_places, HalvesStand, IsLaid, ProcsStand, end_of, front_of, places_in}
use Rattle.two_halves.specs.declared.halves.Halves.{Halves}
use Rattle.two_halves.specs.declared.table.Proc.{Proc}
use Rattle.record_tables.proofs.Joining.{rise-same, distinct-apart}
use Rattle.one_space.specs.Entered.{records_from}
use Rattle.one_space.proofs.Memory.Tabled.{entered-at, entered-in, record_at}

-- The halves with holders and records more.
abbrev pub joined : Halves → (mem : List ℕ) → Room → (head n : ℕ) → Vec Proc Global → Vec ℕ Global → Halves
joined h mem room head n v bins = record {
  mem = mem;
  base = h.base;
  room = room;
  procs = v;
  head = head;
  linked = h.linked + n;
  bins = bins;
  funs = h.funs;
  sweeps = h.sweeps;
}

-- The chain's new objects.
holders-at : (top n p : ℕ) → In p (holders_from top n) → (i : ℕ) × ((i < n) × (p ≡ top + 6 * i))
holders-at top zero p inside = absurd inside
holders-at top (suc n) p (inl e) = (n, (omega arith, e))
holders-at top (suc n) p (inr inside) = let (i, (less, e)) = holders-at top n p inside in (i, (omega (arith, less), e))

holders-in : (top n i p : ℕ) → i < n → p ≡ top + 6 * i → In p (holders_from top n)
holders-in top zero i p less e = absurd (omega (arith, less))
holders-in top (suc n) i p less e =
    let which : (i ≡ n) ⊎ (i < n) = grind (arith, less) in
    elim which [ inl last ↦ inl (omega (arith, e, last)) | inr below ↦ inr (holders-in top n i p below e) ]

holders-len : (top n : ℕ) → length (holders_from top n) ≡ n
holders-len top zero = refl
holders-len top (suc n) = omega (arith, holders-len top n)

-- Records whose owner words rise are apart.
pub rise-once : (mem : List ℕ) (vs : List ℕ) → OwnersRise mem vs → Distinct vs
rise-once mem [] r = tt
rise-once mem (v ∷ vs) (first, rest) = ((λ i. omega (arith, first v i)), rise-once mem vs rest)

-- Two tables whose owners rise, the second above the first.
rise-both : (mem : List ℕ) (xs ys : List ℕ) → OwnersRise mem xs → OwnersRise mem ys → ((v w : ℕ) → In v xs → In w ys → owner_in mem v < owner_in mem w) → OwnersRise mem (xs ++ ys)
rise-both mem [] ys one two apart = two
rise-both mem (x ∷ xs) ys (first, rest) two apart = (
  (λ w i. elim (in-both w xs ys i) [ inl a ↦ first w a | inr b ↦ apart x w (inl refl) b ]),
  rise-both mem xs ys rest two (λ v w i j. apart v w (inr i) j),
)

module _ (h : Halves) (shared extra : List (List ℕ)) (named : ℕ) (qs : List Process) (laid : IsLaid h) (s : HalvesStand named h shared qs) (d : ℕ → ℕ → Bool) (z : Room) (mem2 : List ℕ)
    (head2 n : ℕ) (made : Laid s.test d (shared ++ extra) h.room z h.mem mem2 h.head head2 (length shared) n)
    (leaves : LeavesRoom h.room z h.mem mem2) where
  -- The shared binaries with the new ones.
  abbrev all_shared : List (List ℕ)
  all_shared = shared ++ extra

  low-under : h.room.end ≤ end_of h
  low-under = omega (arith, laid.fits)

  -- Where the words with a role lie.
  pub lies : (a k : ℕ) → d a k ≡ true → ((front_of h ≤ a) × ((a < z.top) × OfObject k)) ⊎ ((z.end ≤ a) × ((a < end_of h) × OfRecord k))
  lies a k e = elim (made.within a k e) [
    | inl old ↦ elim (s.lie a k old) [
      | inl o ↦ inl (o.0, (omega (arith, o.1.0, leaves.front), o.1.1))
      | inr r ↦ inr (omega (arith, r.0, leaves.back), r.1)
    ]
    | inr new ↦ elim new [
      | inl o ↦ inl (omega (arith, o.0, laid.front), (o.1.0, o.1.1))
      | inr r ↦ inr (r.0, (omega (arith, r.1.0, low-under), r.1.1))
    ]
  ]

  -- The words with a role by the old test are the same.
  pub same-old : (a k : ℕ) → s.test a k ≡ true → get_or mem2 a 0 ≡ get_or h.mem a 0
  same-old a k e = elim (s.lie a k e) [ inl o ↦ leaves.others a (inl o.1.0) | inr r ↦ leaves.others a (inr r.0) ]

  -- Holder i, and its record.
  holder-there : (i : ℕ) → i < n → IsShared d all_shared mem2 (boxed_word (h.room.top + 6 * i)) (length shared + suc i)
  unfolding Stands
  holder-there i less = (made.bins i less).holder

  place-of : (p : ℕ) → boxed_word p / 4 ≡ p
  place-of p = omega arith

  pub record-there : (i : ℕ) → i < n → IsBinRecord d mem2 (record_at mem2 h.room.top i) (length shared + suc i) (shared_bytes all_shared (length shared + suc i))
  record-there i less =
      rw (place-of (h.room.top + 6 * i)) at (holder-there i less).record_is

  known-there : (i : ℕ) → i < n → length shared + suc i ≤ length all_shared
  known-there i less = (holder-there i less).known

  owner-there : (i : ℕ) → i < n → owner_in mem2 (record_at mem2 h.room.top i) ≡ length shared + suc i
  owner-there i less = (record-there i less).owner

  pub inside-there : (i : ℕ) → i < n → h.room.top + 6 * i + 6 ≤ z.top
  inside-there i less =
      let last : d (h.room.top + 6 * i + 5) FURTHER ≡ true = rw (place-of (h.room.top + 6 * i)) at (holder-there i less).holder.sixth in
      elim (lies (h.room.top + 6 * i + 5) FURTHER last) [ inl o ↦ omega (arith, o.1.0) | inr r ↦ absurd (omega (arith, r.1.1)) ]

  -- A record that stands at a place of an old one is one of before.
  was-record : (v m : ℕ) → h.room.end ≤ v → IsRecord d mem2 v m → IsRecord s.test h.mem v m
  was-record v m above there =
      record-back s.test d h.mem mem2 v m
      (λ q k from below of e. elim (made.within q k e) [
        | inl old ↦ old
        | inr new ↦ elim new [ inl o ↦ absurd (omega (arith, o.1.0, from, above, leaves.order, leaves.back)) | inr r ↦ absurd (omega (arith, r.1.0, from, above)) ]
      ])
      (λ q from below. sym (leaves.others q (inr (omega (arith, from, above))))) (omega (arith, record-inside d mem2 v m there, leaves.same_len)) there

  old-or-new : (v m : ℕ) → IsRecord d mem2 v m → IsRecord s.test h.mem v m ⊎ ((i : ℕ) × ((i < n) × (v ≡ record_at mem2 h.room.top i)))
  old-or-new v m there = elim (made.records v (record-first d mem2 v m there)) [
    | inl old ↦ elim (s.lie v RECORD_FIRST old) [ inl o ↦ absurd (omega (arith, o.1.1)) | inr r ↦ inl (was-record v m r.0 there) ]
    | inr new ↦ inr new
  ]

  -- The old records.

  bin-was : (v : ℕ) → In v h.bins.items → IsBinOf s.test h.mem shared v
  bin-was v i = s.records.each_bin v i

  fun-was : (v : ℕ) → In v h.funs.items → IsFunOf s.test h.mem v
  fun-was v i = s.records.each_fun v i

  bin-owner : (v : ℕ) → In v h.bins.items → owner_in mem2 v ≡ owner_in h.mem v
  bin-owner v i = same-old (v + 1) RECORD (bin-was v i).is.second

  fun-owner : (v : ℕ) → In v h.funs.items → owner_in mem2 v ≡ owner_in h.mem v
  fun-owner v i = same-old (v + 1) RECORD (fun-was v i).is.second

  bin-apart : (v i : ℕ) → In v h.bins.items → i < n → v ≡ record_at mem2 h.room.top i → ⊥
  bin-apart v i inside less e = omega (arith, bin-owner v inside, (bin-was v inside).known, owner-there i less, ap (owner_in mem2) e)

  fun-apart : (v i : ℕ) → In v h.funs.items → i < n → v ≡ record_at mem2 h.room.top i → ⊥
  fun-apart v i inside less e =
      omega (
        arith,
        same-old v RECORD_FIRST (fun-was v inside).is.first,
        (fun-was v inside).is.header,
        (record-there i less).header,
        ap (λ q. get_or mem2 q 0) e,
      )

  -- The new table.
  abbrev pub new_records : List ℕ
  new_records = records_from mem2 h.room.top n

  firsts-rise : (m : ℕ) → m ≤ n → OwnersRise mem2 (records_from mem2 h.room.top m)
  firsts-rise zero few = tt
  firsts-rise (suc m) few = rise-both mem2 (records_from mem2 h.room.top m) (record_at mem2 h.room.top m ∷ []) (firsts-rise m (omega (arith, few))) ((λ w i. absurd i), tt)
      (λ u w i j. elim j [
        | inl e ↦
            let (k, (less, is)) = entered-at mem2 h.room.top m u i in
            omega (arith, less, owner-there k (omega (arith, less, few)), owner-there m (omega (arith, few)), ap (owner_in mem2) e, ap (owner_in mem2) is)
        | inr none ↦ absurd none
      ])

  new-once : Distinct ((h.bins.items ++ new_records) ++ h.funs.items)
  new-once = both-distinct (h.bins.items ++ new_records) h.funs.items
      (both-distinct h.bins.items new_records (distinct-left h.bins.items h.funs.items s.records.once) (rise-once mem2 new_records (firsts-rise n (omega arith)))
      (λ u i j. let (k, (less, is)) = entered-at mem2 h.room.top n u j in bin-apart u k i less is))
      (distinct-right h.bins.items h.funs.items s.records.once)
      (λ u i j. elim (in-both u h.bins.items new_records i) [
        | inl a ↦ distinct-apart h.bins.items h.funs.items s.records.once u a j
        | inr b ↦ let (k, (less, is)) = entered-at mem2 h.room.top n u b in fun-apart u k j less is
      ])

  new-all : (v m : ℕ) → IsRecord d mem2 v m → In v ((h.bins.items ++ new_records) ++ h.funs.items)
  new-all v m there = elim (old-or-new v m there) [
    | inl old ↦ elim (in-both v h.bins.items h.funs.items (s.records.all v m old)) [
      | inl a ↦ in-left v (h.bins.items ++ new_records) h.funs.items (in-left v h.bins.items new_records a)
      | inr b ↦ in-right v (h.bins.items ++ new_records) h.funs.items b
    ]
    | inr new ↦
        in-left v (h.bins.items ++ new_records) h.funs.items (in-right v h.bins.items new_records (rw new.1.1 (entered-in mem2 h.room.top n new.0 new.1.0)))
  ]

  new-bin : (v i : ℕ) → i < n → v ≡ record_at mem2 h.room.top i → IsBinOf d mem2 all_shared v
  new-bin v i less is =
      let own : owner_in mem2 v ≡ length shared + suc i = ap (owner_in mem2) is ∙ owner-there i less in
      record { from_one = omega (arith, own); known = omega (arith, own, known-there i less); is = rw (own, is) (record-there i less) }

  old-bin : (v : ℕ) → In v h.bins.items → IsBinOf d mem2 all_shared v
  old-bin v i =
      let was : IsBinOf s.test h.mem shared v = bin-was v i in
      let own : owner_in mem2 v ≡ owner_in h.mem v = bin-owner v i in
      record {
        from_one = omega (arith, own, was.from_one);
        known = omega (arith, own, was.known, length-append shared extra);
        is = rw (own, bytes-stay shared extra (owner_in h.mem v) was.known)
            (bin-stays s.test d h.mem mem2 v (owner_in h.mem v) (shared_bytes shared (owner_in h.mem v)) made.kept was.is);
      }

  new-each : (v : ℕ) → In v (h.bins.items ++ new_records) → IsBinOf d mem2 all_shared v
  new-each v i = elim (in-both v h.bins.items new_records i) [
    | inl a ↦ old-bin v a
    | inr b ↦ let (k, (less, is)) = entered-at mem2 h.room.top n v b in new-bin v k less is
  ]

  old-fun : (v : ℕ) → In v h.funs.items → IsFunOf d mem2 v
  old-fun v i =
      let was : IsFunOf s.test h.mem v = fun-was v i in
      record { name = was.name; arity = was.arity; is = fun-stays s.test d h.mem mem2 v was.name was.arity made.kept was.is }

  new-rise : OwnersRise mem2 (h.bins.items ++ new_records)
  new-rise = rise-both mem2 h.bins.items new_records (rise-same h.mem mem2 h.bins.items bin-owner s.records.serials) (firsts-rise n (omega arith))
      (λ u w i j.
      let (k, (less, is)) = entered-at mem2 h.room.top n w j in
      omega (arith, bin-owner u i, (bin-was u i).known, owner-there k less, ap (owner_in mem2) is))

  new-counted : (v m : ℕ) → IsRecord d mem2 v m → 1 ≤ count_in mem2 v
  new-counted v m there = elim (old-or-new v m there) [
    | inl old ↦
        elim (s.lie v RECORD_FIRST (record-first s.test h.mem v m old)) [
          | inl o ↦ absurd (omega (arith, o.1.1))
          | inr r ↦ omega (arith, leaves.others (v + 2) (inr (omega (arith, r.0))), s.records.counted v m old)
        ]
    | inr new ↦ omega (arith, ap (count_in mem2) new.1.1, (made.bins new.0 new.1.0).counted)
  ]

  pub landed-records : RecordsStand d mem2 all_shared (h.bins.items ++ new_records) h.funs.items
  landed-records = record {
    all = new-all;
    once = new-once;
    each_bin = new-each;
    each_fun = old-fun;
    serials = new-rise;
    codes = rise-same h.mem mem2 h.funs.items fun-owner s.records.codes;
    counted = new-counted;
  }

  -- The words of all records.
  old-size : (vs : List ℕ) → ((v : ℕ) → In v vs → s.test v RECORD_FIRST ≡ true) → total (record_words mem2) vs ≡ total (record_words h.mem) vs
  old-size [] first = refl
  old-size (v ∷ vs) first = omega (arith, same-old v RECORD_FIRST (first v (inl refl)), old-size vs (λ w i. first w (inr i)))

  pub landed-words : total (record_words mem2) ((h.bins.items ++ new_records) ++ h.funs.items) ≡ total (record_words h.mem) (h.bins.items ++ h.funs.items) + total (record_words mem2) new_records
  landed-words = omega (
    arith,
    both-total (record_words mem2) (h.bins.items ++ new_records) h.funs.items,
    both-total (record_words mem2) h.bins.items new_records,
    both-total (record_words h.mem) h.bins.items h.funs.items,
    old-size h.bins.items (λ v i. (bin-was v i).is.first),
    old-size h.funs.items (λ v i. (fun-was v i).is.first),
  )

  -- The new half.
  module _ (named2 : ℕ) (names : named ≤ named2) (v : Vec Proc Global) (bins : Vec ℕ Global) (qs2 : List Process) (table : bins.items ≡ h.bins.items ++ new_records)
      (procs : ProcsStand d all_shared mem2 z.end (h.base + length mem2 / 2) named2 v.items qs2) where
    chain : Links d mem2 head2 (holders_from h.room.top n ++ s.chained) []
    chain = made.links s.chained [] s.single s.links

    pub landed-stands : AreApart (all_places mem2 v.items) → HalvesStand named2 (joined h mem2 z head2 n v bins) all_shared qs2
    landed-stands apart =
        record {
          test = d;
          single = made.single s.single;
          lie = λ a k e. elim (lies a k e) [ inl o ↦ inl o | inr r ↦ inr (r.0, (omega (arith, r.1.0, leaves.same_len), r.1.1)) ];
          chained = holders_from h.room.top n ++ s.chained;
          linked = omega (arith, length-append (holders_from h.room.top n) s.chained, holders-len h.room.top n, s.linked);
          links = chain;
          inside = λ p i. elim (in-both p (holders_from h.room.top n) s.chained i) [
            | inl a ↦ let (k, (less, is)) = holders-at h.room.top n p a in omega (arith, is, inside-there k less)
            | inr b ↦ omega (arith, s.inside p b, leaves.front)
          ];
          every = λ p e. elim (made.nexts (p + 2) e) [
            | inl old ↦ in-right p (holders_from h.room.top n) s.chained (s.every p old)
            | inr new ↦ in-left p (holders_from h.room.top n) s.chained (holders-in h.room.top n new.0 p new.1.0 (omega (arith, new.1.1)))
          ];
          records = rw table landed-records;
          fun_names = λ u i. omega (arith, fun-owner u i, s.fun_names u i, names);
          processes = procs;
          apart = apart;
        }

  module _ (v : Vec Proc Global) (bins : Vec ℕ Global) (table : bins.items ≡ h.bins.items ++ new_records) where
    pub landed-laid : places_in v.items ≡ places_in h.procs.items → z.end + total (record_words mem2) new_records ≤ h.room.end → IsLaid (joined h mem2 z head2 n v bins)
    landed-laid places words =
        let W : total (record_words mem2) (bins.items ++ h.funs.items) ≡ total (record_words mem2) ((h.bins.items ++ new_records) ++ h.funs.items) =
        ap (λ q. total (record_words mem2) (q ++ h.funs.items)) table in
        record {
          even = omega (arith, leaves.same_len, laid.even);
          starts = leaves.same_start ∙ laid.starts;
          side = elim laid.side [ inl e ↦ inl e | inr e ↦ inr (omega (arith, e, leaves.same_len)) ];
          front = omega (arith, laid.front, leaves.front);
          order = leaves.order;
          fits = omega (arith, laid.fits, leaves.same_len, places, words, W, landed-words);
        }
