-- A copy of a term comes into a half, and its holders and funs into the chain.
use Rattle.std.proofs.Common.{◌≡◌, ℕ, ◌+◌, ◌-◌, ◌^◌, ◌/◌, ◌<◌, ◌≤◌, ◌⊎◌, Bool, true, false, true≢false, List, [], ◌∷◌, ◌++◌, length, get_or, refl, sym, ◌∙◌, ap, subst, arith, inl, inr}
use Rattle.word_mem.specs.declared.ranges.Room.{Room}
use Rattle.plain_term.specs.Bytes.{shared_bytes}
use Rattle.plain_term.specs.Measures.{flat}
use Rattle.plain_term.specs.Tree.{Tree}
use Rattle.plain_term.specs.Tree.Trees.{end, ◌▹◌}
use Rattle.plain_machine.specs.State.{Process}
use Rattle.term_words.specs.Role.{COUNT, NEXT, RECORD, RECORD_FIRST, IsSingle, OfObject, OfRecord}
use Rattle.term_words.specs.Object.{IsBinRecord, IsRecord}
use Rattle.term_words.specs.Stands.{AllStand, Stands}
use Rattle.term_words.specs.Kept.{Kept}
use Rattle.term_words.specs.Reach.{Reach}
use Rattle.term_words.specs.Counted.{ArePacked, Distinct, In}
use Rattle.term_words.proofs.Reaching.Carrying.{carried-reach}
use Rattle.term_words.proofs.Totals.Counts.{count-most}
use Rattle.term_words.proofs.Framing.Frames.{frame, kept-carried}
use Rattle.term_words.proofs.Totals.Members.{in-both}
use Rattle.term_words.proofs.Totals.Packing.{packed}
use Rattle.term_build.specs.Clear.{IsRoom}
use Rattle.term_build.specs.Taken.{IsFree}
use Rattle.shared_rec.specs.Record.{count_in, owner_in}
use Rattle.shared_rec.proofs.Records.{bin-stays, fun-stays, record-counted, record-stays}
use Rattle.off_heap_list.specs.Links.{IsLink, Links}
use Rattle.off_heap_list.specs.Whole.{turned}
use Rattle.off_heap_list.proofs.Walked.Tallied.{few-links, ones}
use Rattle.off_heap_list.proofs.Walked.Turning.{turned-length}
use Rattle.record_move.specs.Copies.{record_words}
use Rattle.record_move.proofs.Moving.{naming-few}
use Rattle.term_copy.specs.Copied.{CanCopy, CopiesTree, Task}
use Rattle.object_rows.specs.Row.{AreObjects, ChainsRow, IsRow, links_in}
use Rattle.object_rows.specs.declared.chaining.Chained.{Chained}
use Rattle.record_move.proofs.Room.{total-same}
use Rattle.record_tables.specs.Listed.{IsBinOf, IsFunOf, RecordsStand}
use Rattle.two_halves.specs.Halves.{HalvesStand, IsLaid, ProcsStand, end_of, front_of, half_of, records_of}
use Rattle.two_halves.specs.Copying.{CanCopyIn, CopiesIn, HasCopy}
use Rattle.two_halves.specs.declared.halves.Halves.{Halves}
use Rattle.two_halves.proofs.Coming.Adding.{filled}
use Rattle.two_halves.proofs.Standing.Apart.{apart-kept}
use Rattle.record_tables.proofs.Joining.{rise-same}
use Rattle.two_halves.proofs.Standing.Joining.{procs-on}

-- What a copy in a half is given: its free words, in which nothing stays.
abbrev pub task_of : (h : Halves) → (stay : ℕ → Bool) → (c : ℕ → ℕ → Bool) → (shared : List (List ℕ)) → (w : ℕ) → Tree → Task
task_of h stay c shared w t = record { start = h.mem; top = h.room.top; limit = h.room.end; stay = stay; test = c; shared = shared; word = w; tree = t }

-- A room of which only the first free place changed.
pub top-alone : (r z : Room) → z.start ≡ r.start → z.end ≡ r.end → record r { top = z.top } ≡ z
top-alone r z begins ends = ap (λ u. record { start = u; top = z.top; end = r.end }) (sym begins) ∙ ap (λ u. record { start = z.start; top = z.top; end = u }) (sym ends)

-- A chain has fewer objects than its half has words, and so no count is greater.

few-between : (from n : ℕ) (ps : List ℕ) → Distinct ps → ((p : ℕ) → In p ps → (from ≤ p) × (p + 1 ≤ from + n)) → length ps ≤ n
few-between from n ps once lie =
    let are : ArePacked (λ p. p) (λ p. 1) (λ q. true) from n ps = record {
      once = once;
      apart = λ v w i j. by v w;
      some = λ v i. omega arith;
      inside = lie;
      passes = λ v q i low high. refl;
    } in
    omega (arith, ones ps, packed (λ p. p) (λ p. 1) (λ q. true) from n ps are, count-most (λ q. true) from n)
  where
    by : (v w : ℕ) → (v ≡ w) ⊎ ((v + 1 ≤ w) ⊎ (w + 1 ≤ v))
    by v w = let order : (v ≡ w) ⊎ ((v < w) ⊎ (w < v)) = grind arith in
        elim order [ inl e ↦ inl e | inr (inl l) ↦ inr (inl (omega (arith, l))) | inr (inr l) ↦ inr (inr (omega (arith, l))) ]

module _ (named : ℕ) (h : Halves) (shared : List (List ℕ)) (qs : List Process) (x : HalvesStand named h shared qs) (laid : IsLaid h) where
  pub free-there : IsFree x.test h.room.top h.room.end
  free-there a k e = elim (x.lie a k e) [ inl o ↦ inl o.1.0 | inr r ↦ inr r.0 ]

  pub room-there : IsRoom h.room h.mem
  room-there = record {
    start_first = omega (arith, laid.front);
    top_next = laid.order;
    inside = elim laid.side [ inl e ↦ omega (arith, e, laid.fits) | inr e ↦ omega (arith, e, laid.fits) ];
  }

  pub counts-few : length h.mem ≤ 16777216 → (v n : ℕ) → IsRecord x.test h.mem v n → count_in h.mem v < 2 ^ 23
  counts-few most v n r = omega (arith, most, x.links.counts v n r, naming-few h.mem v x.chained, chain-strict)
    where
      chain-strict : length x.chained + 2 ≤ half_of h
      chain-strict =
          let few : length x.chained ≤ half_of h - 2 = few-between (front_of h) (half_of h - 2) x.chained x.links.once (λ p i.
          let first : x.test p 3 ≡ true = (x.links.each p i).first in
          let low : front_of h ≤ p = elim (x.lie p 3 first) [ inl o ↦ o.0 | inr r ↦ absurd (omega (arith, r.1.1)) ] in
          (low, omega (arith, x.inside p i, laid.order, laid.fits))) in
          omega (arith, few, laid.front, laid.order, laid.fits)

-- A copy was made, and its holders and funs are in the chain, or there are none.
module _ (named : ℕ) (h : Halves) (shared : List (List ℕ)) (qs : List Process) (laid : IsLaid h) (x : HalvesStand named h shared qs) (stay : ℕ → Bool) (none : (q : ℕ) → stay q ≡ false)
    (w : ℕ) (t : Tree) (mem1 : List ℕ) (top2 result : ℕ) (z : CopiesTree (task_of h stay x.test shared w t) mem1 top2 result) (order : top2 ≤ h.room.end) where
  abbrev d : ℕ → ℕ → Bool
  d = z.test

  abbrev ps : List ℕ
  ps = links_in mem1 z.tiles

  words : top2 ≡ h.room.top + flat t
  words = z.exact none

  top-some : 0 < h.room.top
  top-some = omega (arith, laid.front)

  pub each-link : (p : ℕ) → In p ps → IsLink d mem1 p
  each-link = z.each top-some

  pub links1 : Links d mem1 h.head x.chained (ps ++ [])
  links1 = z.links top-some h.head x.chained [] x.links

  pub two-lists : (p : ℕ) → In p x.chained → In p ps → ⊥
  two-lists p i j = omega (arith, x.inside p i, (z.inside p j).0)

  -- Where the chain has no object the copy has none for it.
  pub no-links : length x.chained ≡ 0 → (p : ℕ) → In p ps → ⊥
  no-links e p i =
      let (a, next) = z.copied p i in
      let above : front_of h ≤ a = elim (x.lie a NEXT next) [ inl o ↦ o.0 | inr r ↦ absurd (omega (arith, r.1.1)) ] in
      let at : a ≡ (a - 2) + 2 = omega (arith, above) in
      let P : ℕ → Type 0 = λ q. x.test q NEXT ≡ true in
      empty x.chained (a - 2) e (x.every (a - 2) (subst P at next))
    where
      empty : (xs : List ℕ) (q : ℕ) → length xs ≡ 0 → In q xs → ⊥
      empty [] q f j = j
      empty (y ∷ ys) q f j = omega (arith, f)

  module _ (mem2 : List ℕ) (hd n : ℕ) (os : List ℕ) (len : length mem2 ≡ length mem1) (others : (q : ℕ) → ((p : ℕ) → In p ps → q ≡ p + 2 → ⊥) → get_or mem2 q 0 ≡ get_or mem1 q 0)
      (links : Links d mem2 hd os []) (number : length os ≡ n) (comes : (p : ℕ) → In p os → In p ps ⊎ In p x.chained) (stays : (p : ℕ) → In p ps ⊎ In p x.chained → In p os) where
    same2 : (q : ℕ) → (d q NEXT ≡ true → ⊥) → get_or mem2 q 0 ≡ get_or mem1 q 0
    same2 q free = others q (λ p i e. free (let P : ℕ → Type 0 = λ a. d a NEXT ≡ true in subst P (sym e) (each-link p i).next))

    role-same : (a k : ℕ) → (k ≡ NEXT → ⊥) → d a k ≡ true → get_or mem2 a 0 ≡ get_or mem1 a 0
    role-same a k other e = same2 a (λ next. other (z.single.one a k NEXT e next))

    len2 : length mem2 ≡ length h.mem
    len2 = len ∙ z.same_len

    kept12 : Kept d d mem1 mem2
    kept12 = record { longer = omega (arith, len); weaker = λ a k e. e; same = λ a k content e. role-same a k (λ f. omega (arith, f, content)) e }

    kept21 : Kept d d mem2 mem1
    kept21 = record { longer = omega (arith, len); weaker = λ a k e. e; same = λ a k content e. sym (role-same a k (λ f. omega (arith, f, content)) e) }

    kept02 : Kept x.test d h.mem mem2
    kept02 = record {
      longer = omega (arith, len2);
      weaker = z.more;
      same = λ a k content e. role-same a k (λ f. omega (arith, f, content)) (z.more a k e) ∙ z.kept.same a k content e;
    }

    -- Above the copy no role is new, and words without a role are the same.
    role-old : (a k : ℕ) → top2 ≤ a → d a k ≡ true → x.test a k ≡ true
    role-old a k above e = elim (z.within a k e) [ inl old ↦ old | inr new ↦ absurd (omega (arith, above, new.1.0)) ]

    bare-same : (q : ℕ) → h.room.end ≤ q → q < end_of h → ((k : ℕ) → x.test q k ≡ true → ⊥) → get_or mem2 q 0 ≡ get_or h.mem q 0
    bare-same q above below bare = same2 q (λ e. bare NEXT (role-old q NEXT (omega (arith, above, order)) e)) ∙ z.others q (inr (omega (arith, above, order))) (bare COUNT)

    lie2 : (a k : ℕ) → d a k ≡ true → ((front_of h ≤ a) × ((a < top2) × OfObject k)) ⊎ ((h.room.end ≤ a) × ((a < end_of h) × OfRecord k))
    lie2 a k e = elim (z.within a k e) [
      | inl old ↦ elim (x.lie a k old) [ inl o ↦ inl (o.0, (omega (arith, o.1.0, words), o.1.1)) | inr r ↦ inr r ]
      | inr new ↦ inl (omega (arith, new.0, laid.front), (new.1.0, new.1.1))
    ]

    inside2 : (p : ℕ) → In p os → p + 6 ≤ top2
    inside2 p i = elim (comes p i) [ inl a ↦ (z.inside p a).1 | inr a ↦ omega (arith, x.inside p a, words) ]

    every2 : (p : ℕ) → d (p + 2) NEXT ≡ true → In p os
    every2 p e = elim (z.nexts (p + 2) e) [
      | inl old ↦ stays p (inr (x.every p old))
      | inr (q, new) ↦ stays p (inl (let P : ℕ → Type 0 = λ a. In a ps in subst P (same-place q p new.1) new.0))
    ]
      where
        same-place : (a b : ℕ) → b + 2 ≡ a + 2 → a ≡ b
        same-place a b e = omega (arith, e)

    record-old : (v m : ℕ) → IsRecord d mem2 v m → IsRecord x.test h.mem v m
    record-old v m r = z.records v m (record-stays d d mem2 mem1 v m kept21 r)

    owner2 : (v : ℕ) → x.test (v + 1) RECORD ≡ true → owner_in mem2 v ≡ owner_in h.mem v
    owner2 v e = kept02.same (v + 1) RECORD (omega arith) e

    bin2 : (v : ℕ) → In v h.bins.items → IsBinOf d mem2 shared v
    bin2 v i =
        let old : IsBinOf x.test h.mem shared v = x.records.each_bin v i in
        let same : owner_in mem2 v ≡ owner_in h.mem v = owner2 v old.is.second in
        let P : ℕ → Type 0 = λ o. IsBinRecord d mem2 v o (shared_bytes shared o) in
        record {
          from_one = omega (arith, same, old.from_one);
          known = omega (arith, same, old.known);
          is = subst P (sym same) (bin-stays x.test d h.mem mem2 v (owner_in h.mem v) (shared_bytes shared (owner_in h.mem v)) kept02 old.is);
        }

    fun2 : (v : ℕ) → In v h.funs.items → IsFunOf d mem2 v
    fun2 v i =
        let old : IsFunOf x.test h.mem v = x.records.each_fun v i in
        record { name = old.name; arity = old.arity; is = fun-stays x.test d h.mem mem2 v old.name old.arity kept02 old.is }

    counted2 : (v m : ℕ) → IsRecord d mem2 v m → 1 ≤ count_in mem2 v
    counted2 v m r =
        let old : IsRecord x.test h.mem v m = record-old v m r in
        omega (arith, role-same (v + 2) COUNT (λ f. omega (arith, f)) (record-counted d mem2 v m r), z.counts v m old, x.records.counted v m old)

    records2 : RecordsStand d mem2 shared h.bins.items h.funs.items
    records2 = record {
      all = λ v m r. x.records.all v m (record-old v m r);
      once = x.records.once;
      each_bin = bin2;
      each_fun = fun2;
      serials = rise-same h.mem mem2 h.bins.items (λ v i. owner2 v (x.records.each_bin v i).is.second) x.records.serials;
      codes = rise-same h.mem mem2 h.funs.items (λ v i. owner2 v (x.records.each_fun v i).is.second) x.records.codes;
      counted = counted2;
    }

    trees2 : (v : ℕ) (u : Tree) → Stands x.test shared h.mem v u → Stands d shared mem2 v u
    trees2 v u s = (frame x.test d h.mem mem2 kept02).each shared v u s

    processes2 : ProcsStand d shared mem2 h.room.end (end_of h) named h.procs.items qs
    processes2 = procs-on x.test d shared shared h.mem mem2 named h.room.end h.room.end (end_of h) trees2 bare-same
        (λ q k above below bare e. bare k (role-old q k (omega (arith, above, order)) e)) (omega arith) h.procs.items qs x.processes

    limit2 : end_of h ≡ h.base + length mem2 / 2
    limit2 = omega (arith, len2)

    -- The half with the copy.
    abbrev pub copied : Halves
    copied = filled h mem2 (record h.room { top = top2 }) hd n h.bins h.funs

    stands2 : HalvesStand named copied shared qs
    stands2 =
        let L : ℕ → Type 0 = λ u. (a k : ℕ) → d a k ≡ true → ((front_of h ≤ a) × ((a < top2) × OfObject k)) ⊎ ((h.room.end ≤ a) × ((a < u) × OfRecord k)) in
        let P : ℕ → Type 0 = λ u. ProcsStand d shared mem2 h.room.end u named h.procs.items qs in
        record {
          test = d;
          single = z.single;
          lie = subst L limit2 lie2;
          chained = os;
          linked = number;
          links = links;
          inside = inside2;
          every = every2;
          records = records2;
          fun_names = λ v i. omega (arith, owner2 v (x.records.each_fun v i).is.second, x.fun_names v i);
          processes = subst P limit2 processes2;
          apart = apart-kept x.test shared h.mem mem2 h.room.end (end_of h) named h.procs.items qs bare-same x.processes x.apart;
        }

    made2 : Stands d shared mem2 result t
    made2 = (frame d d mem1 mem2 kept12).each shared result t z.made

    whole : AllStand d shared mem1 (result ∷ []) (t ▹ end)
    unfolding AllStand
    whole = (z.made, tt)

    pub has-copy : HasCopy named h copied shared qs x result t
    unfolding stands2
    has-copy = record {
      stands = stands2;
      made = made2;
      kept = kept02;
      bare = bare-same;
      words = words;
      alone = λ v r p.
          let before : Reach mem1 (result ∷ []) v = carried-reach d d mem1 mem2 (kept-carried d d mem1 mem2 kept12) shared (result ∷ []) (t ▹ end) whole v r in
          elim (z.alone (λ u k tree st q is. absurd (true≢false (sym is ∙ none (u / 4)))) v before p) [
            | inl lies ↦ lies.0
            | inr is ↦ absurd (true≢false (sym is ∙ none (v / 4)))
          ];
    }

    first-there : (v : ℕ) → In v (records_of h) → x.test v RECORD_FIRST ≡ true
    first-there v i = elim (in-both v h.bins.items h.funs.items i) [ inl a ↦ (x.records.each_bin v a).is.first | inr b ↦ (x.records.each_fun v b).is.first ]

    pub copied-laid : IsLaid copied
    copied-laid = record {
      even = omega (arith, len2, laid.even);
      starts = laid.starts;
      side = elim laid.side [ inl c ↦ inl c | inr c ↦ inr (omega (arith, c, len2)) ];
      front = omega (arith, laid.front, words);
      order = order;
      fits = omega (
        arith,
        laid.fits,
        len2,
        total-same (record_words mem2) (record_words h.mem) (records_of h) (λ v i. ap (λ u. u / 16) (kept02.same v RECORD_FIRST (omega arith) (first-there v i))),
      );
    }

-- Lists that are turned round.

turned-in : (xs ys : List ℕ) (p : ℕ) → In p (turned xs ys) → In p xs ⊎ In p ys
turned-in [] ys p i = inr i
turned-in (x ∷ xs) ys p i = elim (turned-in xs (x ∷ ys) p i) [ inl a ↦ inl (inr a) | inr (inl e) ↦ inl (inl e) | inr (inr b) ↦ inr b ]

in-turned : (xs ys : List ℕ) (p : ℕ) → In p xs ⊎ In p ys → In p (turned xs ys)
in-turned [] ys p (inl i) = absurd i
in-turned [] ys p (inr i) = i
in-turned (x ∷ xs) ys p (inl (inl e)) = in-turned xs (x ∷ ys) p (inr (inl e))
in-turned (x ∷ xs) ys p (inl (inr i)) = in-turned xs (x ∷ ys) p (inl i)
in-turned (x ∷ xs) ys p (inr i) = in-turned xs (x ∷ ys) p (inr (inr i))

none-in : (xs : List ℕ) → ((p : ℕ) → In p xs → ⊥) → xs ≡ []
none-in [] none = refl
none-in (x ∷ xs) none = absurd (none x (inl refl))

-- The calls: a copy, and then its holders and funs come into the chain where it has objects.
module _ (h : Halves) (w : ℕ) (r : CanCopyIn h w) where
  pub can-copy : length h.mem ≤ 16777216 → CanCopy h.mem h.room w
  can-copy most = record {
    test = r.stands.test;
    shared = r.shared;
    tree = r.tree;
    single = r.stands.single;
    standing = r.made;
    clear = free-there r.named h r.shared r.processes r.stands r.laid;
    fits = r.fits;
    counts = counts-few r.named h r.shared r.processes r.stands r.laid most;
  }

  pub room-here : IsRoom h.room h.mem
  room-here = room-there r.named h r.shared r.processes r.stands r.laid

  module _ (stay : ℕ → Bool) (none : (q : ℕ) → stay q ≡ false) (mem1 : List ℕ) (top2 result : ℕ) (order : top2 ≤ h.room.end)
      (copies : (c : ℕ → ℕ → Bool) (shared : List (List ℕ)) (t : Tree) → IsSingle c → Stands c shared h.mem w t → IsFree c h.room.top h.room.end
      → CopiesTree (task_of h stay c shared w t) mem1 top2 result) where
    copy-of : (named : ℕ) (shared : List (List ℕ)) (qs : List Process) (x : HalvesStand named h shared qs) (t : Tree) → Stands x.test shared h.mem w t
        → CopiesTree (task_of h stay x.test shared w t) mem1 top2 result
    copy-of named shared qs x t s = copies x.test shared t x.single s (free-there named h shared qs x r.laid)

    abbrev some-copy : CopiesTree (task_of h stay r.stands.test r.shared w r.tree) mem1 top2 result
    some-copy = copy-of r.named r.shared r.processes r.stands r.tree r.made

    pub row-there : IsRow mem1 h.room.top top2
    row-there = record { ws = some-copy.tiles; are = some-copy.row; inside = omega (arith, order, room-here.inside, some-copy.same_len) }

    module _ (empty : h.linked ≡ 0) where
      module _ (named : ℕ) (shared : List (List ℕ)) (qs : List Process) (x : HalvesStand named h shared qs) (t : Tree) (s : Stands x.test shared h.mem w t) where
        abbrev z : CopiesTree (task_of h stay x.test shared w t) mem1 top2 result
        z = copy-of named shared qs x t s

        no-new : (p : ℕ) → In p (links_in mem1 z.tiles) → ⊥
        no-new = no-links named h shared qs r.laid x stay none w t mem1 top2 result z order (x.linked ∙ empty)

        links-there : Links z.test mem1 h.head x.chained []
        links-there =
            let P : List ℕ → Type 0 = λ v. Links z.test mem1 h.head x.chained (v ++ []) in
            subst P (none-in (links_in mem1 z.tiles) no-new) (links1 named h shared qs r.laid x stay none w t mem1 top2 result z order)

        abbrev comes : (p : ℕ) → In p x.chained → In p (links_in mem1 z.tiles) ⊎ In p x.chained
        comes p i = inr i

        stays-in : (p : ℕ) → In p (links_in mem1 z.tiles) ⊎ In p x.chained → In p x.chained
        stays-in p (inl i) = absurd (no-new p i)
        stays-in p (inr i) = i

        pub plain-copy : HasCopy named h (filled h mem1 (record h.room { top = top2 }) h.head h.linked h.bins h.funs) shared qs x result t
        plain-copy = has-copy named h shared qs r.laid x stay none w t mem1 top2 result z order mem1 h.head h.linked x.chained refl (λ q free. refl) links-there x.linked comes stays-in

        pub plain-laid : IsLaid (filled h mem1 (record h.room { top = top2 }) h.head h.linked h.bins h.funs)
        plain-laid = copied-laid named h shared qs r.laid x stay none w t mem1 top2 result z order mem1 h.head h.linked x.chained refl (λ q free. refl) links-there x.linked comes stays-in

      pub copies-plain : CopiesIn h (filled h mem1 (record h.room { top = top2 }) h.head h.linked h.bins h.funs) w result
      copies-plain = record {
        laid = plain-laid r.named r.shared r.processes r.stands r.tree r.made;
        same_len = some-copy.same_len;
        base = refl;
        low = refl;
        procs = refl;
        bins = refl;
        funs = refl;
        sweeps = refl;
        copies = plain-copy;
      }

    module _ (mem2 : List ℕ) (chained : Chained) (row : (ws : List ℕ) → AreObjects mem1 h.room.top ws top2 → ChainsRow mem1 mem2 (links_in mem1 ws) h.head chained) where
      module _ (named : ℕ) (shared : List (List ℕ)) (qs : List Process) (x : HalvesStand named h shared qs) (t : Tree) (s : Stands x.test shared h.mem w t) where
        abbrev y : CopiesTree (task_of h stay x.test shared w t) mem1 top2 result
        y = copy-of named shared qs x t s

        abbrev news : List ℕ
        news = links_in mem1 y.tiles

        abbrev chains : ChainsRow mem1 mem2 news h.head chained
        chains = row y.tiles y.row

        links-chained : Links y.test mem2 chained.head (turned news x.chained) []
        links-chained = chains.links y.test x.chained [] y.single (links1 named h shared qs r.laid x stay none w t mem1 top2 result y order)
            (two-lists named h shared qs r.laid x stay none w t mem1 top2 result y order)

        number-there : length (turned news x.chained) ≡ h.linked + chained.count
        number-there = omega (arith, turned-length news x.chained, x.linked, chains.count)

        pub chained-copy : HasCopy named h (filled h mem2 (record h.room { top = top2 }) chained.head (h.linked + chained.count) h.bins h.funs) shared qs x result t
        chained-copy = has-copy named h shared qs r.laid x stay none w t mem1 top2 result y order mem2 chained.head (h.linked + chained.count) (turned news x.chained) chains.same_len chains.others
            links-chained number-there (turned-in news x.chained) (in-turned news x.chained)

        pub chained-laid : IsLaid (filled h mem2 (record h.room { top = top2 }) chained.head (h.linked + chained.count) h.bins h.funs)
        chained-laid = copied-laid named h shared qs r.laid x stay none w t mem1 top2 result y order mem2 chained.head (h.linked + chained.count) (turned news x.chained) chains.same_len
            chains.others links-chained number-there (turned-in news x.chained) (in-turned news x.chained)

        pub chained-few : h.linked + chained.count ≤ length mem2
        chained-few = omega (arith, number-there, few-links y.test mem2 (turned news x.chained) links-chained.once links-chained.each)

        chained-len : length mem2 ≡ length h.mem
        chained-len = chains.same_len ∙ y.same_len

      pub linked-few : h.linked + chained.count ≤ length h.mem
      linked-few = omega (
        arith,
        chained-few r.named r.shared r.processes r.stands r.tree r.made,
        chained-len r.named r.shared r.processes r.stands r.tree r.made,
      )

      pub copies-chained : CopiesIn h (filled h mem2 (record h.room { top = top2 }) chained.head (h.linked + chained.count) h.bins h.funs) w result
      copies-chained = record {
        laid = chained-laid r.named r.shared r.processes r.stands r.tree r.made;
        same_len = chained-len r.named r.shared r.processes r.stands r.tree r.made;
        base = refl;
        low = refl;
        procs = refl;
        bins = refl;
        funs = refl;
        sweeps = refl;
        copies = chained-copy;
      }
