-- The records were moved: what stood in the old half stands in the new one, and nothing of the old half is in use.
use Rattle.std.proofs.Common.{◌≡◌, ℕ, ◌+◌, ◌/◌, ◌<◌, ◌≤◌, ◌⊎◌, Bool, true, List, [], ◌∷◌, ◌++◌, length, get_or, refl, sym, ◌∙◌, ap, subst, arith, inl, inr}
use Rattle.std.proofs.lemmas.Bool.{and_parts}
use Rattle.plain_term.specs.Bytes.{shared_bytes}
use Rattle.plain_term.specs.Measures.{bin_words}
use Rattle.plain_term.specs.Tree.{Tree}
use Rattle.plain_term.specs.Tree.Trees.{end, ◌▹◌}
use Rattle.term_words.specs.Role.{NEXT, COUNT, NAMES, RECORD, OfObject, OfRecord, IsSingle, both}
use Rattle.term_words.specs.Object.{IsBinRecord, IsFunRecord, IsPointer, IsRecord, object_words}
use Rattle.term_words.specs.Stands.{Stands, AllStand}
use Rattle.term_words.specs.Reach.{Reach, IsNamed, PassTest, root}
use Rattle.term_words.specs.Counted.{In, Distinct, total}
use Rattle.term_words.proofs.Framing.Narrowing.{narrowed-word}
use Rattle.term_words.proofs.Reaching.Reached.{reached}
use Rattle.term_words.proofs.Placing.Roles.{object-role}
use Rattle.term_words.proofs.Totals.Members.{in-left, in-right}
use Rattle.shared_rec.specs.Record.{owner_in}
use Rattle.shared_rec.proofs.Records.{bin-copied, bin-same, fun-copied, fun-same, record-stays, record-within}
use Rattle.off_heap_list.specs.Links.{named, IsLink, Links}
use Rattle.off_heap_list.specs.Exact.{AllCounted}
use Rattle.off_heap_list.specs.Whole.{moved_of, turned, SweptWhole}
use Rattle.off_heap_list.specs.declared.whole.Survivors.{Survivors}
use Rattle.record_move.specs.Copies.{record_words, HasNamer, LeavesOld, RecordsMoved}
use Rattle.record_move.specs.Tables.{AreRecords, IsRenewed, OwnersRise, renewed}
use Rattle.record_move.proofs.Narrow.{in-room, narrow-links, narrow-some, wide-record}
use Rattle.record_move.proofs.Renewing.{renewed-all, renewed-both, renewed-fits, renewed-made, renewed-once, renewed-owners}
use Rattle.cheney.specs.declared.moving.Moving.{Moving}
use Rattle.cheney.specs.Collected.{Collected}
use Rattle.cheney.specs.Rooms.{top_of}
use Rattle.record_move.proofs.Leaving.{record-back, role-goes}
use Rattle.record_tables.specs.Listed.{IsBinOf, IsFunOf, RecordsStand}
use Rattle.two_halves.specs.Halves.{ProcsStand, Standing, front_of, records_of}
use Rattle.term_order.specs.Held.{HoldsTree}
use Rattle.two_halves.specs.declared.halves.Halves.{Halves}
use Rattle.two_halves.specs.declared.table.Proc.{Proc}
use Rattle.record_tables.proofs.Counting.{IsCounting, counting}
use Rattle.two_halves.proofs.Collected.Ended.{Scanned, procs-there, sides-there, top-between, whole}
use Rattle.two_halves.proofs.Standing.Keeping.{procs-on}
use Rattle.two_halves.proofs.Collected.Planned.{Target, plan_of}
use Rattle.two_halves.proofs.Standing.Stacks.{AreKept}
use Rattle.two_halves.proofs.Collected.Swept.{apart-halves, bare-there, between, between-is, every-there, is-between, listed, new-within, remaining, role-there, roles}

module _ (h : Halves) (t : Target) (x : Standing h) (m : List ℕ) (mv : Moving) (news : List Proc) (y : Scanned h t x m mv news) (mem4 : List ℕ) (left : Survivors)
    (w : SweptWhole (roles h t x m mv news y).test m mem4 x.stands.chained (turned (moved_of m x.stands.chained) []) [] left) (mem5 : List ℕ) (low : ℕ) (above : mv.young.top ≤ low)
    (r : RecordsMoved (roles h t x m mv news y).test mem4 mem5 left.first (turned (moved_of m x.stands.chained) []) low t.to) where
  abbrev was : ℕ → ℕ → Bool
  was = (roles h t x m mv news y).test

  abbrev objects : List ℕ
  objects = turned (moved_of m x.stands.chained) []

  abbrev pub settled : ℕ → ℕ → Bool
  settled = both r.test (between t.base t.end)

  top-inside : (t.base ≤ t.from) × ((t.from ≤ mv.young.top) × ((low ≤ t.to) × (t.to ≤ t.end)))
  top-inside = (omega (arith, y.target.first), ((top-between h t x m mv news y).0, (r.order, omega (arith, (sides-there h t x m mv news y).ends))))

  -- Words of objects lie in the new half by the wider test too.
  object-new : (a k : ℕ) → OfObject k → r.test a k ≡ true → (t.from ≤ a) × (a < mv.young.top)
  object-new a k of e = elim (r.roles a k e) [
    | inl c ↦ elim (role-there h t x m mv news y a k c) [ inl object ↦ (object.0, object.1.0) | inr there ↦ absurd (omega (arith, of, there.1.1)) ]
    | inr rec ↦ absurd (omega (arith, of, rec))
  ]

  old-out : (a k : ℕ) → was a k ≡ true → between t.base t.end a k ≡ true → (t.from ≤ a) × ((a < mv.young.top) × OfObject k)
  old-out a k c e = elim (role-there h t x m mv news y a k c) [
    | inl object ↦ object
    | inr there ↦ absurd
        (let (from, to) = between-is t.base t.end a k e in
        apart-halves h t x m mv news y a (omega (arith, there.0, y.laid.front, y.laid.order)) there.1.0 from to)
  ]

  leaves : LeavesOld was objects low t.to (between t.base t.end)
  leaves = record {
    objects = λ o a k inside from below.
        let n = new-within h t x m mv news y o inside in
        is-between t.base t.end a k (omega (arith, n.0, from, top-inside)) (omega (arith, n.1, below, above, top-inside));
    copies = λ a k from below. is-between t.base t.end a k (omega (arith, from, above, top-inside)) (omega (arith, below, top-inside));
    none = λ a e f. let object = old-out a 8 e f in omega (arith, object.1.1);
  }

  pub links-there : Links settled mem5 left.first objects []
  links-there = narrow-links was mem4 mem5 left.first objects low t.to r (between t.base t.end) leaves

  pub counted-there : AllCounted settled mem5
  counted-there = narrow-some was mem4 mem5 left.first objects low t.to r (between t.base t.end) leaves

  parts-of : (a k : ℕ) → settled a k ≡ true → (r.test a k ≡ true) × (between t.base t.end a k ≡ true)
  parts-of a k e = and_parts (r.test a k) (between t.base t.end a k) e

  pub single-settled : IsSingle settled
  single-settled = record { one = λ a j k e f. r.single.one a j k (parts-of a j e).0 (parts-of a k f).0 }

  pub lie-there : (a k : ℕ) → settled a k ≡ true → ((t.from ≤ a) × ((a < mv.young.top) × OfObject k)) ⊎ ((low ≤ a) × ((a < t.to) × OfRecord k))
  lie-there a k e =
      let (f, g) = parts-of a k e in
      elim (r.roles a k f) [
        | inl c ↦ inl (old-out a k c g)
        | inr rec ↦ elim (r.comes a k f) [ inl c ↦ inl (old-out a k c g) | inr there ↦ inr (there.0, (there.1, rec)) ]
      ]

  pub bare-settled : (q k : ℕ) → t.to ≤ q → q < t.end → settled q k ≡ true → ⊥
  bare-settled q k from below e = elim (lie-there q k e) [ inl object ↦ omega (arith, object.1.0, above, from, top-inside) | inr there ↦ omega (arith, there.1.0, from) ]

  -- Every word `next` is that of an object of the chain.
  every-wide : (o : ℕ) → r.test (o + 2) NEXT ≡ true → In o objects
  every-wide o e = elim (r.roles (o + 2) NEXT e) [ inl c ↦ every-there h t x m mv news y o c | inr rec ↦ absurd (omega (arith, rec)) ]

  pub every-settled : (o : ℕ) → settled (o + 2) NEXT ≡ true → In o objects
  every-settled o e = every-wide o (parts-of (o + 2) NEXT e).0

  -- Trees.
  module _ (v : ℕ) (u : Tree) (s : Stands r.test x.shared mem5 v u) where
    alone : AllStand r.test x.shared mem5 (v ∷ []) (u ▹ end)
    unfolding AllStand
    alone = (s, tt)

    object-passes : (z q k : ℕ) → Reach mem5 (v ∷ []) z → IsPointer z → z / 4 ≤ q → q < z / 4 + object_words mem5 z → r.test q k ≡ true → between t.base t.end q k ≡ true
    object-passes z q k re p from below e =
        let (b, st) = reached r.test x.shared mem5 (v ∷ []) (u ▹ end) alone z re in
        let (j, (of, f)) = object-role r.test x.shared mem5 z b q st p from below in
        let n = object-new q j of f in
        is-between t.base t.end q k (omega (arith, n.0, top-inside)) (omega (arith, n.1, above, top-inside))

    record-passes : (z n q k : ℕ) → IsNamed r.test mem5 (v ∷ []) z → IsRecord r.test mem5 z n → z ≤ q → q < z + n → r.test q k ≡ true → between t.base t.end q k ≡ true
    record-passes z n q k name there from below e =
        let (b, st) = reached r.test x.shared mem5 (v ∷ []) (u ▹ end) alone name.w name.reached in
        let i : IsCounting r.test mem5 name.w (name.w / 4 + name.j) =
        counting r.test r.single x.shared mem5 name.w b (name.w / 4 + name.j) st name.pointer (omega arith) (omega (arith, name.below)) (inr name.role) in
        let inside : In (name.w / 4) objects = every-wide (name.w / 4) i.next in
        let is : z ≡ named mem5 (name.w / 4) = name.names ∙ ap (λ a. get_or mem5 a 0) (i.at_names name.role) in
        let P : ℕ → Type 0 = λ a. IsRecord r.test mem5 a n in
        let lies = r.lies (name.w / 4) n inside (subst P is there) in
        is-between t.base t.end q k (omega (arith, lies.0, is, from, above, top-inside)) (omega (arith, lies.1, is, below, top-inside))

    passes : PassTest r.test (between t.base t.end) mem5 (v ∷ [])
    passes = record { objects = object-passes; records = record-passes }

    pub narrow-tree : Stands settled x.shared mem5 v u
    narrow-tree = narrowed-word r.test (between t.base t.end) x.shared mem5 (v ∷ []) (u ▹ end) alone passes v u (root 0 v (omega arith) refl) s

  pub tree-settled : (v : ℕ) (u : Tree) → HoldsTree was x.shared m x.named v u → HoldsTree settled x.shared mem5 x.named v u
  tree-settled v u s = record {
    standing = narrow-tree v u (r.trees.each x.shared v u (w.trees.each x.shared v u s.standing));
    names = s.names;
  }

  -- Words without a role from the new places on are as they were.
  pub kept-there : AreKept was m mem5 t.to t.end
  kept-there q from below none =
      let not_next : (o : ℕ) → In o x.stands.chained → q ≡ o + 2 → ⊥ = λ o inside e.
      apart-halves h t x m mv news y q
      (let l : IsLink x.stands.test h.mem o = x.stands.links.each o inside in omega (arith, e, next-low o l))
      (omega (arith, e, x.stands.inside o inside, y.laid.order, y.laid.fits)) (omega (arith, from, top-inside, above)) below in
      r.writes q (inr from) (λ e. none COUNT e) (λ e. none NAMES e) ∙ w.writes.same q (λ e. none NEXT e) (λ e. none COUNT e) not_next
    where
      next-low : (o : ℕ) → IsLink x.stands.test h.mem o → front_of h ≤ o + 2
      next-low o l = elim (x.stands.lie (o + 2) NEXT l.next) [ inl object ↦ object.0 | inr there ↦ absurd (omega (arith, there.1.1)) ]

  pub procs-was : ProcsStand was x.shared m t.to t.end x.named news x.processes
  procs-was = procs-there h t x m mv news y was (roles h t x m mv news y).follows (bare-there h t x m mv news y)

  pub procs-settled : ProcsStand settled x.shared mem5 low t.end x.named news x.processes
  procs-settled =
      procs-on was settled x.shared m mem5 x.named x.named t.to low t.end tree-settled kept-there (λ q k from below none e. bare-settled q k from below e) r.order news x.processes procs-was

  -- The records of the old half, as they are before they move.
  done : Collected (plan_of h x t) m (top_of mv)
  done = whole h t x m mv news y

  abbrev stay : ℕ → ℕ → Bool
  stay = remaining h.room.end x.stands.test

  goes-on : (a k : ℕ) → OfRecord k → x.stands.test a k ≡ true → was a k ≡ true
  goes-on a k of e = role-goes (plan_of h x t) y.runs.ready m (top_of mv) done (remaining h.room.end x.stands.test) (roles h t x m mv news y) a k of e

  same-word : (a k : ℕ) → RECORD ≤ k → x.stands.test a k ≡ true → get_or mem4 a 0 ≡ get_or h.mem a 0
  same-word a k past e = w.content.same a k (omega (arith, past)) (goes-on a k (of-past a k past e) e) ∙ done.records a k past e
    where
      of-past : (a k : ℕ) → RECORD ≤ k → x.stands.test a k ≡ true → OfRecord k
      of-past a k past e = elim (x.stands.lie a k e) [ inl object ↦ absurd (omega (arith, past, object.1.1)) | inr there ↦ there.1.1 ]

  longer : length h.mem ≤ length mem4
  longer = omega (arith, done.same_len, w.writes.same_len)

  old-bin : (v serial : ℕ) (bytes : List ℕ) → IsBinRecord x.stands.test h.mem v serial bytes → IsBinRecord was mem4 v serial bytes
  old-bin = bin-same x.stands.test was h.mem mem4 longer goes-on same-word

  old-fun : (v name arity : ℕ) → IsFunRecord x.stands.test h.mem v name arity → IsFunRecord was mem4 v name arity
  old-fun = fun-same x.stands.test was h.mem mem4 longer goes-on same-word

  old-record : (v n : ℕ) → IsRecord x.stands.test h.mem v n → IsRecord was mem4 v n
  old-record v n (inl (serial, bytes, o, e)) = inl (serial, bytes, old-bin v serial bytes o, e)
  old-record v n (inr (name, arity, o, e)) = inr (name, arity, old-fun v name arity o, e)

  record-before : (v n : ℕ) → IsRecord was mem4 v n → IsRecord x.stands.test h.mem v n
  record-before v n there =
      record-back (plan_of h x t) y.runs.ready m (top_of mv) done (remaining h.room.end x.stands.test) (roles h t x m mv news y) v n (record-stays was was mem4 m v n w.back there)

  are-records : (vs : List ℕ) → ((v : ℕ) → In v vs → In v (records_of h)) → AreRecords was mem4 vs
  are-records vs among v i = let (n, there) = listed h t x m mv news y mem4 left w v (among v i) in (n, old-record v n there)

  are-bins : AreRecords was mem4 h.bins.items
  are-bins = are-records h.bins.items (λ v i. in-left v h.bins.items h.funs.items i)

  are-funs : AreRecords was mem4 h.funs.items
  are-funs = are-records h.funs.items (λ v i. in-right v h.bins.items h.funs.items i)

  are-all : AreRecords was mem4 (records_of h)
  are-all = are-records (records_of h) (λ v i. i)

  owner-same : (v n : ℕ) → IsRecord x.stands.test h.mem v n → owner_in mem4 v ≡ owner_in h.mem v
  owner-same v n (inl (serial, bytes, o, e)) = same-word (v + 1) RECORD (omega arith) o.second
  owner-same v n (inr (name, arity, o, e)) = same-word (v + 1) RECORD (omega arith) o.second

  owners-same : (vs : List ℕ) → ((v : ℕ) → In v vs → owner_in mem4 v ≡ owner_in h.mem v) → OwnersRise h.mem vs → OwnersRise mem4 vs
  owners-same [] same o = tt
  owners-same (v ∷ vs) same (first, rest) =
      ((λ z i. omega (arith, first z i, same v (inl refl), same z (inr i))), owners-same vs (λ z i. same z (inr i)) rest)

  owner-of : (v : ℕ) → In v (records_of h) → owner_in mem4 v ≡ owner_in h.mem v
  owner-of v i = let (n, there) = listed h t x m mv news y mem4 left w v i in owner-same v n there

  -- A record of the new half, by the narrower test.
  narrow-roles : (u n : ℕ) → low ≤ u → u + n ≤ t.to → (q k : ℕ) → u ≤ q → q < u + n → r.test q k ≡ true → settled q k ≡ true
  narrow-roles u n from to q k high under e =
      let f : between t.base t.end q k ≡ true = is-between t.base t.end q k (omega (arith, from, high, above, top-inside)) (omega (arith, to, under, top-inside)) in
      rw (e, f) refl

  name-there : (o : ℕ) (inside : In o objects) → (n : ℕ) → IsRecord r.test mem5 (named mem5 o) n → (low ≤ named mem5 o) × (named mem5 o + n ≤ t.to)
  name-there o inside n there = r.lies o n inside there

  bin-there : (v : ℕ) → In v (renewed mem5 h.bins.items) → IsBinOf settled mem5 x.shared v
  bin-there v i =
      let g : IsRenewed mem4 mem5 objects h.bins.items v = renewed-made was mem4 mem5 left.first objects low t.to r h.bins.items are-bins v i in
      let old : IsBinOf x.stands.test h.mem x.shared (named mem4 g.o) = x.stands.records.each_bin (named mem4 g.o) g.was in
      let serial : ℕ = owner_in h.mem (named mem4 g.o) in
      let wide : IsBinRecord r.test mem5 (named mem5 g.o) (owner_in h.mem (named mem4 g.o)) (shared_bytes x.shared (owner_in h.mem (named mem4 g.o))) =
      r.bins g.o (owner_in h.mem (named mem4 g.o)) (shared_bytes x.shared (owner_in h.mem (named mem4 g.o))) g.inside
      (old-bin (named mem4 g.o) (owner_in h.mem (named mem4 g.o)) (shared_bytes x.shared (owner_in h.mem (named mem4 g.o))) old.is) in
      let P : ℕ → Type 0 = λ z. IsBinRecord r.test mem5 z (owner_in h.mem (named mem4 g.o)) (shared_bytes x.shared (owner_in h.mem (named mem4 g.o))) in
      let here : IsBinRecord r.test mem5 v (owner_in h.mem (named mem4 g.o)) (shared_bytes x.shared (owner_in h.mem (named mem4 g.o))) = subst P g.is wide in
      let lies = name-there g.o g.inside (4 + bin_words (length (shared_bytes x.shared (owner_in h.mem (named mem4 g.o)))))
      (inl (owner_in h.mem (named mem4 g.o), shared_bytes x.shared (owner_in h.mem (named mem4 g.o)), wide, refl)) in
      let narrow : IsBinRecord settled mem5 v (owner_in h.mem (named mem4 g.o)) (shared_bytes x.shared (owner_in h.mem (named mem4 g.o))) =
      bin-copied r.test settled mem5 mem5 v v (owner_in h.mem (named mem4 g.o)) (shared_bytes x.shared (owner_in h.mem (named mem4 g.o))) (record {
        within = here.within;
        roles = λ j q k below e f.
            let R : ℕ → Type 0 = λ z. r.test z k ≡ true in
            narrow-roles v (4 + bin_words (length (shared_bytes x.shared (owner_in h.mem (named mem4 g.o))))) (omega (arith, lies.0, g.is)) (omega (arith, lies.1, g.is)) q k (omega (arith, e))
            (omega (arith, e, below)) (subst R (sym e) f);
        same = λ j q below some e. ap (λ z. get_or mem5 z 0) e;
      }) here in
      let Q : ℕ → Type 0 = λ z. IsBinRecord settled mem5 v z (shared_bytes x.shared z) in
      record {
        from_one = omega (arith, here.owner, old.from_one);
        known = omega (arith, here.owner, old.known);
        is = subst Q (sym here.owner) narrow;
      }

  fun-there : (v : ℕ) → In v (renewed mem5 h.funs.items) → IsFunOf settled mem5 v
  fun-there v i =
      let g : IsRenewed mem4 mem5 objects h.funs.items v = renewed-made was mem4 mem5 left.first objects low t.to r h.funs.items are-funs v i in
      let old : IsFunOf x.stands.test h.mem (named mem4 g.o) = x.stands.records.each_fun (named mem4 g.o) g.was in
      let wide : IsFunRecord r.test mem5 (named mem5 g.o) old.name old.arity = r.funs g.o old.name old.arity g.inside (old-fun (named mem4 g.o) old.name old.arity old.is) in
      let P : ℕ → Type 0 = λ z. IsFunRecord r.test mem5 z old.name old.arity in
      let here : IsFunRecord r.test mem5 v old.name old.arity = subst P g.is wide in
      let lies = name-there g.o g.inside 4 (inr (old.name, old.arity, wide, refl)) in
      record {
        name = old.name;
        arity = old.arity;
        is = fun-copied r.test settled mem5 mem5 v v old.name old.arity (record {
          within = here.within;
          roles = λ j q k below e f.
              let R : ℕ → Type 0 = λ z. r.test z k ≡ true in
              narrow-roles v 4 (omega (arith, lies.0, g.is)) (omega (arith, lies.1, g.is)) q k (omega (arith, e)) (omega (arith, e, below)) (subst R (sym e) f);
          same = λ j q below some e. ap (λ z. get_or mem5 z 0) e;
        }) here;
      }

  pub names-there : (v : ℕ) → In v (renewed mem5 h.funs.items) → owner_in mem5 v / 256 < x.named
  names-there v i =
      let g : IsRenewed mem4 mem5 objects h.funs.items v = renewed-made was mem4 mem5 left.first objects low t.to r h.funs.items are-funs v i in
      let old : IsFunOf x.stands.test h.mem (named mem4 g.o) = x.stands.records.each_fun (named mem4 g.o) g.was in
      let wide : IsFunRecord r.test mem5 (named mem5 g.o) old.name old.arity = r.funs g.o old.name old.arity g.inside (old-fun (named mem4 g.o) old.name old.arity old.is) in
      let owner : owner_in mem5 v ≡ owner_in h.mem (named mem4 g.o) = ap (owner_in mem5) (sym g.is) ∙ (wide.owner ∙ sym old.is.owner) in
      omega (arith, owner, x.stands.fun_names (named mem4 g.o) g.was)

  all-there : (v n : ℕ) → IsRecord settled mem5 v n → In v (renewed mem5 h.bins.items ++ renewed mem5 h.funs.items)
  all-there v n there =
      let here = in-room was mem4 mem5 left.first objects low t.to r (between t.base t.end) leaves v n there in
      let wide : IsRecord r.test mem5 v n = wide-record was mem4 mem5 left.first objects low t.to r (between t.base t.end) leaves v n there in
      let g : HasNamer mem5 objects v = r.namers v n wide here.0 here.1 in
      let l : IsLink was mem4 g.o = w.links.each g.o g.inside in
      let before : In (named mem4 g.o) (records_of h) = x.stands.records.all (named mem4 g.o) l.words (record-before (named mem4 g.o) l.words l.record_is) in
      let P : ℕ → Type 0 = λ z. In z (renewed mem5 (records_of h)) in
      let Q : List ℕ → Type 0 = λ z. In v z in
      subst Q (renewed-both mem5 h.bins.items h.funs.items) (subst P g.names (renewed-all was mem4 mem5 left.first objects low t.to r (records_of h) g.o g.inside before))

  pub records-there : RecordsStand settled mem5 x.shared (renewed mem5 h.bins.items) (renewed mem5 h.funs.items)
  records-there = record {
    all = all-there;
    once =
        subst Distinct (renewed-both mem5 h.bins.items h.funs.items)
        (renewed-once was mem4 mem5 left.first objects low t.to r (records_of h) are-all x.stands.records.once);
    each_bin = bin-there;
    each_fun = fun-there;
    serials = renewed-owners was mem4 mem5 left.first objects low t.to r h.bins.items are-bins
        (owners-same h.bins.items (λ v i. owner-of v (in-left v h.bins.items h.funs.items i)) x.stands.records.serials);
    codes = renewed-owners was mem4 mem5 left.first objects low t.to r h.funs.items are-funs
        (owners-same h.funs.items (λ v i. owner-of v (in-right v h.bins.items h.funs.items i)) x.stands.records.codes);
    counted = counted-there;
  }

  -- What is read of objects is as it was.
  pub plain-same : (a k : ℕ) → (k ≡ 3) ⊎ (k ≡ 4) → was a k ≡ true → get_or mem5 a 0 ≡ get_or m a 0
  plain-same a k of e =
      let alone : (j : ℕ) → (j ≡ COUNT) ⊎ (j ≡ NAMES) → was a j ≡ true → ⊥ = λ j is f.
      let same : j ≡ k = (roles h t x m mv news y).single.one a j k f e in omega (arith, same, is, of) in
      elim (role-there h t x m mv news y a k e) [
        | inr there ↦ absurd (omega (arith, there.1.1, of))
        | inl object ↦ r.writes a (inl (omega (arith, object.1.0, above))) (alone COUNT (inl refl)) (alone NAMES (inr refl)) ∙ w.content.same a k (omega (arith, of)) e
      ]

  pub within-there : (v : ℕ) → In v (records_of h) → v + 4 ≤ length mem5
  within-there v i =
      let (n, there) = listed h t x m mv news y mem4 left w v i in
      let size = record-within x.stands.test h.mem v n there in
      omega (arith, size.0, size.1, longer, r.same_len)

  pub bins-within : (v : ℕ) → In v h.bins.items → v + 4 ≤ length mem5
  bins-within v i = within-there v (in-left v h.bins.items h.funs.items i)

  pub funs-within : (v : ℕ) → In v h.funs.items → v + 4 ≤ length mem5
  funs-within v i = within-there v (in-right v h.bins.items h.funs.items i)

  pub fits-there : low + total (record_words mem5) (renewed mem5 h.bins.items ++ renewed mem5 h.funs.items) ≤ t.to
  fits-there =
      let P : List ℕ → Type 0 = λ z. low + total (record_words mem5) z ≤ t.to in
      subst P (renewed-both mem5 h.bins.items h.funs.items) (renewed-fits was mem4 mem5 left.first objects low t.to r (records_of h) are-all x.stands.records.once r.order)
