-- The collection is done.
use Rattle.std.proofs.Common.{Vec, ◌≡◌, ℕ, ◌+◌, ◌-◌, ◌*◌, ◌/◌, ◌%◌, ◌<◌, ◌≤◌, ◌⊎◌, ◌==◌, if◌then◌else◌, Bool, true}
use Rattle.std.proofs.Common.{false, List, [], ◌∷◌, ◌++◌, Some, length, get_or, refl, sym, ◌∙◌, ap, subst, arith, inl, inr}
use Rattle.std.specs.Vec.{vec_capacity, with_items}
use Rattle.std.specs.declared.alloc.Global.{Global}
use Rattle.std.proofs.lemmas.List.{with_items_is}
use Rattle.plain_term.specs.Tree.{Tree, Trees}
use Rattle.term_tags.specs.Table.{layout_for}
use Rattle.term_tags.specs.declared.layouts.Layout.{Layout}
use Rattle.term_words.specs.Role.{IsSingle}
use Rattle.term_words.specs.Object.{IsPointer, object_words}
use Rattle.term_words.specs.Reach.{Reach, first_of, first_traced, root, part}
use Rattle.term_words.specs.Stands.{AllStand}
use Rattle.term_words.specs.Counted.{In, total}
use Rattle.term_words.specs.Tiled.{IsRecordHeader, IsTile, Tiled, tile_words}
use Rattle.term_words.proofs.Reaching.Carrying.{traced-role}
use Rattle.term_words.proofs.Reaching.Reached.{reached}
use Rattle.term_words.proofs.Placing.Roles.{first-role}
use Rattle.off_heap_list.specs.Links.{Leads, next_in}
use Rattle.off_heap_list.specs.Swept.{Sweeping}
use Rattle.off_heap_list.specs.Whole.{moved_of, ordered, turned, CanSweep, SweptWhole}
use Rattle.off_heap_list.specs.declared.whole.Order.TheVariants.{Turned}
use Rattle.off_heap_list.specs.declared.whole.Survivors.{Survivors}
use Rattle.record_move.specs.Copies.{record_words, RecordsCanMove, AllRecordsCanMove, RecordsMoved}
use Rattle.record_move.specs.Tables.{renewed}
use Rattle.cheney.specs.declared.moving.Moving.{Moving}
use Rattle.cheney.specs.Plan.{Leaves, Reached}
use Rattle.cheney.specs.Moved.{forward}
use Rattle.cheney.specs.Rooms.{top_of}
use Rattle.cheney.specs.Collected.{Collected, IsMoved}
use Rattle.cheney.specs.Next.{IsTiled}
use Rattle.two_halves.specs.Stack.{AreApart}
use Rattle.record_tables.specs.Listed.{RecordsStand}
use Rattle.two_halves.specs.Halves.{HalvesStand, IsLaid, ProcsStand, Standing, all_places, places_in, records_of, used_in}
use Rattle.two_halves.specs.Reached.{AllReached, ChainReached, held_words, named_words, roots_in}
use Rattle.two_halves.specs.Collecting.{AreSameRows, Collects}
use Rattle.two_halves.specs.declared.halves.Halves.{Halves}
use Rattle.two_halves.specs.declared.table.Proc.{Proc}
use Rattle.two_halves.proofs.Collected.Ended.{Scanned, copy-there, objects-few, objects-held, row-count, same, same-places, sides-there, tiles-there, top-between, whole}
use Rattle.two_halves.proofs.Standing.Apart.{apart-kept}
use Rattle.two_halves.proofs.Collected.Bounded.{Bounded, bounded}
use Rattle.two_halves.proofs.Standing.Held.{have-stacks, roots-stand, trees_of}
use Rattle.two_halves.proofs.Standing.Keeping.{roots-kept}
use Rattle.two_halves.proofs.Collected.Planned.{Target, plan_of}
use Rattle.two_halves.proofs.Collected.Settled.{bins-within, every-settled, fits-there, funs-within, kept-there, lie-there, links-there}
use Rattle.two_halves.proofs.Collected.Settled.{names-there, plain-same, procs-settled, procs-was, records-there, settled, single-settled}
use Rattle.two_halves.proofs.Collected.Swept.{IsNew, can-move-all, can-move-there, can-sweep, is-new, low-above, new-within, roles, sweeping}

-- What roots reach they reach where objects have the same words.
module _ (c : ℕ → ℕ → Bool) (shared : List (List ℕ)) (mem mem2 roots : List ℕ) (ts : Trees) (all : AllStand c shared mem roots ts)
    (plain : (a k : ℕ) → (k ≡ 3) ⊎ (k ≡ 4) → c a k ≡ true → get_or mem2 a 0 ≡ get_or mem a 0) where
  module _ (w : ℕ) (t : Tree) (r : Reach mem roots w) (p : IsPointer w) where
    header-same : get_or mem2 (w / 4) 0 ≡ get_or mem (w / 4) 0
    header-same = let (u, s) = reached c shared mem roots ts all w r in plain (w / 4) 3 (inl refl) (first-role c shared mem w u s p)

    words-same : object_words mem2 w ≡ object_words mem w
    words-same = let size : ℕ → ℕ = λ h. if w % 4 == 1 then 2 else 1 + h / 64 in ap size header-same

    first-same : first_traced mem2 w ≡ first_traced mem w
    first-same =
        let first : ℕ → ℕ = λ h. if w % 4 == 1 then 0 else first_of (layout_for h) (if w % 4 == 1 then 2 else 1 + h / 64) in
        ap first header-same

    traced-same : (j : ℕ) → first_traced mem w ≤ j → j < object_words mem w → get_or mem2 (w / 4 + j) 0 ≡ get_or mem (w / 4 + j) 0
    traced-same j from below =
        let (u, s) = reached c shared mem roots ts all w r in
        elim (traced-role c shared mem w u j s p from below) [ inl first ↦ plain (w / 4 + j) 3 (inl refl) first | inr other ↦ plain (w / 4 + j) 4 (inr refl) other ]

  reach-same : (w : ℕ) → Reach mem roots w → Reach mem2 roots w
  reach-same w (root i x below e) = root i x below e
  reach-same w (part v j x r p from below e) =
      let (u, s) = reached c shared mem roots ts all v r in
      part v j x (reach-same v r) p (omega (arith, first-same v u r p, from)) (omega (arith, words-same v u r p, below)) (e ∙ sym (traced-same v u r p j from below))

-- What a tile is by its first word.
abbrev IsTileBy : (w h : ℕ) → Type 0
IsTileBy w h = ((w % 4 ≡ 1) × (h % 4 ≡ 0 → ⊥)) ⊎ (((w % 4 ≡ 2) × ((l : Layout) × (layout_for h ≡ Some l))) ⊎ ((w % 4 ≡ 0) × IsRecordHeader h))

-- Tiles are the same where their first words are.
tile-same : (mem mem2 : List ℕ) (w : ℕ) → get_or mem2 (w / 4) 0 ≡ get_or mem (w / 4) 0 → IsTile mem w → IsTile mem2 w
tile-same mem mem2 w e i = subst (IsTileBy w) (sym e) i

tiled-same : (mem mem2 : List ℕ) (from : ℕ) (ws : List ℕ) (to : ℕ) → ((w : ℕ) → In w ws → get_or mem2 (w / 4) 0 ≡ get_or mem (w / 4) 0) → Tiled mem from ws to → Tiled mem2 from ws to
tiled-same mem mem2 from [] to as_it t = t
tiled-same mem mem2 from (w ∷ ws) to as_it (place, tile, rest) =
    let e : get_or mem2 (w / 4) 0 ≡ get_or mem (w / 4) 0 = as_it w (inl refl) in
    let size : tile_words mem w ≡ tile_words mem2 w = ap (λ h. if w % 4 == 0 then h / 16 else (if w % 4 == 1 then 2 else 1 + h / 64)) (sym e) in
    let P : ℕ → Type 0 = λ z. Tiled mem2 (from + z) ws to in
    (place, tile-same mem mem2 w e tile, subst P size (tiled-same mem mem2 (from + tile_words mem w) ws to (λ v i. as_it v (inr i)) rest))

-- A chain of so many objects is one.
one-chain : (mem : List ℕ) (from : ℕ) (xs ys : List ℕ) (to : ℕ) → length xs ≡ length ys → Leads mem from xs to → Leads mem from ys to → xs ≡ ys
one-chain mem from [] [] to e a b = refl
one-chain mem from [] (y ∷ ys) to e a b = absurd (omega (arith, e))
one-chain mem from (x ∷ xs) [] to e a b = absurd (omega (arith, e))
one-chain mem from (x ∷ xs) (y ∷ ys) to e (a, as_they) (b, bs) =
    let head : x ≡ y = sym a ∙ b in
    let P : ℕ → Type 0 = λ z. Leads mem (next_in mem z) xs to in
    ap (λ z. z ∷ xs) head ∙ ap (λ zs. y ∷ zs) (one-chain mem (next_in mem y) xs ys to (omega (arith, e)) (subst P head as_they) bs)

-- The halves after a collection.
abbrev pub moved_to : Halves → Target → (mem : List ℕ) → (top low : ℕ) → List Proc → (first len : ℕ) → (bins funs : Vec ℕ Global) → Halves
moved_to h t mem top low news first len bins funs = record {
  mem = mem;
  base = t.base;
  room = record { start = t.base + 2; top = top; end = low };
  procs = with_items h.procs news;
  head = first;
  linked = len;
  bins = bins;
  funs = funs;
  sweeps = h.sweeps + 1;
}

pub may-sweep : (h : Halves) (t : Target) (m : List ℕ) (mv : Moving) (news : List Proc) → ((x : Standing h) → Scanned h t x m mv news) → Standing h → CanSweep m h.head h.linked
may-sweep h t m mv news scan x = can-sweep h t x m mv news (scan x)

module _ (h : Halves) (t : Target) (m : List ℕ) (mv : Moving) (news : List Proc) (scan : (x : Standing h) → Scanned h t x m mv news) (mem4 : List ℕ) (left : Survivors)
    (sweeps : (c : ℕ → ℕ → Bool) (os further : List ℕ) → IsSingle c → length os ≡ h.linked → Sweeping c m h.head os 0 [] 0 [] further
    → SweptWhole c m mem4 os (ordered Turned (moved_of m os)) further left) where
  swept : (x : Standing h) → SweptWhole (roles h t x m mv news (scan x)).test m mem4 x.stands.chained (turned (moved_of m x.stands.chained) []) [] left
  swept x = sweeps (roles h t x m mv news (scan x)).test x.stands.chained [] (roles h t x m mv news (scan x)).single x.stands.linked (sweeping h t x m mv news (scan x))

  pub may-move-all : (x : Standing h) → AllRecordsCanMove mem4 left.first left.len t.to
  may-move-all x = can-move-all h t x m mv news (scan x) mem4 left (swept x)

  may-move : (x : Standing h) → RecordsCanMove (roles h t x m mv news (scan x)).test mem4 left.first (turned (moved_of m x.stands.chained) []) (t.to - total (record_words h.mem) (records_of h)) t.to
  may-move x = can-move-there h t x m mv news (scan x) mem4 left (swept x)

  module _ (mem5 : List ℕ) (low : ℕ)
      (moves : (c : ℕ → ℕ → Bool) (os : List ℕ) (from : ℕ) → length os ≡ left.len → RecordsCanMove c mem4 left.first os from t.to
      → (from ≤ low) × RecordsMoved c mem4 mem5 left.first os low t.to) where
    moved : (x : Standing h)
        → (t.to - total (record_words h.mem) (records_of h) ≤ low) × RecordsMoved (roles h t x m mv news (scan x)).test mem4 mem5 left.first (turned (moved_of m x.stands.chained) []) low t.to
    moved x =
        moves (roles h t x m mv news (scan x)).test (turned (moved_of m x.stands.chained) []) (t.to - total (record_words h.mem) (records_of h)) (sym (swept x).len) (may-move x)

    over : (x : Standing h) → mv.young.top ≤ low
    over x = omega (arith, (moved x).0, low-above h t x m mv news (scan x) mem4 left (swept x))

    pub bins-in : (x : Standing h) → (v : ℕ) → In v h.bins.items → v + 4 ≤ length mem5
    bins-in x = bins-within h t x m mv news (scan x) mem4 left (swept x) mem5 low (over x) (moved x).1

    pub funs-in : (x : Standing h) → (v : ℕ) → In v h.funs.items → v + 4 ≤ length mem5
    funs-in x = funs-within h t x m mv news (scan x) mem4 left (swept x) mem5 low (over x) (moved x).1

    module _ (bins funs : Vec ℕ Global) (bins_are : bins.items ≡ renewed mem5 h.bins.items) (funs_are : funs.items ≡ renewed mem5 h.funs.items)
        (bins_room : vec_capacity bins ≡ vec_capacity h.bins) (funs_room : vec_capacity funs ≡ vec_capacity h.funs) where
      abbrev new : Halves
      new = moved_to h t mem5 mv.young.top low news left.first left.len bins funs

      module _ (x : Standing h) where
        y : Scanned h t x m mv news
        y = scan x

        done : Collected (plan_of h x t) m (top_of mv)
        done = whole h t x m mv news (scan x)

        length-there : length mem5 ≡ length h.mem
        length-there = omega (arith, (moved x).1.same_len, (swept x).writes.same_len, done.same_len)

        -- The table has the new rows.
        rows-there : (with_items h.procs news).items ≡ news
        rows-there = with_items_is h.procs news (row-count h.procs.items news (same h t x m mv news (scan x)) ∙ sym h.procs.ok.0)

        same-there : AreSameRows h.procs.items (with_items h.procs news).items
        same-there = subst (AreSameRows h.procs.items) (sym rows-there) (same h t x m mv news (scan x))

        ends-there : t.end ≡ t.base + length mem5 / 2
        ends-there = omega (arith, (scan x).target.ends, length-there)

        tables : bins.items ++ funs.items ≡ renewed mem5 h.bins.items ++ renewed mem5 h.funs.items
        tables = ap (λ z. z ++ funs.items) bins_are ∙ ap (λ z. renewed mem5 h.bins.items ++ z) funs_are

        fits-here : low + (2 * places_in news + total (record_words mem5) (bins.items ++ funs.items)) ≤ t.base + length mem5 / 2
        fits-here =
            let all : low + total (record_words mem5) (bins.items ++ funs.items) ≤ t.to =
            (let P : List ℕ → Type 0 = λ z. low + total (record_words mem5) z ≤ t.to in
            subst P (sym tables) (fits-there h t x m mv news (scan x) mem4 left (swept x) mem5 low (over x) (moved x).1)) in
            omega (arith, all, ends-there, (sides-there h t x m mv news (scan x)).ends, same-places h.procs.items news (same h t x m mv news (scan x)))

        laid-there : IsLaid new
        laid-there =
            let P : List Proc → Type 0 = λ z. low + (2 * places_in z + total (record_words mem5) (bins.items ++ funs.items)) ≤ t.base + length mem5 / 2 in
            record {
              even = omega (arith, length-there, (scan x).laid.even);
              side = elim (scan x).target.side [ inl e ↦ inr (omega (arith, e, length-there)) | inr e ↦ inl e.1 ];
              starts = refl;
              front = omega (arith, (scan x).target.first, (top-between h t x m mv news (scan x)).0);
              order = over x;
              fits = subst P (sym rows-there) fits-here;
            }

        apart-there : AreApart (all_places mem5 (with_items h.procs news).items)
        apart-there =
            subst AreApart (sym (ap (all_places mem5) rows-there))
            (apart-kept (roles h t x m mv news (scan x)).test x.shared m mem5 t.to t.end x.named news x.processes
            (kept-there h t x m mv news (scan x) mem4 left (swept x) mem5 low (over x) (moved x).1)
            (procs-was h t x m mv news (scan x) mem4 left (swept x) mem5 low (over x) (moved x).1) (scan x).apart)

        stand-there : HalvesStand x.named new x.shared x.processes
        stand-there =
            let P : ℕ → Type 0 = λ z. ProcsStand (settled h t x m mv news (scan x) mem4 left (swept x) mem5 low (over x) (moved x).1) x.shared mem5 low z x.named news x.processes in
            let Q : List Proc → Type 0 = λ z.
            ProcsStand (settled h t x m mv news (scan x) mem4 left (swept x) mem5 low (over x) (moved x).1) x.shared mem5 low (t.base + length mem5 / 2) x.named z x.processes in
            let B : List ℕ → Type 0 = λ z. RecordsStand (settled h t x m mv news (scan x) mem4 left (swept x) mem5 low (over x) (moved x).1) mem5 x.shared z funs.items in
            let F : List ℕ → Type 0 = λ z. RecordsStand (settled h t x m mv news (scan x) mem4 left (swept x) mem5 low (over x) (moved x).1) mem5 x.shared (renewed mem5 h.bins.items) z in
            record {
              test = settled h t x m mv news (scan x) mem4 left (swept x) mem5 low (over x) (moved x).1;
              single = single-settled h t x m mv news (scan x) mem4 left (swept x) mem5 low (over x) (moved x).1;
              lie = λ a k e. elim (lie-there h t x m mv news (scan x) mem4 left (swept x) mem5 low (over x) (moved x).1 a k e) [
                | inl object ↦ inl (omega (arith, object.0, (scan x).target.first), object.1)
                | inr there ↦ inr (there.0, (omega (arith, there.1.0, ends-there, (sides-there h t x m mv news (scan x)).ends), there.1.1))
              ];
              chained = turned (moved_of m x.stands.chained) [];
              linked = sym (swept x).len;
              links = links-there h t x m mv news (scan x) mem4 left (swept x) mem5 low (over x) (moved x).1;
              inside = λ o i. (new-within h t x m mv news (scan x) o i).1;
              every = every-settled h t x m mv news (scan x) mem4 left (swept x) mem5 low (over x) (moved x).1;
              records = subst B (sym bins_are) (subst F (sym funs_are) (records-there h t x m mv news (scan x) mem4 left (swept x) mem5 low (over x) (moved x).1));
              fun_names = λ v i. names-there h t x m mv news (scan x) mem4 left (swept x) mem5 low (over x) (moved x).1 v (subst (In v) funs_are i);
              processes = subst Q (sym rows-there) (subst P ends-there (procs-settled h t x m mv news (scan x) mem4 left (swept x) mem5 low (over x) (moved x).1));
              apart = apart-there;
            }

        -- The new roots.
        tree-roots : AllStand (roles h t x m mv news (scan x)).test x.shared m (roots_in m news) (trees_of x.processes)
        tree-roots =
            roots-stand (roles h t x m mv news (scan x)).test x.shared m t.to t.end x.named news x.processes
            (procs-was h t x m mv news (scan x) mem4 left (swept x) mem5 low (over x) (moved x).1)

        same-roots : roots_in mem5 (with_items h.procs news).items ≡ roots_in m news
        same-roots =
            ap (roots_in mem5) rows-there
            ∙ roots-kept (roles h t x m mv news (scan x)).test m mem5 t.to t.end news (kept-there h t x m mv news (scan x) mem4 left (swept x) mem5 low (over x) (moved x).1)
            (have-stacks (roles h t x m mv news (scan x)).test x.shared m t.to t.end x.named news x.processes
            (procs-was h t x m mv news (scan x) mem4 left (swept x) mem5 low (over x) (moved x).1))

        reach-there : (w : ℕ) → Reach m (roots_in m news) w → Reach mem5 (roots_in mem5 (with_items h.procs news).items) w
        reach-there w r =
            let P : List ℕ → Type 0 = λ z. Reach mem5 z w in
            subst P (sym same-roots)
            (reach-same (roles h t x m mv news (scan x)).test x.shared m mem5 (roots_in m news) (trees_of x.processes) tree-roots
            (plain-same h t x m mv news (scan x) mem4 left (swept x) mem5 low (over x) (moved x).1) w r)

        tag-there : (v : ℕ) → Reached (plan_of h x t) v → Leaves (plan_of h x t) v → forward m v % 4 ≡ v % 4
        tag-there v r l = let copy : IsMoved (plan_of h x t) m (top_of mv) v (forward m v) = done.copies v r l in copy.tag

        tile-words-same : (w : ℕ) → In w (tiles-there h t x m mv news (scan x)).tiles → get_or mem5 (w / 4) 0 ≡ get_or m (w / 4) 0
        tile-words-same w i =
            let (v, (r, (l, (goes, e)))) = (tiles-there h t x m mv news (scan x)).only w i in
            let P : ℕ → Type 0 = λ z. Reach m (roots_in m news) z in
            let re : Reach m (roots_in m news) w = subst P (sym e) (copy-there h t x m mv news (scan x) v r l) in
            let tag : w % 4 ≡ v % 4 = ap (λ z. z % 4) e ∙ tag-there v r l in
            let p : IsPointer w = elim l.pointer [ inl one ↦ inl (tag ∙ one) | inr two ↦ inr (tag ∙ two) ] in
            let (u, s) = reached (roles h t x m mv news (scan x)).test x.shared m (roots_in m news) (trees_of x.processes) tree-roots w re in
            plain-same h t x m mv news (scan x) mem4 left (swept x) mem5 low (over x) (moved x).1 (w / 4) 3 (inl refl) (first-role (roles h t x m mv news (scan x)).test x.shared m w u s p)

        reached-there : AllReached new
        reached-there =
            let tiled : IsTiled (plan_of h x t) m false mv.young.top = tiles-there h t x m mv news (scan x) in
            let P : ℕ → Type 0 = λ z. Tiled m z tiled.tiles mv.young.top in
            record {
              tiles = tiled.tiles;
              row = tiled-same m mem5 (t.base + 2) tiled.tiles mv.young.top tile-words-same (subst P (scan x).target.first tiled.row);
              all = λ w i.
                  let (v, (r, (l, (goes, e)))) = tiled.only w i in
                  let Q : ℕ → Type 0 = λ z. Reach m (roots_in m news) z in
                  reach-there w (subst Q (sym e) (copy-there h t x m mv news (scan x) v r l));
            }

        chain-there : ChainReached new
        chain-there = record {
          all = λ os o number chain i.
              let c = links-there h t x m mv news (scan x) mem4 left (swept x) mem5 low (over x) (moved x).1 in
              let same_list : os ≡ turned (moved_of m x.stands.chained) [] = one-chain mem5 left.first os (turned (moved_of m x.stands.chained) []) 0 (number ∙ (swept x).len) chain c.chain in
              let n : IsNew h t x m mv news (scan x) o = is-new h t x m mv news (scan x) o (subst (In o) same_list i) in
              let tag : forward m (n.o * 4 + 2) % 4 ≡ (n.o * 4 + 2) % 4 = tag-there (n.o * 4 + 2) n.reached n.leaves in
              let word : forward m (n.o * 4 + 2) ≡ o * 4 + 2 = omega (arith, tag, n.place) in
              let P : ℕ → Type 0 = λ z. Reach m (roots_in m news) z in
              reach-there (o * 4 + 2) (subst P word (copy-there h t x m mv news (scan x) (n.o * 4 + 2) n.reached n.leaves));
        }

        once-there : used_in new ≤ used_in h
        once-there =
            omega (
              arith,
              (moved x).0,
              objects-few h t x m mv news (scan x),
              (sides-there h t x m mv news (scan x)).records,
              (sides-there h t x m mv news (scan x)).ends,
              (scan x).target.first,
              ends-there,
              length-there,
              (scan x).laid.front,
              (scan x).laid.order,
              (scan x).laid.fits,
              over x,
            )

        -- The words in use are at most those of the trees and of the records that they name.
        used-there : used_in new ≤ 2 + (held_words x.processes + named_words x.shared x.processes)
        used-there =
            let b : Bounded h t x m mv news (scan x) mem4 left (swept x) = bounded h t x m mv news (scan x) mem4 left (swept x) in
            let at = moves (roles h t x m mv news (scan x)).test (turned (moved_of m x.stands.chained) []) (t.to - total (record_words h.mem) b.each) (sym (swept x).len) b.may in
            omega (
              arith,
              at.0,
              b.few,
              objects-held h t x m mv news (scan x),
              (sides-there h t x m mv news (scan x)).ends,
              (scan x).target.first,
              ends-there,
              length-there,
              over x,
              (top-between h t x m mv news (scan x)).0,
            )

      pub collects : Standing h → Collects h (moved_to h t mem5 mv.young.top low news left.first left.len bins funs)
      collects x = record {
        same_len = length-there x;
        laid = laid-there x;
        rows = same-there x;
        capacity = refl;
        bins = bins_room;
        funs = funs_room;
        counted = refl;
        stands = λ named shared qs s. stand-there (record { named = named; shared = shared; processes = qs; stands = s });
        reached = reached-there x;
        chained = chain-there x;
        once = once-there x;
        bound = λ named shared qs s. used-there (record { named = named; shared = shared; processes = qs; stands = s });
      }
