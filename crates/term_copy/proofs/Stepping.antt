-- Going through the words of a copy: one word, the words of an object, and how it begins.
use Rattle.std.proofs.Common.{◌≡◌, ℕ, suc, ◌+◌, ◌-◌, ◌/◌, ◌%◌, ◌<◌, ◌≤◌, ◌⊎◌, ◌==◌, Bool, true, false, List, [], ◌∷◌, length, get_or, set, refl, sym, ◌∙◌, ap, subst, arith, inl, inr, Some, length-set, get_or-set_other, ℤ, pos, negsuc}
use Rattle.std.proofs.lemmas.Bool.Decides.{nat_tests}
use Rattle.std.proofs.lemmas.Grind.{get_or-set_at}
use Rattle.std.proofs.lemmas.Bool.{true≢false, cases_lt}
use Rattle.plain_term.specs.Measures.{flat, flat_of_all}
use Rattle.plain_term.specs.Tree.{Tree, Trees, trees_len}
use Rattle.plain_term.specs.Tree.Tree.{Int, Atom, Pid, Ref, Nil, Cons, Tuple, Map, Bin, Shared, Part, Fun}
use Rattle.plain_term.specs.Tree.Trees.{end, ◌▹◌}
use Rattle.term_tags.specs.Table.{layout_for}
use Rattle.term_tags.specs.declared.layouts.Layout.{Layout}
use Rattle.term_words.specs.Role.{COUNT}
use Rattle.term_words.specs.Object.{IsInt, IsPointer, object_words}
use Rattle.term_words.specs.Reach.{first_traced, parts_of}
use Rattle.term_words.specs.Stands.{Stands, RowStands}
use Rattle.term_words.proofs.Placing.Apart.{head-no-header, header-there, words-cons, words-header}
use Rattle.term_words.proofs.Reaching.Reached.{cons-traced, scanned}
use Rattle.term_words.proofs.Reaching.Relocating.{header-first}
use Rattle.term_words.proofs.Placing.Roles.{object-some}
use Rattle.term_words.proofs.ByKind.Shapes.{told}
use Rattle.term_words.proofs.Placing.Tiles.{has-layout}
use Rattle.shared_rec.proofs.Records.{record-counted}
use Rattle.term_copy.specs.Copied.{CanCopy, Task}
use Rattle.word_mem.specs.declared.ranges.Room.{Room}
use Rattle.term_copy.specs.Going.{Advances, CopyHasRoom, Among, AllAreLed, Begun, Copying, Goes, HasImage, HasCopiedWords, IsCopiedWord, IsLed, IsLedTo, IsOf, IsStay, Item, Leading, Pends, ReadyToCopy, Scanning, Spread, flat_of_parts}
use Rattle.term_copy.proofs.Items.{spread-in, spread-one}
use Rattle.term_copy.proofs.Linked.{LinkFacts, linked}
use Rattle.term_copy.proofs.Taking.{image-same, role-beside, top-limit}

below-or-at : (q m : ℕ) → q < m + 1 → (q < m) ⊎ (q ≡ m)
below-or-at q m h = grind (arith, h)

-- A word below a mark that was replaced is so by a lower mark above it.
led-below : (p : Task) (mark low : ℕ) (xs : List Item) (q : ℕ) → IsLed p mark xs q → q < low → IsLed p low xs q
led-below p mark low xs q a past = record { item = a.item; among = a.among; index = a.index; traced = a.traced; below = a.below; place = a.place; past = past; goes = a.goes }

-- A word that leads to a copy does so still where more words were gone through.
led-on : (p : Task) (old new : List ℕ) (mark high : ℕ) (xs : List Item) (x : Item) → ((q : ℕ) → q < mark → get_or new q 0 ≡ get_or old q 0) → mark ≤ high → IsLedTo p old mark xs x
    → IsLedTo p new high xs x
led-on p old new mark high xs x same more l = record {
  from = l.from;
  led = record {
    item = l.led.item;
    among = l.led.among;
    index = l.led.index;
    traced = l.led.traced;
    below = l.led.below;
    place = l.led.place;
    past = omega (arith, l.led.past, more);
    goes = l.led.goes;
  };
  there = ap (λ a. a / 4) (same l.from l.led.past) ∙ l.there;
  before = l.before;
}

all-on : (p : Task) (old new : List ℕ) (mark high : ℕ) (xs : List Item) → ((q : ℕ) → q < mark → get_or new q 0 ≡ get_or old q 0) → mark ≤ high → AllAreLed p old mark xs
    → AllAreLed p new high xs
all-on p old new mark high xs same more all = λ x i. elim (all x i) [ inl e ↦ inl e | inr l ↦ inr (led-on p old new mark high xs x same more l) ]

-- Another copy may be known, and one may be forgotten.

abbrev known-as : (p : Task) (known now : List Item) (mem : List ℕ) (mark at top owed : ℕ) (g : Copying p known mem mark at top owed) → ((x : Item) → Among x now → Among x g.items)
    → Copying p now mem mark at top owed
known-as p known now mem mark at top owed g has = record {
  ready = g.ready;
  items = g.items;
  after = g.after;
  has = has;
  marked = g.marked;
  row = g.row;
  further = g.further;
  among = g.among;
  stands = g.stands;
  copies = g.copies;
  rises = g.rises;
  beyond = g.beyond;
  same_len = g.same_len;
  others = g.others;
  counts = g.counts;
  used = g.used;
  exact = g.exact;
}

abbrev pub forget : (p : Task) (known : List Item) (x : Item) (mem : List ℕ) (mark at top owed : ℕ) → Copying p (x ∷ known) mem mark at top owed → Copying p known mem mark at top owed
forget p known x mem mark at top owed g = known-as p (x ∷ known) known mem mark at top owed g (λ y i. g.has y (inr i))

abbrev pub know : (p : Task) (known : List Item) (x : Item) (mem : List ℕ) (mark at top owed : ℕ) (g : Copying p known mem mark at top owed) → Among x g.items
    → Copying p (x ∷ known) mem mark at top owed
know p known x mem mark at top owed g i =
    known-as p known (x ∷ known) mem mark at top owed g (λ y h. elim h [ inl e ↦ (let P : Item → Type 0 = λ z. Among z g.items in subst P (sym e) i) | inr j ↦ g.has y j ])

-- A word of no object has no flat words, and an object that stays is not owed.

flat-int : (c : ℕ → ℕ → Bool) (mem : List ℕ) (w : ℕ) (i : ℤ) → IsInt c mem w i → (IsPointer w → ⊥) → flat (Int i) ≡ 0
flat-int c mem w (pos n) (inl s) none = rw (s.small) refl
flat-int c mem w (negsuc n) (inl s) none = rw (s.small) refl
flat-int c mem w i (inr (inl o)) none = absurd (none (inr o.boxed.tag))
flat-int c mem w i (inr (inr o)) none = absurd (none (inr o.boxed.tag))

pub flat-none : (c : ℕ → ℕ → Bool) (shared : List (List ℕ)) (mem : List ℕ) (w : ℕ) (t : Tree) → Stands c shared mem w t → (IsPointer w → ⊥) → flat t ≡ 0
unfolding Stands
flat-none c shared mem w (Int i) s none = flat-int c mem w i s none
flat-none c shared mem w (Atom k) s none = refl
flat-none c shared mem w (Pid k) s none = refl
flat-none c shared mem w Nil s none = refl
flat-none c shared mem w (Ref n k) s none = absurd (none (inr s.boxed.tag))
flat-none c shared mem w (Cons x y) (o, a, b) none = absurd (none (inl o.tag))
flat-none c shared mem w (Tuple ts) (o, a) none = absurd (none (inr o.boxed.tag))
flat-none c shared mem w (Map ps) (o, a, b) none = absurd (none (inr o.boxed.tag))
flat-none c shared mem w (Bin bytes) o none = absurd (none (inr o.boxed.tag))
flat-none c shared mem w (Shared id) o none = absurd (none (inr o.holder.tag))
flat-none c shared mem w (Part base offset len) (o, a, b) none = absurd (none (inr o.boxed.tag))
flat-none c shared mem w (Fun name arity creator env) (o, a) none = absurd (none (inr o.tag))

pub goes-none : (p : Task) (w : ℕ) → (Goes p w → ⊥) → ((q : ℕ) → p.stay q ≡ false) → IsPointer w → ⊥
goes-none p w stays none y = stays (record { pointer = y; goes = none (w / 4) })

abbrev pub owe-less : (p : Task) (known : List Item) (mem : List ℕ) (mark at top w : ℕ) (u : Tree) (more : ℕ) → (Goes p w → ⊥) → Stands p.test p.shared p.start w u
    → Copying p known mem mark at top (flat u + more) → Copying p known mem mark at top more
owe-less p known mem mark at top w u more stays s g = record {
  ready = g.ready;
  items = g.items;
  after = g.after;
  has = g.has;
  marked = g.marked;
  row = g.row;
  further = g.further;
  among = g.among;
  stands = g.stands;
  copies = g.copies;
  rises = g.rises;
  beyond = g.beyond;
  same_len = g.same_len;
  others = g.others;
  counts = g.counts;
  used = omega (arith, g.used);
  exact = λ none. omega (arith, g.exact none, flat-none p.test p.shared p.start w u s (goes-none p w stays none));
}

-- The word at the mark, which is a traced word of a copy, is replaced by its image.

module _ (p : Task) (known : List Item) (mem : List ℕ) (mark at top owed : ℕ) (g : Copying p known mem mark at top owed) (o : Item) (i : Among o g.items)
    (traced : o.place + first_traced p.start o.word ≤ mark) (inside : mark < o.place + object_words p.start o.word) where
  -- A copy that has the mark is this one.
  own : (x : Item) (j : ℕ) → Among x g.items → j < object_words p.start x.word → x.place + j ≡ mark → x ≡ o
  own x j h below e = spread-one p.start p.top g.items top x o mark g.row h i (omega (arith, e)) (omega (arith, e, below)) (omega (arith, traced)) inside

  not-plain : (x : Item) (j : ℕ) → Among x g.items → j < first_traced p.start x.word → j < object_words p.start x.word → x.place + j ≡ mark → ⊥
  not-plain x j h less below e =
      let P : Item → Type 0 = λ z. z.place + first_traced p.start z.word ≤ mark in
      omega (arith, subst P (sym (own x j h below e)) traced, less, e)

  -- The word is the original's still.
  pub word-is : get_or mem mark 0 ≡ get_or p.start (o.word / 4 + (mark - o.place)) 0
  word-is = (g.copies o i).waits (mark - o.place) mark (omega (arith, traced)) (omega (arith, traced, inside)) (omega (arith, traced)) (omega arith)

  in-row : (p.top ≤ mark) × (mark < top)
  in-row = let r = spread-in p.start p.top g.items top o g.row i in (omega (arith, r, traced), omega (arith, r, inside))

  -- The word at the mark is one that is replaced, where its original is.
  goes-at : (r : ℕ) → IsLed p (mark + 1) g.items r → r ≡ mark → Goes p (get_or mem mark 0)
  goes-at r b here =
      let was : get_or p.start (b.item.word / 4 + b.index) 0 ≡ get_or mem mark 0 =
      sym ((g.copies b.item b.among).waits b.index mark b.traced b.below (omega (arith, b.place, here)) (omega arith)) in
      let P : ℕ → Type 0 = λ a. Goes p a in
      subst P was b.goes

  pub replaced : (new : List ℕ) → length new ≡ length mem → ((q : ℕ) → (q ≡ mark → ⊥) → get_or new q 0 ≡ get_or mem q 0)
      → IsCopiedWord p g.items (get_or mem mark 0) (get_or new mark 0) → mark + 1 ≤ at
      → (Goes p (get_or mem mark 0) → (p.top < get_or new mark 0 / 4) × ((q : ℕ) → IsLed p mark g.items q → get_or mem q 0 / 4 < get_or new mark 0 / 4))
      → Copying p known new (mark + 1) at top owed
  replaced new len same image more later = record {
    ready = g.ready;
    items = g.items;
    after = g.after;
    has = g.has;
    marked = more;
    row = g.row;
    further = g.further;
    among = g.among;
    stands = g.stands;
    copies = λ x h.
        let c : HasCopiedWords p mem mark g.items x = g.copies x h in
        record {
          plain = λ j q less below e other. same q (λ z. not-plain x j h less below (omega (arith, z, e))) ∙ c.plain j q less below e other;
          next = λ l.
              let f : LinkFacts p.test p.start x.word = linked p.test p.shared p.start x.word x.tree (g.stands x h).standing l in
              same (x.place + 2) (λ z. not-plain x 2 h (omega (arith, f.untraced)) (omega (arith, f.many)) z) ∙ c.next l;
          waits = λ j q from below e past. same q (λ z. omega (arith, z, past)) ∙ c.waits j q from below e (omega (arith, past));
          done = λ j q from below e past.
              elim (below-or-at q mark past) [
                | inl low ↦ image-same p g.items (get_or p.start (x.word / 4 + j) 0) (get_or mem q 0) (get_or new q 0) (same q (λ z. omega (arith, z, low))) (c.done j q from below e low)
                | inr here ↦
                    let was : get_or p.start (x.word / 4 + j) 0 ≡ get_or mem mark 0 = sym (c.waits j mark from below (omega (arith, e, here)) (omega arith)) in
                    let P : ℕ → Type 0 = λ a. IsCopiedWord p g.items a (get_or new q 0) in
                    let Q : ℕ → Type 0 = λ a. IsCopiedWord p g.items (get_or mem mark 0) (get_or new a 0) in
                    subst P (sym was) (subst Q (sym here) image)
              ];
        };
    rises = λ q r a b less. elim (below-or-at r mark b.past) [
      | inl low ↦
          omega (
            arith,
            g.rises q r (led-below p (mark + 1) mark g.items q a (omega (arith, less, low))) (led-below p (mark + 1) mark g.items r b low) less,
            same q (λ z. omega (arith, z, less, low)),
            same r (λ z. omega (arith, z, low)),
          )
      | inr here ↦
          let there : get_or new r 0 ≡ get_or new mark 0 = ap (λ a. get_or new a 0) here in
          omega (
            arith,
            (later (goes-at r b here)).1 q (led-below p (mark + 1) mark g.items q a (omega (arith, less, here))),
            same q (λ z. omega (arith, z, less, here)),
            there,
          )
    ];
    beyond = λ q a. elim (below-or-at q mark a.past) [
      | inl low ↦ omega (arith, g.beyond q (led-below p (mark + 1) mark g.items q a low), same q (λ z. omega (arith, z, low)))
      | inr here ↦
          let there : get_or new q 0 ≡ get_or new mark 0 = ap (λ a. get_or new a 0) here in
          omega (arith, (later (goes-at q a here)).0, there)
    ];
    same_len = len ∙ g.same_len;
    others = λ q out other. same q (λ z. omega (arith, z, in-row, out)) ∙ g.others q out other;
    counts = λ v n r. same (v + 2) (λ z. omega (arith, z, in-row, role-beside p known mem mark at top owed g (v + 2) COUNT (record-counted p.test p.start v n r))) ∙ g.counts v n r;
    used = g.used;
    exact = g.exact;
  }

-- Words that are left stay left where they are the same.
pends-same : (p : Task) (old new : List ℕ) (q : ℕ) (ts : Trees) → ((a : ℕ) → q ≤ a → a < q + trees_len ts → get_or new a 0 ≡ get_or old a 0) → Pends p old q ts → Pends p new q ts
pends-same p old new q end same row = tt
pends-same p old new q (t ▹ ts) same (first, rest) =
    let P : ℕ → Type 0 = λ x. Stands p.test p.shared p.start x t in
    (subst P (sym (same q (omega arith) (omega arith))) first, pends-same p old new (q + 1) ts (λ a low high. same a (omega arith) (omega (arith, high))) rest)

-- The words of a row that were copied are left.
pends-row : (p : Task) (mem : List ℕ) (a q : ℕ) (ts : Trees) → ((j : ℕ) → j < trees_len ts → get_or mem (q + j) 0 ≡ get_or p.start (a + j) 0)
    → RowStands p.test p.shared p.start a ts → Pends p mem q ts
unfolding RowStands
pends-row p mem a q end same row = tt
pends-row p mem a q (t ▹ ts) same (first, rest) =
    let P : ℕ → Type 0 = λ x. Stands p.test p.shared p.start x t in
    let here : get_or mem q 0 ≡ get_or p.start a 0 = ap (λ x. get_or mem x 0) (omega arith) ∙ same 0 (omega arith) ∙ ap (λ x. get_or p.start x 0) (omega arith) in (
      subst P (sym here) first,
      pends-row p mem (a + 1) (q + 1) ts (λ j below.
          ap (λ x. get_or mem x 0) (omega arith) ∙ same (suc j) (omega (arith, below)) ∙ ap (λ x. get_or p.start x 0) (omega arith)) rest,
    )

-- One word is gone through.

module _ (p : Task) (known : List Item) (mem : List ℕ) (mark at top : ℕ) (u : Tree) (rest : Trees) (s : Scanning p known mem mark at top (u ▹ rest)) where
  pub stands-at : (w : ℕ) → w ≡ get_or mem mark 0 → Stands p.test p.shared p.start w u
  stands-at w e = let P : ℕ → Type 0 = λ x. Stands p.test p.shared p.start x u in subst P (sym e) s.pends.0

  pub owed-known : Leading p (s.item ∷ known) mem mark at top (flat u + flat_of_all rest)
  owed-known = record { on = know p known s.item mem mark at top (flat_of_all (u ▹ rest)) s.on s.among; led = s.led }

  pub mark-inside : mark < s.item.place + object_words p.start s.item.word
  mark-inside = omega (arith, s.ends, s.whole)

  pub mark-memory : p.limit ≤ length p.start → mark < length mem
  mark-memory inside =
      let r : (p.top ≤ s.item.place) × (s.item.place + object_words p.start s.item.word ≤ top) = spread-in p.start p.top s.on.items top s.item s.on.row s.among in
      omega (arith, inside, mark-inside, r, top-limit p known mem mark at top (flat_of_all (u ▹ rest)) s.on, s.on.same_len)

  -- After its image was written.
  gone : (new : List ℕ) (top2 : ℕ) (g : Copying p known new (mark + 1) at top2 (flat_of_all rest)) → Among s.item g.items
      → AllAreLed p new (mark + 1) g.items → Scanning p known new (mark + 1) at top2 rest
  gone new top2 g i all = record {
    on = g;
    led = all;
    pends = pends-same p mem new (mark + 1) rest (λ a low high.
        (g.copies s.item i).waits (a - s.item.place) a (omega (arith, s.traced, low)) (omega (arith, s.traced, low, high, s.ends, s.whole)) (omega (arith, s.traced, low)) low
        ∙ sym ((s.on.copies s.item s.among).waits (a - s.item.place) a (omega (arith, s.traced, low)) (omega (arith, s.traced, low, high, s.ends, s.whole))
        (omega (arith, s.traced, low)) (omega (arith, low))))
        s.pends.1;
    ends = omega (arith, s.ends);
    item = s.item;
    among = i;
    traced = omega (arith, s.traced);
    whole = s.whole;
  }

  pub gone-same : (Goes p (get_or mem mark 0) → ⊥) → Scanning p known mem (mark + 1) at top rest
  unfolding replaced
  gone-same stays =
      gone mem top
      (owe-less p known mem (mark + 1) at top (get_or mem mark 0) u (flat_of_all rest) stays s.pends.0
      (replaced p known mem mark at top (flat u + flat_of_all rest) s.on s.item s.among s.traced mark-inside mem refl (λ q z. refl) (inl (stays, refl)) (omega (arith, s.ends))
      (λ goes. absurd (stays goes))))
      s.among (all-on p mem mem mark (mark + 1) s.on.items (λ q below. refl) (omega arith) s.led)

  -- The word at the mark leads to the copy that was made for it.
  led-all : (mem2 : List ℕ) (top2 x : ℕ) (h : HasImage p (s.item ∷ known) mem2 mark at top2 (flat_of_all rest) (get_or mem mark 0) x) → Among s.item h.on.items
      → get_or (set mem2 mark x) mark 0 ≡ x → x / 4 ≡ top → Goes p (get_or mem mark 0) → AllAreLed p (set mem2 mark x) (mark + 1) h.on.items
  led-all mem2 top2 x h i now place go = λ z j. elim (h.led z j) [
    | inl e ↦
        let was : get_or mem mark 0 ≡ get_or p.start (s.item.word / 4 + (mark - s.item.place)) 0 =
        word-is p known mem mark at top (flat u + flat_of_all rest) s.on s.item s.among s.traced mark-inside in
        let r : (p.top ≤ s.item.place) × (s.item.place + object_words p.start s.item.word ≤ top) = spread-in p.start p.top s.on.items top s.item s.on.row s.among in
        let P : ℕ → Type 0 = λ a. Goes p a in
        inr (record {
          from = mark;
          led = record {
            item = s.item;
            among = i;
            index = mark - s.item.place;
            traced = omega (arith, s.traced);
            below = omega (arith, s.traced, mark-inside);
            place = omega (arith, s.traced);
            past = omega arith;
            goes = subst P was go;
          };
          there = ap (λ a. a / 4) now ∙ sym e;
          before = omega (arith, e, place, r, mark-inside);
        })
    | inr (inl e) ↦ inl e
    | inr (inr l) ↦ inr (led-on p mem2 (set mem2 mark x) mark (mark + 1) h.on.items z (λ q below. get_or-set_other mem2 mark q x 0 (λ same. omega (arith, same, below))) (omega arith) l)
  ]

  pub gone-copied : (mem2 : List ℕ) (top2 x : ℕ) → HasImage p (s.item ∷ known) mem2 mark at top2 (flat_of_all rest) (get_or mem mark 0) x → mark < length mem2
      → x / 4 ≡ top → Goes p (get_or mem mark 0) → Scanning p known (set mem2 mark x) (mark + 1) at top2 rest
  unfolding replaced
  gone-copied mem2 top2 x h inside place go =
      let i : Among s.item h.on.items = h.on.has s.item (inl refl) in
      let was : get_or mem2 mark 0 ≡ get_or mem mark 0 =
      word-is p (s.item ∷ known) mem2 mark at top2 (flat_of_all rest) h.on s.item i s.traced mark-inside
      ∙ sym (word-is p known mem mark at top (flat u + flat_of_all rest) s.on s.item s.among s.traced mark-inside) in
      let now : get_or (set mem2 mark x) mark 0 ≡ x = grind (arith, get_or-set_at, inside) in
      let r : (p.top ≤ s.item.place) × (s.item.place + object_words p.start s.item.word ≤ top) = spread-in p.start p.top s.on.items top s.item s.on.row s.among in
      let P : ℕ → Type 0 = λ a. IsCopiedWord p h.on.items a x in
      gone (set mem2 mark x) top2
      (forget p known s.item (set mem2 mark x) (mark + 1) at top2 (flat_of_all rest)
      (replaced p (s.item ∷ known) mem2 mark at top2 (flat_of_all rest) h.on s.item i s.traced mark-inside (set mem2 mark x) (length-set mem2 mark x)
      (λ q other. get_or-set_other mem2 mark q x 0 other)
      (image-same p h.on.items (get_or mem2 mark 0) x (get_or (set mem2 mark x) mark 0) now (subst P (sym was) h.image)) (omega (arith, s.ends))
      (λ goes. (omega (arith, now, place, r, s.traced, mark-inside), (λ q a. omega (arith, now, h.later q a))))))
      i (led-all mem2 top2 x h i now place go)

  same-length : (mem2 : List ℕ) (top2 w x : ℕ) → HasImage p (s.item ∷ known) mem2 mark at top2 (flat_of_all rest) w x → length mem2 ≡ length mem
  same-length mem2 top2 w x h = h.on.same_len ∙ sym s.on.same_len

  pub image-memory : (mem2 : List ℕ) (top2 w x : ℕ) → HasImage p (s.item ∷ known) mem2 mark at top2 (flat_of_all rest) w x → p.limit ≤ length p.start → mark < length mem2
  image-memory mem2 top2 w x h inside = omega (arith, same-length mem2 top2 w x h, mark-memory inside)

  pub image-at : (mem2 mem3 : List ℕ) (top2 w x : ℕ) → w ≡ get_or mem mark 0 → HasImage p (s.item ∷ known) mem2 mark at top2 (flat_of_all rest) w x → mark < length mem → mem3 ≡ set mem2 mark x
      → x / 4 ≡ top → Goes p w → Scanning p known mem3 (mark + 1) at top2 rest
  image-at mem2 mem3 top2 w x e h inside is place go =
      let R : ℕ → Type 0 = λ z. Goes p z in
      let P : ℕ → Type 0 = λ z. HasImage p (s.item ∷ known) mem2 mark at top2 (flat_of_all rest) z x in
      let Q : List ℕ → Type 0 = λ m. Scanning p known m (mark + 1) at top2 rest in
      subst Q (sym is) (gone-copied mem2 top2 x (subst P e h) (omega (arith, same-length mem2 top2 w x h, inside)) place (subst R e go))

-- What the test of a word tells.

pub goes-by : (p : Task) (stay : ℕ → Bool) (w : ℕ) → IsStay p stay → IsPointer w × (stay (w / 4) ≡ false) → Goes p w
goes-by p stay w same (y, out) = record { pointer = y; goes = sym (same (w / 4)) ∙ out }

pub goes-not : (p : Task) (stay : ℕ → Bool) (w : ℕ) → IsStay p stay → (IsPointer w → stay (w / 4) ≡ true) → Goes p w → ⊥
goes-not p stay w same stays g = true≢false (sym (stays g.pointer) ∙ same (w / 4) ∙ g.goes)

-- From which place up to which one the words of the object at a place are traced, by its first word.
pub record Traced (word at from to : ℕ) : Type 0 where
  pub cons : (word % 4 ≡ 0 → ⊥) → (from ≡ at) × (to ≡ at + 2)
  pub boxed : word % 4 ≡ 0 → (l : Layout) → layout_for word ≡ Some l → (from ≡ at + l.first) × (to ≡ at + (1 + word / 64))

-- The object at a place is gone through next: its first word, and its traced words.
module _ (p : Task) (known : List Item) (mem : List ℕ) (at top : ℕ) (g : Copying p known mem at at top 0) where
  -- What is left of the objects that were not gone through.
  record Opens : Type 0 where
    pub x : Item
    pub later : List Item
    pub is : g.after ≡ x ∷ later

  opens-by : (xs : List Item) → g.after ≡ xs → Spread p.start at xs top → at < top → Opens
  opens-by [] e row some = absurd (omega (arith, row, some))
  opens-by (x ∷ xs) e row some = record { x = x; later = xs; is = e }

  opens : at < top → Opens
  opens some = opens-by g.after refl g.further some

  module _ (o : Opens) where
    n : ℕ
    n = object_words p.start o.x.word

    spreads : (o.x.place ≡ at) × Spread p.start (at + object_words p.start o.x.word) o.later top
    spreads = let P : List Item → Type 0 = λ xs. Spread p.start at xs top in subst P o.is g.further

    in-items : Among o.x g.items
    in-items = let P : List Item → Type 0 = λ xs. Among o.x xs in g.among o.x (subst P (sym o.is) (inl refl))

    of-it : IsOf p o.x
    of-it = g.stands o.x in-items

    pointer : IsPointer o.x.word
    pointer = of-it.goes.pointer

    copy-it : HasCopiedWords p mem at g.items o.x
    copy-it = g.copies o.x in-items

    -- Its first word.
    first-cons : o.x.word % 4 ≡ 1 → get_or mem at 0 % 4 ≡ 0 → ⊥
    first-cons tag h =
        let none : first_traced p.start o.x.word ≡ 0 = cons-traced p.start o.x.word tag in
        let same : get_or mem at 0 ≡ get_or p.start (o.x.word / 4 + 0) 0 = copy-it.waits 0 at (omega (arith, none)) (object-some p.start o.x.word) (omega (arith, spreads.0)) (omega arith) in
        let P : ℕ → Type 0 = λ a. get_or p.start a 0 % 4 ≡ 0 in
        let e : o.x.word / 4 + 0 ≡ o.x.word / 4 = omega arith in
        head-no-header p.test p.shared p.start o.x.word o.x.tree of-it.standing tag (subst P e (omega (arith, same, h)))

    first-boxed : o.x.word % 4 ≡ 2 → get_or mem at 0 ≡ get_or p.start (o.x.word / 4) 0
    first-boxed tag =
        let some : 0 < first_traced p.start o.x.word = header-first p.test p.shared p.start o.x.word o.x.tree of-it.standing tag in
        copy-it.plain 0 at some (object-some p.start o.x.word) (omega (arith, spreads.0)) (λ l two. omega (arith, two)) ∙ ap (λ a. get_or p.start a 0) (omega arith)

    boxed-first : (l : Layout) → o.x.word % 4 ≡ 2 → layout_for (get_or p.start (o.x.word / 4) 0) ≡ Some l → first_traced p.start o.x.word ≡ l.first
    boxed-first l tag e =
        let two : (o.x.word % 4 == 1) ≡ false = grind (arith, nat_tests, tag) in
        rw (two, e) refl

    places : (from to : ℕ) → Traced (get_or mem at 0) at from to → (from ≡ at + first_traced p.start o.x.word) × (to ≡ at + object_words p.start o.x.word)
    places from to t = elim pointer [
      | inl tag ↦ (let r = t.cons (first-cons tag) in (omega (arith, r, cons-traced p.start o.x.word tag), omega (arith, r, words-cons p.start o.x.word tag)))
      | inr tag ↦
          let (l, e) = has-layout p.test p.shared p.start o.x.word o.x.tree of-it.standing tag in
          let zero-tag : get_or p.start (o.x.word / 4) 0 % 4 ≡ 0 =
          header-there o.x.tree o.x.word (get_or p.start (o.x.word / 4) 0) (told p.test p.shared p.start o.x.word o.x.tree of-it.standing) tag in
          let same : get_or mem at 0 ≡ get_or p.start (o.x.word / 4) 0 = first-boxed tag in
          let r = t.boxed (omega (arith, same, zero-tag)) l (ap layout_for same ∙ e) in
          (omega (arith, r, boxed-first l tag e), omega (arith, r, same, words-header p.start o.x.word tag))
    ]

    traced-len : first_traced p.start o.x.word + trees_len (parts_of o.x.tree) ≡ object_words p.start o.x.word
    traced-len = (scanned p.test p.shared p.start o.x.word o.x.tree of-it.standing pointer).ends

    -- Another copy has no traced word below its first one.
    mine : (y : Item) (j q : ℕ) → Among y g.items → first_traced p.start y.word ≤ j → j < object_words p.start y.word → q ≡ y.place + j → at ≤ q → q < at + first_traced p.start o.x.word → ⊥
    mine y j q i from below e low high =
        let same : y ≡ o.x =
        spread-one p.start p.top g.items top y o.x q g.row i in-items (omega (arith, e)) (omega (arith, e, below)) (omega (arith, spreads.0, low)) (omega (arith, spreads.0, high, traced-len)) in
        let P : Item → Type 0 = λ z. first_traced p.start z.word ≤ j in
        let Q : Item → Type 0 = λ z. q ≡ z.place + j in
        omega (arith, subst P same from, subst Q same e, spreads.0, high)

    opened-copy : (y : Item) → Among y g.items → HasCopiedWords p mem at g.items y → HasCopiedWords p mem (at + first_traced p.start o.x.word) g.items y
    opened-copy y i c = record {
      plain = c.plain;
      next = c.next;
      waits = λ j q from below e past. c.waits j q from below e (omega (arith, past));
      done = λ j q from below e past. elim (cases_lt q at) [
        | inl low ↦ c.done j q from below e low
        | inr high ↦ absurd (mine y j q i from below e high past)
      ];
    }

    led-open : (q : ℕ) → IsLed p (at + first_traced p.start o.x.word) g.items q → IsLed p at g.items q
    led-open q a = elim (cases_lt q at) [
      | inl low ↦ led-below p (at + first_traced p.start o.x.word) at g.items q a low
      | inr high ↦ absurd (mine a.item a.index q a.among a.traced a.below a.place high a.past)
    ]

    opened : AllAreLed p mem at g.items → Scanning p known mem (at + first_traced p.start o.x.word) (at + object_words p.start o.x.word) top (parts_of o.x.tree)
    opened all =
        let more : flat_of_parts g.after ≡ flat_of_all (parts_of o.x.tree) + flat_of_parts o.later = ap flat_of_parts o.is in
        record {
          on = record {
            ready = g.ready;
            items = g.items;
            after = o.later;
            has = g.has;
            marked = omega (arith, traced-len);
            row = g.row;
            further = spreads.1;
            among = λ y i. g.among y (let P : List Item → Type 0 = λ xs. Among y xs in subst P (sym o.is) (inr i));
            stands = g.stands;
            copies = λ y i. opened-copy y i (g.copies y i);
            rises = λ q r a b less. g.rises q r (led-open q a) (led-open r b) less;
            beyond = λ q a. g.beyond q (led-open q a);
            same_len = g.same_len;
            others = g.others;
            counts = g.counts;
            used = omega (arith, g.used, more);
            exact = λ none. omega (arith, g.exact none, more);
          };
          led = all-on p mem mem at (at + first_traced p.start o.x.word) g.items (λ q below. refl) (omega arith) all;
          pends = pends-row p mem (o.x.word / 4 + first_traced p.start o.x.word) (at + first_traced p.start o.x.word) (parts_of o.x.tree)
              (λ j below. copy-it.waits (first_traced p.start o.x.word + j) (at + first_traced p.start o.x.word + j) (omega arith) (omega (arith, below, traced-len))
              (omega (arith, spreads.0)) (omega arith)
              ∙ ap (λ a. get_or p.start a 0) (omega arith))
              (scanned p.test p.shared p.start o.x.word o.x.tree of-it.standing pointer).row;
          ends = omega (arith, traced-len);
          item = o.x;
          among = in-items;
          traced = omega (arith, spreads.0);
          whole = omega (arith, spreads.0);
        }

  -- The words of the object, by its first word.
  pub opens-at : (from to : ℕ) → at < top → Traced (get_or mem at 0) at from to → AllAreLed p mem at g.items → (rest : Trees) × (Scanning p known mem from to top rest × (at < to))
  opens-at from to some t all =
      let o : Opens = opens some in
      let (a, b) = places o from to t in
      let P : ℕ → ℕ → Type 0 = λ x y. Scanning p known mem x y top (parts_of o.x.tree) in
      (parts_of o.x.tree, (rw (a, b) (opened o all), omega (arith, b, object-some p.start o.x.word)))

  pub at-memory : at < top → p.limit ≤ length p.start → at < length mem
  at-memory some inside = omega (arith, some, inside, top-limit p known mem at at top 0 g, g.same_len)

-- All words of an object were gone through.
pub closed : (p : Task) (known : List Item) (mem : List ℕ) (mark at top : ℕ) (rest : Trees) → Scanning p known mem mark at top rest → at ≤ mark → Leading p known mem at at top 0
closed p known mem mark at top end s over =
    let e : mark ≡ at = omega (arith, s.ends) in
    let P : ℕ → Type 0 = λ a. Leading p known mem a at top 0 in
    subst P e (record { on = s.on; led = s.led })
closed p known mem mark at top (u ▹ rest) s over = absurd (omega (arith, s.ends, over))

-- How it begins.

begins-at : (p : Task) (mem : List ℕ) (owed : ℕ) → ReadyToCopy p → p.start ≡ mem → owed ≤ flat p.tree → (((q : ℕ) → p.stay q ≡ false) → owed ≡ flat p.tree) → Leading p [] mem p.top p.top p.top owed
begins-at p mem owed r e few all = record {
  on = record {
    ready = r;
    items = [];
    after = [];
    has = λ x i. i;
    marked = omega arith;
    row = refl;
    further = refl;
    among = λ x i. i;
    stands = λ x i. absurd i;
    copies = λ x i. absurd i;
    rises = λ q r a b less. absurd a.among;
    beyond = λ q a. absurd a.among;
    same_len = ap length (sym e);
    others = λ q out other. ap (λ m. get_or m q 0) (sym e);
    counts = λ v n is. ap (λ m. get_or m (v + 2) 0) (sym e) ∙ omega arith;
    used = omega (arith, few);
    exact = λ none. omega (arith, all none);
  };
  led = λ x i. absurd i;
}

pub begins : (p : Task) (mem : List ℕ) (top : ℕ) → ReadyToCopy p → p.start ≡ mem → p.top ≡ top → Leading p [] mem top top top (flat p.tree + 0)
begins p mem top r e t = let P : ℕ → Type 0 = λ a. Leading p [] mem a a a (flat p.tree + 0) in subst P t (begins-at p mem (flat p.tree + 0) r e (omega arith) (λ none. omega arith))

-- The root stays, or is no pointer.
pub begins-same : (p : Task) (mem : List ℕ) (top w : ℕ) → ReadyToCopy p → p.start ≡ mem → p.top ≡ top → p.word ≡ w → (Goes p w → ⊥) → Begun p mem top top w
begins-same p mem top w r e t same stays =
    let P : ℕ → Type 0 = λ a. Leading p [] mem a a a 0 in
    let none : Goes p p.word → ⊥ = (let Q : ℕ → Type 0 = λ a. Goes p a → ⊥ in subst Q (sym same) stays) in
    let l : Leading p [] mem top top top 0 =
    subst P t (begins-at p mem 0 r e (omega arith) (λ no. sym (flat-none p.test p.shared p.start p.word p.tree r.standing (goes-none p p.word none no)))) in
    record {
      known = [];
      image = inl (none, sym same);
      first = λ goes. absurd (none goes);
      on = l.on;
      led = l.led;
      past = omega (arith, t);
      none = λ n. sym t;
    }

-- The root's object was copied.
pub begins-copied : (p : Task) (mem : List ℕ) (at top w x : ℕ) → p.word ≡ w → p.top ≡ at → Goes p w → x / 4 ≡ at → HasImage p [] mem at at top 0 w x
    → Begun p mem at top x
begins-copied p mem at top w x same start goes place h = elim h.image [
  | inl n ↦ absurd (n.0 goes)
  | inr (g, (z, (i, e))) ↦ record {
    known = z ∷ [];
    image = (let P : ℕ → Type 0 = λ a. IsCopiedWord p (z ∷ []) a x in subst P (sym same) (inr (g, (z, (inl refl, e)))));
    first = λ go. place ∙ sym start;
    on = know p [] z mem at at top 0 h.on i;
    led = λ y j. elim (h.led y j) [ inl k ↦ inl (omega (arith, k, place, start)) | inr l ↦ l ];
    past = omega (arith, start);
    none = λ n. absurd (n (let Q : ℕ → Type 0 = λ a. Goes p a in subst Q (sym same) goes));
  }
]

-- Some words of the object are left, and the first of them.

pub record Still (p : Task) (known : List Item) (mem : List ℕ) (mark at top : ℕ) : Type 0 where
  pub rest : Trees
  pub on : Scanning p known mem mark at top rest

pub record Further (p : Task) (known : List Item) (mem : List ℕ) (mark at top : ℕ) : Type 0 where
  pub tree : Tree
  pub later : Trees
  pub on : Scanning p known mem mark at top (tree ▹ later)

further-by : (p : Task) (known : List Item) (mem : List ℕ) (mark at top : ℕ) (rest : Trees) → Scanning p known mem mark at top rest → mark < at → Further p known mem mark at top
further-by p known mem mark at top end s more = absurd (omega (arith, s.ends, more))
further-by p known mem mark at top (u ▹ rest) s more = record { tree = u; later = rest; on = s }

pub further : (p : Task) (known : List Item) (mem : List ℕ) (mark at top : ℕ) → Still p known mem mark at top → mark < at → Further p known mem mark at top
further p known mem mark at top s more = further-by p known mem mark at top s.rest s.on more

-- Rooms while a copy goes on.

pub room-same : (p : Task) (known : List Item) (mem : List ℕ) (mark at : ℕ) (room : Room) (owed : ℕ) → Copying p known mem mark at room.top owed → CopyHasRoom p room.end → Advances room room
room-same p known mem mark at room owed g has = record { start = refl; end = refl; top = omega arith; inside = omega (arith, has.same, top-limit p known mem mark at room.top owed g) }

pub room-then : (a b e : Room) → Advances a b → Advances b e → Advances a e
room-then a b e x y = record { start = y.start ∙ x.start; end = y.end ∙ x.end; top = omega (arith, x.top, y.top); inside = y.inside }

pub room-has : (p : Task) (a b : Room) → CopyHasRoom p a.end → Advances a b → CopyHasRoom p b.end
room-has p a b has x = record { same = x.end ∙ has.same; inside = has.inside; counts = has.counts }

-- The task of a call, and that it can begin.

abbrev pub task_of : (mem : List ℕ) (room : Room) (stay : ℕ → Bool) (test : ℕ → ℕ → Bool) (shared : List (List ℕ)) (w : ℕ) (t : Tree) → Task
task_of mem room stay test shared w t = record { start = mem; top = room.top; limit = room.end; stay = stay; test = test; shared = shared; word = w; tree = t }

pub can-begin : (mem : List ℕ) (room : Room) (stay : ℕ → Bool) (w : ℕ) (can : CanCopy mem room w) → ReadyToCopy (task_of mem room stay can.test can.shared w can.tree)
can-begin mem room stay w can = record { single = can.single; standing = can.standing; clear = can.clear; fits = can.fits }

pub can-room : (mem : List ℕ) (room : Room) (stay : ℕ → Bool) (w : ℕ) (can : CanCopy mem room w) → room.end ≤ length mem → CopyHasRoom (task_of mem room stay can.test can.shared w can.tree) room.end
can-room mem room stay w can inside = record { same = refl; inside = inside; counts = can.counts }

pub stands-root : (p : Task) (w : ℕ) → ReadyToCopy p → p.word ≡ w → Stands p.test p.shared p.start w p.tree
stands-root p w r e = let P : ℕ → Type 0 = λ x. Stands p.test p.shared p.start x p.tree in subst P e r.standing

-- The traced words of an object by its first word, which was read.

pub traced-cons : (m word at : ℕ) → word ≡ m → (word % 4 ≡ 0 → ⊥) → Traced m at at (at + 2)
traced-cons m word at e other =
    let P : ℕ → Type 0 = λ a. Traced a at at (at + 2) in
    subst P e (record { cons = λ o. (refl, refl); boxed = λ z l is. absurd (other z) })

pub traced-boxed : (m word at first : ℕ) → word ≡ m → word % 4 ≡ 0 → ((l : Layout) → layout_for word ≡ Some l → first ≡ l.first) → Traced m at (at + first) (at + (1 + word / 64))
traced-boxed m word at first e zero-tag is =
    let P : ℕ → Type 0 = λ a. Traced a at (at + first) (at + (1 + word / 64)) in
    subst P e (record { cons = λ o. absurd (o zero-tag); boxed = λ z l s. (ap (λ n. at + n) (is l s), refl) })
