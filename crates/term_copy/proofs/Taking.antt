-- An object is copied: what stands before, what the copy asks, and what stands after it.
use Rattle.std.proofs.Common.{◌≡◌, ℕ, ◌+◌, ◌/◌, ◌%◌, ◌^◌, ◌<◌, ◌≤◌, ◌⊎◌, ◌==◌, ◌&&◌, true, false, if◌then◌else◌, List, [], ◌∷◌, ◌++◌, length, get_or, refl, sym, ◌∙◌, ap, subst, arith, inl, inr}
use Rattle.std.proofs.lemmas.Bool.{cases_Bool}
use Rattle.plain_term.specs.Measures.{flat, flat_of_all}
use Rattle.plain_term.specs.Tree.{Tree}
use Rattle.word_mem.specs.declared.ranges.Room.{Room}
use Rattle.term_words.specs.Role.{COUNT, FIRST, NAMES, IsContent, OfObject}
use Rattle.term_words.specs.Object.{IsPointer, IsRecord, object_words}
use Rattle.term_words.specs.Reach.{parts_of}
use Rattle.term_words.specs.Stands.{Stands}
use Rattle.term_words.specs.Kept.{Kept}
use Rattle.term_words.proofs.Reaching.Carrying.{words-same}
use Rattle.term_words.proofs.Framing.Frames.{kept-carried}
use Rattle.term_words.proofs.ByKind.Inside.{object-inside}
use Rattle.term_words.proofs.Reaching.Reached.{scanned}
use Rattle.term_words.proofs.Placing.Roles.{first-role, object-role, object-record-apart, object-some}
use Rattle.shared_rec.specs.Record.{count_in}
use Rattle.shared_rec.proofs.Records.{record-counted, record-within}
use Rattle.off_heap_list.specs.Links.{name_place, named, names_it}
use Rattle.off_heap_list.proofs.Chaining.Chained.{place-same, one-naming, no-naming}
use Rattle.object_rows.specs.Row.{is_link, is_link_header}
use Rattle.term_copy.specs.Copied.{Task}
use Rattle.term_copy.specs.Going.{Advances, AllAreLed, Among, CanTake, Copying, Goes, HasImage, CopyHasRoom, LiesBeside, HasCopiedWords, IsCopiedWord, IsLed, IsLedTo, IsOf, Item, Took}
use Rattle.term_copy.proofs.Items.{among-last, among-left, among-split, left-last, spread-in, spread-last, spread-order, tally-few, tally-last}
use Rattle.term_copy.proofs.Linked.{LinkFacts, linked, next-linked}

-- An image by some copies is one by more.
pub image-more : (p : Task) (xs ys : List Item) (w x : ℕ) → ((z : Item) → Among z xs → Among z ys) → IsCopiedWord p xs w x → IsCopiedWord p ys w x
image-more p xs ys w x more (inl i) = inl i
image-more p xs ys w x more (inr (g, (z, (i, e)))) = inr (g, (z, (more z i, e)))

pub image-same : (p : Task) (xs : List Item) (w x y : ℕ) → y ≡ x → IsCopiedWord p xs w x → IsCopiedWord p xs w y
image-same p xs w x y e i = let P : ℕ → Type 0 = λ z. IsCopiedWord p xs w z in subst P (sym e) i

module _ (p : Task) (known : List Item) (mem : List ℕ) (mark at top owed : ℕ) (g : Copying p known mem mark at top owed) where
  -- Where things lie.

  pub row-order : p.top ≤ top
  row-order = spread-order p.start p.top g.items top g.row

  pub top-limit : top + owed ≤ p.limit
  top-limit = omega (arith, g.used, g.ready.fits)

  -- A place with a role lies beside the copies.
  pub role-beside : (a k : ℕ) → p.test a k ≡ true → (a < p.top) ⊎ (top ≤ a)
  role-beside a k h = elim (g.ready.clear a k h) [ inl low ↦ inl low | inr high ↦ inr (omega (arith, high, top-limit)) ]

  -- Content is as it was.
  pub content : (a k : ℕ) → IsContent k → p.test a k ≡ true → get_or mem a 0 ≡ get_or p.start a 0
  content a k past h = g.others a (role-beside a k h) (λ counted. let e : k ≡ COUNT = g.ready.single.one a k COUNT h counted in omega (arith, e, past))

  pub kept-start : Kept p.test p.test p.start mem
  kept-start = record { longer = omega (arith, g.same_len); weaker = λ a k h. h; same = content }

  module _ (w : ℕ) (u : Tree) (s : Stands p.test p.shared p.start w u) (y : IsPointer w) where
    size-now : object_words mem w ≡ object_words p.start w
    size-now = words-same p.test p.test p.start mem (kept-carried p.test p.test p.start mem kept-start) p.shared w u s y

    link-now : is_link mem w ≡ is_link p.start w
    link-now = ap (λ h. (w % 4 == 2) && is_link_header h) (content (w / 4) FIRST (omega arith) (first-role p.test p.shared p.start w u s y))

    -- A word that is no word `next` is as it was.
    word-now : (j : ℕ) → j < object_words p.start w → (is_link p.start w ≡ true → j ≡ 2 → ⊥) → get_or mem (w / 4 + j) 0 ≡ get_or p.start (w / 4 + j) 0
    word-now j below other =
        let (k, (of, h)) = object-role p.test p.shared p.start w u (w / 4 + j) s y (omega arith) (omega arith) in
        elim of [
          | inl e ↦ (let P : ℕ → Type 0 = λ r. p.test (w / 4 + j) r ≡ true in
              let (link, place) = next-linked p.test p.shared p.start w u (w / 4 + j) g.ready.single s y (omega arith) (omega arith) (subst P e h) in
              absurd (other link (omega (arith, place))))
          | inr range ↦ content (w / 4 + j) k range.0 h
        ]

    link-of : is_link p.start w ≡ true → LinkFacts p.test p.start w
    link-of h = linked p.test p.shared p.start w u s h

    named-now : is_link p.start w ≡ true → named mem (w / 4) ≡ named p.start (w / 4)
    named-now h =
        let f : LinkFacts p.test p.start w = link-of h in
        ap (λ q. get_or mem q 0) (place-same p.start mem (w / 4) (content (w / 4) FIRST (omega arith) f.first)) ∙ content (name_place p.start (w / 4)) NAMES (omega arith) f.names

    -- The count of its record lies beside the copies and the free words.
    counted : (h : is_link p.start w ≡ true) → p.test (named p.start (w / 4) + 2) COUNT ≡ true
    counted h = record-counted p.test p.start (named p.start (w / 4)) (link-of h).words (link-of h).record_is

    size-flat : object_words p.start w + flat_of_all (parts_of u) ≡ flat u
    size-flat = sym (scanned p.test p.shared p.start w u s y).left

    -- What the copy asks.

    meet : (a b : ℕ) → (a ≤ b) ⊎ (b < a)
    meet a b = grind arith

    clear-of : top + object_words p.start w ≤ p.limit → (w / 4 + object_words p.start w ≤ top) ⊎ (top + object_words p.start w ≤ w / 4)
    clear-of fits =
        let first : (k : ℕ) × (OfObject k × (p.test (w / 4) k ≡ true)) = object-role p.test p.shared p.start w u (w / 4) s y (omega arith) (omega (arith, object-some p.start w)) in
        let some : 0 < object_words p.start w = object-some p.start w in
        elim (g.ready.clear (w / 4) first.0 first.1.1) [
          | inr high ↦ inr (omega (arith, high, fits))
          | inl low ↦ elim (meet (w / 4 + object_words p.start w) p.top) [
            | inl far ↦ inl (omega (arith, far, row-order))
            | inr near ↦ (let here : (k : ℕ) × (OfObject k × (p.test p.top k ≡ true)) = object-role p.test p.shared p.start w u p.top s y (omega (arith, low)) near in
                elim (g.ready.clear p.top here.0 here.1.1) [ inl l ↦ absurd (omega (arith, l)) | inr l ↦ absurd (omega (arith, l, fits, row-order, some)) ])
          ]
        ]

    link-many : (x : Item) → Among x g.items → is_link p.start x.word ≡ true → 6 ≤ object_words p.start x.word
    link-many x i h = (linked p.test p.shared p.start x.word x.tree (g.stands x i).standing h).many

    few-there : (v n : ℕ) → IsRecord p.test p.start v n → p.limit ≤ 2 ^ 24 → count_in p.start v < 2 ^ 23 → count_in mem v < 2 ^ 24
    few-there v n r small few = omega (arith, g.counts v n r, tally-few p.start v p.top g.items top g.row link-many, top-limit, small, few)

    beside-word : (v n : ℕ) → IsRecord p.test p.start v n → LiesBeside (w / 4) (object_words p.start w) (v + 2)
    beside-word v n r =
        let (inside, four) = record-within p.test p.start v n r in
        elim (object-record-apart p.test p.shared p.start w v n u g.ready.single s y r) [ inl l ↦ inr (omega (arith, l)) | inr l ↦ inl (omega (arith, l, four)) ]

    pub can-take : (limit : ℕ) → CopyHasRoom p limit → length mem ≤ 2 ^ 24 → flat u ≤ owed → CanTake mem top limit w
    can-take limit has most part =
        let words : object_words mem w ≡ object_words p.start w = size-now in
        let fits : top + object_words p.start w ≤ p.limit = omega (arith, size-flat, part, top-limit) in
        record {
          pointer = y;
          within = omega (arith, words, object-inside p.test p.shared p.start w u s y, g.same_len);
          fits = omega (arith, words, fits, has.same);
          inside = omega (arith, has.same, has.inside, g.same_len);
          apart = (let P : ℕ → Type 0 = λ n. (w / 4 + n ≤ top) ⊎ (top + n ≤ w / 4) in subst P (sym words) (clear-of fits));
          link = λ h.
              let is : is_link p.start w ≡ true = sym link-now ∙ h in
              let f : LinkFacts p.test p.start w = link-of is in
              let v : ℕ = named p.start (w / 4) in
              let same : named mem (w / 4) ≡ named p.start (w / 4) = named-now is in
              let (inside, four) = record-within p.test p.start (named p.start (w / 4)) f.words f.record_is in
              let few : count_in mem (named p.start (w / 4)) < 2 ^ 24 =
              few-there (named p.start (w / 4)) f.words f.record_is (omega (arith, has.inside, g.same_len, most)) (has.counts (named p.start (w / 4)) f.words f.record_is) in
              let P : ℕ → Type 0 = λ r. count_in mem r < 2 ^ 24 in
              let Q : ℕ → ℕ → Type 0 = λ n r. LiesBeside (w / 4) n (r + 2) in
              let here : LiesBeside (w / 4) (object_words p.start w) (named p.start (w / 4) + 2) = beside-word (named p.start (w / 4)) f.words f.record_is in
              record {
                size = omega (arith, words, f.many);
                within = omega (arith, same, inside, four, g.same_len);
                few = subst P (sym same) few;
                here = elim here [ inl l ↦ inl (omega (arith, l, same, words)) | inr l ↦ inr (omega (arith, l, same, words)) ];
                there = elim (g.ready.clear (named p.start (w / 4) + 2) COUNT (counted is)) [
                  | inl low ↦ inl (omega (arith, low, same, row-order))
                  | inr high ↦ inr (omega (arith, high, same, words, fits))
                ];
              };
        }

  -- What stands after it.

  module _ (w : ℕ) (u : Tree) (more : ℕ) (is : owed ≡ flat u + more) (s : Stands p.test p.shared p.start w u) (goes : Goes p w) (new : List ℕ) (x : ℕ) (t : Took mem new w top x) where
    words-is : object_words mem w ≡ object_words p.start w
    words-is = size-now w u s goes.pointer

    link-is : is_link mem w ≡ is_link p.start w
    link-is = link-now w u s goes.pointer

    flat-is : object_words p.start w + flat_of_all (parts_of u) ≡ flat u
    flat-is = size-flat w u s goes.pointer

    fits-is : top + object_words p.start w ≤ p.limit
    fits-is = omega (arith, flat-is, is, top-limit)

    abbrev z : Item
    z = record { place = top; word = w; tree = u }

    same-new : (j q : ℕ) → j < object_words p.start w → q ≡ top + j → (is_link p.start w ≡ true → j ≡ 2 → ⊥) → get_or new q 0 ≡ get_or p.start (w / 4 + j) 0
    same-new j q below e other = t.same j q (omega (arith, below, words-is)) e (λ h. other (sym link-is ∙ h)) ∙ word-now w u s goes.pointer j below other

    rest-new : (q : ℕ) → (q < top) ⊎ (top + object_words p.start w ≤ q) → (is_link p.start w ≡ true → q ≡ named p.start (w / 4) + 2 → ⊥) → get_or new q 0 ≡ get_or mem q 0
    rest-new q out other =
        let P : ℕ → Type 0 = λ m. (q < top) ⊎ (top + m ≤ q) in
        t.rest q (subst P (sym words-is) out) (λ h e. let l : is_link p.start w ≡ true = sym link-is ∙ h in other l (omega (arith, e, named-now w u s goes.pointer l)))

    -- The words of the copies that were there.
    row-same : (q : ℕ) → p.top ≤ q → q < top → get_or new q 0 ≡ get_or mem q 0
    row-same q from below = rest-new q (inl below) (λ l e.
        elim (role-beside (named p.start (w / 4) + 2) COUNT (counted w u s goes.pointer l)) [ inl low ↦ omega (arith, low, e, from) | inr high ↦ omega (arith, high, e, below) ])

    others-new : (q : ℕ) → (q < p.top) ⊎ (top + object_words p.start w ≤ q) → (p.test q COUNT ≡ true → ⊥) → get_or new q 0 ≡ get_or p.start q 0
    others-new q out other =
        let P : ℕ → Type 0 = λ r. p.test r COUNT ≡ true in
        rest-new q (elim out [ inl low ↦ inl (omega (arith, low, row-order)) | inr high ↦ inr high ]) (λ l e. other (subst P (sym e) (counted w u s goes.pointer l)))
        ∙ g.others q (elim out [ inl low ↦ inl low | inr high ↦ inr (omega (arith, high)) ]) other

    -- Counts.
    count-new : (v m : ℕ) → IsRecord p.test p.start v m → get_or new (v + 2) 0 ≡ get_or mem (v + 2) 0 + (if is_link p.start w then names_it (named p.start (w / 4)) v else 0)
    count-new v m r =
        let out : (v + 2 < top) ⊎ (top + object_words p.start w ≤ v + 2) = elim (g.ready.clear (v + 2) COUNT (record-counted p.test p.start v m r)) [
          | inl low ↦ inl (omega (arith, low, row-order))
          | inr high ↦ inr (omega (arith, high, fits-is))
        ] in
        elim (cases_Bool (is_link p.start w)) [
          | inr f ↦ rw f (rest-new (v + 2) out (λ l. absurd (let e : true ≡ false = sym l ∙ f in grind (arith, e))) ∙ omega arith)
          | inl l ↦
              let which : (v ≡ named p.start (w / 4)) ⊎ ((named p.start (w / 4) < v) ⊎ (v < named p.start (w / 4))) = grind arith in
              let name : named mem (w / 4) ≡ named p.start (w / 4) = named-now w u s goes.pointer l in
              rw l (elim which [
                | inl e ↦ (let P : ℕ → Type 0 = λ r2. get_or new (r2 + 2) 0 ≡ get_or mem (r2 + 2) 0 + 1 in
                    subst P (name ∙ sym e) (t.count (link-is ∙ l)) ∙ omega (arith, one-naming (named p.start (w / 4)) v (sym e)))
                | inr far ↦ rest-new (v + 2) out (λ l2 e. omega (arith, e, far)) ∙ omega (arith, no-naming (named p.start (w / 4)) v far)
              ])
        ]

    old-copy : (y : Item) → Among y g.items → HasCopiedWords p mem mark g.items y → HasCopiedWords p new mark (g.items ++ z ∷ []) y
    old-copy y i o =
        let (low, high) = spread-in p.start p.top g.items top y g.row i in
        record {
          plain = λ j q less below e other. row-same q (omega (arith, e, low)) (omega (arith, e, below, high)) ∙ o.plain j q less below e other;
          next = λ l. row-same (y.place + 2) (omega (arith, low)) (omega (arith, high, (linked p.test p.shared p.start y.word y.tree (g.stands y i).standing l).many)) ∙ o.next l;
          waits = λ j q from below e past. row-same q (omega (arith, e, low)) (omega (arith, e, below, high)) ∙ o.waits j q from below e past;
          done = λ j q from below e past.
              image-same p (g.items ++ z ∷ []) (get_or p.start (y.word / 4 + j) 0) (get_or mem q 0) (get_or new q 0) (row-same q (omega (arith, e, low)) (omega (arith, e, below, high)))
              (image-more p g.items (g.items ++ z ∷ []) (get_or p.start (y.word / 4 + j) 0) (get_or mem q 0) (λ a h. among-left a z g.items h) (o.done j q from below e past));
        }

    new-copy : HasCopiedWords p new mark (g.items ++ z ∷ []) z
    new-copy = record {
      plain = λ j q less below e other. same-new j q below e other;
      next = λ l. t.next (link-is ∙ l);
      waits = λ j q from below e past. same-new j q below e (λ l two. omega (arith, two, from, (link-of w u s goes.pointer l).untraced));
      done = λ j q from below e past. absurd (omega (arith, e, past, g.marked, spread-order p.start at g.after top g.further));
    }

    -- Words that were replaced are those of the copies that were there.
    led-old : (q : ℕ) → IsLed p mark (g.items ++ z ∷ []) q → IsLed p mark g.items q
    led-old q a = elim (among-split a.item z g.items a.among) [
      | inl i ↦ record { item = a.item; among = i; index = a.index; traced = a.traced; below = a.below; place = a.place; past = a.past; goes = a.goes }
      | inr e ↦
          let P : Item → Type 0 = λ y. y.place ≡ top in
          let there : a.item.place ≡ top = subst P (sym e) refl in
          absurd (omega (arith, there, a.place, a.past, g.marked, spread-order p.start at g.after top g.further))
    ]

    led-same : (q : ℕ) → IsLed p mark g.items q → get_or new q 0 ≡ get_or mem q 0
    led-same q a =
        let r = spread-in p.start p.top g.items top a.item g.row a.among in
        row-same q (omega (arith, a.place, r)) (omega (arith, a.place, a.below, r))

    led-before : (q : ℕ) → IsLed p mark g.items q → get_or mem q 0 / 4 < top
    led-before q a = elim ((g.copies a.item a.among).done a.index q a.traced a.below a.place a.past) [
      | inl n ↦ absurd (n.0 a.goes)
      | inr (go, (y, (i, (same, e)))) ↦ omega (arith, e, spread-in p.start p.top g.items top y g.row i, object-some p.start y.word)
    ]

    led-later : (q : ℕ) → IsLed p mark (g.items ++ z ∷ []) q → get_or new q 0 / 4 < x / 4
    led-later q a = let h : IsLed p mark g.items q = led-old q a in omega (arith, led-before q h, led-same q h, t.word)

    led-more : (q : ℕ) → IsLed p mark g.items q → IsLed p mark (g.items ++ z ∷ []) q
    led-more q a = record {
      item = a.item;
      among = among-left a.item z g.items a.among;
      index = a.index;
      traced = a.traced;
      below = a.below;
      place = a.place;
      past = a.past;
      goes = a.goes;
    }

    -- A word leads to each copy that was there.
    led-new : AllAreLed p mem mark g.items → (y : Item) → Among y (g.items ++ z ∷ []) → (y.place ≡ x / 4) ⊎ ((y.place ≡ p.top) ⊎ IsLedTo p new mark (g.items ++ z ∷ []) y)
    led-new all y i = elim (among-split y z g.items i) [
      | inl j ↦ elim (all y j) [
        | inl e ↦ inr (inl e)
        | inr l ↦ inr (inr (record { from = l.from; led = led-more l.from l.led; there = ap (λ a. a / 4) (led-same l.from l.led) ∙ l.there; before = l.before }))
      ]
      | inr e ↦ (let P : Item → Type 0 = λ a. a.place ≡ x / 4 in inl (subst P (sym e) (omega (arith, t.word))))
    ]

    taken : Copying p known new mark at (top + object_words p.start w) more
    taken = record {
      ready = g.ready;
      items = g.items ++ z ∷ [];
      after = g.after ++ z ∷ [];
      has = λ y i. among-left y z g.items (g.has y i);
      marked = g.marked;
      row = spread-last p.start p.top g.items top z g.row refl;
      further = spread-last p.start at g.after top z g.further refl;
      among = λ y i. elim (among-split y z g.after i) [
        | inl j ↦ among-left y z g.items (g.among y j)
        | inr e ↦ (let P : Item → Type 0 = λ a. Among a (g.items ++ z ∷ []) in subst P (sym e) (among-last z g.items))
      ];
      stands = λ y i. elim (among-split y z g.items i) [
        | inl j ↦ g.stands y j
        | inr e ↦ (let P : Item → Type 0 = λ a. IsOf p a in subst P (sym e) (record { goes = goes; standing = s }))
      ];
      copies = λ y i. elim (among-split y z g.items i) [
        | inl j ↦ old-copy y j (g.copies y j)
        | inr e ↦ (let P : Item → Type 0 = λ a. HasCopiedWords p new mark (g.items ++ z ∷ []) a in subst P (sym e) new-copy)
      ];
      rises = λ q r a b less.
          let ha : IsLed p mark g.items q = led-old q a in
          let hb : IsLed p mark g.items r = led-old r b in
          omega (arith, g.rises q r ha hb less, led-same q ha, led-same r hb);
      beyond = λ q a. let h : IsLed p mark g.items q = led-old q a in omega (arith, g.beyond q h, led-same q h);
      same_len = t.same_len ∙ g.same_len;
      others = others-new;
      counts = λ v m r. count-new v m r ∙ omega (arith, g.counts v m r, tally-last p.start v z g.items);
      used = omega (arith, g.used, left-last z g.after, flat-is, is);
      exact = λ none. omega (arith, g.exact none, left-last z g.after, flat-is, is);
    }

    pub took-image : AllAreLed p mem mark g.items → (top2 : ℕ) → top2 ≡ top + object_words mem w → HasImage p known new mark at top2 more w x
    unfolding taken
    took-image all top2 e =
        let there : top2 ≡ top + object_words p.start w = omega (arith, e, words-is) in
        let P : ℕ → Type 0 = λ a. HasImage p known new mark at a more w x in
        subst P (sym there) (record { on = taken; image = inr (goes, (z, (among-last z g.items, (refl, t.word)))); later = led-later; led = led-new all })

-- The room after a copy.
pub room-advances : (old new : Room) (n : ℕ) → new ≡ record old { top = old.top + n } → old.top + n ≤ old.end → Advances old new
room-advances old new n e fits =
    let P : Room → Type 0 = λ r. Advances old r in
    subst P (sym e) (record { start = refl; end = refl; top = omega arith; inside = fits })
