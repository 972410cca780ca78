-- When all words were gone through, the copy is whole.
use Rattle.std.proofs.Common.{◌≡◌, ℕ, zero, suc, ◌+◌, ◌-◌, ◌*◌, ◌/◌, ◌%◌, ◌<◌, ◌≤◌, ◌⊎◌, ◌==◌, ◌||◌, ◌&&◌, if◌then◌else◌, nat_le, nat_lt, Bool, true, false, List, [], ◌∷◌, ◌++◌, length, get_or, refl, sym, ◌∙◌, ap, subst, arith, inl, inr}
use Rattle.std.proofs.lemmas.Bool.Decides.{nat_tests}
use Rattle.std.proofs.lemmas.Bool.{or_left, or_right, or_cases, and_from, and_parts, cases_Bool}
use Rattle.plain_term.specs.Measures.{flat, flat_of_all}
use Rattle.plain_term.specs.Tree.{Tree, Trees, trees_len}
use Rattle.plain_term.specs.Tree.Trees.{end, ◌▹◌}
use Rattle.term_tags.specs.Words.{head_word}
use Rattle.term_tags.specs.declared.layouts.TheConstants.{HOLDER}
use Rattle.term_tags.specs.Table.{layout_for}
use Rattle.term_words.specs.Role.{NEXT, COUNT, FIRST, NAMES, RECORD, OfObject, OfRecord}
use Rattle.term_words.specs.Object.{IsPointer, IsRecord, object_words}
use Rattle.term_words.specs.Reach.{Reach, root, part, first_of, first_traced, parts_of}
use Rattle.term_words.specs.Stands.{Stands, RowStands, tree_at}
use Rattle.term_words.specs.Kept.{Kept}
use Rattle.term_words.specs.Counted.{In, Distinct}
use Rattle.term_words.specs.Tiled.{Tiled, tile_words}
use Rattle.term_words.proofs.Placing.Apart.{words-cons, words-header}
use Rattle.term_words.proofs.Reaching.Carrying.{words-same, first-same, traced-same}
use Rattle.term_words.proofs.Framing.Frames.{frame, kept-carried}
use Rattle.term_words.proofs.Totals.Members.{in-both}
use Rattle.term_words.proofs.Reaching.Reached.{cons-traced, scanned}
use Rattle.term_words.proofs.Reaching.Relocating.{header-first}
use Rattle.term_words.proofs.Placing.Roles.{first-role, object-some}
use Rattle.term_words.proofs.ByKind.Shapes.{row-at}
use Rattle.term_words.proofs.Placing.Single.{single}
use Rattle.term_words.proofs.Placing.Tiles.{tiled-object}
use Rattle.shared_rec.specs.Record.{count_in}
use Rattle.shared_rec.proofs.Records.{bin-stays, fun-stays, record-same}
use Rattle.off_heap_list.specs.Links.{named, names_it, naming, next_in, IsLink, Links}
use Rattle.off_heap_list.proofs.Chaining.Chained.{leads-stays, link-stays, naming-stays}
use Rattle.off_heap_list.proofs.Chaining.Exact.{naming-both}
use Rattle.object_rows.specs.Row.{is_link, is_link_header, links_in}
use Rattle.term_copy.specs.Copied.{CopiesTree, IsClosed, PointsInto, Task}
use Rattle.term_copy.specs.Going.{AllAreLed, Among, Begun, Copying, Goes, HasCopiedWords, IsCopiedWord, IsLed, IsLedTo, IsOf, Item, Leading, Spread, flat_of_parts, tally}
use Rattle.term_copy.proofs.Items.{spread-in, spread-none, spread-one, spread-order}
use Rattle.term_copy.proofs.Linked.{LinkFacts, link-told, linked, next-linked}
use Rattle.term_copy.proofs.Alike.{IsAlike, alike}
use Rattle.term_copy.proofs.Taking.{content, image-more, kept-start, role-beside, top-limit}

-- The roles of the words of copies: those of the words that they were copied from.

is_object_role : ℕ → Bool
is_object_role k = (k == NEXT) || (nat_le FIRST k && nat_le k NAMES)

object-role-told : (k : ℕ) → is_object_role k ≡ true → OfObject k
unfolding is_object_role
object-role-told k e = grind (arith, nat_tests, e)

object-role-is : (k : ℕ) → OfObject k → is_object_role k ≡ true
unfolding is_object_role
object-role-is k o = grind (arith, nat_tests, o)

within_item : List ℕ → Item → ℕ → Bool
within_item old x a = nat_le x.place a && nat_lt a (x.place + object_words old x.word)

within-told : (old : List ℕ) (x : Item) (a : ℕ) → within_item old x a ≡ true → (x.place ≤ a) × (a < x.place + object_words old x.word)
unfolding within_item
within-told old x a e = grind (arith, nat_tests, e)

within-is : (old : List ℕ) (x : Item) (a : ℕ) → x.place ≤ a → a < x.place + object_words old x.word → within_item old x a ≡ true
unfolding within_item
within-is old x a low high = grind (arith, nat_tests, low, high)

role_in : (ℕ → ℕ → Bool) → List ℕ → List Item → ℕ → ℕ → Bool
role_in c old [] a k = false
role_in c old (x ∷ xs) a k = (within_item old x a && (is_object_role k && c (x.word / 4 + (a - x.place)) k)) || role_in c old xs a k

-- A copy that has the place, and the role of the word there.
record HasRole (c : ℕ → ℕ → Bool) (old : List ℕ) (xs : List Item) (a k : ℕ) : Type 0 where
  pub x : Item
  pub among : Among x xs
  pub low : x.place ≤ a
  pub high : a < x.place + object_words old x.word
  pub of : OfObject k
  pub role : c (x.word / 4 + (a - x.place)) k ≡ true

role-told : (c : ℕ → ℕ → Bool) (old : List ℕ) (xs : List Item) (a k : ℕ) → role_in c old xs a k ≡ true → HasRole c old xs a k
unfolding role_in
role-told c old [] a k e = absurd (grind (arith, e))
role-told c old (x ∷ xs) a k e = elim (or_cases (within_item old x a && (is_object_role k && c (x.word / 4 + (a - x.place)) k)) (role_in c old xs a k) e) [
  | inl here ↦
      let (w, r) = and_parts (within_item old x a) (is_object_role k && c (x.word / 4 + (a - x.place)) k) here in
      let (o, t) = and_parts (is_object_role k) (c (x.word / 4 + (a - x.place)) k) r in
      let (low, high) = within-told old x a w in
      record { x = x; among = inl refl; low = low; high = high; of = object-role-told k o; role = t }
  | inr there ↦
      let h : HasRole c old xs a k = role-told c old xs a k there in
      record { x = h.x; among = inr h.among; low = h.low; high = h.high; of = h.of; role = h.role }
]

role-given : (c : ℕ → ℕ → Bool) (old : List ℕ) (xs : List Item) (a k : ℕ) (x : Item) → Among x xs → x.place ≤ a → a < x.place + object_words old x.word → OfObject k
    → c (x.word / 4 + (a - x.place)) k ≡ true → role_in c old xs a k ≡ true
unfolding role_in
role-given c old [] a k x i low high of t = absurd i
role-given c old (y ∷ ys) a k x (inl e) low high of t =
    let P : Item → Type 0 = λ z. (within_item old z a && (is_object_role k && c (z.word / 4 + (a - z.place)) k)) ≡ true in
    or_left (within_item old y a && (is_object_role k && c (y.word / 4 + (a - y.place)) k)) (role_in c old ys a k)
    (subst P e (and_from (within_item old x a) (is_object_role k && c (x.word / 4 + (a - x.place)) k) (within-is old x a low high)
    (and_from (is_object_role k) (c (x.word / 4 + (a - x.place)) k) (object-role-is k of) t)))
role-given c old (y ∷ ys) a k x (inr i) low high of t =
    or_right (within_item old y a && (is_object_role k && c (y.word / 4 + (a - y.place)) k)) (role_in c old ys a k) (role-given c old ys a k x i low high of t)

-- The pointer to a copy.
abbrev pointer_to : Item → ℕ
pointer_to x = x.place * 4 + x.word % 4

tag-to : (x : Item) → pointer_to x % 4 ≡ x.word % 4
tag-to x = omega arith

place-to : (x : Item) → pointer_to x / 4 ≡ x.place
place-to x = omega arith

pointer-same : (v w : ℕ) → v % 4 ≡ w % 4 → IsPointer w → IsPointer v
pointer-same v w e y = elim y [ inl t ↦ inl (e ∙ t) | inr t ↦ inr (e ∙ t) ]

-- The places of the holders and funs among copies, and the pointers to all.

link_places : List ℕ → List Item → List ℕ
link_places old [] = []
link_places old (x ∷ xs) = if is_link old x.word then x.place ∷ link_places old xs else link_places old xs

tiles_of : List Item → List ℕ
tiles_of [] = []
tiles_of (x ∷ xs) = pointer_to x ∷ tiles_of xs

record IsPlace (old : List ℕ) (xs : List Item) (q : ℕ) : Type 0 where
  pub x : Item
  pub among : Among x xs
  pub link : is_link old x.word ≡ true
  pub place : q ≡ x.place

place-told : (old : List ℕ) (xs : List Item) (q : ℕ) → In q (link_places old xs) → IsPlace old xs q
unfolding link_places
place-told old [] q i = absurd i
place-told old (x ∷ xs) q i =
    let more : IsPlace old xs q → IsPlace old (x ∷ xs) q = λ o. record { x = o.x; among = inr o.among; link = o.link; place = o.place } in
    elim (cases_Bool (is_link old x.word)) [
      | inl l ↦ (let P : Bool → Type 0 = λ b. In q (if b then x.place ∷ link_places old xs else link_places old xs) in
          let j : In q (x.place ∷ link_places old xs) = subst P l i in
          elim j [ inl e ↦ record { x = x; among = inl refl; link = l; place = e } | inr h ↦ more (place-told old xs q h) ])
      | inr n ↦ (let P : Bool → Type 0 = λ b. In q (if b then x.place ∷ link_places old xs else link_places old xs) in
          more (place-told old xs q (subst P n i)))
    ]

place-is : (old : List ℕ) (xs : List Item) (x : Item) → Among x xs → is_link old x.word ≡ true → In x.place (link_places old xs)
unfolding link_places
place-is old [] x i l = absurd i
place-is old (y ∷ ys) x (inl e) l =
    let P : Item → Type 0 = λ z. (is_link old z.word ≡ true) → In z.place (if is_link old z.word then z.place ∷ link_places old ys else link_places old ys) in
    let Q : Item → Type 0 = λ z. In z.place (if is_link old y.word then y.place ∷ link_places old ys else link_places old ys) in
    let m : is_link old y.word ≡ true = (let R : Item → Type 0 = λ z. is_link old z.word ≡ true in subst R e l) in
    subst Q (sym e) (rw m (inl refl))
place-is old (y ∷ ys) x (inr i) l =
    let h : In x.place (link_places old ys) = place-is old ys x i l in
    elim (cases_Bool (is_link old y.word)) [ inl m ↦ rw m (inr h) | inr m ↦ rw m h ]

places-once : (old : List ℕ) (from : ℕ) (xs : List Item) (to : ℕ) → Spread old from xs to → Distinct (link_places old xs)
unfolding link_places
places-once old from [] to row = tt
places-once old from (x ∷ xs) to (place, rest) =
    let h : Distinct (link_places old xs) = places-once old (from + object_words old x.word) xs to rest in
    elim (cases_Bool (is_link old x.word)) [
      | inl m ↦ rw m (
        (λ i. (let o : IsPlace old xs x.place = place-told old xs x.place i in
            omega (arith, o.place, place, spread-in old (from + object_words old x.word) xs to o.x rest o.among, object-some old x.word))),
        h,
      )
      | inr m ↦ rw m h
    ]

module _ (p : Task) (known : List Item) (mem : List ℕ) (top : ℕ) (g : Copying p known mem top top top 0) (inside : p.limit ≤ length p.start) where
  -- The test of the copy.
  test : ℕ → ℕ → Bool
  test a k = p.test a k || role_in p.test p.start g.items a k

  test-more : (a k : ℕ) → p.test a k ≡ true → test a k ≡ true
  unfolding test
  test-more a k h = or_left (p.test a k) (role_in p.test p.start g.items a k) h

  test-told : (a k : ℕ) → test a k ≡ true → (p.test a k ≡ true) ⊎ HasRole p.test p.start g.items a k
  unfolding test
  test-told a k h = elim (or_cases (p.test a k) (role_in p.test p.start g.items a k) h) [ inl t ↦ inl t | inr t ↦ inr (role-told p.test p.start g.items a k t) ]

  test-copy : (x : Item) (j q k : ℕ) → Among x g.items → j < object_words p.start x.word → q ≡ x.place + j → OfObject k → p.test (x.word / 4 + j) k ≡ true → test q k ≡ true
  unfolding test
  test-copy x j q k i below e of t =
      let there : j ≡ q - x.place = omega (arith, e) in
      let P : ℕ → Type 0 = λ y. p.test (x.word / 4 + y) k ≡ true in
      or_right (p.test q k) (role_in p.test p.start g.items q k) (role-given p.test p.start g.items q k x i (omega (arith, e)) (omega (arith, e, below)) of (subst P there t))

  role-inside : (a k : ℕ) → HasRole p.test p.start g.items a k → (p.top ≤ a) × (a < top)
  role-inside a k h = let r = spread-in p.start p.top g.items top h.x g.row h.among in (omega (arith, r, h.low), omega (arith, r, h.high))

  test-within : (a k : ℕ) → test a k ≡ true → (p.test a k ≡ true) ⊎ ((p.top ≤ a) × ((a < top) × OfObject k))
  test-within a k t = elim (test-told a k t) [ inl h ↦ inl h | inr h ↦ inr ((role-inside a k h).0, ((role-inside a k h).1, h.of)) ]

  never-both : (a j k : ℕ) → p.test a j ≡ true → HasRole p.test p.start g.items a k → ⊥
  never-both a j k t h = omega (arith, role-inside a k h, role-beside p known mem top top top 0 g a j t)

  both-copies : (a j k : ℕ) → HasRole p.test p.start g.items a j → HasRole p.test p.start g.items a k → j ≡ k
  both-copies a j k h l =
      let same : h.x ≡ l.x = spread-one p.start p.top g.items top h.x l.x a g.row h.among l.among h.low h.high l.low l.high in
      let P : Item → Type 0 = λ z. p.test (z.word / 4 + (a - z.place)) j ≡ true in
      g.ready.single.one (l.x.word / 4 + (a - l.x.place)) j k (subst P same h.role) l.role

  test-one : (a j k : ℕ) → test a j ≡ true → test a k ≡ true → j ≡ k
  test-one a j k s t = elim (test-told a j s) [
    | inl h ↦ elim (test-told a k t) [ inl l ↦ g.ready.single.one a j k h l | inr l ↦ absurd (never-both a j k h l) ]
    | inr h ↦ elim (test-told a k t) [ inl l ↦ absurd (never-both a k j l h) | inr l ↦ both-copies a j k h l ]
  ]

  kept-new : Kept p.test test p.start mem
  kept-new = record { longer = omega (arith, g.same_len); weaker = test-more; same = content p known mem top top top 0 g }

  -- Copies.

  copy-of : (x : Item) → Among x g.items → HasCopiedWords p mem top g.items x
  copy-of x i = g.copies x i

  alike-copy : (x : Item) → Among x g.items → IsAlike p.test test p.start mem x.word (pointer_to x)
  alike-copy x i = record {
    tag = tag-to x;
    within = omega (arith, place-to x, spread-in p.start p.top g.items top x g.row i, top-limit p known mem top top top 0 g, inside, g.same_len);
    roles = λ j q k below e t of. test-copy x j q k i below (omega (arith, e, place-to x)) of t;
    same = λ j q k less below e t past. (copy-of x i).plain j q less below (omega (arith, e, place-to x)) (λ l two.
        let f : LinkFacts p.test p.start x.word = linked p.test p.shared p.start x.word x.tree (g.stands x i).standing l in
        let P : ℕ → Type 0 = λ y. p.test (x.word / 4 + y) k ≡ true in
        let n : k ≡ NEXT = g.ready.single.one (x.word / 4 + 2) k NEXT (subst P two t) f.next in
        omega (arith, n, past));
    bins = λ v serial bytes o. bin-stays p.test test p.start mem v serial bytes kept-new o;
    funs = λ v name arity o. fun-stays p.test test p.start mem v name arity kept-new o;
  }

  -- The copy of a word stands for the word's tree: by the flat words of the trees.

  Made : ℕ → Type 0
  Made n = (x : Item) → Among x g.items → flat x.tree ≤ n → Stands test p.shared mem (pointer_to x) x.tree

  image-made : (n y z : ℕ) (u : Tree) → Made n → Stands p.test p.shared p.start y u → flat u ≤ n → IsCopiedWord p g.items y z → Stands test p.shared mem z u
  unfolding Made
  image-made n y z u each s few (inl (stays, e)) =
      let P : ℕ → Type 0 = λ a. Stands test p.shared mem a u in
      subst P (sym e) ((frame p.test test p.start mem kept-new).each p.shared y u s)
  image-made n y z u each s few (inr (goes, (x, (i, (same, e))))) =
      let P : ℕ → Type 0 = λ a. Stands p.test p.shared p.start a u in
      let tree : x.tree ≡ u = single p.test p.test p.shared p.shared p.start x.word x.tree u (g.stands x i).standing (subst P (sym same) s) in
      let Q : Tree → Type 0 = λ t. Stands test p.shared mem z t in
      let word : pointer_to x ≡ z = omega (arith, e, same) in
      let R : ℕ → Type 0 = λ a. Stands test p.shared mem a x.tree in
      subst Q tree (subst R word (each x i (omega (arith, ap flat tree, few))))

  row-made : (n a q : ℕ) (ts : Trees) → Made n → RowStands p.test p.shared p.start a ts → flat_of_all ts ≤ n
      → ((j : ℕ) → j < trees_len ts → IsCopiedWord p g.items (get_or p.start (a + j) 0) (get_or mem (q + j) 0))
      → RowStands test p.shared mem q ts
  unfolding RowStands
  row-made n a q end each row few image = tt
  row-made n a q (t ▹ ts) each (first, rest) few image =
      let P : ℕ → ℕ → Type 0 = λ b c. IsCopiedWord p g.items (get_or p.start b 0) (get_or mem c 0) in
      let here : P a q = (let e : a + 0 ≡ a = omega arith in let f : q + 0 ≡ q = omega arith in
      let Q : ℕ → Type 0 = λ b. P b (q + 0) in let R : ℕ → Type 0 = λ c. P a c in subst R f (subst Q e (image 0 (omega arith)))) in (
        image-made n (get_or p.start a 0) (get_or mem q 0) t each first (omega (arith, few)) here,
        row-made n (a + 1) (q + 1) ts each rest (omega (arith, few)) (λ j below.
            let e : a + suc j ≡ a + 1 + j = omega arith in
            let f : q + suc j ≡ q + 1 + j = omega arith in
            let Q : ℕ → Type 0 = λ b. P b (q + suc j) in
            let R : ℕ → Type 0 = λ c. P (a + 1 + j) c in
            subst R f (subst Q e (image (suc j) (omega (arith, below))))),
      )

  item-made : (n : ℕ) → Made n → (x : Item) → Among x g.items → flat x.tree ≤ suc n → Stands test p.shared mem (pointer_to x) x.tree
  item-made n each x i few =
      let o : IsOf p x = g.stands x i in
      let f : ℕ = first_traced p.start x.word in
      let sc = scanned p.test p.shared p.start x.word x.tree o.standing o.goes.pointer in
      let row : RowStands test p.shared mem (x.place + first_traced p.start x.word) (parts_of x.tree) =
      row-made n (x.word / 4 + first_traced p.start x.word) (x.place + first_traced p.start x.word) (parts_of x.tree) each sc.row (omega (arith, sc.left, few, object-some p.start x.word))
      (λ j below.
      let P : ℕ → Type 0 = λ b. IsCopiedWord p g.items (get_or p.start b 0) (get_or mem (x.place + first_traced p.start x.word + j) 0) in
      let e : x.word / 4 + (first_traced p.start x.word + j) ≡ x.word / 4 + first_traced p.start x.word + j = omega arith in
      subst P e ((copy-of x i).done (first_traced p.start x.word + j) (x.place + first_traced p.start x.word + j) (omega arith) (omega (arith, below, sc.ends)) (omega arith)
      (omega (arith, below, sc.ends, spread-in p.start p.top g.items top x g.row i)))) in
      let Q : ℕ → Type 0 = λ b. RowStands test p.shared mem (b + first_traced p.start x.word) (parts_of x.tree) in
      alike p.test test p.shared p.start mem x.word (pointer_to x) (alike-copy x i) x.tree o.goes.pointer o.standing (subst Q (sym (place-to x)) row)

  all-made : (n : ℕ) → Made n
  unfolding Made
  all-made zero = λ x i few.
      let o : IsOf p x = g.stands x i in
      absurd (omega (arith, few, (scanned p.test p.shared p.start x.word x.tree o.standing o.goes.pointer).left, object-some p.start x.word))
  all-made (suc n) = λ x i few. item-made n (all-made n) x i few

  copy-made : (x : Item) → Among x g.items → Stands test p.shared mem (pointer_to x) x.tree
  unfolding Made
  copy-made x i = all-made (flat x.tree) x i (omega arith)

  made-word : (y z : ℕ) (u : Tree) → Stands p.test p.shared p.start y u → IsCopiedWord p g.items y z → Stands test p.shared mem z u
  made-word y z u s i = image-made (flat u) y z u (all-made (flat u)) s (omega arith) i

  -- The first word, the size and the traced words of a copy.

  pointer-copy : (x : Item) → Among x g.items → IsPointer (pointer_to x)
  pointer-copy x i = pointer-same (pointer_to x) x.word (tag-to x) (g.stands x i).goes.pointer

  header-copy : (x : Item) → Among x g.items → x.word % 4 ≡ 2 → get_or mem x.place 0 ≡ get_or p.start (x.word / 4) 0
  header-copy x i tag =
      let some : 0 < first_traced p.start x.word = header-first p.test p.shared p.start x.word x.tree (g.stands x i).standing tag in
      (copy-of x i).plain 0 x.place some (object-some p.start x.word) (omega arith) (λ l two. omega (arith, two)) ∙ ap (λ a. get_or p.start a 0) (omega arith)

  header-to : (x : Item) → Among x g.items → x.word % 4 ≡ 2 → get_or mem (pointer_to x / 4) 0 ≡ get_or p.start (x.word / 4) 0
  header-to x i tag = ap (λ a. get_or mem a 0) (place-to x) ∙ header-copy x i tag

  words-copy : (x : Item) → Among x g.items → object_words mem (pointer_to x) ≡ object_words p.start x.word
  words-copy x i = elim (g.stands x i).goes.pointer [
    | inl tag ↦ words-cons mem (pointer_to x) (omega (arith, tag)) ∙ sym (words-cons p.start x.word tag)
    | inr tag ↦ words-header mem (pointer_to x) (omega (arith, tag)) ∙ ap (λ h. 1 + h / 64) (header-to x i tag) ∙ sym (words-header p.start x.word tag)
  ]

  first-header : (m : List ℕ) (w : ℕ) → w % 4 ≡ 2 → first_traced m w ≡ first_of (layout_for (get_or m (w / 4) 0)) (1 + get_or m (w / 4) 0 / 64)
  first-header m w tag = let two : (w % 4 == 1) ≡ false = grind (arith, nat_tests, tag) in rw two refl

  first-copy : (x : Item) → Among x g.items → first_traced mem (pointer_to x) ≡ first_traced p.start x.word
  first-copy x i = elim (g.stands x i).goes.pointer [
    | inl tag ↦ cons-traced mem (pointer_to x) (omega (arith, tag)) ∙ sym (cons-traced p.start x.word tag)
    | inr tag ↦ first-header mem (pointer_to x) (omega (arith, tag)) ∙ ap (λ h. first_of (layout_for h) (1 + h / 64)) (header-to x i tag) ∙ sym (first-header p.start x.word tag)
  ]

  link-cons : (m : List ℕ) (w : ℕ) → w % 4 ≡ 1 → is_link m w ≡ false
  link-cons m w tag = let two : (w % 4 == 2) ≡ false = grind (arith, nat_tests, tag) in rw two refl

  link-boxed : (m : List ℕ) (w : ℕ) → w % 4 ≡ 2 → is_link m w ≡ is_link_header (get_or m (w / 4) 0)
  link-boxed m w tag = let two : (w % 4 == 2) ≡ true = grind (arith, nat_tests, tag) in rw two refl

  link-copy : (x : Item) → Among x g.items → is_link mem (pointer_to x) ≡ is_link p.start x.word
  link-copy x i = elim (g.stands x i).goes.pointer [
    | inl tag ↦ link-cons mem (pointer_to x) (omega (arith, tag)) ∙ sym (link-cons p.start x.word tag)
    | inr tag ↦ link-boxed mem (pointer_to x) (omega (arith, tag)) ∙ ap is_link_header (header-to x i tag) ∙ sym (link-boxed p.start x.word tag)
  ]

  -- The row of the copies.

  tiled : (from : ℕ) (xs : List Item) → Spread p.start from xs top → ((x : Item) → Among x xs → Among x g.items) → Tiled mem from (tiles_of xs) top
  unfolding tiles_of
  tiled from [] row within = row
  tiled from (x ∷ xs) (place, rest) within =
      let i : Among x g.items = within x (inl refl) in
      let (first, is, ends) = tiled-object test p.shared mem (pointer_to x) x.tree (copy-made x i) (pointer-copy x i) in
      let size : tile_words mem (pointer_to x) ≡ object_words p.start x.word = omega (arith, ends, words-copy x i) in
      let P : ℕ → Type 0 = λ n. Tiled mem (from + n) (tiles_of xs) top in
      (place-to x ∙ place, is, subst P (sym size) (tiled (from + object_words p.start x.word) xs rest (λ y h. within y (inr h))))

  tiles-pointers : (xs : List Item) → ((x : Item) → Among x xs → Among x g.items) → (w : ℕ) → In w (tiles_of xs) → IsPointer w
  unfolding tiles_of
  tiles-pointers [] within w i = absurd i
  tiles-pointers (x ∷ xs) within w (inl e) = let P : ℕ → Type 0 = λ a. IsPointer a in subst P (sym e) (pointer-copy x (within x (inl refl)))
  tiles-pointers (x ∷ xs) within w (inr i) = tiles-pointers xs (λ y h. within y (inr h)) w i

  links-are : (xs : List Item) → ((x : Item) → Among x xs → Among x g.items) → links_in mem (tiles_of xs) ≡ link_places p.start xs
  unfolding tiles_of link_places
  links-are [] within = refl
  links-are (x ∷ xs) within =
      let more : links_in mem (tiles_of xs) ≡ link_places p.start xs = links-are xs (λ y h. within y (inr h)) in
      let same : is_link mem (pointer_to x) ≡ is_link p.start x.word = link-copy x (within x (inl refl)) in
      ap (λ b. if b then pointer_to x / 4 ∷ links_in mem (tiles_of xs) else links_in mem (tiles_of xs)) same
      ∙ ap (λ a. if is_link p.start x.word then a ∷ links_in mem (tiles_of xs) else links_in mem (tiles_of xs)) (place-to x)
      ∙ ap (λ ys. if is_link p.start x.word then x.place ∷ ys else ys) more

  -- The holders and funs among them.

  link-facts-of : (x : Item) → Among x g.items → is_link p.start x.word ≡ true → LinkFacts p.test p.start x.word
  link-facts-of x i l = linked p.test p.shared p.start x.word x.tree (g.stands x i).standing l

  link-at : (x : Item) → Among x g.items → is_link p.start x.word ≡ true → 0 < p.top → IsLink test mem x.place
  link-at x i l some =
      let f : LinkFacts test mem (pointer_to x) = linked test p.shared mem (pointer_to x) x.tree (copy-made x i) (link-copy x i ∙ l) in
      let r = spread-in p.start p.top g.items top x g.row i in
      let P : ℕ → Type 0 = λ a. IsLink test mem a in
      subst P (place-to x) (record {
        somewhere = omega (arith, place-to x, r, some);
        within = omega (arith, place-to x, r, (link-facts-of x i l).many, top-limit p known mem top top top 0 g, inside, g.same_len);
        first = f.first;
        next = f.next;
        names = f.names;
        kind = f.kind;
        size = f.size;
        words = f.words;
        record_is = f.record_is;
      })

  name-by : (m : List ℕ) (q : ℕ) → named m q ≡ (if get_or m q 0 == head_word HOLDER 5 then get_or m (q + 3) 0 else get_or m (q + 1) 0)
  name-by m q = elim (cases_Bool (get_or m q 0 == head_word HOLDER 5)) [ inl h ↦ rw h refl | inr h ↦ rw h refl ]

  named-copy : (x : Item) → Among x g.items → is_link p.start x.word ≡ true → named mem x.place ≡ named p.start (x.word / 4)
  named-copy x i l =
      let f : LinkFacts p.test p.start x.word = link-facts-of x i l in
      let tag : x.word % 4 ≡ 2 = (link-told p.start x.word l).0 in
      let third : get_or mem (x.place + 3) 0 ≡ get_or p.start (x.word / 4 + 3) 0 =
      (copy-of x i).plain 3 (x.place + 3) (omega (arith, f.untraced)) (omega (arith, f.many)) refl (λ k two. omega (arith, two)) in
      let first : get_or mem (x.place + 1) 0 ≡ get_or p.start (x.word / 4 + 1) 0 =
      (copy-of x i).plain 1 (x.place + 1) (omega (arith, f.untraced)) (omega (arith, f.many)) refl (λ k two. omega (arith, two)) in
      name-by mem x.place
      ∙ ap (λ h. if h == head_word HOLDER 5 then get_or mem (x.place + 3) 0 else get_or mem (x.place + 1) 0) (header-copy x i tag)
      ∙ ap (λ a. if get_or p.start (x.word / 4) 0 == head_word HOLDER 5 then a else get_or mem (x.place + 1) 0) third
      ∙ ap (λ a. if get_or p.start (x.word / 4) 0 == head_word HOLDER 5 then get_or p.start (x.word / 4 + 3) 0 else a) first
      ∙ sym (name-by p.start (x.word / 4))

  tally-naming : (v : ℕ) (xs : List Item) → ((x : Item) → Among x xs → Among x g.items) → tally p.start v xs ≡ naming mem v (link_places p.start xs)
  unfolding link_places
  tally-naming v [] within = refl
  tally-naming v (x ∷ xs) within =
      let more : tally p.start v xs ≡ naming mem v (link_places p.start xs) = tally-naming v xs (λ y h. within y (inr h)) in
      elim (cases_Bool (is_link p.start x.word)) [
        | inl l ↦ rw l (ap (λ r. names_it r v + tally p.start v xs) (sym (named-copy x (within x (inl refl)) l)) ∙ ap (λ n. names_it (named mem x.place) v + n) more)
        | inr n ↦ rw n (omega (arith, more))
      ]

  -- The copy as it is told.

  links-now : List ℕ
  links-now = links_in mem (tiles_of g.items)

  links-places : links-now ≡ link_places p.start g.items
  unfolding links-now
  links-places = links-are g.items (λ x i. i)

  place-now : (q : ℕ) → In q links-now → IsPlace p.start g.items q
  place-now q i = let P : List ℕ → Type 0 = λ xs. In q xs in place-told p.start g.items q (subst P links-places i)

  naming-now : (v : ℕ) → tally p.start v g.items ≡ naming mem v links-now
  naming-now v = tally-naming v g.items (λ x i. i) ∙ ap (λ xs. naming mem v xs) (sym links-places)

  each-now : 0 < p.top → (q : ℕ) → In q links-now → IsLink test mem q
  each-now some q i =
      let o : IsPlace p.start g.items q = place-now q i in
      let P : ℕ → Type 0 = λ a. IsLink test mem a in
      subst P (sym o.place) (link-at o.x o.among o.link some)

  nexts-now : (a : ℕ) → test a NEXT ≡ true → (p.test a NEXT ≡ true) ⊎ ((q : ℕ) × (In q links-now × (a ≡ q + 2)))
  nexts-now a t = elim (test-told a NEXT t) [
    | inl h ↦ inl h
    | inr h ↦
        let (link, place) = next-linked p.test p.shared p.start h.x.word h.x.tree (h.x.word / 4 + (a - h.x.place)) g.ready.single (g.stands h.x h.among).standing (g.stands h.x h.among).goes.pointer
        (omega arith) (omega (arith, h.low, h.high)) h.role in
        let P : List ℕ → Type 0 = λ xs. In h.x.place xs in
        inr (h.x.place, (subst P (sym links-places) (place-is p.start g.items h.x h.among link), omega (arith, place, h.low)))
  ]

  inside-now : (q : ℕ) → In q links-now → (p.top ≤ q) × (q + 6 ≤ top)
  inside-now q i =
      let o : IsPlace p.start g.items q = place-now q i in
      let r = spread-in p.start p.top g.items top o.x g.row o.among in
      (omega (arith, o.place, r), omega (arith, o.place, r, (link-facts-of o.x o.among o.link).many))

  cleared-now : (q : ℕ) → In q links-now → next_in mem q ≡ 0
  cleared-now q i =
      let o : IsPlace p.start g.items q = place-now q i in
      ap (λ a. get_or mem (a + 2) 0) o.place ∙ (copy-of o.x o.among).next o.link

  copied-now : (q : ℕ) → In q links-now → (a : ℕ) × (p.test a NEXT ≡ true)
  copied-now q i =
      let o : IsPlace p.start g.items q = place-now q i in
      (o.x.word / 4 + 2, (link-facts-of o.x o.among o.link).next)

  counts-now : (v n : ℕ) → IsRecord p.test p.start v n → count_in mem v ≡ count_in p.start v + naming mem v links-now
  counts-now v n r = omega (arith, g.counts v n r, naming-now v)

  -- Records are those that were there.
  record-role : (a k : ℕ) → (OfObject k → ⊥) → test a k ≡ true → p.test a k ≡ true
  record-role a k other t = elim (test-told a k t) [ inl h ↦ h | inr h ↦ absurd (other h.of) ]

  not-object : (k : ℕ) → OfRecord k → OfObject k → ⊥
  not-object k r o = omega (arith, r, o)

  past-object : (k : ℕ) → RECORD ≤ k → OfObject k → ⊥
  past-object k r o = omega (arith, r, o)

  records-now : (v n : ℕ) → IsRecord test mem v n → IsRecord p.test p.start v n
  records-now v n r = record-same test p.test mem p.start (omega (arith, g.same_len)) (λ a k of t. record-role a k (not-object k of) t)
      (λ a k past t. sym (content p known mem top top top 0 g a k (omega (arith, past)) (record-role a k (past-object k past) t))) v n r

  -- A chain stays, with the new objects beside it.
  links-stay : 0 < p.top → (head : ℕ) (os further : List ℕ) → Links p.test p.start head os further → Links test mem head os (links-now ++ further)
  links-stay some head os further l = record {
    chain = leads-stays p.start mem head os 0 (λ q i. g.others (q + 2) (role-beside p known mem top top top 0 g (q + 2) NEXT (l.each q i).next)
        (λ h. let e : NEXT ≡ COUNT = g.ready.single.one (q + 2) NEXT COUNT (l.each q i).next h in omega (arith, e))) l.chain;
    once = l.once;
    each = λ q i. link-stays p.test test p.start mem q kept-new (l.each q i);
    beside = λ q i. elim (in-both q links-now further i) [ inl h ↦ each-now some q h | inr h ↦ link-stays p.test test p.start mem q kept-new (l.beside q h) ];
    counts = λ v n r.
        let was : IsRecord p.test p.start v n = records-now v n r in
        omega (
          arith,
          counts-now v n was,
          l.counts v n was,
          naming-stays p.test test p.start mem v os kept-new l.each,
          naming-stays p.test test p.start mem v further kept-new l.beside,
          naming-both mem v links-now further,
        );
  }

  -- What the new word reaches.

  Alone : ℕ → Type 0
  Alone x = ((z : Item) × (Among z g.items × (x ≡ pointer_to z))) ⊎ ((p.stay (x / 4) ≡ true) × ((u : Tree) × Stands p.test p.shared p.start x u))

  image-alone : (y x : ℕ) (u : Tree) → Stands p.test p.shared p.start y u → IsCopiedWord p g.items y x → IsPointer x → Alone x
  unfolding Alone
  image-alone y x u s (inr (goes, (z, (i, (same, e))))) q = inl (z, (i, omega (arith, e, same)))
  image-alone y x u s (inl (stays, e)) q =
      let P : ℕ → Type 0 = λ a. IsPointer a in
      let R : ℕ → Type 0 = λ a. Stands p.test p.shared p.start a u in
      elim (cases_Bool (p.stay (x / 4))) [
        | inl h ↦ inr (h, (u, subst R (sym e) s))
        | inr n ↦ absurd (stays (record { pointer = subst P e q; goes = ap (λ a. p.stay (a / 4)) (sym e) ∙ n }))
      ]

  part-of : (w k : ℕ) (t : Tree) → Stands p.test p.shared p.start w t → IsPointer w → first_traced p.start w ≤ k → k < object_words p.start w
      → (u : Tree) × Stands p.test p.shared p.start (get_or p.start (w / 4 + k) 0) u
  part-of w k t s y from below =
      let sc = scanned p.test p.shared p.start w t s y in
      let P : ℕ → Type 0 = λ a. Stands p.test p.shared p.start (get_or p.start a 0) (tree_at (parts_of t) (k - first_traced p.start w)) in
      let there : w / 4 + first_traced p.start w + (k - first_traced p.start w) ≡ w / 4 + k = omega (arith, from) in (
        tree_at (parts_of t) (k - first_traced p.start w),
        subst P there
            (row-at p.test p.shared p.start (w / 4 + first_traced p.start w) (parts_of t) (k - first_traced p.start w) sc.row (omega (arith, from, below, sc.ends))),
      )

  part-copy : (z : Item) (k x : ℕ) → Among z g.items → first_traced mem (pointer_to z) ≤ k → k < object_words mem (pointer_to z) → x ≡ get_or mem (pointer_to z / 4 + k) 0 → IsPointer x → Alone x
  part-copy z k x i from below e q =
      let low : first_traced p.start z.word ≤ k = omega (arith, first-copy z i, from) in
      let high : k < object_words p.start z.word = omega (arith, words-copy z i, below) in
      let r = spread-in p.start p.top g.items top z g.row i in
      let (u, s) = part-of z.word k z.tree (g.stands z i).standing (g.stands z i).goes.pointer low high in
      let image : IsCopiedWord p g.items (get_or p.start (z.word / 4 + k) 0) (get_or mem (z.place + k) 0) = (copy-of z i).done k (z.place + k) low high refl (omega (arith, r, high)) in
      let P : ℕ → Type 0 = λ a. IsCopiedWord p g.items (get_or p.start (z.word / 4 + k) 0) a in
      let same : get_or mem (z.place + k) 0 ≡ x = ap (λ a. get_or mem (a + k) 0) (sym (place-to z)) ∙ sym e in
      image-alone (get_or p.start (z.word / 4 + k) 0) x u s (subst P same image) q

  part-stays : IsClosed p → (v k x : ℕ) (t : Tree) → Stands p.test p.shared p.start v t → p.stay (v / 4) ≡ true → IsPointer v → first_traced mem v ≤ k → k < object_words mem v
      → x ≡ get_or mem (v / 4 + k) 0 → IsPointer x → Alone x
  unfolding Alone
  part-stays closed v k x t s h y from below e q =
      let c = kept-carried p.test p.test p.start mem (kept-start p known mem top top top 0 g) in
      let low : first_traced p.start v ≤ k = omega (arith, first-same p.test p.test p.start mem c p.shared v t s y, from) in
      let high : k < object_words p.start v = omega (arith, words-same p.test p.test p.start mem c p.shared v t s y, below) in
      let same : x ≡ get_or p.start (v / 4 + k) 0 = e ∙ traced-same p.test p.test p.start mem c p.shared v t s y k low high in
      let (u, r) = part-of v k t s y low high in
      let P : ℕ → Type 0 = λ a. IsPointer a in
      let R : ℕ → Type 0 = λ a. Stands p.test p.shared p.start a u in
      inr (ap (λ a. p.stay (a / 4)) same ∙ closed v k t s y h low high (subst P same q), (u, subst R (sym same) r))

  reach-alone : IsClosed p → (result : ℕ) → IsCopiedWord p g.items p.word result → (x : ℕ) → Reach mem (result ∷ []) x → IsPointer x → Alone x
  unfolding Alone
  reach-alone closed result image x (root zero y below e) q =
      let P : ℕ → Type 0 = λ a. IsCopiedWord p g.items p.word a in
      image-alone p.word x p.tree g.ready.standing (subst P (sym e) image) q
  reach-alone closed result image x (root (suc i) y below e) q = absurd (omega (arith, below))
  reach-alone closed result image x (part v k y r w from below e) q = elim (reach-alone closed result image v r w) [
    | inl (z, (i, same)) ↦
        let P : ℕ → Type 0 = λ a. (first_traced mem a ≤ k) × ((k < object_words mem a) × (x ≡ get_or mem (a / 4 + k) 0)) in
        let (low, (high, word)) = subst P same (from, (below, e)) in
        part-copy z k x i low high word q
    | inr (h, (t, s)) ↦ part-stays closed v k x t s h w from below e q
  ]

  alone-told : (x : ℕ) → Alone x → ((p.top ≤ x / 4) × (x / 4 + object_words mem x ≤ top)) ⊎ (p.stay (x / 4) ≡ true)
  unfolding Alone
  alone-told x (inl (z, (i, same))) =
      let P : ℕ → Type 0 = λ a. (p.top ≤ a / 4) × (a / 4 + object_words mem a ≤ top) in
      let r = spread-in p.start p.top g.items top z g.row i in
      inl (subst P (sym same) (omega (arith, place-to z, r), omega (arith, place-to z, r, words-copy z i)))
  alone-told x (inr (h, t)) = inr h

  -- The new objects are pointed to once.

  tile-told : (xs : List Item) (w : ℕ) → In w (tiles_of xs) → (x : Item) × (Among x xs × (w ≡ pointer_to x))
  unfolding tiles_of
  tile-told [] w i = absurd i
  tile-told (x ∷ xs) w (inl e) = (x, (inl refl, e))
  tile-told (x ∷ xs) w (inr i) = let (y, (j, e)) = tile-told xs w i in (y, (inr j, e))

  -- A pointer that stood points beside them.
  outside : (y : ℕ) (u : Tree) → Stands p.test p.shared p.start y u → IsPointer y → (y / 4 < p.top) ⊎ (top ≤ y / 4)
  outside y u s q = role-beside p known mem top top top 0 g (y / 4) FIRST (first-role p.test p.shared p.start y u s q)

  led-by : (x : Item) (k q : ℕ) → Among x g.items → first_traced mem (pointer_to x) ≤ k → k < object_words mem (pointer_to x) → q ≡ pointer_to x / 4 + k
      → IsPointer (get_or mem q 0) → p.top ≤ get_or mem q 0 / 4 → get_or mem q 0 / 4 < top → IsLed p top g.items q
  led-by x k q i from below e y low high =
      let traced : first_traced p.start x.word ≤ k = omega (arith, first-copy x i, from) in
      let within : k < object_words p.start x.word = omega (arith, words-copy x i, below) in
      let place : q ≡ x.place + k = omega (arith, e) in
      let past : q < top = omega (arith, place, within, spread-in p.start p.top g.items top x g.row i) in
      let (u, s) = part-of x.word k x.tree (g.stands x i).standing (g.stands x i).goes.pointer traced within in
      let go : Goes p (get_or p.start (x.word / 4 + k) 0) = elim ((copy-of x i).done k q traced within place past) [
        | inr h ↦ h.0
        | inl (stays, same) ↦
            let P : ℕ → Type 0 = λ a. IsPointer a in
            absurd (omega (arith, low, high, same, outside (get_or p.start (x.word / 4 + k) 0) u s (subst P same y)))
      ] in
      record { item = x; among = i; index = k; traced = traced; below = within; place = place; past = past; goes = go }

  led-of : (q : ℕ) → PointsInto mem (tiles_of g.items) p.top top q → IsLed p top g.items q
  led-of q a =
      let (x, (i, e)) = tile-told g.items a.object a.among in
      let P : ℕ → Type 0 = λ w. (first_traced mem w ≤ a.index) × ((a.index < object_words mem w) × (q ≡ w / 4 + a.index)) in
      let (from, (below, place)) = subst P e (a.traced, (a.below, a.place)) in
      led-by x a.index q i from below place a.pointer a.low a.high

  order : (q r : ℕ) → (q ≡ r) ⊎ ((q < r) ⊎ (r < q))
  order q r = grind arith

  apart-now : (q r : ℕ) → PointsInto mem (tiles_of g.items) p.top top q → PointsInto mem (tiles_of g.items) p.top top r → get_or mem q 0 / 4 ≡ get_or mem r 0 / 4 → q ≡ r
  apart-now q r a b e = elim (order q r) [
    | inl same ↦ same
    | inr (inl less) ↦ absurd (omega (arith, e, g.rises q r (led-of q a) (led-of r b) less))
    | inr (inr more) ↦ absurd (omega (arith, e, g.rises r q (led-of r b) (led-of q a) more))
  ]

  rooted-now : (result : ℕ) → IsCopiedWord p g.items p.word result → (Goes p p.word → result / 4 ≡ p.top)
      → (q : ℕ) → PointsInto mem (tiles_of g.items) p.top top q → IsPointer result → get_or mem q 0 / 4 ≡ result / 4 → ⊥
  rooted-now result (inr h) first q a y e = omega (arith, first h.0, e, g.beyond q (led-of q a))
  rooted-now result (inl (stays, same)) first q a y e =
      let P : ℕ → Type 0 = λ w. IsPointer w in
      omega (arith, same, e, a.low, a.high, outside p.word p.tree g.ready.standing (subst P same y))

  -- The new word reaches each copy: words lead to it from copies before it, back to the first one.

  one-place : (x y : Item) → Among x g.items → Among y g.items → x.place ≡ y.place → x ≡ y
  one-place x y i j e =
      spread-one p.start p.top g.items top x y x.place g.row i j (omega arith) (omega (arith, object-some p.start x.word)) (omega (arith, e)) (omega (arith, e, object-some p.start y.word))

  module _ (result : ℕ) (image : IsCopiedWord p g.items p.word result) (first : Goes p p.word → result / 4 ≡ p.top) (none : (Goes p p.word → ⊥) → top ≡ p.top)
      (led : AllAreLed p mem top g.items) where
    Reaches : Item → Type 0
    Reaches x = Reach mem (result ∷ []) (pointer_to x)

    root-reached : (x : Item) → Among x g.items → x.place ≡ p.top → Reaches x
    unfolding Reaches
    root-reached x i e = elim image [
      | inl (stays, same) ↦ absurd (omega (arith, none stays, spread-in p.start p.top g.items top x g.row i, object-some p.start x.word))
      | inr (goes, (z, (j, (same, word)))) ↦
          let one : z ≡ x = one-place z x j i (omega (arith, word, first goes, e)) in
          let P : Item → Type 0 = λ y. pointer_to y ≡ result in
          root 0 (pointer_to x) (omega arith) (subst P one (omega (arith, word, same)))
    ]

    part-reached : (x : Item) → Among x g.items → ((y : Item) → Among y g.items → y.place < x.place → Reaches y) → IsLedTo p mem top g.items x → Reaches x
    unfolding Reaches
    part-reached x i each l =
        elim ((copy-of l.led.item l.led.among).done l.led.index l.from l.led.traced l.led.below l.led.place l.led.past) [
          | inl (stays, same) ↦ absurd (stays l.led.goes)
          | inr (goes, (z, (j, (same, word)))) ↦
              let one : z ≡ x = one-place z x j i (omega (arith, word, l.there)) in
              let P : Item → Type 0 = λ v. pointer_to v ≡ get_or mem l.from 0 in
              let here : pointer_to x ≡ get_or mem l.from 0 = subst P one (omega (arith, word, same)) in
              part (pointer_to l.led.item) l.led.index (pointer_to x) (each l.led.item l.led.among (omega (arith, l.led.place, l.before))) (pointer-copy l.led.item l.led.among)
              (omega (arith, first-copy l.led.item l.led.among, l.led.traced)) (omega (arith, words-copy l.led.item l.led.among, l.led.below))
              (here ∙ ap (λ a. get_or mem a 0) (omega (arith, l.led.place, place-to l.led.item)))
        ]

    all-reached : (n : ℕ) (x : Item) → Among x g.items → x.place < n → Reaches x
    all-reached zero x i below = absurd (omega (arith, below))
    all-reached (suc n) x i below = elim (led x i) [
      | inl e ↦ root-reached x i e
      | inr l ↦ part-reached x i (λ y j less. all-reached n y j (omega (arith, less, below))) l
    ]

    reached-now : (x : ℕ) → In x (tiles_of g.items) → Reach mem (result ∷ []) x
    unfolding Reaches
    reached-now x i =
        let (y, (j, e)) = tile-told g.items x i in
        let P : ℕ → Type 0 = λ w. Reach mem (result ∷ []) w in
        subst P (sym e) (all-reached (suc y.place) y j (omega arith))

  left-none : flat_of_parts g.after ≡ 0
  left-none = ap flat_of_parts (spread-none p.start top g.after g.further)

  pub whole : (result : ℕ) → IsCopiedWord p known p.word result → (Goes p p.word → result / 4 ≡ p.top) → ((Goes p p.word → ⊥) → top ≡ p.top)
      → AllAreLed p mem top g.items → CopiesTree p mem top result
  unfolding links-now
  whole result im first none led =
      let image : IsCopiedWord p g.items p.word result = image-more p known g.items p.word result g.has im in
      record {
        test = test;
        more = test-more;
        within = test-within;
        single = record { one = test-one };
        kept = kept-new;
        made = made-word p.word result p.tree g.ready.standing image;
        same_len = g.same_len;
        others = g.others;
        used = omega (arith, g.used);
        exact = λ none. omega (arith, g.exact none, left-none);
        tiles = tiles_of g.items;
        row = record { row = tiled p.top g.items g.row (λ x i. i); objects = tiles-pointers g.items (λ x i. i) };
        reached = reached-now result image first none led;
        apart = apart-now;
        rooted = rooted-now result image first;
        alone = λ closed x r q. alone-told x (reach-alone closed result image x r q);
        nexts = nexts-now;
        once = (let P : List ℕ → Type 0 = λ xs. Distinct xs in subst P (sym links-places) (places-once p.start p.top g.items top g.row));
        inside = inside-now;
        cleared = cleared-now;
        copied = copied-now;
        each = each-now;
        counts = counts-now;
        records = records-now;
        links = links-stay;
      }

-- All objects were gone through.
pub ended : (p : Task) (mem : List ℕ) (at top result : ℕ) → Begun p mem at top result → top ≤ at → p.limit ≤ length p.start → CopiesTree p mem top result
ended p mem at top result b over inside =
    let e : at ≡ top = omega (arith, over, spread-order p.start at b.on.after top b.on.further) in
    let P : ℕ → Type 0 = λ a. Leading p b.known mem a a top 0 in
    let l : Leading p b.known mem top top top 0 = subst P e (record { on = b.on; led = b.led }) in
    whole p b.known mem top l.on inside result b.image b.first b.none l.led
