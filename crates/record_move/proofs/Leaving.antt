-- The objects of a chain after a collection: each was moved, or left behind as it was.
use Rattle.std.proofs.Common.{◌≡◌, ℕ, ◌+◌, ◌*◌, ◌/◌, ◌%◌, ◌<◌, ◌≤◌, ◌⊎◌, ◌==◌, if◌then◌else◌, Bool, true, false, List, [], ◌∷◌, ◌++◌, length, get_or}
use Rattle.std.proofs.Common.{refl, sym, ◌∙◌, ap, subst, arith, inl, inr}
use Rattle.std.proofs.lemmas.Bool.{cases_Bool}
use Rattle.std.proofs.lemmas.Bool.Decides.{nat_tests}
use Rattle.term_tags.specs.Words.{head_word}
use Rattle.term_tags.specs.Table.{layout_for}
use Rattle.term_tags.specs.declared.layouts.TheConstants.{HOLDER}
use Rattle.term_tags.proofs.Rows.{layout-fun, layout-holder}
use Rattle.term_words.specs.Role.{NEXT, COUNT, FIRST, FURTHER, NAMES, RECORD, OfObject, OfRecord}
use Rattle.term_words.specs.Object.{IsRecord}
use Rattle.term_words.specs.Counted.{In, Distinct}
use Rattle.term_words.specs.Reach.{first_of}
use Rattle.term_words.proofs.Placing.Apart.{head-no-header}
use Rattle.term_words.proofs.Reaching.Reached.{reached}
use Rattle.term_words.proofs.Placing.Roles.{object-role, first-role}
use Rattle.shared_rec.proofs.Records.{record-same, record-length, record-counted}
use Rattle.off_heap_list.specs.Links.{names_it, name_place, named, Leads, Chain, naming, IsLinkHeader, IsLink, Links}
use Rattle.off_heap_list.specs.Swept.{is_moved, new_place, lies_at, lying, IsReadAt, IsOld, FrontSweeping, Sweeping}
use Rattle.off_heap_list.proofs.Chaining.Chained.{leads-stays}
use Rattle.off_heap_list.proofs.Walked.Sweeping.{lies-moved, lies-left}
use Rattle.cheney.specs.Plan.{Plan, Ready, Reached, Leaves, IsOutside, size, first}
use Rattle.cheney.specs.Moved.{forward}
use Rattle.cheney.specs.Collected.{Collected, IsMoved, IsLeftOrMoved}
use Rattle.cheney.specs.Next.{HasRoles, IsCarried, Remains}
use Rattle.cheney.proofs.Before.Basics.{not-both, forward-boxed, size-boxed, first-boxed}
use Rattle.off_heap_list.proofs.Chaining.Exact.{distinct-left, naming-both}
use Rattle.term_words.proofs.Totals.Members.{in-both, in-left, in-right}
use Rattle.record_move.specs.Follows.{Sweepable, first_object}

-- The word that names a record, counted from the object.

off : ℕ → ℕ
off header = if header == head_word HOLDER 5 then 3 else 1

off-of : (b : Bool) (p : ℕ) → (if b then p + 3 else p + 1) ≡ p + (if b then 3 else 1)
off-of true p = refl
off-of false p = refl

place-off : (mem : List ℕ) (p : ℕ) → name_place mem p ≡ p + off (get_or mem p 0)
unfolding off
place-off mem p = off-of (get_or mem p 0 == head_word HOLDER 5) p

off-is : (header : ℕ) → (off header ≡ 1) ⊎ ((off header ≡ 3) × (header ≡ head_word HOLDER 5))
unfolding off
off-is header = elim (cases_Bool (header == head_word HOLDER 5)) [
  | inl same ↦ inr (ap (λ b. if b then 3 else 1) same, grind (arith, nat_tests, same))
  | inr other ↦ inl (ap (λ b. if b then 3 else 1) other)
]

off-small : (header : ℕ) → (0 < off header) × ((off header < 4) × (off header ≡ 2 → ⊥))
off-small header = elim (off-is header) [
  | inl e ↦ (omega (arith, e), (omega (arith, e), (λ two. omega (arith, e, two))))
  | inr e ↦ (omega (arith, e.0), (omega (arith, e.0), (λ two. omega (arith, e.0, two))))
]

-- A word that ends as a boxed pointer is no holder's header.
off-boxed : (word : ℕ) → word % 4 ≡ 2 → off word ≡ 1
off-boxed word tag = elim (off-is word) [ inl e ↦ e | inr e ↦ absurd (omega (arith, e.1, tag)) ]

-- The headers of holders and funs.

header-tag : (h : ℕ) → IsLinkHeader h → h % 4 ≡ 0
header-tag h (inl e) = omega (arith, e)
header-tag h (inr (k, (few, e))) = omega (arith, e)

header-words : (h : ℕ) → IsLinkHeader h → 6 ≤ 1 + h / 64
header-words h (inl e) = omega (arith, e)
header-words h (inr (k, (few, e))) = omega (arith, e)

header-first : (h n : ℕ) → IsLinkHeader h → first_of (layout_for h) n ≡ 6
header-first h n (inl e) = ap (λ x. first_of (layout_for x) n) e ∙ ap (λ x. first_of x n) layout-holder
header-first h n (inr (k, (few, e))) = ap (λ x. first_of (layout_for x) n) e ∙ ap (λ x. first_of x n) (layout-fun k few)

-- An object that lies at a place as it lay at another one.
module _ (c d : ℕ → ℕ → Bool) (old new : List ℕ) (o y : ℕ) (l : IsLink c old o) (some : 0 < y) (within : y + 6 ≤ length new) (head : get_or new y 0 ≡ get_or old o 0)
    (size_word : get_or old o 0 ≡ head_word HOLDER 5 → get_or new (y + 1) 0 ≡ get_or old (o + 1) 0)
    (name : get_or new (y + off (get_or old o 0)) 0 ≡ get_or old (o + off (get_or old o 0)) 0)
    (roles : (j k : ℕ) → j < 6 → c (o + j) k ≡ true → d (y + j) k ≡ true) (records : (v n : ℕ) → IsRecord c old v n → IsRecord d new v n)
    (lengths : (v n : ℕ) → IsRecord c old v n → get_or new (v + 3) 0 ≡ get_or old (v + 3) 0) where
  place-there : name_place new y ≡ y + off (get_or old o 0)
  place-there = place-off new y ∙ ap (λ h. y + off h) head

  named-there : named new y ≡ named old o
  named-there = ap (λ q. get_or new q 0) place-there ∙ (name ∙ ap (λ q. get_or old q 0) (sym (place-off old o)))

  link-there : IsLink d new y
  link-there =
      let P : ℕ → Type 0 = λ q. c q FIRST ≡ true in
      let N : ℕ → Type 0 = λ q. c q NAMES ≡ true in
      let F : ℕ → Type 0 = λ q. d q FIRST ≡ true in
      let D : ℕ → Type 0 = λ q. d q NAMES ≡ true in
      let R : ℕ → Type 0 = λ v. IsRecord d new v l.words in
      let here : o ≡ o + 0 = omega arith in
      let there : y + 0 ≡ y = omega arith in
      record {
        somewhere = some;
        within = within;
        first = subst F there (roles 0 FIRST (omega arith) (subst P here l.first));
        next = roles 2 NEXT (omega arith) l.next;
        names = subst D (sym place-there) (roles (off (get_or old o 0)) NAMES (omega (arith, (off-small (get_or old o 0)).1.0)) (subst N (place-off old o) l.names));
        kind = subst IsLinkHeader (sym head) l.kind;
        size = λ h.
            let s = l.size (sym head ∙ h) in (
              roles 1 FURTHER (omega arith) s.0,
              size_word (sym head ∙ h) ∙ (s.1 ∙ (sym (lengths (named old o) l.words l.record_is) ∙ ap (λ v. get_or new (v + 3) 0) (sym named-there))),
            );
        words = l.words;
        record_is = subst R (sym named-there) (records (named old o) l.words l.record_is);
      }

module _ (p : Plan) (y : Ready p) (m : List ℕ) (top : Bool → ℕ) (w : Collected p m top) (s : ℕ → ℕ → Bool) (r : HasRoles p m s) where
  -- Records stay, with their counts, and there are no others.

  pub role-goes : (a k : ℕ) → OfRecord k → p.test a k ≡ true → r.test a k ≡ true
  role-goes a k (inl e) h =
      let P : ℕ → Type 0 = λ x. r.test a x ≡ true in
      let Q : ℕ → Type 0 = λ x. p.test a x ≡ true in
      subst P (sym e) (r.follows.counts a (subst Q e h))
  role-goes a k (inr (inl e)) h = r.follows.records a k (omega (arith, e)) h
  role-goes a k (inr (inr e)) h = r.follows.records a k (omega (arith, e)) h

  pub record-goes : (v n : ℕ) → IsRecord p.test p.start v n → IsRecord r.test m v n
  record-goes = record-same p.test r.test p.start m (omega (arith, w.same_len)) role-goes w.records

  length-stays : (v n : ℕ) → IsRecord p.test p.start v n → get_or m (v + 3) 0 ≡ get_or p.start (v + 3) 0
  length-stays = record-length p.test p.start m w.records

  pub count-stays : (v n : ℕ) → IsRecord p.test p.start v n → get_or m (v + 2) 0 ≡ get_or p.start (v + 2) 0
  count-stays v n there = w.untouched (v + 2) COUNT (record-counted p.test p.start v n there) (λ e. omega (arith, e)) (λ e. omega (arith, e))

  pub carried-role : (a k : ℕ) → IsCarried p m a k → OfObject k
  unfolding size
  carried-role a k c =
      let (t, st) = reached p.test p.shared p.start p.roots p.trees y.standing c.v c.reached in
      let (x, (of, h)) = object-role p.test p.shared p.start c.v t (c.v / 4 + c.j) st c.leaves.pointer (omega arith) (omega (arith, c.below)) in
      let same : x ≡ k = y.single.one (c.v / 4 + c.j) x k h c.role in
      subst OfObject same of

  role-back : (a k : ℕ) → (k ≡ COUNT) ⊎ (RECORD ≤ k) → r.test a k ≡ true → p.test a k ≡ true
  role-back a k of h = elim (r.comes a k h) [ inl c ↦ absurd (let object : OfObject k = carried-role a k c in omega (arith, of, object)) | inr both ↦ both.0 ]

  of-record : (k : ℕ) → OfRecord k → (k ≡ COUNT) ⊎ (RECORD ≤ k)
  of-record k (inl e) = inl e
  of-record k (inr (inl e)) = inr (omega (arith, e))
  of-record k (inr (inr e)) = inr (omega (arith, e))

  pub record-back : (v n : ℕ) → IsRecord r.test m v n → IsRecord p.test p.start v n
  record-back = record-same r.test p.test m p.start (omega (arith, w.same_len)) (λ a k of h. role-back a k (of-record k of) h)
      (λ a k past h. sym (w.records a k past (role-back a k (inr past) h)))

  -- A word that was carried lies in a room.
  carried-in : (a k : ℕ) → IsCarried p m a k → IsOutside p a → ⊥
  carried-in a k c outside =
      let mv : IsMoved p m top c.v (forward m c.v) = w.copies c.v c.reached c.leaves in
      let room : (a < p.low (p.mature (c.v / 4))) ⊎ (p.high (p.mature (c.v / 4)) ≤ a) = outside (p.mature (c.v / 4)) in
      omega (arith, room, mv.from, mv.below, w.ends (p.mature (c.v / 4)), c.place, c.below)

-- What became of an object of a chain, or of a further one.
module _ (p : Plan) (y : Ready p) (m : List ℕ) (top : Bool → ℕ) (w : Collected p m top) (s : ℕ → ℕ → Bool) (r : HasRoles p m s) (o : ℕ) (l : IsLink p.test p.start o) where
  at : (o * 4 + 2) / 4 ≡ o
  at = omega arith

  tag : (o * 4 + 2) % 4 ≡ 2
  tag = omega arith

  header-at : get_or p.start ((o * 4 + 2) / 4) 0 % 4 ≡ 0
  header-at = ap (λ q. get_or p.start q 0 % 4) at ∙ header-tag (get_or p.start o 0) l.kind

  first-at : p.test ((o * 4 + 2) / 4) FIRST ≡ true
  first-at = let P : ℕ → Type 0 = λ q. p.test q FIRST ≡ true in subst P (sym at) l.first

  pub which : IsLeftOrMoved p m (o * 4 + 2)
  which = w.headers (o * 4 + 2) tag first-at header-at

  names-at : p.test (o + off (get_or p.start o 0)) NAMES ≡ true
  names-at = let P : ℕ → Type 0 = λ q. p.test q NAMES ≡ true in subst P (place-off p.start o) l.names

  name-stays : get_or m (o + off (get_or p.start o 0)) 0 ≡ get_or p.start (o + off (get_or p.start o 0)) 0
  name-stays = w.untouched (o + off (get_or p.start o 0)) NAMES names-at (λ e. omega (arith, e)) (λ e. omega (arith, e))

  next-stays : get_or m (o + 2) 0 ≡ get_or p.start (o + 2) 0
  next-stays = w.untouched (o + 2) NEXT l.next (λ e. omega (arith, e)) (λ e. omega (arith, e))

  outside-at : (q k : ℕ) → p.test q k ≡ true → IsOutside p q
  outside-at q k h = y.clear q k h

  -- Where it was left behind, it is as it was.

  left-word : (get_or m ((o * 4 + 2) / 4) 0 ≡ get_or p.start ((o * 4 + 2) / 4) 0) → get_or m o 0 ≡ get_or p.start o 0
  left-word same = ap (λ q. get_or m q 0) (sym at) ∙ (same ∙ ap (λ q. get_or p.start q 0) at)

  pub left-not : (get_or m ((o * 4 + 2) / 4) 0 ≡ get_or p.start ((o * 4 + 2) / 4) 0) → is_moved m o ≡ false
  left-not same = let z : get_or m o 0 % 4 ≡ 0 = ap (λ x. x % 4) (left-word same) ∙ header-tag (get_or p.start o 0) l.kind in rw z refl

  left-named : (get_or m ((o * 4 + 2) / 4) 0 ≡ get_or p.start ((o * 4 + 2) / 4) 0) → named m o ≡ named p.start o
  left-named same =
      ap (λ q. get_or m q 0) (place-off m o ∙ ap (λ h. o + off h) (left-word same)) ∙ (name-stays ∙ ap (λ q. get_or p.start q 0) (sym (place-off p.start o)))

  -- Where it was moved, its words are at the new place.

  word-is : forward m (o * 4 + 2) ≡ get_or m o 0
  word-is = forward-boxed m (o * 4 + 2) tag ∙ ap (λ q. get_or m q 0) at

  pub size6 : 6 ≤ size p (o * 4 + 2)
  size6 = omega (arith, size-boxed p (o * 4 + 2) tag, ap (λ q. 1 + get_or p.start q 0 / 64) at, header-words (get_or p.start o 0) l.kind)

  first6 : first p (o * 4 + 2) ≡ 6
  first6 =
      first-boxed p (o * 4 + 2) tag
      ∙ (ap (λ q. first_of (layout_for (get_or p.start q 0)) (1 + get_or p.start q 0 / 64)) at ∙ header-first (get_or p.start o 0) (1 + get_or p.start o 0 / 64) l.kind)

  pub place-is : forward m (o * 4 + 2) / 4 ≡ new_place m o
  place-is = ap (λ x. x / 4) word-is

  copied : Reached p (o * 4 + 2) → Leaves p (o * 4 + 2) → IsMoved p m top (o * 4 + 2) (forward m (o * 4 + 2))
  copied re le = w.copies (o * 4 + 2) re le

  pub moved-is : Reached p (o * 4 + 2) → Leaves p (o * 4 + 2) → is_moved m o ≡ true
  moved-is re le = let two : get_or m o 0 % 4 ≡ 2 = ap (λ x. x % 4) (sym word-is) ∙ ((copied re le).tag ∙ tag) in rw two refl

  new-word : Reached p (o * 4 + 2) → Leaves p (o * 4 + 2) → (j : ℕ) → j < 6 → get_or m (new_place m o + j) 0 ≡ get_or p.start (o + j) 0
  new-word re le j below =
      (copied re le).same j (new_place m o + j) (omega (arith, below, first6)) (omega (arith, below, size6)) (ap (λ x. x + j) (sym place-is))
      ∙ ap (λ q. get_or p.start (q + j) 0) at

  new-role : Reached p (o * 4 + 2) → Leaves p (o * 4 + 2) → (j k : ℕ) → j < 6 → p.test (o + j) k ≡ true → r.test (new_place m o + j) k ≡ true
  new-role re le j k below h =
      let P : ℕ → Type 0 = λ q. p.test (q + j) k ≡ true in
      r.follows.moves (o * 4 + 2) j (new_place m o + j) k re le (omega (arith, below, size6)) (ap (λ x. x + j) (sym place-is)) (subst P (sym at) h)

  new-head : Reached p (o * 4 + 2) → Leaves p (o * 4 + 2) → get_or m (new_place m o) 0 ≡ get_or p.start o 0
  new-head re le =
      let P : ℕ → Type 0 = λ q. get_or m q 0 ≡ get_or p.start (o + 0) 0 in
      let Q : ℕ → Type 0 = λ q. get_or m (new_place m o) 0 ≡ get_or p.start q 0 in
      let a : new_place m o + 0 ≡ new_place m o = omega arith in
      let b : o + 0 ≡ o = omega arith in
      subst Q b (subst P a (new-word re le 0 (omega arith)))

  new-within : Reached p (o * 4 + 2) → Leaves p (o * 4 + 2) → new_place m o + 6 ≤ length m
  new-within re le =
      let b : Bool = p.mature ((o * 4 + 2) / 4) in
      omega (arith, (copied re le).below, place-is, size6, w.ends (p.mature ((o * 4 + 2) / 4)), y.inside (p.mature ((o * 4 + 2) / 4)), w.same_len)

  new-some : ((b : Bool) → 0 < p.low b) → Reached p (o * 4 + 2) → Leaves p (o * 4 + 2) → 0 < new_place m o
  new-some rooms re le = omega (arith, (copied re le).from, place-is, rooms (p.mature ((o * 4 + 2) / 4)))

  pub new-link : ((b : Bool) → 0 < p.low b) → Reached p (o * 4 + 2) → Leaves p (o * 4 + 2) → IsLink r.test m (new_place m o)
  new-link rooms re le = link-there p.test r.test p.start m o (new_place m o) l (new-some rooms re le) (new-within re le) (new-head re le) (λ h. new-word re le 1 (omega arith))
      (new-word re le (off (get_or p.start o 0)) (omega (arith, (off-small (get_or p.start o 0)).1.0))) (new-role re le) (record-goes p y m top w s r) (length-stays p y m top w s r)

  pub new-named : ((b : Bool) → 0 < p.low b) → Reached p (o * 4 + 2) → Leaves p (o * 4 + 2) → named m (new_place m o) ≡ named p.start o
  new-named rooms re le = named-there p.test r.test p.start m o (new_place m o) l (new-some rooms re le) (new-within re le) (new-head re le) (λ h. new-word re le 1 (omega arith))
      (new-word re le (off (get_or p.start o 0)) (omega (arith, (off-small (get_or p.start o 0)).1.0))) (new-role re le) (record-goes p y m top w s r) (length-stays p y m top w s r)

  -- What it names, wherever it lies.
  lies-named : ((b : Bool) → 0 < p.low b) → named m (lies_at m o) ≡ named p.start o
  lies-named rooms = elim which [
    | inl (same, no_more) ↦ ap (λ q. named m q) (lies-left m o (left-not same)) ∙ left-named same
    | inr (re, (le, gone)) ↦ ap (λ q. named m q) (lies-moved m o (moved-is re le)) ∙ new-named rooms re le
  ]

  -- The words by which it is read had roles; that of `next` stands in its place alone.

  record HadRole (q : ℕ) : Type 0 where
    pub k : ℕ
    pub role : p.test q k ≡ true
    pub next : k ≡ NEXT → q ≡ o + 2

  had-at : (q a k : ℕ) → q ≡ a → p.test a k ≡ true → (k ≡ NEXT → a ≡ o + 2) → HadRole q
  had-at q a k e h only = let P : ℕ → Type 0 = λ x. p.test x k ≡ true in record { k = k; role = subst P (sym e) h; next = λ n. e ∙ only n }

  had-name : get_or m o 0 ≡ get_or p.start o 0 → (q : ℕ) → q ≡ name_place m o → HadRole q
  had-name same q e = had-at q (o + off (get_or p.start o 0)) NAMES (e ∙ (place-off m o ∙ ap (λ h. o + off h) same)) names-at (λ n. absurd (omega (arith, n)))

  had-second : (q : ℕ) → q ≡ o + 1 → HadRole q
  had-second q e = elim (off-is (get_or p.start o 0)) [
    | inl one ↦ had-at q (o + off (get_or p.start o 0)) NAMES (omega (arith, e, one)) names-at (λ n. absurd (omega (arith, n)))
    | inr three ↦ had-at q (o + 1) FURTHER e (l.size three.1).0 (λ n. absurd (omega (arith, n)))
  ]

  had-role : (q : ℕ) → IsReadAt m o q → HadRole q
  had-role q (inl e) = had-at q o FIRST e l.first (λ n. absurd (omega (arith, n)))
  had-role q (inr (inl e)) = had-at q (o + 2) NEXT e l.next (λ n. refl)
  had-role q (inr (inr e)) = elim which [
    | inl (same, no_more) ↦ had-name (left-word same) q e
    | inr (re, (le, gone)) ↦ had-second q (e ∙ (place-off m o ∙ ap (λ x. o + x) (off-boxed (get_or m o 0) (ap (λ x. x % 4) (sym word-is) ∙ ((copied re le).tag ∙ tag)))))
  ]

  read-in : (q : ℕ) → IsReadAt m o q → (o ≤ q) × (q < o + 6)
  read-in q (inl e) = (omega (arith, e), omega (arith, e))
  read-in q (inr (inl e)) = (omega (arith, e), omega (arith, e))
  read-in q (inr (inr e)) = (omega (arith, e, place-off m o), omega (arith, e, place-off m o, (off-small (get_or m o 0)).1.0))

  -- An object of the chain.
  is-old : ((b : Bool) → 0 < p.low b) → ((a k : ℕ) → o ≤ a → a < o + 6 → s a k ≡ true → ⊥) → IsOld r.test m o
  is-old rooms left =
      let Q : ℕ → Type 0 = λ v. IsRecord r.test m v l.words in
      record {
        somewhere = l.somewhere;
        within = omega (arith, l.within, w.same_len);
        none = λ q k here h. elim (r.comes q k h) [
          | inr both ↦ left q k (read-in q here).0 (read-in q here).1 both.1
          | inl c ↦ (let had : HadRole q = had-role q here in carried-in p y m top w s r q k c (y.clear q had.k had.role))
        ];
        moved = λ h. elim which [
          | inl (same, no_more) ↦ absurd (not-both (is_moved m o) h (left-not same))
          | inr (re, (le, gone)) ↦ new-link rooms re le
        ];
        words = l.words;
        left = λ h. elim which [
          | inl (same, no_more) ↦ subst Q (sym (left-named same)) (record-goes p y m top w s r (named p.start o) l.words l.record_is)
          | inr (re, (le, gone)) ↦ absurd (not-both (is_moved m o) (moved-is re le) h)
        ];
      }

  -- A further object is as it was.

  head-still : (Reached p (o * 4 + 2) → p.stay o ≡ true) → get_or m o 0 ≡ get_or p.start o 0
  head-still still = elim which [
    | inl (same, no_more) ↦ left-word same
    | inr (re, (le, gone)) ↦ absurd (let P : ℕ → Type 0 = λ q. p.stay q ≡ false in not-both (p.stay o) (still re) (subst P at le.leaves))
  ]

  size-still : get_or p.start o 0 ≡ head_word HOLDER 5 → get_or m (o + 1) 0 ≡ get_or p.start (o + 1) 0
  size-still h = elim (w.touched (o + 1) FURTHER (l.size h).0) [
    | inl same ↦ same
    | inr shown ↦ absurd (let (t, st) = reached p.test p.shared p.start p.roots p.trees y.standing shown.v shown.reached in
        elim shown.shows [
          | inl e ↦
              let P : ℕ → Type 0 = λ q. p.test q FIRST ≡ true in
              let same : FIRST ≡ FURTHER = y.single.one (o + 1) FIRST FURTHER (subst P (sym e) (first-role p.test p.shared p.start shown.v t st shown.leaves.pointer)) (l.size h).0 in
              omega (arith, same)
          | inr (one, e) ↦
              let here : o ≡ shown.v / 4 = omega (arith, e) in
              head-no-header p.test p.shared p.start shown.v t st one (ap (λ q. get_or p.start q 0 % 4) (sym here) ∙ header-tag (get_or p.start o 0) l.kind)
        ])
  ]

  further-link : (Reached p (o * 4 + 2) → p.stay o ≡ true) → ((a k : ℕ) → o ≤ a → a < o + 6 → p.test a k ≡ true → s a k ≡ true) → IsLink r.test m o
  further-link still keeps = link-there p.test r.test p.start m o o l l.somewhere (omega (arith, l.within, w.same_len)) (head-still still) size-still name-stays
      (λ j k below h. r.kept (o + j) k h (keeps (o + j) k (omega arith) (omega (arith, below)) h)) (record-goes p y m top w s r) (length-stays p y m top w s r)

  further-named : (Reached p (o * 4 + 2) → p.stay o ≡ true) → named m o ≡ named p.start o
  further-named still =
      ap (λ q. get_or m q 0) (place-off m o ∙ ap (λ h. o + off h) (head-still still)) ∙ (name-stays ∙ ap (λ q. get_or p.start q 0) (sym (place-off p.start o)))

module _ (p : Plan) (y : Ready p) (m : List ℕ) (top : Bool → ℕ) (w : Collected p m top) (s : ℕ → ℕ → Bool) (r : HasRoles p m s) (rooms : (b : Bool) → 0 < p.low b) where
  -- Two objects lie apart, or are one.

  room-clear : (o a : ℕ) (l : IsLink p.test p.start o) (n : IsLink p.test p.start a) → Reached p (a * 4 + 2) → Leaves p (a * 4 + 2) → o ≡ new_place m a → ⊥
  room-clear o a l n re le e =
      let mv : IsMoved p m top (a * 4 + 2) (forward m (a * 4 + 2)) = w.copies (a * 4 + 2) re le in
      let out : (o < p.low (p.mature ((a * 4 + 2) / 4))) ⊎ (p.high (p.mature ((a * 4 + 2) / 4)) ≤ o) = y.clear o FIRST l.first (p.mature ((a * 4 + 2) / 4)) in
      omega (arith, out, mv.from, mv.below, w.ends (p.mature ((a * 4 + 2) / 4)), e, place-is p y m top w s r a n, size6 p y m top w s r a n)

  lies-one : (o a : ℕ) (l : IsLink p.test p.start o) (n : IsLink p.test p.start a) → lies_at m o ≡ lies_at m a → o ≡ a
  lies-one o a l n e = elim (which p y m top w s r o l) [
    | inl (same, no_more) ↦
        let here : lies_at m o ≡ o = lies-left m o (left-not p y m top w s r o l same) in
        elim (which p y m top w s r a n) [
          | inl (same2, no_more2) ↦ sym here ∙ (e ∙ lies-left m a (left-not p y m top w s r a n same2))
          | inr (re, (le, gone)) ↦ absurd (room-clear o a l n re le (sym here ∙ (e ∙ lies-moved m a (moved-is p y m top w s r a n re le))))
        ]
    | inr (re, (le, gone)) ↦
        let here : lies_at m o ≡ new_place m o = lies-moved m o (moved-is p y m top w s r o l re le) in
        elim (which p y m top w s r a n) [
          | inl (same2, no_more2) ↦ absurd (room-clear a o n l re le (sym (lies-left m a (left-not p y m top w s r a n same2)) ∙ (sym e ∙ here)))
          | inr (re2, (le2, gone2)) ↦
              let there : new_place m o ≡ new_place m a = sym here ∙ (e ∙ lies-moved m a (moved-is p y m top w s r a n re2 le2)) in
              elim (w.one_to_one (o * 4 + 2) (a * 4 + 2) re le re2 le2) [
                | inl one ↦ omega (arith, one)
                | inr apart ↦ absurd (omega (arith, apart, there, place-is p y m top w s r o l, place-is p y m top w s r a n, size6 p y m top w s r o l, size6 p y m top w s r a n))
              ]
        ]
  ]

  not-in : (o : ℕ) (os : List ℕ) → IsLink p.test p.start o → ((a : ℕ) → In a os → IsLink p.test p.start a) → (In o os → ⊥) → In (lies_at m o) (lying m os) → ⊥
  not-in o [] l each fresh hit = hit
  not-in o (a ∷ os) l each fresh (inl e) = fresh (inl (lies-one o a l (each a (inl refl)) e))
  not-in o (a ∷ os) l each fresh (inr deep) = not-in o os l (λ x i. each x (inr i)) (λ i. fresh (inr i)) deep

  lying-once : (os : List ℕ) → ((a : ℕ) → In a os → IsLink p.test p.start a) → Distinct os → Distinct (lying m os)
  lying-once [] each d = tt
  lying-once (o ∷ os) each (fresh, d) =
      (not-in o os (each o (inl refl)) (λ x i. each x (inr i)) fresh, lying-once os (λ x i. each x (inr i)) d)

  lying-named : (v : ℕ) (os : List ℕ) → ((a : ℕ) → In a os → IsLink p.test p.start a) → naming m v (lying m os) ≡ naming p.start v os
  lying-named v [] each = refl
  lying-named v (o ∷ os) each =
      ap (λ x. names_it x v + naming m v (lying m os)) (lies-named p y m top w s r o (each o (inl refl)) rooms)
      ∙ ap (λ n. names_it (named p.start o) v + n) (lying-named v os (λ x i. each x (inr i)))

  further-naming : (v : ℕ) (os : List ℕ) → ((a : ℕ) → In a os → IsLink p.test p.start a) → ((a : ℕ) → In a os → Reached p (a * 4 + 2) → p.stay a ≡ true)
      → naming m v os ≡ naming p.start v os
  further-naming v [] each still = refl
  further-naming v (o ∷ os) each still =
      ap (λ x. names_it x v + naming m v os) (further-named p y m top w s r o (each o (inl refl)) (still o (inl refl)))
      ∙ ap (λ n. names_it (named p.start o) v + n) (further-naming v os (λ x i. each x (inr i)) (λ x i. still x (inr i)))

  -- No object is read by another's word `next`.
  read-apart : (a b : ℕ) → IsLink p.test p.start a → IsLink p.test p.start b → (b ≡ a → ⊥) → IsReadAt m b (a + 2) → ⊥
  read-apart a b l n far here =
      let had : HadRole p y m top w s r b n (a + 2) = had-role p y m top w s r b n (a + 2) here in
      let next : had.k ≡ NEXT = y.single.one (a + 2) had.k NEXT had.role l.next in
      far (omega (arith, had.next next))

-- The front part of a chain, up to a place.
leaves-front : (p : Plan) (m : List ℕ) (top : Bool → ℕ) (s : ℕ → ℕ → Bool) (r : HasRoles p m s) (head : ℕ) (os : List ℕ) (to : ℕ) (further : List ℕ) → Ready p → Collected p m top → Remains p s
    → Sweepable p s os further → Leads p.start head os to → Distinct os → ((o : ℕ) → In o os → IsLink p.test p.start o) → ((o : ℕ) → In o further → IsLink p.test p.start o)
    → ((v n : ℕ) → IsRecord p.test p.start v n → get_or p.start (v + 2) 0 ≡ naming p.start v os + naming p.start v further)
    → FrontSweeping r.test m head os to 0 [] 0 [] further
leaves-front p m top s r head os to further y w e x leads once each beside counts = record {
  rest = leads-stays p.start m head os to (λ o inside. next-stays p y m top w s r o (each o inside)) leads;
  old = λ o inside. is-old p y m top w s r o (each o inside) x.rooms (λ a k from below h. x.left o a k inside from below h);
  chain = refl;
  once = tt;
  fresh = λ o inside gone hit. hit;
  apart = lying-once p y m top w s r x.rooms os each once;
  alone = λ a b ina inb far here. elim inb [
    | inl inside ↦ read-apart p y m top w s r x.rooms a b (each a ina) (each b inside) far here
    | inr none ↦ none
  ];
  each = λ o inside. absurd inside;
  beside = λ o inside. further-link p y m top w s r o (beside o inside) (x.still o inside) (λ a k from below h. x.kept o a k inside from below h);
  counts = λ v n there.
      let back : IsRecord p.test p.start v n = record-back p y m top w s r v n there in
      let was : get_or p.start (v + 2) 0 ≡ naming p.start v os + naming p.start v further = counts v n back in
      let a : naming m v (lying m os) ≡ naming p.start v os = lying-named p y m top w s r x.rooms v os each in
      let b : naming m v further ≡ naming p.start v further = further-naming p y m top w s r x.rooms v further beside x.still in
      count-stays p y m top w s r v n back ∙ omega (arith, was, a, b);
  gone = refl;
  freed = λ o inside. absurd inside;
  freed_once = tt;
}

pub leaves-sweep : (p : Plan) (m : List ℕ) (top : Bool → ℕ) (s : ℕ → ℕ → Bool) (r : HasRoles p m s) (head : ℕ) (os further : List ℕ) → Ready p → Collected p m top → Remains p s
    → Sweepable p s os further → Links p.test p.start head os further → Sweeping r.test m head os 0 [] 0 [] further
leaves-sweep p m top s r head os further y w e x l = leaves-front p m top s r head os 0 further y w e x l.chain l.once l.each l.beside l.counts

-- A chain is its front part, which leads to the first object of the rest, and the rest.

leads-parted : (mem : List ℕ) (from : ℕ) (os rest : List ℕ) → Leads mem from (os ++ rest) 0 → Leads mem from os (first_object rest) × Leads mem (first_object rest) rest 0
leads-parted mem from [] [] l = (l, refl)
leads-parted mem from [] (q ∷ rest) (e, l) = (e, (refl, l))
leads-parted mem from (q ∷ os) rest (e, l) = (let (front, behind) = leads-parted mem (get_or mem (q + 2) 0) os rest l in ((e, front), behind))

pub leaves-fronts : (p : Plan) (m : List ℕ) (top : Bool → ℕ) (s : ℕ → ℕ → Bool) (r : HasRoles p m s) (head : ℕ) (os rest further : List ℕ) → Ready p → Collected p m top → Remains p s
    → Sweepable p s os (rest ++ further) → Links p.test p.start head (os ++ rest) further → FrontSweeping r.test m head os (first_object rest) 0 [] 0 [] (rest ++ further)
leaves-fronts p m top s r head os rest further y w e x l =
    leaves-front p m top s r head os (first_object rest) (rest ++ further) y w e x (leads-parted p.start head os rest l.chain).0 (distinct-left os rest l.once)
    (λ o i. l.each o (in-left o os rest i))
    (λ o i. elim (in-both o rest further i) [ inl a ↦ l.each o (in-right o os rest a) | inr b ↦ l.beside o b ])
    (λ v n there. omega (arith, l.counts v n there, naming-both p.start v os rest, naming-both p.start v rest further))

pub leaves-rests : (p : Plan) (m : List ℕ) (top : Bool → ℕ) (s : ℕ → ℕ → Bool) (r : HasRoles p m s) (head : ℕ) (os rest further : List ℕ) → Ready p → Collected p m top
    → Links p.test p.start head (os ++ rest) further → Chain m (first_object rest) rest
leaves-rests p m top s r head os rest further y w l =
    leads-stays p.start m (first_object rest) rest 0 (λ o i. next-stays p y m top w s r o (l.each o (in-right o os rest i))) (leads-parted p.start head os rest l.chain).1
