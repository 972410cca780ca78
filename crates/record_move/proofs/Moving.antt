-- Records move one after the other.
use Rattle.std.proofs.Common.{◌≡◌, ℕ, ◌+◌, ◌-◌, ◌/◌, ◌<◌, ◌≤◌, ◌⊎◌, ◌==◌, if◌then◌else◌, Bool, true, false, List, [], ◌∷◌, length, get_or, set}
use Rattle.std.proofs.Common.{refl, sym, ◌∙◌, ap, subst, arith, inl, inr, length-set, get_or-set_other}
use Rattle.std.proofs.lemmas.Bool.{cases_eq}
use Rattle.std.proofs.lemmas.Grind.{get_or-set_at}
use Rattle.std.proofs.lemmas.Bool.Decides.{nat_tests}
use Rattle.plain_term.specs.Measures.{bin_words}
use Rattle.term_tags.specs.Words.{head_word}
use Rattle.term_tags.specs.declared.layouts.TheConstants.{HOLDER}
use Rattle.term_words.specs.Role.{NEXT, COUNT, FIRST, NAMES, RECORD_FIRST, IsSingle, OfRecord}
use Rattle.term_words.specs.Object.{IsRecord}
use Rattle.term_words.specs.Kept.{Kept, Keeps}
use Rattle.term_words.specs.Relocated.{IsCopiedTo}
use Rattle.term_words.specs.Counted.{In, total}
use Rattle.term_words.proofs.Framing.Frames.{frame}
use Rattle.term_build.specs.Taken.{Taken, with_object}
use Rattle.term_build.proofs.Taking.{with-object-taken, with-object-single, with-object-within}
use Rattle.shared_rec.specs.Record.{record_roles, count_in}
use Rattle.shared_rec.proofs.Records.{bin-copied, fun-copied, record-counted, record-size, record-within, record-first, record-role}
use Rattle.off_heap_list.specs.Links.{name_place, named, naming, IsLink, SameContent}
use Rattle.off_heap_list.proofs.Chaining.Chained.{place-same}
use Rattle.off_heap_list.proofs.Walked.Tallied.{few-links, one-at-most}
use Rattle.record_move.specs.Copies.{record_words, RecordsCanMove, IsRecordCopy, Moves, AreFew}
use Rattle.record_move.specs.declared.moves.TheConstants.{MOVED}

-- A list without one of its members.
record Without (size : ℕ → ℕ) (v : ℕ) (us : List ℕ) : Type 0 where
  pub rest : List ℕ
  pub words : total size rest + size v ≡ total size us
  pub others : (u : ℕ) → (u ≡ v → ⊥) → In u us → In u rest

without : (size : ℕ → ℕ) (v : ℕ) (us : List ℕ) → In v us → Without size v us
without size v [] i = absurd i
without size v (u ∷ us) (inl e) = record {
  rest = us;
  words = omega (arith, ap size e);
  others = λ w n j. elim j [ inl f ↦ absurd (n (f ∙ sym e)) | inr k ↦ k ];
}
without size v (u ∷ us) (inr i) =
    let o : Without size v us = without size v us i in
    record {
      rest = u ∷ o.rest;
      words = omega (arith, o.words);
      others = λ w n j. elim j [ inl f ↦ inl f | inr k ↦ inr (o.others w n k) ];
    }

-- The place that names a record is the object's own.

place-by : (b : Bool) (p : ℕ) → ((if b then p + 3 else p + 1) ≡ p + 1) ⊎ ((if b then p + 3 else p + 1) ≡ p + 3)
place-by true p = inr refl
place-by false p = inl refl

pub place-cases : (mem : List ℕ) (p : ℕ) → (name_place mem p ≡ p + 1) ⊎ (name_place mem p ≡ p + 3)
place-cases mem p = place-by (get_or mem p 0 == head_word HOLDER 5) p

places-one : (c : ℕ → ℕ → Bool) (mem : List ℕ) (o q : ℕ) → IsSingle c → IsLink c mem o → IsLink c mem q → name_place mem o ≡ name_place mem q → o ≡ q
places-one c mem o q single l n e =
    let P : ℕ → Type 0 = λ x. c x FIRST ≡ true in
    elim (place-cases mem o) [
      | inl one ↦ elim (place-cases mem q) [
        | inl one2 ↦ omega (arith, e, one, one2)
        | inr three2 ↦ absurd (let at : o ≡ q + 2 = omega (arith, e, one, three2) in let same : FIRST ≡ NEXT = single.one (q + 2) FIRST NEXT (subst P at l.first) n.next in omega (arith, same))
      ]
      | inr three ↦ elim (place-cases mem q) [
        | inl one2 ↦ absurd (let at : q ≡ o + 2 = omega (arith, e, three, one2) in let same : FIRST ≡ NEXT = single.one (o + 2) FIRST NEXT (subst P at n.first) l.next in omega (arith, same))
        | inr three2 ↦ omega (arith, e, three, three2)
      ]
    ]

role-other : (j k : ℕ) → record_roles j ≡ k → (k ≡ COUNT → ⊥) → (k ≡ NAMES → ⊥) → (record_roles j ≡ COUNT → ⊥) × (record_roles j ≡ NAMES → ⊥)
role-other j k e n m = ((λ x. n (sym e ∙ x)), (λ x. m (sym e ∙ x)))

-- The role of a record's word is no count but for word 2, and no name.
role-cases : (j : ℕ) → (j ≡ 2) ⊎ ((record_roles j ≡ COUNT → ⊥) × (record_roles j ≡ NAMES → ⊥))
role-cases j =
    let which : (j ≡ 0) ⊎ ((j ≡ 1) ⊎ ((j ≡ 2) ⊎ (3 ≤ j))) = grind arith in
    elim which [
      | inl e ↦ inr (role-other j 8 (grind (arith, nat_tests, e)) (λ x. omega (arith, x)) (λ x. omega (arith, x)))
      | inr (inl e) ↦ inr (role-other j 6 (grind (arith, nat_tests, e)) (λ x. omega (arith, x)) (λ x. omega (arith, x)))
      | inr (inr (inl e)) ↦ inl e
      | inr (inr (inr far)) ↦ inr (role-other j 6 (grind (arith, nat_tests, far)) (λ x. omega (arith, x)) (λ x. omega (arith, x)))
    ]

-- And it is a role of records.
pub of-record : (j : ℕ) → OfRecord (record_roles j)
of-record j =
    let which : (j ≡ 0) ⊎ ((j ≡ 2) ⊎ ((j ≡ 1) ⊎ (3 ≤ j))) = grind arith in
    elim which [
      | inl z ↦ inr (inr (grind (arith, nat_tests, z)))
      | inr (inl z) ↦ inl (grind (arith, nat_tests, z))
      | inr (inr far) ↦ inr (inl (grind (arith, nat_tests, far)))
    ]

-- The first word of a record alone has its role.
pub role-begins : (j : ℕ) → record_roles j ≡ RECORD_FIRST → j ≡ 0
role-begins j e =
    let which : (j ≡ 0) ⊎ ((j ≡ 1) ⊎ ((j ≡ 2) ⊎ (3 ≤ j))) = grind arith in
    elim which [
      | inl z ↦ z
      | inr (inl z) ↦ (let r : record_roles j ≡ 6 = grind (arith, nat_tests, z) in omega (arith, r, e))
      | inr (inr (inl z)) ↦ (let r : record_roles j ≡ 2 = grind (arith, nat_tests, z) in omega (arith, r, e))
      | inr (inr (inr z)) ↦ (let r : record_roles j ≡ 6 = grind (arith, nat_tests, z) in omega (arith, r, e))
    ]

-- No count is a mark.

pub naming-few : (mem : List ℕ) (v : ℕ) (os : List ℕ) → naming mem v os ≤ length os
naming-few mem v [] = omega arith
naming-few mem v (p ∷ os) = omega (arith, one-at-most (named mem p == v), naming-few mem v os)

pub are-few : (c : ℕ → ℕ → Bool) (start : List ℕ) (head : ℕ) (os : List ℕ) (low top : ℕ) → RecordsCanMove c start head os low top → length start ≤ 16777216 → AreFew c start
are-few c start head os low top b most = record {
  few = λ v n there. omega (arith, b.links.counts v n there, naming-few start v os, few-links c start os b.links.once b.links.each, most);
}

module _ (c : ℕ → ℕ → Bool) (start : List ℕ) (head : ℕ) (os : List ℕ) (low top : ℕ) (b : RecordsCanMove c start head os low top) (f : AreFew c start) where
  -- A word with a role lies outside the room.
  outside-room : (a k : ℕ) → c a k ≡ true → (a < low) ⊎ (top ≤ a)
  outside-room a k h = b.free a k h

  roles-differ : (a j k : ℕ) → c a j ≡ true → c a k ≡ true → (j ≡ k → ⊥) → ⊥
  roles-differ a j k h n far = far (b.single.one a j k h n)

  pub count-not-name : (a d : ℕ) → c a COUNT ≡ true → c d NAMES ≡ true → a ≡ d → ⊥
  count-not-name a d h n e = let P : ℕ → Type 0 = λ x. c x COUNT ≡ true in roles-differ d COUNT NAMES (subst P e h) n (λ s. omega (arith, s))

  pub record-of : (o : ℕ) (inside : In o os) → IsRecord c start (named start o) (b.links.each o inside).words
  record-of o inside = (b.links.each o inside).record_is

pub moves-begin : (c : ℕ → ℕ → Bool) (start : List ℕ) (head : ℕ) (os : List ℕ) (low top : ℕ) → RecordsCanMove c start head os low top → AreFew c start → Moves c start start os os low top top
moves-begin c start head os low top b f = record {
  test = c;
  single = b.single;
  more = λ a k h. h;
  comes = λ a k h. inl h;
  roles = λ a k h. inl h;
  trees = record { each = λ shared w t s. s };
  from = b.order;
  below = omega arith;
  same_len = refl;
  writes = λ q away n m. refl;
  once = b.links.once;
  among = λ o inside. inside;
  left = λ o inside. refl;
  done = λ o inside out. absurd (out inside);
  records = λ v n there. inl refl;
  one = λ v n w m u there here e g. absurd (omega (arith, f.few v n there, e));
  only = λ a from below h. absurd (omega (arith, from, below));
  each = b.each;
  all = λ o inside same. b.all o inside;
  words = b.words;
}

-- The words with a role that is neither that of a count nor of a name are as they were.
module _ (c : ℕ → ℕ → Bool) (start mem : List ℕ) (head : ℕ) (os rest : List ℕ) (low now top : ℕ) (b : RecordsCanMove c start head os low top) (f : AreFew c start)
    (s : Moves c start mem os rest low now top) where
  pub word-same : (a k : ℕ) → c a k ≡ true → (k ≡ COUNT → ⊥) → (k ≡ NAMES → ⊥) → get_or mem a 0 ≡ get_or start a 0
  word-same a k h n m =
      let away : (a < low) ⊎ (top ≤ a) = b.free a k h in
      s.writes a (grind (arith, away, s.from)) (λ x. n (b.single.one a k COUNT h x)) (λ x. m (b.single.one a k NAMES h x))

  pub head-same : (o : ℕ) → IsLink c start o → get_or mem o 0 ≡ get_or start o 0
  head-same o l = word-same o FIRST l.first (λ e. omega (arith, e)) (λ e. omega (arith, e))

  pub place-kept : (o : ℕ) → IsLink c start o → name_place mem o ≡ name_place start o
  place-kept o l = place-same start mem o (head-same o l)

  named-kept : (o : ℕ) → In o rest → named mem o ≡ named start o
  named-kept o inside = ap (λ q. get_or mem q 0) (place-kept o (b.links.each o (s.among o inside))) ∙ s.left o inside

  pub next-kept : (o : ℕ) → IsLink c start o → get_or mem (o + 2) 0 ≡ get_or start (o + 2) 0
  next-kept o l = word-same (o + 2) NEXT l.next (λ e. omega (arith, e)) (λ e. omega (arith, e))

  -- A record whose count word has the mark was copied.
  pub copy-of : (v n : ℕ) → IsRecord c start v n → MOVED ≤ count_in mem v → (u : ℕ) × IsRecordCopy s.test start mem now top v n u
  copy-of v n there marked = elim (s.records v n there) [ inl same ↦ absurd (omega (arith, marked, same, f.few v n there)) | inr copy ↦ copy ]

  -- And one whose count word has not was not.
  not-copied : (v n : ℕ) → IsRecord c start v n → count_in mem v < MOVED → count_in mem v ≡ count_in start v
  not-copied v n there small = elim (s.records v n there) [ inl same ↦ same | inr (u, copy) ↦ absurd (omega (arith, small, copy.mark)) ]

  record-word : (v n j : ℕ) → IsRecord c start v n → j < n → (j ≡ 2 → ⊥) → get_or mem (v + j) 0 ≡ get_or start (v + j) 0
  record-word v n j there below far = elim (role-cases j) [
    | inl two ↦ absurd (far two)
    | inr (not_count, not_name) ↦ word-same (v + j) (record_roles j) (record-role c start v n j there below) not_count not_name
  ]

  size-kept : (v n : ℕ) → IsRecord c start v n → get_or mem v 0 / 16 ≡ n
  size-kept v n there =
      ap (λ x. x / 16) (word-same v RECORD_FIRST (record-first c start v n there) (λ e. omega (arith, e)) (λ e. omega (arith, e))) ∙ record-size c start v n there

-- A record is copied.
module _ (c : ℕ → ℕ → Bool) (start mem mem2 : List ℕ) (head o : ℕ) (os rest : List ℕ) (low now top n u : ℕ) (b : RecordsCanMove c start head os low top) (f : AreFew c start)
    (s : Moves c start mem os (o ∷ rest) low now top) (there : IsRecord c start (named start o) n) (small : count_in mem (named start o) < MOVED) (at : u + n ≡ now)
    (same_len : length mem2 ≡ length mem) (copied : (j : ℕ) → j < n → get_or mem2 (u + j) 0 ≡ get_or mem (named start o + j) 0)
    (mark : get_or mem2 (named start o + 2) 0 ≡ MOVED + u)
    (others : (q : ℕ) → (q < u) ⊎ (u + n ≤ q) → (q ≡ named start o + 2 → ⊥) → get_or mem2 q 0 ≡ get_or mem q 0) where
  here-count : count_in mem (named start o) ≡ count_in start (named start o)
  here-count = not-copied c start mem head os (o ∷ rest) low now top b f s (named start o) n there small

  pending : Without (record_words start) (named start o) s.each
  pending = without (record_words start) (named start o) s.each (s.all o (inl refl) here-count)

  size-is : get_or start (named start o) 0 / 16 ≡ n
  size-is = record-size c start (named start o) n there

  room-left : low ≤ u
  room-left = omega (arith, pending.words, s.words, at, size-is)

  free-there : (a k : ℕ) → s.test a k ≡ true → (a < u) ⊎ (u + n ≤ a)
  free-there a k h = elim (s.comes a k h) [
    | inl old ↦ (let away : (a < low) ⊎ (top ≤ a) = b.free a k old in grind (arith, away, room-left, at, s.below))
    | inr (from, below) ↦ inr (omega (arith, from, at))
  ]

  taken : Taken record_roles s.test (with_object record_roles s.test u n) u n
  taken = with-object-taken record_roles s.test u n free-there

  single2 : IsSingle (with_object record_roles s.test u n)
  single2 = with-object-single record_roles s.test u n s.single

  -- Words with a role but this count are as they were.
  role-word : (a k : ℕ) → c a k ≡ true → (a ≡ named start o + 2 → ⊥) → get_or mem2 a 0 ≡ get_or mem a 0
  role-word a k h far = let away : (a < low) ⊎ (top ≤ a) = b.free a k h in others a (grind (arith, away, room-left, at, s.below)) far

  counted-here : c (named start o + 2) COUNT ≡ true
  counted-here = record-counted c start (named start o) n there

  count-word : (v m : ℕ) → IsRecord c start v m → (v ≡ named start o → ⊥) → get_or mem2 (v + 2) 0 ≡ get_or mem (v + 2) 0
  count-word v m r far = role-word (v + 2) COUNT (record-counted c start v m r) (λ e. far (omega (arith, e)))

  name-word : (q : ℕ) → In q os → get_or mem2 (name_place start q) 0 ≡ get_or mem (name_place start q) 0
  name-word q inside =
      let l : IsLink c start q = b.links.each q inside in
      role-word (name_place start q) NAMES l.names (λ e. count-not-name c start head os low top b f (named start o + 2) (name_place start q) counted-here l.names (sym e))

  content-kept : Kept s.test (with_object record_roles s.test u n) mem mem2
  content-kept = record {
    longer = omega (arith, same_len);
    weaker = taken.more;
    same = λ a k content h. others a (free-there a k h) (λ e.
        let P : ℕ → Type 0 = λ x. s.test x k ≡ true in
        let same : k ≡ COUNT = s.single.one (named start o + 2) k COUNT (subst P e h) (s.more (named start o + 2) COUNT counted-here) in
        omega (arith, content, same));
  }

  start-word : (j : ℕ) → j < n → get_or mem (named start o + j) 0 ≡ get_or start (named start o + j) 0
  start-word j below = elim (cases_eq j 2) [
    | inl two ↦ (let P : ℕ → Type 0 = λ x. get_or mem (named start o + x) 0 ≡ get_or start (named start o + x) 0 in subst P (sym two) here-count)
    | inr far ↦ record-word c start mem head os (o ∷ rest) low now top b f s (named start o) n j there below far
  ]

  copy-here : IsRecordCopy (with_object record_roles s.test u n) start mem2 u top (named start o) n u
  copy-here = record {
    mark = mark;
    from = omega arith;
    below = omega (arith, at, s.below);
    words = λ j below. copied j below ∙ start-word j below;
    roles = λ j below. taken.new j (u + j) below refl;
  }

  -- A copy that was made before is as it was.
  copy-still : (v m w : ℕ) → IsRecord c start v m → (v ≡ named start o → ⊥) → IsRecordCopy s.test start mem now top v m w → IsRecordCopy (with_object record_roles s.test u n) start mem2 u top v m w
  copy-still v m w r far k = record {
    mark = count-word v m r far ∙ k.mark;
    from = omega (arith, k.from, at);
    below = k.below;
    words = λ j below. others (w + j) (inr (omega (arith, k.from, at))) (λ e. elim (outside-room c start head os low top b f (named start o + 2) COUNT counted-here) [
      | inl less ↦ omega (arith, e, less, k.from, at, room-left)
      | inr more ↦ omega (arith, e, more, k.below, below)
    ]) ∙ k.words j below;
    roles = λ j below. taken.more (w + j) (record_roles j) (k.roles j below);
  }

  other-record : (v : ℕ) → MOVED ≤ count_in mem v → v ≡ named start o → ⊥
  other-record v marked e = let P : ℕ → Type 0 = λ x. MOVED ≤ get_or mem (x + 2) 0 in omega (arith, subst P e marked, small)

  copies-one : (v m w : ℕ) → IsRecord c start v m → (v ≡ named start o → ⊥) → count_in mem2 v ≡ MOVED + w → w ≡ u → ⊥
  copies-one v m w r far e same =
      let was : get_or mem (v + 2) 0 ≡ MOVED + w = sym (count-word v m r far) ∙ e in
      let (x, k) = copy-of c start mem head os (o ∷ rest) low now top b f s v m r (omega (arith, was)) in
      let size : 4 ≤ n = (record-within c start (named start o) n there).1 in
      omega (arith, k.mark, was, k.from, at, size, same)

  pub copy-step : Moves c start mem2 os (o ∷ rest) low u top
  copy-step = record {
    test = with_object record_roles s.test u n;
    single = single2;
    more = λ a k h. taken.more a k (s.more a k h);
    comes = λ a k h. elim (with-object-within record_roles s.test u n a k h) [
      | inl old ↦ elim (s.comes a k old) [ inl first ↦ inl first | inr (from, below) ↦ inr (omega (arith, from, at), below) ]
      | inr (from, below) ↦ inr (from, omega (arith, below, at, s.below))
    ];
    roles = λ a k h. elim (with-object-within record_roles s.test u n a k h) [
      | inl old ↦ s.roles a k old
      | inr (from, below) ↦
          let Q : ℕ → Type 0 = λ x. with_object record_roles s.test u n x k ≡ true in
          let split : a ≡ u + (a - u) = omega (arith, from) in
          let role : record_roles (a - u) ≡ k = single2.one (u + (a - u)) (record_roles (a - u)) k (taken.new (a - u) (u + (a - u)) (omega (arith, from, below)) refl) (subst Q split h) in
          inr (subst OfRecord role (of-record (a - u)))
    ];
    trees = record { each = λ shared w t st. (frame s.test (with_object record_roles s.test u n) mem mem2 content-kept).each shared w t (s.trees.each shared w t st) };
    from = room-left;
    below = omega (arith, at, s.below);
    same_len = same_len ∙ s.same_len;
    writes = λ q away no_count no_name.
        others q (grind (arith, away, at, s.below)) (λ e. let P : ℕ → Type 0 = λ x. c x COUNT ≡ true in no_count (subst P (sym e) counted-here)) ∙ s.writes q (grind
        (arith, away, at)) no_count no_name;
    once = s.once;
    among = s.among;
    left = λ q inside. name-word q (s.among q inside) ∙ s.left q inside;
    done = λ q inside out.
        let was : get_or mem (named start q + 2) 0 ≡ MOVED + get_or mem (name_place start q) 0 = s.done q inside out in
        count-word (named start q) (b.links.each q inside).words (record-of c start head os low top b f q inside) (other-record (named start q) (omega (arith, was)))
        ∙ (was ∙ ap (λ x. MOVED + x) (sym (name-word q inside)));
    records = λ v m r. elim (cases_eq v (named start o)) [
      | inl same ↦
          let P : ℕ → Type 0 = λ x. IsRecordCopy (with_object record_roles s.test u n) start mem2 u top x n u in
          let Q : ℕ → Type 0 = λ x. IsRecordCopy (with_object record_roles s.test u n) start mem2 u top v x u in
          let size : n ≡ m = sym size-is ∙ (ap (λ x. get_or start x 0 / 16) (sym same) ∙ record-size c start v m r) in
          inr (u, subst Q size (subst P (sym same) copy-here))
      | inr far ↦ elim (s.records v m r) [ inl still ↦ inl (count-word v m r far ∙ still) | inr (w, k) ↦ inr (w, copy-still v m w r far k) ]
    ];
    one = λ v m w k x r q e g. elim (cases_eq v (named start o)) [
      | inl same ↦ elim (cases_eq w (named start o)) [
        | inl same2 ↦ same ∙ sym same2
        | inr far2 ↦
            absurd
            (let P : ℕ → Type 0 = λ y. get_or mem2 (y + 2) 0 ≡ MOVED + x in
            let here : get_or mem2 (named start o + 2) 0 ≡ MOVED + x = subst P same e in
            copies-one w k x q far2 g (omega (arith, here, mark)))
      ]
      | inr far ↦ elim (cases_eq w (named start o)) [
        | inl same2 ↦
            absurd
            (let P : ℕ → Type 0 = λ y. get_or mem2 (y + 2) 0 ≡ MOVED + x in
            let here : get_or mem2 (named start o + 2) 0 ≡ MOVED + x = subst P same2 g in
            copies-one v m x r far e (omega (arith, here, mark)))
        | inr far2 ↦ s.one v m w k x r q (sym (count-word v m r far) ∙ e) (sym (count-word w k q far2) ∙ g)
      ]
    ];
    only = λ a from below h. elim (with-object-within record_roles s.test u n a RECORD_FIRST h) [
      | inl old ↦
          let after : now ≤ a = elim (s.comes a RECORD_FIRST old) [
            | inl first ↦ (let away : (a < low) ⊎ (top ≤ a) = b.free a RECORD_FIRST first in omega (arith, away, from, below, room-left))
            | inr (later, under) ↦ later
          ] in
          let (q, (inside, e)) = s.only a after below old in (
            q,
            (
              inside,
              count-word (named start q) (b.links.each q inside).words (record-of c start head os low top b f q inside) (other-record (named start q) (omega (arith, e))) ∙ e,
            ),
          )
      | inr (in_from, in_below) ↦
          let Q : ℕ → Type 0 = λ x. with_object record_roles s.test u n x RECORD_FIRST ≡ true in
          let split : a ≡ u + (a - u) = omega (arith, in_from) in
          let role : record_roles (a - u) ≡ RECORD_FIRST =
          single2.one (u + (a - u)) (record_roles (a - u)) RECORD_FIRST (taken.new (a - u) (u + (a - u)) (omega (arith, in_from, in_below)) refl) (subst Q split h) in
          let zero : a - u ≡ 0 = role-begins (a - u) role in
          (o, (s.among o (inl refl), mark ∙ ap (λ x. MOVED + x) (omega (arith, in_from, zero))))
    ];
    each = pending.rest;
    all = λ q inside same.
        let r : IsRecord c start (named start q) (b.links.each q (s.among q inside)).words = record-of c start head os low top b f q (s.among q inside) in
        let far : named start q ≡ named start o → ⊥ = λ e.
        (let P : ℕ → Type 0 = λ x. get_or mem2 (x + 2) 0 ≡ MOVED + u in
        let now_mark : get_or mem2 (named start q + 2) 0 ≡ MOVED + u = subst P (sym e) mark in
        omega (arith, now_mark, same, f.few (named start q) (b.links.each q (s.among q inside)).words r)) in
        pending.others (named start q) far
        (s.all q inside (sym (count-word (named start q) (b.links.each q (s.among q inside)).words r far) ∙ same));
    words = omega (arith, pending.words, s.words, at, size-is);
  }

  -- The record is copied, and shows where.
  copy-told : (m : Moves c start mem2 os (o ∷ rest) low u top) × IsRecordCopy m.test start mem2 u top (named start o) n u
  unfolding copy-step
  copy-told = (copy-step, copy-here)

-- What a copy is to its record.
module _ (c : ℕ → ℕ → Bool) (start mem : List ℕ) (head : ℕ) (os rest : List ℕ) (low now top : ℕ) (b : RecordsCanMove c start head os low top) (f : AreFew c start)
    (s : Moves c start mem os rest low now top) (v n u : ℕ) (there : IsRecord c start v n) (k : IsRecordCopy s.test start mem now top v n u) where
  pub from-start : IsCopiedTo c s.test start mem v u n
  from-start = record {
    within = omega (arith, k.below, b.inside, s.same_len);
    roles = λ j q r below e h.
        let same : r ≡ record_roles j = b.single.one (v + j) r (record_roles j) h (record-role c start v n j there below) in
        let P : ℕ → ℕ → Type 0 = λ x y. s.test x y ≡ true in
        let Q : ℕ → Type 0 = λ x. s.test x r ≡ true in
        let R : ℕ → Type 0 = λ y. s.test (u + j) y ≡ true in
        subst Q (sym e) (subst R (sym same) (k.roles j below));
    same = λ j q below far e. ap (λ x. get_or mem x 0) e ∙ k.words j below;
  }

  from-here : IsCopiedTo s.test s.test mem mem v u n
  from-here = record {
    within = from-start.within;
    roles = λ j q r below e h.
        let same : r ≡ record_roles j = s.single.one (v + j) r (record_roles j) h (s.more (v + j) (record_roles j) (record-role c start v n j there below)) in
        let Q : ℕ → Type 0 = λ x. s.test x r ≡ true in
        let R : ℕ → Type 0 = λ y. s.test (u + j) y ≡ true in
        subst Q (sym e) (subst R (sym same) (k.roles j below));
    same = λ j q below far e. ap (λ x. get_or mem x 0) e ∙ (k.words j below ∙ sym (record-word c start mem head os rest low now top b f s v n j there below far));
  }

  size-here : get_or mem v 0 / 16 ≡ n
  size-here = size-kept c start mem head os rest low now top b f s v n there

  same-content : SameContent s.test mem v u
  same-content = record {
    bins = λ serial bytes o.
        let P : ℕ → Type 0 = λ x. IsCopiedTo s.test s.test mem mem v u x in
        let size : n ≡ 4 + bin_words (length bytes) = sym size-here ∙ record-size s.test mem v (4 + bin_words (length bytes)) (inl (serial, bytes, o, refl)) in
        bin-copied s.test s.test mem mem v u serial bytes (subst P size from-here) o;
    funs = λ name arity o.
        let P : ℕ → Type 0 = λ x. IsCopiedTo s.test s.test mem mem v u x in
        let size : n ≡ 4 = sym size-here ∙ record-size s.test mem v 4 (inr (name, arity, o, refl)) in
        fun-copied s.test s.test mem mem v u name arity (subst P size from-here) o;
  }

-- An object names the copy.
module _ (c : ℕ → ℕ → Bool) (start mem mem2 : List ℕ) (head o : ℕ) (os rest : List ℕ) (low now top n u : ℕ) (b : RecordsCanMove c start head os low top) (f : AreFew c start)
    (s : Moves c start mem os (o ∷ rest) low now top) (there : IsRecord c start (named start o) n) (k : IsRecordCopy s.test start mem now top (named start o) n u)
    (same_len : length mem2 ≡ length mem) (name : get_or mem2 (name_place start o) 0 ≡ u)
    (others : (q : ℕ) → (q ≡ name_place start o → ⊥) → get_or mem2 q 0 ≡ get_or mem q 0) (trees : Keeps s.test s.test mem mem2) where
  inside-here : In o os
  inside-here = s.among o (inl refl)

  link-here : IsLink c start o
  link-here = b.links.each o inside-here

  other-word : (a r : ℕ) → c a r ≡ true → (r ≡ NAMES → ⊥) → get_or mem2 a 0 ≡ get_or mem a 0
  other-word a r h far = others a (λ e. let P : ℕ → Type 0 = λ x. c x r ≡ true in far (b.single.one (name_place start o) r NAMES (subst P e h) link-here.names))

  count-same : (v m : ℕ) → IsRecord c start v m → get_or mem2 (v + 2) 0 ≡ get_or mem (v + 2) 0
  count-same v m r = other-word (v + 2) COUNT (record-counted c start v m r) (λ e. omega (arith, e))

  named-count : (q : ℕ) → In q os → get_or mem2 (named start q + 2) 0 ≡ get_or mem (named start q + 2) 0
  named-count q inside = count-same (named start q) (b.links.each q inside).words (record-of c start head os low top b f q inside)

  room-word : (a : ℕ) → now ≤ a → a < top → get_or mem2 a 0 ≡ get_or mem a 0
  room-word a from below = others a (λ e. elim (b.free (name_place start o) NAMES link-here.names) [ inl less ↦ omega (arith, e, less, from, s.from) | inr more ↦ omega (arith, e, more, below) ])

  name-of-other : (q : ℕ) → In q os → (q ≡ o → ⊥) → get_or mem2 (name_place start q) 0 ≡ get_or mem (name_place start q) 0
  name-of-other q inside far = others (name_place start q) (λ e. far (places-one c start q o b.single (b.links.each q inside) link-here e))

  rest-other : (q : ℕ) → In q rest → q ≡ o → ⊥
  rest-other q inside e = let P : ℕ → Type 0 = λ x. In x rest in s.once.0 (subst P e inside)

  pub rename-step : Moves c start mem2 os rest low now top
  rename-step = record {
    test = s.test;
    single = s.single;
    more = s.more;
    comes = s.comes;
    roles = s.roles;
    trees = record { each = λ shared w t st. trees.each shared w t (s.trees.each shared w t st) };
    from = s.from;
    below = s.below;
    same_len = same_len ∙ s.same_len;
    writes = λ q away no_count no_name.
        others q (λ e. let P : ℕ → Type 0 = λ x. c x NAMES ≡ true in no_name (subst P (sym e) link-here.names)) ∙ s.writes q away no_count no_name;
    once = s.once.1;
    among = λ q inside. s.among q (inr inside);
    left = λ q inside. name-of-other q (s.among q (inr inside)) (rest-other q inside) ∙ s.left q (inr inside);
    done = λ q inside out. elim (cases_eq q o) [
      | inl same ↦
          let P : ℕ → Type 0 = λ x. get_or mem2 (named start x + 2) 0 ≡ MOVED + get_or mem2 (name_place start x) 0 in
          subst P (sym same) (named-count o inside-here ∙ (k.mark ∙ ap (λ x. MOVED + x) (sym name)))
      | inr far ↦
          named-count q inside ∙ (s.done q inside (λ i. elim i [ inl e ↦ far e | inr deep ↦ out deep ]) ∙ ap (λ x. MOVED + x) (sym (name-of-other q inside far)))
    ];
    records = λ v m r. elim (s.records v m r) [
      | inl still ↦ inl (count-same v m r ∙ still)
      | inr (w, x) ↦ inr (
        w,
        record {
          mark = count-same v m r ∙ x.mark;
          from = x.from;
          below = x.below;
          words = λ j below. room-word (w + j) (omega (arith, x.from)) (omega (arith, x.below, below)) ∙ x.words j below;
          roles = x.roles;
        },
      )
    ];
    one = λ v m w i x r q e g. s.one v m w i x r q (sym (count-same v m r) ∙ e) (sym (count-same w i q) ∙ g);
    only = λ a from below h. let (q, (inside, e)) = s.only a from below h in (q, (inside, named-count q inside ∙ e));
    each = s.each;
    all = λ q inside same. s.all q (inr inside) (sym (named-count q (s.among q (inr inside))) ∙ same);
    words = s.words;
  }

-- What the code has in its hands.
module _ (c : ℕ → ℕ → Bool) (start mem : List ℕ) (head o : ℕ) (os rest : List ℕ) (low now top : ℕ) (b : RecordsCanMove c start head os low top) (f : AreFew c start)
    (s : Moves c start mem os (o ∷ rest) low now top) where
  link-of : IsLink c start o
  link-of = b.links.each o (s.among o (inl refl))

  names-old : named mem o ≡ named start o
  names-old = named-kept c start mem head os (o ∷ rest) low now top b f s o (inl refl)

  place-old : name_place mem o ≡ name_place start o
  place-old = place-kept c start mem head os (o ∷ rest) low now top b f s o link-of

  pub object-in : o + 6 ≤ length mem
  object-in = omega (arith, link-of.within, s.same_len)

  within-of : (named start o + link-of.words ≤ length start) × (4 ≤ link-of.words)
  within-of = record-within c start (named start o) link-of.words link-of.record_is

  pub record-in : (from : ℕ) → from ≡ named mem o → from + 4 ≤ length mem
  record-in from e = omega (arith, e, names-old, within-of.0, within-of.1, s.same_len)

  words-are : (from words : ℕ) → from ≡ named mem o → words ≡ get_or mem from 0 / 16 → words ≡ link-of.words
  words-are from words e w =
      w ∙ (ap (λ x. get_or mem x 0 / 16) (e ∙ names-old) ∙ size-kept c start mem head os (o ∷ rest) low now top b f s (named start o) link-of.words link-of.record_is)

  small-count : (from count : ℕ) → from ≡ named mem o → count ≡ get_or mem (from + 2) 0 → count < MOVED → get_or mem (named start o + 2) 0 < MOVED
  small-count from count e w less = let P : ℕ → Type 0 = λ x. get_or mem (x + 2) 0 < MOVED in let Q : ℕ → Type 0 = λ x. x < MOVED in subst P (e ∙ names-old) (subst Q w less)

  room-for : get_or mem (named start o + 2) 0 < MOVED → low + link-of.words ≤ now
  room-for less =
      let same : count_in mem (named start o) ≡ count_in start (named start o) = not-copied c start mem head os (o ∷ rest) low now top b f s (named start o) link-of.words link-of.record_is less in
      let w : Without (record_words start) (named start o) s.each = without (record_words start) (named start o) s.each (s.all o (inl refl) same) in
      omega (arith, w.words, s.words, record-size c start (named start o) link-of.words link-of.record_is)

  -- The record lies on one side of the room.
  apart-of : low < top → (named start o + link-of.words ≤ low) ⊎ (top ≤ named start o)
  apart-of some = elim (b.free (named start o) RECORD_FIRST (record-first c start (named start o) link-of.words link-of.record_is)) [
    | inr above ↦ inr above
    | inl under ↦
        let which : (named start o + link-of.words ≤ low) ⊎ (low < named start o + link-of.words) = grind arith in
        elim which [
          | inl less ↦ inl less
          | inr over ↦
              absurd
              (let j : ℕ = low - named start o in
              let role : c (named start o + (low - named start o)) (record_roles (low - named start o)) ≡ true =
              record-role c start (named start o) link-of.words (low - named start o) link-of.record_is (omega (arith, under, over)) in
              let out : (named start o + (low - named start o) < low) ⊎ (top ≤ named start o + (low - named start o)) =
              b.free (named start o + (low - named start o)) (record_roles (low - named start o)) role in
              omega (arith, out, under, some))
        ]
  ]

  pub fits-of : (from count words : ℕ) → from ≡ named mem o → count ≡ get_or mem (from + 2) 0 → count < MOVED → words ≡ get_or mem from 0 / 16
      → (words ≤ now) × ((from + words ≤ length mem) × ((now ≤ length mem) × (3 ≤ words)))
  fits-of from count words e w less g =
      let small : get_or mem (named start o + 2) 0 < MOVED = small-count from count e w less in
      let is : words ≡ link-of.words = words-are from words e g in (
        omega (arith, is, room-for small),
        (omega (arith, is, e, names-old, within-of.0, s.same_len), (omega (arith, s.below, b.inside, s.same_len), omega (arith, is, within-of.1))),
      )

  pub apart-here : (from count words : ℕ) → from ≡ named mem o → count ≡ get_or mem (from + 2) 0 → count < MOVED → words ≡ get_or mem from 0 / 16
      → (from + words ≤ now - words) ⊎ (now - words + words ≤ from)
  apart-here from count words e w less g =
      let small : get_or mem (named start o + 2) 0 < MOVED = small-count from count e w less in
      let is : words ≡ link-of.words = words-are from words e g in
      let room : low + link-of.words ≤ now = room-for small in
      let some : low < top = omega (arith, room, within-of.1, s.below) in
      elim (apart-of some) [ inl less2 ↦ inl (omega (arith, less2, e, names-old, is, room)) | inr more ↦ inr (omega (arith, more, e, names-old, is, room, s.below)) ]

-- The record was moved before: the object finds the mark.
pub moved-found : (c : ℕ → ℕ → Bool) (start mem mem2 : List ℕ) (head o : ℕ) (os rest : List ℕ) (low now top from count : ℕ) → RecordsCanMove c start head os low top → AreFew c start
    → Moves c start mem os (o ∷ rest) low now top → from ≡ named mem o → count ≡ get_or mem (from + 2) 0 → MOVED ≤ count → mem2 ≡ set mem (name_place mem o) (count - MOVED)
    → ((d : ℕ → ℕ → Bool) → IsSingle d → d (name_place mem o) NAMES ≡ true → SameContent d mem (named mem o) (count - MOVED) → Keeps d d mem mem2) → Moves c start mem2 os rest low now top
moved-found c start mem mem2 head o os rest low now top from count b f s e w marked is keeps =
    let l : IsLink c start o = link-of c start mem head o os rest low now top b f s in
    let old : named mem o ≡ named start o = names-old c start mem head o os rest low now top b f s in
    let at : name_place mem o ≡ name_place start o = place-old c start mem head o os rest low now top b f s in
    let here : count ≡ get_or mem (named start o + 2) 0 = w ∙ ap (λ x. get_or mem (x + 2) 0) (e ∙ old) in
    let (u, k) = copy-of c start mem head os (o ∷ rest) low now top b f s (named start o) l.words l.record_is (omega (arith, here, marked)) in
    let less : count - MOVED ≡ u = omega (arith, here, k.mark) in
    let N : ℕ → Type 0 = λ x. s.test x NAMES ≡ true in
    let C : ℕ → Type 0 = λ x. SameContent s.test mem x (count - MOVED) in
    let D : ℕ → Type 0 = λ x. SameContent s.test mem (named start o) x in
    let inside : name_place mem o < length mem = omega (arith, at, place-cases start o, l.within, s.same_len) in
    rename-step c start mem mem2 head o os rest low now top l.words u b f s l.record_is k (ap length is ∙ length-set mem (name_place mem o) (count - MOVED))
    (ap (λ m. get_or m (name_place start o) 0) is ∙ (get_or-set_at mem (name_place mem o) (name_place start o) (count - MOVED) 0 (sym at) inside ∙ less))
    (λ q far. ap (λ m. get_or m q 0) is ∙ get_or-set_other mem (name_place mem o) q (count - MOVED) 0 (λ x. far (x ∙ at)))
    (keeps s.test s.single (subst N (sym at) (s.more (name_place start o) NAMES l.names))
    (subst C (sym old) (subst D (sym less) (same-content c start mem head os (o ∷ rest) low now top b f s (named start o) l.words u l.record_is k))))

-- The record is moved now.
pub moved-now : (c : ℕ → ℕ → Bool) (start mem mem2 mem3 : List ℕ) (head o : ℕ) (os rest : List ℕ) (low now top from count words : ℕ) → RecordsCanMove c start head os low top → AreFew c start
    → Moves c start mem os (o ∷ rest) low now top → from ≡ named mem o → count ≡ get_or mem (from + 2) 0 → count < MOVED → words ≡ get_or mem from 0 / 16
    → length mem2 ≡ length mem → ((j : ℕ) → j < words → get_or mem2 (now - words + j) 0 ≡ get_or mem (from + j) 0) → get_or mem2 (from + 2) 0 ≡ MOVED + (now - words)
    → ((q : ℕ) → (q < now - words) ⊎ (now - words + words ≤ q) → (q ≡ from + 2 → ⊥) → get_or mem2 q 0 ≡ get_or mem q 0) → mem3 ≡ set mem2 (name_place mem2 o) (now - words)
    → ((d : ℕ → ℕ → Bool) → IsSingle d → d (name_place mem2 o) NAMES ≡ true → SameContent d mem2 (named mem2 o) (now - words) → Keeps d d mem2 mem3)
    → Moves c start mem3 os rest low (now - words) top
moved-now c start mem mem2 mem3 head o os rest low now top from count words b f s e w less g same_len copied mark others is keeps =
    let l : IsLink c start o = link-of c start mem head o os rest low now top b f s in
    let old : from ≡ named start o = e ∙ names-old c start mem head o os rest low now top b f s in
    let small : get_or mem (named start o + 2) 0 < MOVED = small-count c start mem head o os rest low now top b f s from count e w less in
    let size : words ≡ l.words = words-are c start mem head o os rest low now top b f s from words e g in
    let room : low + l.words ≤ now = room-for c start mem head o os rest low now top b f s small in
    let P : ℕ → Type 0 = λ x. IsRecord c start (named start o) x in
    let there : IsRecord c start (named start o) words = subst P (sym size) l.record_is in
    let at : now - words + words ≡ now = omega (arith, room, size) in
    let copied2 : (j : ℕ) → j < words → get_or mem2 (now - words + j) 0 ≡ get_or mem (named start o + j) 0 = λ j below. copied j below ∙ ap (λ x. get_or mem (x + j) 0) old in
    let mark2 : get_or mem2 (named start o + 2) 0 ≡ MOVED + (now - words) = ap (λ x. get_or mem2 (x + 2) 0) (sym old) ∙ mark in
    let others2 : (q : ℕ) → (q < now - words) ⊎ (now - words + words ≤ q) → (q ≡ named start o + 2 → ⊥) → get_or mem2 q 0 ≡ get_or mem q 0 =
    λ q away far. others q away (λ x. far (x ∙ ap (λ y. y + 2) old)) in
    let (s2, k) =
    copy-told c start mem mem2 head o os rest low now top words (now - words) b f s there small at same_len copied2 mark2 others2 in
    let old2 : named mem2 o ≡ named start o = names-old c start mem2 head o os rest low (now - words) top b f s2 in
    let at2 : name_place mem2 o ≡ name_place start o = place-old c start mem2 head o os rest low (now - words) top b f s2 in
    let N : ℕ → Type 0 = λ x. s2.test x NAMES ≡ true in
    let C : ℕ → Type 0 = λ x. SameContent s2.test mem2 x (now - words) in
    let inside : name_place mem2 o < length mem2 = omega (arith, at2, place-cases start o, l.within, s2.same_len) in
    rename-step c start mem2 mem3 head o os rest low (now - words) top words (now - words) b f s2 there k (ap length is ∙ length-set mem2 (name_place mem2 o) (now - words))
    (ap (λ m. get_or m (name_place start o) 0) is ∙ get_or-set_at mem2 (name_place mem2 o) (name_place start o) (now - words) 0 (sym at2) inside)
    (λ q far. ap (λ m. get_or m q 0) is ∙ get_or-set_other mem2 (name_place mem2 o) q (now - words) 0 (λ x. far (x ∙ at2)))
    (keeps s2.test s2.single (subst N (sym at2) (s2.more (name_place start o) NAMES l.names))
    (subst C (sym old2) (same-content c start mem2 head os (o ∷ rest) low (now - words) top b f s2 (named start o) words (now - words) there k)))
