-- The records of a whole chain move.
use Rattle.std.proofs.Common.{◌≡◌, ℕ, ◌+◌, ◌<◌, ◌≤◌, ◌⊎◌, Bool, true, List, [], ◌∷◌, length, get_or}
use Rattle.std.proofs.Common.{refl, sym, ◌∙◌, ap, subst, arith, inl, inr}
use Rattle.std.proofs.lemmas.Bool.{cases_eq}
use Rattle.plain_term.specs.Measures.{bin_words}
use Rattle.term_words.specs.Role.{NEXT, FIRST, FURTHER, NAMES, RECORD_FIRST}
use Rattle.term_words.specs.Object.{IsRecord}
use Rattle.term_words.specs.Relocated.{IsCopiedTo}
use Rattle.term_words.specs.Counted.{In}
use Rattle.shared_rec.specs.Record.{count_in}
use Rattle.shared_rec.proofs.Records.{bin-copied, fun-copied, record-copied, record-first, record-size, record-within}
use Rattle.off_heap_list.specs.Links.{names_it, name_place, named, Chain, naming, IsLinkHeader, IsLink}
use Rattle.off_heap_list.proofs.Chaining.Chained.{leads-stays, one-naming, no-naming}
use Rattle.off_heap_list.proofs.Walked.Tallied.{none-left}
use Rattle.record_move.specs.Copies.{RecordsCanMove, IsRecordCopy, HasNamer, RecordsMoved, Moves, AreFew}
use Rattle.record_move.specs.declared.moves.TheConstants.{MOVED}
use Rattle.record_move.proofs.Moving.{word-same, next-kept, place-kept, head-same, copy-of, from-start, moves-begin}

-- The walk has come to an object, with so many behind it.
pub record Walks (c : ℕ → ℕ → Bool) (start mem : List ℕ) (head : ℕ) (os : List ℕ) (low now top object i : ℕ) : Type 0 where
  pub rest : List ℕ
  pub moves : Moves c start mem os rest low now top
  pub chain : Chain start object rest
  pub number : i + length rest ≡ length os

pub walks-begin : (c : ℕ → ℕ → Bool) (start : List ℕ) (head : ℕ) (os : List ℕ) (low top : ℕ) → RecordsCanMove c start head os low top → AreFew c start
    → Walks c start start head os low top top head 0
walks-begin c start head os low top b f = record { rest = os; moves = moves-begin c start head os low top b f; chain = b.links.chain; number = omega arith }

record Goes (c : ℕ → ℕ → Bool) (start mem : List ℕ) (os : List ℕ) (low now top object : ℕ) (rest : List ℕ) : Type 0 where
  pub left : List ℕ
  pub is : rest ≡ object ∷ left
  pub chain : Chain start (get_or start (object + 2) 0) left

goes : (c : ℕ → ℕ → Bool) (start mem : List ℕ) (os : List ℕ) (low now top object : ℕ) (rest : List ℕ) → Chain start object rest → 0 < length rest → Goes c start mem os low now top object rest
goes c start mem os low now top object [] l some = absurd (omega (arith, some))
goes c start mem os low now top object (p ∷ left) l some =
    let P : ℕ → Type 0 = λ x. Chain start (get_or start (x + 2) 0) left in
    record { left = left; is = ap (λ x. x ∷ left) (sym l.0); chain = subst P (sym l.0) l.1 }

module _ (c : ℕ → ℕ → Bool) (start mem : List ℕ) (head : ℕ) (os : List ℕ) (low now top object i : ℕ) (b : RecordsCanMove c start head os low top) (f : AreFew c start)
    (w : Walks c start mem head os low now top object i) (more : i < length os) where
  next : Goes c start mem os low now top object w.rest
  next = goes c start mem os low now top object w.rest w.chain (omega (arith, w.number, more))

  pub left-there : List ℕ
  left-there = next.left

  pub moves-there : Moves c start mem os (object ∷ left-there) low now top
  unfolding left-there
  moves-there = let P : List ℕ → Type 0 = λ xs. Moves c start mem os xs low now top in subst P next.is w.moves

  inside-there : In object os
  inside-there = moves-there.among object (inl refl)

  pub walks-within : object + 6 ≤ length mem
  walks-within = omega (arith, (b.links.each object inside-there).within, w.moves.same_len)

  next-word : get_or mem (object + 2) 0 ≡ get_or start (object + 2) 0
  next-word = next-kept c start mem head os w.rest low now top b f w.moves object (b.links.each object inside-there)

  pub walks-more : (mem2 : List ℕ) (now2 : ℕ) → Moves c start mem2 os left-there low now2 top → Walks c start mem2 head os low now2 top (get_or mem (object + 2) 0) (i + 1)
  unfolding left-there
  walks-more mem2 now2 m =
      let P : ℕ → Type 0 = λ x. Chain start x left-there in
      record { rest = left-there; moves = m; chain = subst P (sym next-word) next.chain; number = omega (arith, w.number, ap length next.is) }

pub no-name : (x v : ℕ) → (x ≡ v → ⊥) → names_it x v ≡ 0
no-name x v far =
    let which : (x ≡ v) ⊎ ((x < v) ⊎ (v < x)) = grind arith in
    elim which [ inl e ↦ absurd (far e) | inr apart ↦ no-naming x v apart ]

-- When every object was seen.
module _ (c : ℕ → ℕ → Bool) (start mem : List ℕ) (head : ℕ) (os : List ℕ) (low now top : ℕ) (b : RecordsCanMove c start head os low top) (f : AreFew c start)
    (s : Moves c start mem os [] low now top) where
  link-of : (o : ℕ) → In o os → IsLink c start o
  link-of o inside = b.links.each o inside

  place-is : (o : ℕ) → In o os → name_place mem o ≡ name_place start o
  place-is o inside = place-kept c start mem head os [] low now top b f s o (link-of o inside)

  shown : (o : ℕ) → In o os → count_in mem (named start o) ≡ MOVED + named mem o
  shown o inside = s.done o inside (λ i. i) ∙ ap (λ q. MOVED + get_or mem q 0) (sym (place-is o inside))

  copy-at : (o : ℕ) (inside : In o os) → IsRecordCopy s.test start mem now top (named start o) (link-of o inside).words (named mem o)
  copy-at o inside =
      let (u, k) = copy-of c start mem head os [] low now top b f s (named start o) (link-of o inside).words (link-of o inside).record_is (omega (arith, shown o inside)) in
      let same : u ≡ named mem o = omega (arith, k.mark, shown o inside) in
      let P : ℕ → Type 0 = λ x. IsRecordCopy s.test start mem now top (named start o) (link-of o inside).words x in
      subst P same k

  copied-at : (o : ℕ) (inside : In o os) → IsCopiedTo c s.test start mem (named start o) (named mem o) (link-of o inside).words
  copied-at o inside =
      from-start c start mem head os [] low now top b f s (named start o) (link-of o inside).words (named mem o) (link-of o inside).record_is (copy-at o inside)

  record-at : (o : ℕ) (inside : In o os) → IsRecord s.test mem (named mem o) (link-of o inside).words
  record-at o inside = record-copied c s.test start mem (named start o) (named mem o) (link-of o inside).words (copied-at o inside) (link-of o inside).record_is

  -- A record among the copies is one that an object names.

  at-copy : (v n : ℕ) → IsRecord s.test mem v n → now ≤ v → v < top → HasNamer mem os v
  at-copy v n there from below =
      let (o, (inside, e)) = s.only v from below (record-first s.test mem v n there) in
      record { o = o; inside = inside; names = omega (arith, e, shown o inside) }

  -- Objects name one copy exactly where they named one record.

  same-copy : (o q : ℕ) → In o os → In q os → named start o ≡ named start q → named mem o ≡ named mem q
  same-copy o q ino inq e = omega (arith, shown o ino, shown q inq, ap (λ x. get_or mem (x + 2) 0) e)

  same-record : (o q : ℕ) → In o os → In q os → named mem o ≡ named mem q → named start o ≡ named start q
  same-record o q ino inq e = s.one (named start o) (link-of o ino).words (named start q) (link-of q inq).words (named mem o) (link-of o ino).record_is (link-of q inq).record_is (shown o ino)
      (shown q inq ∙ ap (λ x. MOVED + x) (sym e))

  names-same : (o q : ℕ) → In o os → In q os → names_it (named mem q) (named mem o) ≡ names_it (named start q) (named start o)
  names-same o q ino inq = elim (cases_eq (named mem q) (named mem o)) [
    | inl e ↦ one-naming (named mem q) (named mem o) e ∙ sym (one-naming (named start q) (named start o) (same-record q o inq ino e))
    | inr far ↦ no-name (named mem q) (named mem o) far ∙ sym (no-name (named start q) (named start o) (λ e. far (same-copy q o inq ino e)))
  ]

  naming-same : (o : ℕ) → In o os → (ps : List ℕ) → ((q : ℕ) → In q ps → In q os) → naming mem (named mem o) ps ≡ naming start (named start o) ps
  naming-same o ino [] among = refl
  naming-same o ino (q ∷ ps) among =
      omega (arith, names-same o q ino (among q (inl refl)), naming-same o ino ps (λ x i. among x (inr i)))

  count-at : (o : ℕ) (inside : In o os) → count_in mem (named mem o) ≡ naming mem (named mem o) os
  count-at o inside =
      let size : 4 ≤ (link-of o inside).words = (record-within c start (named start o) (link-of o inside).words (link-of o inside).record_is).1 in
      (copy-at o inside).words 2 (omega (arith, size))
      ∙ (b.links.counts (named start o) (link-of o inside).words (link-of o inside).record_is ∙ omega (arith, naming-same o inside os (λ x i. i)))

  named-some : (o : ℕ) (ps : List ℕ) → In o ps → 1 ≤ naming mem (named mem o) ps
  named-some o [] inside = absurd inside
  named-some o (q ∷ ps) (inl e) = omega (arith, one-naming (named mem q) (named mem o) (ap (λ x. named mem x) (sym e)))
  named-some o (q ∷ ps) (inr deep) = omega (arith, named-some o ps deep)

  object-at : (o : ℕ) → In o os → IsLink s.test mem o
  object-at o inside =
      let l : IsLink c start o = link-of o inside in
      let head_word_same : get_or mem o 0 ≡ get_or start o 0 = head-same c start mem head os [] low now top b f s o l in
      let D : ℕ → Type 0 = λ q. s.test q NAMES ≡ true in
      let size : 4 ≤ l.words = (record-within c start (named start o) l.words l.record_is).1 in
      record {
        somewhere = l.somewhere;
        within = omega (arith, l.within, s.same_len);
        first = s.more o FIRST l.first;
        next = s.more (o + 2) NEXT l.next;
        names = subst D (sym (place-is o inside)) (s.more (name_place start o) NAMES l.names);
        kind = subst IsLinkHeader (sym head_word_same) l.kind;
        size = λ h.
            let z = l.size (sym head_word_same ∙ h) in (
              s.more (o + 1) FURTHER z.0,
              word-same c start mem head os [] low now top b f s (o + 1) FURTHER z.0 (λ e. omega (arith, e)) (λ e. omega (arith, e))
                  ∙ (z.1 ∙ sym ((copy-at o inside).words 3 (omega (arith, size)))),
            );
        words = l.words;
        record_is = record-at o inside;
      }

  -- A record that no object names has its count still.
  unshown-here : (v n : ℕ) → IsRecord c start v n → (count_in mem v ≡ count_in start v) ⊎ ((o : ℕ) × (In o os × (named start o ≡ v)))
  unshown-here v n there = elim (s.records v n there) [
    | inl still ↦ inl still
    | inr (u, k) ↦
        let size : 4 ≤ n = (record-within c start v n there).1 in
        let P : ℕ → Type 0 = λ x. s.test x RECORD_FIRST ≡ true in
        let first : s.test u RECORD_FIRST ≡ true = subst P (omega arith) (k.roles 0 (omega (arith, size))) in
        let (o, (inside, e)) = s.only u k.from (omega (arith, k.below, size)) first in
        inr (o, (inside, sym (s.one v n (named start o) (link-of o inside).words u there (link-of o inside).record_is k.mark e)))
  ]

  copied-word : (o n j : ℕ) → In o os → IsRecord c start (named start o) n → j < n → get_or mem (named mem o + j) 0 ≡ get_or start (named start o + j) 0
  copied-word o n j inside there below =
      let size : (link-of o inside).words ≡ n = sym (record-size c start (named start o) (link-of o inside).words (link-of o inside).record_is) ∙ record-size c start (named start o) n there in
      (copy-at o inside).words j (omega (arith, size, below))

  pub records-moved : RecordsMoved c start mem head os now top
  records-moved = record {
    test = s.test;
    single = s.single;
    more = s.more;
    comes = s.comes;
    order = s.below;
    trees = s.trees;
    chain = leads-stays start mem head os 0 (λ o inside. next-kept c start mem head os [] low now top b f s o (link-of o inside)) b.links.chain;
    once = b.links.once;
    objects = object-at;
    lies = λ o n inside there.
        let size : (link-of o inside).words ≡ n = sym (record-size s.test mem (named mem o) (link-of o inside).words (record-at o inside)) ∙ record-size s.test mem (named mem o) n there in
        ((copy-at o inside).from, omega (arith, (copy-at o inside).below, size));
    same_one = λ o q ino inq. ((λ e. same-record o q ino inq e), (λ e. same-copy o q ino inq e));
    bins = λ o serial bytes inside there.
        let P : ℕ → Type 0 = λ x. IsCopiedTo c s.test start mem (named start o) (named mem o) x in
        let size : (link-of o inside).words ≡ 4 + bin_words (length bytes) =
        sym (record-size c start (named start o) (link-of o inside).words (link-of o inside).record_is)
        ∙ record-size c start (named start o) (4 + bin_words (length bytes)) (inl (serial, bytes, there, refl)) in
        bin-copied c s.test start mem (named start o) (named mem o) serial bytes (subst P size (copied-at o inside)) there;
    funs = λ o name arity inside there.
        let P : ℕ → Type 0 = λ x. IsCopiedTo c s.test start mem (named start o) (named mem o) x in
        let size : (link-of o inside).words ≡ 4 =
        sym (record-size c start (named start o) (link-of o inside).words (link-of o inside).record_is) ∙ record-size c start (named start o) 4 (inr (name, arity, there, refl)) in
        fun-copied c s.test start mem (named start o) (named mem o) name arity (subst P size (copied-at o inside)) there;
    namers = at-copy;
    counts = λ v n there from below.
        let h : HasNamer mem os v = at-copy v n there from below in
        let P : ℕ → Type 0 = λ x. (count_in mem x ≡ naming mem x os) × (1 ≤ count_in mem x) in
        let e : count_in mem (named mem h.o) ≡ naming mem (named mem h.o) os = count-at h.o h.inside in
        subst P h.names (e, omega (arith, e, named-some h.o os h.inside));
    shown = shown;
    copied = copied-word;
    unshown = unshown-here;
    few = f.few;
    roles = s.roles;
    writes = s.writes;
    same_len = s.same_len;
  }

pub walks-done : (c : ℕ → ℕ → Bool) (start mem : List ℕ) (head : ℕ) (os : List ℕ) (low now top object i : ℕ) → RecordsCanMove c start head os low top → AreFew c start
    → Walks c start mem head os low now top object i → length os ≤ i → (low ≤ now) × RecordsMoved c start mem head os now top
walks-done c start mem head os low now top object i b f w over =
    let P : List ℕ → Type 0 = λ xs. Moves c start mem os xs low now top in
    (w.moves.from, records-moved c start mem head os low now top b f (subst P (none-left w.rest (omega (arith, w.number, over))) w.moves))
