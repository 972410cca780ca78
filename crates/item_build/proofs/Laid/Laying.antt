-- A record that is written, and a holder that is laid over one and joins a chain: roles grow.
use Rattle.std.proofs.Common.{◌≡◌, ℕ, zero, suc, ◌+◌, ◌-◌, ◌*◌, ◌/◌, ◌%◌, ◌<◌, ◌≤◌, ◌⊎◌, Bool, true, List, [], ◌∷◌, length, get_or, set, refl, sym, ◌∙◌, ap, subst, arith, inl, inr, length-set, get_or-set_other}
use Rattle.std.proofs.lemmas.Grind.{get_or-set_at}
use Rattle.word_mem.specs.declared.ranges.Room.{Room}
use Rattle.plain_term.specs.Measures.{bin_words}
use Rattle.plain_term.specs.Bytes.{shared_bytes}
use Rattle.plain_term.specs.Tree.Tree.{Shared}
use Rattle.term_tags.specs.Words.{boxed_word, head_word}
use Rattle.term_tags.specs.declared.layouts.TheConstants.{HOLDER}
use Rattle.term_words.specs.Role.{NEXT, COUNT, FIRST, RECORD, RECORD_FIRST, IsSingle, Idle, IsContent, OfObject, OfRecord}
use Rattle.term_words.specs.Object.{IsBinRecord, IsFunRecord, IsRecord, byte_of}
use Rattle.term_words.specs.Stands.{Stands}
use Rattle.term_words.specs.Kept.{Kept, Keeps}
use Rattle.term_words.specs.Counted.{In}
use Rattle.term_words.proofs.Placing.Roles.{record-role}
use Rattle.term_words.proofs.ByKind.Inside.{record-inside}
use Rattle.term_build.specs.Taken.{IsFree, Lie, Taken, of_holder, with_object}
use Rattle.term_build.specs.Parts.{IsRecordOf}
use Rattle.term_build.proofs.Taking.{beside-new, beside-old, holder-object, holder-next, with-object-single, with-object-taken}
use Rattle.shared_rec.specs.Record.{WritesRecord, count_in, record_roles}
use Rattle.shared_rec.proofs.Records.{record-first}
use Rattle.shared_rec.proofs.Rows.{role-past}
use Rattle.off_heap_list.specs.Links.{Links, IsLink, name_place, named, naming, names_it}
use Rattle.off_heap_list.proofs.Chaining.Chained.{holder-link, leads-stays, link-stays, naming-stays, no-naming}
use Rattle.item_build.specs.declared.bins.Making.{Making}
use Rattle.item_build.specs.Building.{IsNewBin, LaidOver, OverBins, RecordedBins, Waits}

-- Its count is one of its words.
pub record-four : (c : ℕ → ℕ → Bool) (mem : List ℕ) (v n : ℕ) → IsRecord c mem v n → v + 2 < v + n
record-four c mem v n (inl (serial, bytes, o, words)) = omega (arith, words)
record-four c mem v n (inr (name, arity, o, words)) = omega (arith, words)

-- A record that stands by one test stood by another where its words have no other roles and are the same.

module _ (c d : ℕ → ℕ → Bool) (old new : List ℕ) (v n : ℕ) (roles : (q k : ℕ) → v ≤ q → q < v + n → OfRecord k → d q k ≡ true → c q k ≡ true) (same : (q : ℕ) → v ≤ q → q < v + n
    → get_or old q 0 ≡ get_or new q 0)
    (inside : v + n ≤ length old) where
  bin-back : (serial : ℕ) (bytes : List ℕ) → n ≡ 4 + bin_words (length bytes) → IsBinRecord d new v serial bytes → IsBinRecord c old v serial bytes
  bin-back serial bytes words o = record {
    within = omega (arith, inside, words);
    header = same v (omega arith) (omega (arith, words)) ∙ o.header;
    owner = same (v + 1) (omega arith) (omega (arith, words)) ∙ o.owner;
    size = same (v + 3) (omega arith) (omega (arith, words)) ∙ o.size;
    content = record { each = λ i a below place. ap (λ x. byte_of x (i % 8)) (same a (omega (arith, place)) (omega (arith, place, below, words))) ∙ o.content.each i a below place };
    first = roles v RECORD_FIRST (omega arith) (omega (arith, words)) (inr (inr refl)) o.first;
    second = roles (v + 1) RECORD (omega arith) (omega (arith, words)) (inr (inl refl)) o.second;
    counted = roles (v + 2) COUNT (omega arith) (omega (arith, words)) (inl refl) o.counted;
    others = λ q from below. roles q RECORD (omega (arith, from)) (omega (arith, below, words)) (inr (inl refl)) (o.others q from below);
  }

  fun-back : (name arity : ℕ) → n ≡ 4 → IsFunRecord d new v name arity → IsFunRecord c old v name arity
  fun-back name arity words o = record {
    named = o.named;
    arity_range = o.arity_range;
    within = omega (arith, inside, words);
    header = same v (omega arith) (omega (arith, words)) ∙ o.header;
    owner = same (v + 1) (omega arith) (omega (arith, words)) ∙ o.owner;
    zero_word = same (v + 3) (omega arith) (omega (arith, words)) ∙ o.zero_word;
    first = roles v RECORD_FIRST (omega arith) (omega (arith, words)) (inr (inr refl)) o.first;
    second = roles (v + 1) RECORD (omega arith) (omega (arith, words)) (inr (inl refl)) o.second;
    counted = roles (v + 2) COUNT (omega arith) (omega (arith, words)) (inl refl) o.counted;
    fourth = roles (v + 3) RECORD (omega arith) (omega (arith, words)) (inr (inl refl)) o.fourth;
  }

  pub record-back : IsRecord d new v n → IsRecord c old v n
  record-back (inl (serial, bytes, o, words)) = inl (serial, bytes, bin-back serial bytes words o, words)
  record-back (inr (name, arity, o, words)) = inr (name, arity, fun-back name arity words o, words)

-- A record stood before, and has its count; or it is new and no object names it.
abbrev pub OldOrNew : (c : ℕ → ℕ → Bool) (old new : List ℕ) (v n : ℕ) → Type 0
OldOrNew c old new v n = (IsRecord c old v n × (count_in new v ≡ count_in old v)) ⊎ ((count_in new v ≡ 0) × (c v RECORD_FIRST ≡ true → ⊥))

module _ (c d : ℕ → ℕ → Bool) (old new : List ℕ) (kept : Kept c d old new) where
  naming-none : (v : ℕ) (os : List ℕ) → (c v RECORD_FIRST ≡ true → ⊥) → ((p : ℕ) → In p os → IsLink c old p) → naming old v os ≡ 0
  naming-none v [] new_one each = refl
  naming-none v (p ∷ os) new_one each =
      let l : IsLink c old p = each p (inl refl) in
      let P : ℕ → Type 0 = λ x. c x RECORD_FIRST ≡ true in
      let first : c (named old p) RECORD_FIRST ≡ true = record-first c old (named old p) l.words l.record_is in
      let which : (named old p ≡ v) ⊎ ((named old p < v) ⊎ (v < named old p)) = grind arith in
      let none : names_it (named old p) v ≡ 0 = elim which [ inl e ↦ absurd (new_one (subst P e first)) | inr far ↦ no-naming (named old p) v far ] in
      omega (arith, none, naming-none v os new_one (λ q inside. each q (inr inside)))

  -- A chain stands still where new records have count 0.
  pub links-grow : ((a : ℕ) → c a NEXT ≡ true → get_or new a 0 ≡ get_or old a 0) → ((v n : ℕ) → IsRecord d new v n → OldOrNew c old new v n)
      → (head : ℕ) (os further : List ℕ) → Links c old head os further → Links d new head os further
  links-grow nexts records head os further l = record {
    chain = leads-stays old new head os 0 (λ p inside. nexts (p + 2) (l.each p inside).next) l.chain;
    once = l.once;
    each = λ p inside. link-stays c d old new p kept (l.each p inside);
    beside = λ p inside. link-stays c d old new p kept (l.beside p inside);
    counts = λ v n s.
        let here : naming new v os ≡ naming old v os = naming-stays c d old new v os kept l.each in
        let there : naming new v further ≡ naming old v further = naming-stays c d old new v further kept l.beside in
        elim (records v n s) [
          | inl was ↦ was.1 ∙ (l.counts v n was.0 ∙ omega (arith, here, there))
          | inr is ↦ is.0 ∙ omega (arith, here, there, naming-none v os is.1 l.each, naming-none v further is.1 l.beside)
        ];
  }

-- The roles of a record's words.

pub roles-of-record : (j : ℕ) → OfRecord (record_roles j)
roles-of-record zero = inr (inr refl)
roles-of-record (suc zero) = inr (inl refl)
roles-of-record (suc (suc zero)) = inl refl
roles-of-record (suc (suc (suc j))) = let P : ℕ → Type 0 = λ k. OfRecord k in subst P (sym (role-past (suc (suc (suc j))) (omega arith))) (inr (inl refl))

first-of-record : (j : ℕ) → record_roles j ≡ RECORD_FIRST → j ≡ 0
first-of-record zero e = refl
first-of-record (suc zero) e = absurd (omega (arith, e))
first-of-record (suc (suc zero)) e = absurd (omega (arith, e))
first-of-record (suc (suc (suc j))) e = absurd (omega (arith, e, role-past (suc (suc (suc j))) (omega arith)))

-- What a test with an object beside it tells: the old test off its words, the object's role on them.
pub object-tells : (roles : ℕ → ℕ) (c : ℕ → ℕ → Bool) (top n a k : ℕ) → with_object roles c top n a k ≡ true
    → (((a < top) ⊎ (top + n ≤ a)) × (c a k ≡ true)) ⊎ ((top ≤ a) × ((a < top + n) × (roles (a - top) ≡ k)))
object-tells roles c top n a k h =
    let which : (a < top) ⊎ ((top + n ≤ a) ⊎ ((top ≤ a) × (a < top + n))) = grind arith in
    elim which [
      | inl low ↦ inl (inl low, sym (beside-old roles c top n a k (inl low)) ∙ h)
      | inr (inl high) ↦ inl (inr high, sym (beside-old roles c top n a k (inr high)) ∙ h)
      | inr (inr inside) ↦ inr (inside.0, (inside.1, beside-new roles c top n a k inside.0 inside.1 h))
    ]

-- The record that a holder names, by its words.
pub named-rec : (mem : List ℕ) (top n rec : ℕ) → Lie mem top (head_word HOLDER 5 ∷ n ∷ 0 ∷ rec ∷ 0 ∷ 0 ∷ []) → named mem top ≡ rec
named-rec mem top n rec lie =
    let first : get_or mem top 0 ≡ head_word HOLDER 5 = lie.each 0 top (omega arith) (omega arith) in
    let place : name_place mem top ≡ top + 3 = rw first refl in
    ap (λ q. get_or mem q 0) place ∙ lie.each 3 (top + 3) (omega arith) (omega arith)

-- Words off the room are as before.

pub chained-len : (m2 m3 : List ℕ) (top head : ℕ) → m3 ≡ set (set m2 (named m2 top + 2) (count_in m2 (named m2 top) + 1)) (top + 2) head → length m3 ≡ length m2
chained-len m2 m3 top head w3 =
    omega (
      arith,
      ap length w3,
      length-set (set m2 (named m2 top + 2) (count_in m2 (named m2 top) + 1)) (top + 2) head,
      length-set m2 (named m2 top + 2) (count_in m2 (named m2 top) + 1),
    )

pub chained-others : (m2 m3 : List ℕ) (top rec head : ℕ) → named m2 top ≡ rec → m3 ≡ set (set m2 (named m2 top + 2) (count_in m2 (named m2 top) + 1)) (top + 2) head
    → (q : ℕ) → (q ≡ top + 2 → ⊥) → (q ≡ rec + 2 → ⊥) → get_or m3 q 0 ≡ get_or m2 q 0
chained-others m2 m3 top rec head name w3 q a b =
    let P : ℕ → Type 0 = λ r. q ≡ r + 2 → ⊥ in
    let apart : q ≡ named m2 top + 2 → ⊥ = subst P (sym name) b in
    ap (λ z. get_or z q 0) w3
    ∙ get_or-set_other (set m2 (named m2 top + 2) (count_in m2 (named m2 top) + 1)) (top + 2) q head 0 a
    ∙ get_or-set_other m2 (named m2 top + 2) q (count_in m2 (named m2 top) + 1) 0 apart

-- Words that are free are so as far as a holder goes.
pub free-front : (c : ℕ → ℕ → Bool) (top limit : ℕ) → IsFree c top limit → top + 6 ≤ limit → IsFree c top (top + 6)
free-front c top limit free fits a k h = elim (free a k h) [ inl low ↦ inl low | inr high ↦ inr (omega (arith, high, fits)) ]

-- A holder is laid at `top` over a record that waits, and chained.
module _ (c : ℕ → ℕ → Bool) (shared : List (List ℕ)) (top n rec serial head : ℕ) (m1 m2 m3 : List ℕ)
    (free : IsFree c top (top + 6)) (somewhere : 0 < top) (there : IsRecordOf c shared m1 rec n (serial + 1)) (zero_count : count_in m1 rec ≡ 0) (idle : Idle c (rec + 2))
    (len2 : length m2 ≡ length m1) (w2 : (q : ℕ) → (q < top) ⊎ (top + 6 ≤ q) → get_or m2 q 0 ≡ get_or m1 q 0)
    (lie2 : Lie m2 top (head_word HOLDER 5 ∷ n ∷ 0 ∷ rec ∷ 0 ∷ 0 ∷ []))
    (made2 : (d : ℕ → ℕ → Bool) → Taken of_holder c d top 6 → Stands d shared m2 (boxed_word top) (Shared (serial + 1)))
    (w3 : m3 ≡ set (set m2 (named m2 top + 2) (count_in m2 (named m2 top) + 1)) (top + 2) head)
    (kept3 : (c : ℕ → ℕ → Bool) → Idle c (top + 2) → Idle c (named m2 top + 2) → Keeps c c m2 m3)
    (links3 : (c : ℕ → ℕ → Bool) (os further : List ℕ) → IsSingle c → Links c m2 head os further → IsLink c m2 top → (In top os → ⊥) → Links c m3 top (top ∷ os) further) where
  abbrev pub with_holder : ℕ → ℕ → Bool
  with_holder = with_object of_holder c top 6

  taken : Taken of_holder c with_holder top 6
  taken = with-object-taken of_holder c top 6 free

  -- Where roles are.
  tells : (a k : ℕ) → with_holder a k ≡ true → ((c a k ≡ true) × ((a < top) ⊎ (top + 6 ≤ a))) ⊎ ((top ≤ a) × ((a < top + 6) × (of_holder (a - top) ≡ k)))
  tells a k h = elim (object-tells of_holder c top 6 a k h) [ inr inner ↦ inr inner | inl (off, old) ↦ inl (old, free a k old) ]

  rec-off : (rec + 2 < top) ⊎ (top + 6 ≤ rec + 2)
  rec-off = free (rec + 2) COUNT there.record_is.counted

  named-is : named m2 top ≡ rec
  named-is = named-rec m2 top n rec lie2

  other3 : (q : ℕ) → (q ≡ top + 2 → ⊥) → (q ≡ rec + 2 → ⊥) → get_or m3 q 0 ≡ get_or m2 q 0
  other3 q a b = chained-others m2 m3 top rec head named-is w3 q a b

  len3 : length m3 ≡ length m1
  len3 = omega (arith, chained-len m2 m3 top head w3, len2)

  pub held-others : (q : ℕ) → (q < top) ⊎ (top + 6 ≤ q) → (q ≡ rec + 2 → ⊥) → get_or m3 q 0 ≡ get_or m1 q 0
  held-others q apart not_count = other3 q (λ e. elim apart [ inl low ↦ omega (arith, e, low) | inr high ↦ omega (arith, e, high) ]) not_count ∙ w2 q apart

  count3 : count_in m3 rec ≡ 1
  count3 =
      let apart : rec + 2 ≡ top + 2 → ⊥ = λ e. elim rec-off [ inl low ↦ omega (arith, e, low) | inr high ↦ omega (arith, e, high) ] in
      let at : rec + 2 ≡ named m2 top + 2 = ap (λ z. z + 2) (sym named-is) in
      let zero2 : count_in m2 rec ≡ 0 = w2 (rec + 2) rec-off ∙ zero_count in
      ap (λ z. get_or z (rec + 2) 0) w3
      ∙ get_or-set_other (set m2 (named m2 top + 2) (count_in m2 (named m2 top) + 1)) (top + 2) (rec + 2) head 0 apart
      ∙ get_or-set_at m2 (named m2 top + 2) (rec + 2) (count_in m2 (named m2 top) + 1) 0 at (omega (arith, named-is, len2, there.record_is.within))
      ∙ ap (λ z. z + 1) (ap (λ z. count_in m2 z) named-is ∙ zero2)

  -- The holder stands.

  idle-next : Idle with_holder (top + 2)
  idle-next k content h = elim (tells (top + 2) k h) [
    | inl (old, inl low) ↦ omega (arith, low)
    | inl (old, inr high) ↦ omega (arith, high)
    | inr inner ↦ next-alone (top + 2 - top) k (omega arith) inner.1.1 content
  ]
    where
      next-alone : (j k : ℕ) → j ≡ 2 → of_holder j ≡ k → IsContent k → ⊥
      next-alone j k two e content = let P : ℕ → Type 0 = λ z. of_holder z ≡ k in let at : of_holder 2 ≡ k = subst P two e in omega (arith, at, content)

  idle-count : Idle with_holder (rec + 2)
  idle-count k content h = elim (tells (rec + 2) k h) [
    | inl (old, off) ↦ idle k content old
    | inr inner ↦ elim rec-off [ inl low ↦ omega (arith, low, inner.0) | inr high ↦ omega (arith, high, inner.1.0) ]
  ]

  stands2 : Stands with_holder shared m2 (boxed_word top) (Shared (serial + 1))
  stands2 = made2 with_holder taken

  stands3 : Stands with_holder shared m3 (boxed_word top) (Shared (serial + 1))
  stands3 =
      let P : ℕ → Type 0 = λ z. Idle with_holder (z + 2) in
      (kept3 with_holder idle-next (subst P (sym named-is) idle-count)).each shared (boxed_word top) (Shared (serial + 1)) stands2

  same2 : (a k : ℕ) → c a k ≡ true → get_or m2 a 0 ≡ get_or m1 a 0
  same2 a k h = w2 a (free a k h)

  kept2 : Kept c with_holder m1 m2
  kept2 = record { longer = omega (arith, len2); weaker = taken.more; same = λ a k content h. same2 a k h }

  -- Records are as before.

  old-role : (a k : ℕ) → OfRecord k → with_holder a k ≡ true → c a k ≡ true
  old-role a k of h = elim (tells a k h) [
    | inl old ↦ old.0
    | inr inner ↦ absurd (elim (holder-object (a - top)) [
      | inl next ↦ elim of [ inl e ↦ omega (arith, next, inner.1.1, e) | inr (inl e) ↦ omega (arith, next, inner.1.1, e) | inr (inr e) ↦ omega (arith, next, inner.1.1, e) ]
      | inr range ↦ elim of [ inl e ↦ omega (arith, range, inner.1.1, e) | inr (inl e) ↦ omega (arith, range, inner.1.1, e) | inr (inr e) ↦ omega (arith, range, inner.1.1, e) ]
    ])
  ]

  records2 : (v m : ℕ) → IsRecord with_holder m2 v m → OldOrNew c m1 m2 v m
  records2 v m s =
      let same : (q : ℕ) → v ≤ q → q < v + m → get_or m1 q 0 ≡ get_or m2 q 0 = λ q from below.
      let role = record-role with_holder m2 v m q s from below in sym (same2 q role.0 (old-role q role.0 role.1.0 role.1.1)) in
      inl (
        record-back c with_holder m1 m2 v m (λ q k from below of h. old-role q k of h) same (omega (arith, record-inside with_holder m2 v m s, len2)) s,
        sym (same (v + 2) (omega arith) (record-four with_holder m2 v m s)),
      )

  links-one : (os further : List ℕ) → IsSingle c → Links c m1 head os further → Links with_holder m3 top (top ∷ os) further
  links-one os further single l =
      let at : boxed_word top / 4 ≡ top = omega arith in
      let P : ℕ → Type 0 = λ z. IsLink with_holder m2 z in
      let link : IsLink with_holder m2 top = subst P at (holder-link with_holder shared m2 (boxed_word top) (serial + 1) stands2 (omega (arith, at, somewhere))) in
      links3 with_holder os further (with-object-single of_holder c top 6 single) (links-grow c with_holder m1 m2 kept2 (λ a h. same2 a NEXT h) records2 head os further l) link
      (λ inside. elim (free top FIRST (l.each top inside).first) [ inl low ↦ omega (arith, low) | inr high ↦ omega (arith, high) ])

  -- One holder is laid.
  held-one : LaidOver c with_holder shared top (top + 6) m1 m3 (rec ∷ []) head top serial 1
  held-one =
      let Q : ℕ → Type 0 = λ p. (os further : List ℕ) → IsSingle c → Links c m1 head os further → Links with_holder m3 top (p ∷ os) further in
      let name_off : top + 3 ≡ rec + 2 → ⊥ = λ e. elim rec-off [ inl low ↦ omega (arith, e, low) | inr high ↦ omega (arith, e, high) ] in
      let name : get_or m3 (top + 3) 0 ≡ rec = other3 (top + 3) (λ z. omega (arith, z)) name_off ∙ lie2.each 3 (top + 3) (omega arith) (omega arith) in
      let here : IsNewBin with_holder shared m3 top (serial + 1) = record { holder = stands3; counted = ap (λ z. count_in m3 z) name ∙ count3 } in
      record {
        more = taken.more;
        within = λ q k h. elim (tells q k h) [ inl old ↦ inl old.0 | inr inner ↦ inr (inner.0, (inner.1.0, subst OfObject inner.1.1 (holder-object (q - top)))) ];
        single = with-object-single of_holder c top 6;
        kept = record {
          longer = omega (arith, len3);
          weaker = taken.more;
          same = λ q k content h. held-others q (free q k h) (λ e. let R : ℕ → Type 0 = λ z. c z k ≡ true in idle k content (subst R e h));
        };
        bins = λ i below.
            let P : ℕ → Type 0 = λ p. IsNewBin with_holder shared m3 p (serial + 1) in
            let R : ℕ → Type 0 = λ id. IsNewBin with_holder shared m3 (top + 6 * i) id in
            let place : top ≡ top + 6 * i = omega (arith, below) in
            let id : serial + 1 ≡ serial + suc i = omega (arith, below) in
            subst R id (subst P place here);
        names = λ i below.
            let zero_i : 0 ≡ i = omega (arith, below) in
            let P : ℕ → Type 0 = λ j. get_or m3 (top + 6 * j + 3) 0 ≡ get_or (rec ∷ []) j 0 in
            let place : top + 6 * 0 + 3 ≡ top + 3 = omega arith in
            subst P zero_i (ap (λ z. get_or m3 z 0) place ∙ name);
        nexts = λ q h. elim (tells q NEXT h) [ inl old ↦ inl old.0 | inr inner ↦ inr (0, (omega arith, omega (arith, inner.0, holder-next (q - top) inner.1.1))) ];
        links = let place : top ≡ top + 6 * 0 = omega arith in subst Q place links-one;
      }

  pub held-bin : (to : ℕ) (was is : Making) → to ≡ top + 6 → was.head ≡ head → was.serial ≡ serial → is.head ≡ top → OverBins c shared top to m1 m3 (rec ∷ []) was is 1
  held-bin to was is e old_head old_serial new_head =
      let P : ℕ → Type 0 = λ h. LaidOver c with_holder shared top to m1 m3 (rec ∷ []) h is.head was.serial 1 in
      let Q : ℕ → Type 0 = λ h. LaidOver c with_holder shared top to m1 m3 (rec ∷ []) head h was.serial 1 in
      let R : ℕ → Type 0 = λ k. LaidOver c with_holder shared top to m1 m3 (rec ∷ []) head top k 1 in
      let S : ℕ → Type 0 = λ t. LaidOver c with_holder shared top t m1 m3 (rec ∷ []) head top serial 1 in
      record { test = with_holder; laid = subst P (sym old_head) (subst Q (sym new_head) (subst R (sym old_serial) (subst S (sym e) held-one))) }

-- A record is written between two places: roles grow.
module _ (c : ℕ → ℕ → Bool) (shared : List (List ℕ)) (top size rec limit serial : ℕ) (bytes : List ℕ) (m0 m1 : List ℕ)
    (free : IsFree c top limit) (fits : top < rec) (ends : rec + size ≡ limit) (four : 4 ≤ size)
    (w1 : WritesRecord rec limit m0 m1) (made1 : (c d : ℕ → ℕ → Bool) → Taken record_roles c d rec size → IsBinRecord d m1 rec (serial + 1) bytes) (zero_count : count_in m1 rec ≡ 0)
    (is : shared_bytes shared (serial + 1) ≡ bytes) where
  abbrev with_record : ℕ → ℕ → Bool
  with_record = with_object record_roles c rec size

  taken-there : Taken record_roles c with_record rec size
  taken-there = with-object-taken record_roles c rec size (λ a k h. elim (free a k h) [ inl low ↦ inl (omega (arith, low, fits)) | inr high ↦ inr (omega (arith, high, ends)) ])

  where-roles : (a k : ℕ) → with_record a k ≡ true → ((c a k ≡ true) × ((a < top) ⊎ (limit ≤ a))) ⊎ ((rec ≤ a) × ((a < limit) × (record_roles (a - rec) ≡ k)))
  where-roles a k h = elim (object-tells record_roles c rec size a k h) [ inr inner ↦ inr (inner.0, (omega (arith, inner.1.0, ends), inner.1.1)) | inl (off, old) ↦ inl (old, free a k old) ]

  same-off : (q : ℕ) → (q < top) ⊎ (limit ≤ q) → get_or m1 q 0 ≡ get_or m0 q 0
  same-off q apart = w1.others q (elim apart [ inl low ↦ inl (omega (arith, low, fits)) | inr high ↦ inr high ])

  kept-there : Kept c with_record m0 m1
  kept-there = record { longer = omega (arith, w1.same_len); weaker = taken-there.more; same = λ a k content h. same-off a (free a k h) }

  low-record : (v n : ℕ) → IsRecord with_record m1 v n → v < top → v + n ≤ top
  low-record v n s low =
      let which : (v + n ≤ top) ⊎ (top < v + n) = grind arith in
      elim which [
        | inl fine ↦ fine
        | inr past ↦
            let role = record-role with_record m1 v n top s (omega (arith, low)) past in
            absurd (elim (where-roles top role.0 role.1.1) [
              | inl (old, inl under) ↦ omega (arith, under)
              | inl (old, inr high) ↦ omega (arith, high, fits, ends)
              | inr inner ↦ omega
                  (arith, inner.0, fits)
            ])
      ]

  old-record : (v n : ℕ) → IsRecord with_record m1 v n → ((v < top) × (v + n ≤ top)) ⊎ (limit ≤ v) → IsRecord c m0 v n × (count_in m1 v ≡ count_in m0 v)
  old-record v n s apart =
      let off : (q : ℕ) → v ≤ q → q < v + n → (q < top) ⊎ (limit ≤ q) = λ q from below. elim apart [ inl low ↦ inl (omega (arith, below, low.1)) | inr high ↦ inr (omega (arith, from, high)) ] in
      let old_role : (q k : ℕ) → v ≤ q → q < v + n → OfRecord k → with_record q k ≡ true → c q k ≡ true = λ q k from below of h. elim (where-roles q k h) [
        | inl old ↦ old.0
        | inr inner ↦ absurd (elim (off q from below) [ inl low ↦ omega (arith, low, inner.0, fits) | inr high ↦ omega (arith, high, inner.1.0) ])
      ] in (
        record-back c with_record m0 m1 v n old_role (λ q from below. sym (same-off q (off q from below))) (omega (arith, record-inside with_record m1 v n s, w1.same_len)) s,
        same-off (v + 2) (off (v + 2) (omega arith) (record-four with_record m1 v n s)),
      )

  records-there : (v n : ℕ) → IsRecord with_record m1 v n → OldOrNew c m0 m1 v n
  records-there v n s = elim (where-roles v RECORD_FIRST (record-first with_record m1 v n s)) [
    | inl (old, inl low) ↦ inl (old-record v n s (inl (low, low-record v n s low)))
    | inl (old, inr high) ↦ inl (old-record v n s (inr high))
    | inr inner ↦
        let at : v ≡ rec = omega (arith, first-of-record (v - rec) inner.1.1, inner.0) in
        let P : ℕ → Type 0 = λ z. (count_in m1 z ≡ 0) × (c z RECORD_FIRST ≡ true → ⊥) in
        inr (subst P (sym at) (zero_count, λ h. elim (free rec RECORD_FIRST h) [ inl low ↦ omega (arith, low, fits) | inr high ↦ omega (arith, high, ends, four) ]))
  ]

  -- One record is laid.
  pub recorded-one : (x y : Room) (row : List ℕ) → x.top ≡ top → x.end ≡ limit → y.end ≡ rec → rec ≡ get_or row 0 0 → RecordedBins c shared x y m0 m1 row serial 1
  recorded-one x y row a b f at = record {
    test = with_record;
    laid = record {
      more = taken-there.more;
      within = λ q k h. elim (where-roles q k h) [
        | inl old ↦ inl old.0
        | inr inner ↦ inr (omega (arith, inner.0, f), (omega (arith, inner.1.0, b), subst OfRecord inner.1.1 (roles-of-record (q - rec))))
      ];
      single = with-object-single record_roles c rec size;
      kept = kept-there;
      each = λ i below.
          let P : ℕ → Type 0 = λ v. Waits with_record shared m1 v (serial + 1) in
          let Q : ℕ → Type 0 = λ id. Waits with_record shared m1 (get_or row i 0) id in
          let place : rec ≡ get_or row i 0 = at ∙ (let zero_i : 0 ≡ i = omega (arith, below) in ap (λ j. get_or row j 0) zero_i) in
          let id : serial + 1 ≡ serial + suc i = omega (arith, below) in
          subst Q id (subst P place here);
      fresh = λ i below.
          let place : rec ≡ get_or row i 0 = at ∙ (let zero_i : 0 ≡ i = omega (arith, below) in ap (λ j. get_or row j 0) zero_i) in
          (omega (arith, place, f), omega (arith, place, ends, four, b));
      records = λ v h. elim (where-roles v RECORD_FIRST h) [
        | inl old ↦ inl old.0
        | inr inner ↦ (let is_rec : v ≡ rec = omega (arith, first-of-record (v - rec) inner.1.1, inner.0) in inr (0, (omega arith, is_rec ∙ at)))
      ];
      links = λ head os further l. links-grow c with_record m0 m1 kept-there (λ a h. same-off a (free a NEXT h)) records-there head os further l;
    };
  }
    where
      count-alone : (j k : ℕ) → j ≡ 2 → record_roles j ≡ k → IsContent k → ⊥
      count-alone j k two e content = let P : ℕ → Type 0 = λ z. record_roles z ≡ k in let here : record_roles 2 ≡ k = subst P two e in omega (arith, here, content)

      here : Waits with_record shared m1 rec (serial + 1)
      here =
          let P : List ℕ → Type 0 = λ z. IsBinRecord with_record m1 rec (serial + 1) z in
          record {
            standing = subst P (sym is) (made1 c with_record taken-there);
            count = zero_count;
            idle = λ k content h. elim (where-roles (rec + 2) k h) [
              | inl (old, inl low) ↦ omega (arith, low, fits)
              | inl (old, inr high) ↦ omega (arith, high, ends, four)
              | inr inner ↦ count-alone (rec + 2 - rec) k (omega arith) inner.1.1 content
            ];
          }
