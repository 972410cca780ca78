-- A sweep goes on: the next object joins the new chain, or the count of its record is lowered.
use Rattle.std.proofs.Common.{◌≡◌, ℕ, ◌+◌, ◌-◌, ◌/◌, ◌%◌, ◌<◌, ◌≤◌, ◌⊎◌, ◌==◌, if◌then◌else◌, Bool, true, false, List, [], ◌∷◌, Option, Some, None, length, get_or, set}
use Rattle.std.proofs.Common.{true≢false, refl, sym, ◌∙◌, ap, subst, arith, inl, inr, length-set, get_or-set_other}
use Rattle.std.proofs.lemmas.Bool.{cases_Bool}
use Rattle.std.specs.Option.{is_some}
use Rattle.std.proofs.lemmas.Bool.Decides.{nat_tests}
use Rattle.std.proofs.lemmas.Grind.{get_or-set_at}
use Rattle.term_words.specs.Role.{NEXT, COUNT, IsSingle}
use Rattle.term_words.specs.Object.{IsRecord}
use Rattle.term_words.specs.Kept.{Kept, Keeps}
use Rattle.term_words.specs.Counted.{In, Distinct}
use Rattle.term_words.proofs.Framing.Frames.{frame}
use Rattle.shared_rec.specs.Record.{count_in}
use Rattle.shared_rec.proofs.Records.{record-stays, record-counted}
use Rattle.off_heap_list.specs.Links.{names_it, name_place, named, Leads, Chain, naming, IsLink, Links}
use Rattle.off_heap_list.specs.Swept.{is_moved, new_place, count_less, freed_at, lies_at, lying, named_records, IsReadAt, kept_after, ends_after, left_behind, Relinked, IsOld, IsLast, FrontSweeping, Since}
use Rattle.off_heap_list.proofs.Chaining.Chained.{roles-apart, kept-then, place-same, link-named, link-stays, naming-stays, leads-stays, one-naming, no-naming, record-inside}

-- Content is kept where only words `next`, counts, and words of old objects without a role were written, forwards and back.

pub relinked-kept : (c : ℕ → ℕ → Bool) (os old new : List ℕ) → IsSingle c → ((p k : ℕ) → In p os → c (p + 2) k ≡ true → ⊥) → Relinked c os old new → Kept c c old new
relinked-kept c os old new single none r = record {
  longer = omega (arith, r.same_len);
  weaker = λ q k h. h;
  same = λ q k content h. r.same q (λ n. omega (arith, content, single.one q k NEXT h n)) (λ n. omega (arith, content, single.one q k COUNT h n))
      (λ p inside e. let P : ℕ → Type 0 = λ x. c x k ≡ true in none p k inside (subst P e h));
}

pub relinked-back : (c : ℕ → ℕ → Bool) (os old new : List ℕ) → IsSingle c → ((p k : ℕ) → In p os → c (p + 2) k ≡ true → ⊥) → Relinked c os old new → Kept c c new old
relinked-back c os old new single none r = record {
  longer = omega (arith, r.same_len);
  weaker = λ q k h. h;
  same = λ q k content h. sym (r.same q (λ n. omega (arith, content, single.one q k NEXT h n)) (λ n. omega (arith, content, single.one q k COUNT h n))
      (λ p inside e. let P : ℕ → Type 0 = λ x. c x k ≡ true in none p k inside (subst P e h)));
}

pub relinked-keeps : (c : ℕ → ℕ → Bool) (os old new : List ℕ) → IsSingle c → ((p k : ℕ) → In p os → c (p + 2) k ≡ true → ⊥) → Relinked c os old new → Keeps c c old new
relinked-keeps c os old new single none r = frame c c old new (relinked-kept c os old new single none r)

pub relinked-then : (c : ℕ → ℕ → Bool) (os x y z : List ℕ) → Relinked c os x y → Relinked c os y z → Relinked c os x z
relinked-then c os x y z a b = record { same_len = b.same_len ∙ a.same_len; same = λ q n k w. b.same q n k w ∙ a.same q n k w }

pub relinked-wider : (c : ℕ → ℕ → Bool) (os all x y : List ℕ) → ((p : ℕ) → In p os → In p all) → Relinked c os x y → Relinked c all x y
relinked-wider c os all x y more a = record { same_len = a.same_len; same = λ q n k w. a.same q n k (λ p inside. w p (more p inside)) }

pub relinked-next : (c : ℕ → ℕ → Bool) (os mem : List ℕ) (a v : ℕ) → c a NEXT ≡ true → Relinked c os mem (set mem a v)
relinked-next c os mem a v h = record {
  same_len = length-set mem a v;
  same = λ q n k w. get_or-set_other mem a q v 0 (λ e. let P : ℕ → Type 0 = λ x. c x NEXT ≡ true in n (subst P (sym e) h));
}

pub relinked-count : (c : ℕ → ℕ → Bool) (os mem : List ℕ) (a v : ℕ) → c a COUNT ≡ true → Relinked c os mem (set mem a v)
relinked-count c os mem a v h = record {
  same_len = length-set mem a v;
  same = λ q n k w. get_or-set_other mem a q v 0 (λ e. let P : ℕ → Type 0 = λ x. c x COUNT ≡ true in k (subst P (sym e) h));
}

pub relinked-old : (c : ℕ → ℕ → Bool) (os mem : List ℕ) (p v : ℕ) → In p os → Relinked c os mem (set mem (p + 2) v)
relinked-old c os mem p v inside = record { same_len = length-set mem (p + 2) v; same = λ q n k w. get_or-set_other mem (p + 2) q v 0 (λ e. w p inside e) }

-- The words by which an object is read but for its `next` are the same.
pub record SameObject (old new : List ℕ) (q : ℕ) : Type 0 where
  pub first : get_or new q 0 ≡ get_or old q 0
  pub name : get_or new (name_place old q) 0 ≡ get_or old (name_place old q) 0

module _ (old new : List ℕ) (q : ℕ) (x : SameObject old new q) where
  pub moved-same : is_moved new q ≡ is_moved old q
  moved-same = ap (λ y. y % 4 == 2) x.first

  place-stays : new_place new q ≡ new_place old q
  place-stays = ap (λ y. y / 4) x.first

  lies-same : lies_at new q ≡ lies_at old q
  lies-same = ap (λ y. if y % 4 == 2 then y / 4 else q) x.first

  name-same : name_place new q ≡ name_place old q
  name-same = place-same old new q x.first

  pub named-same : named new q ≡ named old q
  named-same = ap (λ y. get_or new y 0) name-same ∙ x.name

  read-same : (a : ℕ) → IsReadAt new q a → IsReadAt old q a
  read-same a (inl e) = inl e
  read-same a (inr (inl e)) = inr (inl e)
  read-same a (inr (inr e)) = inr (inr (e ∙ name-same))

  read-back : (a : ℕ) → IsReadAt old q a → IsReadAt new q a
  read-back a (inl e) = inl e
  read-back a (inr (inl e)) = inr (inl e)
  read-back a (inr (inr e)) = inr (inr (e ∙ sym name-same))

  pub old-stays : (c : ℕ → ℕ → Bool) → Kept c c old new → IsOld c old q → IsOld c new q
  old-stays c k o =
      let P : ℕ → Type 0 = λ y. IsLink c new y in
      let Q : ℕ → Type 0 = λ v. IsRecord c new v o.words in
      record {
        somewhere = o.somewhere;
        within = omega (arith, o.within, k.longer);
        none = λ a j at. o.none a j (read-same a at);
        moved = λ h. subst P (sym place-stays) (link-stays c c old new (new_place old q) k (o.moved (sym moved-same ∙ h)));
        words = o.words;
        left = λ h. subst Q (sym named-same) (record-stays c c old new (named old q) o.words k (o.left (sym moved-same ∙ h)));
      }

  -- What an object names, wherever it lies.
  lies-named : (c : ℕ → ℕ → Bool) (b : Bool) → is_moved old q ≡ b → Kept c c old new → IsOld c old q
      → named new (if b then new_place old q else q) ≡ named old (if b then new_place old q else q)
  lies-named c true is k o = link-named c c old new (new_place old q) k (o.moved is)
  lies-named c false is k o = named-same

module _ (old new : List ℕ) where
  lying-same : (os : List ℕ) → ((q : ℕ) → In q os → SameObject old new q) → lying new os ≡ lying old os
  lying-same [] each = refl
  lying-same (q ∷ os) each =
      ap (λ x. x ∷ lying new os) (lies-same old new q (each q (inl refl))) ∙ ap (λ xs. lies_at old q ∷ xs) (lying-same os (λ r inside. each r (inr inside)))

  pub records-same : (os : List ℕ) → ((q : ℕ) → In q os → SameObject old new q) → named_records new os ≡ named_records old os
  records-same [] each = refl
  records-same (q ∷ os) each =
      ap (λ x. x ∷ named_records new os) (named-same old new q (each q (inl refl))) ∙ ap (λ xs. named old q ∷ xs) (records-same os (λ r inside. each r (inr inside)))

  lying-naming : (c : ℕ → ℕ → Bool) (v : ℕ) (os : List ℕ) → Kept c c old new → ((q : ℕ) → In q os → SameObject old new q) → ((q : ℕ) → In q os → IsOld c old q)
      → naming new v (lying old os) ≡ naming old v (lying old os)
  lying-naming c v [] k each olds = refl
  lying-naming c v (q ∷ os) k each olds =
      ap (λ x. names_it x v + naming new v (lying old os)) (lies-named old new q (each q (inl refl)) c (is_moved old q) refl k (olds q (inl refl)))
      ∙ ap (λ n. names_it (named old (lies_at old q)) v + n) (lying-naming c v os k (λ r inside. each r (inr inside)) (λ r inside. olds r (inr inside)))

lying-has : (mem : List ℕ) (p : ℕ) (os : List ℕ) → In p os → In (lies_at mem p) (lying mem os)
lying-has mem p [] inside = inside
lying-has mem p (q ∷ os) (inl e) = inl (ap (λ x. lies_at mem x) e)
lying-has mem p (q ∷ os) (inr deep) = inr (lying-has mem p os deep)

pub lies-moved : (mem : List ℕ) (p : ℕ) → is_moved mem p ≡ true → lies_at mem p ≡ new_place mem p
lies-moved mem p is = ap (λ b. if b then new_place mem p else p) is

pub lies-left : (mem : List ℕ) (p : ℕ) → is_moved mem p ≡ false → lies_at mem p ≡ p
lies-left mem p is = ap (λ b. if b then new_place mem p else p) is

-- A record of the list is named by one of its objects.
record-named : (mem : List ℕ) (v : ℕ) (os : List ℕ) → In v (named_records mem os) → (p : ℕ) × (In p os × (named mem p ≡ v))
record-named mem v [] inside = absurd inside
record-named mem v (p ∷ os) (inl e) = (p, (inl refl, sym e))
record-named mem v (p ∷ os) (inr deep) = let (q, (inside, e)) = record-named mem v os deep in (q, (inr inside, e))

-- The next object's record counts it.
module _ (c : ℕ → ℕ → Bool) (mem : List ℕ) (head p : ℕ) (os : List ℕ) (to first : ℕ) (kept : List ℕ) (last : ℕ) (ends further : List ℕ)
    (s : FrontSweeping c mem head (p ∷ os) to first kept last ends further) where
  is-counted : is_moved mem p ≡ false → 1 ≤ count_in mem (named mem p)
  is-counted is =
      let o : IsOld c mem p = s.old p (inl refl) in
      let was : get_or mem (named mem p + 2) 0 ≡ names_it (named mem (lies_at mem p)) (named mem p) + naming mem (named mem p) (lying mem os) + naming mem (named mem p) kept
      + naming mem (named mem p) further = s.counts (named mem p) o.words (o.left is) in
      let one : names_it (named mem (lies_at mem p)) (named mem p) ≡ 1 = one-naming (named mem (lies_at mem p)) (named mem p) (ap (λ x. named mem x) (lies-left mem p is)) in
      omega (arith, was, one)

  -- No other object is this one.

  rest-differs : (q : ℕ) → In q os → q ≡ p → ⊥
  rest-differs q inside e =
      let T : ℕ → Type 0 = λ x. In (lies_at mem x) (lying mem os) in
      s.apart.0 (subst T e (lying-has mem q os inside))

  ends-differ : (q : ℕ) → In q ends → q ≡ p → ⊥
  ends-differ q inside e =
      let l : IsLast c mem q = s.freed q inside in
      let A : ℕ → Type 0 = λ x. is_moved mem x ≡ false in
      let B : ℕ → Type 0 = λ x. count_in mem (named mem x) ≡ 0 in
      omega (arith, is-counted (subst A e l.left), subst B e l.freed)

  no-role : (x k : ℕ) → In x (p ∷ []) → c (x + 2) k ≡ true → ⊥
  no-role x k (inl e) h = let P : ℕ → Type 0 = λ y. c (y + 2) k ≡ true in (s.old p (inl refl)).none (p + 2) k (inr (inl refl)) (subst P e h)
  no-role x k (inr i) h = i

-- What a step leaves of a sweep, but for the new chain and the last namers: the old one's rest, and the namings of both.
module _ (c : ℕ → ℕ → Bool) (old new : List ℕ) (head p : ℕ) (os : List ℕ) (to first : ℕ) (kept : List ℕ) (last : ℕ) (ends further : List ℕ) (single : IsSingle c)
    (r : Relinked c (p ∷ []) old new) (s : FrontSweeping c old head (p ∷ os) to first kept last ends further) where
  step-kept : Kept c c old new
  step-kept = relinked-kept c (p ∷ []) old new single (no-role c old head p os to first kept last ends further s) r

  step-back : Kept c c new old
  step-back = relinked-back c (p ∷ []) old new single (no-role c old head p os to first kept last ends further s) r

  -- The words by which an old object is read are the same, where none is the word `next` of the one that is swept.

  still : (q a : ℕ) → IsOld c old q → IsReadAt old q a → (a ≡ p + 2 → ⊥) → get_or new a 0 ≡ get_or old a 0
  still q a o at far = r.same a (o.none a NEXT at) (o.none a COUNT at) (λ x inside e. elim inside [ inl y ↦ far (e ∙ ap (λ z. z + 2) y) | inr i ↦ i ])

  still-apart : (q a : ℕ) → IsOld c old q → (IsReadAt old q (p + 2) → ⊥) → IsReadAt old q a → get_or new a 0 ≡ get_or old a 0
  still-apart q a o far at = still q a o at (λ e. let P : ℕ → Type 0 = λ x. IsReadAt old q x in far (subst P e at))

  same-here : SameObject old new p
  same-here = record {
    first = still p p (s.old p (inl refl)) (inl refl) (λ e. omega (arith, e));
    name = still p (name_place old p) (s.old p (inl refl)) (inr (inr refl)) (λ e. grind (arith, nat_tests, e));
  }

  rest-apart : (q : ℕ) → In q os → IsReadAt old q (p + 2) → ⊥
  rest-apart q inside = s.alone p q (inl refl) (inl (inr inside)) (rest-differs c old head p os to first kept last ends further s q inside)

  ends-apart : (q : ℕ) → In q ends → IsReadAt old q (p + 2) → ⊥
  ends-apart q inside = s.alone p q (inl refl) (inr inside) (ends-differ c old head p os to first kept last ends further s q inside)

  same-rest : (q : ℕ) → In q os → SameObject old new q
  same-rest q inside = record {
    first = still-apart q q (s.old q (inr inside)) (rest-apart q inside) (inl refl);
    name = still-apart q (name_place old q) (s.old q (inr inside)) (rest-apart q inside) (inr (inr refl));
  }

  same-ends : (q : ℕ) → In q ends → SameObject old new q
  same-ends q inside = record {
    first = still-apart q q (s.freed q inside).old (ends-apart q inside) (inl refl);
    name = still-apart q (name_place old q) (s.freed q inside).old (ends-apart q inside) (inr (inr refl));
  }

  rest-after : Leads new (get_or old (p + 2) 0) os to
  rest-after = leads-stays old new (get_or old (p + 2) 0) os to (λ q inside. still-apart q (q + 2) (s.old q (inr inside)) (rest-apart q inside) (inr (inl refl))) s.rest.1

  old-after : (q : ℕ) → In q os → IsOld c new q
  old-after q inside = old-stays old new q (same-rest q inside) c step-kept (s.old q (inr inside))

  apart-after : Distinct (lying new os)
  apart-after = subst Distinct (sym (lying-same old new os same-rest)) s.apart.1

  fresh-after : (q : ℕ) → In q os → is_moved new q ≡ true → In (new_place new q) kept → ⊥
  fresh-after q inside m hit =
      let P : ℕ → Type 0 = λ x. In x kept in
      s.fresh q (inr inside) (sym (moved-same old new q (same-rest q inside)) ∙ m) (subst P (place-stays old new q (same-rest q inside)) hit)

  alone-after : (a q : ℕ) → In a os → In q os ⊎ In q ends → (q ≡ a → ⊥) → IsReadAt new q (a + 2) → ⊥
  alone-after a q ina (inl inq) far at = s.alone a q (inr ina) (inl (inr inq)) far (read-same old new q (same-rest q inq) (a + 2) at)
  alone-after a q ina (inr inq) far at = s.alone a q (inr ina) (inr inq) far (read-same old new q (same-ends q inq) (a + 2) at)

  naming-rest : (v : ℕ) → naming new v (lying new os) ≡ naming old v (lying old os)
  naming-rest v = ap (λ xs. naming new v xs) (lying-same old new os same-rest) ∙ lying-naming old new c v os step-kept same-rest (λ q inside. s.old q (inr inside))

  naming-kept : (v : ℕ) → naming new v kept ≡ naming old v kept
  naming-kept v = naming-stays c c old new v kept step-kept s.each

  naming-further : (v : ℕ) → naming new v further ≡ naming old v further
  naming-further v = naming-stays c c old new v further step-kept s.beside

  each-after : (q : ℕ) → In q kept → IsLink c new q
  each-after q inside = link-stays c c old new q step-kept (s.each q inside)

  beside-after : (q : ℕ) → In q further → IsLink c new q
  beside-after q inside = link-stays c c old new q step-kept (s.beside q inside)

  gone-after : Chain new last ends
  gone-after = leads-stays old new last ends 0 (λ q inside. still-apart q (q + 2) (s.freed q inside).old (ends-apart q inside) (inr (inl refl))) s.gone

  freed-after : ((q : ℕ) → In q ends → get_or new (named old q + 2) 0 ≡ get_or old (named old q + 2) 0) → (q : ℕ) → In q ends → IsLast c new q
  freed-after zero q inside =
      let l : IsLast c old q = s.freed q inside in
      record {
        old = old-stays old new q (same-ends q inside) c step-kept l.old;
        left = moved-same old new q (same-ends q inside) ∙ l.left;
        freed = ap (λ x. get_or new (x + 2) 0) (named-same old new q (same-ends q inside)) ∙ (zero q inside ∙ l.freed);
      }

  once-after : Distinct (named_records new ends)
  once-after = subst Distinct (sym (records-same old new ends same-ends)) s.freed_once

  before : (v n : ℕ) → IsRecord c new v n
      → get_or old (v + 2) 0 ≡ names_it (named old (lies_at old p)) v + naming old v (lying old os) + naming old v kept + naming old v further
  before v n there = s.counts v n (record-stays c c new old v n step-back there)

  last-counted : (q : ℕ) → In q ends → c (named old q + 2) COUNT ≡ true
  last-counted q inside = let l : IsLast c old q = s.freed q inside in record-counted c old (named old q) l.old.words (l.old.left l.left)

  -- What holds since the beginning.

  since-content : (start : List ℕ) → Since c start old (p ∷ os) ends → Kept c c start new
  since-content start b = kept-then c start old new b.content step-kept

  since-back : (start : List ℕ) → Since c start old (p ∷ os) ends → Kept c c new start
  since-back start b = kept-then c new old start step-back b.back

  since-same : (start : List ℕ) → Since c start old (p ∷ os) ends → (q a : ℕ) → In q os → IsReadAt start q a → get_or new a 0 ≡ get_or start a 0
  since-same start b q a inside at =
      let x : SameObject start old q = record { first = b.same q q (inr inside) (inl refl); name = b.same q (name_place start q) (inr inside) (inr (inr refl)) } in
      still-apart q a (s.old q (inr inside)) (rest-apart q inside) (read-back start old q x a at) ∙ b.same q a (inr inside) at

  since-fewer : (start : List ℕ) → Since c start old (p ∷ os) ends → ((v n : ℕ) → IsRecord c new v n → get_or new (v + 2) 0 ≤ get_or old (v + 2) 0)
      → (v n : ℕ) → IsRecord c new v n → get_or new (v + 2) 0 ≤ get_or start (v + 2) 0
  since-fewer start b down v n there = omega (arith, down v n there, b.fewer v n (record-stays c c new old v n step-back there))

  since-only : (start : List ℕ) → Since c start old (p ∷ os) ends → (q : ℕ) → In q ends → 0 < count_in start (named new q)
  since-only start b q inside = let P : ℕ → Type 0 = λ x. 0 < count_in start x in subst P (sym (named-same old new q (same-ends q inside))) (b.only q inside)

  since-all : (start : List ℕ) → Since c start old (p ∷ os) ends → (v n : ℕ) → IsRecord c new v n → get_or old (v + 2) 0 ≡ 0 → 0 < get_or start (v + 2) 0 → In v (named_records new ends)
  since-all start b v n there zero some =
      let P : List ℕ → Type 0 = λ xs. In v xs in
      subst P (sym (records-same old new ends same-ends)) (b.all v n (record-stays c c new old v n step-back there) zero some)

-- A moved object joins the new chain.
module _ (c : ℕ → ℕ → Bool) (old : List ℕ) (head p : ℕ) (os : List ℕ) (to first : ℕ) (kept : List ℕ) (last : ℕ) (ends further : List ℕ) (single : IsSingle c)
    (is : is_moved old p ≡ true) (s : FrontSweeping c old head (p ∷ os) to first kept last ends further) where
  new-link : IsLink c old (new_place old p)
  new-link = (s.old p (inl refl)).moved is

  moved-relinked : Relinked c (p ∷ []) old (set old (new_place old p + 2) first)
  moved-relinked = relinked-next c (p ∷ []) old (new_place old p + 2) first new-link.next

  count-stays : (v : ℕ) → c (v + 2) COUNT ≡ true → get_or (set old (new_place old p + 2) first) (v + 2) 0 ≡ get_or old (v + 2) 0
  count-stays v h = get_or-set_other old (new_place old p + 2) (v + 2) first 0 (λ at. roles-apart c (new_place old p + 2) (v + 2) single new-link.next h (sym at))

  pub step-moved : FrontSweeping c (set old (new_place old p + 2) first) (get_or old (p + 2) 0) os to (new_place old p) (new_place old p ∷ kept) last ends further
  step-moved =
      let new_kept : Kept c c old (set old (new_place old p + 2) first) = step-kept c old (set old (new_place old p + 2) first) head p os to first kept last ends further single moved-relinked s in
      let Q : ℕ → Type 0 = λ x. Leads (set old (new_place old p + 2) first) x kept 0 in
      let S : ℕ → Type 0 = λ x. In x kept in
      let T : ℕ → Type 0 = λ x. In x (lying old os) in
      let P : ℕ → Type 0 = λ x. IsLink c (set old (new_place old p + 2) first) x in
      let lead : get_or (set old (new_place old p + 2) first) (new_place old p + 2) 0 ≡ first =
      get_or-set_at old (new_place old p + 2) (new_place old p + 2) first 0 refl (omega (arith, new-link.within)) in
      let same : (q : ℕ) → In q kept → get_or (set old (new_place old p + 2) first) (q + 2) 0 ≡ get_or old (q + 2) 0 = λ q inside.
      get_or-set_other old (new_place old p + 2) (q + 2) first 0 (λ e. let this : q ≡ new_place old p = omega (arith, e) in s.fresh p (inl refl) is (subst S this inside)) in
      let lies : lies_at old p ≡ new_place old p = lies-moved old p is in
      record {
        rest = rest-after c old (set old (new_place old p + 2) first) head p os to first kept last ends further single moved-relinked s;
        old = old-after c old (set old (new_place old p + 2) first) head p os to first kept last ends further single moved-relinked s;
        chain = (refl, subst Q (sym lead) (leads-stays old (set old (new_place old p + 2) first) first kept 0 same s.chain));
        once = (s.fresh p (inl refl) is, s.once);
        fresh = λ q inside m hit. elim hit [
          | inl e ↦
              let x : SameObject old (set old (new_place old p + 2) first) q =
              same-rest c old (set old (new_place old p + 2) first) head p os to first kept last ends further single moved-relinked s q inside in
              let before_moved : is_moved old q ≡ true = sym (moved-same old (set old (new_place old p + 2) first) q x) ∙ m in
              let there : lies_at old q ≡ lies_at old p = lies-moved old q before_moved ∙ (sym (place-stays old (set old (new_place old p + 2) first) q x) ∙ (e ∙ sym lies)) in
              s.apart.0 (subst T there (lying-has old q os inside))
          | inr deep ↦ fresh-after c old (set old (new_place old p + 2) first) head p os to first kept last ends further single moved-relinked s q inside m deep
        ];
        apart = apart-after c old (set old (new_place old p + 2) first) head p os to first kept last ends further single moved-relinked s;
        alone = alone-after c old (set old (new_place old p + 2) first) head p os to first kept last ends further single moved-relinked s;
        each = λ q inside. elim inside [
          | inl e ↦ subst P (sym e) (link-stays c c old (set old (new_place old p + 2) first) (new_place old p) new_kept new-link)
          | inr deep ↦ each-after c old (set old (new_place old p + 2) first) head p os to first kept last ends further single moved-relinked s q deep
        ];
        beside = beside-after c old (set old (new_place old p + 2) first) head p os to first kept last ends further single moved-relinked s;
        counts = λ v n there.
            let was : get_or old (v + 2) 0 ≡ names_it (named old (lies_at old p)) v + naming old v (lying old os) + naming old v kept + naming old v further =
            before c old (set old (new_place old p + 2) first) head p os to first kept last ends further single moved-relinked s v n there in
            let a : naming (set old (new_place old p + 2) first) v (lying (set old (new_place old p + 2) first) os) ≡ naming old v (lying old os) =
            naming-rest c old (set old (new_place old p + 2) first) head p os to first kept last ends further single moved-relinked s v in
            let b : names_it (named (set old (new_place old p + 2) first) (new_place old p)) v ≡ names_it (named old (lies_at old p)) v =
            ap (λ x. names_it x v) (link-named c c old (set old (new_place old p + 2) first) (new_place old p) new_kept new-link ∙ ap (λ x. named old x) (sym lies)) in
            let d : naming (set old (new_place old p + 2) first) v kept ≡ naming old v kept =
            naming-kept c old (set old (new_place old p + 2) first) head p os to first kept last ends further single moved-relinked s v in
            let e : naming (set old (new_place old p + 2) first) v further ≡ naming old v further =
            naming-further c old (set old (new_place old p + 2) first) head p os to first kept last ends further single moved-relinked s v in
            count-stays v (record-counted c (set old (new_place old p + 2) first) v n there) ∙ omega (arith, was, a, b, d, e);
        gone = gone-after c old (set old (new_place old p + 2) first) head p os to first kept last ends further single moved-relinked s;
        freed = freed-after c old (set old (new_place old p + 2) first) head p os to first kept last ends further single moved-relinked s
            (λ q inside. count-stays (named old q) (last-counted c old (set old (new_place old p + 2) first) head p os to first kept last ends further single moved-relinked s q inside));
        freed_once = once-after c old (set old (new_place old p + 2) first) head p os to first kept last ends further single moved-relinked s;
      }

  pub since-moved : (start : List ℕ) → Since c start old (p ∷ os) ends → Since c start (set old (new_place old p + 2) first) os ends
  since-moved start b = record {
    content = since-content c old (set old (new_place old p + 2) first) head p os to first kept last ends further single moved-relinked s start b;
    back = since-back c old (set old (new_place old p + 2) first) head p os to first kept last ends further single moved-relinked s start b;
    same = since-same c old (set old (new_place old p + 2) first) head p os to first kept last ends further single moved-relinked s start b;
    fewer = since-fewer c old (set old (new_place old p + 2) first) head p os to first kept last ends further single moved-relinked s start b
        (λ v n there.
        let e : get_or (set old (new_place old p + 2) first) (v + 2) 0 ≡ get_or old (v + 2) 0 =
        count-stays v (record-counted c (set old (new_place old p + 2) first) v n there) in omega (arith, e));
    only = since-only c old (set old (new_place old p + 2) first) head p os to first kept last ends further single moved-relinked s start b;
    all = λ v n there zero some. since-all c old (set old (new_place old p + 2) first) head p os to first kept last ends further single moved-relinked s start b v n there
        (sym (count-stays v (record-counted c (set old (new_place old p + 2) first) v n there)) ∙ zero) some;
  }

-- An object that was left behind names its record no more.
module _ (c : ℕ → ℕ → Bool) (old new : List ℕ) (head p : ℕ) (os : List ℕ) (to first : ℕ) (kept : List ℕ) (last : ℕ) (ends further : List ℕ) (single : IsSingle c)
    (is : is_moved old p ≡ false) (s : FrontSweeping c old head (p ∷ os) to first kept last ends further) (r : Relinked c (p ∷ []) old new)
    (others : (q : ℕ) → (q ≡ named old p + 2 → ⊥) → (q ≡ p + 2 → ⊥) → get_or new q 0 ≡ get_or old q 0)
    (less : get_or new (named old p + 2) 0 ≡ get_or old (named old p + 2) 0 - 1) where
  counted-here : c (named old p + 2) COUNT ≡ true
  counted-here = record-counted c old (named old p) (s.old p (inl refl)).words ((s.old p (inl refl)).left is)

  no-count : (v : ℕ) → c (v + 2) COUNT ≡ true → v + 2 ≡ p + 2 → ⊥
  no-count v h e = let P : ℕ → Type 0 = λ x. c x COUNT ≡ true in (s.old p (inl refl)).none (p + 2) COUNT (inr (inl refl)) (subst P e h)

  other-count : (v : ℕ) → c (v + 2) COUNT ≡ true → (v ≡ named old p → ⊥) → get_or new (v + 2) 0 ≡ get_or old (v + 2) 0
  other-count v h far = others (v + 2) (λ e. far (omega (arith, e))) (no-count v h)

  next-same : (q : ℕ) → In q kept → get_or new (q + 2) 0 ≡ get_or old (q + 2) 0
  next-same q inside =
      let P : ℕ → Type 0 = λ x. c x NEXT ≡ true in
      others (q + 2) (λ e. roles-apart c (q + 2) (named old p + 2) single (s.each q inside).next counted-here e)
      (λ e. (s.old p (inl refl)).none (p + 2) NEXT (inr (inl refl)) (subst P e (s.each q inside).next))

  ends-named : (q : ℕ) → In q ends → named old q ≡ named old p → ⊥
  ends-named q inside e =
      let P : ℕ → Type 0 = λ x. get_or old (x + 2) 0 ≡ 0 in
      omega (arith, is-counted c old head p os to first kept last ends further s is, subst P e (s.freed q inside).freed)

  pub step-left : FrontSweeping c new (get_or old (p + 2) 0) os to first kept last ends further
  step-left = record {
    rest = rest-after c old new head p os to first kept last ends further single r s;
    old = old-after c old new head p os to first kept last ends further single r s;
    chain = leads-stays old new first kept 0 next-same s.chain;
    once = s.once;
    fresh = fresh-after c old new head p os to first kept last ends further single r s;
    apart = apart-after c old new head p os to first kept last ends further single r s;
    alone = alone-after c old new head p os to first kept last ends further single r s;
    each = each-after c old new head p os to first kept last ends further single r s;
    beside = beside-after c old new head p os to first kept last ends further single r s;
    counts = λ v n there.
        let was : get_or old (v + 2) 0 ≡ names_it (named old (lies_at old p)) v + naming old v (lying old os) + naming old v kept + naming old v further =
        before c old new head p os to first kept last ends further single r s v n there in
        let a : naming new v (lying new os) ≡ naming old v (lying old os) = naming-rest c old new head p os to first kept last ends further single r s v in
        let d : naming new v kept ≡ naming old v kept = naming-kept c old new head p os to first kept last ends further single r s v in
        let e : naming new v further ≡ naming old v further = naming-further c old new head p os to first kept last ends further single r s v in
        let name : named old (lies_at old p) ≡ named old p = ap (λ x. named old x) (lies-left old p is) in
        let which : (v ≡ named old p) ⊎ ((named old p < v) ⊎ (v < named old p)) = grind arith in
        elim which [
          | inl at ↦
              let one : names_it (named old (lies_at old p)) v ≡ 1 = one-naming (named old (lies_at old p)) v (name ∙ sym at) in
              let now : get_or new (v + 2) 0 ≡ get_or old (v + 2) 0 - 1 = rw at less in
              now ∙ omega (arith, one, was, a, d, e)
          | inr far ↦
              let none : names_it (named old (lies_at old p)) v ≡ 0 = rw name (no-naming (named old p) v far) in
              let now : get_or new (v + 2) 0 ≡ get_or old (v + 2) 0 = other-count v (record-counted c new v n there) (λ at. omega (arith, at, far)) in
              now ∙ omega (arith, none, was, a, d, e)
        ];
    gone = gone-after c old new head p os to first kept last ends further single r s;
    freed = freed-after c old new head p os to first kept last ends further single r s
        (λ q inside. other-count (named old q) (last-counted c old new head p os to first kept last ends further single r s q inside) (ends-named q inside));
    freed_once = once-after c old new head p os to first kept last ends further single r s;
  }

  here-same : SameObject old new p
  here-same = same-here c old new head p os to first kept last ends further single r s

  here-named : named new p ≡ named old p
  here-named = named-same old new p here-same

  -- And where it was the last to do so, it is told.
  pub step-last : get_or new (named old p + 2) 0 ≡ 0 → get_or new (p + 2) 0 ≡ last → FrontSweeping c new (get_or old (p + 2) 0) os to first kept p (p ∷ ends) further
  step-last zero lead =
      let Q : ℕ → Type 0 = λ x. Leads new x ends 0 in
      let P : ℕ → Type 0 = λ x. IsLast c new x in
      let mine : IsLast c new p = record {
        old = old-stays old new p here-same c (step-kept c old new head p os to first kept last ends further single r s) (s.old p (inl refl));
        left = moved-same old new p here-same ∙ is;
        freed = ap (λ x. get_or new (x + 2) 0) here-named ∙ zero;
      } in
      record {
        rest = step-left.rest;
        old = step-left.old;
        chain = step-left.chain;
        once = step-left.once;
        fresh = step-left.fresh;
        apart = step-left.apart;
        alone = λ a q ina inq far at. elim inq [
          | inl rest ↦ step-left.alone a q ina (inl rest) far at
          | inr (inr deep) ↦ step-left.alone a q ina (inr deep) far at
          | inr
              (inl e) ↦
              let F : ℕ → Type 0 = λ x. x ≡ a → ⊥ in
              let G : ℕ → Type 0 = λ x. IsReadAt new x (a + 2) in
              s.alone a p (inr ina) (inl (inl refl)) (subst F e far) (read-same old new p here-same (a + 2) (subst G e at))
        ];
        each = step-left.each;
        beside = step-left.beside;
        counts = step-left.counts;
        gone = (refl, subst Q (sym lead) step-left.gone);
        freed = λ q inside. elim inside [ inl e ↦ subst P (sym e) mine | inr deep ↦ step-left.freed q deep ];
        freed_once = (
          λ hit. let (q, (inside, e)) = record-named new (named new p) ends hit in
              ends-named q inside (sym (named-same old new q (same-ends c old new head p os to first kept last ends further single r s q inside)) ∙ (e ∙ here-named)),
          step-left.freed_once,
        );
      }

  down : (v n : ℕ) → IsRecord c new v n → get_or new (v + 2) 0 ≤ get_or old (v + 2) 0
  down v n there =
      let which : (v ≡ named old p) ⊎ ((named old p < v) ⊎ (v < named old p)) = grind arith in
      elim which [
        | inl at ↦ (let now : get_or new (v + 2) 0 ≡ get_or old (v + 2) 0 - 1 = rw at less in omega (arith, now))
        | inr far ↦ (let now : get_or new (v + 2) 0 ≡ get_or old (v + 2) 0 = other-count v (record-counted c new v n there) (λ at. omega (arith, at, far)) in omega (arith, now))
      ]

  -- A record that is not counted any more was not before, or is this object's.
  none-before : (v n : ℕ) → IsRecord c new v n → get_or new (v + 2) 0 ≡ 0 → (v ≡ named old p) ⊎ (get_or old (v + 2) 0 ≡ 0)
  none-before v n there zero =
      let which : (v ≡ named old p) ⊎ ((named old p < v) ⊎ (v < named old p)) = grind arith in
      elim which [ inl at ↦ inl at | inr far ↦ inr (sym (other-count v (record-counted c new v n there) (λ at. omega (arith, at, far))) ∙ zero) ]

  pub since-left : (0 < get_or new (named old p + 2) 0) → (start : List ℕ) → Since c start old (p ∷ os) ends → Since c start new os ends
  since-left some start b = record {
    content = since-content c old new head p os to first kept last ends further single r s start b;
    back = since-back c old new head p os to first kept last ends further single r s start b;
    same = since-same c old new head p os to first kept last ends further single r s start b;
    fewer = since-fewer c old new head p os to first kept last ends further single r s start b down;
    only = since-only c old new head p os to first kept last ends further single r s start b;
    all = λ v n there zero was. elim (none-before v n there zero) [
      | inl at ↦ absurd (let P : ℕ → Type 0 = λ x. get_or new (x + 2) 0 ≡ 0 in omega (arith, some, subst P at zero))
      | inr none ↦ since-all c old new head p os to first kept last ends further single r s start b v n there none was
    ];
  }

  pub since-last : (start : List ℕ) → Since c start old (p ∷ os) ends → Since c start new os (p ∷ ends)
  since-last start b = record {
    content = since-content c old new head p os to first kept last ends further single r s start b;
    back = since-back c old new head p os to first kept last ends further single r s start b;
    same = since-same c old new head p os to first kept last ends further single r s start b;
    fewer = since-fewer c old new head p os to first kept last ends further single r s start b down;
    only = λ q inside. elim inside [
      | inl e ↦
          let P : ℕ → Type 0 = λ x. 0 < get_or start (named new x + 2) 0 in
          let Q : ℕ → Type 0 = λ x. 0 < get_or start (x + 2) 0 in
          let was : 0 < get_or start (named old p + 2) 0 =
          omega (arith, is-counted c old head p os to first kept last ends further s is, b.fewer (named old p) (s.old p (inl refl)).words ((s.old p (inl refl)).left is)) in
          subst P (sym e) (subst Q (sym here-named) was)
      | inr deep ↦ since-only c old new head p os to first kept last ends further single r s start b q deep
    ];
    all = λ v n there zero was. elim (none-before v n there zero) [
      | inl at ↦ inl (at ∙ sym here-named)
      | inr none ↦ inr (since-all c old new head p os to first kept last ends further single r s start b v n there none was)
    ];
  }

-- What the first word and the count tell.

joined-moved : (mem : List ℕ) (p : ℕ) (kept : List ℕ) → is_moved mem p ≡ true → new_place mem p ∷ kept ≡ kept_after mem p kept
joined-moved mem p kept is = sym (ap (λ b. if b then new_place mem p ∷ kept else kept) is)

joined-left : (mem : List ℕ) (p : ℕ) (kept : List ℕ) → is_moved mem p ≡ false → kept ≡ kept_after mem p kept
joined-left mem p kept is = sym (ap (λ b. if b then new_place mem p ∷ kept else kept) is)

ended-moved : (mem : List ℕ) (p : ℕ) (ends : List ℕ) → is_moved mem p ≡ true → ends ≡ ends_after mem p ends
ended-moved mem p ends is = sym (ap (λ b. if (if b then false else count_less mem p == 0) then p ∷ ends else ends) is)

ended-left : (mem : List ℕ) (p : ℕ) (ends : List ℕ) → is_moved mem p ≡ false → 0 < count_less mem p → ends ≡ ends_after mem p ends
ended-left mem p ends is some =
    let no : (count_less mem p == 0) ≡ false = grind (arith, nat_tests, some) in
    sym (ap (λ b. if (if b then false else count_less mem p == 0) then p ∷ ends else ends) is ∙ ap (λ b. if b then p ∷ ends else ends) no)

ended-last : (mem : List ℕ) (p : ℕ) (ends : List ℕ) → is_moved mem p ≡ false → count_less mem p ≡ 0 → p ∷ ends ≡ ends_after mem p ends
ended-last mem p ends is zero =
    let yes : (count_less mem p == 0) ≡ true = grind (arith, nat_tests, zero) in
    sym (ap (λ b. if (if b then false else count_less mem p == 0) then p ∷ ends else ends) is ∙ ap (λ b. if b then p ∷ ends else ends) yes)

pub less-left : (mem : List ℕ) (p last : ℕ) → 0 < count_less mem p → left_behind mem p last ≡ set mem (named mem p + 2) (count_less mem p)
less-left mem p last some =
    let no : (count_less mem p == 0) ≡ false = grind (arith, nat_tests, some) in
    ap (λ b. if b then set (set mem (named mem p + 2) (count_less mem p)) (p + 2) last else set mem (named mem p + 2) (count_less mem p)) no

pub less-last : (mem : List ℕ) (p last : ℕ) → count_less mem p ≡ 0 → left_behind mem p last ≡ set (set mem (named mem p + 2) (count_less mem p)) (p + 2) last
less-last mem p last zero =
    let yes : (count_less mem p == 0) ≡ true = grind (arith, nat_tests, zero) in
    ap (λ b. if b then set (set mem (named mem p + 2) (count_less mem p)) (p + 2) last else set mem (named mem p + 2) (count_less mem p)) yes

-- An object that was left behind, over the words that are written.
module _ (c : ℕ → ℕ → Bool) (old : List ℕ) (p last : ℕ) (is : is_moved old p ≡ false) (o : IsOld c old p) where
  record-here : IsRecord c old (named old p) o.words
  record-here = o.left is

  count-here : c (named old p + 2) COUNT ≡ true
  count-here = record-counted c old (named old p) o.words record-here

  count-apart : named old p + 2 ≡ p + 2 → ⊥
  count-apart e = let P : ℕ → Type 0 = λ x. c x COUNT ≡ true in o.none (p + 2) COUNT (inr (inl refl)) (subst P e count-here)

  count-inside : named old p + 2 < length old
  count-inside = omega (arith, record-inside c old (named old p) o.words record-here)

  pub less-relinked : Relinked c (p ∷ []) old (set old (named old p + 2) (count_less old p))
  less-relinked = relinked-count c (p ∷ []) old (named old p + 2) (count_less old p) count-here

  pub last-relinked : Relinked c (p ∷ []) old (set (set old (named old p + 2) (count_less old p)) (p + 2) last)
  last-relinked = relinked-then c (p ∷ []) old (set old (named old p + 2) (count_less old p)) (set (set old (named old p + 2) (count_less old p)) (p + 2) last) less-relinked
      (relinked-old c (p ∷ []) (set old (named old p + 2) (count_less old p)) p last (inl refl))

  less-now : get_or (set old (named old p + 2) (count_less old p)) (named old p + 2) 0 ≡ count_less old p
  less-now = get_or-set_at old (named old p + 2) (named old p + 2) (count_less old p) 0 refl count-inside

  last-now : get_or (set (set old (named old p + 2) (count_less old p)) (p + 2) last) (named old p + 2) 0 ≡ count_less old p
  last-now = get_or-set_other (set old (named old p + 2) (count_less old p)) (p + 2) (named old p + 2) last 0 count-apart ∙ less-now

  less-others : (q : ℕ) → (q ≡ named old p + 2 → ⊥) → (q ≡ p + 2 → ⊥) → get_or (set old (named old p + 2) (count_less old p)) q 0 ≡ get_or old q 0
  less-others q far apart = get_or-set_other old (named old p + 2) q (count_less old p) 0 far

  last-others : (q : ℕ) → (q ≡ named old p + 2 → ⊥) → (q ≡ p + 2 → ⊥) → get_or (set (set old (named old p + 2) (count_less old p)) (p + 2) last) q 0 ≡ get_or old q 0
  last-others q far apart = get_or-set_other (set old (named old p + 2) (count_less old p)) (p + 2) q last 0 apart ∙ less-others q far apart

  lead-now : get_or (set (set old (named old p + 2) (count_less old p)) (p + 2) last) (p + 2) 0 ≡ last
  lead-now = get_or-set_at (set old (named old p + 2) (count_less old p)) (p + 2) (p + 2) last 0 refl
      (omega (arith, o.within, length-set old (named old p + 2) (count_less old p)))

-- The same from the place where the sweep is.

module _ (c : ℕ → ℕ → Bool) (mem : List ℕ) (head p : ℕ) (os : List ℕ) (to first : ℕ) (kept : List ℕ) (last : ℕ) (ends further : List ℕ)
    (s : FrontSweeping c mem head (p ∷ os) to first kept last ends further) where
  pub next-old : IsOld c mem head
  next-old = let P : ℕ → Type 0 = λ x. IsOld c mem x in subst P (sym s.rest.0) (s.old p (inl refl))

  pub next-object : (head ≡ p) × (head + 6 ≤ length mem) × IsOld c mem head
  next-object = (s.rest.0, next-old.within, next-old)

  pub next-moved : is_moved mem head ≡ true → new_place mem head + 6 ≤ length mem
  next-moved is = (next-old.moved is).within

  pub next-record : is_moved mem head ≡ false → named mem head + 4 ≤ length mem
  next-record is = record-inside c mem (named mem head) next-old.words (next-old.left is)

  pub next-counted : is_moved mem head ≡ false → 1 ≤ count_in mem (named mem head)
  next-counted is =
      let A : ℕ → Type 0 = λ x. is_moved mem x ≡ false in
      let P : ℕ → Type 0 = λ x. 1 ≤ count_in mem (named mem x) in
      subst P (sym s.rest.0) (is-counted c mem head p os to first kept last ends further s (subst A s.rest.0 is))

  at-head : FrontSweeping c mem head (head ∷ os) to first kept last ends further
  at-head = let P : ℕ → Type 0 = λ x. FrontSweeping c mem head (x ∷ os) to first kept last ends further in subst P (sym s.rest.0) s

  pub next-step-moved : IsSingle c → is_moved mem head ≡ true
      → FrontSweeping c (set mem (new_place mem head + 2) first) (get_or mem (head + 2) 0) os to (new_place mem head) (kept_after mem head kept) last (ends_after mem head ends) further
  next-step-moved single is =
      let P : List ℕ → Type 0 = λ xs. FrontSweeping c (set mem (new_place mem head + 2) first) (get_or mem (head + 2) 0) os to (new_place mem head) xs last (ends_after mem head ends) further in
      let Q : List ℕ → Type 0 = λ xs. FrontSweeping c (set mem (new_place mem head + 2) first) (get_or mem (head + 2) 0) os to (new_place mem head) (new_place mem head ∷ kept) last xs further in
      subst P (joined-moved mem head kept is) (subst Q (ended-moved mem head ends is) (step-moved c mem head head os to first kept last ends further single is at-head))

  pub next-step-left : IsSingle c → is_moved mem head ≡ false → 0 < count_less mem head
      → FrontSweeping c (set mem (named mem head + 2) (count_less mem head)) (get_or mem (head + 2) 0) os to first (kept_after mem head kept) last (ends_after mem head ends) further
  next-step-left single is some =
      let P : List ℕ → Type 0 = λ xs. FrontSweeping c (set mem (named mem head + 2) (count_less mem head)) (get_or mem (head + 2) 0) os to first xs last (ends_after mem head ends) further in
      let Q : List ℕ → Type 0 = λ xs. FrontSweeping c (set mem (named mem head + 2) (count_less mem head)) (get_or mem (head + 2) 0) os to first kept last xs further in
      subst P (joined-left mem head kept is) (subst Q (ended-left mem head ends is some)
      (step-left c mem (set mem (named mem head + 2) (count_less mem head)) head head os to first kept last ends further single is at-head (less-relinked c mem head last is next-old)
      (less-others c mem head last is next-old) (less-now c mem head last is next-old)))

  pub next-step-last : IsSingle c → is_moved mem head ≡ false → count_less mem head ≡ 0
      → FrontSweeping c (set (set mem (named mem head + 2) (count_less mem head)) (head + 2) last) (get_or mem (head + 2) 0) os to first (kept_after mem head kept)
      head (ends_after mem head ends) further
  next-step-last single is zero =
      let P : List ℕ → Type 0 =
      λ xs. FrontSweeping c (set (set mem (named mem head + 2) (count_less mem head)) (head + 2) last) (get_or mem (head + 2) 0) os to first xs head (ends_after mem head ends) further in
      let Q : List ℕ → Type 0 = λ xs. FrontSweeping c (set (set mem (named mem head + 2) (count_less mem head)) (head + 2) last) (get_or mem (head + 2) 0) os to first kept head xs further in
      subst P (joined-left mem head kept is) (subst Q (ended-last mem head ends is zero)
      (step-last c mem (set (set mem (named mem head + 2) (count_less mem head)) (head + 2) last) head head os to first kept last ends further single is at-head
      (last-relinked c mem head last is next-old) (last-others c mem head last is next-old) (last-now c mem head last is next-old)
      (last-now c mem head last is next-old ∙ zero) (lead-now c mem head last is next-old)))

  since-head : (start : List ℕ) → Since c start mem (p ∷ os) ends → Since c start mem (head ∷ os) ends
  since-head start b = let P : ℕ → Type 0 = λ x. Since c start mem (x ∷ os) ends in subst P (sym s.rest.0) b

  pub next-since-moved : IsSingle c → is_moved mem head ≡ true → (start : List ℕ) → Since c start mem (p ∷ os) ends
      → Since c start (set mem (new_place mem head + 2) first) os (ends_after mem head ends)
  next-since-moved single is start b =
      let Q : List ℕ → Type 0 = λ xs. Since c start (set mem (new_place mem head + 2) first) os xs in
      subst Q (ended-moved mem head ends is) (since-moved c mem head head os to first kept last ends further single is at-head start (since-head start b))

  pub next-since-left : IsSingle c → is_moved mem head ≡ false → 0 < count_less mem head → (start : List ℕ) → Since c start mem (p ∷ os) ends
      → Since c start (set mem (named mem head + 2) (count_less mem head)) os (ends_after mem head ends)
  next-since-left single is some start b =
      let Q : List ℕ → Type 0 = λ xs. Since c start (set mem (named mem head + 2) (count_less mem head)) os xs in
      let now : get_or (set mem (named mem head + 2) (count_less mem head)) (named mem head + 2) 0 ≡ count_less mem head = less-now c mem head last is next-old in
      subst Q (ended-left mem head ends is some)
      (since-left c mem (set mem (named mem head + 2) (count_less mem head)) head head os to first kept last ends further single is at-head (less-relinked c mem head last is next-old)
      (less-others c mem head last is next-old) now (omega (arith, now, some)) start (since-head start b))

  pub next-since-last : IsSingle c → is_moved mem head ≡ false → count_less mem head ≡ 0 → (start : List ℕ) → Since c start mem (p ∷ os) ends
      → Since c start (set (set mem (named mem head + 2) (count_less mem head)) (head + 2) last) os (ends_after mem head ends)
  next-since-last single is zero start b =
      let Q : List ℕ → Type 0 = λ xs. Since c start (set (set mem (named mem head + 2) (count_less mem head)) (head + 2) last) os xs in
      subst Q (ended-last mem head ends is zero)
      (since-last c mem (set (set mem (named mem head + 2) (count_less mem head)) (head + 2) last) head head os to first kept last ends further single is at-head
      (last-relinked c mem head last is next-old) (last-others c mem head last is next-old) (last-now c mem head last is next-old) start (since-head start b))

pub sweep-done : (c : ℕ → ℕ → Bool) (mem : List ℕ) (head to first : ℕ) (kept : List ℕ) (last : ℕ) (ends further : List ℕ) → FrontSweeping c mem head [] to first kept last ends further
    → Links c mem first kept further
sweep-done c mem head to first kept last ends further s = record { chain = s.chain; once = s.once; each = s.each; beside = s.beside; counts = λ v n there. s.counts v n there ∙ omega arith }

-- What the first word of an object tells.

pub moved-by : (mem : List ℕ) (p w : ℕ) → w ≡ get_or mem p 0 → w % 4 ≡ 2 → is_moved mem p ≡ true
moved-by mem p w e is = grind (arith, nat_tests, e, is)

pub left-by : (mem : List ℕ) (p w : ℕ) → w ≡ get_or mem p 0 → (w % 4 ≡ 2 → ⊥) → is_moved mem p ≡ false
left-by mem p w e is = grind (arith, nat_tests, e, is)

freed-as : (v n : ℕ) (b : Bool) → (n == 0) ≡ b → freed_at v n ≡ (if b then Some v else None)
freed-as v n b e = ap (λ x. if x then Some v else None) e

pub freed-zero : (x : Option ℕ) (v n : ℕ) → x ≡ freed_at v n → is_some x ≡ true → n ≡ 0
freed-zero x v n is h = elim (cases_Bool (n == 0)) [
  | inl e ↦ grind (arith, nat_tests, e)
  | inr e ↦ absurd (true≢false (sym h ∙ ap is_some (is ∙ freed-as v n false e)))
]

pub freed-more : (x : Option ℕ) (v n : ℕ) → x ≡ freed_at v n → is_some x ≡ false → 0 < n
freed-more x v n is h = elim (cases_Bool (n == 0)) [
  | inl e ↦ absurd (true≢false (sym (ap is_some (is ∙ freed-as v n true e)) ∙ h))
  | inr e ↦ grind (arith, nat_tests, e)
]

-- Trees stand where the words of an object that was left behind are written.
pub last-keeps : (c : ℕ → ℕ → Bool) (old : List ℕ) (p last : ℕ) → IsSingle c → is_moved old p ≡ false → IsOld c old p
    → Keeps c c old (set (set old (named old p + 2) (count_less old p)) (p + 2) last)
last-keeps c old p last single is o = relinked-keeps c (p ∷ []) old (set (set old (named old p + 2) (count_less old p)) (p + 2) last) single
    (λ x k inside h. elim inside [
      | inl e ↦ (let P : ℕ → Type 0 = λ y. c (y + 2) k ≡ true in o.none (p + 2) k (inr (inl refl)) (subst P e h))
      | inr i ↦ i
    ]) (last-relinked c old p last is o)

-- A step writes no word `next` but that of an object that was moved.
pub next-still : (c : ℕ → ℕ → Bool) (mem mem2 : List ℕ) (head first last : ℕ) → IsSingle c → IsOld c mem head → (is_moved mem head ≡ true → mem2 ≡ set mem (new_place mem head + 2) first)
    → (is_moved mem head ≡ false → mem2 ≡ left_behind mem head last) → (q : ℕ) → c q NEXT ≡ true → (is_moved mem head ≡ true → q ≡ new_place mem head + 2 → ⊥)
    → get_or mem2 q 0 ≡ get_or mem q 0
next-still c mem mem2 head first last single o moved left q h out =
    let P : List ℕ → Type 0 = λ m. get_or m q 0 ≡ get_or mem q 0 in
    elim (cases_Bool (is_moved mem head)) [
      | inl is ↦ subst P (sym (moved is)) (get_or-set_other mem (new_place mem head + 2) q first 0 (out is))
      | inr is ↦
          let far : q ≡ named mem head + 2 → ⊥ = λ e. roles-apart c q (named mem head + 2) single h (record-counted c mem (named mem head) o.words (o.left is)) e in
          let apart : q ≡ head + 2 → ⊥ = λ e. let Q : ℕ → Type 0 = λ x. c x NEXT ≡ true in o.none (head + 2) NEXT (inr (inl refl)) (subst Q e h) in
          let which : (count_less mem head ≡ 0) ⊎ (0 < count_less mem head) = grind arith in
          elim which [
            | inl zero ↦ subst P (sym (left is ∙ less-last mem head last zero)) (last-others c mem head last is o q far apart)
            | inr some ↦ subst P (sym (left is ∙ less-left mem head last some)) (less-others c mem head last is o q far apart)
          ]
    ]
