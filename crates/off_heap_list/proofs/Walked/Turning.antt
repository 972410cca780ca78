-- A chain is turned round object by object.
use Rattle.std.proofs.Common.{◌≡◌, ℕ, ◌+◌, ◌<◌, ◌≤◌, ◌⊎◌, List, [], ◌∷◌, ◌++◌, Bool, true, length, get_or, set, refl, sym, ◌∙◌, subst, ap, arith, inl, inr, length-set, get_or-set_other}
use Rattle.std.proofs.lemmas.List.{append-nil}
use Rattle.std.proofs.lemmas.Grind.{get_or-set_at}
use Rattle.term_words.specs.Role.{NEXT, COUNT, IsSingle}
use Rattle.term_words.specs.Kept.{Kept}
use Rattle.term_words.specs.Counted.{In, Distinct}
use Rattle.shared_rec.proofs.Records.{record-stays, record-counted}
use Rattle.off_heap_list.specs.Links.{names_it, name_place, named, Leads, naming, IsLink, Links}
use Rattle.off_heap_list.specs.Swept.{named_records, IsReadAt, Relinked, IsLast}
use Rattle.off_heap_list.specs.declared.whole.Survivors.{Survivors}
use Rattle.off_heap_list.specs.Whole.{turned, bin_words_of_all, OnlyNext, EndRecords, SweptWhole, TurnedOnto, TurnedWhole}
use Rattle.off_heap_list.specs.Turned.{Turning}
use Rattle.off_heap_list.proofs.Chaining.Chained.{kept-then, roles-apart, link-named, link-stays, naming-stays, leads-stays}
use Rattle.off_heap_list.proofs.Walked.Sweeping.{relinked-next, relinked-kept, relinked-back, relinked-then, relinked-wider, relinked-keeps, SameObject, moved-same, named-same, old-stays, records-same}
use Rattle.off_heap_list.proofs.Walked.Tallied.{Goes, goes, none-left, all-held-stay}

turn-step : (c : ℕ → ℕ → Bool) (old new : List ℕ) (head p : ℕ) (os : List ℕ) (first : ℕ) (kept further : List ℕ) → IsSingle c → Kept c c old new → Kept c c new old
    → ((q : ℕ) → (q ≡ p + 2 → ⊥) → get_or new q 0 ≡ get_or old q 0) → get_or new (p + 2) 0 ≡ first
    → Turning c old head (p ∷ os) first kept further → Turning c new (get_or old (p + 2) 0) os p (p ∷ kept) further
turn-step c old new head p os first kept further single k back other lead s =
    let Q : ℕ → Type 0 = λ x. Leads new x kept 0 in
    let S : ℕ → Type 0 = λ x. In x kept in
    let T : ℕ → Type 0 = λ x. In x os in
    let P : ℕ → Type 0 = λ x. IsLink c new x in
    let this : IsLink c old p = s.left p (inl refl) in
    record {
      rest = leads-stays old new (get_or old (p + 2) 0) os 0
          (λ q inside. other (q + 2) (λ e. let same : q ≡ p = omega (arith, e) in s.once_left.0 (subst T same inside))) s.rest.1;
      once_left = s.once_left.1;
      left = λ q inside. link-stays c c old new q k (s.left q (inr inside));
      chain = (
        refl,
        subst Q (sym lead) (leads-stays old new first kept 0
            (λ q inside. other (q + 2) (λ e. let same : q ≡ p = omega (arith, e) in s.apart p (inl refl) (subst S same inside))) s.chain),
      );
      once = (s.apart p (inl refl), s.once);
      each = λ q inside. elim inside [ inl e ↦ subst P (sym e) (link-stays c c old new p k this) | inr deep ↦ link-stays c c old new q k (s.each q deep) ];
      apart = λ q inside hit. elim hit [ inl e ↦ s.once_left.0 (subst T e inside) | inr deep ↦ s.apart q (inr inside) deep ];
      beside = λ q inside. link-stays c c old new q k (s.beside q inside);
      counts = λ v n there.
          let was : get_or old (v + 2) 0 ≡ names_it (named old p) v + naming old v os + naming old v kept + naming old v further = s.counts v n (record-stays c c new old v n back there) in
          let a : naming new v os ≡ naming old v os = naming-stays c c old new v os k (λ q inside. s.left q (inr inside)) in
          let b : names_it (named new p) v ≡ names_it (named old p) v = ap (λ x. names_it x v) (link-named c c old new p k this) in
          let d : naming new v kept ≡ naming old v kept = naming-stays c c old new v kept k s.each in
          let e : naming new v further ≡ naming old v further = naming-stays c c old new v further k s.beside in
          other (v + 2) (λ at. roles-apart c (p + 2) (v + 2) single this.next (record-counted c new v n there) (sym at)) ∙ omega (arith, was, a, b, d, e);
    }

-- The first object of the one chain leaves it for a place beside both.
pub turning-passes : (c : ℕ → ℕ → Bool) (old : List ℕ) (head p : ℕ) (os : List ℕ) (first : ℕ) (kept further : List ℕ) (x : ℕ) → IsSingle c → Turning c old head (p ∷ os) first kept further
    → Turning c (set old (head + 2) x) (get_or old (head + 2) 0) os first kept (head ∷ further)
turning-passes c old head p os first kept further x single s =
    let Z : ℕ → Type 0 = λ h. Turning c (set old (h + 2) x) (get_or old (h + 2) 0) os first kept (h ∷ further) in
    let S : ℕ → Type 0 = λ y. In y kept in
    let T : ℕ → Type 0 = λ y. In y os in
    let P : ℕ → Type 0 = λ y. IsLink c (set old (p + 2) x) y in
    let this : IsLink c old p = s.left p (inl refl) in
    let r : Relinked c [] old (set old (p + 2) x) = relinked-next c [] old (p + 2) x this.next in
    let k : Kept c c old (set old (p + 2) x) = relinked-kept c [] old (set old (p + 2) x) single (λ y j inside h. inside) r in
    let back : Kept c c (set old (p + 2) x) old = relinked-back c [] old (set old (p + 2) x) single (λ y j inside h. inside) r in
    let other : (q : ℕ) → (q ≡ p + 2 → ⊥) → get_or (set old (p + 2) x) q 0 ≡ get_or old q 0 = λ q far. get_or-set_other old (p + 2) q x 0 far in
    subst Z (sym s.rest.0) (record {
      rest = leads-stays old (set old (p + 2) x) (get_or old (p + 2) 0) os 0
          (λ q inside. other (q + 2) (λ e. let same : q ≡ p = omega (arith, e) in s.once_left.0 (subst T same inside))) s.rest.1;
      once_left = s.once_left.1;
      left = λ q inside. link-stays c c old (set old (p + 2) x) q k (s.left q (inr inside));
      chain = leads-stays old (set old (p + 2) x) first kept 0
          (λ q inside. other (q + 2) (λ e. let same : q ≡ p = omega (arith, e) in s.apart p (inl refl) (subst S same inside))) s.chain;
      once = s.once;
      each = λ q inside. link-stays c c old (set old (p + 2) x) q k (s.each q inside);
      apart = λ q inside hit. s.apart q (inr inside) hit;
      beside = λ q inside. elim inside [
        | inl e ↦ subst P (sym e) (link-stays c c old (set old (p + 2) x) p k this)
        | inr deep ↦ link-stays c c old (set old (p + 2) x) q k (s.beside q deep)
      ];
      counts = λ v n there.
          let was : get_or old (v + 2) 0 ≡ names_it (named old p) v + naming old v os + naming old v kept + naming old v further =
          s.counts v n (record-stays c c (set old (p + 2) x) old v n back there) in
          let a : naming (set old (p + 2) x) v os ≡ naming old v os = naming-stays c c old (set old (p + 2) x) v os k (λ q inside. s.left q (inr inside)) in
          let b : names_it (named (set old (p + 2) x) p) v ≡ names_it (named old p) v = ap (λ y. names_it y v) (link-named c c old (set old (p + 2) x) p k this) in
          let d : naming (set old (p + 2) x) v kept ≡ naming old v kept = naming-stays c c old (set old (p + 2) x) v kept k s.each in
          let e : naming (set old (p + 2) x) v further ≡ naming old v further = naming-stays c c old (set old (p + 2) x) v further k s.beside in
          other (v + 2) (λ at. roles-apart c (p + 2) (v + 2) single this.next (record-counted c (set old (p + 2) x) v n there) (sym at)) ∙ omega (arith, was, a, b, d, e);
    })

-- The first object of the one chain becomes the first of the other.
pub turned-one : (c : ℕ → ℕ → Bool) (old : List ℕ) (head p : ℕ) (os : List ℕ) (first : ℕ) (kept further : List ℕ) → IsSingle c → Turning c old head (p ∷ os) first kept further
    → Turning c (set old (head + 2) first) (get_or old (head + 2) 0) os head (head ∷ kept) further
turned-one c old head p os first kept further single s =
    let P : ℕ → Type 0 = λ x. Turning c (set old (x + 2) first) (get_or old (x + 2) 0) os x (x ∷ kept) further in
    let this : IsLink c old p = s.left p (inl refl) in
    let r : Relinked c [] old (set old (p + 2) first) = relinked-next c [] old (p + 2) first this.next in
    subst P (sym s.rest.0)
    (turn-step c old (set old (p + 2) first) head p os first kept further single (relinked-kept c [] old (set old (p + 2) first) single (λ x k inside h. inside) r)
    (relinked-back c [] old (set old (p + 2) first) single (λ x k inside h. inside) r)
    (λ q far. get_or-set_other old (p + 2) q first 0 far) (get_or-set_at old (p + 2) (p + 2) first 0 refl (omega (arith, this.within))) s)

pub turn-begins : (c : ℕ → ℕ → Bool) (mem : List ℕ) (head : ℕ) (os further : List ℕ) → Links c mem head os further → Turning c mem head os 0 [] further
turn-begins c mem head os further l = record {
  rest = l.chain;
  once_left = l.once;
  left = l.each;
  chain = refl;
  once = tt;
  each = λ p inside. absurd inside;
  apart = λ p inside hit. hit;
  beside = l.beside;
  counts = λ v n there. l.counts v n there ∙ omega arith;
}

pub turn-ends : (c : ℕ → ℕ → Bool) (mem : List ℕ) (head first : ℕ) (kept further : List ℕ) → Turning c mem head [] first kept further → Links c mem first kept further
turn-ends c mem head first kept further s = record { chain = s.chain; once = s.once; each = s.each; beside = s.beside; counts = λ v n there. s.counts v n there ∙ omega arith }

pub only-relinked : (c : ℕ → ℕ → Bool) (old new : List ℕ) → OnlyNext c old new → Relinked c [] old new
only-relinked c old new w = record { same_len = w.same_len; same = λ q n k o. w.same q n }

-- A whole chain, put before another one so far.
pub record Turns (c : ℕ → ℕ → Bool) (start mem : List ℕ) (head first i : ℕ) (os base further : List ℕ) : Type 0 where
  pub rest : List ℕ
  pub kept : List ℕ
  pub now : Turning c mem head rest first kept further
  pub number : i + length rest ≡ length os
  pub whole : turned rest kept ≡ turned os base
  pub writes : OnlyNext c start mem
  pub others : (q : ℕ) → ((p : ℕ) → In p kept → q ≡ p + 2 → ⊥) → get_or mem q 0 ≡ get_or start q 0

pub turns-begin : (c : ℕ → ℕ → Bool) (mem : List ℕ) (head first : ℕ) (os base further : List ℕ) → Turning c mem head os first base further → Turns c mem mem head first 0 os base further
turns-begin c mem head first os base further t = record {
  rest = os;
  kept = base;
  now = t;
  number = omega arith;
  whole = refl;
  writes = record { same_len = refl; same = λ q n. refl };
  others = λ q out. refl;
}

module _ (c : ℕ → ℕ → Bool) (start mem : List ℕ) (head first i : ℕ) (os base further : List ℕ) (s : Turns c start mem head first i os base further) (more : i < length os) where
  next : Goes s.rest
  next = goes s.rest (omega (arith, s.number, more))

  turning : Turning c mem head (next.p ∷ next.left) first s.kept further
  turning = let P : List ℕ → Type 0 = λ xs. Turning c mem head xs first s.kept further in subst P next.is s.now

  link-here : IsLink c mem head
  link-here = let P : ℕ → Type 0 = λ x. IsLink c mem x in subst P (sym turning.rest.0) (turning.left next.p (inl refl))

  pub turns-within : head + 6 ≤ length mem
  turns-within = link-here.within

  pub turns-more : IsSingle c → Turns c start (set mem (head + 2) first) (get_or mem (head + 2) 0) head (i + 1) os base further
  turns-more single = record {
    rest = next.left;
    kept = head ∷ s.kept;
    now = turned-one c mem head next.p next.left first s.kept further single turning;
    number = omega (arith, s.number, ap length next.is);
    whole = ap (λ x. turned next.left (x ∷ s.kept)) turning.rest.0 ∙ (ap (λ xs. turned xs s.kept) (sym next.is) ∙ s.whole);
    writes = record {
      same_len = length-set mem (head + 2) first ∙ s.writes.same_len;
      same = λ q n. get_or-set_other mem (head + 2) q first 0 (λ e. let P : ℕ → Type 0 = λ x. c x NEXT ≡ true in n (subst P (sym e) link-here.next)) ∙ s.writes.same q n;
    };
    others = λ q out. get_or-set_other mem (head + 2) q first 0 (λ e. out head (inl refl) e) ∙ s.others q (λ p i. out p (inr i));
  }

pub turns-done : (c : ℕ → ℕ → Bool) (start mem : List ℕ) (head first i : ℕ) (os base further : List ℕ) → IsSingle c → Turns c start mem head first i os base further → length os ≤ i
    → TurnedOnto c start mem first os base further
turns-done c start mem head first i os base further single s end =
    let over : s.rest ≡ [] = none-left s.rest (omega (arith, s.number, end)) in
    let P : List ℕ → Type 0 = λ xs. Turning c mem head xs first s.kept further in
    let Q : List ℕ → Type 0 = λ xs. Links c mem first xs further in
    let R : List ℕ → Type 0 = λ xs. (q : ℕ) → ((p : ℕ) → In p xs → q ≡ p + 2 → ⊥) → get_or mem q 0 ≡ get_or start q 0 in
    record {
      links = subst Q (sym (ap (λ xs. turned xs s.kept) over) ∙ s.whole) (turn-ends c mem head first s.kept further (subst P over s.now));
      writes = s.writes;
      others = subst R (sym (ap (λ xs. turned xs s.kept) over) ∙ s.whole) s.others;
      trees = relinked-keeps c [] start mem single (λ x k inside h. inside) (only-relinked c start mem s.writes);
    }

-- A list turned round twice is the list.

pub turned-twice : (xs ys zs : List ℕ) → turned (turned xs ys) zs ≡ turned ys (xs ++ zs)
turned-twice [] ys zs = refl
turned-twice (x ∷ xs) ys zs = turned-twice xs (x ∷ ys) zs

pub turned-back : (xs : List ℕ) → turned (turned xs []) [] ≡ xs
turned-back xs = turned-twice xs [] [] ∙ append-nil xs

pub turned-has : (q : ℕ) (xs ys : List ℕ) → In q xs ⊎ In q ys → In q (turned xs ys)
turned-has q [] ys (inl i) = absurd i
turned-has q [] ys (inr i) = i
turned-has q (x ∷ xs) ys (inl (inl e)) = turned-has q xs (x ∷ ys) (inr (inl e))
turned-has q (x ∷ xs) ys (inl (inr i)) = turned-has q xs (x ∷ ys) (inl i)
turned-has q (x ∷ xs) ys (inr i) = turned-has q xs (x ∷ ys) (inr (inr i))

pub turned-length : (xs ys : List ℕ) → length (turned xs ys) ≡ length xs + length ys
turned-length [] ys = omega arith
turned-length (x ∷ xs) ys = omega (arith, turned-length xs (x ∷ ys))

pub turned-held : (mem xs ys : List ℕ) → bin_words_of_all mem (turned xs ys) ≡ bin_words_of_all mem xs + bin_words_of_all mem ys
turned-held mem [] ys = omega arith
turned-held mem (x ∷ xs) ys = omega (arith, turned-held mem xs (x ∷ ys))

-- The objects that ended a record are told still when words `next` were written.
module _ (c : ℕ → ℕ → Bool) (start old new : List ℕ) (last : ℕ) (ends : List ℕ) (single : IsSingle c) (w : OnlyNext c old new) (r : EndRecords c start old last ends) where
  read-still : (q a : ℕ) → In q ends → IsReadAt old q a → get_or new a 0 ≡ get_or old a 0
  read-still q a inside at = w.same a ((r.each q inside).old.none a NEXT at)

  object-still : (q : ℕ) → In q ends → SameObject old new q
  object-still q inside = record { first = read-still q q inside (inl refl); name = read-still q (name_place old q) inside (inr (inr refl)) }

  kept-here : Kept c c old new
  kept-here = relinked-kept c [] old new single (λ x k i h. i) (only-relinked c old new w)

  back-here : Kept c c new old
  back-here = relinked-back c [] old new single (λ x k i h. i) (only-relinked c old new w)

  count-still : (v : ℕ) → c (v + 2) COUNT ≡ true → get_or new (v + 2) 0 ≡ get_or old (v + 2) 0
  count-still v h = w.same (v + 2) (λ n. roles-apart c (v + 2) (v + 2) single n h refl)

  records-still : named_records new ends ≡ named_records old ends
  records-still = records-same old new ends object-still

  pub ends-still : EndRecords c start new last ends
  ends-still = record {
    chain = leads-stays old new last ends 0 (λ q inside. read-still q (q + 2) inside (inr (inl refl))) r.chain;
    each = λ q inside.
        let l : IsLast c old q = r.each q inside in
        let x : SameObject old new q = object-still q inside in
        record {
          old = old-stays old new q x c kept-here l.old;
          left = moved-same old new q x ∙ l.left;
          freed = ap (λ v. get_or new (v + 2) 0) (named-same old new q x)
              ∙ (count-still (named old q) (record-counted c old (named old q) l.old.words (l.old.left l.left)) ∙ l.freed);
        };
    once = subst Distinct (sym records-still) r.once;
    only = λ q inside. let P : ℕ → Type 0 = λ v. 0 < get_or start (v + 2) 0 in subst P (sym (named-same old new q (object-still q inside))) (r.only q inside);
    all = λ v n there zero some.
        let P : List ℕ → Type 0 = λ xs. In v xs in
        subst P (sym records-still)
        (r.all v n (record-stays c c new old v n back-here there) (sym (count-still v (record-counted c new v n there)) ∙ zero) some);
  }

-- A chain that was swept, and then turned round, has the order of the old one.
pub in-old-order : (c : ℕ → ℕ → Bool) (start mem mem2 : List ℕ) (os xs further : List ℕ) (left : Survivors) (first : ℕ) → IsSingle c
    → SweptWhole c start mem os (turned xs []) further left → TurnedWhole c mem mem2 first (turned xs []) further
    → SweptWhole c start mem2 os xs further (record { first = first; len = left.len; words = left.words; last = left.last; freed = left.freed })
in-old-order c start mem mem2 os xs further left first single s t =
    let P : List ℕ → Type 0 = λ ys. Links c mem2 first ys further in
    let links : Links c mem2 first xs further = subst P (turned-back xs) t.links in
    let back : Kept c c mem2 mem = relinked-back c [] mem mem2 single (λ x k i h. i) (only-relinked c mem mem2 t.writes) in
    record {
      links = links;
      len = s.len ∙ (turned-length xs [] ∙ omega arith);
      words = s.words ∙ (turned-held mem xs [] ∙ omega (arith, all-held-stay c c mem2 mem xs back links.each));
      ends = s.ends;
      records = ends-still c start mem mem2 left.last s.ends single t.writes s.records;
      freed = s.freed;
      writes = relinked-then c os start mem mem2 s.writes (relinked-wider c [] os mem mem2 (λ p i. absurd i) (only-relinked c mem mem2 t.writes));
      nexts = λ q h out.
          let I : ℕ → List ℕ → Type 0 = λ p zs. In p zs in
          t.others q (λ p i. out p (subst (I p) (turned-back xs) i)) ∙ s.nexts q h (λ p i. out p (subst (I p) (turned-back xs) (turned-has p (turned xs []) [] (inl i))));
      content = kept-then c start mem mem2 s.content (relinked-kept c [] mem mem2 single (λ x k i h. i) (only-relinked c mem mem2 t.writes));
      back = kept-then c mem2 mem start back s.back;
      trees = record { each = λ shared w u st. t.trees.each shared w u (s.trees.each shared w u st) };
    }
