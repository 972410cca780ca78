-- A chain is dealt object by object.
use Rattle.std.proofs.Common.{◌≡◌, ℕ, ◌+◌, ◌<◌, ◌≤◌, if◌then◌else◌, List, [], ◌∷◌, ◌++◌, Bool, true, false, length, get_or, set, refl, sym, ◌∙◌, subst, ap, arith, inl, inr, length-set, get_or-set_other}
use Rattle.word_mem.specs.declared.ranges.Span.{Span}
use Rattle.term_words.specs.Role.{NEXT, IsSingle}
use Rattle.term_words.specs.Kept.{Kept}
use Rattle.term_words.specs.Counted.{In}
use Rattle.term_words.proofs.Totals.Members.{in-left, in-right}
use Rattle.off_heap_list.specs.Links.{IsLink, Links}
use Rattle.off_heap_list.specs.Swept.{bin_words_at}
use Rattle.off_heap_list.specs.Turned.{Turning}
use Rattle.off_heap_list.specs.Whole.{turned, bin_words_of_all, OnlyNext, TurnedOnto}
use Rattle.off_heap_list.specs.Dealt.{lies_within, inside_of, outside_of, FrontLinks, Dealing, DealtApart, DealtWhole}
use Rattle.off_heap_list.specs.declared.deal.Deal.{Deal}
use Rattle.off_heap_list.proofs.Chaining.Exact.{naming-both}
use Rattle.off_heap_list.proofs.Walked.Sweeping.{relinked-kept, relinked-keeps}
use Rattle.off_heap_list.proofs.Walked.Tallied.{Goes, goes, none-left, all-held-few, all-held-stay, few-links, held-few}
use Rattle.off_heap_list.proofs.Walked.Turning.{only-relinked, turn-begins, turned-one, turned-has, turned-twice, turned-length, turned-held, turning-passes}

-- Dealt so far.
pub record Deals (c : ℕ → ℕ → Bool) (start mem : List ℕ) (deal : Deal) (i : ℕ) (os base further : List ℕ) (span : Span) : Type 0 where
  pub left : List ℕ
  pub ys : List ℕ
  pub zs : List ℕ
  pub now : Dealing c mem deal.rest left deal.young ys deal.aged zs further
  pub number : i + length left ≡ length os
  pub outer : turned (outside_of span left) ys ≡ turned (outside_of span os) []
  pub inner : turned (inside_of span left) zs ≡ turned (inside_of span os) base
  pub count : deal.count ≡ length ys
  pub words : deal.words ≡ bin_words_of_all mem ys
  pub few : deal.count ≤ i
  pub writes : OnlyNext c start mem
  pub others : (q : ℕ) → ((p : ℕ) → In p ys → q ≡ p + 2 → ⊥) → ((p : ℕ) → In p zs → q ≡ p + 2 → ⊥) → get_or mem q 0 ≡ get_or start q 0

pub deals-begin : (c : ℕ → ℕ → Bool) (mem : List ℕ) (head to : ℕ) (os base further : List ℕ) (span : Span) → FrontLinks c mem head os to base further
    → Deals c mem mem (record { rest = head; young = 0; count = 0; words = 0; aged = to }) 0 os base further span
deals-begin c mem head to os base further span f = record {
  left = os;
  ys = [];
  zs = base;
  now = record {
    outer = turn-begins c mem head os (base ++ further) f.links;
    inner = record {
      rest = f.links.chain;
      once_left = f.links.once;
      left = f.links.each;
      chain = f.chain;
      once = f.once;
      each = λ p inside. f.links.beside p (in-left p base further inside);
      apart = f.apart;
      beside = λ p inside. f.links.beside p (in-right p base further inside);
      counts = λ v n there. omega (arith, f.links.counts v n there, naming-both mem v base further);
    };
    apart = λ p inside hit. inside;
  };
  number = omega arith;
  outer = refl;
  inner = refl;
  count = refl;
  words = refl;
  few = omega arith;
  writes = record { same_len = refl; same = λ q n. refl };
  others = λ q young aged. refl;
}

module _ (c : ℕ → ℕ → Bool) (start mem : List ℕ) (deal : Deal) (i : ℕ) (os base further : List ℕ) (span : Span) (s : Deals c start mem deal i os base further span) where
  pub deals-words : length mem ≤ 16777216 → deal.words ≤ 281474976710656
  deals-words most = omega (arith, s.words, all-held-few c mem s.ys most s.now.outer.each, few-links c mem s.ys s.now.outer.once s.now.outer.each, most)

  module _ (more : i < length os) where
    next : Goes s.left
    next = goes s.left (omega (arith, s.number, more))

    outer-now : Turning c mem deal.rest (next.p ∷ next.left) deal.young s.ys (s.zs ++ further)
    outer-now = let P : List ℕ → Type 0 = λ xs. Turning c mem deal.rest xs deal.young s.ys (s.zs ++ further) in subst P next.is s.now.outer

    inner-now : Turning c mem deal.rest (next.p ∷ next.left) deal.aged s.zs (s.ys ++ further)
    inner-now = let P : List ℕ → Type 0 = λ xs. Turning c mem deal.rest xs deal.aged s.zs (s.ys ++ further) in subst P next.is s.now.inner

    link-here : IsLink c mem deal.rest
    link-here = let P : ℕ → Type 0 = λ x. IsLink c mem x in subst P (sym outer-now.rest.0) (outer-now.left next.p (inl refl))

    pub deals-object : deal.rest + 6 ≤ length mem
    deals-object = link-here.within

    pub deals-held : length mem ≤ 16777216 → bin_words_at mem deal.rest ≤ 16777216
    deals-held most = omega (arith, held-few c mem deal.rest link-here, most)

    not-in : (kept further2 : List ℕ) (first : ℕ) → Turning c mem deal.rest (next.p ∷ next.left) first kept further2 → In deal.rest kept → ⊥
    not-in kept further2 first t h = let P : ℕ → Type 0 = λ x. In x kept in t.apart next.p (inl refl) (subst P outer-now.rest.0 h)

    written : (x : ℕ) → OnlyNext c start (set mem (deal.rest + 2) x)
    written x = record {
      same_len = length-set mem (deal.rest + 2) x ∙ s.writes.same_len;
      same = λ q n. get_or-set_other mem (deal.rest + 2) q x 0 (λ e. let P : ℕ → Type 0 = λ y. c y NEXT ≡ true in n (subst P (sym e) link-here.next)) ∙ s.writes.same q n;
    }

    held-same : (x : ℕ) → IsSingle c → (ps : List ℕ) → ((p : ℕ) → In p ps → IsLink c mem p) → bin_words_of_all (set mem (deal.rest + 2) x) ps ≡ bin_words_of_all mem ps
    held-same x single ps each =
        all-held-stay c c mem (set mem (deal.rest + 2) x) ps (relinked-kept c [] mem (set mem (deal.rest + 2) x) single (λ y k j h. j) (record {
          same_len = length-set mem (deal.rest + 2) x;
          same = λ q n k w. get_or-set_other mem (deal.rest + 2) q x 0 (λ e. let P : ℕ → Type 0 = λ y. c y NEXT ≡ true in n (subst P (sym e) link-here.next));
        })) each

    number-next : (i + 1) + length next.left ≡ length os
    number-next = omega (arith, s.number, ap length next.is)

    same-head : lies_within span next.p ≡ lies_within span deal.rest
    same-head = ap (lies_within span) (sym outer-now.rest.0)

    pub deals-inside : IsSingle c → lies_within span deal.rest ≡ true
        → Deals c start (set mem (deal.rest + 2) deal.aged) (record deal { rest = get_or mem (deal.rest + 2) 0; aged = deal.rest }) (i + 1) os base further span
    deals-inside single is =
        let within : lies_within span next.p ≡ true = same-head ∙ is in
        record {
          left = next.left;
          ys = s.ys;
          zs = deal.rest ∷ s.zs;
          now = record {
            outer = turning-passes c mem deal.rest next.p next.left deal.young s.ys (s.zs ++ further) deal.aged single outer-now;
            inner = turned-one c mem deal.rest next.p next.left deal.aged s.zs (s.ys ++ further) single inner-now;
            apart = λ p inside hit. elim hit [
              | inl e ↦ (let P : ℕ → Type 0 = λ x. In x s.ys in not-in s.ys (s.zs ++ further) deal.young outer-now (subst P e inside))
              | inr deep ↦ s.now.apart p inside deep
            ];
          };
          number = number-next;
          outer = ap (λ b. turned (if b then outside_of span next.left else next.p ∷ outside_of span next.left) s.ys) (sym within)
              ∙ (ap (λ xs. turned (outside_of span xs) s.ys) (sym next.is) ∙ s.outer);
          inner = ap (λ x. turned (inside_of span next.left) (x ∷ s.zs)) outer-now.rest.0
              ∙ (ap (λ b. turned (if b then next.p ∷ inside_of span next.left else inside_of span next.left) s.zs) (sym within)
              ∙ (ap (λ xs. turned (inside_of span xs) s.zs) (sym next.is) ∙ s.inner));
          count = s.count;
          words = s.words ∙ sym (held-same deal.aged single s.ys s.now.outer.each);
          few = omega (arith, s.few);
          writes = written deal.aged;
          others = λ q young aged. get_or-set_other mem (deal.rest + 2) q deal.aged 0 (λ e. aged deal.rest (inl refl) e) ∙ s.others q young (λ p i. aged p (inr i));
        }

    pub deals-outside : IsSingle c → lies_within span deal.rest ≡ false → Deals c start (set mem (deal.rest + 2) deal.young)
        (record deal { rest = get_or mem (deal.rest + 2) 0; young = deal.rest; count = deal.count + 1; words = deal.words + bin_words_at mem deal.rest }) (i + 1) os base further span
    deals-outside single is =
        let beyond : lies_within span next.p ≡ false = same-head ∙ is in
        let links : (p : ℕ) → In p (deal.rest ∷ s.ys) → IsLink c mem p = λ p inside.
        elim inside [ inl e ↦ (let P : ℕ → Type 0 = λ x. IsLink c mem x in subst P (sym e) link-here) | inr deep ↦ s.now.outer.each p deep ] in
        record {
          left = next.left;
          ys = deal.rest ∷ s.ys;
          zs = s.zs;
          now = record {
            outer = turned-one c mem deal.rest next.p next.left deal.young s.ys (s.zs ++ further) single outer-now;
            inner = turning-passes c mem deal.rest next.p next.left deal.aged s.zs (s.ys ++ further) deal.young single inner-now;
            apart = λ p inside hit. elim inside [
              | inl e ↦ (let P : ℕ → Type 0 = λ x. In x s.zs in not-in s.zs (s.ys ++ further) deal.aged inner-now (subst P e hit))
              | inr deep ↦ s.now.apart p deep hit
            ];
          };
          number = number-next;
          outer = ap (λ x. turned (outside_of span next.left) (x ∷ s.ys)) outer-now.rest.0
              ∙ (ap (λ b. turned (if b then outside_of span next.left else next.p ∷ outside_of span next.left) s.ys) (sym beyond)
              ∙ (ap (λ xs. turned (outside_of span xs) s.ys) (sym next.is) ∙ s.outer));
          inner = ap (λ b. turned (if b then next.p ∷ inside_of span next.left else inside_of span next.left) s.zs) (sym beyond)
              ∙ (ap (λ xs. turned (inside_of span xs) s.zs) (sym next.is) ∙ s.inner);
          count = omega (arith, s.count);
          words = omega (arith, s.words, held-same deal.young single (deal.rest ∷ s.ys) links);
          few = omega (arith, s.few);
          writes = written deal.young;
          others = λ q young aged. get_or-set_other mem (deal.rest + 2) q deal.young 0 (λ e. young deal.rest (inl refl) e) ∙ s.others q (λ p i. young p (inr i)) aged;
        }

-- All were seen.
pub deals-done : (c : ℕ → ℕ → Bool) (start mem : List ℕ) (deal : Deal) (i : ℕ) (os base further : List ℕ) (span : Span) → IsSingle c
    → Deals c start mem deal i os base further span → length os ≤ i → DealtApart c start mem os base further span deal
deals-done c start mem deal i os base further span single s end-reached =
    let over : s.left ≡ [] = none-left s.left (omega (arith, s.number, end-reached)) in
    let outer : s.ys ≡ turned (outside_of span os) [] = sym (ap (λ xs. turned (outside_of span xs) s.ys) over) ∙ s.outer in
    let inner : s.zs ≡ turned (inside_of span os) base = sym (ap (λ xs. turned (inside_of span xs) s.zs) over) ∙ s.inner in
    let P : List ℕ → Type 0 = λ xs. Turning c mem deal.rest xs deal.aged s.zs (s.ys ++ further) in
    let last : Turning c mem deal.rest [] deal.aged s.zs (s.ys ++ further) = subst P over s.now.inner in
    let both : Turning c mem deal.young s.ys deal.aged s.zs further = record {
      rest = s.now.outer.chain;
      once_left = s.now.outer.once;
      left = s.now.outer.each;
      chain = last.chain;
      once = last.once;
      each = last.each;
      apart = s.now.apart;
      beside = λ p inside. last.beside p (in-right p s.ys further inside);
      counts = λ v n there. omega (arith, last.counts v n there, naming-both mem v s.ys further);
    } in
    let Q : List ℕ → Type 0 = λ xs. Turning c mem deal.young xs deal.aged s.zs further in
    let R : List ℕ → Type 0 = λ xs. Turning c mem deal.young (turned (outside_of span os) []) deal.aged xs further in
    let F : List ℕ → Type 0 = λ xs. (q : ℕ) → ((p : ℕ) → In p xs → q ≡ p + 2 → ⊥) → ((p : ℕ) → In p s.zs → q ≡ p + 2 → ⊥) → get_or mem q 0 ≡ get_or start q 0 in
    let G : List ℕ → Type 0 = λ xs. (q : ℕ) → ((p : ℕ) → In p (turned (outside_of span os) []) → q ≡ p + 2 → ⊥) → ((p : ℕ) → In p xs → q ≡ p + 2 → ⊥)
    → get_or mem q 0 ≡ get_or start q 0 in
    record {
      turning = subst R inner (subst Q outer both);
      count = s.count ∙ ap length outer;
      words = s.words ∙ ap (bin_words_of_all mem) outer;
      writes = s.writes;
      others = subst G inner (subst F outer s.others);
      trees = relinked-keeps c [] start mem single (λ x k inside h. inside) (only-relinked c start mem s.writes);
    }

pub dealt-whole : (c : ℕ → ℕ → Bool) (start mid mem : List ℕ) (first : ℕ) (deal : Deal) (os base further : List ℕ) (span : Span) → IsSingle c
    → DealtApart c start mid os base further span deal
    → TurnedOnto c mid mem first (turned (outside_of span os) []) (turned (inside_of span os) base) further
    → DealtWhole c start mem os base further span (record { first = first; young = deal.count; words = deal.words })
dealt-whole c start mid mem first deal os base further span single d t =
    let order : turned (turned (outside_of span os) []) (turned (inside_of span os) base) ≡ outside_of span os ++ turned (inside_of span os) base =
    turned-twice (outside_of span os) [] (turned (inside_of span os) base) in
    let P : List ℕ → Type 0 = λ xs. Links c mem first xs further in
    let I : ℕ → List ℕ → Type 0 = λ p xs. In p xs in
    let young : (p : ℕ) → In p (turned (outside_of span os) []) → In p (outside_of span os ++ turned (inside_of span os) base) =
    λ p i. subst (I p) order (turned-has p (turned (outside_of span os) []) (turned (inside_of span os) base) (inl i)) in
    let aged : (p : ℕ) → In p (turned (inside_of span os) base) → In p (outside_of span os ++ turned (inside_of span os) base) =
    λ p i. subst (I p) order (turned-has p (turned (outside_of span os) []) (turned (inside_of span os) base) (inr i)) in
    let back : (p : ℕ) → In p (turned (turned (outside_of span os) []) (turned (inside_of span os) base)) → In p (outside_of span os ++ turned (inside_of span os) base) =
    λ p i. subst (I p) order i in
    let kept : Kept c c mid mem = relinked-kept c [] mid mem single (λ x k inside h. inside) (only-relinked c mid mem t.writes) in
    record {
      links = subst P order t.links;
      young = omega (arith, d.count, turned-length (outside_of span os) []);
      words = omega (
        arith,
        d.words,
        turned-held mid (outside_of span os) [],
        all-held-stay c c mid mem (outside_of span os) kept (λ p i. d.turning.left p (turned-has p (outside_of span os) [] (inl i))),
      );
      writes = record { same_len = t.writes.same_len ∙ d.writes.same_len; same = λ q n. t.writes.same q n ∙ d.writes.same q n };
      others = λ q out. t.others q (λ p i. out p (back p i)) ∙ d.others q (λ p i. out p (young p i)) (λ p i. out p (aged p i));
      trees = record { each = λ shared w u st. t.trees.each shared w u (d.trees.each shared w u st) };
    }
