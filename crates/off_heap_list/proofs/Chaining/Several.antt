-- Several chains in one memory: one of them is a chain with the objects of the others beside it, and back.
use Rattle.std.proofs.Common.{◌≡◌, ℕ, ◌+◌, Bool, true, List, [], ◌∷◌, ◌++◌, refl, sym, ◌∙◌, ap, subst, arith, inl, inr}
use Rattle.std.proofs.lemmas.List.{append_assoc}
use Rattle.term_words.specs.Counted.{In, Distinct}
use Rattle.term_words.proofs.Totals.Members.{in-both, in-left, in-right, both-distinct}
use Rattle.shared_rec.specs.Record.{count_in}
use Rattle.off_heap_list.specs.Links.{naming, IsLink, Links}
use Rattle.off_heap_list.specs.Exact.{AllCounted, OwnChain, AreOwn, objects_of, Chained}
use Rattle.off_heap_list.specs.Several.{IsChainOf, AreChains, ManyLinks, AreListed, LeadAlike}
use Rattle.off_heap_list.proofs.Chaining.Chained.{leads-stays}
use Rattle.off_heap_list.proofs.Chaining.Exact.{distinct-left, distinct-right, naming-both}

objects-both : (xs ys : List OwnChain) → objects_of (xs ++ ys) ≡ objects_of xs ++ objects_of ys
objects-both [] ys = refl
objects-both (x ∷ xs) ys = ap (λ zs. x.os ++ zs) (objects-both xs ys) ∙ sym (append_assoc x.os (objects_of xs) (objects_of ys))

chain-at : (mem : List ℕ) (xs ys : List OwnChain) (x : OwnChain) → AreChains mem (xs ++ x ∷ ys) → IsChainOf mem x
chain-at mem [] ys x (o, os) = o
chain-at mem (z ∷ xs) ys x (o, os) = chain-at mem xs ys x os

distinct-apart : (xs ys : List ℕ) → Distinct (xs ++ ys) → (v : ℕ) → In v xs → In v ys → ⊥
distinct-apart [] ys d v i j = i
distinct-apart (x ∷ xs) ys (n, d) v (inl e) j = let P : ℕ → Type 0 = λ z. In z ys in n (in-right x xs ys (subst P e j))
distinct-apart (x ∷ xs) ys (n, d) v (inr i) j = distinct-apart xs ys d v i j

-- One of them.
module _ (c : ℕ → ℕ → Bool) (mem : List ℕ) (xs ys : List OwnChain) (x : OwnChain) (further : List ℕ) (k : ManyLinks c mem (xs ++ x ∷ ys) further) where
  split : objects_of (xs ++ x ∷ ys) ≡ objects_of xs ++ (x.os ++ objects_of ys)
  split = objects-both xs (x ∷ ys)

  link-at : (p : ℕ) → In p (objects_of xs ++ (x.os ++ objects_of ys)) → IsLink c mem p
  link-at p inside = let P : List ℕ → Type 0 = λ zs. In p zs in k.each p (subst P (sym split) inside)

  others-in : (p : ℕ) → In p (objects_of xs ++ (objects_of ys ++ further)) → IsLink c mem p
  others-in p inside = elim (in-both p (objects_of xs) (objects_of ys ++ further) inside) [
    | inl a ↦ link-at p (in-left p (objects_of xs) (x.os ++ objects_of ys) a)
    | inr rest ↦ elim (in-both p (objects_of ys) further rest) [
      | inl b ↦ link-at p (in-right p (objects_of xs) (x.os ++ objects_of ys) (in-right p x.os (objects_of ys) b))
      | inr f ↦ k.beside p f
    ]
  ]

  pub one-of-many : Links c mem x.head x.os (objects_of xs ++ (objects_of ys ++ further))
  one-of-many = record {
    chain = (chain-at mem xs ys x k.chains).chain;
    once = distinct-left x.os (objects_of ys) (distinct-right (objects_of xs) (x.os ++ objects_of ys) (subst Distinct split (distinct-left (objects_of (xs ++ x ∷ ys)) further k.once)));
    each = λ p inside. link-at p (in-right p (objects_of xs) (x.os ++ objects_of ys) (in-left p x.os (objects_of ys) inside));
    beside = others-in;
    counts = λ v n there.
        let was : count_in mem v ≡ naming mem v (objects_of (xs ++ x ∷ ys)) + naming mem v further = k.counts v n there in
        omega (
          arith,
          was,
          ap (λ zs. naming mem v zs) split,
          naming-both mem v (objects_of xs) (x.os ++ objects_of ys),
          naming-both mem v x.os (objects_of ys),
          naming-both mem v (objects_of xs) (objects_of ys ++ further),
          naming-both mem v (objects_of ys) further,
        );
  }

-- And back: where one chain is so and the others are, all are.
pub many-again : (c : ℕ → ℕ → Bool) (mem : List ℕ) (xs ys : List OwnChain) (x : OwnChain) (further : List ℕ) → AreChains mem (xs ++ x ∷ ys)
    → Distinct (objects_of (xs ++ x ∷ ys) ++ further) → Links c mem x.head x.os (objects_of xs ++ (objects_of ys ++ further)) → ManyLinks c mem (xs ++ x ∷ ys) further
many-again c mem xs ys x further chains once l =
    let parted : objects_of (xs ++ x ∷ ys) ≡ objects_of xs ++ (x.os ++ objects_of ys) = objects-both xs (x ∷ ys) in
    record {
      chains = chains;
      once = once;
      each = λ p inside.
          let P : List ℕ → Type 0 = λ zs. In p zs in
          elim (in-both p (objects_of xs) (x.os ++ objects_of ys) (subst P parted inside)) [
            | inl a ↦ l.beside p (in-left p (objects_of xs) (objects_of ys ++ further) a)
            | inr rest ↦ elim (in-both p x.os (objects_of ys) rest) [
              | inl b ↦ l.each p b
              | inr d ↦ l.beside p (in-right p (objects_of xs) (objects_of ys ++ further) (in-left p (objects_of ys) further d))
            ]
          ];
      beside = λ p inside. l.beside p (in-right p (objects_of xs) (objects_of ys ++ further) (in-right p (objects_of ys) further inside));
      counts = λ v n there.
          omega (
            arith,
            l.counts v n there,
            ap (λ zs. naming mem v zs) parted,
            naming-both mem v (objects_of xs) (x.os ++ objects_of ys),
            naming-both mem v x.os (objects_of ys),
            naming-both mem v (objects_of xs) (objects_of ys ++ further),
            naming-both mem v (objects_of ys) further,
          );
    }

-- Another chain comes in the place of one, while the others lead on as before.

chains-changed : (old new : List ℕ) (xs ys : List OwnChain) (x y : OwnChain) → AreChains old (xs ++ x ∷ ys) → LeadAlike old new (objects_of xs) → LeadAlike old new (objects_of ys)
    → IsChainOf new y → AreChains new (xs ++ y ∷ ys)
chains-changed old new [] ys x y (o, os) left right is = (is, those ys os right)
  where
    those : (zs : List OwnChain) → AreChains old zs → LeadAlike old new (objects_of zs) → AreChains new zs
    those [] a alike = tt
    those (z ∷ zs) (a, as-are) alike = (
      record { chain = leads-stays old new z.head z.os 0 (λ p i. alike p (in-left p z.os (objects_of zs) i)) a.chain; inside = a.inside },
      those zs as-are (λ p i. alike p (in-right p z.os (objects_of zs) i)),
    )
chains-changed old new (z ∷ xs) ys x y (o, os) left right is = (
  record { chain = leads-stays old new z.head z.os 0 (λ p i. left p (in-left p z.os (objects_of xs) i)) o.chain; inside = o.inside },
  chains-changed old new xs ys x y os (λ p i. left p (in-right p z.os (objects_of xs) i)) right is,
)

pub many-changed : (c d : ℕ → ℕ → Bool) (old new : List ℕ) (xs ys : List OwnChain) (x y : OwnChain) (further : List ℕ) → ManyLinks c old (xs ++ x ∷ ys) further
    → LeadAlike old new (objects_of xs ++ objects_of ys) → ((p : ℕ) → In p y.os → y.mine p ≡ true)
    → ((p : ℕ) → In p y.os → In p (objects_of xs ++ (objects_of ys ++ further)) → ⊥) → Links d new y.head y.os (objects_of xs ++ (objects_of ys ++ further))
    → ManyLinks d new (xs ++ y ∷ ys) further
many-changed c d old new xs ys x y further k alike mine apart l =
    let was : objects_of (xs ++ x ∷ ys) ++ further ≡ objects_of xs ++ (x.os ++ (objects_of ys ++ further)) =
    ap (λ zs. zs ++ further) (objects-both xs (x ∷ ys))
    ∙ (append_assoc (objects_of xs) (x.os ++ objects_of ys) further ∙ ap (λ zs. objects_of xs ++ zs) (append_assoc x.os (objects_of ys) further)) in
    let is : objects_of (xs ++ y ∷ ys) ++ further ≡ objects_of xs ++ (y.os ++ (objects_of ys ++ further)) =
    ap (λ zs. zs ++ further) (objects-both xs (y ∷ ys))
    ∙ (append_assoc (objects_of xs) (y.os ++ objects_of ys) further ∙ ap (λ zs. objects_of xs ++ zs) (append_assoc y.os (objects_of ys) further)) in
    let d-all : Distinct (objects_of xs ++ (x.os ++ (objects_of ys ++ further))) = subst Distinct was k.once in
    let d-rest : Distinct (objects_of ys ++ further) = distinct-right x.os (objects_of ys ++ further) (distinct-right (objects_of xs) (x.os ++ (objects_of ys ++ further)) d-all) in
    let d-new : Distinct (y.os ++ (objects_of ys ++ further)) =
    both-distinct y.os (objects_of ys ++ further) l.once d-rest (λ v i j. apart v i (in-right v (objects_of xs) (objects_of ys ++ further) j)) in
    let d-both : Distinct (objects_of xs ++ (y.os ++ (objects_of ys ++ further))) =
    both-distinct (objects_of xs) (y.os ++ (objects_of ys ++ further)) (distinct-left (objects_of xs) (x.os ++ (objects_of ys ++ further)) d-all) d-new (λ v i j.
    elim (in-both v y.os (objects_of ys ++ further) j) [
      | inl a ↦ apart v a (in-left v (objects_of xs) (objects_of ys ++ further) i)
      | inr b ↦ distinct-apart (objects_of xs) (x.os ++ (objects_of ys ++ further)) d-all v i (in-right v x.os (objects_of ys ++ further) b)
    ]) in
    many-again d new xs ys y further
    (chains-changed old new xs ys x y k.chains (λ p i. alike p (in-left p (objects_of xs) (objects_of ys) i)) (λ p i. alike p (in-right p (objects_of xs) (objects_of ys) i))
    (record { chain = l.chain; inside = mine }))
    (subst Distinct (sym is) d-both) l

-- None of them: all objects stand beside an empty chain.

pub none-of-many : (c : ℕ → ℕ → Bool) (mem : List ℕ) (xs : List OwnChain) (further : List ℕ) → ManyLinks c mem xs further → Links c mem 0 [] (objects_of xs ++ further)
none-of-many c mem xs further k = record {
  chain = refl;
  once = tt;
  each = λ p i. absurd i;
  beside = λ p i. elim (in-both p (objects_of xs) further i) [ inl a ↦ k.each p a | inr b ↦ k.beside p b ];
  counts = λ v n there. omega (arith, k.counts v n there, naming-both mem v (objects_of xs) further);
}

pub many-of-none : (c : ℕ → ℕ → Bool) (mem : List ℕ) (xs : List OwnChain) (further : List ℕ) → AreChains mem xs → Distinct (objects_of xs ++ further)
    → Links c mem 0 [] (objects_of xs ++ further) → ManyLinks c mem xs further
many-of-none c mem xs further chains once l = record {
  chains = chains;
  once = once;
  each = λ p i. l.beside p (in-left p (objects_of xs) further i);
  beside = λ p i. l.beside p (in-right p (objects_of xs) further i);
  counts = λ v n there. omega (arith, l.counts v n there, naming-both mem v (objects_of xs) further);
}

-- What stands beside a chain may be told in another order.
pub beside-swapped : (c : ℕ → ℕ → Bool) (mem : List ℕ) (head : ℕ) (os xs ys zs : List ℕ) → Links c mem head os (xs ++ (ys ++ zs)) → Links c mem head os (ys ++ (xs ++ zs))
beside-swapped c mem head os xs ys zs l = record {
  chain = l.chain;
  once = l.once;
  each = l.each;
  beside = λ p i. elim (in-both p ys (xs ++ zs) i) [
    | inl a ↦ l.beside p (in-right p xs (ys ++ zs) (in-left p ys zs a))
    | inr j ↦ elim (in-both p xs zs j) [
      | inl b ↦ l.beside p (in-left p xs (ys ++ zs) b)
      | inr e ↦ l.beside p (in-right p xs (ys ++ zs) (in-right p ys zs e))
    ]
  ];
  counts = λ v n there. omega (
    arith,
    l.counts v n there,
    naming-both mem v xs (ys ++ zs),
    naming-both mem v ys zs,
    naming-both mem v ys (xs ++ zs),
    naming-both mem v xs zs,
  );
}

-- With what the roots reach.

own-chains : (c : ℕ → ℕ → Bool) (mem roots : List ℕ) (xs : List OwnChain) → AreOwn c mem roots xs → AreChains mem xs × AreListed c mem roots xs
own-chains c mem roots [] own = (tt, tt)
own-chains c mem roots (x ∷ xs) (o, os) =
    let (chains, listed) = own-chains c mem roots xs os in ((record { chain = o.chain; inside = o.inside }, chains), (o.all, listed))

chains-own : (c : ℕ → ℕ → Bool) (mem roots : List ℕ) (xs : List OwnChain) → AreChains mem xs → AreListed c mem roots xs → AreOwn c mem roots xs
chains-own c mem roots [] chains listed = tt
chains-own c mem roots (x ∷ xs) (o, os) (all, listed) = (record { chain = o.chain; inside = o.inside; all = all }, chains-own c mem roots xs os listed)

pub chained-many : (c : ℕ → ℕ → Bool) (mem roots : List ℕ) (xs : List OwnChain) (further : List ℕ) → Chained c mem roots xs further
    → ManyLinks c mem xs further × AreListed c mem roots xs
chained-many c mem roots xs further k =
    let (chains, listed) = own-chains c mem roots xs k.own in
    (record { chains = chains; once = k.once; each = k.each; beside = k.beside; counts = k.counts }, listed)

pub many-chained : (c : ℕ → ℕ → Bool) (mem roots : List ℕ) (xs : List OwnChain) (further : List ℕ) → ManyLinks c mem xs further → AreListed c mem roots xs → AllCounted c mem
    → Chained c mem roots xs further
many-chained c mem roots xs further k listed some = record {
  own = chains-own c mem roots xs k.chains listed;
  once = k.once;
  each = k.each;
  beside = k.beside;
  counts = k.counts;
  some = some;
}

pub one-of-several : (c : ℕ → ℕ → Bool) (mem roots : List ℕ) (xs ys : List OwnChain) (x : OwnChain) (further : List ℕ) → Chained c mem roots (xs ++ x ∷ ys) further
    → Links c mem x.head x.os (objects_of xs ++ (objects_of ys ++ further))
one-of-several c mem roots xs ys x further k = one-of-many c mem xs ys x further (chained-many c mem roots (xs ++ x ∷ ys) further k).0

pub several-again : (c : ℕ → ℕ → Bool) (mem roots : List ℕ) (xs ys : List OwnChain) (x : OwnChain) (further : List ℕ) → AreOwn c mem roots (xs ++ x ∷ ys)
    → Distinct (objects_of (xs ++ x ∷ ys) ++ further) → AllCounted c mem → Links c mem x.head x.os (objects_of xs ++ (objects_of ys ++ further)) → Chained c mem roots (xs ++ x ∷ ys) further
several-again c mem roots xs ys x further own once some l =
    let (chains, listed) = own-chains c mem roots (xs ++ x ∷ ys) own in
    many-chained c mem roots (xs ++ x ∷ ys) further (many-again c mem xs ys x further chains once l) listed some
