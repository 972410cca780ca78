-- Chains and counts where one map says where each holder, fun and record has come to lie.
use Rattle.std.proofs.Common.{◌≡◌, ℕ, ◌+◌, ◌<◌, ◌≤◌, ◌⊎◌, ◌==◌, if◌then◌else◌, Bool, true, List, [], ◌∷◌, ◌++◌, map, get_or, refl, sym, ◌∙◌, ap, subst, arith, inl, inr}
use Rattle.std.proofs.lemmas.Bool.{cases_Bool}
use Rattle.term_tags.specs.Words.{head_word}
use Rattle.term_tags.specs.declared.layouts.TheConstants.{HOLDER}
use Rattle.term_words.specs.Role.{NEXT, FIRST, FURTHER, NAMES}
use Rattle.term_words.specs.Object.{IsRecord}
use Rattle.term_words.specs.Counted.{In, Distinct}
use Rattle.term_words.specs.Relocated.{IsCopiedTo}
use Rattle.term_words.proofs.Totals.Members.{in-left, in-right}
use Rattle.shared_rec.specs.Record.{length_in}
use Rattle.shared_rec.proofs.Records.{bin-copied, fun-copied}
use Rattle.off_heap_list.specs.Links.{names_it, name_place, named, Leads, naming, IsLinkHeader, IsLink, Links}
use Rattle.off_heap_list.specs.Exact.{OwnChain, objects_of}
use Rattle.off_heap_list.specs.Several.{AreChains, ManyLinks}
use Rattle.off_heap_list.specs.Elsewhere.{IsLinkTo, LinksMoved, AreChainsTo}
use Rattle.off_heap_list.proofs.Chaining.Chained.{no-naming, one-naming}

-- Lists of places and their images.

pub in-map : (g : ℕ → ℕ) (q : ℕ) (ps : List ℕ) → In q (map g ps) → (p : ℕ) × (In p ps × (q ≡ g p))
in-map g q [] i = absurd i
in-map g q (p ∷ ps) (inl e) = (p, (inl refl, e))
in-map g q (p ∷ ps) (inr i) = (let (r, (j, e)) = in-map g q ps i in (r, (inr j, e)))

map-distinct : (g : ℕ → ℕ) (ps : List ℕ) → ((p q : ℕ) → In p ps → In q ps → g p ≡ g q → p ≡ q) → Distinct ps → Distinct (map g ps)
map-distinct g [] one d = tt
map-distinct g (p ∷ ps) one (n, d) = (
  (λ i.
      let (q, (j, e)) = in-map g (g p) ps i in
      let P : ℕ → Type 0 = λ x. In x ps in
      n (subst P (sym (one p q (inl refl) (inr j) e)) j)),
  map-distinct g ps (λ a b i j e. one a b (inr i) (inr j) e) d,
)

map-joined : (g : ℕ → ℕ) (xs ys : List ℕ) → map g (xs ++ ys) ≡ map g xs ++ map g ys
map-joined g [] ys = refl
map-joined g (x ∷ xs) ys = ap (λ zs. g x ∷ zs) (map-joined g xs ys)

record-copied : (c d : ℕ → ℕ → Bool) (old new : List ℕ) (v u n : ℕ) → IsCopiedTo c d old new v u n → IsRecord c old v n → IsRecord d new u n
record-copied c d old new v u n h (inl (serial, bytes, o, e)) =
    let P : ℕ → Type 0 = λ m. IsCopiedTo c d old new v u m in inl (serial, bytes, bin-copied c d old new v u serial bytes (subst P e h) o, e)
record-copied c d old new v u n h (inr (name, arity, o, e)) =
    let P : ℕ → Type 0 = λ m. IsCopiedTo c d old new v u m in inr (name, arity, fun-copied c d old new v u name arity (subst P e h) o, e)

record-four : (c : ℕ → ℕ → Bool) (mem : List ℕ) (v n : ℕ) → IsRecord c mem v n → 4 ≤ n
record-four c mem v n (inl (serial, bytes, o, e)) = omega (arith, e)
record-four c mem v n (inr (name, arity, o, e)) = omega (arith, e)

module _ (g : ℕ → ℕ) (c d : ℕ → ℕ → Bool) (old new ps : List ℕ) (m : LinksMoved g c d old new ps) where
  -- One holder or fun.
  module _ (p : ℕ) (i : In p ps) (l : IsLink c old p) where
    o : IsLinkTo g c d old new p
    o = m.objects p i

    header-same : get_or new (g p) 0 ≡ get_or old p 0
    header-same = o.same 0 p (g p) (omega arith) (omega arith) (omega arith) (inl l.first)

    near : ((name_place old p ≡ p + 3) × (name_place new (g p) ≡ g p + 3)) ⊎ ((name_place old p ≡ p + 1) × (name_place new (g p) ≡ g p + 1))
    near =
        let at : name_place new (g p) ≡ (if get_or old p 0 == head_word HOLDER 5 then g p + 3 else g p + 1) =
        ap (λ h. if h == head_word HOLDER 5 then g p + 3 else g p + 1) header-same in
        elim (cases_Bool (get_or old p 0 == head_word HOLDER 5)) [
          | inl e ↦ inl (ap (λ b. if b then p + 3 else p + 1) e, at ∙ ap (λ b. if b then g p + 3 else g p + 1) e)
          | inr e ↦ inr (ap (λ b. if b then p + 3 else p + 1) e, at ∙ ap (λ b. if b then g p + 3 else g p + 1) e)
        ]

    pub named-moved : named new (g p) ≡ g (named old p)
    named-moved = elim near [
      | inl (a, b) ↦ o.names 3 (name_place old p) (name_place new (g p)) (omega arith) a b l.names
      | inr (a, b) ↦ o.names 1 (name_place old p) (name_place new (g p)) (omega arith) a b l.names
    ]

    name-role : d (name_place new (g p)) NAMES ≡ true
    name-role = elim near [
      | inl (a, b) ↦ o.roles 3 (name_place old p) (name_place new (g p)) NAMES (omega arith) a b l.names
      | inr (a, b) ↦ o.roles 1 (name_place old p) (name_place new (g p)) NAMES (omega arith) a b l.names
    ]

    pub link-moved : IsLink d new (g p)
    link-moved =
        let P : ℕ → Type 0 = λ v. IsRecord d new v l.words in
        let r : IsCopiedTo c d old new (named old p) (g (named old p)) l.words = m.records (named old p) l.words l.record_is in
        record {
          somewhere = o.somewhere;
          within = o.within;
          first = o.roles 0 p (g p) FIRST (omega arith) (omega arith) (omega arith) l.first;
          next = o.roles 2 (p + 2) (g p + 2) NEXT (omega arith) refl refl l.next;
          names = name-role;
          kind = subst IsLinkHeader (sym header-same) l.kind;
          size = λ h.
              let (role, long) = l.size (sym header-same ∙ h) in (
                o.roles 1 (p + 1) (g p + 1) FURTHER (omega arith) refl refl role,
                o.same 1 (p + 1) (g p + 1) (omega arith) refl refl (inr role)
                    ∙ (long
                    ∙ (sym (r.same 3 (g (named old p) + 3) (omega (arith, record-four c old (named old p) l.words l.record_is)) (λ e. omega (arith, e)) refl)
                    ∙ ap (λ v. length_in new v) (sym named-moved))),
              );
          words = l.words;
          record_is = subst P (sym named-moved) (record-copied c d old new (named old p) (g (named old p)) l.words r l.record_is);
        }

  names-alike : (p v n : ℕ) → In p ps → IsLink c old p → IsRecord c old v n → names_it (named new (g p)) (g v) ≡ names_it (named old p) v
  names-alike p v n i l r =
      let is : named new (g p) ≡ g (named old p) = named-moved p i l in
      let which : (named old p ≡ v) ⊎ ((named old p < v) ⊎ (v < named old p)) = grind arith in
      elim which [
        | inl e ↦ one-naming (named new (g p)) (g v) (is ∙ ap g e) ∙ sym (one-naming (named old p) v e)
        | inr far ↦
            let other : (named new (g p) ≡ g v) ⊎ ((named new (g p) < g v) ⊎ (g v < named new (g p))) = grind arith in
            elim other [
              | inl same ↦ absurd (omega (arith, m.apart (named old p) v l.words n l.record_is r (sym is ∙ same), far))
              | inr apart ↦ no-naming (named new (g p)) (g v) apart ∙ sym (no-naming (named old p) v far)
            ]
      ]

  naming-moved : (v n : ℕ) → IsRecord c old v n → (os : List ℕ) → ((p : ℕ) → In p os → In p ps) → ((p : ℕ) → In p os → IsLink c old p)
      → naming new (g v) (map g os) ≡ naming old v os
  naming-moved v n r [] among each = refl
  naming-moved v n r (p ∷ os) among each =
      omega (arith, names-alike p v n (among p (inl refl)) (each p (inl refl)) r, naming-moved v n r os (λ q i. among q (inr i)) (λ q i. each q (inr i)))

  leads-moved : (from : ℕ) (os : List ℕ) (to : ℕ) → ((p : ℕ) → In p os → In p ps) → Leads old from os to → Leads new (g from) (map g os) (g to)
  leads-moved from [] to among l = ap g l
  leads-moved from (p ∷ os) to among (first, rest) =
      let P : ℕ → Type 0 = λ x. Leads new x (map g os) (g to) in
      (ap g first, subst P (sym (m.objects p (among p (inl refl))).next) (leads-moved (get_or old (p + 2) 0) os to (λ q i. among q (inr i)) rest))

  links-at : (os : List ℕ) → ((p : ℕ) → In p os → In p ps) → ((p : ℕ) → In p os → IsLink c old p) → (q : ℕ) → In q (map g os) → IsLink d new q
  links-at os among each q i =
      let (p, (j, e)) = in-map g q os i in
      let P : ℕ → Type 0 = λ x. IsLink d new x in
      subst P (sym e) (link-moved p (among p j) (each p j))

-- A chain, and what stands beside it.
pub links-moved : (g : ℕ → ℕ) (c d : ℕ → ℕ → Bool) (old new : List ℕ) (head : ℕ) (os further : List ℕ) → LinksMoved g c d old new (os ++ further) → Links c old head os further
    → Links d new (g head) (map g os) (map g further)
links-moved g c d old new head os further m l =
    let P : ℕ → Type 0 = λ x. Leads new (g head) (map g os) x in
    record {
      chain = subst P m.zero (leads-moved g c d old new (os ++ further) m head os 0 (λ p i. in-left p os further i) l.chain);
      once = map-distinct g os (λ p q i j. m.once p q (in-left p os further i) (in-left q os further j)) l.once;
      each = links-at g c d old new (os ++ further) m os (λ p i. in-left p os further i) l.each;
      beside = links-at g c d old new (os ++ further) m further (λ p i. in-right p os further i) l.beside;
      counts = λ u k s.
          let (v, n, (e, r)) = m.no_more u k s in
          let Q : ℕ → Type 0 = λ x. get_or new (x + 2) 0 ≡ naming new x (map g os) + naming new x (map g further) in
          subst Q (sym e) (omega (
            arith,
            m.counts v n r,
            l.counts v n r,
            naming-moved g c d old new (os ++ further) m v n r os (λ p i. in-left p os further i) l.each,
            naming-moved g c d old new (os ++ further) m v n r further (λ p i. in-right p os further i) l.beside,
          ));
    }

-- Several chains.

objects-moved : (g : ℕ → ℕ) (xs ys : List OwnChain) → AreChainsTo g xs ys → objects_of ys ≡ map g (objects_of xs)
objects-moved g [] [] m = refl
objects-moved g [] (y ∷ ys) m = absurd m
objects-moved g (x ∷ xs) [] m = absurd m
objects-moved g (x ∷ xs) (y ∷ ys) (h, m) =
    ap (λ zs. zs ++ objects_of ys) h.os ∙ (ap (λ zs. map g x.os ++ zs) (objects-moved g xs ys m) ∙ sym (map-joined g x.os (objects_of xs)))

chains-moved : (g : ℕ → ℕ) (c d : ℕ → ℕ → Bool) (old new ps : List ℕ) → LinksMoved g c d old new ps → (xs ys : List OwnChain) → ((p : ℕ) → In p (objects_of xs) → In p ps)
    → AreChains old xs → AreChainsTo g xs ys → AreChains new ys
chains-moved g c d old new ps m [] [] among a t = tt
chains-moved g c d old new ps m [] (y ∷ ys) among a t = absurd t
chains-moved g c d old new ps m (x ∷ xs) [] among a t = absurd t
chains-moved g c d old new ps m (x ∷ xs) (y ∷ ys) among (a, as-are) (h, t) =
    let mine : (p : ℕ) → In p x.os → In p ps = λ p i. among p (in-left p x.os (objects_of xs) i) in
    let P : ℕ → Type 0 = λ z. Leads new (g x.head) (map g x.os) z in
    let Q : ℕ → Type 0 = λ z. Leads new z (map g x.os) 0 in
    let R : List ℕ → Type 0 = λ zs. Leads new y.head zs 0 in
    let there : Leads new (g x.head) (map g x.os) 0 = subst P m.zero (leads-moved g c d old new ps m x.head x.os 0 mine a.chain) in (
      record {
        chain = subst R (sym h.os) (subst Q (sym h.head) there);
        inside = λ q i.
            let S : List ℕ → Type 0 = λ zs. In q zs in
            let (p, (j, e)) = in-map g q x.os (subst S h.os i) in
            let T : ℕ → Type 0 = λ z. y.mine z ≡ true in
            subst T (sym e) (h.mine p j);
      },
      chains-moved g c d old new ps m xs ys (λ p i. among p (in-right p x.os (objects_of xs) i)) as-are t,
    )

pub many-moved : (g : ℕ → ℕ) (c d : ℕ → ℕ → Bool) (old new : List ℕ) (xs ys : List OwnChain) (further : List ℕ) → LinksMoved g c d old new (objects_of xs ++ further)
    → ManyLinks c old xs further → AreChainsTo g xs ys → ManyLinks d new ys (map g further)
many-moved g c d old new xs ys further m l t =
    let all : objects_of ys ≡ map g (objects_of xs) = objects-moved g xs ys t in
    let left : (p : ℕ) → In p (objects_of xs) → In p (objects_of xs ++ further) = λ p i. in-left p (objects_of xs) further i in
    let right : (p : ℕ) → In p further → In p (objects_of xs ++ further) = λ p i. in-right p (objects_of xs) further i in
    let P : List ℕ → Type 0 = λ zs. Distinct (zs ++ map g further) in
    record {
      chains = chains-moved g c d old new (objects_of xs ++ further) m xs ys left l.chains t;
      once = subst P (sym all) (subst Distinct (map-joined g (objects_of xs) further) (map-distinct g (objects_of xs ++ further) m.once l.once));
      each = λ q i. (let S : List ℕ → Type 0 = λ zs. In q zs in links-at g c d old new (objects_of xs ++ further) m (objects_of xs) left l.each q (subst S all i));
      beside = links-at g c d old new (objects_of xs ++ further) m further right l.beside;
      counts = λ u k s.
          let (v, n, (e, r)) = m.no_more u k s in
          let Q : ℕ → Type 0 = λ x. get_or new (x + 2) 0 ≡ naming new x (objects_of ys) + naming new x (map g further) in
          subst Q (sym e) (omega (
            arith,
            m.counts v n r,
            l.counts v n r,
            ap (λ zs. naming new (g v) zs) all,
            naming-moved g c d old new (objects_of xs ++ further) m v n r (objects_of xs) left l.each,
            naming-moved g c d old new (objects_of xs ++ further) m v n r further right l.beside,
          ));
    }
