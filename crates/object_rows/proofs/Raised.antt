-- The records of a row's holders and funs count them once more, one after the other.
use Rattle.std.proofs.Common.{◌≡◌, ℕ, ◌+◌, ◌/◌, ◌%◌, ◌<◌, ◌≤◌, ◌⊎◌, ◌==◌, if◌then◌else◌, Bool, true, false, List, [], ◌∷◌, ◌++◌, length, get_or, set, refl, sym, ◌∙◌, ap, subst, arith, inl, inr, length-set, get_or-set_other}
use Rattle.std.proofs.lemmas.Bool.{cases_Bool}
use Rattle.std.proofs.lemmas.Grind.{get_or-set_at}
use Rattle.term_tags.specs.Words.{head_word}
use Rattle.term_tags.specs.declared.layouts.TheConstants.{HOLDER}
use Rattle.term_words.specs.Role.{COUNT, IsSingle}
use Rattle.term_words.specs.Kept.{Kept}
use Rattle.term_words.specs.Counted.{In}
use Rattle.term_words.proofs.Framing.Frames.{frame}
use Rattle.term_words.proofs.Totals.Members.{in-both}
use Rattle.shared_rec.proofs.Records.{record-counted, record-stays}
use Rattle.off_heap_list.specs.Links.{names_it, name_place, named, naming, IsLink, Links}
use Rattle.off_heap_list.proofs.Chaining.Exact.{naming-both}
use Rattle.off_heap_list.proofs.Chaining.Chained.{leads-stays, link-stays, naming-stays, no-naming, one-naming, place-same, record-inside, roles-apart}
use Rattle.object_rows.specs.Raised.{CanRaise, RaisesRow}
use Rattle.object_rows.specs.Row.{AreObjects, is_link_header, links_in}
use Rattle.object_rows.proofs.Rows.{in-last, in-left, row-once}
use Rattle.object_rows.proofs.Walk.{Walked, objects-one, row-stays, seen-among, walk-among, walk-begins, walk-ends, walk-large, walk-large-ends, walk-link, walk-six, walk-small}

pub naming-most : (mem : List ℕ) (v : ℕ) (xs : List ℕ) → naming mem v xs ≤ length xs
naming-most mem v [] = omega arith
naming-most mem v (x ∷ xs) =
    let which : (named mem x ≡ v) ⊎ ((named mem x < v) ⊎ (v < named mem x)) = grind arith in
    elim which [
      | inl e ↦ omega (arith, one-naming (named mem x) v e, naming-most mem v xs)
      | inr far ↦ omega (arith, no-naming (named mem x) v far, naming-most mem v xs)
    ]

pub name-near : (mem : List ℕ) (p : ℕ) → (name_place mem p ≡ p + 3) ⊎ (name_place mem p ≡ p + 1)
name-near mem p = elim (cases_Bool (get_or mem p 0 == head_word HOLDER 5)) [ inl e ↦ inl (ap (λ b. if b then p + 3 else p + 1) e) | inr e ↦ inr (ap (λ b. if b then p + 3 else p + 1) e) ]

-- So far these were seen and counted.
pub record Raising (old mem : List ℕ) (from at to : ℕ) (ws : List ℕ) : Type 0 where
  pub seen : List ℕ
  pub begun : from ≤ at
  pub walked : Walked old at to ws seen
  pub same_len : length mem ≡ length old
  pub counts : (v : ℕ) → get_or mem (v + 2) 0 ≡ get_or old (v + 2) 0 + naming old v seen
  pub others : (q : ℕ) → ((p : ℕ) → In p seen → q ≡ named old p + 2 → ⊥) → get_or mem q 0 ≡ get_or old q 0

pub raising-begins : (mem : List ℕ) (from to : ℕ) (ws : List ℕ) → AreObjects mem from ws to → Raising mem mem from from to ws
raising-begins mem from to ws are = record {
  seen = [];
  begun = omega arith;
  walked = walk-begins mem from to ws are;
  same_len = refl;
  counts = λ v. omega arith;
  others = λ q out. refl;
}

module _ (old mem : List ℕ) (from at to : ℕ) (x : CanRaise old from to) (g : Raising old mem from at to x.ws) where
  counted-at : (p : ℕ) → In p (links_in old x.ws) → x.test (named old p + 2) COUNT ≡ true
  counted-at p i = (let k : IsLink x.test old p = x.each p i in record-counted x.test old (named old p) k.words k.record_is)

  -- No word of the row was written.
  row-still : (q : ℕ) → from ≤ q → q < to → get_or mem q 0 ≡ get_or old q 0
  row-still q low high = g.others q (λ p i e.
      let P : ℕ → Type 0 = λ a. x.test a COUNT ≡ true in
      x.clear q low high (subst P (sym e) (counted-at p (seen-among old at to x.ws g.seen g.walked p i))))

  module _ (some : at < to) (word : ℕ) (is : word ≡ get_or mem at 0) where
    was : word ≡ get_or old at 0
    was = is ∙ row-still at g.begun some

    pub raising-small : (word % 4 ≡ 0 → ⊥) → Raising old mem from (at + 2) to x.ws
    raising-small t = record {
      seen = g.seen;
      begun = omega (arith, g.begun);
      walked = walk-small old at to x.ws g.seen g.walked some (λ e. t (ap (λ a. a % 4) was ∙ e));
      same_len = g.same_len;
      counts = g.counts;
      others = g.others;
    }

    module _ (t : word % 4 ≡ 0) where
      zero-tag : get_or old at 0 % 4 ≡ 0
      zero-tag = ap (λ a. a % 4) (sym was) ∙ t

      pub raising-large : (is_link_header word ≡ false) → Raising old mem from (at + (1 + word / 64)) to x.ws
      raising-large none =
          let P : ℕ → Type 0 = λ a. Walked old (at + (1 + a / 64)) to x.ws g.seen in
          record {
            seen = g.seen;
            begun = omega (arith, g.begun);
            walked = subst P (sym was) (walk-large old at to x.ws g.seen g.walked some zero-tag (ap is_link_header (sym was) ∙ none));
            same_len = g.same_len;
            counts = g.counts;
            others = g.others;
          }

      module _ (l : is_link_header word ≡ true) where
        link : is_link_header (get_or old at 0) ≡ true
        link = ap is_link_header (sym was) ∙ l

        among : In at (links_in old x.ws)
        among = walk-among old at to x.ws g.seen g.walked some zero-tag link

        one : IsLink x.test old at
        one = x.each at among

        wide : at + 6 ≤ to
        wide = omega (arith, walk-six old at to x.ws g.seen g.walked some zero-tag link, walk-large-ends old at to x.ws g.seen g.walked some zero-tag)

        name-is : named mem at ≡ named old at
        name-is =
            ap (λ q. get_or mem q 0) (place-same old mem at (row-still at g.begun some))
            ∙ row-still (name_place old at) (omega (arith, g.begun, name-near old at)) (omega (arith, wide, name-near old at))

        there : named old at + 4 ≤ length old
        there = record-inside x.test old (named old at) one.words one.record_is

        pub raising-object : at + 6 ≤ length mem
        raising-object = omega (arith, wide, x.inside, g.same_len)

        pub raising-record : (r : ℕ) → r ≡ named mem at → r + 4 ≤ length mem
        raising-record r e = omega (arith, e, name-is, there, g.same_len)

        pub raising-count : (r : ℕ) → r ≡ named mem at → length old ≤ 16777216 → get_or mem (r + 2) 0 < 16777216
        raising-count r e most =
            let P : ℕ → Type 0 = λ v. get_or mem (v + 2) 0 < 16777216 in
            subst P (sym (e ∙ name-is)) (omega (
              arith,
              g.counts (named old at),
              naming-most old (named old at) g.seen,
              g.walked.few,
              x.counts (named old at) one.words one.record_is,
              some,
              x.inside,
              most,
            ))

        pub raising-link : (r : ℕ) → r ≡ named mem at → (mem2 : List ℕ) → mem2 ≡ set mem (r + 2) (get_or mem (r + 2) 0 + 1) → Raising old mem2 from (at + (1 + word / 64)) to x.ws
        raising-link r e mem2 same =
            let P : ℕ → Type 0 = λ a. Walked old (at + (1 + a / 64)) to x.ws (g.seen ++ at ∷ []) in
            let R : List ℕ → Type 0 = λ m. Raising old m from (at + (1 + word / 64)) to x.ws in
            let name : r ≡ named old at = e ∙ name-is in
            subst R (sym same) (record {
              seen = g.seen ++ at ∷ [];
              begun = omega (arith, g.begun);
              walked = subst P (sym was) (walk-link old at to x.ws g.seen g.walked some zero-tag link);
              same_len = length-set mem (r + 2) (get_or mem (r + 2) 0 + 1) ∙ g.same_len;
              counts = λ v.
                  let which : (r ≡ v) ⊎ ((r < v) ⊎ (v < r)) = grind arith in
                  elim which [
                    | inl z ↦
                        let now : get_or (set mem (r + 2) (get_or mem (r + 2) 0 + 1)) (v + 2) 0 ≡ get_or mem (r + 2) 0 + 1 =
                        get_or-set_at mem (r + 2) (v + 2) (get_or mem (r + 2) 0 + 1) 0 (omega (arith, z)) (omega (arith, name, there, g.same_len)) in
                        let here : get_or mem (r + 2) 0 ≡ get_or mem (v + 2) 0 = ap (λ u. get_or mem (u + 2) 0) z in
                        omega (arith, now, here, g.counts v, naming-both old v g.seen (at ∷ []), one-naming (named old at) v (sym name ∙ z))
                    | inr far ↦
                        let now : get_or (set mem (r + 2) (get_or mem (r + 2) 0 + 1)) (v + 2) 0 ≡ get_or mem (v + 2) 0 =
                        get_or-set_other mem (r + 2) (v + 2) (get_or mem (r + 2) 0 + 1) 0 (λ z. omega (arith, z, far)) in
                        let none : names_it r v ≡ 0 = no-naming r v far in
                        omega (arith, now, g.counts v, naming-both old v g.seen (at ∷ []), ap (λ u. names_it u v) (sym name) ∙ none)
                  ];
              others = λ q out.
                  get_or-set_other mem (r + 2) q (get_or mem (r + 2) 0 + 1) 0 (λ z. out at (in-last at g.seen) (z ∙ ap (λ u. u + 2) name))
                  ∙ g.others q (λ p i. out p (in-left p at g.seen i));
            })

-- What is known of counts that rose as often as the objects of a row name their records.
module _ (old new ps : List ℕ) (same_len : length new ≡ length old) (counts : (v : ℕ) → get_or new (v + 2) 0 ≡ get_or old (v + 2) 0 + naming old v ps)
    (others : (q : ℕ) → ((p : ℕ) → In p ps → q ≡ named old p + 2 → ⊥) → get_or new q 0 ≡ get_or old q 0) (c : ℕ → ℕ → Bool) (single : IsSingle c) (each : (p : ℕ) → In p ps → IsLink c old p) where
  no-count : (a k : ℕ) → 3 ≤ k → c a k ≡ true → (p : ℕ) → In p ps → a ≡ named old p + 2 → ⊥
  no-count a k past t p i e =
      let Q : ℕ → Type 0 = λ b. c b k ≡ true in
      let l : IsLink c old p = each p i in
      let n : k ≡ COUNT = single.one (named old p + 2) k COUNT (subst Q e t) (record-counted c old (named old p) l.words l.record_is) in
      omega (arith, n, past)

  pub raised-kept : Kept c c old new
  raised-kept = record { longer = omega (arith, same_len); weaker = λ a k t. t; same = λ a k past t. others a (no-count a k past t) }

  raised-back : Kept c c new old
  raised-back = record { longer = omega (arith, same_len); weaker = λ a k t. t; same = λ a k past t. sym (others a (no-count a k past t)) }

  pub raised-links : (head : ℕ) (os further : List ℕ) → Links c old head os further → Links c new head os (ps ++ further)
  raised-links head os further l = record {
    chain = leads-stays old new head os 0 (λ p i. others (p + 2) (λ o j e.
        let k : IsLink c old o = each o j in
        roles-apart c (p + 2) (named old o + 2) single (l.each p i).next (record-counted c old (named old o) k.words k.record_is) e)) l.chain;
    once = l.once;
    each = λ p i. link-stays c c old new p raised-kept (l.each p i);
    beside = λ p i. elim (in-both p ps further i) [ inl h ↦ link-stays c c old new p raised-kept (each p h) | inr h ↦ link-stays c c old new p raised-kept (l.beside p h) ];
    counts = λ v n s. omega (
      arith,
      counts v,
      l.counts v n (record-stays c c new old v n raised-back s),
      naming-both new v ps further,
      naming-stays c c old new v ps raised-kept each,
      naming-stays c c old new v os raised-kept l.each,
      naming-stays c c old new v further raised-kept l.beside,
    );
  }

pub raising-ends : (old mem : List ℕ) (from at to : ℕ) (x : CanRaise old from to) (ws : List ℕ) → Raising old mem from at to x.ws → to ≤ at → AreObjects old from ws to
    → RaisesRow old mem (links_in old ws)
raising-ends old mem from at to x ws g over are =
    let all : g.seen ≡ links_in old ws = walk-ends old at to x.ws g.seen g.walked over ∙ ap (links_in old) (objects-one old from x.ws ws to x.are are) in
    let P : List ℕ → Type 0 = λ ys. (q : ℕ) → ((p : ℕ) → In p ys → q ≡ named old p + 2 → ⊥) → get_or mem q 0 ≡ get_or old q 0 in
    let Q : List ℕ → Type 0 = λ ys. (v : ℕ) → get_or mem (v + 2) 0 ≡ get_or old (v + 2) 0 + naming old v ys in
    let others : (q : ℕ) → ((p : ℕ) → In p (links_in old ws) → q ≡ named old p + 2 → ⊥) → get_or mem q 0 ≡ get_or old q 0 = subst P all g.others in
    let counts : (v : ℕ) → get_or mem (v + 2) 0 ≡ get_or old (v + 2) 0 + naming old v (links_in old ws) = subst Q all g.counts in
    record {
      same_len = g.same_len;
      once = row-once old from ws to are;
      counts = counts;
      others = others;
      kept = λ c single each. raised-kept old mem (links_in old ws) g.same_len counts others c single each;
      trees = λ c single each. frame c c old mem (raised-kept old mem (links_in old ws) g.same_len counts others c single each);
      links = λ c head os further single each l. raised-links old mem (links_in old ws) g.same_len counts others c single each head os further l;
    }

-- A row without a count stays one, with the same objects, holders and funs.
pub raised-other : (c : ℕ → ℕ → Bool) (old new ps : List ℕ) (from : ℕ) (ws : List ℕ) (to : ℕ) → AreObjects old from ws to → RaisesRow old new ps
    → ((p : ℕ) → In p ps → IsLink c old p) → ((q : ℕ) → from ≤ q → q < to → c q COUNT ≡ true → ⊥) → AreObjects new from ws to × (links_in new ws ≡ links_in old ws)
raised-other c old new ps from ws to are r each clear = row-stays old new from ws to are (λ q low high. r.others q (λ p i e.
    let k : IsLink c old p = each p i in
    let P : ℕ → Type 0 = λ a. c a COUNT ≡ true in
    clear q low high (subst P (sym e) (record-counted c old (named old p) k.words k.record_is))))

pub raised-own : (old new : List ℕ) (from : ℕ) (ws : List ℕ) (to : ℕ) → CanRaise old from to → AreObjects old from ws to → RaisesRow old new (links_in old ws)
    → AreObjects new from ws to × (links_in new ws ≡ links_in old ws)
raised-own old new from ws to x are r =
    let P : List ℕ → Type 0 = λ vs. (p : ℕ) → In p (links_in old vs) → IsLink x.test old p in
    raised-other x.test old new (links_in old ws) from ws to are r (subst P (objects-one old from x.ws ws to x.are are) x.each) x.clear
