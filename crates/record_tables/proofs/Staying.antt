-- Records stand on, and tables list them, while the content of words stays.
use Rattle.std.proofs.Common.{◌≡◌, ℕ, ◌+◌, ◌/◌, ◌⊎◌, Bool, true, List, [], ◌++◌, length, get_or, refl, sym, ◌∙◌, ap, arith, inl, inr}
use Rattle.std.proofs.lemmas.List.{append-nil, length-append}
use Rattle.plain_term.specs.Bytes.{shared_bytes}
use Rattle.plain_term.proofs.Known.{bytes-stay}
use Rattle.term_words.specs.Role.{COUNT, NEXT, RECORD, RECORD_FIRST, OfObject}
use Rattle.term_words.specs.Object.{IsBinRecord, IsRecord}
use Rattle.term_words.specs.Kept.{Kept}
use Rattle.term_words.specs.Counted.{In, total}
use Rattle.term_words.proofs.Totals.Members.{in-both}
use Rattle.shared_rec.specs.Record.{count_in, owner_in}
use Rattle.shared_rec.proofs.Records.{bin-stays, fun-stays, record-counted, record-same}
use Rattle.off_heap_list.specs.Links.{Links, naming}
use Rattle.off_heap_list.specs.Exact.{AllCounted}
use Rattle.off_heap_list.proofs.Chaining.Chained.{leads-stays, link-stays, naming-stays}
use Rattle.record_move.specs.Copies.{record_words}
use Rattle.record_move.proofs.Room.{total-same}
use Rattle.record_tables.specs.Listed.{IsBinOf, IsFunOf, NearlyStand, RecordsStand}
use Rattle.record_tables.proofs.Joining.{rise-same}

-- Tables that list all, do so but for any one record.
pub nearly-stand : (c : ℕ → ℕ → Bool) (mem : List ℕ) (shared : List (List ℕ)) (bins funs : List ℕ) (v : ℕ) → RecordsStand c mem shared bins funs → NearlyStand c mem shared bins funs v
nearly-stand c mem shared bins funs v r = record {
  all = r.all;
  once = r.once;
  each_bin = r.each_bin;
  each_fun = r.each_fun;
  serials = r.serials;
  codes = r.codes;
  counted = λ u n there other. r.counted u n there;
}

-- What is listed.
module _ (c : ℕ → ℕ → Bool) (mem : List ℕ) (shared : List (List ℕ)) (bins funs : List ℕ) (v : ℕ) (y : NearlyStand c mem shared bins funs v) where
  pub listed-record : (u : ℕ) → In u (bins ++ funs) → (n : ℕ) × IsRecord c mem u n
  listed-record u i = elim (in-both u bins funs i) [
    | inl a ↦ (let b : IsBinOf c mem shared u = y.each_bin u a in (_, inl (owner_in mem u, shared_bytes shared (owner_in mem u), b.is, refl)))
    | inr b ↦ (let f : IsFunOf c mem u = y.each_fun u b in (4, inr (f.name, f.arity, f.is, refl)))
  ]

  pub listed-first : (u : ℕ) → In u (bins ++ funs) → c u RECORD_FIRST ≡ true
  listed-first u i = elim (in-both u bins funs i) [ inl a ↦ (y.each_bin u a).is.first | inr b ↦ (y.each_fun u b).is.first ]

  pub listed-second : (u : ℕ) → In u (bins ++ funs) → c (u + 1) RECORD ≡ true
  listed-second u i = elim (in-both u bins funs i) [ inl a ↦ (y.each_bin u a).is.second | inr b ↦ (y.each_fun u b).is.second ]

module _ (c d : ℕ → ℕ → Bool) (mem mem2 : List ℕ) (kept : Kept c d mem mem2) where
  pub owner-stays : (u : ℕ) → c (u + 1) RECORD ≡ true → owner_in mem2 u ≡ owner_in mem u
  owner-stays u e = kept.same (u + 1) RECORD (omega arith) e

  pub bin-on : (shared shared2 more : List (List ℕ)) (u : ℕ) → shared2 ≡ shared ++ more → IsBinOf c mem shared u → IsBinOf d mem2 shared2 u
  bin-on shared shared2 more u grown o =
      let same : owner_in mem2 u ≡ owner_in mem u = owner-stays u o.is.second in
      let bytes : shared_bytes shared2 (owner_in mem u) ≡ shared_bytes shared (owner_in mem u) =
      ap (λ z. shared_bytes z (owner_in mem u)) grown ∙ bytes-stay shared more (owner_in mem u) o.known in
      let on : IsBinRecord d mem2 u (owner_in mem u) (shared_bytes shared (owner_in mem u)) = bin-stays c d mem mem2 u _ _ kept o.is in
      record {
        from_one = omega (arith, same, o.from_one);
        known = omega (arith, same, o.known, ap length grown, length-append shared more);
        is = rw (same, bytes) on;
      }

  pub fun-on : (u : ℕ) → IsFunOf c mem u → IsFunOf d mem2 u
  fun-on u o = record { name = o.name; arity = o.arity; is = fun-stays c d mem mem2 u o.name o.arity kept o.is }

  -- Where no record comes, and each is counted.
  module _ (shared : List (List ℕ)) (bins funs : List ℕ) (v : ℕ) (y : NearlyStand c mem shared bins funs v) where
    pub records-on : ((u n : ℕ) → IsRecord d mem2 u n → IsRecord c mem u n) → AllCounted d mem2 → RecordsStand d mem2 shared bins funs
    records-on back counted = record {
      all = λ u n there. y.all u n (back u n there);
      once = y.once;
      each_bin = λ u i. bin-on shared shared [] u (sym (append-nil shared)) (y.each_bin u i);
      each_fun = λ u i. fun-on u (y.each_fun u i);
      serials = rise-same mem mem2 bins (λ u i. owner-stays u (y.each_bin u i).is.second) y.serials;
      codes = rise-same mem mem2 funs (λ u i. owner-stays u (y.each_fun u i).is.second) y.codes;
      counted = counted;
    }

    pub words-on : total (record_words mem2) (bins ++ funs) ≡ total (record_words mem) (bins ++ funs)
    words-on = total-same (record_words mem2) (record_words mem) (bins ++ funs)
        (λ u i. ap (λ z. z / 16) (kept.same u RECORD_FIRST (omega arith) (listed-first c mem shared bins funs v y u i)))

  -- Where objects come and no record, those that stand stood before.
  pub record-before : length mem2 ≡ length mem → ((a k : ℕ) → d a k ≡ true → (c a k ≡ true) ⊎ OfObject k) → (u n : ℕ) → IsRecord d mem2 u n → IsRecord c mem u n
  record-before len objects =
      record-same d c mem2 mem (omega (arith, len)) (λ a k of e. elim (objects a k e) [ inl old ↦ old | inr new ↦ absurd (omega (arith, of, new)) ])
      (λ a k past e. elim (objects a k e) [ inl old ↦ sym (kept.same a k (omega (arith, past)) old) | inr new ↦ absurd (omega (arith, past, new)) ])

-- A chain stays where all words with a role do; a record that comes is named by none of its objects.
module _ (c d : ℕ → ℕ → Bool) (mem mem2 : List ℕ) (kept : Kept c d mem mem2) (same : (a k : ℕ) → c a k ≡ true → get_or mem2 a 0 ≡ get_or mem a 0) where
  pub count-stays : (u n : ℕ) → IsRecord c mem u n → count_in mem2 u ≡ count_in mem u
  count-stays u n there = same (u + 2) COUNT (record-counted c mem u n there)

  pub links-on : (head : ℕ) (os : List ℕ) → Links c mem head os []
      → ((u n : ℕ) → IsRecord d mem2 u n → IsRecord c mem u n ⊎ ((count_in mem2 u ≡ 0) × (naming mem2 u os ≡ 0))) → Links d mem2 head os []
  links-on head os l from = record {
    chain = leads-stays mem mem2 head os 0 (λ p i. same (p + 2) NEXT (l.each p i).next) l.chain;
    once = l.once;
    each = λ p i. link-stays c d mem mem2 p kept (l.each p i);
    beside = λ p i. absurd i;
    counts = λ u n there. elim (from u n there) [
      | inl old ↦ omega (arith, count-stays u n old, l.counts u n old, naming-stays c d mem mem2 u os kept l.each)
      | inr new ↦ omega (arith, new)
    ];
  }
