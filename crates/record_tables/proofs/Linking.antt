-- An object that names a record comes to words that have no role, and into the chain: all records are named then.
use Rattle.std.proofs.Common.{◌≡◌, ℕ, ◌+◌, ◌/◌, ◌<◌, ◌≤◌, ◌⊎◌, Bool, true, List, [], ◌++◌, length, get_or, set, refl, ◌∙◌, ◌-◌, ap, arith, inl, inr, length-set, get_or-set_other}
use Rattle.std.proofs.lemmas.Bool.{cases_eq}
use Rattle.std.proofs.lemmas.Grind.{get_or-set_at}
use Rattle.term_words.specs.Role.{COUNT, FIRST, NEXT, RECORD_FIRST, IsSingle}
use Rattle.term_words.specs.Object.{IsRecord}
use Rattle.term_words.specs.Kept.{Kept}
use Rattle.term_words.specs.Counted.{In, total}
use Rattle.term_build.specs.Grows.{GrowsLink}
use Rattle.term_build.specs.Taken.{IsFree}
use Rattle.shared_rec.specs.Record.{WritesRecord, count_in}
use Rattle.shared_rec.proofs.Records.{record-counted, record-stays, role-idle}
use Rattle.off_heap_list.specs.Links.{IsLink, Links, named}
use Rattle.off_heap_list.proofs.Chaining.Chained.{idle-kept, idle-kept-back, kept-then, record-inside}
use Rattle.off_heap_list.proofs.Walked.Tallied.{few, ones}
use Rattle.record_move.specs.Copies.{record_words}
use Rattle.record_move.proofs.Moving.{naming-few}
use Rattle.record_move.proofs.Room.{total-same}
use Rattle.record_tables.specs.Listed.{NearlyStand, RecordsStand}
use Rattle.record_tables.proofs.Staying.{links-on, listed-first, record-before, records-on}

-- The memory after an object at place o came into the chain: its word `next` and the count of the record at v were written.
abbrev pub joined_at : (mem : List ℕ) → (v o head : ℕ) → List ℕ
joined_at mem v o head = set (set mem (v + 2) (get_or mem (v + 2) 0 + 1)) (o + 2) head

module _ (c : ℕ → ℕ → Bool) (single : IsSingle c) (mem : List ℕ) (shared : List (List ℕ)) (bins funs : List ℕ) (v : ℕ) (y : NearlyStand c mem shared bins funs v)
    (head o k : ℕ) (six : 6 ≤ k) (free : IsFree c o (o + k)) (mem3 : List ℕ) (w : WritesRecord o (o + k) mem mem3) where
  same3 : (a j : ℕ) → c a j ≡ true → get_or mem3 a 0 ≡ get_or mem a 0
  same3 a j t = w.others a (free a j t)

  far-from : (a j : ℕ) → c a j ≡ true → a ≡ o + 2 → ⊥
  far-from a j t e = elim (free a j t) [ inl low ↦ omega (arith, e, low) | inr high ↦ omega (arith, e, high, six) ]

  -- The first words of the records are the same, whatever the object holds.
  pub words-linked : (m : ℕ) → IsRecord c mem v m → total (record_words (joined_at mem3 v o head)) (bins ++ funs) ≡ total (record_words mem) (bins ++ funs)
  words-linked m r = total-same (record_words (joined_at mem3 v o head)) (record_words mem) (bins ++ funs) (λ u i.
      let t = listed-first c mem shared bins funs v y u i in
      let other : u ≡ v + 2 → ⊥ = λ e. (let same : RECORD_FIRST ≡ COUNT = single.one (v + 2) RECORD_FIRST COUNT (rw e at t) (record-counted c mem v m r) in omega (arith, same)) in
      ap (λ z. z / 16) (get_or-set_other (set mem3 (v + 2) (get_or mem3 (v + 2) 0 + 1)) (o + 2) u head 0 (far-from u RECORD_FIRST t)
      ∙ (get_or-set_other mem3 (v + 2) u (get_or mem3 (v + 2) 0 + 1) 0 other ∙ same3 u RECORD_FIRST t)))

  module _ (e : ℕ → ℕ → Bool) (grows : GrowsLink c e o k mem mem3) (link : IsLink e mem3 o) (names : named mem3 o ≡ v) where
    pub single3 : IsSingle e
    single3 = grows.single single

    kept3 : Kept c e mem mem3
    kept3 = record { longer = omega (arith, w.same_len); weaker = grows.more; same = λ a j content t. same3 a j t }

    pub record-old : (u m : ℕ) → IsRecord e mem3 u m → IsRecord c mem u m
    record-old = record-before c e mem mem3 kept3 w.same_len grows.objects

    pub links3 : (os : List ℕ) → Links c mem head os [] → Links e mem3 head os []
    links3 os l = links-on c e mem mem3 kept3 same3 head os l (λ u m r. inl (record-old u m r))

    pub fresh-object : (os : List ℕ) → Links c mem head os [] → In o os → ⊥
    fresh-object os l i = elim (free o FIRST (l.each o i).first) [ inl low ↦ omega (arith, low) | inr high ↦ omega (arith, high, six) ]

    there : IsRecord e mem3 v link.words
    there = rw names at link.record_is

    was : IsRecord c mem v link.words
    was = record-old v link.words there

    abbrev mem4 : List ℕ
    mem4 = joined_at mem3 v o head

    abbrev mid : List ℕ
    mid = set mem3 (v + 2) (get_or mem3 (v + 2) 0 + 1)

    count-idle : (j : ℕ) → 3 ≤ j → e (v + 2) j ≡ true → ⊥
    count-idle j big t = role-idle e (v + 2) COUNT single3 (record-counted e mem3 v link.words there) (omega arith) j big t

    next-idle : (j : ℕ) → 3 ≤ j → e (o + 2) j ≡ true → ⊥
    next-idle j big t = role-idle e (o + 2) NEXT single3 link.next (omega arith) j big t

    pub kept34 : Kept e e mem3 mem4
    kept34 = kept-then e mem3 mid mem4 (idle-kept e mem3 (v + 2) (get_or mem3 (v + 2) 0 + 1) count-idle) (idle-kept e mid (o + 2) head next-idle)

    back34 : Kept e e mem4 mem3
    back34 = kept-then e mem4 mid mem3 (idle-kept-back e mid (o + 2) head next-idle) (idle-kept-back e mem3 (v + 2) (get_or mem3 (v + 2) 0 + 1) count-idle)

    pub kept4 : Kept c e mem mem4
    kept4 = record {
      longer = omega (arith, kept3.longer, kept34.longer);
      weaker = grows.more;
      same = λ a j content t. kept34.same a j content (grows.more a j t) ∙ same3 a j t;
    }

    pub len4 : length mem4 ≡ length mem
    len4 = length-set mid (o + 2) head ∙ length-set mem3 (v + 2) (get_or mem3 (v + 2) 0 + 1) ∙ w.same_len

    far : (q : ℕ) → (q ≡ v + 2 → ⊥) → (q ≡ o + 2 → ⊥) → get_or mem4 q 0 ≡ get_or mem3 q 0
    far q one two = get_or-set_other mid (o + 2) q head 0 two ∙ get_or-set_other mem3 (v + 2) q (get_or mem3 (v + 2) 0 + 1) 0 one

    here : get_or mem4 (v + 2) 0 ≡ get_or mem3 (v + 2) 0 + 1
    here = get_or-set_other mid (o + 2) (v + 2) head 0 (far-from (v + 2) COUNT (record-counted c mem v link.words was))
        ∙ get_or-set_at mem3 (v + 2) (v + 2) (get_or mem3 (v + 2) 0 + 1) 0 refl (omega (arith, record-inside e mem3 v link.words there))

    back4 : (u m : ℕ) → IsRecord e mem4 u m → IsRecord c mem u m
    back4 u m r = record-old u m (record-stays e e mem4 mem3 u m back34 r)

    counted4 : (u m : ℕ) → IsRecord e mem4 u m → 1 ≤ count_in mem4 u
    counted4 u m r = elim (cases_eq u v) [
      | inl same ↦ rw same (omega (arith, here))
      | inr other ↦
          let role = record-counted c mem u m (back4 u m r) in
          omega (arith, far (u + 2) (λ z. other (omega (arith, z))) (far-from (u + 2) COUNT role), same3 (u + 2) COUNT role, y.counted u m (back4 u m r) other)
    ]

    pub records-linked : RecordsStand e mem4 shared bins funs
    records-linked = records-on c e mem mem4 kept4 shared bins funs v y back4 counted4

    -- A word outside the object that had no role is the same.
    pub bare-linked : (q : ℕ) → (q < o) ⊎ (o + k ≤ q) → ((j : ℕ) → c q j ≡ true → ⊥) → get_or mem4 q 0 ≡ get_or mem q 0
    bare-linked q out none =
        far q (λ z. none COUNT (rw z (record-counted c mem v link.words was))) (λ z. elim out [ inl low ↦ omega (arith, z, low) | inr high ↦ omega (arith, z, high, six) ]) ∙ w.others q out

-- No record counts more objects than there are places for.
pub few-named : (c : ℕ → ℕ → Bool) (mem : List ℕ) (head : ℕ) (os : List ℕ) → Links c mem head os [] → (u n : ℕ) → IsRecord c mem u n → length mem ≤ 16777216 → count_in mem u < 16777216
few-named c mem head os l u n r most =
    omega (arith, most, l.counts u n r, naming-few mem u os, ones os, few (length mem - 5) os l.once (λ p i. omega (arith, (l.each p i).within)))
