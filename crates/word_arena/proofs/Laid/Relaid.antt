-- Blocks side by side are laid anew: the words outside of them stay, and so do all other blocks.
use Rattle.std.proofs.Common.{◌≡◌, ◌≢◌, ℕ, ◌+◌, ◌/◌, ◌<◌, ◌≤◌, ◌⊎◌, List, ◌∷◌, ◌++◌, length, get_or, sym, ◌∙◌, ap, subst, arith, inl, inr}
use Rattle.std.proofs.lemmas.Bool.{cases_lt}
use Rattle.word_arena.specs.Blocks.{size_at, kind_at, Blocks, Blocked, block_places, IsListed, BlockBegins, IsUsed, free_among, free_of, FreeApart}
use Rattle.word_arena.specs.Calls.{OthersStay}
use Rattle.word_arena.proofs.Side.Places.{in-left, in-right, in-append, free_among-append, free_among-same}
use Rattle.word_arena.proofs.Side.Tiling.{blocks-append, blocks-within, blocks-same, blocks-front, block_places-row, blocked-row}
use Rattle.word_arena.proofs.Side.Facts.{row-at, apart}

-- The blocks from a to e were `cs` and are `ds`, and no word outside of them changed.
pub record Change (old new : List ℕ) (a e : ℕ) (cs ds : List ℕ) : Type 0 where
  pub begins : BlockBegins old a
  pub was : Blocks old a cs e
  pub inside : e ≤ length old
  pub same_len : length new ≡ length old
  pub same : (q : ℕ) → (q < a) ⊎ (e ≤ q) → get_or new q 0 ≡ get_or old q 0
  pub is : Blocks new a ds e

-- The rows before and after the change.
pub record Rows (old new : List ℕ) (a e : ℕ) (cs ds : List ℕ) : Type 0 where
  pub front : List ℕ
  pub back : List ℕ
  pub old_is : block_places old ≡ front ++ (cs ++ back)
  pub new_is : block_places new ≡ front ++ (ds ++ back)
  pub before : Blocks old 0 front a
  pub behind : Blocks old e back (length old)
  pub row : Blocks new 0 (front ++ (ds ++ back)) (length new)

before-same : (old new : List ℕ) (a e : ℕ) (cs ds front : List ℕ) → Change old new a e cs ds → Blocks old 0 front a → (p : ℕ) → IsListed p front → get_or new p 0 ≡ get_or old p 0
before-same old new a e cs ds front ch row p is =
    let w = blocks-within old 0 a p front row is in
    ch.same p (inl (omega (arith, w.to, w.header.sized)))

behind-same : (old new : List ℕ) (a e : ℕ) (cs ds back : List ℕ) → Change old new a e cs ds → Blocks old e back (length old) → (p : ℕ) → IsListed p back → get_or new p 0 ≡ get_or old p 0
behind-same old new a e cs ds back ch row p is =
    let w = blocks-within old e (length old) p back row is in
    ch.same p (inr w.from)

pub change-rows : (old new : List ℕ) (a e : ℕ) (cs ds : List ℕ) → Blocked old → Change old new a e cs ds → Rows old new a e cs ds
change-rows old new a e cs ds blocked ch =
    let r = row-at old a blocked ch.begins in
    let f = blocks-front old a e (length old) cs (a ∷ r.after) ch.was r.back ch.inside in
    let front : Blocks new 0 r.before a = blocks-same old new 0 a r.before (before-same old new a e cs ds r.before ch r.front) r.front in
    let back : Blocks new e f.rest (length old) = blocks-same old new e (length old) f.rest (behind-same old new a e cs ds f.rest ch f.row) f.row in
    let P : ℕ → Type 0 = λ z. Blocks new 0 (r.before ++ (ds ++ f.rest)) z in
    let row : Blocks new 0 (r.before ++ (ds ++ f.rest)) (length new) =
    subst P (sym ch.same_len) (blocks-append new 0 a (length old) r.before (ds ++ f.rest) front (blocks-append new a e (length old) ds f.rest ch.is back)) in
    record {
      front = r.before;
      back = f.rest;
      old_is = r.is ∙ ap (λ (z : List ℕ). r.before ++ z) f.is;
      new_is = block_places-row new (r.before ++ (ds ++ f.rest)) row;
      before = r.front;
      behind = f.row;
      row = row;
    }

-- What follows for each place.
pub record Relaid (old new : List ℕ) (a e : ℕ) (cs ds : List ℕ) : Type 0 where
  pub blocked : Blocked new
  pub keeps : (p : ℕ) → BlockBegins old p → (p < a) ⊎ (e ≤ p) → BlockBegins new p
  pub comes : (p : ℕ) → BlockBegins new p → (BlockBegins old p × ((p < a) ⊎ (e ≤ p))) ⊎ IsListed p ds
  pub made : (p : ℕ) → IsListed p ds → BlockBegins new p
  pub between : (p : ℕ) → BlockBegins old p → ((p < a) ⊎ (e ≤ p)) ⊎ IsListed p cs
  pub free : free_of new + free_among old cs ≡ free_of old + free_among new ds

three : (p : ℕ) (xs ys zs : List ℕ) → IsListed p (xs ++ (ys ++ zs)) → IsListed p xs ⊎ (IsListed p ys ⊎ IsListed p zs)
three p xs ys zs is =
    elim (in-append p xs (ys ++ zs) is) as (λ _. IsListed p xs ⊎ (IsListed p ys ⊎ IsListed p zs)) [ inl x ↦ inl x | inr y ↦ inr (in-append p ys zs y) ]

outside : (old new : List ℕ) (a e p : ℕ) (cs ds : List ℕ) → (r : Rows old new a e cs ds) → IsListed p r.front ⊎ IsListed p r.back → (p < a) ⊎ (e ≤ p)
outside old new a e p cs ds r (inl is) = let w = blocks-within old 0 a p r.front r.before is in inl (omega (arith, w.to, w.header.sized))
outside old new a e p cs ds r (inr is) = inr (blocks-within old e (length old) p r.back r.behind is).from

was-in : (old new : List ℕ) (a e p : ℕ) (cs ds : List ℕ) → (r : Rows old new a e cs ds) → BlockBegins old p → IsListed p r.front ⊎ (IsListed p cs ⊎ IsListed p r.back)
was-in old new a e p cs ds r begins =
    let P : List ℕ → Type 0 = λ z. IsListed p z in
    three p r.front cs r.back (subst P r.old_is begins.listed)

keep-front : (old new : List ℕ) (a e p : ℕ) (cs ds : List ℕ) → (r : Rows old new a e cs ds) → IsListed p r.front → BlockBegins new p
keep-front old new a e p cs ds r is =
    let P : List ℕ → Type 0 = λ z. IsListed p z in
    record { listed = subst P (sym r.new_is) (in-left p r.front (ds ++ r.back) is) }

keep-back : (old new : List ℕ) (a e p : ℕ) (cs ds : List ℕ) → (r : Rows old new a e cs ds) → IsListed p r.back → BlockBegins new p
keep-back old new a e p cs ds r is =
    let P : List ℕ → Type 0 = λ z. IsListed p z in
    record { listed = subst P (sym r.new_is) (in-right p r.front (ds ++ r.back) (in-right p ds r.back is)) }

keep-made : (old new : List ℕ) (a e p : ℕ) (cs ds : List ℕ) → (r : Rows old new a e cs ds) → IsListed p ds → BlockBegins new p
keep-made old new a e p cs ds r is =
    let P : List ℕ → Type 0 = λ z. IsListed p z in
    record { listed = subst P (sym r.new_is) (in-right p r.front (ds ++ r.back) (in-left p ds r.back is)) }

old-front : (old new : List ℕ) (a e p : ℕ) (cs ds : List ℕ) → (r : Rows old new a e cs ds) → IsListed p r.front → BlockBegins old p
old-front old new a e p cs ds r is =
    let P : List ℕ → Type 0 = λ z. IsListed p z in
    record { listed = subst P (sym r.old_is) (in-left p r.front (cs ++ r.back) is) }

old-back : (old new : List ℕ) (a e p : ℕ) (cs ds : List ℕ) → (r : Rows old new a e cs ds) → IsListed p r.back → BlockBegins old p
old-back old new a e p cs ds r is =
    let P : List ℕ → Type 0 = λ z. IsListed p z in
    record { listed = subst P (sym r.old_is) (in-right p r.front (cs ++ r.back) (in-right p cs r.back is)) }

keeps-outside : (old new : List ℕ) (a e p : ℕ) (cs ds : List ℕ) → Change old new a e cs ds → (r : Rows old new a e cs ds) → BlockBegins old p → (p < a) ⊎ (e ≤ p) → BlockBegins new p
keeps-outside old new a e p cs ds ch r begins out =
    elim (was-in old new a e p cs ds r begins) as (λ _. BlockBegins new p) [
      | inl x ↦ keep-front old new a e p cs ds r x
      | inr y ↦ elim y as (λ _. BlockBegins new p) [
        | inl c ↦ (let w = blocks-within old a e p cs ch.was c in absurd (omega (arith, w.from, w.to, w.header.sized, out)))
        | inr z ↦ keep-back old new a e p cs ds r z
      ]
    ]

comes-from : (old new : List ℕ) (a e p : ℕ) (cs ds : List ℕ) → (r : Rows old new a e cs ds) → BlockBegins new p → (BlockBegins old p × ((p < a) ⊎ (e ≤ p))) ⊎ IsListed p ds
comes-from old new a e p cs ds r begins =
    let P : List ℕ → Type 0 = λ z. IsListed p z in
    elim (three p r.front ds r.back (subst P r.new_is begins.listed)) as (λ _. (BlockBegins old p × ((p < a) ⊎ (e ≤ p))) ⊎ IsListed p ds) [
      | inl x ↦ inl (old-front old new a e p cs ds r x, outside old new a e p cs ds r (inl x))
      | inr y ↦ elim y as (λ _. (BlockBegins old p × ((p < a) ⊎ (e ≤ p))) ⊎ IsListed p ds) [
        | inl d ↦ inr d
        | inr z ↦ inl (old-back old new a e p cs ds r z, outside old new a e p cs ds r (inr z))
      ]
    ]

old-between : (old new : List ℕ) (a e p : ℕ) (cs ds : List ℕ) → (r : Rows old new a e cs ds) → BlockBegins old p → ((p < a) ⊎ (e ≤ p)) ⊎ IsListed p cs
old-between old new a e p cs ds r begins =
    elim (was-in old new a e p cs ds r begins) as (λ _. ((p < a) ⊎ (e ≤ p)) ⊎ IsListed p cs) [
      | inl x ↦ inl (outside old new a e p cs ds r (inl x))
      | inr y ↦ elim y as (λ _. ((p < a) ⊎ (e ≤ p)) ⊎ IsListed p cs) [
        | inl c ↦ inr c
        | inr z ↦ inl (outside old new a e p cs ds r (inr z))
      ]
    ]

free-three : (mem xs ys zs : List ℕ) → free_among mem (xs ++ (ys ++ zs)) ≡ free_among mem xs + free_among mem ys + free_among mem zs
free-three mem xs ys zs = omega (arith, free_among-append mem xs (ys ++ zs), free_among-append mem ys zs)

pub free_of-row : (mem ps : List ℕ) → block_places mem ≡ ps → free_of mem ≡ free_among mem ps
unfolding free_of
free_of-row mem ps is = ap (λ (z : List ℕ). free_among mem z) is

free-changed : (old new : List ℕ) (a e : ℕ) (cs ds : List ℕ) → Change old new a e cs ds → (r : Rows old new a e cs ds) → free_of new + free_among old cs ≡ free_of old + free_among new ds
free-changed old new a e cs ds ch r =
    let f : free_among new r.front ≡ free_among old r.front = free_among-same old new r.front (before-same old new a e cs ds r.front ch r.before) in
    let b : free_among new r.back ≡ free_among old r.back = free_among-same old new r.back (behind-same old new a e cs ds r.back ch r.behind) in
    omega (
      arith,
      f,
      b,
      free_of-row old (r.front ++ (cs ++ r.back)) r.old_is,
      free_of-row new (r.front ++ (ds ++ r.back)) r.new_is,
      free-three old r.front cs r.back,
      free-three new r.front ds r.back,
    )

pub relaid : (old new : List ℕ) (a e : ℕ) (cs ds : List ℕ) → Blocked old → Change old new a e cs ds → Relaid old new a e cs ds
relaid old new a e cs ds blocked ch =
    let r = change-rows old new a e cs ds blocked ch in
    record {
      blocked = blocked-row new (r.front ++ (ds ++ r.back)) r.row;
      keeps = λ p begins out. keeps-outside old new a e p cs ds ch r begins out;
      comes = λ p begins. comes-from old new a e p cs ds r begins;
      made = λ p is. keep-made old new a e p cs ds r is;
      between = λ p begins. old-between old new a e p cs ds r begins;
      free = free-changed old new a e cs ds ch r;
    }

-- A word of a block outside of the change.
outside-word : (old new : List ℕ) (a e p q : ℕ) (cs ds : List ℕ) → Blocked old → Change old new a e cs ds → BlockBegins old p → (p < a) ⊎ (e ≤ p) → p ≤ q → q < p + size_at old p
    → get_or new q 0 ≡ get_or old q 0
outside-word old new a e p q cs ds blocked ch begins (inl low) from to =
    let far : p + size_at old p ≤ a = apart old p a blocked begins ch.begins low in
    ch.same q (inl (omega arith))
outside-word old new a e p q cs ds blocked ch begins (inr high) from to = ch.same q (inr (omega arith))

-- What a change leaves that touches only one block that is not free.
pub others-stay : (old new : List ℕ) (a e at : ℕ) (cs ds : List ℕ) → Blocked old → Change old new a e cs ds
    → ((p : ℕ) → IsListed p cs → p ≢ at → kind_at old p ≡ 0) → ((p : ℕ) → IsListed p ds → p ≢ at → kind_at new p ≡ 0) → OthersStay old new at
others-stay old new a e at cs ds blocked ch cs_free ds_free =
    let r = relaid old new a e cs ds blocked ch in
    let out : (p : ℕ) → p ≢ at → IsUsed old p → (p < a) ⊎ (e ≤ p) =
    λ p other used. elim (r.between p used.begins) as (λ _. (p < a) ⊎ (e ≤ p)) [ inl o ↦ o | inr c ↦ absurd (omega (arith, cs_free p c other, used.kind)) ] in
    record {
      same_len = ch.same_len;
      stay = λ p other used.
          let o = out p other used in
          let word : get_or new p 0 ≡ get_or old p 0 = ch.same p o in
          record { begins = r.keeps p used.begins o; kind = omega (arith, word, used.kind) };
      only = λ p other used.
          elim (r.comes p used.begins) as (λ _. IsUsed old p) [
            | inl o ↦ (let word : get_or new p 0 ≡ get_or old p 0 = ch.same p o.1 in record { begins = o.0; kind = omega (arith, word, used.kind) })
            | inr d ↦ absurd (omega (arith, ds_free p d other, used.kind))
          ];
      words = λ p q other used from to. outside-word old new a e p q cs ds blocked ch used.begins (out p other used) from to;
    }

apart-old : (old new : List ℕ) (a e p : ℕ) (cs ds : List ℕ) → Blocked old → Change old new a e cs ds
    → ((q : ℕ) → BlockBegins old q → kind_at old q ≡ 0 → q + size_at old q ≡ a → 1 ≤ kind_at new a)
    → BlockBegins old p → kind_at old p ≡ 0 → 1 ≤ kind_at old (p + size_at old p) → (p < a) ⊎ (e ≤ p) → 1 ≤ kind_at new (p + size_at old p)
apart-old old new a e p cs ds blocked ch before begins free used (inl low) =
    let far : p + size_at old p ≤ a = apart old p a blocked begins ch.begins low in
    elim (cases_lt (p + size_at old p) a) as (λ _. 1 ≤ kind_at new (p + size_at old p)) [
      | inl inner ↦ omega (arith, ch.same (p + size_at old p) (inl inner), used)
      | inr past ↦ (
          let here : p + size_at old p ≡ a = omega arith in
          let P : ℕ → Type 0 = λ z. 1 ≤ kind_at new z in
          subst P (sym here) (before p begins free here))
    ]
apart-old old new a e p cs ds blocked ch before begins free used (inr high) =
    omega (arith, ch.same (p + size_at old p) (inr (omega arith)), used)

-- No two free blocks meet after a change where none met before, where what ends at its begin or begins at its end is used,
-- and where a free block that it makes is its last.
pub apart-again : (old new : List ℕ) (a e : ℕ) (cs ds : List ℕ) → Blocked old → Change old new a e cs ds → FreeApart old
    → ((p : ℕ) → BlockBegins old p → kind_at old p ≡ 0 → p + size_at old p ≡ a → 1 ≤ kind_at new a)
    → (e < length old → 1 ≤ kind_at old e) → ((p : ℕ) → IsListed p ds → kind_at new p ≡ 0 → p + size_at new p ≡ e) → FreeApart new
apart-again old new a e cs ds blocked ch fa before behind last =
    let r = relaid old new a e cs ds blocked ch in
    record {
      apart = λ p begins free below.
          elim (r.comes p begins) as (λ _. 1 ≤ kind_at new (p + size_at new p)) [
            | inl o ↦ (
                let word : get_or new p 0 ≡ get_or old p 0 = ch.same p o.1 in
                let size : size_at new p ≡ size_at old p = ap (λ (h : ℕ). h / 16) word in
                let P : ℕ → Type 0 = λ z. 1 ≤ kind_at new (p + z) in
                subst P (sym size) (apart-old old new a e p cs ds blocked ch before o.0 (omega (arith, word, free))
                (fa.apart p o.0 (omega (arith, word, free)) (omega (arith, below, size, ch.same_len))) o.1))
            | inr d ↦ (
                let end_of_p : p + size_at new p ≡ e = last p d free in
                let P : ℕ → Type 0 = λ z. 1 ≤ kind_at new z in
                subst P (sym end_of_p) (omega (arith, ch.same e (inr (omega arith)), behind (omega (arith, below, end_of_p, ch.same_len)))))
          ];
    }
