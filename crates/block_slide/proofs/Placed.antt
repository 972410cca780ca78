-- Places of blocks in use, and where they come to.
use Rattle.std.proofs.Common.{◌≡◌, ℕ, ◌+◌, ◌-◌, ◌<◌, ◌≤◌, ◌==◌, ◌&&◌, ◌||◌, nat_le, nat_lt, if◌then◌else◌, Bool, true, false, List, [], ◌∷◌, length, refl, sym, ap, subst, arith, inl, inr, ◌⊎◌}
use Rattle.std.proofs.lemmas.Bool.{cases_Bool, cases_lt, cases_eq}
use Rattle.std.proofs.lemmas.Bool.Decides.{nat_tests}
use Rattle.word_arena.specs.Blocks.{size_at, kind_at, Blocked, block_places, IsListed, IsUsed}
use Rattle.word_arena.specs.Sums.{free_before, slid, used_at}
use Rattle.word_arena.proofs.Side.Before.{before-most, before-order, before-used}
use Rattle.word_arena.proofs.Side.Facts.{block-within}
use Rattle.word_shift.specs.Slides.{RolesMoved}
use Rattle.block_slide.specs.Down.{packed_place, lies_used, is_in_use, comes_with, packed_test}

-- The place lies in a block in use.
pub record InBlock (mem : List ℕ) (at : ℕ) : Type 0 where
  pub block : ℕ
  pub used : IsUsed mem block
  pub from : block ≤ at
  pub below : at < block + size_at mem block

used-size : (mem : List ℕ) (p : ℕ) → 1 ≤ kind_at mem p → used_at mem p ≡ size_at mem p
used-size mem p some = (let other : (kind_at mem p == 0) ≡ false = grind (arith, nat_tests, some) in rw other refl)

used-kind : (mem : List ℕ) (p : ℕ) → 0 < used_at mem p → 1 ≤ kind_at mem p
used-kind mem p some = elim (cases_Bool (kind_at mem p == 0)) [
  | inl t ↦
      let P : Bool → Type 0 = λ b. 0 < (if b then 0 else size_at mem p) in
      absurd (omega (arith, subst P t some))
  | inr f ↦ grind (arith, nat_tests, f)
]

between : (a q b : ℕ) → a ≤ q → q < b → (nat_le a q && nat_lt q b) ≡ true
between a q b low high = grind (arith, nat_tests, low, high)

between-told : (a q b : ℕ) → (nat_le a q && nat_lt q b) ≡ true → (a ≤ q) × (q < b)
between-told a q b e = (grind (arith, nat_tests, e), grind (arith, nat_tests, e))

or-left : (a b : Bool) → a ≡ true → (a || b) ≡ true
or-left a b t = rw t refl

or-right : (a b : Bool) → b ≡ true → (a || b) ≡ true
or-right true b t = refl
or-right false b t = t

or-told : (a b : Bool) → (a || b) ≡ true → (a ≡ true) ⊎ (b ≡ true)
or-told true b t = inl refl
or-told false b t = inr t

and-told : (a b : Bool) → (a && b) ≡ true → (a ≡ true) × (b ≡ true)
and-told true b t = (refl, t)
and-told false b t = absurd (cc)

lies : (mem : List ℕ) (at p : ℕ) (ps : List ℕ) → IsListed p ps → p ≤ at → at < p + used_at mem p → lies_used mem at ps ≡ true
lies mem at p [] is low high = absurd is
lies mem at p (q ∷ qs) (inl e) low high =
    let P : ℕ → Type 0 = λ z. (nat_le z at && nat_lt at (z + used_at mem z)) ≡ true in
    or-left (nat_le q at && nat_lt at (q + used_at mem q)) (lies_used mem at qs) (subst P e (between p at (p + used_at mem p) low high))
lies mem at p (q ∷ qs) (inr is) low high = or-right (nat_le q at && nat_lt at (q + used_at mem q)) (lies_used mem at qs) (lies mem at p qs is low high)

lies-told : (mem : List ℕ) (at : ℕ) (ps : List ℕ) → lies_used mem at ps ≡ true → (p : ℕ) × (IsListed p ps × ((p ≤ at) × (at < p + used_at mem p)))
lies-told mem at [] t = absurd (cc)
lies-told mem at (q ∷ qs) t = elim (or-told (nat_le q at && nat_lt at (q + used_at mem q)) (lies_used mem at qs) t) [
  | inl y ↦ (let (low, high) = between-told q at (q + used_at mem q) y in (q, (inl refl, (low, high))))
  | inr z ↦ (let (p, (is, both)) = lies-told mem at qs z in (p, (inr is, both)))
]

pub in-use : (mem : List ℕ) (at : ℕ) → InBlock mem at → is_in_use mem at ≡ true
unfolding is_in_use
in-use mem at b = lies mem at b.block (block_places mem) b.used.begins.listed b.from (omega (arith, b.below, used-size mem b.block b.used.kind))

pub in-block : (mem : List ℕ) (at : ℕ) → is_in_use mem at ≡ true → InBlock mem at
unfolding is_in_use
in-block mem at t =
    let (p, (is, (low, high))) = lies-told mem at (block_places mem) t in
    let some : 1 ≤ kind_at mem p = used-kind mem p (omega (arith, low, high)) in
    record { block = p; used = record { begins = record { listed = is }; kind = some }; from = low; below = omega (arith, high, used-size mem p some) }

-- A place of a block in use, or its end, comes down by the free words before the block.
module _ (mem : List ℕ) (blocked : Blocked mem) where
  pub place-of : (p at : ℕ) → IsUsed mem p → p ≤ at → at ≤ p + size_at mem p → packed_place mem at ≡ slid mem p at
  place-of p at used low high =
      let within : p + size_at mem p ≤ length mem = (block-within mem p blocked used.begins).to in
      let inside : nat_le at (length mem) ≡ true = grind (arith, nat_tests, high, within) in
      let same : free_before mem at ≡ free_before mem p = before-used mem p at blocked used low high in
      rw inside (ap (λ n. at - n) same)

  pub few-before : (p : ℕ) → IsUsed mem p → free_before mem p ≤ p
  few-before p used = before-most mem p blocked used.begins

  -- Words of one block move by one shift.
  pub one-shift : (p a b j : ℕ) → IsUsed mem p → p ≤ a → b ≡ a + j → b ≤ p + size_at mem p → packed_place mem b ≡ packed_place mem a + j
  one-shift p a b j used low is high =
      omega (arith, place-of p a used low (omega (arith, is, high)), place-of p b used (omega (arith, low, is)) high, few-before p used, low, is)

  -- Places of blocks in use that come to one place lie in one block, and are one.
  pub same-block : (p q a b : ℕ) → IsUsed mem p → IsUsed mem q → p ≤ a → a < p + size_at mem p → q ≤ b → b < q + size_at mem q → packed_place mem a ≡ packed_place mem b → p ≡ q
  same-block p q a b one two low high from to e =
      let x : packed_place mem a ≡ slid mem p a = place-of p a one low (omega (arith, high)) in
      let y : packed_place mem b ≡ slid mem q b = place-of q b two from (omega (arith, to)) in
      let f : free_before mem p ≤ p = few-before p one in
      let h : free_before mem q ≤ q = few-before q two in
      elim (cases_eq p q) as (λ _. p ≡ q) [
        | inl same ↦ same
        | inr other ↦ elim (cases_lt p q) as (λ _. p ≡ q) [
          | inl below ↦ absurd (omega (arith, e, x, y, f, h, low, high, from, to, before-order mem p q blocked one two below))
          | inr above ↦ absurd (omega (arith, e, x, y, f, h, low, high, from, to, before-order mem q p blocked two one (omega (arith, other, above))))
        ]
      ]

  pub places-differ : (a b : ℕ) → is_in_use mem a ≡ true → is_in_use mem b ≡ true → packed_place mem a ≡ packed_place mem b → a ≡ b
  places-differ a b s t e =
      let x : InBlock mem a = in-block mem a s in
      let y : InBlock mem b = in-block mem b t in
      let same : x.block ≡ y.block = same-block x.block y.block a b x.used y.used x.from x.below y.from y.below e in
      omega (
        arith,
        e,
        same,
        ap (free_before mem) same,
        place-of x.block a x.used x.from (omega (arith, x.below)),
        place-of y.block b y.used y.from (omega (arith, y.below)),
        few-before x.block x.used,
        few-before y.block y.used,
        x.from,
        y.from,
      )

comes : (c : ℕ → ℕ → Bool) (mem : List ℕ) (at role p : ℕ) (ps : List ℕ) → IsListed p ps → slid mem p p ≤ at → at < slid mem p p + used_at mem p
    → c (at + free_before mem p) role ≡ true → comes_with c mem at role ps ≡ true
comes c mem at role p [] is low high t = absurd is
comes c mem at role p (q ∷ qs) (inl e) low high t =
    let P : ℕ → Type 0 = λ z. ((nat_le (slid mem z z) at && nat_lt at (slid mem z z + used_at mem z)) && c (at + free_before mem z) role) ≡ true in
    let here : (nat_le (slid mem p p) at && nat_lt at (slid mem p p + used_at mem p)) ≡ true = between (slid mem p p) at (slid mem p p + used_at mem p) low high in
    or-left ((nat_le (slid mem q q) at && nat_lt at (slid mem q q + used_at mem q)) && c (at + free_before mem q) role) (comes_with c mem at role qs) (subst P e (rw here t))
comes c mem at role p (q ∷ qs) (inr is) low high t =
    or-right ((nat_le (slid mem q q) at && nat_lt at (slid mem q q + used_at mem q)) && c (at + free_before mem q) role) (comes_with c mem at role qs)
    (comes c mem at role p qs is low high t)

comes-told : (c : ℕ → ℕ → Bool) (mem : List ℕ) (at role : ℕ) (ps : List ℕ) → comes_with c mem at role ps ≡ true
    → (p : ℕ) × (IsListed p ps × ((slid mem p p ≤ at) × ((at < slid mem p p + used_at mem p) × (c (at + free_before mem p) role ≡ true))))
comes-told c mem at role [] t = absurd (cc)
comes-told c mem at role (q ∷ qs) t =
    elim (or-told ((nat_le (slid mem q q) at && nat_lt at (slid mem q q + used_at mem q)) && c (at + free_before mem q) role) (comes_with c mem at role qs) t) [
      | inl y ↦
          let (there, allowed) = and-told (nat_le (slid mem q q) at && nat_lt at (slid mem q q + used_at mem q)) (c (at + free_before mem q) role) y in
          let (low, high) = between-told (slid mem q q) at (slid mem q q + used_at mem q) there in
          (q, (inl refl, (low, (high, allowed))))
      | inr z ↦ (let (p, (is, both)) = comes-told c mem at role qs z in (p, (inr is, both)))
    ]

-- The word that came from a place has its roles, and no others.
pub roles-come : (c : ℕ → ℕ → Bool) (mem : List ℕ) (a k : ℕ) → Blocked mem → is_in_use mem a ≡ true → c a k ≡ true → packed_test c mem (packed_place mem a) k ≡ true
unfolding packed_test
roles-come c mem a k blocked t role =
    let x : InBlock mem a = in-block mem a t in
    let at : packed_place mem a ≡ slid mem x.block a = place-of mem blocked x.block a x.used x.from (omega (arith, x.below)) in
    let few : free_before mem x.block ≤ x.block = few-before mem blocked x.block x.used in
    let back : packed_place mem a + free_before mem x.block ≡ a = omega (arith, at, few, x.from) in
    let P : ℕ → Type 0 = λ z. c z k ≡ true in
    comes c mem (packed_place mem a) k x.block (block_places mem) x.used.begins.listed (omega (arith, at, few, x.from))
    (omega (arith, at, few, x.from, x.below, used-size mem x.block x.used.kind)) (subst P (sym back) role)

pub roles-only : (c : ℕ → ℕ → Bool) (mem : List ℕ) (q k : ℕ) → Blocked mem → packed_test c mem q k ≡ true
    → (a : ℕ) × ((is_in_use mem a ≡ true) × ((q ≡ packed_place mem a) × (c a k ≡ true)))
unfolding packed_test
roles-only c mem q k blocked t =
    let (p, (is, (low, (high, role)))) = comes-told c mem q k (block_places mem) t in
    let some : 1 ≤ kind_at mem p = used-kind mem p (omega (arith, low, high)) in
    let used : IsUsed mem p = record { begins = record { listed = is }; kind = some } in
    let few : free_before mem p ≤ p = few-before mem blocked p used in
    let size : used_at mem p ≡ size_at mem p = used-size mem p some in
    let a = q + free_before mem p in
    let from : p ≤ a = omega (arith, low, few) in
    let below : a < p + size_at mem p = omega (arith, high, few, size) in
    let at : packed_place mem a ≡ slid mem p a = place-of mem blocked p a used from (omega (arith, below)) in
    (a, (in-use mem a (record { block = p; used = used; from = from; below = below }), (omega (arith, at), role)))

pub roles-moved : (c : ℕ → ℕ → Bool) (mem : List ℕ) → Blocked mem → RolesMoved (packed_place mem) (is_in_use mem) c (packed_test c mem)
roles-moved c mem blocked = record { once = λ a b s t e. places-differ mem blocked a b s t e; only = λ q k t. roles-only c mem q k blocked t }
