-- The walk that brings the blocks in use side by side.
use Rattle.std.proofs.Common.{◌≡◌, ℕ, ◌+◌, ◌/◌, ◌<◌, ◌≤◌, ◌⊎◌, List, [], ◌∷◌, ◌++◌, length, get_or, refl, sym, ◌∙◌, ap, subst, arith, inl, inr}
use Rattle.word_arena.specs.Blocks.{size_at, kind_at, IsHeader, Blocks, Blocked, block_places, IsListed, BlockBegins, IsUsed, free_at, free_among, free_of}
use Rattle.word_arena.specs.Calls.{IsGreatest, freed}
use Rattle.word_arena.specs.Sums.{slid}
use Rattle.word_arena.specs.Packs.{Packed, Gathered}
use Rattle.word_arena.proofs.Side.Places.{in-left, in-right, in-append}
use Rattle.word_arena.proofs.Side.Tiling.{blocks-append, blocks-order, blocks-same, blocks-within, block_places-row}
use Rattle.word_arena.proofs.Side.Facts.{free-all, free-none, block-within, one-or-apart}
use Rattle.word_arena.proofs.Side.Runs.{Run, only-in, made-run}
use Rattle.word_arena.proofs.Side.Before.{before-zero, before-next, before-most, before-all}
use Rattle.word_arena.proofs.Laid.Relaid.{free_of-row}
use Rattle.word_arena.proofs.Laid.Writes.{freed-length, freed-first, freed-other}
use Rattle.word_arena.proofs.Found.Table.{begins-below}

pub gathered-none : (mem : List ℕ) → Blocked mem → Gathered mem mem 0 0
gathered-none mem blocked =
    record {
      same_len = refl;
      order = omega (arith, before-zero mem blocked);
      ahead = λ q above. refl;
      places = [];
      row = refl;
      used = λ r listed. elim listed [ ];
      words = λ p q used below. absurd (omega (arith, below));
      stay = λ p used below. absurd (omega (arith, below));
      only = λ r listed. elim listed [ ];
    }

-- A block in use that begins before a block's end begins before it, or is it.
pub used-until : (old : List ℕ) (at p : ℕ) → Blocked old → BlockBegins old at → IsUsed old p → p < at + size_at old at → (p < at) ⊎ (p ≡ at)
used-until old at p blocked begins used below =
    elim (one-or-apart old p at blocked used.begins begins) as (λ _. (p < at) ⊎ (p ≡ at)) [
      | inl same ↦ inr same
      | inr far ↦ inl (omega (arith, far, below, (block-within old p blocked used.begins).header.sized))
    ]

pub used-before : (old : List ℕ) (at p : ℕ) → Blocked old → BlockBegins old at → kind_at old at ≡ 0 → IsUsed old p → p < at + size_at old at → p < at
used-before old at p blocked begins free used below =
    elim (used-until old at p blocked begins used below) as (λ _. p < at) [
      | inl low ↦ low
      | inr same ↦ (let P : ℕ → Type 0 = λ z. 1 ≤ kind_at old z in let some : 1 ≤ kind_at old at = subst P same used.kind in absurd (omega (arith, some, free)))
    ]

-- A free block is passed.
pub gathered-free : (old now : List ℕ) (at to : ℕ) → Blocked old → BlockBegins old at → kind_at old at ≡ 0 → Gathered old now at to → Gathered old now (at + size_at old at) to
gathered-free old now at to blocked begins free g =
    let low : (p : ℕ) → IsUsed old p → p < at + size_at old at → p < at = λ p used below. used-before old at p blocked begins free used below in
    record {
      same_len = g.same_len;
      order = omega (arith, g.order, before-next old at blocked begins, free-all old at free);
      ahead = λ q above. g.ahead q (omega (arith, above));
      places = g.places;
      row = g.row;
      used = g.used;
      words = λ p q used below from to_end. g.words p q used (low p used below) from to_end;
      stay = λ p used below. g.stay p used (low p used below);
      only = λ r listed. (let o = g.only r listed in (o.0, o.1, omega (arith, o.2), o.3));
    }

-- A word of a block that was brought lies before the place to which the next one comes.
pub slid-below : (old now : List ℕ) (at to p q : ℕ) → Blocked old → Gathered old now at to → IsUsed old p → p < at → p ≤ q → q < p + size_at old p → slid old p q < to
slid-below old now at to p q blocked g used below from before =
    let w = blocks-within now 0 to (slid old p p) g.places g.row (g.stay p used below) in
    let head : get_or now (slid old p p) 0 ≡ get_or old p 0 = g.words p p used below (omega arith) (omega (arith, from, before)) in
    let size : size_at now (slid old p p) ≡ size_at old p = ap (λ (h : ℕ). h / 16) head in
    omega (arith, w.to, size, before-most old p blocked used.begins)

-- A block in use is brought.

brought-word : (old now next : List ℕ) (at to p q : ℕ) → Blocked old → IsUsed old at → Gathered old now at to
    → ((r s : ℕ) → to ≤ s → s < to + size_at old at → r + to ≡ s + at → get_or next s 0 ≡ get_or now r 0)
    → ((s : ℕ) → (s < to) ⊎ (to + size_at old at ≤ s) → get_or next s 0 ≡ get_or now s 0)
    → IsUsed old p → (p < at) ⊎ (p ≡ at) → p ≤ q → q < p + size_at old p → get_or next (slid old p q) 0 ≡ get_or old q 0
brought-word old now next at to p q blocked begins g moved kept used (inl below) from before =
    kept (slid old p q) (inl (slid-below old now at to p q blocked g used below from before)) ∙ g.words p q used below from before
brought-word old now next at to p q blocked begins g moved kept used (inr same) from before =
    let P : ℕ → Type 0 = λ z. z ≤ q → q < z + size_at old z → get_or next (slid old z q) 0 ≡ get_or old q 0 in
    let here : P at = λ low high. moved q (slid old at q) (omega (arith, g.order, low)) (omega (arith, g.order, low, high)) (omega (arith, g.order, low)) ∙ g.ahead q low in
    subst P (sym same) here from before

brought-stays : (old now : List ℕ) (at to p : ℕ) → Gathered old now at to → (gs : List ℕ) → ((r : ℕ) → p < at → IsUsed old p → IsListed (slid old p p) gs)
    → IsUsed old p → (p < at) ⊎ (p ≡ at) → IsListed (slid old p p) (gs ++ (to ∷ []))
brought-stays old now at to p g gs there used (inl below) = in-left (slid old p p) gs (to ∷ []) (there p below used)
brought-stays old now at to p g gs there used (inr same) =
    let P : ℕ → Type 0 = λ z. slid old z z ≡ to in
    let here : slid old at at ≡ to = omega (arith, g.order) in
    in-right (slid old p p) gs (to ∷ []) (inl (subst P (sym same) here))

pub gathered-used : (old now next : List ℕ) (at to : ℕ) → Blocked old → IsUsed old at → Gathered old now at to → length next ≡ length now
    → ((r s : ℕ) → to ≤ s → s < to + size_at old at → r + to ≡ s + at → get_or next s 0 ≡ get_or now r 0)
    → ((s : ℕ) → (s < to) ⊎ (to + size_at old at ≤ s) → get_or next s 0 ≡ get_or now s 0) → Gathered old next (at + size_at old at) (to + size_at old at)
gathered-used old now next at to blocked used g same_len moved kept =
    let n = size_at old at in
    let in_row = block-within old at blocked used.begins in
    let order = g.order in
    let head : get_or next to 0 ≡ get_or old at 0 = moved at to (omega arith) (omega (arith, in_row.header.sized)) (omega arith) ∙ g.ahead at (omega arith) in
    let size : size_at next to ≡ n = ap (λ (h : ℕ). h / 16) head in
    let front : (r : ℕ) → IsListed r g.places → get_or next r 0 ≡ get_or now r 0 =
    λ r listed. (let w = blocks-within now 0 to r g.places g.row listed in kept r (inl (omega (arith, w.to, w.header.sized)))) in
    let last : Blocks next to (to ∷ []) (to + n) = (refl, subst IsHeader (sym head) in_row.header, ap (λ (z : ℕ). to + z) size) in
    record {
      same_len = same_len ∙ g.same_len;
      order = omega (arith, order, before-next old at blocked used.begins, free-none old at used.kind);
      ahead = λ q above. kept q (inr (omega (arith, above, order))) ∙ g.ahead q (omega (arith, above));
      places = g.places ++ (to ∷ []);
      row = blocks-append next 0 to (to + n) g.places (to ∷ []) (blocks-same now next 0 to g.places front g.row) last;
      used = λ r listed. elim (in-append r g.places (to ∷ []) listed) as (λ _. 1 ≤ kind_at next r) [
        | inl there ↦ omega (arith, front r there, g.used r there)
        | inr here ↦ (let P : ℕ → Type 0 = λ z. 1 ≤ kind_at next z in subst P (sym (only-in r to here)) (omega (arith, head, used.kind)))
      ];
      words = λ p q is below from before. brought-word old now next at to p q blocked used g moved kept is (used-until old at p blocked used.begins is below) from before;
      stay = λ p is below. brought-stays old now at to p g g.places (λ r low some. g.stay p some low) is (used-until old at p blocked used.begins is below);
      only = λ r listed. elim (in-append r g.places (to ∷ []) listed) as (λ _. (p : ℕ) × IsUsed old p × (p < at + n) × (slid old p p ≡ r)) [
        | inl there ↦ (let o = g.only r there in (o.0, o.1, omega (arith, o.2), o.3))
        | inr here ↦ (at, used, omega (arith, in_row.header.sized), omega (arith, order, only-in r to here))
      ];
    }

-- All blocks are brought, and the rest is one free block.

pub record Rows (now new : List ℕ) (to : ℕ) (places : List ℕ) : Type 0 where
  pub run : Run new to (length now)
  pub is : block_places new ≡ places ++ run.ps
  pub front : (r : ℕ) → r < to → get_or new r 0 ≡ get_or now r 0

pub packed-rows : (now new : List ℕ) (to : ℕ) (places : List ℕ) → Blocks now 0 places to → to ≤ length now → new ≡ freed now to (length now) → Rows now new to places
packed-rows now new to places row inside is =
    let done = freed now to (length now) in
    let len : length done ≡ length now = freed-length now to (length now) in
    let run = made-run done to (length now) inside (λ some. freed-first now to (length now) some some) in
    let front : (r : ℕ) → r < to → get_or done r 0 ≡ get_or now r 0 = λ r below. freed-other now to (length now) r (inl (omega (arith, below))) in
    let first : Blocks done 0 places to =
    blocks-same now done 0 to places (λ p listed. (let w = blocks-within now 0 to p places row listed in front p (omega (arith, w.to, w.header.sized)))) row in
    let P : ℕ → Type 0 = λ z. Blocks done 0 (places ++ run.ps) z in
    let whole : Blocks done 0 (places ++ run.ps) (length done) = subst P (sym len) (blocks-append done 0 to (length now) places run.ps first run.row) in
    let Q : List ℕ → Type 0 = λ z. Rows now z to places in
    subst Q (sym is) (record { run = run; is = block_places-row done (places ++ run.ps) whole; front = front })

pub in-rows : (now new : List ℕ) (to r : ℕ) (places : List ℕ) → (rows : Rows now new to places) → BlockBegins new r → IsListed r places ⊎ IsListed r rows.run.ps
in-rows now new to r places rows begins =
    let P : List ℕ → Type 0 = λ z. IsListed r z in
    in-append r places rows.run.ps (subst P rows.is begins.listed)

pub brought-used : (old now new : List ℕ) (to r : ℕ) → (g : Gathered old now (length old) to) → Rows now new to g.places → IsListed r g.places → 1 ≤ kind_at new r
brought-used old now new to r g rows listed =
    let w = blocks-within now 0 to r g.places g.row listed in
    omega (arith, rows.front r (omega (arith, w.to, w.header.sized)), g.used r listed)

pub packed-used : (old now new : List ℕ) (to : ℕ) → Gathered old now (length old) to → new ≡ freed now to (length now) → to ≤ length now
    → (r : ℕ) → BlockBegins new r → r < to → 1 ≤ kind_at new r
packed-used old now new to g is inside r begins below =
    let rows = packed-rows now new to g.places g.row inside is in
    elim (in-rows now new to r g.places rows begins) as (λ _. 1 ≤ kind_at new r) [
      | inl there ↦ brought-used old now new to r g rows there
      | inr here ↦ absurd (omega (arith, rows.run.only r here, below))
    ]

pub packed : (old now new : List ℕ) (to : ℕ) → Blocked old → Gathered old now (length old) to → new ≡ freed now to (length now) → to ≤ length now → Packed old new
packed old now new to blocked g is inside =
    let rows = packed-rows now new to g.places g.row inside is in
    let len : length new ≡ length now = ap length is ∙ freed-length now to (length now) in
    let low : (p : ℕ) → IsUsed old p → p < length old = λ p used. begins-below old p blocked used.begins in
    record {
      same_len = len ∙ g.same_len;
      used = λ p used.
          let there : IsListed (slid old p p) g.places = g.stay p used (low p used) in
          let P : List ℕ → Type 0 = λ z. IsListed (slid old p p) z in
          record {
            begins = record { listed = subst P (sym rows.is) (in-left (slid old p p) g.places rows.run.ps there) };
            kind = brought-used old now new to (slid old p p) g rows there;
          };
      words = λ p q used from before.
          rows.front (slid old p q) (slid-below old now (length old) to p q blocked g used (low p used) from before) ∙ g.words p q used (low p used) from before;
      only = λ r used. elim (in-rows now new to r g.places rows used.begins) as (λ _. (p : ℕ) × IsUsed old p × (slid old p p ≡ r)) [
        | inl there ↦ (let o = g.only r there in (o.0, o.1, o.3))
        | inr here ↦ absurd (omega (arith, rows.run.free r here, used.kind))
      ];
      last = λ r begins free. elim (in-rows now new to r g.places rows begins) as (λ _. r + size_at new r ≡ length new) [
        | inl there ↦ absurd (omega (arith, brought-used old now new to r g rows there, free))
        | inr here ↦ rows.run.last r here ∙ sym len
      ];
    }

-- No block in use has a free word.
used-none-free : (mem ps : List ℕ) → ((p : ℕ) → IsListed p ps → 1 ≤ kind_at mem p) → free_among mem ps ≡ 0
used-none-free mem [] used = refl
used-none-free mem (p ∷ ps) used = omega (arith, free-none mem p (used p (inl refl)), used-none-free mem ps (λ q is. used q (inr is)))

pub packed-free : (old now : List ℕ) (to free : ℕ) → Blocked old → (g : Gathered old now (length old) to) → free + to ≡ free_among now g.places + length now → free ≡ free_of old
packed-free old now to free blocked g sum = omega (arith, used-none-free now g.places g.used, sum, g.order, before-all old blocked, g.same_len)

-- Where each free block ends at the end of a row, there is one at most, with all free words.
sum-above : (mem ps : List ℕ) (p : ℕ) → IsListed p ps → free_at mem p ≤ free_among mem ps
sum-above mem [] p listed = absurd listed
sum-above mem (q ∷ qs) p (inl e) = let P : ℕ → Type 0 = λ x. free_at mem x ≤ free_at mem q + free_among mem qs in subst P (sym e) (omega arith)
sum-above mem (q ∷ qs) p (inr deep) = omega (arith, sum-above mem qs p deep)

none-behind : (mem ps : List ℕ) (b : ℕ) → Blocks mem b ps b → ps ≡ []
none-behind mem [] b row = refl
none-behind mem (p ∷ ps) b (e, header, row) = absurd (omega (arith, header.sized, blocks-order mem (b + size_at mem p) b ps row))

sum-met : (mem : List ℕ) (a b : ℕ) (ps : List ℕ) → Blocks mem a ps b → ((r : ℕ) → IsListed r ps → kind_at mem r ≡ 0 → r + size_at mem r ≡ b) → 0 < free_among mem ps
    → (p : ℕ) × IsListed p ps × (free_at mem p ≡ free_among mem ps)
sum-met mem a b [] row last some = absurd (omega (arith, some))
sum-met mem a b (p ∷ ps) (e, header, row) last some =
    let which : (kind_at mem p ≡ 0) ⊎ (1 ≤ kind_at mem p) = grind arith in
    elim which [
      | inl free ↦
          let ends : p + size_at mem p ≡ b = last p (inl refl) free in
          let P : ℕ → Type 0 = λ z. Blocks mem z ps b in
          let behind : ps ≡ [] = none-behind mem ps b (subst P (omega (arith, ends, e)) row) in
          (p, inl refl, omega (arith, ap (free_among mem) behind))
      | inr used ↦
          let none : free_at mem p ≡ 0 = free-none mem p used in
          let deep = sum-met mem (a + size_at mem p) b ps row (λ r i k. last r (inr i) k) (omega (arith, some, none)) in
          (deep.0, inr deep.1, omega (arith, deep.2, none))
    ]

pub one-hole : (mem : List ℕ) → Blocked mem → ((r : ℕ) → BlockBegins mem r → kind_at mem r ≡ 0 → r + size_at mem r ≡ length mem) → IsGreatest mem (free_of mem)
one-hole mem blocked last =
    let sum : free_of mem ≡ free_among mem (block_places mem) = free_of-row mem (block_places mem) refl in
    record {
      above = λ p begins. omega (arith, sum, sum-above mem (block_places mem) p begins.listed);
      met = λ some.
          let m = sum-met mem 0 (length mem) (block_places mem) blocked.row (λ r i k. last r (record { listed = i }) k) (omega (arith, some, sum)) in
          (m.0, record { listed = m.1 }, m.2 ∙ sym sum);
    }
