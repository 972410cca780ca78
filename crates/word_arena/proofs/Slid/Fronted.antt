-- Where each stretch has its first block, told while the blocks in use are brought side by side.
use Rattle.std.proofs.Common.{◌≡◌, ◌≢◌, ℕ, ◌+◌, ◌-◌, ◌*◌, ◌/◌, ◌%◌, ◌<◌, ◌≤◌, ◌⊎◌, List, length, get_or, set, replicate, length-set, refl, sym, ◌∙◌, ap, subst, arith, inl, inr}
use Rattle.std.proofs.lemmas.Bool.{cases_lt, cases_eq}
use Rattle.std.proofs.lemmas.List.{get_or-replicate, get_or-set_same, get_or-set_other, length-replicate}
use Rattle.word_arena.specs.Blocks.{size_at, kind_at, free_at, Blocked, BlockBegins, IsUsed}
use Rattle.word_arena.specs.Calls.{freed}
use Rattle.word_arena.specs.Sums.{slid}
use Rattle.word_arena.specs.Packs.{Packed, Gathered}
use Rattle.word_arena.specs.Fronts.{TellsFirst, BroughtTo, EndsRow, FirstOf, Firsts}
use Rattle.word_arena.specs.Stretches.{HasRoom, IsFirst, IsTop, Right}
use Rattle.word_arena.specs.declared.holes.Holes.{Holes}
use Rattle.word_arena.proofs.Side.Places.{in-right}
use Rattle.word_arena.proofs.Side.Facts.{free-all, free-none, block-within}
use Rattle.word_arena.proofs.Found.Table.{begins-below}
use Rattle.word_arena.proofs.Slid.Gathering.{Rows, brought-used, in-rows, packed-rows, slid-below, used-before, used-until}

pub firsts-none : (C : ℕ → Type 0) (n : ℕ) → ((at : ℕ) → C at → ⊥) → Firsts C (replicate n 64) 0
firsts-none C n none =
    record {
      entries = λ i inside.
          let all : List ℕ = replicate n 64 in
          let far : get_or all i 0 ≡ 64 = get_or-replicate n i 64 0 (omega (arith, inside, length-replicate {A = ℕ} n 64)) in
          record { begins = λ small. absurd (omega (arith, small, far)); least = λ at there of. absurd (none at there) };
      high = λ at there. absurd (none at there);
      last = λ some. absurd (omega (arith, some));
      inside = omega arith;
    }

pub firsts-same : (C D : ℕ → Type 0) (firsts : List ℕ) (next : ℕ) → ((at : ℕ) → C at → D at) → ((at : ℕ) → D at → C at) → Firsts C firsts next → Firsts D firsts next
firsts-same C D firsts next more less f =
    record {
      entries = λ i inside.
          let e : FirstOf C i (get_or firsts i 0) = f.entries i inside in
          record { begins = λ small. more (i * 64 + get_or firsts i 0) (e.begins small); least = λ at there. e.least at (less at there) };
      high = λ at there. f.high at (less at there);
      last = f.last;
      inside = f.inside;
    }

-- One more place, which lies behind all others, is told.
module _ (C D : ℕ → Type 0) (firsts : List ℕ) (next to : ℕ) (f : Firsts C firsts next) (low : (at : ℕ) → C at → at < to) (more : (at : ℕ) → C at → D at) (here : D to)
    (less : (at : ℕ) → D at → C at ⊎ (at ≡ to)) where
  firsts-met : to / 64 < next → Firsts D firsts next
  firsts-met below =
      let before : (next - 1) * 64 + get_or firsts (next - 1) 0 < to =
      low ((next - 1) * 64 + get_or firsts (next - 1) 0) ((f.entries (next - 1) (omega (arith, below, f.inside))).begins (f.last (omega (arith, below)))) in
      record {
        entries = λ i inside.
            let e : FirstOf C i (get_or firsts i 0) = f.entries i inside in
            record {
              begins = λ small. more (i * 64 + get_or firsts i 0) (e.begins small);
              least = λ at there of. elim (less at there) as (λ _. i * 64 + get_or firsts i 0 ≤ at) [
                | inl old ↦ e.least at old of
                | inr same ↦
                    let own : next - 1 ≡ i = omega (arith, same, of, before, below) in
                    let P : ℕ → Type 0 = λ z. z * 64 + get_or firsts z 0 < to in
                    omega (arith, same, subst P own before)
              ];
            };
        high = λ at there. elim (less at there) as (λ _. at < next * 64) [ inl old ↦ f.high at old | inr same ↦ omega (arith, same, below) ];
        last = f.last;
        inside = f.inside;
      }

  firsts-set : next ≤ to / 64 → to / 64 < length firsts → Firsts D (set firsts (to / 64) (to % 64)) (to / 64 + 1)
  firsts-set above inside =
      let s = set firsts (to / 64) (to % 64) in
      let len : length s ≡ length firsts = length-set firsts (to / 64) (to % 64) in
      let own : get_or s (to / 64) 0 ≡ to % 64 = get_or-set_same firsts (to / 64) (to % 64) 0 inside in
      let first : FirstOf D (to / 64) (to % 64) = record {
        begins = λ _. subst D (omega arith) here;
        least = λ at there of. elim (less at there) as (λ _. to / 64 * 64 + to % 64 ≤ at) [
          | inl old ↦ absurd (omega (arith, f.high at old, above, of))
          | inr same ↦ omega (arith, same)
        ];
      } in
      record {
        entries = λ i within. elim (cases_eq i (to / 64)) as (λ _. FirstOf D i (get_or s i 0)) [
          | inl e ↦
              let P : ℕ → Type 0 = λ z. FirstOf D (to / 64) z in
              let Q : ℕ → Type 0 = λ z. FirstOf D z (get_or s z 0) in
              subst Q (sym e) (subst P (sym own) first)
          | inr other ↦
              let e : FirstOf C i (get_or firsts i 0) = f.entries i (omega (arith, within, len)) in
              let P : ℕ → Type 0 = λ z. FirstOf D i z in
              subst P (sym (get_or-set_other firsts (to / 64) i (to % 64) 0 other)) (record {
                begins = λ small. more (i * 64 + get_or firsts i 0) (e.begins small);
                least = λ at there of. elim (less at there) as (λ _. i * 64 + get_or firsts i 0 ≤ at) [
                  | inl old ↦ e.least at old of
                  | inr same ↦ absurd (omega (arith, same, of, other))
                ];
              })
        ];
        high = λ at there. elim (less at there) as (λ _. at < (to / 64 + 1) * 64) [ inl old ↦ omega (arith, f.high at old, above) | inr same ↦ omega (arith, same) ];
        last = λ some.
            let P : ℕ → Type 0 = λ z. get_or s z 0 < 64 in
            let at : to / 64 ≡ to / 64 + 1 - 1 = omega arith in
            let small : get_or s (to / 64) 0 < 64 = omega (arith, own) in
            subst P at small;
        inside = omega (arith, inside, len);
      }

  pub firsts-begun : (new : List ℕ) (told : ℕ) → to / 64 < length firsts → (to / 64 < next → (new ≡ firsts) × (told ≡ next))
      → (next ≤ to / 64 → (new ≡ set firsts (to / 64) (to % 64)) × (told ≡ to / 64 + 1)) → Firsts D new told
  firsts-begun new told inside met written = elim (cases_lt (to / 64) next) as (λ _. Firsts D new told) [
    | inl below ↦ (let (same, is) = met below in rw (same, is) (firsts-met below))
    | inr above ↦ (let (same, is) = written above in rw (same, is) (firsts-set above inside))
  ]

pub begun-room : (mem : List ℕ) (old new : Holes) (next told at : ℕ) → TellsFirst old new next told at → HasRoom mem old → HasRoom mem new
begun-room mem old new next told at b room =
    let len : length new.firsts.items ≡ length old.firsts.items = elim (cases_lt (at / 64) next) as (λ _. length new.firsts.items ≡ length old.firsts.items) [
      | inl below ↦ ap length (b.met below).0
      | inr above ↦ ap length (b.written above).0 ∙ length-set old.firsts.items (at / 64) (at % 64)
    ] in
    record { stretches = omega (arith, room.stretches, len); tops = ap length b.tops ∙ (room.tops ∙ sym len); few = omega (arith, room.few, len) }

-- Blocks come.

pub comes-none : (mem : List ℕ) (at : ℕ) → BroughtTo mem 0 at → ⊥
comes-none mem at c = omega (arith, c.below)

pub firsts-free : (old firsts : List ℕ) (at next : ℕ) → Blocked old → BlockBegins old at → kind_at old at ≡ 0 → Firsts (BroughtTo old at) firsts next
    → Firsts (BroughtTo old (at + size_at old at)) firsts next
firsts-free old firsts at next blocked begins free = firsts-same (BroughtTo old at) (BroughtTo old (at + size_at old at)) firsts next
    (λ r c. record { block = c.block; used = c.used; below = omega (arith, c.below); is = c.is })
    (λ r c. record { block = c.block; used = c.used; below = used-before old at c.block blocked begins free c.used c.below; is = c.is })

pub firsts-used : (old now firsts new : List ℕ) (at to next told : ℕ) → Blocked old → IsUsed old at → Gathered old now at to → Firsts (BroughtTo old at) firsts next
    → to / 64 < length firsts → (to / 64 < next → (new ≡ firsts) × (told ≡ next)) → (next ≤ to / 64 → (new ≡ set firsts (to / 64) (to % 64)) × (told ≡ to / 64 + 1))
    → Firsts (BroughtTo old (at + size_at old at)) new told
firsts-used old now firsts new at to next told blocked used g f =
    let some : 1 ≤ size_at old at = (block-within old at blocked used.begins).header.sized in
    let is : slid old at at ≡ to = omega (arith, g.order) in
    firsts-begun (BroughtTo old at) (BroughtTo old (at + size_at old at)) firsts next to f
    (λ r c. omega (arith, c.is, slid-below old now at to c.block c.block blocked g c.used c.below (omega arith) (omega (arith, (block-within old c.block blocked c.used.begins).header.sized))))
    (λ r c. record { block = c.block; used = c.used; below = omega (arith, c.below); is = c.is }) (record { block = at; used = used; below = omega (arith, some); is = is })
    (λ r c. elim (used-until old at c.block blocked used.begins c.used c.below) as (λ _. BroughtTo old at r ⊎ (r ≡ to)) [
      | inl low ↦ inl (record { block = c.block; used = c.used; below = low; is = c.is })
      | inr same ↦ (let P : ℕ → Type 0 = λ z. slid old z z ≡ to in inr (sym c.is ∙ subst P (sym same) is))
    ])
    new told

-- All have come, and the rest is one free block.
module _ (old now new firsts : List ℕ) (to next : ℕ) (blocked : Blocked old) (after : Blocked new) (g : Gathered old now (length old) to) (is : new ≡ freed now to (length now))
    (inside : to ≤ length now) (f : Firsts (BroughtTo old (length old)) firsts next) (same_len : length new ≡ length now) (p : Packed old new) where
  rows : Rows now new to g.places
  rows = packed-rows now new to g.places g.row inside is

  comes : (r : ℕ) → BroughtTo old (length old) r → BlockBegins new r
  comes r c = (let P : ℕ → Type 0 = λ z. BlockBegins new z in subst P c.is (p.used c.block c.used).begins)

  came : (r : ℕ) → BlockBegins new r → BroughtTo old (length old) r ⊎ (r ≡ to)
  came r begins = elim (in-rows now new to r g.places rows begins) as (λ _. BroughtTo old (length old) r ⊎ (r ≡ to)) [
    | inl there ↦ (let o = g.only r there in inl (record { block = o.0; used = o.1; below = o.2; is = o.3 }))
    | inr here ↦ inr (rows.run.only r here)
  ]

  low : (r : ℕ) → BroughtTo old (length old) r → r < to
  low r c =
      omega (
        arith,
        c.is,
        slid-below old now (length old) to c.block c.block blocked g c.used c.below (omega arith) (omega (arith, (block-within old c.block blocked c.used.begins).header.sized)),
      )

  pub firsts-all : length new ≤ to → Firsts (λ r. BlockBegins new r) firsts next
  firsts-all past = firsts-same (BroughtTo old (length old)) (λ r. BlockBegins new r) firsts next comes (λ r begins. elim (came r begins) as (λ _. BroughtTo old (length old) r) [
    | inl c ↦ c
    | inr same ↦ absurd (omega (arith, same, past, begins-below new r after begins))
  ]) f

  last-begins : to < length new → BlockBegins new to
  last-begins below =
      record { listed = rw rows.is (in-right to g.places rows.run.ps (rows.run.some (omega (arith, below, same_len)))) }

  pub firsts-last : (all : List ℕ) (told : ℕ) → to < length new → to / 64 < length firsts → (to / 64 < next → (all ≡ firsts) × (told ≡ next))
      → (next ≤ to / 64 → (all ≡ set firsts (to / 64) (to % 64)) × (told ≡ to / 64 + 1)) → Firsts (λ r. BlockBegins new r) all told
  firsts-last all told below = firsts-begun (BroughtTo old (length old)) (λ r. BlockBegins new r) firsts next to f low comes (last-begins below) came all told

  free-is : (r : ℕ) → BlockBegins new r → 1 ≤ free_at new r → (r ≡ to) × (free_at new r + to ≡ length new)
  free-is r begins some = elim (in-rows now new to r g.places rows begins) as (λ _. (r ≡ to) × (free_at new r + to ≡ length new)) [
    | inl there ↦ absurd (omega (arith, some, free-none new r (brought-used old now new to r g rows there)))
    | inr here ↦ (rows.run.only r here, omega (arith, rows.run.only r here, rows.run.last r here, free-all new r (rows.run.free r here), same_len))
  ]

  pub tops-none : (n i : ℕ) → length new ≤ to → i < n → IsTop new i (get_or (replicate n 0) i 0)
  tops-none n i past within =
      let none : List ℕ = replicate n 0 in
      let zero : get_or none i 0 ≡ 0 = get_or-replicate n i 0 0 within in
      record {
        above = λ r begins of. elim (cases_lt 0 (free_at new r)) as (λ _. free_at new r ≤ get_or (replicate n 0) i 0) [
          | inl some ↦ (let (at, sum) = free-is r begins some in absurd (omega (arith, some, sum, past)))
          | inr none ↦ omega (arith, none)
        ];
        met = λ some. absurd (omega (arith, some, zero));
      }

  pub tops-last : (n i : ℕ) → to < length new → i < n → to / 64 < n → IsTop new i (get_or (set (replicate n 0) (to / 64) (length new - to)) i 0)
  tops-last n i below within own =
      let t = set (replicate n 0) (to / 64) (length new - to) in
      let here : get_or t (to / 64) 0 ≡ length new - to = get_or-set_same (replicate n 0) (to / 64) (length new - to) 0 (omega (arith, own, length-replicate {A = ℕ} n 0)) in
      let there : i ≢ to / 64 → get_or t i 0 ≡ 0 = λ other. get_or-set_other (replicate n 0) (to / 64) i (length new - to) 0 other ∙ get_or-replicate n i 0 0 within in
      let at : i ≡ to / 64 → get_or t i 0 ≡ length new - to = λ e. ap (λ z. get_or t z 0) e ∙ here in
      let begins : BlockBegins new to = last-begins below in
      let free : free_at new to ≡ length new - to =
      (let listed = rows.run.some (omega (arith, below, same_len)) in omega (arith, rows.run.last to listed, free-all new to (rows.run.free to listed), same_len)) in
      record {
        above = λ r is_block of. elim (cases_lt 0 (free_at new r)) as (λ _. free_at new r ≤ get_or t i 0) [
          | inl some ↦ (let (same, sum) = free-is r is_block some in omega (arith, sum, at (omega (arith, same, of))))
          | inr none ↦ omega (arith, none)
        ];
        met = λ some. elim (cases_eq i (to / 64)) as (λ _. (r : ℕ) × BlockBegins new r × (r / 64 ≡ i) × (free_at new r ≡ get_or t i 0)) [
          | inl e ↦ (to, begins, sym e, free ∙ sym (at e))
          | inr other ↦ absurd (omega (arith, some, there other))
        ];
      }

-- What is told of a stretch is right.
pub right-first : (mem firsts : List ℕ) (next i : ℕ) → Firsts (λ r. BlockBegins mem r) firsts next → i < length firsts → IsFirst mem i (get_or firsts i 0)
right-first mem firsts next i f inside = (let e = f.entries i inside in record { begins = e.begins; least = e.least })

right-with : (mem firsts tops others all : List ℕ) (next i : ℕ) → Firsts (λ r. BlockBegins mem r) all next → firsts ≡ all → tops ≡ others → i < length all
    → IsTop mem i (get_or others i 0) → Right mem firsts tops i
right-with mem firsts tops others all next i f same alike inside top = rw (same, alike) (record { first = right-first mem all next i f inside; top = top })

-- The table that was told of all blocks agrees with the memory.
pub table-packed : (old now new : List ℕ) (h done : Holes) (to next n : ℕ) → Blocked old → Blocked new → Gathered old now (length old) to → new ≡ freed now to (length now)
    → to ≤ length now → length new ≡ length now → Packed old new → HasRoom old h → Firsts (BroughtTo old (length old)) h.firsts.items next → h.tops ≡ replicate n 0
    → EndsRow (length new) h done next to → HasRoom new done × ((i : ℕ) → i < length done.firsts.items → Right new done.firsts.items done.tops i)
table-packed old now new h done to next n blocked after g is inside same_len p room f clear ends =
    let many : n ≡ length h.firsts.items = sym (length-replicate {A = ℕ} n 0) ∙ (sym (ap length clear) ∙ room.tops) in
    let own : to / 64 < length h.firsts.items = omega (arith, room.stretches, inside, g.same_len) in
    elim (cases_lt to (length new)) as (λ _. HasRoom new done × ((i : ℕ) → i < length done.firsts.items → Right new done.firsts.items done.tops i)) [
      | inl below ↦
          let tops : done.tops ≡ set (replicate n 0) (to / 64) (length new - to) = ends.tops below ∙ ap (λ ts. set ts (to / 64) (length new - to)) clear in
          let tops_len : length done.tops ≡ length h.firsts.items = ap length (ends.tops below) ∙ (length-set h.tops (to / 64) (length new - to) ∙ room.tops) in
          let all : (told : ℕ) × (Firsts (λ r. BlockBegins new r) done.firsts.items told × (length done.firsts.items ≡ length h.firsts.items)) = elim (cases_lt (to / 64) next) [
            | inl early ↦ (
              next,
              (
                firsts-last old now new h.firsts.items to next blocked after g is inside f same_len p done.firsts.items next below own (λ b. (ends.met below b, refl))
                    (λ a. absurd (omega (arith, a, early))),
                ap length (ends.met below early),
              ),
            )
            | inr late ↦ (
              to / 64 + 1,
              (
                firsts-last old now new h.firsts.items to next blocked after g is inside f same_len p done.firsts.items (to / 64 + 1) below own
                    (λ b. absurd (omega (arith, b, late))) (λ a. (ends.written below a, refl)),
                ap length (ends.written below late) ∙ length-set h.firsts.items (to / 64) (to % 64),
              ),
            )
          ] in (
            record { stretches = omega (arith, room.stretches, all.1.1, same_len, g.same_len); tops = tops_len ∙ sym all.1.1; few = omega (arith, room.few, all.1.1) },
            λ i within. right-with new done.firsts.items done.tops (set (replicate n 0) (to / 64) (length new - to)) done.firsts.items all.0 i all.1.0 refl tops within
                (tops-last old now new h.firsts.items to next blocked after g is inside f same_len p n i below (omega (arith, within, all.1.1, many)) (omega (arith, own, many))),
          )
      | inr past ↦
          let same : done ≡ h = ends.none past in
          let len : length done.firsts.items ≡ length h.firsts.items = ap (λ z. length z.firsts.items) same in (
            record { stretches = omega (arith, room.stretches, len, same_len, g.same_len); tops = ap (λ z. length z.tops) same ∙ (room.tops ∙ sym len); few = omega (arith, room.few, len) },
            λ i within. right-with new done.firsts.items done.tops (replicate n 0) h.firsts.items next i
                (firsts-all old now new h.firsts.items to next blocked after g is inside f same_len p past) (ap (λ z. z.firsts.items) same) (ap (λ z. z.tops) same ∙ clear)
                (omega (arith, within, len)) (tops-none old now new h.firsts.items to next blocked after g is inside f same_len p n i past (omega (arith, within, len, many))),
          )
    ]

-- The table that tells of no block yet.
pub room-empty : (mem : List ℕ) (old new : Holes) → HasRoom mem old → new.firsts.items ≡ replicate (length old.firsts.items) 64 → new.tops ≡ replicate (length old.tops) 0 → HasRoom mem new
room-empty mem old new room firsts tops =
    let len : length new.firsts.items ≡ length old.firsts.items = ap length firsts ∙ length-replicate {A = ℕ} (length old.firsts.items) 64 in
    let tops_len : length new.tops ≡ length old.tops = ap length tops ∙ length-replicate {A = ℕ} (length old.tops) 0 in
    record { stretches = omega (arith, room.stretches, len); tops = tops_len ∙ (room.tops ∙ sym len); few = omega (arith, room.few, len) }
