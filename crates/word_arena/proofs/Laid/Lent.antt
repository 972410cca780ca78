-- An arena whose memory was lent, and came back with the headers as they were, is sound.
use Rattle.std.proofs.Common.{◌≡◌, ℕ, ◌+◌, ◌*◌, ◌/◌, ◌<◌, ◌≤◌, ◌⊎◌, List, length, get_or, set, refl, sym, ◌∙◌, ap, subst, arith, inl, inr}
use Rattle.std.proofs.lemmas.Bool.{cases_lt}
use Rattle.std.proofs.lemmas.List.{get_or-set_other, length-set}
use Rattle.word_arena.specs.Blocks.{size_at, kind_at, Blocks, Blocked, block_places, IsListed, BlockBegins, IsUsed, free_of, FreeApart}
use Rattle.word_arena.specs.Calls.{HeadersStay}
use Rattle.word_arena.specs.Changes.{Frame}
use Rattle.word_arena.specs.Sound.{Sound}
use Rattle.word_arena.specs.Stretches.{HasRoom, Agrees}
use Rattle.word_arena.specs.declared.arena.Arena.{Arena}
use Rattle.word_arena.specs.declared.holes.Holes.{Holes}
use Rattle.word_arena.proofs.Side.Facts.{next-begins, apart}
use Rattle.word_arena.proofs.Side.Places.{free_among-same}
use Rattle.word_arena.proofs.Laid.Relaid.{free_of-row}
use Rattle.word_arena.proofs.Found.Table.{frame-right}
use Rattle.word_arena.proofs.Side.Tiling.{blocks-same, block_places-row, blocked-row}

row-same : (old new : List ℕ) → Blocked old → HeadersStay old new → Blocks new 0 (block_places old) (length new)
row-same old new blocked same =
    let P : ℕ → Type 0 = λ z. Blocks new 0 (block_places old) z in
    subst P (sym same.same_len) (blocks-same old new 0 (length old) (block_places old) (λ p listed. same.same p (record { listed = listed })) blocked.row)

pub lent-places : (old new : List ℕ) → Blocked old → HeadersStay old new → block_places new ≡ block_places old
lent-places old new blocked same = block_places-row new (block_places old) (row-same old new blocked same)

pub lent-begins : (old new : List ℕ) (p : ℕ) → Blocked old → HeadersStay old new → BlockBegins old p → BlockBegins new p
lent-begins old new p blocked same begins =
    let P : List ℕ → Type 0 = λ z. IsListed p z in
    record { listed = subst P (sym (lent-places old new blocked same)) begins.listed }

pub lent-began : (old new : List ℕ) (p : ℕ) → Blocked old → HeadersStay old new → BlockBegins new p → BlockBegins old p
lent-began old new p blocked same begins =
    let P : List ℕ → Type 0 = λ z. IsListed p z in
    record { listed = subst P (lent-places old new blocked same) begins.listed }

pub lent-used : (old new : List ℕ) (p : ℕ) → Blocked old → HeadersStay old new → IsUsed old p → IsUsed new p
lent-used old new p blocked same used =
    record { begins = lent-begins old new p blocked same used.begins; kind = omega (arith, same.same p used.begins, used.kind) }

pub lent-free : (old new : List ℕ) → Blocked old → HeadersStay old new → free_of new ≡ free_of old
lent-free old new blocked same =
    free_of-row new (block_places old) (lent-places old new blocked same)
    ∙ free_among-same old new (block_places old) (λ p listed. same.same p (record { listed = listed }))
    ∙ sym (free_of-row old (block_places old) refl)

pub lent-apart : (old new : List ℕ) → Blocked old → HeadersStay old new → FreeApart old → FreeApart new
lent-apart old new blocked same fa =
    record {
      apart = λ p begins free below.
          let was : BlockBegins old p = lent-began old new p blocked same begins in
          let word : get_or new p 0 ≡ get_or old p 0 = same.same p was in
          let size : size_at new p ≡ size_at old p = ap (λ (h : ℕ). h / 16) word in
          let inside : p + size_at old p < length old = omega (arith, below, size, same.same_len) in
          let next : get_or new (p + size_at old p) 0 ≡ get_or old (p + size_at old p) 0 = same.same (p + size_at old p) (next-begins old p blocked was inside) in
          let P : ℕ → Type 0 = λ z. 1 ≤ kind_at new (p + z) in
          subst P (sym size) (omega (arith, next, fa.apart p was (omega (arith, word, free)) inside));
    }

pub lent-room : (old new : List ℕ) (h : Holes) → length new ≡ length old → HasRoom old h → HasRoom new h
lent-room old new h same room = record { stretches = omega (arith, room.stretches); tops = room.tops; few = room.few }

-- No place is behind the table's last stretch, so three such places stand for none.
lent-agrees : (old new : List ℕ) (h : Holes) → Blocked old → HeadersStay old new → Agrees old h → Agrees new h
lent-agrees old new h blocked same agrees =
    let none = length h.firsts.items * 64 in
    let frame : Frame old new none none none = record {
      same_len = same.same_len;
      keeps = λ p na nb nc begins. lent-begins old new p blocked same begins;
      comes = λ p na nb nc begins. lent-began old new p blocked same begins;
      same = λ p na nb nc begins. same.same p begins;
    } in
    record {
      room = lent-room old new h same.same_len agrees.room;
      right = λ i inside. frame-right old new h.firsts.items h.tops none none none i frame (omega (arith, inside)) (omega (arith, inside)) (omega (arith, inside)) (agrees.right i inside);
      free = agrees.free ∙ sym (lent-free old new blocked same);
    }

pub lent-blocked : (old new : List ℕ) → Blocked old → HeadersStay old new → Blocked new
lent-blocked old new blocked same = blocked-row new (block_places old) (row-same old new blocked same)

pub lent : (a : Arena) (new : List ℕ) → Sound a → HeadersStay a.mem new → Sound (record { mem = new; holes = a.holes })
lent a new sound same =
    record { blocked = lent-blocked a.mem new sound.blocked same; agrees = lent-agrees a.mem new a.holes sound.blocked same sound.agrees }

-- What is written inside a block, behind its header, is no header.
pub kept-inside : (old new : List ℕ) (p from to : ℕ) → Blocked old → BlockBegins old p → p < from → to ≤ p + size_at old p → length new ≡ length old
    → ((q : ℕ) → (q < from) ⊎ (to ≤ q) → get_or new q 0 ≡ get_or old q 0) → HeadersStay old new
kept-inside old new p from to blocked begins above below same_len same =
    record {
      same_len = same_len;
      same = λ r is. same r (elim (cases_lt r from) as (λ _. (r < from) ⊎ (to ≤ r)) [
        | inl low ↦ inl low
        | inr high ↦ elim (cases_lt r to) as (λ _. (r < from) ⊎ (to ≤ r)) [
          | inl inner ↦ (let far : p + size_at old p ≤ r = apart old p r blocked begins is (omega arith) in absurd (omega arith))
          | inr past ↦ inr past
        ]
      ]);
    }

pub set-inside : (mem : List ℕ) (p q w : ℕ) → Blocked mem → BlockBegins mem p → p < q → q < p + size_at mem p → HeadersStay mem (set mem q w)
set-inside mem p q w blocked begins above below =
    kept-inside mem (set mem q w) p q (q + 1) blocked begins above (omega arith) (length-set mem q w) (λ r out. get_or-set_other mem q r w 0 (omega (arith, out)))
