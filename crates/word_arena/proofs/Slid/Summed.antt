-- The table of sums.
use Rattle.std.proofs.Common.{◌≡◌, ℕ, ◌+◌, ◌-◌, ◌*◌, ◌<◌, ◌≤◌, List, length, get_or, set, min, sym, ◌∙◌, subst, arith, inl, inr}
use Rattle.std.proofs.lemmas.Bool.{cases_lt, cases_eq}
use Rattle.std.proofs.lemmas.List.{get_or-set_same, get_or-set_other}
use Rattle.word_arena.specs.Blocks.{kind_at, Blocked, BlockBegins, IsBoundary}
use Rattle.word_arena.specs.Calls.{HeadersStay}
use Rattle.word_arena.specs.Sums.{free_before}
use Rattle.word_arena.specs.Shifts.{IsFirstFree, IsSummedAt, IsSummed}
use Rattle.word_arena.specs.declared.shifts.Shifts.{Shifts}
use Rattle.word_arena.proofs.Side.Facts.{stop-zero}
use Rattle.word_arena.proofs.Side.Before.{before-same, before-idle, before-kept}
use Rattle.word_arena.proofs.Laid.Lent.{lent-blocked, lent-begins, lent-began}
use Rattle.word_arena.proofs.Found.Table.{begins-below}

-- At a place begins the first block at or behind another place, or the memory ends there.
pub record FirstBehind (mem : List ℕ) (at from : ℕ) : Type 0 where
  pub stop : IsBoundary mem from
  pub low : from < length mem → at ≤ from
  pub least : (p : ℕ) → BlockBegins mem p → at ≤ p → from ≤ p

pub behind-zero : (mem : List ℕ) → Blocked mem → FirstBehind mem 0 0
behind-zero mem blocked = record { stop = stop-zero mem blocked; low = λ _. omega arith; least = λ p begins low. omega arith }

-- As much is free before a place as before the first block behind it.
behind-sum : (mem : List ℕ) (at from : ℕ) → Blocked mem → FirstBehind mem at from → free_before mem at ≡ free_before mem from
behind-sum mem at from blocked start =
    before-same mem at from start.least
    (λ p begins high. (let low : at ≤ from = start.low (omega (arith, high, begins-below mem p blocked begins)) in omega arith))

-- A short stretch is walked: first up to its first free block, and then to the first block behind it.
module _ (mem : List ℕ) (i from end_of_i free : ℕ) (blocked : Blocked mem) (start : FirstBehind mem (i * 8) from) (last : end_of_i ≡ min (i * 8 + 8) (length mem))
    (after : from ≤ free) (stop : IsBoundary mem free) (passed : (p : ℕ) → BlockBegins mem p → from ≤ p → p < free → (p < end_of_i) × (1 ≤ kind_at mem p)) where
  pub walked-sum : free_before mem free ≡ free_before mem from
  walked-sum = sym (before-idle mem from free after (λ p begins low high. (passed p begins low high).1))

  pub walked-next : (at : ℕ) → IsBoundary mem at → end_of_i ≤ at → ((p : ℕ) → BlockBegins mem p → free ≤ p → end_of_i ≤ p → at ≤ p) → FirstBehind mem ((i + 1) * 8) at
  walked-next at ends past next = record {
    stop = ends;
    low = λ below. omega (arith, below, past, last);
    least = λ p begins high. elim (cases_lt p free) as (λ _. at ≤ p) [
      | inl inner ↦ absurd (omega (arith, (passed p begins (start.least p begins (omega (arith, high))) inner).0, last, high))
      | inr outer ↦ next p begins outer (omega (arith, high, last))
    ];
  }

  pub walked-entry : (sum first : ℕ) → sum ≡ free_before mem from → (free < end_of_i → first ≡ free - i * 8) → (end_of_i ≤ free → first ≡ 8)
      → (sum ≡ free_before mem (i * 8)) × IsFirstFree mem i first
  walked-entry sum first is inner outer = (
    is ∙ sym (behind-sum mem (i * 8) from blocked start),
    elim (cases_lt free end_of_i) as (λ _. IsFirstFree mem i first) [
      | inl below ↦ (
          let low : i * 8 ≤ from = start.low (omega (arith, after, below, last)) in
          let same : free ≡ i * 8 + first = omega (arith, inner below, low, after) in
          record {
            begins = λ _. (let P : ℕ → Type 0 = λ z. BlockBegins mem z in subst P same (stop.begins (omega (arith, below, last))));
            used = λ p begins from_i high. (passed p begins (start.least p begins from_i) (omega (arith, same, high))).1;
            most = omega (arith, same, below, last);
          })
      | inr above ↦ (
          let none : first ≡ 8 = outer above in
          record {
            begins = λ small. absurd (omega (arith, small, none));
            used = λ p begins from_i high. (passed p begins (start.least p begins from_i) (omega (arith, above, last, none, high, begins-below mem p blocked begins))).1;
            most = omega (arith, none);
          })
    ],
  )

pub summed-kept : (old new : List ℕ) (s : Shifts) → HeadersStay old new → IsSummed old s → IsSummed new s
summed-kept old new s same summed =
    let blocked = summed.blocked in
    record {
      blocked = lent-blocked old new blocked same;
      room = record { stretches = omega (arith, summed.room.stretches, same.same_len); sums = summed.room.sums; few = summed.room.few };
      at = λ i inside.
          let was = summed.at i inside in
          record {
            sum = was.sum ∙ sym (before-kept old new (i * 8) blocked same);
            first = record {
              begins = λ small. lent-begins old new (i * 8 + get_or s.firsts.items i 0) blocked same (was.first.begins small);
              used = λ p begins low high.
                  let is : BlockBegins old p = lent-began old new p blocked same begins in
                  omega (arith, was.first.used p is low high, same.same p is);
              most = was.first.most;
            };
          };
    }

-- An entry is written, and all others stay.
pub entry-written : (mem sums firsts : List ℕ) (i sum first : ℕ) → i < length sums → i < length firsts → (sum ≡ free_before mem (i * 8)) × IsFirstFree mem i first
    → ((j : ℕ) → j < i → IsSummedAt mem sums firsts j) → (j : ℕ) → j < i + 1 → IsSummedAt mem (set sums i sum) (set firsts i first) j
entry-written mem sums firsts i sum first within inside (is, starts) before j below =
    elim (cases_eq j i) as (λ _. IsSummedAt mem (set sums i sum) (set firsts i first) j) [
      | inl same ↦ (
          let P : ℕ → Type 0 = λ z. IsSummedAt mem (set sums i sum) (set firsts i first) z in
          let F : ℕ → Type 0 = λ z. IsFirstFree mem i z in
          subst P (sym same) (record {
            sum = get_or-set_same sums i sum 0 within ∙ is;
            first = subst F (sym (get_or-set_same firsts i first 0 inside)) starts;
          }))
      | inr other ↦ (
          let was = before j (omega (arith, below, other)) in
          let F : ℕ → Type 0 = λ z. IsFirstFree mem j z in
          record {
            sum = get_or-set_other sums i j sum 0 other ∙ was.sum;
            first = subst F (sym (get_or-set_other firsts i j first 0 other)) was.first;
          })
    ]

-- As much is free before a short stretch as before the first free block of it.
pub first-sum : (mem : List ℕ) (i first : ℕ) → IsFirstFree mem i first → free_before mem (i * 8) ≡ free_before mem (i * 8 + first)
first-sum mem i first is = before-idle mem (i * 8) (i * 8 + first) (omega arith) is.used
