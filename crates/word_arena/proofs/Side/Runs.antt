-- Runs of free blocks: none, or one.
use Rattle.std.proofs.Common.{◌≡◌, ◌≢◌, ℕ, ◌+◌, ◌-◌, ◌<◌, ◌≤◌, ◌⊎◌, List, [], ◌∷◌, ◌++◌, length, get_or, refl, sym, ap, subst, arith, inl, inr}
use Rattle.std.proofs.lemmas.Bool.{cases_lt}
use Rattle.std.proofs.lemmas.List.{get_or_past}
use Rattle.word_arena.specs.Blocks.{size_at, kind_at, free_at, header, IsHeader, Blocks, Blocked, IsListed, BlockBegins, free_among}
use Rattle.word_arena.specs.Calls.{free_end, FreeFrom}
use Rattle.word_arena.proofs.Side.Places.{in-append, free_among-append}
use Rattle.word_arena.proofs.Side.Tiling.{blocks-append}
use Rattle.word_arena.proofs.Side.Facts.{free-all, free-none, some-free, made-header, header-size, block-within}

-- The words from a to e are one free block, or there are none.
pub record Run (mem : List ℕ) (a e : ℕ) : Type 0 where
  pub ps : List ℕ
  pub row : Blocks mem a ps e
  pub only : (p : ℕ) → IsListed p ps → p ≡ a
  pub free : (p : ℕ) → IsListed p ps → kind_at mem p ≡ 0
  pub sum : free_among mem ps + a ≡ e
  pub some : a < e → IsListed a ps
  pub whole : a < e → a + size_at mem a ≡ e
  pub last : (p : ℕ) → IsListed p ps → p + size_at mem p ≡ e

pub only-in : (p a : ℕ) → IsListed p (a ∷ []) → p ≡ a
only-in p a (inl same) = same
only-in p a (inr none) = elim none [ ]

pub no-run : (mem : List ℕ) (a : ℕ) → Run mem a a
no-run mem a = record {
  ps = [];
  row = refl;
  only = λ p is. elim is [ ];
  free = λ p is. elim is [ ];
  sum = omega arith;
  some = λ below. absurd (omega arith);
  whole = λ below. absurd (omega arith);
  last = λ p is. elim is [ ];
}

pub one-run : (mem : List ℕ) (a : ℕ) → IsHeader (get_or mem a 0) → kind_at mem a ≡ 0 → Run mem a (a + size_at mem a)
one-run mem a is free =
    let P : ℕ → Type 0 = λ z. kind_at mem z ≡ 0 in
    record {
      ps = a ∷ [];
      row = (refl, is, refl);
      only = λ p listed. only-in p a listed;
      free = λ p listed. subst P (sym (only-in p a listed)) free;
      sum = omega (arith, free-all mem a free);
      some = λ below. inl refl;
      whole = λ below. refl;
      last = λ p listed. ap (λ (z : ℕ). z + size_at mem z) (only-in p a listed);
    }

-- The run that begins at a place at which a block begins, or the memory ends.
pub run-behind : (mem : List ℕ) (a : ℕ) → Blocked mem → (a < length mem → BlockBegins mem a) → Run mem a (free_end mem a)
run-behind mem a blocked begins =
    elim (cases_lt 0 (free_at mem a)) as (λ _. Run mem a (free_end mem a)) [
      | inl some ↦ (
          let free : kind_at mem a ≡ 0 = some-free mem a some in
          let all : free_at mem a ≡ size_at mem a = free-all mem a free in
          let inside : a < length mem = (elim (cases_lt a (length mem)) as (λ _. a < length mem) [ inl z ↦ z | inr past ↦ absurd (omega (arith, get_or_past mem a 0 past)) ]) in
          let P : ℕ → Type 0 = λ z. Run mem a (a + z) in
          subst P (sym all) (one-run mem a (block-within mem a blocked (begins inside)).header free))
      | inr none ↦ (
          let same : a ≡ a + free_at mem a = omega arith in
          let P : ℕ → Type 0 = λ z. Run mem a z in
          subst P same (no-run mem a))
    ]

-- The run that ends at a place.
pub run-before : (mem : List ℕ) (at from : ℕ) → Blocked mem → FreeFrom mem at from → Run mem from at
run-before mem at from blocked is =
    elim is.place as (λ _. Run mem from at) [
      | inl same ↦ (let P : ℕ → Type 0 = λ z. Run mem from z in subst P same (no-run mem from))
      | inr free ↦ (let P : ℕ → Type 0 = λ z. Run mem from z in subst P free.2 (one-run mem from (block-within mem from blocked free.0).header free.1))
    ]

-- The run that its header makes.
pub made-run : (mem : List ℕ) (a e : ℕ) → a ≤ e → (a < e → get_or mem a 0 ≡ header (e - a) 0) → Run mem a e
made-run mem a e order is =
    elim (cases_lt a e) as (λ _. Run mem a e) [
      | inl some ↦ (
          let word : get_or mem a 0 ≡ header (e - a) 0 = is some in
          let size : a + size_at mem a ≡ e = omega (arith, header-size (get_or mem a 0) (e - a) 0 word (omega arith)) in
          let P : ℕ → Type 0 = λ z. Run mem a z in
          subst P size (one-run mem a (made-header (get_or mem a 0) (e - a) 0 word (omega arith) (omega arith) (λ z. omega arith)) (omega (arith, word))))
      | inr none ↦ (let P : ℕ → Type 0 = λ z. Run mem a z in let same : a ≡ e = omega arith in subst P same (no-run mem a))
    ]

-- A block that is not free, and the run behind it.
pub record Led (mem : List ℕ) (at b e : ℕ) : Type 0 where
  pub ps : List ℕ
  pub row : Blocks mem at ps e
  pub first : IsListed at ps
  pub only : (p : ℕ) → IsListed p ps → (p ≡ at) ⊎ (p ≡ b)
  pub free : (p : ℕ) → IsListed p ps → p ≢ at → kind_at mem p ≡ 0
  pub sum : free_among mem ps + b ≡ e
  pub second : b < e → IsListed b ps
  pub whole : b < e → b + size_at mem b ≡ e
  pub last : (p : ℕ) → IsListed p ps → kind_at mem p ≡ 0 → p + size_at mem p ≡ e

pub led : (mem : List ℕ) (at b e : ℕ) → IsHeader (get_or mem at 0) → 1 ≤ kind_at mem at → at + size_at mem at ≡ b → Run mem b e → Led mem at b e
led mem at b e is used size run =
    let P : ℕ → Type 0 = λ z. Blocks mem z run.ps e in
    let only : (p : ℕ) → IsListed p (at ∷ run.ps) → (p ≡ at) ⊎ (p ≡ b) =
    λ p listed. elim listed as (λ _. (p ≡ at) ⊎ (p ≡ b)) [ inl here ↦ inl here | inr there ↦ inr (run.only p there) ] in
    let free : (p : ℕ) → IsListed p (at ∷ run.ps) → p ≢ at → kind_at mem p ≡ 0 =
    λ p listed other. elim listed as (λ _. kind_at mem p ≡ 0) [ inl here ↦ absurd (other here) | inr there ↦ run.free p there ] in
    record {
      ps = at ∷ run.ps;
      row = (refl, is, subst P (sym size) run.row);
      first = inl refl;
      only = only;
      free = free;
      sum = omega (arith, free-none mem at used, run.sum);
      second = λ below. inr (run.some below);
      whole = run.whole;
      last = λ p listed free. elim listed as (λ _. p + size_at mem p ≡ e) [
        | inl here ↦ absurd (omega (arith, used, ap (λ (z : ℕ). kind_at mem z) here, free))
        | inr there ↦ run.last p there
      ];
    }

-- A run, a block that is not free, and the run behind it.
pub record Between (mem : List ℕ) (from at b e : ℕ) : Type 0 where
  pub ps : List ℕ
  pub row : Blocks mem from ps e
  pub only : (p : ℕ) → IsListed p ps → (p ≡ from) ⊎ ((p ≡ at) ⊎ (p ≡ b))
  pub free : (p : ℕ) → IsListed p ps → p ≢ at → kind_at mem p ≡ 0
  pub sum : free_among mem ps + b + from ≡ e + at

pub between : (mem : List ℕ) (from at b e : ℕ) → Run mem from at → Led mem at b e → Between mem from at b e
between mem from at b e run l =
    let only : (p : ℕ) → IsListed p (run.ps ++ l.ps) → (p ≡ from) ⊎ ((p ≡ at) ⊎ (p ≡ b)) =
    λ p listed. elim (in-append p run.ps l.ps listed) as (λ _. (p ≡ from) ⊎ ((p ≡ at) ⊎ (p ≡ b))) [ inl x ↦ inl (run.only p x) | inr y ↦ inr (l.only p y) ] in
    let free : (p : ℕ) → IsListed p (run.ps ++ l.ps) → p ≢ at → kind_at mem p ≡ 0 =
    λ p listed other. elim (in-append p run.ps l.ps listed) as (λ _. kind_at mem p ≡ 0) [ inl x ↦ run.free p x | inr y ↦ l.free p y other ] in
    record {
      ps = run.ps ++ l.ps;
      row = blocks-append mem from at e run.ps l.ps run.row l.row;
      only = only;
      free = free;
      sum = omega (arith, free_among-append mem run.ps l.ps, run.sum, l.sum);
    }
