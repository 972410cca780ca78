-- What taking and giving back does to the free blocks.
use Rattle.std.proofs.Common.{◌≡◌, ◌≢◌, ℕ, ◌+◌, ◌-◌, ◌*◌, ◌<◌, ◌≤◌, ◌⊎◌, List, length, get_or, set, sym, ◌∙◌, ap, subst, arith, inl, inr}
use Rattle.std.proofs.lemmas.Bool.{cases_lt, cases_eq}
use Rattle.std.proofs.lemmas.List.{get_or_past, get_or-set_same, get_or-set_other}
use Rattle.word_arena.specs.Blocks.{size_at, kind_at, free_at, header, Blocked, BlockBegins, IsUsed}
use Rattle.word_arena.specs.Calls.{NoneFits, FirstFit, IsGreatest, taken, shortened, free_end, FreeFrom, Merged}
use Rattle.word_arena.specs.Changes.{Frame, GaveBlock}
use Rattle.word_arena.proofs.Side.Facts.{free-all, free-none, free-most, header-size, header-kind, block-within, one-or-apart, next-begins}
use Rattle.word_arena.proofs.Laid.Writes.{taken-written, shortened-written}
use Rattle.word_arena.proofs.Laid.Taking.{took, gave, was-cut, free_end-inside, outside-rest}
use Rattle.word_arena.proofs.Found.Table.{begins-below, same-free}

-- A free block that is at least as great as that at a place, but for so many words.
record Left (old new : List ℕ) (p words : ℕ) : Type 0 where
  pub q : ℕ
  pub begins : BlockBegins new q
  pub less : free_at old p ≤ free_at new q + words

-- Of the block that is taken from the rest is left.
left-here : (old : List ℕ) (at words kind owner : ℕ) → Blocked old → FirstFit old words at → 2 ≤ words → 1 ≤ kind → kind ≤ 8
    → Left old (taken old at words kind owner) at words
left-here old at words kind owner blocked fit some used low =
    let new = taken old at words kind owner in
    let in_row = block-within old at blocked fit.begins in
    let w = taken-written old at words kind owner fit.fits in_row.to some in
    let t = took old at words kind owner blocked fit some used low in
    elim (cases_lt words (size_at old at)) as (λ _. Left old new at words) [
      | inl more ↦ (
          let P : ℕ → Type 0 = λ z. BlockBegins new (at + z) in
          let next : BlockBegins new (at + words) =
          subst P t.block.has_words (next-begins new at t.blocked t.block.begins (omega (arith, t.block.has_words, in_row.to, w.same_len))) in
          let rest = at + size_at old at - (at + words) in
          let head : get_or new (at + words) 0 ≡ header rest 0 = w.rest (omega arith) in
          let size : size_at new (at + words) ≡ rest = header-size (get_or new (at + words) 0) rest 0 head (omega arith) in
          let free : kind_at new (at + words) ≡ 0 = header-kind (get_or new (at + words) 0) rest 0 head (omega arith) in
          record { q = at + words; begins = next; less = omega (arith, free-most old at, free-all new (at + words) free, size) })
      | inr all ↦ record { q = at; begins = t.block.begins; less = omega (arith, free-most old at) }
    ]

-- Every other block is as it was.
left-other : (old : List ℕ) (at words kind owner p : ℕ) → Blocked old → FirstFit old words at → 2 ≤ words → 1 ≤ kind → kind ≤ 8
    → BlockBegins old p → (p < at) ⊎ (at + size_at old at ≤ p) → Left old (taken old at words kind owner) p words
left-other old at words kind owner p blocked fit some used low begins out =
    let new = taken old at words kind owner in
    let in_row = block-within old at blocked fit.begins in
    let w = taken-written old at words kind owner fit.fits in_row.to some in
    let t = took old at words kind owner blocked fit some used low in
    let word : get_or new p 0 ≡ get_or old p 0 =
    w.other p (omega (arith, out, fit.fits)) (omega (arith, out, fit.fits)) (outside-rest at words (at + size_at old at) p some out) in
    let is : BlockBegins new p = elim (cases_eq p (at + words)) as (λ _. BlockBegins new p) [
      | inl same ↦ (
          let place : at + size_at new at ≡ p = omega (arith, same, t.block.has_words) in
          let P : ℕ → Type 0 = λ z. BlockBegins new z in
          subst P place (next-begins new at t.blocked t.block.begins (omega (arith, place, begins-below old p blocked begins, w.same_len))))
      | inr other ↦ (let not_at : p ≢ at = omega (arith, out, fit.fits) in t.frame.keeps p not_at not_at other begins)
    ] in
    record { q = p; begins = is; less = omega (arith, same-free old new p word) }

left-any : (old : List ℕ) (at words kind owner p : ℕ) → Blocked old → FirstFit old words at → 2 ≤ words → 1 ≤ kind → kind ≤ 8
    → BlockBegins old p → Left old (taken old at words kind owner) p words
left-any old at words kind owner p blocked fit some used low begins =
    let new = taken old at words kind owner in
    elim (one-or-apart old p at blocked begins fit.begins) as (λ _. Left old new p words) [
      | inl same ↦ (let P : ℕ → Type 0 = λ z. Left old new z words in subst P (sym same) (left-here old at words kind owner blocked fit some used low))
      | inr far ↦ left-other old at words kind owner p blocked fit some used low begins
          (elim far as (λ _. (p < at) ⊎ (at + size_at old at ≤ p)) [ inl x ↦ inl (omega (arith, x, (block-within old p blocked begins).header.sized)) | inr y ↦ inr y ])
    ]

pub greatest-taken : (mem : List ℕ) (at words kind owner before after : ℕ) → Blocked mem → FirstFit mem words at → 2 ≤ words → 1 ≤ kind → kind ≤ 8
    → IsGreatest mem before → IsGreatest (taken mem at words kind owner) after → before ≤ after + words
greatest-taken mem at words kind owner before after blocked fit some used low was is =
    elim (cases_lt 0 before) as (λ _. before ≤ after + words) [
      | inl more ↦ (
          let m = was.met more in
          let l = left-any mem at words kind owner m.0 blocked fit some used low m.1 in
          omega (arith, m.2, l.less, is.above l.q l.begins))
      | inr none ↦ omega arith
    ]

pub none-fits-taken : (mem : List ℕ) (at words kind owner n : ℕ) → Blocked mem → FirstFit mem words at → 2 ≤ words → 1 ≤ kind → kind ≤ 8
    → NoneFits (taken mem at words kind owner) n → NoneFits mem (n + words)
none-fits-taken mem at words kind owner n blocked fit some used low none = λ p begins.
    let l = left-any mem at words kind owner p blocked fit some used low begins in
    omega (arith, l.less, none l.q l.begins)

-- What is free before or behind a block is one free block, where it is so long.

abbrev Fits : List ℕ → ℕ → Type 0
Fits mem words = (q : ℕ) × BlockBegins mem q × (words ≤ free_at mem q)

before-fits : (old : List ℕ) (at from words : ℕ) → 1 ≤ words → FreeFrom old at from → from + words ≤ at → Fits old words
before-fits old at from words some free long =
    elim free.place as (λ _. Fits old words) [
      | inl same ↦ absurd (omega arith)
      | inr is ↦ (from, is.0, omega (arith, free-all old from is.1, is.2))
    ]

behind-fits : (old : List ℕ) (a words : ℕ) → 1 ≤ words → (a < length old → BlockBegins old a) → words ≤ free_at old a → Fits old words
behind-fits old a words some begins long =
    elim (cases_lt a (length old)) as (λ _. Fits old words) [
      | inl inside ↦ (a, begins inside, long)
      | inr past ↦ absurd (omega (arith, get_or_past old a 0 past, free-most old a))
    ]

-- The blocks that do not begin where the free words begin begin where they did, with the same header.
given-other : (old new : List ℕ) (at from p : ℕ) → Blocked old → IsUsed old at → GaveBlock old new at from → BlockBegins new p → p ≢ from
    → BlockBegins old p × (get_or new p 0 ≡ get_or old p 0)
given-other old new at from p blocked used t begins other =
    let order = t.order in
    let some : 1 ≤ size_at old at = (block-within old at blocked used.begins).header.sized in
    let word : (w : ℕ) → new ≡ set old from w → get_or new p 0 ≡ get_or old p 0 =
    λ w is. ap (λ (z : List ℕ). get_or z p 0) is ∙ get_or-set_other old from p w 0 other in
    let out : p ≢ at = elim (one-or-apart new p from t.blocked begins t.begins) as (λ _. p ≢ at) [
      | inl same ↦ absurd (other same)
      | inr far ↦ omega (arith, far, order, some, (block-within new p t.blocked begins).header.sized)
    ] in
    let was : BlockBegins old p = elim (cases_eq p (at + size_at old at)) as (λ _. BlockBegins old p) [
      | inl same ↦ (
          let P : ℕ → Type 0 = λ z. BlockBegins old z in
          subst P (sym same) (next-begins old at blocked used.begins (omega (arith, same, begins-below new p t.blocked begins, t.others.same_len))))
      | inr apart ↦ t.frame.comes p other out apart begins
    ] in
    (was, word (header (free_end old (at + size_at old at) - from) 0) t.mem)

-- A free block that has the words of the block that was given back and twice so many more shows one with so many before.
given-fits : (old new : List ℕ) (at from words p : ℕ) → Blocked old → IsUsed old at → FreeFrom old at from → GaveBlock old new at from → 1 ≤ words → BlockBegins new p
    → size_at old at + 2 * words ≤ free_at new p → Fits old words
given-fits old new at from words p blocked used free t some begins long =
    let n = size_at old at in
    let e = free_end old (at + n) in
    let order = t.order in
    let inside : from < length old = omega (arith, order, begins-below old at blocked used.begins) in
    let here : get_or new from 0 ≡ header (e - from) 0 = ap (λ (z : List ℕ). get_or z from 0) t.mem ∙ get_or-set_same old from (header (e - from) 0) 0 inside in
    elim (cases_eq p from) as (λ _. Fits old words) [
      | inl same ↦ (
          let P : ℕ → Type 0 = λ z. n + 2 * words ≤ free_at new z in
          let all : n + 2 * words ≤ e - from = omega (arith, subst P same long, free-most new from, header-size (get_or new from 0) (e - from) 0 here (omega arith)) in
          elim (cases_lt at (from + words)) as (λ _. Fits old words) [
            | inl near ↦ behind-fits old (at + n) words some (λ below. next-begins old at blocked used.begins below) (omega (arith, all, near))
            | inr far ↦ before-fits old at from words some free far
          ])
      | inr other ↦ (let o = given-other old new at from p blocked used t begins other in (p, o.0, omega (arith, same-free old new p o.1, long)))
    ]

pub fits-given : (old new : List ℕ) (at words p : ℕ) → Blocked old → IsUsed old at → Merged old new at → BlockBegins new p → size_at old at + 2 * words ≤ free_at new p
    → (q : ℕ) × BlockBegins old q × (words ≤ free_at old q)
fits-given old new at words p blocked used m begins long =
    elim (cases_lt 0 words) as (λ _. Fits old words) [
      | inl some ↦ (
          let P : List ℕ → Type 0 = λ z. GaveBlock old z at m.from in
          given-fits old new at m.from words p blocked used m.free (subst P (sym m.words) (gave old at m.from blocked used m.free)) some begins long)
      | inr none ↦ (at, used.begins, omega arith)
    ]

pub none-fits-given : (old new : List ℕ) (at words : ℕ) → Blocked old → IsUsed old at → Merged old new at → NoneFits old words
    → NoneFits new (size_at old at + 2 * words)
none-fits-given old new at words blocked used m none = λ p begins.
    elim (cases_lt (free_at new p) (size_at old at + 2 * words)) as (λ _. free_at new p < size_at old at + 2 * words) [
      | inl less ↦ less
      | inr long ↦ (let f = fits-given old new at words p blocked used m begins long in absurd (omega (arith, none f.0 f.1, f.2)))
    ]

-- Words that come free lessen no free block.

abbrev Kept : (old new : List ℕ) (p : ℕ) → Type 0
Kept old new p = (q : ℕ) × BlockBegins new q × (free_at old p ≤ free_at new q)

frame-kept : (old new : List ℕ) (a b c p : ℕ) → Frame old new a b c → BlockBegins old p → p ≢ a → p ≢ b → p ≢ c → Kept old new p
frame-kept old new a b c p frame begins na nb nc = (p, frame.keeps p na nb nc begins, omega (arith, same-free old new p (frame.same p na nb nc begins)))

from-less : (old : List ℕ) (at from : ℕ) → IsUsed old at → FreeFrom old at from → free_at old from + from ≤ at
from-less old at from used free =
    elim free.place as (λ _. free_at old from + from ≤ at) [
      | inl same ↦ (let P : ℕ → Type 0 = λ z. free_at old z + z ≤ at in subst P (sym same) (omega (arith, free-none old at used.kind)))
      | inr is ↦ omega (arith, is.2, free-most old from)
    ]

kept-given : (old new : List ℕ) (at from p : ℕ) → Blocked old → IsUsed old at → FreeFrom old at from → GaveBlock old new at from → BlockBegins old p → Kept old new p
kept-given old new at from p blocked used free t begins =
    let n = size_at old at in
    let e = free_end old (at + n) in
    let order = t.order in
    let inside : from < length old = omega (arith, order, begins-below old at blocked used.begins) in
    let here : get_or new from 0 ≡ header (e - from) 0 = ap (λ (z : List ℕ). get_or z from 0) t.mem ∙ get_or-set_same old from (header (e - from) 0) 0 inside in
    let size : size_at new from ≡ e - from = header-size (get_or new from 0) (e - from) 0 here (omega arith) in
    let all : free_at new from ≡ size_at new from = free-all new from (header-kind (get_or new from 0) (e - from) 0 here (omega arith)) in
    let P : ℕ → Type 0 = λ z. Kept old new z in
    elim (cases_eq p from) as (λ _. Kept old new p) [
      | inl first ↦ subst P (sym first) (from, t.begins, omega (arith, all, size, from-less old at from used free))
      | inr na ↦ elim (cases_eq p at) as (λ _. Kept old new p) [
        | inl own ↦ subst P (sym own) (from, t.begins, omega (arith, free-none old at used.kind))
        | inr nb ↦ elim (cases_eq p (at + n)) as (λ _. Kept old new p) [
          | inl behind ↦ subst P (sym behind) (from, t.begins, omega (arith, all, size, order))
          | inr nc ↦ frame-kept old new from at (at + n) p t.frame begins na nb nc
        ]
      ]
    ]

pub free-kept-given : (old new : List ℕ) (at p : ℕ) → Blocked old → IsUsed old at → Merged old new at → BlockBegins old p
    → (q : ℕ) × BlockBegins new q × (free_at old p ≤ free_at new q)
free-kept-given old new at p blocked used m begins =
    let P : List ℕ → Type 0 = λ z. GaveBlock old z at m.from in
    kept-given old new at m.from p blocked used m.free (subst P (sym m.words) (gave old at m.from blocked used m.free)) begins

-- The words behind a block that is cut are free, with those that were free behind it.
kept-behind : (old : List ℕ) (at words : ℕ) → Blocked old → IsUsed old at → 2 ≤ words → words ≤ size_at old at → Kept old (shortened old at words) (at + size_at old at)
kept-behind old at words blocked used some fits =
    let new = shortened old at words in
    let n = size_at old at in
    let e = free_end old (at + n) in
    let in_row = block-within old at blocked used.begins in
    let t = was-cut old at words blocked used some fits in
    let inside : e ≤ length old = free_end-inside old (at + n) blocked in_row.to (λ below. next-begins old at blocked used.begins below) in
    let w = shortened-written old at words e (kind_at old at) (omega arith) inside some in
    elim (cases_lt (at + words) e) as (λ _. Kept old new (at + n)) [
      | inl more ↦ (
          let P : ℕ → Type 0 = λ z. BlockBegins new (at + z) in
          let next : BlockBegins new (at + words) =
          subst P t.block.has_words (next-begins new at t.blocked t.block.begins (omega (arith, t.block.has_words, more, inside, w.same_len))) in
          let rest = e - (at + words) in
          let head : get_or new (at + words) 0 ≡ header rest 0 = w.rest more in
          let size : size_at new (at + words) ≡ rest = header-size (get_or new (at + words) 0) rest 0 head (omega arith) in
          let free : kind_at new (at + words) ≡ 0 = header-kind (get_or new (at + words) 0) rest 0 head (omega arith) in
          (at + words, next, omega (arith, free-all new (at + words) free, size, fits)))
      | inr none ↦ (at, t.block.begins, omega (arith, none, fits))
    ]

pub free-kept-cut : (mem : List ℕ) (at words p : ℕ) → Blocked mem → IsUsed mem at → 2 ≤ words → words ≤ size_at mem at → BlockBegins mem p
    → (q : ℕ) × BlockBegins (shortened mem at words) q × (free_at mem p ≤ free_at (shortened mem at words) q)
free-kept-cut mem at words p blocked used some fits begins =
    let new = shortened mem at words in
    let t = was-cut mem at words blocked used some fits in
    let P : ℕ → Type 0 = λ z. Kept mem new z in
    elim (cases_eq p (at + size_at mem at)) as (λ _. Kept mem new p) [
      | inl behind ↦ subst P (sym behind) (kept-behind mem at words blocked used some fits)
      | inr nc ↦ elim (cases_eq p at) as (λ _. Kept mem new p) [
        | inl own ↦ subst P (sym own) (at, t.block.begins, omega (arith, free-none mem at used.kind))
        | inr na ↦ (
            let nb : p ≢ at + words = elim (one-or-apart mem p at blocked begins used.begins) as (λ _. p ≢ at + words) [
              | inl same ↦ absurd (na same)
              | inr far ↦ omega (arith, far, fits, nc, some)
            ] in
            frame-kept mem new at (at + words) (at + size_at mem at) p t.frame begins na nb nc)
      ]
    ]
