-- What a block that is taken, cut or given back leaves.
use Rattle.std.proofs.Common.{◌≡◌, ◌≢◌, ℕ, ◌+◌, ◌-◌, ◌<◌, ◌≤◌, ◌⊎◌, List, ◌++◌, length, get_or, set, refl, sym, ◌∙◌, ap, subst, arith, inl, inr}
use Rattle.std.proofs.lemmas.Bool.{cases_lt}
use Rattle.std.proofs.lemmas.List.{get_or_past, get_or-set_same, get_or-set_other, length-set}
use Rattle.word_arena.specs.Blocks.{size_at, kind_at, free_at, header, Blocks, Blocked, Reaches, IsListed, BlockBegins, IsUsed, free_among, FreeApart}
use Rattle.word_arena.specs.Calls.{FirstFit, taken, shortened, free_end, freed, FreeFrom, OthersStay}
use Rattle.word_arena.specs.Changes.{Frame, TookBlock, Shortened, GaveBlock, Closed}
use Rattle.word_arena.proofs.Side.Places.{in-append, free_among-append, free_among-same}
use Rattle.word_arena.proofs.Side.Tiling.{blocks-within, blocks-same, blocks-append, blocks-front, block_places-row, blocked-row}
use Rattle.word_arena.proofs.Side.Facts.{free-all, some-free, made-header, header-size, header-kind, block-within, next-begins, behind-used}
use Rattle.word_arena.proofs.Laid.Relaid.{free_of-row, Change, Relaid, relaid, others-stay, apart-again}
use Rattle.word_arena.proofs.Side.Summing.{free_among-most}
use Rattle.word_arena.proofs.Side.Runs.{one-run, run-behind, run-before, made-run, Led, led, between}
use Rattle.word_arena.proofs.Laid.Writes.{freed-length, freed-first, freed-other, Written, shortened-written, shortened-owner, taken-written, taken-owner}

-- A call changed the blocks from a to e, which begin at a, b or c, before and after it.
pub record Changed (old new : List ℕ) (a e b c at : ℕ) (cs ds : List ℕ) : Type 0 where
  pub others : OthersStay old new at
  pub relaid : Relaid old new a e cs ds
  pub frame : Frame old new a b c

not-one : (p a b c : ℕ) → p ≢ a → p ≢ b → p ≢ c → (p ≡ a) ⊎ ((p ≡ b) ⊎ (p ≡ c)) → ⊥
not-one p a b c na nb nc (inl x) = na x
not-one p a b c na nb nc (inr (inl y)) = nb y
not-one p a b c na nb nc (inr (inr z)) = nc z

framed : (old new : List ℕ) (a e b c : ℕ) (cs ds : List ℕ) → Change old new a e cs ds → Relaid old new a e cs ds
    → ((p : ℕ) → IsListed p cs → (p ≡ a) ⊎ ((p ≡ b) ⊎ (p ≡ c))) → ((p : ℕ) → IsListed p ds → (p ≡ a) ⊎ ((p ≡ b) ⊎ (p ≡ c))) → Frame old new a b c
framed old new a e b c cs ds ch r were are =
    let out : (p : ℕ) → p ≢ a → p ≢ b → p ≢ c → BlockBegins old p → (p < a) ⊎ (e ≤ p) =
    λ p na nb nc begins. elim (r.between p begins) as (λ _. (p < a) ⊎ (e ≤ p)) [ inl o ↦ o | inr is ↦ absurd (not-one p a b c na nb nc (were p is)) ] in
    record {
      same_len = ch.same_len;
      keeps = λ p na nb nc begins. r.keeps p begins (out p na nb nc begins);
      comes = λ p na nb nc begins. elim (r.comes p begins) as (λ _. BlockBegins old p) [ inl o ↦ o.0 | inr is ↦ absurd (not-one p a b c na nb nc (are p is)) ];
      same = λ p na nb nc begins. ch.same p (out p na nb nc begins);
    }

pub changed : (old new : List ℕ) (a e b c at : ℕ) (cs ds : List ℕ) → Blocked old → Change old new a e cs ds
    → ((p : ℕ) → IsListed p cs → (p ≡ a) ⊎ ((p ≡ b) ⊎ (p ≡ c))) → ((p : ℕ) → IsListed p ds → (p ≡ a) ⊎ ((p ≡ b) ⊎ (p ≡ c)))
    → ((p : ℕ) → IsListed p cs → p ≢ at → kind_at old p ≡ 0) → ((p : ℕ) → IsListed p ds → p ≢ at → kind_at new p ≡ 0) → Changed old new a e b c at cs ds
changed old new a e b c at cs ds blocked ch were are cs_free ds_free =
    let r = relaid old new a e cs ds blocked ch in
    record { others = others-stay old new a e at cs ds blocked ch cs_free ds_free; relaid = r; frame = framed old new a e b c cs ds ch r were are }

-- The row that was written: a block, and the run behind it.
written-led : (old new : List ℕ) (at words kind e : ℕ) → Written old new at words kind e → at + words ≤ e → 2 ≤ words → 1 ≤ kind → kind ≤ 8 → Led new at (at + words) e
written-led old new at words kind e w order some used low =
    let word = get_or new at 0 in
    let size : at + size_at new at ≡ at + words = ap (λ (z : ℕ). at + z) (header-size word words kind w.head low) in
    let is_used : 1 ≤ kind_at new at = omega (arith, header-kind word words kind w.head low) in
    led new at (at + words) e (made-header word words kind w.head low (omega arith) (λ z. some)) is_used size
    (made-run new (at + words) e order w.rest)

pub outside-rest : (at words e q : ℕ) → 2 ≤ words → (q < at) ⊎ (e ≤ q) → (q ≢ at + words) ⊎ (e ≤ at + words)
outside-rest at words e q some (inl low) = inl (omega arith)
outside-rest at words e q some (inr high) =
    elim (cases_lt (at + words) e) as (λ _. (q ≢ at + words) ⊎ (e ≤ at + words)) [ inl below ↦ inl (omega arith) | inr none ↦ inr none ]

pub took : (old : List ℕ) (at words kind owner : ℕ) → Blocked old → FirstFit old words at → 2 ≤ words → 1 ≤ kind → kind ≤ 8
    → TookBlock old (taken old at words kind owner) at words kind owner
took old at words kind owner blocked fit some used low =
    let new = taken old at words kind owner in
    let n = size_at old at in
    let e = at + n in
    let in_row = block-within old at blocked fit.begins in
    let w = taken-written old at words kind owner fit.fits in_row.to some in
    let was = one-run old at in_row.header fit.free in
    let is = written-led old new at words kind e w (omega (arith, fit.fits)) some used low in
    let ch : Change old new at e was.ps is.ps = record {
      begins = fit.begins;
      was = was.row;
      inside = in_row.to;
      same_len = w.same_len;
      same = λ q out. w.other q (omega (arith, fit.fits, out)) (omega (arith, fit.fits, out)) (outside-rest at words e q some out);
      is = is.row;
    } in
    let were : (p : ℕ) → IsListed p was.ps → (p ≡ at) ⊎ ((p ≡ at) ⊎ (p ≡ at + words)) = λ p is_in. inl (was.only p is_in) in
    let are : (p : ℕ) → IsListed p is.ps → (p ≡ at) ⊎ ((p ≡ at) ⊎ (p ≡ at + words)) = λ p is_in. inr (is.only p is_in) in
    let c = changed old new at e at (at + words) at was.ps is.ps blocked ch were are (λ p is_in other. was.free p is_in) (λ p is_in other. is.free p is_in other) in
    record {
      blocked = c.relaid.blocked;
      mem = refl;
      others = c.others;
      frame = c.frame;
      apart = λ fa. apart-again old new at e was.ps is.ps blocked ch fa (λ p begins free ends. omega (arith, header-kind (get_or new at 0) words kind w.head low))
          (λ below. fa.apart at fit.begins fit.free below) is.last;
      block = record {
        begins = c.relaid.made at is.first;
        has_words = header-size (get_or new at 0) words kind w.head low;
        has_kind = header-kind (get_or new at 0) words kind w.head low;
        has_owner = taken-owner old at words kind owner fit.fits in_row.to some;
      };
      free = omega (arith, c.relaid.free, was.sum, is.sum);
    }

-- Where the free words end behind a block.
pub free_end-inside : (mem : List ℕ) (a : ℕ) → Blocked mem → a ≤ length mem → (a < length mem → BlockBegins mem a) → free_end mem a ≤ length mem
free_end-inside mem a blocked inside begins =
    elim (cases_lt 0 (free_at mem a)) as (λ _. free_end mem a ≤ length mem) [
      | inl some ↦ (
          let all : free_at mem a ≡ size_at mem a = free-all mem a (some-free mem a some) in
          elim (cases_lt a (length mem)) as (λ _. free_end mem a ≤ length mem) [
            | inl below ↦ omega (arith, all, (block-within mem a blocked (begins below)).to)
            | inr past ↦ absurd (omega (arith, all, get_or_past mem a 0 past))
          ])
      | inr none ↦ omega arith
    ]

-- The block at a place and the free words behind it.
pub used-led : (mem : List ℕ) (at : ℕ) → Blocked mem → IsUsed mem at → Led mem at (at + size_at mem at) (free_end mem (at + size_at mem at))
used-led mem at blocked used =
    led mem at (at + size_at mem at) (free_end mem (at + size_at mem at)) (block-within mem at blocked used.begins).header used.kind refl
    (run-behind mem (at + size_at mem at) blocked (λ below. next-begins mem at blocked used.begins below))

pub was-cut : (old : List ℕ) (at words : ℕ) → Blocked old → IsUsed old at → 2 ≤ words → words ≤ size_at old at → Shortened old (shortened old at words) at words
was-cut old at words blocked used some fits =
    let new = shortened old at words in
    let n = size_at old at in
    let e = free_end old (at + n) in
    let kind = kind_at old at in
    let in_row = block-within old at blocked used.begins in
    let low : kind ≤ 8 = in_row.header.kind in
    let inside : e ≤ length old = free_end-inside old (at + n) blocked in_row.to (λ below. next-begins old at blocked used.begins below) in
    let w = shortened-written old at words e kind (omega arith) inside some in
    let was = used-led old at blocked used in
    let is = written-led old new at words kind e w (omega arith) some used.kind low in
    let ch : Change old new at e was.ps is.ps = record {
      begins = used.begins;
      was = was.row;
      inside = inside;
      same_len = w.same_len;
      same = λ q out. w.other q (omega (arith, fits, out)) (omega (arith, fits, out)) (outside-rest at words e q some out);
      is = is.row;
    } in
    let were : (p : ℕ) → IsListed p was.ps → (p ≡ at) ⊎ ((p ≡ at + words) ⊎ (p ≡ at + n)) =
    λ p is_in. elim (was.only p is_in) as (λ _. (p ≡ at) ⊎ ((p ≡ at + words) ⊎ (p ≡ at + n))) [ inl x ↦ inl x | inr y ↦ inr (inr y) ] in
    let are : (p : ℕ) → IsListed p is.ps → (p ≡ at) ⊎ ((p ≡ at + words) ⊎ (p ≡ at + n)) =
    λ p is_in. elim (is.only p is_in) as (λ _. (p ≡ at) ⊎ ((p ≡ at + words) ⊎ (p ≡ at + n))) [ inl x ↦ inl x | inr y ↦ inr (inl y) ] in
    let c = changed old new at e (at + words) (at + n) at was.ps is.ps blocked ch were are was.free is.free in
    record {
      blocked = c.relaid.blocked;
      mem = refl;
      others = c.others;
      frame = c.frame;
      apart = λ fa. apart-again old new at e was.ps is.ps blocked ch fa (λ p begins free ends. omega (arith, header-kind (get_or new at 0) words kind w.head low, used.kind))
          (behind-used old (at + n) blocked fa (λ below. next-begins old at blocked used.begins below)) is.last;
      block = record {
        begins = c.relaid.made at is.first;
        has_words = header-size (get_or new at 0) words kind w.head low;
        has_kind = header-kind (get_or new at 0) words kind w.head low;
        has_owner = shortened-owner old at words e kind (omega arith) inside some (at + 1) (omega arith) (omega arith);
      };
      free = omega (arith, c.relaid.free, was.sum, is.sum);
      rest = λ below. (c.relaid.made (at + words) (is.second (omega arith)), omega (arith, is.whole (omega arith)));
    }

pub from-begins : (old : List ℕ) (at from : ℕ) → BlockBegins old at → FreeFrom old at from → BlockBegins old from
from-begins old at from begins free =
    elim free.place as (λ _. BlockBegins old from) [ inl same ↦ (let P : ℕ → Type 0 = λ z. BlockBegins old z in subst P (sym same) begins) | inr before ↦ before.0 ]

from-below : (old : List ℕ) (at from : ℕ) → FreeFrom old at from → from ≤ at
from-below old at from free = elim free.place as (λ _. from ≤ at) [ inl same ↦ omega arith | inr before ↦ omega (arith, before.2) ]

-- No free block ends where the free words before a place begin.
none-before : (old : List ℕ) (at from p : ℕ) → Blocked old → FreeApart old → FreeFrom old at from → from < length old → BlockBegins old p → kind_at old p ≡ 0 → p + size_at old p ≡ from → ⊥
none-before old at from p blocked fa free inside begins is_free ends =
    let some : 1 ≤ size_at old p = (block-within old p blocked begins).header.sized in
    elim free.place as (λ _. ⊥) [
      | inl same ↦ omega (arith, free.only p begins is_free (ends ∙ same))
      | inr before ↦ (
          let P : ℕ → Type 0 = λ z. 1 ≤ kind_at old z in
          let used : 1 ≤ kind_at old from = subst P ends (fa.apart p begins is_free (omega arith)) in
          omega (arith, used, before.1))
    ]

pub gave : (old : List ℕ) (at from : ℕ) → Blocked old → IsUsed old at → FreeFrom old at from
    → GaveBlock old (set old from (header (free_end old (at + size_at old at) - from) 0)) at from
gave old at from blocked used free =
    let n = size_at old at in
    let e = free_end old (at + n) in
    let new = set old from (header (e - from) 0) in
    let in_row = block-within old at blocked used.begins in
    let inside : e ≤ length old = free_end-inside old (at + n) blocked in_row.to (λ below. next-begins old at blocked used.begins below) in
    let below : from ≤ at = from-below old at from free in
    let some : 1 ≤ n = in_row.header.sized in
    let was = between old from at (at + n) e (run-before old at from blocked free) (used-led old at blocked used) in
    let is = made-run new from e (omega arith) (λ z. get_or-set_same old from (header (e - from) 0) 0 (omega arith)) in
    let ch : Change old new from e was.ps is.ps = record {
      begins = from-begins old at from used.begins free;
      was = was.row;
      inside = inside;
      same_len = length-set old from (header (e - from) 0);
      same = λ q out. get_or-set_other old from q (header (e - from) 0) 0 (omega (arith, out));
      is = is.row;
    } in
    let are : (p : ℕ) → IsListed p is.ps → (p ≡ from) ⊎ ((p ≡ at) ⊎ (p ≡ at + n)) = λ p is_in. inl (is.only p is_in) in
    let c = changed old new from e at (at + n) at was.ps is.ps blocked ch was.only are was.free (λ p is_in other. is.free p is_in) in
    record {
      blocked = c.relaid.blocked;
      mem = refl;
      others = c.others;
      frame = c.frame;
      apart = λ fa. apart-again old new from e was.ps is.ps blocked ch fa (λ p begins was_free ends. absurd (none-before old at from p blocked fa free (omega arith) begins was_free ends))
          (behind-used old (at + n) blocked fa (λ z. next-begins old at blocked used.begins z)) (λ p listed is_free. is.last p listed);
      gone = λ still. elim (c.relaid.comes at still.begins) as (λ _. ⊥) [ inl o ↦ omega (arith, o.1, below, some) | inr d ↦ omega (arith, is.free at d, still.kind) ];
      begins = c.relaid.made from (is.some (omega arith));
      order = (below, omega (arith, is.whole (omega arith)));
      free = omega (arith, c.relaid.free, was.sum, is.sum);
    }

pub closed : (old : List ℕ) (end_of_row : ℕ) → Reaches old end_of_row → end_of_row ≤ length old → Closed old (freed old end_of_row (length old)) end_of_row
closed old end_of_row reach inside =
    let new = freed old end_of_row (length old) in
    let len : length new ≡ length old = freed-length old end_of_row (length old) in
    let is = made-run new end_of_row (length old) inside (λ some. freed-first old end_of_row (length old) some some) in
    let same : (ps : List ℕ) → Blocks old 0 ps end_of_row → (p : ℕ) → IsListed p ps → get_or new p 0 ≡ get_or old p 0 = λ ps row p listed.
    (let w = blocks-within old 0 end_of_row p ps row listed in
    freed-other old end_of_row (length old) p (inl (omega (arith, w.to, w.header.sized)))) in
    let P : ℕ → Type 0 = λ z. Blocks new 0 (reach.places ++ is.ps) z in
    let front : Blocks new 0 reach.places end_of_row = blocks-same old new 0 end_of_row reach.places (same reach.places reach.row) reach.row in
    let row : Blocks new 0 (reach.places ++ is.ps) (length new) = subst P (sym len) (blocks-append new 0 end_of_row (length old) reach.places is.ps front is.row) in
    record {
      blocked = blocked-row new (reach.places ++ is.ps) row;
      apart = λ used. record {
        apart = λ p begins is_free below.
            let P : List ℕ → Type 0 = λ z. IsListed p z in
            elim (in-append p reach.places is.ps (subst P (block_places-row new (reach.places ++ is.ps) row) begins.listed)) as (λ _. 1 ≤ kind_at new (p + size_at new p)) [
              | inl first ↦ (let w = blocks-within old 0 end_of_row p reach.places reach.row first in
                  absurd (omega (arith, used p begins (omega (arith, w.to, w.header.sized)), is_free)))
              | inr second ↦ absurd (omega (arith, is.last p second, below, len))
            ];
      };
      mem = refl;
      free = λ ps other.
          let f = blocks-front old 0 end_of_row end_of_row ps reach.places other reach.row (omega arith) in
          let none : free_among old f.rest ≡ 0 = omega (arith, free_among-most old end_of_row end_of_row f.rest f.row) in
          let split : free_among old reach.places ≡ free_among old ps + free_among old f.rest = ap (λ (z : List ℕ). free_among old z) f.is ∙ free_among-append old ps f.rest in
          omega (
            arith,
            free_of-row new (reach.places ++ is.ps) (block_places-row new (reach.places ++ is.ps) row),
            free_among-append new reach.places is.ps,
            free_among-same old new reach.places (same reach.places reach.row),
            is.sum,
            split,
            none,
          );
    }
