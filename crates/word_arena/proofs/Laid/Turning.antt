-- A block in use that is given another kind.
use Rattle.std.proofs.Common.{◌≡◌, ◌≢◌, ℕ, ◌+◌, ◌*◌, ◌/◌, ◌≤◌, List, [], ◌∷◌, get_or, set, refl, sym, ◌∙◌, ap, subst, arith, inl, inr}
use Rattle.std.proofs.lemmas.Bool.{cases_eq}
use Rattle.std.proofs.lemmas.List.{get_or-set_same, get_or-set_other, length-set}
use Rattle.word_arena.specs.Blocks.{size_at, kind_at, free_at, header, IsHeader, Blocked, BlockBegins, IsUsed, FreeApart}
use Rattle.word_arena.specs.Changes.{Frame, Turned}
use Rattle.word_arena.specs.Stretches.{Right}
use Rattle.word_arena.specs.Sound.{Sound}
use Rattle.word_arena.specs.declared.arena.Arena.{Arena}
use Rattle.word_arena.proofs.Side.Facts.{free-none, made-header, header-size, header-kind, block-within}
use Rattle.word_arena.proofs.Side.Runs.{only-in}
use Rattle.word_arena.proofs.Laid.Relaid.{Change, Relaid}
use Rattle.word_arena.proofs.Laid.Taking.{changed}
use Rattle.word_arena.proofs.Laid.Lent.{lent-room}
use Rattle.word_arena.proofs.Found.Table.{same-free}

-- No two free blocks meet where none did.
turned-apart : (old new : List ℕ) (at e kind : ℕ) → Change old new at e (at ∷ []) (at ∷ []) → Relaid old new at e (at ∷ []) (at ∷ [])
    → ((q : ℕ) → q ≢ at → get_or new q 0 ≡ get_or old q 0) → kind_at new at ≡ kind → 1 ≤ kind → FreeApart old → FreeApart new
turned-apart old new at e kind ch r other is_kind some fa =
    record {
      apart = λ p begins free below.
          elim (r.comes p begins) as (λ _. 1 ≤ kind_at new (p + size_at new p)) [
            | inl o ↦ (
                let word : get_or new p 0 ≡ get_or old p 0 = ch.same p o.1 in
                let size : size_at new p ≡ size_at old p = ap (λ (h : ℕ). h / 16) word in
                let q = p + size_at new p in
                let P : ℕ → Type 0 = λ z. 1 ≤ kind_at old (p + z) in
                let used : 1 ≤ kind_at old q = subst P (sym size) (fa.apart p o.0 (omega (arith, word, free)) (omega (arith, below, size, ch.same_len))) in
                let Q : ℕ → Type 0 = λ z. 1 ≤ kind_at new z in
                elim (cases_eq q at) as (λ _. 1 ≤ kind_at new q) [
                  | inl same ↦ subst Q (sym same) (omega (arith, is_kind, some))
                  | inr apart ↦ omega (arith, other q apart, used)
                ])
            | inr d ↦ (let Q : ℕ → Type 0 = λ z. kind_at new z ≡ 0 in let none : kind_at new at ≡ 0 = subst Q (only-in p at d) free in absurd (omega (arith, none, is_kind, some)))
          ];
    }

pub turned : (old : List ℕ) (at kind : ℕ) → Blocked old → IsUsed old at → 1 ≤ kind → kind ≤ 8 → Turned old (set old at (header (size_at old at) kind)) at kind
turned old at kind blocked used some low =
    let n = size_at old at in
    let e = at + n in
    let new = set old at (header n kind) in
    let in_row = block-within old at blocked used.begins in
    let two : 2 ≤ n = in_row.header.owned used.kind in
    let head : get_or new at 0 ≡ header n kind = get_or-set_same old at (header n kind) 0 (omega (arith, in_row.to)) in
    let size : size_at new at ≡ n = header-size (get_or new at 0) n kind head low in
    let is_kind : kind_at new at ≡ kind = header-kind (get_or new at 0) n kind head low in
    let is : IsHeader (get_or new at 0) = made-header (get_or new at 0) n kind head low (omega arith) (λ z. two) in
    let other : (q : ℕ) → q ≢ at → get_or new q 0 ≡ get_or old q 0 = λ q not_at. get_or-set_other old at q (header n kind) 0 not_at in
    let ch : Change old new at e (at ∷ []) (at ∷ []) = record {
      begins = used.begins;
      was = (refl, in_row.header, refl);
      inside = in_row.to;
      same_len = length-set old at (header n kind);
      same = λ q out. other q (omega (arith, out, two));
      is = (refl, is, ap (λ (z : ℕ). at + z) size);
    } in
    let c = changed old new at e at at at (at ∷ []) (at ∷ []) blocked ch (λ p listed. inl (only-in p at listed)) (λ p listed. inl (only-in p at listed))
    (λ p listed differs. absurd (differs (only-in p at listed))) (λ p listed differs. absurd (differs (only-in p at listed))) in
    record {
      blocked = c.relaid.blocked;
      mem = refl;
      others = c.others;
      frame = c.frame;
      block = record { begins = c.relaid.made at (inl refl); has_words = size; has_kind = is_kind; has_owner = other (at + 1) (omega arith) };
      free = omega (arith, c.relaid.free, free-none old at used.kind, free-none new at (omega (arith, is_kind, some)));
      apart = λ fa. turned-apart old new at e kind ch c.relaid other is_kind some fa;
    }

-- What the table knows of a stretch stays right.
turned-right : (old new firsts tops : List ℕ) (at i : ℕ) → Frame old new at at at → BlockBegins old at → BlockBegins new at → free_at new at ≡ free_at old at
    → Right old firsts tops i → Right new firsts tops i
turned-right old new firsts tops at i frame was is free right =
    let keeps : (p : ℕ) → BlockBegins old p → BlockBegins new p = λ p begins. elim (cases_eq p at) as (λ _. BlockBegins new p) [
      | inl same ↦ (let P : ℕ → Type 0 = λ z. BlockBegins new z in subst P (sym same) is)
      | inr other ↦ frame.keeps p other other other begins
    ] in
    let comes : (p : ℕ) → BlockBegins new p → BlockBegins old p = λ p begins. elim (cases_eq p at) as (λ _. BlockBegins old p) [
      | inl same ↦ (let P : ℕ → Type 0 = λ z. BlockBegins old z in subst P (sym same) was)
      | inr other ↦ frame.comes p other other other begins
    ] in
    let words : (p : ℕ) → BlockBegins old p → free_at new p ≡ free_at old p = λ p begins. elim (cases_eq p at) as (λ _. free_at new p ≡ free_at old p) [
      | inl same ↦ (let P : ℕ → Type 0 = λ z. free_at new z ≡ free_at old z in subst P (sym same) free)
      | inr other ↦ same-free old new p (frame.same p other other other begins)
    ] in
    record {
      first = record {
        begins = λ small. keeps (i * 64 + get_or firsts i 0) (right.first.begins small);
        least = λ p begins place. right.first.least p (comes p begins) place;
      };
      top = record {
        above = λ p begins place. omega (arith, right.top.above p (comes p begins) place, words p (comes p begins));
        met = λ more. (let m = right.top.met more in (m.0, keeps m.0 m.1, m.2, words m.0 m.1 ∙ m.3));
      };
    }

pub turned-sound : (a : Arena) (new : List ℕ) (at kind : ℕ) → Sound a → IsUsed a.mem at → 1 ≤ kind → Turned a.mem new at kind → Sound (record { mem = new; holes = a.holes })
turned-sound a new at kind sound used some t =
    let free : free_at new at ≡ free_at a.mem at = omega (arith, free-none a.mem at used.kind, free-none new at (omega (arith, t.block.has_kind, some))) in
    record {
      blocked = t.blocked;
      agrees = record {
        room = lent-room a.mem new a.holes t.frame.same_len sound.agrees.room;
        right = λ i inside. turned-right a.mem new a.holes.firsts.items a.holes.tops at i t.frame used.begins t.block.begins free (sound.agrees.right i inside);
        free = sound.agrees.free ∙ sym t.free;
      };
    }
