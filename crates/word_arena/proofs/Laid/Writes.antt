-- The words of the memory after a call.
use Rattle.std.proofs.Common.{◌≡◌, ◌≢◌, ℕ, ◌+◌, ◌-◌, ◌<◌, ◌≤◌, ◌⊎◌, true, false, nat_lt, List, length, get_or, set, refl, ◌∙◌, ap, arith, inl, inr}
use Rattle.std.proofs.lemmas.Bool.{cases_lt}
use Rattle.std.proofs.lemmas.Bool.Decides.{nat_tests}
use Rattle.std.proofs.lemmas.List.{get_or-set_same, get_or-set_other, length-set}
use Rattle.word_arena.specs.Blocks.{size_at, header}
use Rattle.word_arena.specs.Calls.{freed, taken}

pub freed-none : (mem : List ℕ) (a e : ℕ) → e ≤ a → freed mem a e ≡ mem
freed-none mem a e none = let test : nat_lt a e ≡ false = grind (arith, nat_tests) in rw test refl

pub freed-some : (mem : List ℕ) (a e : ℕ) → a < e → freed mem a e ≡ set mem a (header (e - a) 0)
freed-some mem a e some = let test : nat_lt a e ≡ true = grind (arith, nat_tests) in rw test refl

pub freed-length : (mem : List ℕ) (a e : ℕ) → length (freed mem a e) ≡ length mem
freed-length mem a e =
    elim (cases_lt a e) as (λ _. length (freed mem a e) ≡ length mem) [
      | inl some ↦ ap length (freed-some mem a e some) ∙ length-set mem a (header (e - a) 0)
      | inr none ↦ ap length (freed-none mem a e none)
    ]

pub freed-first : (mem : List ℕ) (a e : ℕ) → a < e → a < length mem → get_or (freed mem a e) a 0 ≡ header (e - a) 0
freed-first mem a e some inside = rw (freed-some mem a e some) (get_or-set_same mem a (header (e - a) 0) 0 inside)

pub freed-other : (mem : List ℕ) (a e q : ℕ) → (q ≢ a) ⊎ (e ≤ a) → get_or (freed mem a e) q 0 ≡ get_or mem q 0
freed-other mem a e q (inl other) =
    elim (cases_lt a e) as (λ _. get_or (freed mem a e) q 0 ≡ get_or mem q 0) [
      | inl some ↦ rw (freed-some mem a e some) (get_or-set_other mem a q (header (e - a) 0) 0 other)
      | inr none ↦ rw (freed-none mem a e none) refl
    ]
freed-other mem a e q (inr none) = rw (freed-none mem a e none) refl

-- A memory in which a block of so many words stands before a run of free words.
pub record Written (old new : List ℕ) (at words kind e : ℕ) : Type 0 where
  pub same_len : length new ≡ length old
  pub head : get_or new at 0 ≡ header words kind
  pub rest : at + words < e → get_or new (at + words) 0 ≡ header (e - (at + words)) 0
  pub other : (q : ℕ) → q ≢ at → q ≢ at + 1 → (q ≢ at + words) ⊎ (e ≤ at + words) → get_or new q 0 ≡ get_or old q 0

pub shortened-written : (old : List ℕ) (at words e kind : ℕ) → at + words ≤ e → e ≤ length old → 2 ≤ words
    → Written old (set (freed old (at + words) e) at (header words kind)) at words kind e
shortened-written old at words e kind order inside some =
    let mid = freed old (at + words) e in
    let len : length mid ≡ length old = freed-length old (at + words) e in
    record {
      same_len = length-set mid at (header words kind) ∙ len;
      head = get_or-set_same mid at (header words kind) 0 (omega arith);
      rest = λ below. get_or-set_other mid at (at + words) (header words kind) 0 (omega arith) ∙ freed-first old (at + words) e below (omega arith);
      other = λ q not_at not_owner not_rest. get_or-set_other mid at q (header words kind) 0 not_at ∙ freed-other old (at + words) e q not_rest;
    }

pub shortened-owner : (old : List ℕ) (at words e kind : ℕ) → at + words ≤ e → e ≤ length old → 2 ≤ words
    → (q : ℕ) → at < q → q < at + words → get_or (set (freed old (at + words) e) at (header words kind)) q 0 ≡ get_or old q 0
shortened-owner old at words e kind order inside some q above below =
    get_or-set_other (freed old (at + words) e) at q (header words kind) 0 (omega arith) ∙ freed-other old (at + words) e q (inl (omega arith))

pub taken-written : (old : List ℕ) (at words kind owner : ℕ) → words ≤ size_at old at → at + size_at old at ≤ length old → 2 ≤ words
    → Written old (taken old at words kind owner) at words kind (at + size_at old at)
taken-written old at words kind owner fits inside some =
    let e = at + size_at old at in
    let mid = set (freed old (at + words) e) at (header words kind) in
    let w = shortened-written old at words e kind (omega arith) inside some in
    record {
      same_len = length-set mid (at + 1) owner ∙ w.same_len;
      head = get_or-set_other mid (at + 1) at owner 0 (omega arith) ∙ w.head;
      rest = λ below. get_or-set_other mid (at + 1) (at + words) owner 0 (omega arith) ∙ w.rest below;
      other = λ q not_at not_owner not_rest. get_or-set_other mid (at + 1) q owner 0 not_owner ∙ w.other q not_at not_owner not_rest;
    }

pub taken-owner : (old : List ℕ) (at words kind owner : ℕ) → words ≤ size_at old at → at + size_at old at ≤ length old → 2 ≤ words
    → get_or (taken old at words kind owner) (at + 1) 0 ≡ owner
taken-owner old at words kind owner fits inside some =
    let e = at + size_at old at in
    let mid = set (freed old (at + words) e) at (header words kind) in
    let w = shortened-written old at words e kind (omega arith) inside some in
    get_or-set_same mid (at + 1) owner 0 (omega (arith, w.same_len))
