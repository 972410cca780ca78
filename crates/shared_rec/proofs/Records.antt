-- Records stay where their content does.
use Rattle.std.proofs.Common.{◌≡◌, ℕ, ◌+◌, ◌/◌, ◌<◌, ◌≤◌, ◌⊎◌, Bool, true, List, length, get_or, refl, sym, subst, arith, inl, inr}
use Rattle.std.proofs.lemmas.Bool.Decides.{nat_tests}
use Rattle.term_words.specs.Role.{IsSingle, Idle, OfRecord, COUNT, RECORD, RECORD_FIRST}
use Rattle.term_words.specs.Object.{IsRecord}
use Rattle.term_words.specs.Kept.{Kept}
use Rattle.term_words.specs.Relocated.{IsCopiedTo}
pub use Rattle.term_words.proofs.Framing.Records.{bin-same, fun-same, bin-stays, fun-stays, bin-copied, fun-copied}
use Rattle.shared_rec.specs.Record.{record_roles}

-- Where the words of records are the same, and have their roles, records are records of the same size, and have the same length.

pub record-same : (c d : ℕ → ℕ → Bool) (old new : List ℕ) → length old ≤ length new → ((a k : ℕ) → OfRecord k → c a k ≡ true → d a k ≡ true)
    → ((a k : ℕ) → RECORD ≤ k → c a k ≡ true → get_or new a 0 ≡ get_or old a 0) → (v n : ℕ) → IsRecord c old v n → IsRecord d new v n
record-same c d old new longer weaker same v n (inl (serial, bytes, o, words)) = inl (serial, bytes, bin-same c d old new longer weaker same v serial bytes o, words)
record-same c d old new longer weaker same v n (inr (name, arity, o, words)) = inr (name, arity, fun-same c d old new longer weaker same v name arity o, words)

pub record-length : (c : ℕ → ℕ → Bool) (old new : List ℕ) → ((a k : ℕ) → RECORD ≤ k → c a k ≡ true → get_or new a 0 ≡ get_or old a 0) → (v n : ℕ) → IsRecord c old v n
    → get_or new (v + 3) 0 ≡ get_or old (v + 3) 0
record-length c old new same v n (inl (serial, bytes, o, words)) = same (v + 3) RECORD (omega arith) (o.others (v + 3) (omega arith) (omega arith))
record-length c old new same v n (inr (name, arity, o, words)) = same (v + 3) RECORD (omega arith) o.fourth

pub record-stays : (c d : ℕ → ℕ → Bool) (old new : List ℕ) (v n : ℕ) → Kept c d old new → IsRecord c old v n → IsRecord d new v n
record-stays c d old new v n k (inl (serial, bytes, o, words)) = inl (serial, bytes, bin-stays c d old new v serial bytes k o, words)
record-stays c d old new v n k (inr (name, arity, o, words)) = inr (name, arity, fun-stays c d old new v name arity k o, words)

-- The word that counts has that role.
pub record-counted : (c : ℕ → ℕ → Bool) (mem : List ℕ) (v n : ℕ) → IsRecord c mem v n → c (v + 2) COUNT ≡ true
record-counted c mem v n (inl (serial, bytes, o, words)) = o.counted
record-counted c mem v n (inr (name, arity, o, words)) = o.counted

-- A place that has one of the roles that may change has no content.
pub role-idle : (c : ℕ → ℕ → Bool) (a j : ℕ) → IsSingle c → c a j ≡ true → j < 3 → Idle c a
role-idle c a j single h small = λ k content h2. let e : j ≡ k = single.one a j k h h2 in omega (arith, e, content, small)

pub count-idle : (c : ℕ → ℕ → Bool) (mem : List ℕ) (v n : ℕ) → IsSingle c → IsRecord c mem v n → Idle c (v + 2)
count-idle c mem v n single r = role-idle c (v + 2) COUNT single (record-counted c mem v n r) (omega arith)

-- A record whose words but the count lie at another place, or at its own, with their roles, is a record there.
module _ (c d : ℕ → ℕ → Bool) (old new : List ℕ) where
  pub record-copied : (v u n : ℕ) → IsCopiedTo c d old new v u n → IsRecord c old v n → IsRecord d new u n
  record-copied v u n h (inl (serial, bytes, o, words)) = inl (serial, bytes, bin-copied c d old new v u serial bytes (rw words at h) o, words)
  record-copied v u n h (inr (name, arity, o, words)) = inr (name, arity, fun-copied c d old new v u name arity (rw words at h) o, words)

-- A record has its size in its first word, and each of its words has its role.

pub record-size : (c : ℕ → ℕ → Bool) (mem : List ℕ) (v n : ℕ) → IsRecord c mem v n → get_or mem v 0 / 16 ≡ n
record-size c mem v n (inl (serial, bytes, o, words)) = omega (arith, o.header, words)
record-size c mem v n (inr (name, arity, o, words)) = omega (arith, o.header, words)

pub record-within : (c : ℕ → ℕ → Bool) (mem : List ℕ) (v n : ℕ) → IsRecord c mem v n → (v + n ≤ length mem) × (4 ≤ n)
record-within c mem v n (inl (serial, bytes, o, words)) = (omega (arith, o.within, words), omega (arith, words))
record-within c mem v n (inr (name, arity, o, words)) = (omega (arith, o.within, words), omega (arith, words))

pub record-first : (c : ℕ → ℕ → Bool) (mem : List ℕ) (v n : ℕ) → IsRecord c mem v n → c v RECORD_FIRST ≡ true
record-first c mem v n (inl (serial, bytes, o, words)) = o.first
record-first c mem v n (inr (name, arity, o, words)) = o.first

record-second : (c : ℕ → ℕ → Bool) (mem : List ℕ) (v n : ℕ) → IsRecord c mem v n → c (v + 1) RECORD ≡ true
record-second c mem v n (inl (serial, bytes, o, words)) = o.second
record-second c mem v n (inr (name, arity, o, words)) = o.second

record-others : (c : ℕ → ℕ → Bool) (mem : List ℕ) (v n j : ℕ) → IsRecord c mem v n → 3 ≤ j → j < n → c (v + j) RECORD ≡ true
record-others c mem v n j (inl (serial, bytes, o, words)) far below = o.others (v + j) (omega arith) (omega (arith, words, below))
record-others c mem v n j (inr (name, arity, o, words)) far below =
    let three : 3 ≡ j = omega (arith, far, words, below) in
    rw three at o.fourth

at-role : (c : ℕ → ℕ → Bool) (q a i k : ℕ) → q ≡ a → record_roles i ≡ k → c a k ≡ true → c q (record_roles i) ≡ true
at-role c q a i k e f h = rw (e, f) h

pub role-first : record_roles 0 ≡ RECORD_FIRST
role-first = refl

pub record-role : (c : ℕ → ℕ → Bool) (mem : List ℕ) (v n j : ℕ) → IsRecord c mem v n → j < n → c (v + j) (record_roles j) ≡ true
record-role c mem v n j o below =
    let which : (j ≡ 0) ⊎ ((j ≡ 1) ⊎ ((j ≡ 2) ⊎ (3 ≤ j))) = grind arith in
    elim which [
      | inl e ↦ at-role c (v + j) v j RECORD_FIRST (omega (arith, e)) (grind (arith, nat_tests, e)) (record-first c mem v n o)
      | inr (inl e) ↦ at-role c (v + j) (v + 1) j RECORD (omega (arith, e)) (grind (arith, nat_tests, e)) (record-second c mem v n o)
      | inr (inr (inl e)) ↦ at-role c (v + j) (v + 2) j COUNT (omega (arith, e)) (grind (arith, nat_tests, e)) (record-counted c mem v n o)
      | inr (inr (inr far)) ↦ at-role c (v + j) (v + j) j RECORD refl (grind (arith, nat_tests, far)) (record-others c mem v n j o far below)
    ]
