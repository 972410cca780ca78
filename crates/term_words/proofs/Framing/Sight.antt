-- Tests narrowed to what an owner sees.
use Rattle.std.proofs.Common.{◌≡◌, ℕ, ◌||◌, Bool, true, List, refl, arith, inl, inr}
use Rattle.std.proofs.lemmas.Bool.Decides.{nat_tests}
use Rattle.std.proofs.lemmas.Bool.{or_left, or_right, or_cases, and_from, and_parts}
use Rattle.term_words.specs.Role.{IsInSight, IsSingle, OfRecord, by, is_of_record, sees}
use Rattle.term_words.specs.Kept.{AgreeInSight, Kept, Keeps}
use Rattle.term_words.proofs.Framing.Frames.{frame}

record-told : (k : ℕ) → is_of_record k ≡ true → OfRecord k
record-told k e = grind (arith, nat_tests, e)

record-is : (k : ℕ) → OfRecord k → is_of_record k ≡ true
record-is k o = grind (arith, nat_tests, o)

pub sight-told : (own common : ℕ → Bool) (a k : ℕ) → sees own common a k ≡ true → IsInSight own common a k
unfolding sees
sight-told own common a k h = elim (or_cases (own a) (common a || is_of_record k) h) [
  | inl t ↦ inl t
  | inr r ↦ elim (or_cases (common a) (is_of_record k) r) [ inl t ↦ inr (inl t) | inr o ↦ inr (inr (record-told k o)) ]
]

pub sight-is : (own common : ℕ → Bool) (a k : ℕ) → IsInSight own common a k → sees own common a k ≡ true
unfolding sees
sight-is own common a k (inl t) = or_left (own a) (common a || is_of_record k) t
sight-is own common a k (inr (inl t)) = or_right (own a) (common a || is_of_record k) (or_left (common a) (is_of_record k) t)
sight-is own common a k (inr (inr o)) = or_right (own a) (common a || is_of_record k) (or_right (common a) (is_of_record k) (record-is k o))

pub by-told : (c : ℕ → ℕ → Bool) (own common : ℕ → Bool) (a k : ℕ) → by c own common a k ≡ true → (c a k ≡ true) × IsInSight own common a k
by-told c own common a k h = let (t, s) = and_parts (c a k) (sees own common a k) h in (t, sight-told own common a k s)

pub by-is : (c : ℕ → ℕ → Bool) (own common : ℕ → Bool) (a k : ℕ) → c a k ≡ true → IsInSight own common a k → by c own common a k ≡ true
by-is c own common a k t s = and_from (c a k) (sees own common a k) t (sight-is own common a k s)

pub by-single : (c : ℕ → ℕ → Bool) (own common : ℕ → Bool) → IsSingle c → IsSingle (by c own common)
by-single c own common s = record { one = λ a j k h t. s.one a j k (by-told c own common a j h).0 (by-told c own common a k t).0 }

same-memory : (c d : ℕ → ℕ → Bool) (mem : List ℕ) → ((a k : ℕ) → c a k ≡ true → d a k ≡ true) → Keeps c d mem mem
same-memory c d mem weaker = frame c d mem mem (record { longer = omega arith; weaker = weaker; same = λ a k past h. refl })

pub by-wide : (c : ℕ → ℕ → Bool) (own common : ℕ → Bool) (mem : List ℕ) → Keeps (by c own common) c mem mem
by-wide c own common mem = same-memory (by c own common) c mem (λ a k h. (by-told c own common a k h).0)

pub by-wider : (c : ℕ → ℕ → Bool) (own common more further : ℕ → Bool) (mem : List ℕ) → ((a : ℕ) → own a ≡ true → more a ≡ true) → ((a : ℕ) → common a ≡ true → further a ≡ true)
    → Keeps (by c own common) (by c more further) mem mem
by-wider c own common more further mem f g = same-memory (by c own common) (by c more further) mem (λ a k h.
    let (t, s) = by-told c own common a k h in
    by-is c more further a k t (elim s [ inl o ↦ inl (f a o) | inr (inl m) ↦ inr (inl (g a m)) | inr (inr r) ↦ inr (inr r) ]))

pub by-kept : (c d : ℕ → ℕ → Bool) (own common : ℕ → Bool) (old new : List ℕ) → AgreeInSight c d own common old new → Kept (by c own common) (by d own common) old new
by-kept c d own common old new agree = record {
  longer = agree.longer;
  weaker = λ a k h. let (t, s) = by-told c own common a k h in by-is d own common a k (agree.roles a k s t) s;
  same = λ a k past h. let (t, s) = by-told c own common a k h in agree.words a k s past t;
}

pub by-keeps : (c d : ℕ → ℕ → Bool) (own common : ℕ → Bool) (old new : List ℕ) → AgreeInSight c d own common old new → Keeps (by c own common) (by d own common) old new
by-keeps c d own common old new agree = frame (by c own common) (by d own common) old new (by-kept c d own common old new agree)
