-- Records stay where their words do, and are records where they are copied.
use Rattle.std.proofs.Common.{◌≡◌, ℕ, ◌+◌, ◌-◌, ◌/◌, ◌%◌, ◌<◌, ◌≤◌, Bool, true, List, length, get_or, refl, sym, ◌∙◌, ap, subst, arith, inl, inr}
use Rattle.plain_term.specs.Measures.{bin_words}
use Rattle.term_words.specs.Role.{OfRecord, COUNT, RECORD, RECORD_FIRST}
use Rattle.term_words.specs.Object.{byte_of, IsBinRecord, IsFunRecord}
use Rattle.term_words.specs.Kept.{Kept}
use Rattle.term_words.specs.Relocated.{IsCopiedTo}

module _ (c d : ℕ → ℕ → Bool) (old new : List ℕ) (longer : length old ≤ length new) (weaker : (a k : ℕ) → OfRecord k → c a k ≡ true → d a k ≡ true)
    (same : (a k : ℕ) → RECORD ≤ k → c a k ≡ true → get_or new a 0 ≡ get_or old a 0) where
  -- Where the words of records are the same, records are.
  pub bin-same : (v serial : ℕ) (bytes : List ℕ) → IsBinRecord c old v serial bytes → IsBinRecord d new v serial bytes
  bin-same v serial bytes o = record {
    within = omega (arith, longer, o.within);
    header = same v RECORD_FIRST (omega arith) o.first ∙ o.header;
    owner = same (v + 1) RECORD (omega arith) o.second ∙ o.owner;
    size = same (v + 3) RECORD (omega arith) (o.others (v + 3) (omega arith) (omega arith)) ∙ o.size;
    content = record {
      each = λ i a below place.
          let there : get_or new a 0 ≡ get_or old a 0 = same a RECORD (omega arith) (o.others a (omega arith) (omega arith)) in
          ap (λ x. byte_of x (i % 8)) there ∙ o.content.each i a below place;
    };
    first = weaker v RECORD_FIRST (inr (inr refl)) o.first;
    second = weaker (v + 1) RECORD (inr (inl refl)) o.second;
    counted = weaker (v + 2) COUNT (inl refl) o.counted;
    others = λ q from below. weaker q RECORD (inr (inl refl)) (o.others q from below);
  }

  pub fun-same : (v name arity : ℕ) → IsFunRecord c old v name arity → IsFunRecord d new v name arity
  fun-same v name arity o = record {
    named = o.named;
    arity_range = o.arity_range;
    within = omega (arith, longer, o.within);
    header = same v RECORD_FIRST (omega arith) o.first ∙ o.header;
    owner = same (v + 1) RECORD (omega arith) o.second ∙ o.owner;
    zero_word = same (v + 3) RECORD (omega arith) o.fourth ∙ o.zero_word;
    first = weaker v RECORD_FIRST (inr (inr refl)) o.first;
    second = weaker (v + 1) RECORD (inr (inl refl)) o.second;
    counted = weaker (v + 2) COUNT (inl refl) o.counted;
    fourth = weaker (v + 3) RECORD (inr (inl refl)) o.fourth;
  }

pub bin-stays : (c d : ℕ → ℕ → Bool) (old new : List ℕ) (v serial : ℕ) (bytes : List ℕ) → Kept c d old new → IsBinRecord c old v serial bytes → IsBinRecord d new v serial bytes
bin-stays c d old new v serial bytes k o = bin-same c d old new k.longer (λ a j of h. k.weaker a j h) (λ a j past h. k.same a j (omega (arith, past)) h) v serial bytes o

pub fun-stays : (c d : ℕ → ℕ → Bool) (old new : List ℕ) (v name arity : ℕ) → Kept c d old new → IsFunRecord c old v name arity → IsFunRecord d new v name arity
fun-stays c d old new v name arity k o = fun-same c d old new k.longer (λ a j of h. k.weaker a j h) (λ a j past h. k.same a j (omega (arith, past)) h) v name arity o

-- A record whose words but the count lie at another place, or at its own, with their roles, is a record there.
module _ (c d : ℕ → ℕ → Bool) (old new : List ℕ) where
  word-at : (v u n j q a : ℕ) → IsCopiedTo c d old new v u n → j < n → (j ≡ 2 → ⊥) → q ≡ u + j → a ≡ v + j → get_or new q 0 ≡ get_or old a 0
  word-at v u n j q a h below some e i = h.same j q below some e ∙ ap (λ y. get_or old y 0) (sym i)

  role-at : (v u n j q a k : ℕ) → IsCopiedTo c d old new v u n → j < n → q ≡ u + j → a ≡ v + j → c a k ≡ true → d q k ≡ true
  role-at v u n j q a k h below e i t = let P : ℕ → Type 0 = λ y. c y k ≡ true in h.roles j q k below e (subst P i t)

  pub bin-copied : (v u serial : ℕ) (bytes : List ℕ) → IsCopiedTo c d old new v u (4 + bin_words (length bytes)) → IsBinRecord c old v serial bytes → IsBinRecord d new u serial bytes
  bin-copied v u serial bytes h o =
      let n : ℕ = 4 + bin_words (length bytes) in
      record {
        within = h.within;
        header = word-at v u n 0 u v h (omega arith) (λ e. omega arith) (omega arith) (omega arith) ∙ o.header;
        owner = word-at v u n 1 (u + 1) (v + 1) h (omega arith) (λ e. omega arith) refl refl ∙ o.owner;
        size = word-at v u n 3 (u + 3) (v + 3) h (omega arith) (λ e. omega arith) refl refl ∙ o.size;
        content = record {
          each = λ i a below place.
              let there : get_or new a 0 ≡ get_or old (v + 4 + i / 8) 0 = word-at v u n (4 + i / 8) a (v + 4 + i / 8) h (omega arith) (λ e. omega arith) (omega arith) (omega arith) in
              ap (λ x. byte_of x (i % 8)) there ∙ o.content.each i (v + 4 + i / 8) below refl;
        };
        first = role-at v u n 0 u v RECORD_FIRST h (omega arith) (omega arith) (omega arith) o.first;
        second = role-at v u n 1 (u + 1) (v + 1) RECORD h (omega arith) refl refl o.second;
        counted = role-at v u n 2 (u + 2) (v + 2) COUNT h (omega arith) refl refl o.counted;
        others = λ q from below. role-at v u n (q - u) q (v + (q - u)) RECORD h (omega arith) (omega arith) refl (o.others (v + (q - u)) (omega arith) (omega arith));
      }

  pub fun-copied : (v u name arity : ℕ) → IsCopiedTo c d old new v u 4 → IsFunRecord c old v name arity → IsFunRecord d new u name arity
  fun-copied v u name arity h o = record {
    named = o.named;
    arity_range = o.arity_range;
    within = h.within;
    header = word-at v u 4 0 u v h (omega arith) (λ e. omega arith) (omega arith) (omega arith) ∙ o.header;
    owner = word-at v u 4 1 (u + 1) (v + 1) h (omega arith) (λ e. omega arith) refl refl ∙ o.owner;
    zero_word = word-at v u 4 3 (u + 3) (v + 3) h (omega arith) (λ e. omega arith) refl refl ∙ o.zero_word;
    first = role-at v u 4 0 u v RECORD_FIRST h (omega arith) (omega arith) (omega arith) o.first;
    second = role-at v u 4 1 (u + 1) (v + 1) RECORD h (omega arith) refl refl o.second;
    counted = role-at v u 4 2 (u + 2) (v + 2) COUNT h (omega arith) refl refl o.counted;
    fourth = role-at v u 4 3 (u + 3) (v + 3) RECORD h (omega arith) refl refl o.fourth;
  }
