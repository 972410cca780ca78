-- New records, and records whose bytes are written.
use Rattle.std.proofs.Common.{◌≡◌, ℕ, zero, suc, ◌+◌, ◌-◌, ◌*◌, ◌/◌, ◌%◌, ◌^◌, ◌<◌, ◌≤◌, ◌⊎◌, Bool, true, List, [], ◌∷◌, length, get_or, set, replicate, slice_index}
use Rattle.std.proofs.Common.{refl, sym, ◌∙◌, ap, subst, arith, inl, inr, length-set, get_or-set_other}
use Rattle.std.proofs.Math.Nat.{zero-div}
use Rattle.std.proofs.lemmas.Grind.{get_or-set_at}
use Rattle.std.proofs.lemmas.List.{length-replicate, get_or-replicate}
use Rattle.std.proofs.lemmas.Bool.Decides.{nat_tests}
use Rattle.plain_term.specs.Measures.{bin_words}
use Rattle.term_tags.specs.Words.{record_word}
use Rattle.term_tags.specs.declared.kinds.TheConstants.{ATOMS}
use Rattle.term_tags.specs.declared.records.TheConstants.{BIN_RECORD, FUN_RECORD}
use Rattle.term_words.specs.Role.{RECORD}
use Rattle.term_words.specs.Object.{byte_of, BytesLie, IsBinRecord, IsFunRecord}
use Rattle.term_words.specs.Kept.{Kept, Keeps}
use Rattle.term_words.proofs.Framing.Frames.{frame}
use Rattle.term_build.specs.Taken.{Taken, IsFree, Lie}
use Rattle.shared_rec.specs.Record.{WritesRecord, record_roles}
use Rattle.shared_rec.specs.Bytes.{with_byte, equal_bytes}
use Rattle.shared_rec.proofs.InWord.{put-there, put-elsewhere, equal-byte, rest-byte, rest-past}

-- Words written at places that had no role keep every tree.
pub writes-keep : (roles : ℕ → ℕ) (c d : ℕ → ℕ → Bool) (top n : ℕ) (old new : List ℕ) → WritesRecord top (top + n) old new → Taken roles c d top n → Keeps c d old new
writes-keep roles c d top n old new u t =
    let kept : Kept c d old new = record { longer = omega (arith, u.same_len); weaker = t.more; same = λ a k content h. u.others a (t.free a k h) } in
    frame c d old new kept

pub free-keep : (c : ℕ → ℕ → Bool) (from to : ℕ) (old new : List ℕ) → WritesRecord from to old new → IsFree c from to → Keeps c c old new
free-keep c from to old new u free =
    let kept : Kept c c old new = record { longer = omega (arith, u.same_len); weaker = λ a k h. h; same = λ a k content h. u.others a (free a k h) } in
    frame c c old new kept

pub role-past : (j : ℕ) → 3 ≤ j → record_roles j ≡ RECORD
role-past zero past = absurd (omega (arith, past))
role-past (suc zero) past = absurd (omega (arith, past))
role-past (suc (suc zero)) past = absurd (omega (arith, past))
role-past (suc (suc (suc j))) past = grind (arith, nat_tests)

taken-past : (c d : ℕ → ℕ → Bool) (top n q : ℕ) → Taken record_roles c d top n → top + 3 ≤ q → q < top + n → d q RECORD ≡ true
taken-past c d top n q t above below = rw (role-past (q - top) (omega arith)) at (t.new (q - top) q (omega arith) (omega arith))

zero-byte : (k : ℕ) → byte_of 0 k ≡ 0
zero-byte k = ap (λ x. x % 256) (zero-div (2 ^ (k * 8)))

lie-past : (mem : List ℕ) (p a b c d : ℕ) (ws : List ℕ) → Lie mem p (a ∷ b ∷ c ∷ d ∷ ws) → (j q : ℕ) → j < length ws → q ≡ p + 4 + j → get_or mem q 0 ≡ get_or ws j 0
lie-past mem p a b c d ws lie j q below e = lie.each (suc (suc (suc (suc j)))) q (omega (arith, below)) (omega (arith, e))

zeros : (n i : ℕ) → slice_index (replicate n 0) i ≡ 0
zeros zero i = refl
zeros (suc n) zero = refl
zeros (suc n) (suc i) = zeros n i

-- Zeros behind the first four words.
pub words-behind : (mid new : List ℕ) (v a s n m : ℕ) → Lie mid v (a ∷ s ∷ 0 ∷ n ∷ []) → WritesRecord (v + 4) (v + (4 + m)) mid new → ((q : ℕ) → v + 4 ≤ q → q < v + (4 + m) → get_or new q 0 ≡ 0)
    → Lie new v (a ∷ s ∷ 0 ∷ n ∷ replicate m 0)
words-behind mid new v a s n m lie u zero-there = record { each = at }
  where
    at : (j q : ℕ) → j < length (a ∷ s ∷ 0 ∷ n ∷ replicate m 0) → q ≡ v + j → get_or new q 0 ≡ get_or (a ∷ s ∷ 0 ∷ n ∷ replicate m 0) j 0
    at zero q below e = u.others q (inl (omega (arith, e))) ∙ lie.each 0 q (omega arith) e
    at (suc zero) q below e = u.others q (inl (omega (arith, e))) ∙ lie.each 1 q (omega arith) e
    at (suc (suc zero)) q below e = u.others q (inl (omega (arith, e))) ∙ lie.each 2 q (omega arith) e
    at (suc (suc (suc zero))) q below e = u.others q (inl (omega (arith, e))) ∙ lie.each 3 q (omega arith) e
    at (suc (suc (suc (suc j)))) q below e =
        zero-there q (omega (arith, e)) (omega (arith, e, below, length-replicate {A = ℕ} m 0)) ∙ sym (zeros m j)

-- Words that are written one after the other.
pub writes-then : (a b e : ℕ) (old mid new : List ℕ) → a ≤ b → b ≤ e → WritesRecord a b old mid → WritesRecord b e mid new → WritesRecord a e old new
writes-then a b e old mid new first last u w = record {
  same_len = w.same_len ∙ u.same_len;
  others = λ q apart. elim apart [
    | inl low ↦ w.others q (inl (omega (arith, low, first))) ∙ u.others q (inl low)
    | inr high ↦ w.others q (inr high) ∙ u.others q (inr (omega (arith, high, last)))
  ];
}

-- A binary record of zero bytes at words that were taken.
pub bin-made : (c d : ℕ → ℕ → Bool) (mem : List ℕ) (v serial n : ℕ) → v + (4 + bin_words n) ≤ length mem
    → Lie mem v (record_word BIN_RECORD (4 + bin_words n) ∷ serial ∷ 0 ∷ n ∷ replicate (bin_words n) 0)
    → Taken record_roles c d v (4 + bin_words n) → IsBinRecord d mem v serial (replicate n 0)
bin-made c d mem v serial n inside lie t =
    let len : length (replicate {A = ℕ} n 0) ≡ n = length-replicate {A = ℕ} n 0 in
    record {
      within = rw len inside;
      header = rw len (lie.each 0 v (omega arith) (omega arith));
      owner = lie.each 1 (v + 1) (omega arith) refl;
      size = rw len (lie.each 3 (v + 3) (omega arith) refl);
      content = record {
        each = λ i a below place.
            let low : i / 8 < bin_words n = omega (arith, below, len) in
            let at : get_or mem a 0 ≡ get_or (replicate (bin_words n) 0) (i / 8) 0 =
            lie-past mem v (record_word BIN_RECORD (4 + bin_words n)) serial 0 n (replicate (bin_words n) 0) lie (i / 8) a (omega (arith, low, length-replicate {A = ℕ} (bin_words n) 0)) place in
            ap (λ x. byte_of x (i % 8)) (at ∙ zeros (bin_words n) (i / 8)) ∙ (zero-byte (i % 8) ∙ sym (zeros n i));
      };
      first = t.new 0 v (omega arith) (omega arith);
      second = t.new 1 (v + 1) (omega arith) refl;
      counted = t.new 2 (v + 2) (omega arith) refl;
      others = rw len (λ q above below. taken-past c d v (4 + bin_words n) q t above below);
    }

-- A fun's record at words that were taken.
pub fun-made : (c d : ℕ → ℕ → Bool) (mem : List ℕ) (v name arity : ℕ) → name < ATOMS → arity ≤ 255 → v + 4 ≤ length mem → Lie mem v (record_word FUN_RECORD 4 ∷ (name * 256 + arity) ∷ 0 ∷ 0 ∷ [])
    → Taken record_roles c d v 4 → IsFunRecord d mem v name arity
fun-made c d mem v name arity named few inside lie t = record {
  named = named;
  arity_range = few;
  within = inside;
  header = lie.each 0 v (omega arith) (omega arith);
  owner = lie.each 1 (v + 1) (omega arith) refl;
  zero_word = lie.each 3 (v + 3) (omega arith) refl;
  first = t.new 0 v (omega arith) (omega arith);
  second = t.new 1 (v + 1) (omega arith) refl;
  counted = t.new 2 (v + 2) (omega arith) refl;
  fourth = taken-past c d v 4 (v + 3) t (omega arith) (omega arith);
}

-- A binary record whose words from the fifth on were written, and have other bytes now.
pub bytes-written : (c : ℕ → ℕ → Bool) (old new : List ℕ) (v serial : ℕ) (bytes other : List ℕ) → IsBinRecord c old v serial bytes → length other ≡ length bytes
    → length new ≡ length old → ((q : ℕ) → q < v + 4 → get_or new q 0 ≡ get_or old q 0) → BytesLie new (v + 4) other → IsBinRecord c new v serial other
bytes-written c old new v serial bytes other o same_len longer same lie =
    record {
      within = rw (same_len, longer) o.within;
      header = rw same_len (same v (omega arith) ∙ o.header);
      owner = same (v + 1) (omega arith) ∙ o.owner;
      size = rw same_len (same (v + 3) (omega arith) ∙ o.size);
      content = lie;
      first = o.first;
      second = o.second;
      counted = o.counted;
      others = rw same_len o.others;
    }

-- A byte of the written word, and of any other.
byte-at : (old : List ℕ) (p from i j a b : ℕ) (bytes : List ℕ) → p < length old → b < 256 → i < length bytes → p ≡ from + i / 8 → a ≡ from + j / 8
    → byte_of (get_or old a 0) (j % 8) ≡ get_or bytes j 0
    → byte_of (get_or (set old p (with_byte (get_or old p 0) (i % 8) b)) a 0) (j % 8) ≡ get_or (set bytes i b) j 0
byte-at old p from i j a b bytes inside small below is place before =
    let w : ℕ = with_byte (get_or old p 0) (i % 8) b in
    let which : ((j / 8 < i / 8) ⊎ (i / 8 < j / 8)) ⊎ ((j / 8 ≡ i / 8) × (((j % 8 < i % 8) ⊎ (i % 8 < j % 8)) ⊎ (j % 8 ≡ i % 8))) = grind arith in
    elim which [
      | inl far ↦ ap (λ x. byte_of x (j % 8)) (get_or-set_other old p a (with_byte (get_or old p 0) (i % 8) b) 0 (λ e. omega (arith, e, far, is, place)))
          ∙ (before ∙ sym (get_or-set_other bytes i j b 0 (λ e. omega (arith, e, far))))
      | inr (near, inl other) ↦
          let here : a ≡ p = omega (arith, near, is, place) in
          ap (λ x. byte_of x (j % 8)) (get_or-set_at old p a (with_byte (get_or old p 0) (i % 8) b) 0 here inside)
          ∙ (put-elsewhere (get_or old p 0) (i % 8) b (j % 8) small other
          ∙ (ap (λ x. byte_of (get_or old x 0) (j % 8)) (sym here) ∙ (before ∙ sym (get_or-set_other bytes i j b 0 (λ e. omega (arith, e, other))))))
      | inr (near, inr same) ↦
          let here : a ≡ p = omega (arith, near, is, place) in
          let this : j ≡ i = omega (arith, near, same) in
          ap (λ x. byte_of x (j % 8)) (get_or-set_at old p a (with_byte (get_or old p 0) (i % 8) b) 0 here inside)
          ∙ (ap (λ x. byte_of (with_byte (get_or old p 0) (i % 8) b) x) same
          ∙ (put-there (get_or old p 0) (i % 8) b small ∙ sym (get_or-set_at bytes i j b 0 this below)))
    ]

-- One byte is written.
pub byte-written : (c : ℕ → ℕ → Bool) (old : List ℕ) (v serial i b : ℕ) (bytes : List ℕ) → v + (4 + i / 8) < length old → b < 256 → IsBinRecord c old v serial bytes → i < length bytes
    → IsBinRecord c (set old (v + (4 + i / 8)) (with_byte (get_or old (v + (4 + i / 8)) 0) (i % 8) b)) v serial (set bytes i b)
byte-written c old v serial i b bytes inside small o below =
    bytes-written c old (set old (v + (4 + i / 8)) (with_byte (get_or old (v + (4 + i / 8)) 0) (i % 8) b)) v serial bytes (set bytes i b) o (length-set bytes i b)
    (length-set old (v + (4 + i / 8)) (with_byte (get_or old (v + (4 + i / 8)) 0) (i % 8) b))
    (λ q low. get_or-set_other old (v + (4 + i / 8)) q (with_byte (get_or old (v + (4 + i / 8)) 0) (i % 8) b) 0 (λ e. omega (arith, e, low)))
    (record {
      each = λ j a within place.
          byte-at old (v + (4 + i / 8)) (v + 4) i j a b bytes inside small below (omega arith) place (o.content.each j a (omega (arith, within, length-set bytes i b)) place);
    })

replicate-past : (n i b : ℕ) → n ≤ i → slice_index (replicate n b) i ≡ 0
replicate-past zero i b past = refl
replicate-past (suc n) zero b past = absurd (omega (arith, past))
replicate-past (suc n) (suc i) b past = replicate-past n i b (omega (arith, past))

-- All bytes are written.
pub bytes-filled : (c : ℕ → ℕ → Bool) (old new : List ℕ) (v serial b m : ℕ) (bytes : List ℕ) → b < 256 → m ≡ length bytes
    → IsBinRecord c old v serial bytes → WritesRecord (v + 4) (v + 4 + bin_words m) old new
    → ((q : ℕ) → v + 4 ≤ q → q < v + 4 + m / 8 → get_or new q 0 ≡ equal_bytes b)
    → (0 < m % 8 → get_or new (v + 4 + m / 8) 0 ≡ equal_bytes b / 2 ^ (64 - m % 8 * 8))
    → IsBinRecord c new v serial (replicate (length bytes) b)
bytes-filled c old new v serial b m bytes small is o u whole rest =
    let len : length (replicate (length bytes) b) ≡ length bytes = length-replicate (length bytes) b in
    bytes-written c old new v serial bytes (replicate (length bytes) b) o len u.same_len (λ q low. u.others q (inl low))
    (record {
      each = λ i a below place.
          let inside : i < bin_words (length bytes) * 8 = omega (arith, below, len) in
          let which : (i / 8 < m / 8) ⊎ ((i / 8 ≡ m / 8) × (0 < m % 8)) = grind (arith, inside, is) in
          elim which [
            | inl low ↦ ap (λ x. byte_of x (i % 8)) (whole a (omega (arith, place)) (omega (arith, place, low)))
                ∙ (equal-byte b (i % 8) small (omega arith) ∙ sym (get_or-replicate (length bytes) i b 0 (omega (arith, low, is))))
            | inr (last, some) ↦
                let here : a ≡ v + 4 + m / 8 = omega (arith, place, last) in
                let split : (i % 8 < m % 8) ⊎ (m % 8 ≤ i % 8) = grind arith in
                ap (λ x. byte_of (get_or new x 0) (i % 8)) here ∙ (ap (λ x. byte_of x (i % 8)) (rest some)
                ∙ elim split [
                  | inl low ↦ rest-byte b (m % 8) (i % 8) small (omega arith) low ∙ sym (get_or-replicate (length bytes) i b 0 (omega (arith, low, last, is)))
                  | inr past ↦ rest-past b (m % 8) (i % 8) small (omega arith) past ∙ sym (replicate-past (length bytes) i b (omega (arith, past, last, is)))
                ])
          ];
    })
