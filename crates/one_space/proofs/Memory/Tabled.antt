-- The records that holders side by side name: how many, which, and how many words they take.
use Rattle.std.proofs.Common.{◌≡◌, ℕ, zero, suc, ◌+◌, ◌*◌, ◌<◌, ◌≤◌, ◌⊎◌, Bool, true, false, if◌then◌else◌, nat_lt, List, [], ◌∷◌, ◌++◌, length, get_or, refl, ◌∙◌, ap, arith, inl, inr}
use Rattle.std.proofs.lemmas.List.{length-append}
use Rattle.plain_term.specs.declared.item.Item.{Item}
use Rattle.plain_term.specs.declared.item.Item.TheVariants.{Int, Atom, Pid, Nil, Cons, Tuple, Map, Bin, Byte, Held}
use Rattle.plain_term.specs.Measures.{bin_words}
use Rattle.term_words.specs.Counted.{In, total}
use Rattle.term_words.proofs.Totals.Members.{both-total, in-both, in-left, in-right}
use Rattle.item_build.specs.Reading.{AreLed, bins_of, bytes_after, bytes_in, far_words, far_words_of, long_bytes}
use Rattle.item_build.proofs.Meaning.Bytes.{bytes-len}
use Rattle.one_space.specs.Entered.{records_from}

-- The place of the record that holder i names.
abbrev pub record_at : List ℕ → (first i : ℕ) → ℕ
record_at mem first i = get_or mem (first + 6 * i + 3) 0

pub entered-len : (mem : List ℕ) (first n : ℕ) → length (records_from mem first n) ≡ n
entered-len mem first zero = refl
entered-len mem first (suc n) = omega (arith, length-append (records_from mem first n) (record_at mem first n ∷ []), entered-len mem first n)

-- Each is one of them, and no other is.
pub entered-in : (mem : List ℕ) (first n i : ℕ) → i < n → In (record_at mem first i) (records_from mem first n)
entered-in mem first zero i less = absurd (omega (arith, less))
entered-in mem first (suc n) i less =
    let which : (i ≡ n) ⊎ (i < n) = grind (arith, less) in
    elim which [
      | inl e ↦ in-right (record_at mem first i) (records_from mem first n) (record_at mem first n ∷ []) (inl (ap (record_at mem first) e))
      | inr below ↦ in-left (record_at mem first i) (records_from mem first n) (record_at mem first n ∷ []) (entered-in mem first n i below)
    ]

pub entered-at : (mem : List ℕ) (first n v : ℕ) → In v (records_from mem first n) → (i : ℕ) × ((i < n) × (v ≡ record_at mem first i))
entered-at mem first zero v inside = absurd inside
entered-at mem first (suc n) v inside = elim (in-both v (records_from mem first n) (record_at mem first n ∷ []) inside) [
  | inl before ↦ let (i, (less, e)) = entered-at mem first n v before in (i, (omega (arith, less), e))
  | inr last ↦ elim last [ inl e ↦ (n, (omega arith, e)) | inr none ↦ absurd none ]
]

-- The words of the records of these byte lists.
abbrev pub bin_sizes : List (List ℕ) → ℕ
bin_sizes [] = 0
bin_sizes (b ∷ bs) = 4 + bin_words (length b) + bin_sizes bs

sum_to : List (List ℕ) → ℕ → ℕ
sum_to bs zero = 0
sum_to bs (suc i) = sum_to bs i + (4 + bin_words (length (get_or bs i [])))

sum-open : (b : List ℕ) (bs : List (List ℕ)) (k : ℕ) → sum_to (b ∷ bs) (suc k) ≡ 4 + bin_words (length b) + sum_to bs k
unfolding sum_to
sum-open b bs zero = omega arith
sum-open b bs (suc k) = omega (arith, sum-open b bs k)

sum-all : (bs : List (List ℕ)) → sum_to bs (length bs) ≡ bin_sizes bs
unfolding sum_to
sum-all [] = refl
sum-all (b ∷ bs) = omega (arith, sum-open b bs (length bs), sum-all bs)

sums : (mem : List ℕ) (first : ℕ) (size : ℕ → ℕ) (bs : List (List ℕ)) (n : ℕ) → ((i : ℕ) → i < n → size (record_at mem first i) ≡ 4 + bin_words (length (get_or bs i [])))
    → total size (records_from mem first n) ≡ sum_to bs n
unfolding sum_to
sums mem first size bs zero each = refl
sums mem first size bs (suc n) each =
    omega (
      arith,
      both-total size (records_from mem first n) (record_at mem first n ∷ []),
      sums mem first size bs n (λ i less. each i (omega (arith, less))),
      each n (omega arith),
    )

pub records-size : (mem : List ℕ) (first : ℕ) (size : ℕ → ℕ) (bs : List (List ℕ)) (n : ℕ) → n ≡ length bs → ((i : ℕ) → i < n → size (record_at mem first i) ≡ 4 + bin_words (length (get_or bs i [])))
    → total size (records_from mem first n) ≡ bin_sizes bs
records-size mem first size bs n count each = sums mem first size bs n each ∙ ap (sum_to bs) count ∙ sum-all bs

-- The long binaries of items: how many, and their records' words.

sizes-append : (xs ys : List (List ℕ)) → bin_sizes (xs ++ ys) ≡ bin_sizes xs + bin_sizes ys
sizes-append [] ys = omega arith
sizes-append (x ∷ xs) ys = omega (arith, sizes-append xs ys)

own-size : (x : Item) (xs : List Item) → bytes_after x ≤ length xs → bin_sizes (long_bytes x xs) ≡ far_words x
own-size (Bin n) xs led = by (nat_lt 64 n)
  where
    by : (b : Bool) → bin_sizes (if b then bytes_in n xs ∷ [] else []) ≡ (if b then 4 + bin_words n else 0)
    by true = omega (arith, ap bin_words (bytes-len n xs led))
    by false = refl
own-size (Int i) xs led = refl
own-size (Atom k) xs led = refl
own-size (Pid n) xs led = refl
own-size Nil xs led = refl
own-size Cons xs led = refl
own-size (Tuple n) xs led = refl
own-size (Map n) xs led = refl
own-size (Byte b) xs led = refl
own-size (Held r) xs led = refl

pub bins-size : (code : List Item) → AreLed code → bin_sizes (bins_of code) ≡ far_words_of code
bins-size [] led = refl
bins-size (x ∷ xs) led = omega (arith, sizes-append (long_bytes x xs) (bins_of xs), own-size x xs led.0, bins-size xs led.1)
