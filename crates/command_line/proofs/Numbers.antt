-- A text of digits and the number that std reads of it.
use Rattle.std.proofs.Common.{◌≡◌, ◌∙◌, ◌<◌, ◌^◌, ℕ, Bool, true, false, refl, sym, ap, arith, List, [], ◌∷◌, length, nat_lt, lt-ltb, ltb-true, Some, None, Result, Ok, Err, cond, ◌&&◌}
use Rattle.std.specs.Result.{OkIff, result_ok}
use Rattle.std.specs.Str.{all_ascii_digits}
use Rattle.std.specs.Str.Parse.{IsNumeral, ParsesUnsigned, digits_value, without_leading_plus}
use Rattle.std.proofs.lemmas.Str.Parse.{tells_all_ascii_digits, numerals_by_value, without_leading_plus_none}
use Rattle.command_line.specs.Values.{option_number}

-- digits have no plus before them
no-plus : (t : List ℕ) → all_ascii_digits t ≡ true → without_leading_plus t ≡ t
no-plus [] e = refl
no-plus (c ∷ cs) e =
    let k = tells_all_ascii_digits.parts c cs e in
    without_leading_plus_none (c ∷ cs) (λ plus. absurd (omega (arith, k.0.0, plus)))

-- and are a numeral, where there is one
numeral : (t : List ℕ) → all_ascii_digits t ≡ true → 0 < length t → IsNumeral 10 t
numeral t e some = (some, (numerals_by_value (λ ds. all_ascii_digits ds ≡ true) tells_all_ascii_digits).to t e)

-- a text with another byte than digits is no number
pub no-number : (t : List ℕ) → all_ascii_digits t ≡ false → None ≡ option_number t
unfolding option_number
no-number t e = rw e refl

-- what std reads of a numeral is its value, where that is below 2^64
reads : {E : Type 0} (t : List ℕ) (r : Result ℕ E) (some low : Bool) → nat_lt 0 (length t) ≡ some
    → nat_lt (digits_value 10 t) (2 ^ 64) ≡ low → all_ascii_digits t ≡ true
    → OkIff r (IsNumeral 10 t × (digits_value 10 t < 2 ^ 64)) (digits_value 10 t)
    → result_ok r ≡ cond (some && low) (Some (digits_value 10 t)) None
reads t (Ok v) true true is-some is-low e h = ap Some h.1
reads t (Ok v) false low is-some is-low e h =
    let bad : true ≡ false = sym (lt-ltb 0 (length t) h.0.0.0) ∙ is-some in
    cc
reads t (Ok v) true false is-some is-low e h =
    let bad : true ≡ false = sym (lt-ltb (digits_value 10 t) (2 ^ 64) h.0.1) ∙ is-low in
    cc
reads t (Err x) false low is-some is-low e h = refl
reads t (Err x) true false is-some is-low e h = refl
reads t (Err x) true true is-some is-low e h =
    absurd (h (numeral t e (ltb-true 0 (length t) is-some), ltb-true (digits_value 10 t) (2 ^ 64) is-low))

-- of digits alone, what std reads is the number
pub read-number : {E : Type 0} (t : List ℕ) (r : Result ℕ E) → all_ascii_digits t ≡ true → ParsesUnsigned 64 10 t r
    → result_ok r ≡ option_number t
unfolding option_number
read-number {E} t r e h =
    let parsed : OkIff r (IsNumeral 10 t × (digits_value 10 t < 2 ^ 64)) (digits_value 10 t) = rw (no-plus t e) at h in
    rw e (reads t r (nat_lt 0 (length t)) (nat_lt (digits_value 10 t) (2 ^ 64)) refl refl e parsed)
