-- The words of big integers.
use Rattle.std.proofs.Common.{◌≡◌, ◌+◌, ◌^◌, ◌<◌, ◌≤◌, true, false, refl, arith, ℤ, pos, negsuc, nat_lt}
use Rattle.std.proofs.lemmas.Bool.Decides.{nat_tests}
use Rattle.plain_term.specs.Measures.{int_flat, is_small, magnitude}

pub flat-one : (i : ℤ) → is_small i ≡ false → magnitude i < 2 ^ 64 → int_flat i ≡ 2
flat-one (pos n) big h =
    let one : nat_lt n (2 ^ 64) ≡ true = grind (arith, nat_tests) in
    rw (big, one) refl
flat-one (negsuc n) big h =
    let one : nat_lt (n + 1) (2 ^ 64) ≡ true = grind (arith, nat_tests) in
    rw (big, one) refl

pub flat-two : (i : ℤ) → 2 ^ 64 ≤ magnitude i → int_flat i ≡ 3
flat-two (pos n) h =
    let big : nat_lt n (2 ^ 59) ≡ false = grind (arith, nat_tests) in
    let two : nat_lt n (2 ^ 64) ≡ false = grind (arith, nat_tests) in
    rw (big, two) refl
flat-two (negsuc n) h =
    let big : nat_lt n (2 ^ 59) ≡ false = grind (arith, nat_tests) in
    let two : nat_lt (n + 1) (2 ^ 64) ≡ false = grind (arith, nat_tests) in
    rw (big, two) refl
