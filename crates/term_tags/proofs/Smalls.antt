-- Small integers and their words.
use Rattle.std.proofs.Common.{◌≡◌, ◌^◌, ◌<◌, ℤ, pos, negsuc, arith}
use Rattle.std.proofs.lemmas.Int.{ints}
use Rattle.std.proofs.lemmas.Bool.Decides.{nat_tests}
use Rattle.term_tags.specs.Words.{IsSmall, small_bits, small_of_bits}

pub small_bits-below : (i : ℤ) → IsSmall i → small_bits i < 2 ^ 60
small_bits-below (pos n) h = omega (arith, ints)
small_bits-below (negsuc n) h = omega (arith, ints)

pub small_of_bits-small_bits : (i : ℤ) → IsSmall i → small_of_bits (small_bits i) ≡ i
small_of_bits-small_bits (pos n) h = grind (arith, ints, nat_tests)
small_of_bits-small_bits (negsuc n) h = grind (arith, ints, nat_tests)
