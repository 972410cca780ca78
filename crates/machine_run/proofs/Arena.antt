-- The bounds of an arena.
use Rattle.std.proofs.Common.{◌≡◌, ◌≤◌, ◌%◌, ◌==◌, ◌&&◌, ℕ, Bool, true, false, refl, arith, nat_le, leb-true}
use Rattle.std.proofs.lemmas.Bool.Decides.{nat_tests}
use Rattle.command_line.specs.Values.{is_arena}

-- an arena has an even number of words between these
pub arena-bounds : (words : ℕ) → is_arena words ≡ true → (4096 ≤ words) × (words ≤ 16777216) × (words % 2 ≡ 0)
arena-bounds words e = at (words % 2 == 0) refl (nat_le 4096 words) refl (nat_le words 16777216) refl e
  where
    at : (even : Bool) → (words % 2 == 0) ≡ even → (least : Bool) → nat_le 4096 words ≡ least → (most : Bool) → nat_le words 16777216 ≡ most
        → (even && (least && most)) ≡ true → (4096 ≤ words) × (words ≤ 16777216) × (words % 2 ≡ 0)
    at true is-even true is-least true is-most e = (leb-true _ _ is-least, leb-true _ _ is-most, grind (arith, nat_tests, is-even))
    at true is-even true is-least false is-most e = absurd (cc)
    at true is-even false is-least most is-most e = absurd (cc)
    at false is-even least is-least most is-most e = absurd (cc)
