-- The limits of items and numbers in figures: a constant that is cited by its name is pinned here.
use Rattle.std.specs.Prelude.{◌≡◌, ◌+◌, ◌^◌, refl}
use Rattle.script_parse.specs.declared.buffer.TheConstants.{MOST_ITEMS}
use Rattle.script_parse.specs.declared.numbers.TheConstants.{GREATEST_BYTE, WIDEST}

-- A line has at most 4,096 items.
pub most-items : MOST_ITEMS ≡ 4096
most-items = refl

-- A byte is at most 255, and an integer less than 2^127 from 0.
pub greatest-byte : GREATEST_BYTE ≡ 255
greatest-byte = refl

pub widest-integer : WIDEST + 1 ≡ 2 ^ 127
widest-integer = refl
