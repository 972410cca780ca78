-- What the value of an option asks for.
use Rattle.std.specs.Prelude.{ℕ, ◌%◌, ◌^◌, ◌==◌, ◌&&◌, Bool, true, if◌then◌else◌, nat_le, nat_lt, Option, Some, None, option_map, option_and_then, List, length, codes}
use Rattle.std.specs.Str.{all_ascii_digits, bytes_eq}
use Rattle.std.specs.Str.Parse.{digits_value}
use Rattle.command_line.specs.declared.values.TheConstants.{SMALLEST_ARENA, LARGEST_ARENA, USUAL_ARENA}

-- the text is decimal digits, at least one, leading zeros allowed, and its number is below 2^64
abbrev pub is_number : List ℕ → Bool
is_number text = all_ascii_digits text && (nat_lt 0 (length text) && nat_lt (digits_value 10 text) (2 ^ 64))

-- the number that a text writes
unfoldable pub option_number : List ℕ → Option ℕ
option_number text = if is_number text then Some (digits_value 10 text) else None

-- an arena has an even number of words, from 4,096 to 16,777,216
abbrev pub is_arena : ℕ → Bool
is_arena words = words % 2 == 0 && (nat_le SMALLEST_ARENA words && nat_le words LARGEST_ARENA)

-- the number, where it is an arena's
abbrev pub arena_of : ℕ → Option ℕ
arena_of words = if is_arena words then Some words else None

-- the words of the arena by the value of `--arena`, where it has one
abbrev pub arena_asked : Option (List ℕ) → Option ℕ
arena_asked None = Some USUAL_ARENA
arena_asked (Some text) = option_and_then arena_of (option_number text)

-- the value of `--space`, where it has one, is `one`
abbrev pub space_asked : Option (List ℕ) → Bool
space_asked None = true
space_asked (Some text) = bytes_eq text (codes "one")

-- the number to make a script from by the value of `--gen`, where it has one
abbrev pub number_asked : Option (List ℕ) → Option (Option ℕ)
number_asked None = Some None
number_asked (Some text) = option_map Some (option_number text)
