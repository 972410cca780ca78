-- The numbers that sum up the bytes of replies, and how a line begun goes on.
use Rattle.std.specs.Prelude.{ℕ, ◌+◌, ◌*◌, ◌%◌, ◌^◌, ◌==◌, ◌&&◌, ◌||◌, nat_lt, if◌then◌else◌, Bool, true, false, Option, Some, None, List, [], ◌∷◌, length, slice_index}
use Rattle.std.specs.List.{list_any, count_by}
use Rattle.line_io.specs.Lines.{is_end, pieces}
use Rattle.line_io.specs.declared.sum_sink.Summary.{Summary}
use Rattle.line_io.specs.declared.sum_sink.TheConstants.{ERROR_WORD}

-- the line begins with the word
abbrev pub begins_with : (word line : List ℕ) → Bool
begins_with [] line = true
begins_with (w ∷ word) [] = false
begins_with (w ∷ word) (b ∷ line) = (b == w) && begins_with word line

-- one more, where there is a number
abbrev pub one_more : Option ℕ → Option ℕ
one_more None = None
one_more (Some n) = Some (n + 1)

-- the length of the line, where it is a front of the word and not all of it
abbrev pub front_len : (word line : List ℕ) → Option ℕ
front_len [] line = None
front_len (w ∷ word) [] = Some 0
front_len (w ∷ word) (b ∷ line) = if b == w then one_more (front_len word line) else None

-- the bytes after the last line end
abbrev pub line_begun : List ℕ → List ℕ
line_begun [] = []
line_begun (b ∷ bytes) = if is_end b || list_any is_end bytes then line_begun bytes else b ∷ bytes

-- how much of `error ` the line begun has, where it has nothing else and not all of it
abbrev pub error_begun : List ℕ → Option ℕ
error_begun bytes = front_len ERROR_WORD (line_begun bytes)

-- how many lines begin with `error `, the line begun included
abbrev pub error_lines : List ℕ → ℕ
error_lines bytes = count_by (begins_with ERROR_WORD) (pieces bytes)

-- what the number h becomes by some bytes: at each byte 31 h and the byte, modulo 2^32
abbrev pub sum_from : ℕ → List ℕ → ℕ
sum_from h [] = h
sum_from h (b ∷ bytes) = sum_from ((31 * h + b) % 2 ^ 32) bytes

-- the numbers of some bytes, with the sum from 7 on
abbrev pub summary_of : List ℕ → Summary
summary_of bytes = record {
  lines = count_by is_end bytes % 2 ^ 64;
  errors = error_lines bytes % 2 ^ 64;
  bytes = length bytes % 2 ^ 64;
  sum = sum_from 7 bytes;
}

-- the next byte makes a front of the word the whole word
abbrev pub completes : (word : List ℕ) → Option ℕ → ℕ → Bool
completes word None b = false
completes word (Some n) b = (n + 1 == length word) && (b == slice_index word n)

-- how much of the word a line has after one byte more
abbrev pub further : (word : List ℕ) → Option ℕ → ℕ → Option ℕ
further word None b = None
further word (Some n) b = if nat_lt (n + 1) (length word) && (b == slice_index word n) then Some (n + 1) else None
